-- Maximal runs of equal items.
use Rattle.std.specs.Prelude.{ℕ, ◌+◌, List, [], ◌∷◌, Bool, if◌then◌else◌}

-- an item, and how often it stands in a row
pub record Run (X : Type 0) : Type 0 where
  pub item : X
  pub count : ℕ

abbrev pub with_front : {X : Type 0} → (X → X → Bool) → X → List (Run X) → List (Run X)
with_front same x [] = record { item = x; count = 1 } ∷ []
with_front same x (run ∷ runs) =
    if same run.item x then record { item = x; count = run.count + 1 } ∷ runs else record { item = x; count = 1 } ∷ run ∷ runs

-- the runs of a list, none of which can be longer
abbrev pub runs_of : {X : Type 0} → (X → X → Bool) → List X → List (Run X)
runs_of same [] = []
runs_of same (x ∷ xs) = with_front same x (runs_of same xs)

-- how many items at the front differ from the one behind them
abbrev pub alone : {X : Type 0} → (X → X → Bool) → List X → ℕ
alone same [] = 0
alone same (x ∷ []) = 1
alone same (x ∷ y ∷ xs) = if same y x then 0 else alone same (y ∷ xs) + 1
