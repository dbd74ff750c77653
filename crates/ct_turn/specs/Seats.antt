-- What contracts see of a seat, and what calls do to it.
use Rattle.std.specs.Prelude.{◌≡◌, ℕ, ◌+◌, ◌-◌, ◌≤◌, List, [], ◌∷◌, ◌++◌, length, Option, IfSome, cond, ltb, ◌⊎◌}
pub use Rattle.atomic_table.specs.Seated.{TableId}
use Rattle.ct_turn.specs.declared.view.Item.{Item}

-- what contracts see of a seat: its turn, the opening of the turn's machine, the events that it has seen, the acts that
-- it made, and its parts
pub record SeatView (O E A B : Type 0) : Type 0 where
  pub turn : TableId
  pub opening : Option O
  pub seen : List E
  pub own : List (Item A B)
  pub parts : ℕ

module _ {E : Type 0} where
  abbrev pub Begins : List E → List E → Type 0
  Begins xs ys = (more : List E) × (ys ≡ xs ++ more)

  -- zs is one of two lists, and both are beginnings of it
  abbrev pub IsLonger : List E → List E → List E → Type 0
  IsLonger xs ys zs = Begins xs zs × Begins ys zs × ((zs ≡ xs) ⊎ (zs ≡ ys))

abbrev pub once_below : ℕ → ℕ → ℕ
once_below k n = cond (ltb k n) 1 0

module _ {A B : Type 0} where
  abbrev pub item : A → B → ℕ → ℕ → Item A B
  item a b from to = record { act = a; answer = b; from = from; to = to }

  -- how many of the items' ranges have the place k
  abbrev pub covers : ℕ → List (Item A B) → ℕ
  covers k [] = 0
  covers k (x ∷ xs) = (once_below k x.to - once_below k x.from) + covers k xs

  -- each place below n lies in the range of one item, and no other place in any
  abbrev pub IsWhole : List (Item A B) → ℕ → Type 0
  IsWhole own n = (k : ℕ) → covers k own ≡ once_below k n

  -- no place lies in the ranges of two items
  abbrev pub NoneTwice : List (Item A B) → Type 0
  NoneTwice own = (k : ℕ) → covers k own ≤ 1

module _ {O E A B : Type 0} (steps : O → List E → A → B → List E → Type 0) where
  -- the item's act is a step behind the first events of the list, and added those of its range
  abbrev pub MadeOne : O → List E → Item A B → Type 0
  MadeOne o seen x =
      (before : List E) × (more : List E) × (after : List E) × (seen ≡ (before ++ more) ++ after) × (x.from ≡ length before)
      × (x.to ≡ length (before ++ more)) × steps o before x.act x.answer more

  abbrev pub Made : O → List E → List (Item A B) → Type 0
  Made o seen [] = Unit {0}
  Made o seen (x ∷ xs) = MadeOne o seen x × Made o seen xs

  -- an act of a seat: to what it had seen come events of others and then those of the act, which is its last item
  abbrev pub Acts : SeatView O E A B → A → B → SeatView O E A B → Type 0
  Acts s a b t =
      (between : List E) × (more : List E) × (t.seen ≡ (s.seen ++ between) ++ more)
      × (t.own ≡ s.own ++ item a b (length (s.seen ++ between)) (length t.seen) ∷ [])
      × IfSome s.opening (λ o. steps o (s.seen ++ between) a b more)
