-- Facts of each item of a list, and numbers that stand once.
use Rattle.std.specs.Prelude.{◌≡◌, ℕ, List, [], ◌∷◌, ◌==◌, false}

abbrev pub Each : {A : Type 0} → (A → Type 0) → List A → Type 0
Each P [] = Unit {0}
Each P (x ∷ xs) = P x × Each P xs

-- none of these numbers is the one
abbrev pub Differs : ℕ → List ℕ → Type 0
Differs number [] = Unit {0}
Differs number (other ∷ others) = ((other == number) ≡ false) × Differs number others

-- each number stands once
abbrev pub IsApart : List ℕ → Type 0
IsApart [] = Unit {0}
IsApart (number ∷ numbers) = Differs number numbers × IsApart numbers
