-- How a seat grew by acts of its own.
use Rattle.std.specs.Prelude.{◌≡◌, ℕ, ◌≤◌, List, [], ◌∷◌, ◌++◌, map, length}
use Rattle.ct_turn.specs.declared.view.Item.{Item}
use Rattle.ct_turn.specs.Seats.{SeatView, Begins}

module _ {A B : Type 0} where
  abbrev pub act_of : Item A B → A
  act_of x = x.act

  -- the ranges lie behind the place n and before m, in the order of the items
  abbrev pub Rises : ℕ → List (Item A B) → ℕ → Type 0
  Rises n [] m = n ≤ m
  Rises n (x ∷ xs) m = (n ≤ x.from) × (x.from ≤ x.to) × Rises x.to xs m

-- the seat made these acts, in this order, behind all that it had seen, and no other
pub record Grown {O E A B : Type 0} (s : SeatView O E A B) (acts : List A) (t : SeatView O E A B) : Type 0 where
  pub turn : t.turn ≡ s.turn
  pub opening : t.opening ≡ s.opening
  pub parts : t.parts ≡ s.parts
  pub seen : Begins s.seen t.seen
  pub items : List (Item A B)
  pub own : t.own ≡ s.own ++ items
  pub made : map act_of items ≡ acts
  pub rises : Rises (length s.seen) items (length t.seen)
