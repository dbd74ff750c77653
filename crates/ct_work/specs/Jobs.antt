-- Seats at many turns, and the jobs of a lane.
use Rattle.std.specs.Prelude.{◌≡◌, ℕ, ◌<◌, List, [], ◌∷◌, length, slice_index_or, IfSome, cond, eqb}
use Rattle.ct_turn.specs.Seats.{SeatView, TableId}
use Rattle.ct_work.specs.declared.job.Job.{Job}
use Rattle.ct_work.specs.Grown.{Grown}

module _ {M O A B E : Type 0} where
  -- the acts of the jobs for the turn i, in order
  abbrev pub acts_for : ℕ → List (Job M O A B E) → List A
  acts_for i [] = []
  acts_for i (j ∷ js) = cond (eqb j.turn i) (j.act ∷ acts_for i js) (acts_for i js)

module _ {O A B E : Type 0} where
  -- there is one seat a turn, in the order of the turns
  abbrev pub IsPaired : List TableId → List (SeatView O E A B) → Type 0
  IsPaired turns seats =
      (length turns ≡ length seats)
      × ((i : ℕ) (z : TableId) (d : SeatView O E A B) → i < length seats → (slice_index_or seats i d).turn ≡ slice_index_or turns i z)

  -- the number names a turn, whose opening allows the act
  abbrev pub IsAllowed : (O → A → Type 0) → List (SeatView O E A B) → ℕ → A → Type 0
  IsAllowed allows seats t a = (t < length seats) × ((d : SeatView O E A B) → IfSome (slice_index_or seats t d).opening (λ o. allows o a))

  -- each seat made the acts of the jobs for its turn, and no other
  abbrev pub GrownAll : {M : Type 0} → List (SeatView O E A B) → List (Job M O A B E) → List (SeatView O E A B) → Type 0
  GrownAll old jobs new = (length new ≡ length old) × ((i : ℕ) (d : SeatView O E A B) → i < length old → Grown (slice_index_or old i d) (acts_for i jobs) (slice_index_or new i d))
