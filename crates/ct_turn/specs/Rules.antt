-- The rule of a turn's table, between any two steps. Word 0 is 1 while a seat has the turn, word 1 is the number of
-- events of the journal, and the slot holds the machine.
use Rattle.std.specs.Prelude.{◌≡◌, ℕ, ◌+◌, ◌<◌, List, [], ◌∷◌, length, Some, None, IfSome}
use mathlib.Core.Option.{some, none}
use mathlib.Core.Option as maybe
use lib.ListN.{get_elem?}
use Rattle.atomic_table.specs.Table.{State}
use Rattle.ct_turn.specs.declared.view.Stage.{Stage}
use Rattle.ct_turn.specs.declared.view.Stage.TheVariants.{Idle, Turned, Out}
use Rattle.ct_turn.specs.declared.view.Slot.{Slot}
use Rattle.ct_turn.specs.declared.view.Slot.TheVariants.{Home}
use Rattle.ct_turn.specs.declared.view.Known.{Known}
use Rattle.ct_turn.specs.Seats.{TableId, SeatView, Begins, once_below, covers, NoneTwice, Made}

abbrev pub total : {V : Type 0} → (V → ℕ) → List V → ℕ
total f [] = 0
total f (v ∷ vs) = f v + total f vs

-- where the machine is, and who has the turn
pub data Place (M : Type 0) : Type 0 where
  home : M → Place M
  turned : ℕ → M → Place M
  out : ℕ → Place M

module _ {M : Type 0} where
  abbrev pub word_of : Place M → ℕ
  word_of (home m) = 0
  word_of (turned h m) = 1
  word_of (out h) = 1

  abbrev pub slot_of : (A B : Type 0) → Place M → maybe.Option (Slot M A B)
  slot_of A B (home m) = some (Home m)
  slot_of A B (turned h m) = some (Home m)
  slot_of A B (out h) = none

module _ {M O E : Type 0} (opening : M → O) (journal : M → List E) (o : O) (log : List E) where
  abbrev pub Sits : Place M → Type 0
  Sits (home m) = (opening m ≡ o) × (journal m ≡ log)
  Sits (turned h m) = (opening m ≡ o) × (journal m ≡ log)
  Sits (out h) = Unit {0}

module _ {M E : Type 0} (log : List E) (place : Place M) (id : ℕ) (seen : List E) where
  abbrev pub Stands : Stage → Type 0
  Stands Idle = Unit {0}
  Stands Turned = (m : M) × (place ≡ turned id m)
  Stands Out = (place ≡ out id) × (seen ≡ log)

pub record Fits {M O E A B : Type 0} (o : O) (log : List E) (place : Place M) (id : ℕ) (v : Known O E A B) : Type 0 where
  pub opening : IfSome v.opening (λ x. x ≡ o)
  pub seen : Begins v.seen log
  pub one : Begins v.one log
  pub two : Begins v.two log
  pub told : IfSome v.told (λ x. x ≡ o)
  pub stage : Stands log place id v.seen v.stage

-- the parts, and whose acts wrote what
pub record Shares {O E A B : Type 0} (n : ℕ) (views : List (Known O E A B)) : Type 0 where
  pub parts : total (λ (v : Known O E A B). v.parts) views ≡ 4096
  pub idle : (id : ℕ) (v : Known O E A B) → get_elem? views id ≡ some v → v.parts ≡ 0 → v.own ≡ []
  pub counts : (k : ℕ) → total (λ (v : Known O E A B). covers k v.own) views ≡ once_below k n

pub record Kept {M O E A B : Type 0} (opening : M → O) (journal : M → List E) (o : O) (s : State (Slot M A B) (Known O E A B)) : Type 0 where
  pub place : Place M
  pub log : List E
  pub words : s.words ≡ word_of place ∷ length log ∷ []
  pub homes : s.homes ≡ slot_of A B place ∷ []
  pub machine : Sits opening journal o log place
  pub each : (id : ℕ) (v : Known O E A B) → get_elem? s.views id ≡ some v → Fits o log place id v
  pub shares : Shares (length log) s.views

-- the rule. The opening is under `holds`, and not read from the table's key: so a search can see that a turn may be shared
abbrev pub Ruled : {M O E A B : Type 0} → (M → O) → (M → List E) → State (Slot M A B) (Known O E A B) → Type 0
Ruled {M} {O} {E} {A} {B} opening journal s = (o : O) × Kept opening journal o s

-- a table of this kind
abbrev pub IsSized : TableId → Type 0
IsSized z = (z.words ≡ 2) × (z.slots ≡ 1)

module _ {O E A B : Type 0} where
  abbrev pub opened : O → Known O E A B
  opened o = record { opening = Some o; seen = []; own = []; parts = 4096; stage = Idle; one = []; two = []; told = None }

  abbrev pub seat_view : TableId → Known O E A B → SeatView O E A B
  seat_view z v = record { turn = z; opening = v.opening; seen = v.seen; own = v.own; parts = v.parts }

-- what holds of a seat outside the calls of a turn
pub record Sound {O E A B : Type 0} (steps : O → List E → A → B → List E → Type 0) (v : Known O E A B) : Type 0 where
  pub o : O
  pub opening : v.opening ≡ Some o
  pub made : Made steps o v.seen v.own
  pub once : NoneTwice v.own
  pub stage : v.stage ≡ Idle
  pub one : v.one ≡ []
  pub two : v.two ≡ []
  pub told : v.told ≡ None
  pub some_part : 0 < v.parts
