-- What each step of a turn tells the seat that takes it.
use Rattle.std.specs.Prelude.{◌≡◌, ◌≢◌, ℕ, ◌+◌, ◌-◌, List, [], ◌∷◌, ◌++◌, length, None, IfSome, cond, ltb}
use mathlib.Core.Option.{some}
use Rattle.atomic_table.specs.Table.{Me, Step, rest}
use Rattle.atomic_table.specs.declared.shared.Seat.{Seat}
use Rattle.std.specs.declared.snapshot.Snapshot.{Snapshot}
use Rattle.ct_turn.specs.declared.view.Stage.{Stage}
use Rattle.ct_turn.specs.declared.view.Stage.TheVariants.{Idle, Turned, Out}
use Rattle.ct_turn.specs.declared.view.Slot.{Slot}
use Rattle.ct_turn.specs.declared.view.Slot.TheVariants.{Home, Said}
use Rattle.ct_turn.specs.declared.view.Known.{Known}
use Rattle.ct_turn.specs.Seats.{Begins, item, NoneTwice}

module _ {O E A B : Type 0} where
  abbrev pub at_stage : Stage → Known O E A B → Known O E A B
  at_stage k v = record v { stage = k }

  -- the machine was taken out, and its journal seen
  abbrev pub out_with : List E → Known O E A B → Known O E A B
  out_with log v = record v { stage = Out; seen = log }

  -- the machine's journal was seen, after an act
  abbrev pub added : List E → A → B → Known O E A B → Known O E A B
  added log a b v = record v { seen = log; own = v.own ++ item a b (length v.seen) (length log) ∷ [] }

abbrev pub Sat : (M O E A B : Type 0) → Type 0
Sat M O E A B = Me (Slot M A B) (Known O E A B)

module _ {M O E A B : Type 0} where
  abbrev pub took : Step (Slot M A B) → Sat M O E A B → ℕ → Sat M O E A B → Type 0
  took st m r m' = (r ≡ 0 → m' ≡ (at_stage Turned m.0, m.1)) × (r ≢ 0 → m' ≡ m)

  abbrev pub fetched : (M → O) → (M → List E) → Step (Slot M A B) → Sat M O E A B → ℕ → Sat M O E A B → Type 0
  fetched opening journal st m r m' =
      (mach : M) × (m' ≡ (out_with (journal mach) m.0, (0, Home mach) ∷ m.1))
      × Begins m.0.seen (journal mach) × IfSome m.0.opening (λ o. opening mach ≡ o) × (r ≡ length (journal mach))

  abbrev pub wrote : (M → List E) → Step (Slot M A B) → Sat M O E A B → ℕ → Sat M O E A B → Type 0
  wrote journal st m r m' = (mach : Snapshot M) (act : Snapshot A) (answer : Snapshot B) → st.said ≡ some (Said mach act answer)
      → m' ≡ (added (journal mach.value) act.value answer.value m.0, m.1)

  abbrev pub gave : Step (Slot M A B) → Sat M O E A B → ℕ → Sat M O E A B → Type 0
  gave st m r m' = m' ≡ (at_stage Idle m.0, rest m.1)

module _ {M O E A B : Type 0} where
  abbrev pub IsSame : Seat (Slot M A B) (Known O E A B) → Seat (Slot M A B) (Known O E A B) → Type 0
  IsSame p q = (q.table_id ≡ p.table_id) × (q.id ≡ p.id)

-- the longer of two lists
abbrev pub longer : {E : Type 0} → List E → List E → List E
longer xs ys = cond (ltb (length xs) (length ys)) ys xs

module _ {O E A B : Type 0} where
  -- the view after an act: the journal was log, and the act added more
  abbrev pub acted : List E → List E → A → B → Known O E A B → Known O E A B
  acted log more a b v = record v { seen = log ++ more; own = v.own ++ item a b (length log) (length (log ++ more)) ∷ [] }

  abbrev pub ActsAt : (O → List E → A → B → List E → Type 0) → Known O E A B → A → B → Known O E A B → Type 0
  ActsAt steps v a b w = (log : List E) × (more : List E) × Begins v.seen log × (w ≡ acted log more a b v) × IfSome v.opening (λ o. steps o log a b more)

  -- a seat gives one part to a new one, which has made no act
  abbrev pub part_left : Known O E A B → Known O E A B
  part_left v = record v { parts = v.parts - 1 }

  abbrev pub newcomer : ℕ → Known O E A B → Known O E A B
  newcomer n v = record v { own = []; parts = n; stage = Idle; one = []; two = []; told = None }

  abbrev pub spent : Known O E A B
  spent = record { opening = None; seen = []; own = []; parts = 0; stage = Idle; one = []; two = []; told = None }

  abbrev pub both : Known O E A B → Known O E A B → Known O E A B
  both v w = record v { seen = longer v.seen w.seen; own = v.own ++ w.own; parts = v.parts + w.parts; one = v.seen; two = w.seen; told = w.opening }

  abbrev pub settled : Known O E A B → Known O E A B
  settled v = record v { one = []; two = []; told = None }

  -- what a look at the length tells: all lists are beginnings of one journal, of one opening
  abbrev pub Learnt : Known O E A B → Type 0
  Learnt v = (o : O) × (log : List E) × IfSome v.opening (λ x. x ≡ o) × IfSome v.told (λ x. x ≡ o) × Begins v.seen log × Begins v.one log × Begins v.two log × NoneTwice v.own

  abbrev pub learned : {M : Type 0} → Step (Slot M A B) → Sat M O E A B → ℕ → Sat M O E A B → Type 0
  learned st m r m' = (m' ≡ (settled m.0, m.1)) × Learnt m.0

  -- what a join leaves: the kept seat has the longer list, the items and the parts of both
  abbrev pub Joined : Known O E A B → Known O E A B → Known O E A B → Type 0
  Joined v w x = (x ≡ settled (both v w)) × Learnt (both v w)
