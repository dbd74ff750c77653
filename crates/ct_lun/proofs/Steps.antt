-- Steps of commands, by place, by number, and of the next one.
use Rattle.std.proofs.Common.{◌≡◌, ℕ, suc, ◌<◌, List, [], ◌∷◌, Bool, true, false, ◌==◌, inl, inr, Option, Some, None, IsNone, IfSome, length, map, if◌then◌else◌, refl, sym, ap, ◌∙◌, subst, arith}
use Rattle.std.specs.List.{find}
use Rattle.std.proofs.lemmas.Bool.{cases_Bool}
use Rattle.ct_matrix.specs.declared.held.HeldCommand.{HeldCommand}
use Rattle.ct_matrix.specs.Queues.{TaskSet, command_of, blocker_of, next_ready_of, first_begun_of, number_of as number_held}
use Rattle.ct_book.specs.Journals.{KeptWork, BookState}
use Rattle.ct_machine.specs.declared.act.Answer.TheVariants as answer
use Rattle.ct_machine.specs.States.{Stage, Waiting, Here, Task, task_of, task_set_of, held_of, is_moving}
use Rattle.ct_machine.specs.Acts.Answers.{Done, unchanged, first_some}
use Rattle.ct_machine.specs.Acts.Steps.{stepping_at, stepping, beginning_unless}
use Rattle.ct_machine.specs.Acts.Next.{first_moving, next_step, stepping_next}
use Rattle.ct_lun.specs.declared.slot.Slot.{Slot}
use Rattle.ct_lun.specs.Desk.{Desk, slot_at, slot_of, place_of}
use Rattle.ct_lun.specs.States.{stage_of, task_in, tasks_in, state_of}
use Rattle.ct_lun.specs.Agreement.{Agrees, AgreesWith}
use Rattle.ct_lun.specs.Calls.{Does}
use Rattle.ct_lun.specs.Acts.{going, beginning_by, stepping_by, step_of, next_of}
use Rattle.ct_lun.proofs.Lists.{same_number}
use Rattle.ct_lun.proofs.Tasks.{no_task, begun_stage}
use Rattle.ct_lun.proofs.Keeps.{task_found, held_found}
use Rattle.ct_lun.proofs.Effects.{stage_begun, stage_waits}
use Rattle.ct_lun.proofs.Does.{does_nothing}

-- by place

pub step_begun : (d : Desk) (p : BookState) (at count : ℕ) (fault : Option ℕ) → (slot_at d.slots at).begun ≡ true → going d p at count fault ≡ stepping_by d p at count fault
step_begun d p at count fault begun =
    sym (ap (λ (stage : Stage). stepping_at stage (task_in p.works (slot_at d.slots at)) count fault (state_of d p)) (stage_begun (slot_at d.slots at) begun))

by_blocker : (d : Desk) (p : BookState) (at count : ℕ) (fault : Option ℕ) (by : Option ℕ) → (slot_at d.slots at).begun ≡ false → blocker_of (task_set_of (state_of d p)) (held_of (length d.blocks) (task_in p.works (slot_at d.slots at))) ≡ by
    → stepping_by d p at count fault ≡ beginning_unless by (task_in p.works (slot_at d.slots at)) count fault (state_of d p)
by_blocker d p at count fault by waits e =
    ap (λ (stage : Stage). stepping_at stage (task_in p.works (slot_at d.slots at)) count fault (state_of d p)) (stage_waits (slot_at d.slots at) waits)
    ∙ ap (λ (b : Option ℕ). beginning_unless b (task_in p.works (slot_at d.slots at)) count fault (state_of d p)) e

pub blocker_known : (d : Desk) (p : BookState) (at : ℕ) (by : Option ℕ) → Agrees d p → at < length d.slots → IfSome (command_of (slot_at d.slots at).no d.set.commands) (λ command. by ≡ blocker_of d.set command)
    → blocker_of (task_set_of (state_of d p)) (held_of (length d.blocks) (task_in p.works (slot_at d.slots at))) ≡ by
blocker_known d p at by a h found =
    let held : HeldCommand = held_of (length d.blocks) (task_in p.works (slot_at d.slots at)) in
    let known : by ≡ blocker_of d.set held = subst (λ (o : Option HeldCommand). IfSome o (λ command. by ≡ blocker_of d.set command)) (held_found d p at a h) found in
    sym (known ∙ ap (λ (set : TaskSet). blocker_of set held) a.set)

pub step_waits : (d : Desk) (p : BookState) (at count : ℕ) (fault : Option ℕ) → (slot_at d.slots at).begun ≡ false → blocker_of (task_set_of (state_of d p)) (held_of (length d.blocks) (task_in p.works (slot_at d.slots at))) ≡ None
    → beginning_by d p at count fault ≡ stepping_by d p at count fault
step_waits d p at count fault waits e = sym (by_blocker d p at count fault None waits e)

pub blocked_does : (d : Desk) (p : BookState) (at count by : ℕ) → AgreesWith d p → (slot_at d.slots at).begun ≡ false → blocker_of (task_set_of (state_of d p)) (held_of (length d.blocks) (task_in p.works (slot_at d.slots at))) ≡ Some by
    → Does d d p p (stepping_by d p at count) (answer.Blocked by)
blocked_does d p at count by a waits e =
    let same = by_blocker d p at count None (Some by) waits e in
    does_nothing d p (stepping_by d p at count) (answer.Blocked by) a (ap (λ (done : Done). done.turn.journal) same) (ap (λ (done : Done). done.answer) same)

-- by number

place_here : (number : ℕ) (x : Slot) (xs : List Slot) → (x.no == number) ≡ true → place_of number (x ∷ xs) ≡ 0
place_here number x xs here = rw here refl

place_other : (number : ℕ) (x : Slot) (xs : List Slot) → (x.no == number) ≡ false → place_of number (x ∷ xs) ≡ suc (place_of number xs)
place_other number x xs other = rw other (omega arith)

pub place_named : (number : ℕ) (slots : List Slot) → place_of number slots < length slots → (slot_at slots (place_of number slots)).no ≡ number
place_named number [] within = absurd (omega arith)
place_named number (x ∷ xs) within =
    elim (cases_Bool (x.no == number)) [
      | inl here ↦ ap (λ (at : ℕ). (slot_at (x ∷ xs) at).no) (place_here number x xs here) ∙ same_number x.no number here
      | inr other ↦ ap (λ (at : ℕ). (slot_at (x ∷ xs) at).no) (place_other number x xs other) ∙ place_named number xs (omega (arith, within, place_other number x xs other))
    ]

pub place_absent : (number : ℕ) (slots : List Slot) → place_of number slots ≡ length slots → IsNone (slot_of number slots)
place_absent number [] e = refl
place_absent number (x ∷ xs) e =
    elim (cases_Bool (x.no == number)) [
      | inl here ↦ absurd (omega (arith, e, place_here number x xs here))
      | inr other ↦ rw other (place_absent number xs (omega (arith, e, place_other number x xs other)))
    ]

pub step_named : (d : Desk) (p : BookState) (at number count : ℕ) (fault : Option ℕ) → Agrees d p → at < length d.slots → (slot_at d.slots at).no ≡ number → stepping_by d p at count fault ≡ step_of d p number count fault
step_named d p at number count fault a h named =
    sym (ap (λ (n : ℕ). stepping (task_of n (state_of d p).tasks) n count fault (state_of d p)) (sym named)
    ∙ ap (λ (found : Option Task). stepping found (slot_at d.slots at).no count fault (state_of d p)) (task_found d p at a h))

gone_step : (d : Desk) (p : BookState) (number count : ℕ) → IsNone (slot_of number d.slots) → step_of d p number count None ≡ unchanged answer.Gone (state_of d p)
gone_step d p number count none = ap (λ (found : Option Task). stepping found number count None (state_of d p)) (no_task p.works d.slots number none)

pub gone_does : (d : Desk) (p : BookState) (number count : ℕ) → AgreesWith d p → IsNone (slot_of number d.slots) → Does d d p p (step_of d p number count) answer.Gone
gone_does d p number count a none =
    let same = gone_step d p number count none in
    does_nothing d p (step_of d p number count) answer.Gone a (ap (λ (done : Done). done.turn.journal) same) (ap (λ (done : Done). done.answer) same)

-- the next one

moving_stage : (slot : Slot) → is_moving (stage_of slot) ≡ slot.begun
moving_stage slot = go slot.begun
  where
    go : (begun : Bool) → is_moving (if begun then Here slot.task.done slot.task.body.items else Waiting) ≡ begun
    go true = refl
    go false = refl

first_same : (blocks : ℕ) (works : List KeptWork) (slots : List Slot) → number_held (find (λ (command : HeldCommand). command.held.begun) (map (held_of blocks) (tasks_in works slots))) ≡ first_moving (tasks_in works slots)
first_same blocks works [] = refl
first_same blocks works (x ∷ xs) =
    elim (cases_Bool x.begun) [
      | inl begun ↦ rw (begun_stage x ∙ begun, moving_stage x ∙ begun) refl
      | inr waits ↦ rw (begun_stage x ∙ waits, moving_stage x ∙ waits) (first_same blocks works xs)
    ]

pub next_known : (d : Desk) (p : BookState) → Agrees d p → first_some (next_ready_of d.set) (first_begun_of d.set) ≡ next_step (state_of d p)
next_known d p a =
    ap (λ (set : TaskSet). first_some (next_ready_of set) (first_begun_of set)) a.set
    ∙ ap (first_some (next_ready_of (task_set_of (state_of d p)))) (first_same (length d.blocks) p.works d.slots)

pub next_named : (d : Desk) (p : BookState) (number count : ℕ) (fault : Option ℕ) → next_step (state_of d p) ≡ Some number → step_of d p number count fault ≡ next_of d p count fault
next_named d p number count fault e = sym (ap (λ (next : Option ℕ). stepping_next next count fault (state_of d p)) e)

pub idle_does : (d : Desk) (p : BookState) (count : ℕ) → AgreesWith d p → next_step (state_of d p) ≡ None → Does d d p p (next_of d p count) answer.Idle
idle_does d p count a e =
    let same = ap (λ (next : Option ℕ). stepping_next next count None (state_of d p)) e in
    does_nothing d p (next_of d p count) answer.Idle a (ap (λ (done : Done). done.turn.journal) same) (ap (λ (done : Done). done.answer) same)
