-- A waiting command begins, or is over at once; and steps.
use Rattle.std.proofs.Common.{◌≡◌, ℕ, ◌<◌, ◌≤◌, List, [], ◌∷◌, ◌++◌, Bool, true, false, Option, Some, None, length, map, slice_set, if◌then◌else◌, refl, sym, ap, ◌∙◌, subst, arith, length-append}
use Rattle.std.specs.List.{list_any}
use Rattle.std.proofs.lemmas.List.{get_or-set_same}
use Rattle.std.proofs.lemmas.List.Edits.{length-remove}
use Rattle.ct_word.specs.Nexuses.{no_nexuses}
use Rattle.ct_sense.specs.declared.reply.Reply.{Reply}
use Rattle.ct_plan.specs.declared.operation.BlockOp.{BlockOp}
use Rattle.ct_book.specs.declared.work.Command.{Command}
use Rattle.ct_book.specs.declared.event.Event.TheVariants as event
use Rattle.ct_book.specs.declared.event.Logged.{Logged}
use Rattle.ct_book.specs.Journals.{KeptWork, BookState, numbered}
use Rattle.ct_book.specs.Kept.{IsCommandNo}
use Rattle.ct_exec.specs.declared.refusal.Refusal.{Refusal}
use Rattle.ct_exec.specs.Controls.{ControlState, Disk}
use Rattle.ct_exec.specs.Executions.{Execution, execute, executed, refusal_of, refused_control, plan_in}
use Rattle.ct_exec.specs.Refusals.{refused_reply}
use Rattle.ct_machine.specs.declared.act.Answer.TheVariants as answer
use Rattle.ct_machine.specs.States.{Here, Task, Arrival, State, disk_of, arrival_of}
use Rattle.ct_machine.specs.Acts.Turns.{Turn, followed, says, replies}
use Rattle.ct_machine.specs.Acts.Answers.{ends, moved_answer, line_by}
use Rattle.ct_machine.specs.Acts.Moves.{moving_from}
use Rattle.ct_machine.specs.Acts.Begins.{ending_at_once, clearing_all, beginning}
use Rattle.ct_machine.specs.Acts.Functions.{numbers_of}
use Rattle.ct_lun.specs.declared.slot.Slot.{Slot}
use Rattle.ct_lun.specs.declared.said.Stepped.{Stepped}
use Rattle.ct_lun.specs.declared.said.Stepped.TheVariants as stepped
use Rattle.ct_lun.specs.Desk.{Desk, slot_at, blank, with_control}
use Rattle.ct_lun.specs.States.{at_a, command_in, task_in, state_of}
use Rattle.ct_lun.specs.Agreement.{IsFresh, IsLeft, Agrees, AgreesWith}
use Rattle.ct_lun.specs.Calls.{Leaves, EndsAtOnce, Wrote, Spends, Clears, Does, closed_book, told, replied, said}
use Rattle.ct_lun.specs.Rooms.{room_of}
use Rattle.ct_lun.specs.Acts.{going, beginning_by}
use Rattle.ct_lun.proofs.Lists.{each_drop, each_put}
use Rattle.ct_lun.proofs.Keeps.{slot_agrees}
use Rattle.ct_lun.proofs.Turns.{moving_same, ended_answer, ends_ended}
use Rattle.ct_lun.proofs.Books.{is_command_no}
use Rattle.ct_lun.proofs.Effects.{wrote_then, at_once_wrote}
use Rattle.ct_lun.proofs.Clears.{clears_nobody, uncut_clearing}
use Rattle.ct_lun.proofs.Spent.{SameRoom, left_spends}
use Rattle.ct_lun.proofs.Does.{medium_cuts-append, does_from, does_then}

-- over at once

execution_of : Execution → Task → State → Turn
execution_of execution task s = followed (replies (event.Ended task.no) execution.reply s) (λ ended. clearing_all task.no execution.cleared (numbers_of ended.tasks) ended)

ended_with : ℕ → Reply → State → State
ended_with number reply s = (replies (event.Ended number) reply s).state

ending_journal : (task : Task) (s : State) (disk : Disk) (reply : Reply) (cleared : List Bool) → execute (disk_of s) task.command ≡ record { disk = disk; reply = reply; cleared = cleared }
    → (ending_at_once task s).journal ≡ (replied (event.Ended task.no) reply ∷ []) ++ (clearing_all task.no cleared (numbers_of (ended_with task.no reply s).tasks) (ended_with task.no reply s)).journal
unfolding execution_of ended_with
ending_journal task s disk reply cleared e = ap (λ (execution : Execution). (execution_of execution task s).journal) e

-- behind its event the unit agrees with its book
once_agrees : (d d1 : Desk) (p p1 : BookState) (at : ℕ) (control : ControlState) (reply : Reply) (cleared : List Bool) → AgreesWith d p → at < length d.slots → (slot_at d.slots at).begun ≡ false → 0 < p.spare
    → execute (record { control = d.control; blocks = d.blocks }) (command_in p.works (slot_at d.slots at).no) ≡ record { disk = record { control = control; blocks = d.blocks }; reply = reply; cleared = cleared }
    → Leaves (with_control d control) d1 at → p1 ≡ closed_book p (slot_at d.slots at).no reply (event.Ended (slot_at d.slots at).no) → AgreesWith d1 p1
once_agrees d d1 p p1 at control reply cleared a h waits room e l closed = record {
  base = (at_once_wrote d d1 p p1 at control reply cleared a.base h waits room e l closed).agrees;
  left = rw l.slots (each_drop IsLeft d.slots at a.left);
}

once_does : (d d1 d' : Desk) (p p1 p' : BookState) (at count : ℕ) (control : ControlState) (reply : Reply) (cleared : List Bool) → AgreesWith d p → at < length d.slots → (slot_at d.slots at).begun ≡ false → 0 < p.spare
    → execute (record { control = d.control; blocks = d.blocks }) (command_in p.works (slot_at d.slots at).no) ≡ record { disk = record { control = control; blocks = d.blocks }; reply = reply; cleared = cleared }
    → Leaves (with_control d control) d1 at → p1 ≡ closed_book p (slot_at d.slots at).no reply (event.Ended (slot_at d.slots at).no)
    → Clears d1 d' p1 p' (slot_at d.slots at).no cleared (numbers_of (state_of d1 p1).tasks)
    → (beginning_by d p at count None).turn ≡ ending_at_once (task_in p.works (slot_at d.slots at)) (state_of d p)
    → Does d d' p p' (beginning_by d p at count) (answer.Ended (slot_at d.slots at).no (line_by (arrival_of (slot_at d.slots at).no (state_of d p))))
unfolding ended_with room_of
once_does d d1 d' p p1 p' at count control reply cleared a h waits room e l closed clears turn =
    let slot = slot_at d.slots at in
    let s : State = state_of d p in
    let ended : List Logged = replied (event.Ended slot.no) reply ∷ [] in
    let cuts : State → List Logged = λ (now : State). (clearing_all slot.no cleared (numbers_of now.tasks) now).journal in
    let first : Wrote d d1 p p1 ended = at_once_wrote d d1 p p1 at control reply cleared a.base h waits room e l closed in
    let journal : (beginning_by d p at count None).turn.journal ≡ ended ++ cuts (state_of d1 p1) =
    ap (λ (t : Turn). t.journal) turn ∙ ending_journal (task_in p.works slot) s (record { control = control; blocks = d.blocks }) reply cleared e
    ∙ ap (λ (now : State). ended ++ cuts now) (sym first.state) in
    let same : SameRoom p p1 = rw closed (record { works = refl; commands = refl; functions = refl; pieces = refl }) in
    let spends : Spends d d1 p p1 1 = left_spends (with_control d control) d1 p p1 at h l same in
    does_from d d' p p' (beginning_by d p at count) None (ended ++ cuts (state_of d1 p1)) (answer.Ended slot.no (line_by (arrival_of slot.no s)))
    (wrote_then d d1 d' p p1 p' ended (cuts (state_of d1 p1)) first clears.wrote)
    (omega (arith, spends, clears.spends, length-append ended (cuts (state_of d1 p1))))
    clears.left
    journal
    (ap (moved_answer slot.no s) journal ∙ ended_answer slot.no s (ended ++ cuts (state_of d1 p1)) (ends_ended slot.no reply (cuts (state_of d1 p1))))
    (omega (arith, l.faults, clears.faults))
    (omega (arith, medium_cuts-append ended (cuts (state_of d1 p1)), uncut_clearing slot.no cleared (numbers_of (state_of d1 p1).tasks) (state_of d1 p1)))

-- refused

executed_refused : (disk : Disk) (command : Command) (reply : Reply) → refusal_of disk.control (length disk.blocks) command ≡ Some reply → execute disk command ≡ record { disk = record disk { control = refused_control disk.control command }; reply = reply; cleared = no_nexuses }
unfolding execute
executed_refused disk command reply e = ap (λ (refusal : Option Reply). executed refusal disk command) e

beginning_turn : Desk → BookState → ℕ → ℕ → Option Reply → List BlockOp → Turn
beginning_turn d p at count refusal plan = beginning refusal plan (task_in p.works (slot_at d.slots at)) count None (state_of d p)

pub refused_does : (d d' : Desk) (p p' : BookState) (at count : ℕ) (refusal : Refusal) → AgreesWith d p → at < length d.slots → (slot_at d.slots at).begun ≡ false → 0 < p.spare
    → refusal_of d.control (length d.blocks) (command_in p.works (slot_at d.slots at).no) ≡ Some (refused_reply refusal)
    → Leaves (with_control d (refused_control d.control (command_in p.works (slot_at d.slots at).no))) d' at → p' ≡ closed_book p (slot_at d.slots at).no (refused_reply refusal) (event.Ended (slot_at d.slots at).no)
    → Does d d' p p' (beginning_by d p at count) (answer.Ended (slot_at d.slots at).no (line_by (arrival_of (slot_at d.slots at).no (state_of d p))))
unfolding beginning_turn
refused_does d d' p p' at count refusal a h waits room e l closed =
    let command = command_in p.works (slot_at d.slots at).no in
    let control : ControlState = refused_control d.control command in
    let executed_so = executed_refused (record { control = d.control; blocks = d.blocks }) command (refused_reply refusal) e in
    once_does d d' d' p p' p' at count control (refused_reply refusal) no_nexuses a h waits room executed_so l closed
    (clears_nobody d' p' (slot_at d.slots at).no (numbers_of (state_of d' p').tasks) (once_agrees d d' p p' at control (refused_reply refusal) no_nexuses a h waits room executed_so l closed))
    (ap (λ (r : Option Reply). beginning_turn d p at count r (plan_in (length d.blocks) command)) e)

pub at_once_agrees : (d d1 : Desk) (p p1 : BookState) (at : ℕ) (cleared : List Bool) → AgreesWith d p → at < length d.slots → (slot_at d.slots at).begun ≡ false → 0 < p.spare → EndsAtOnce d d1 p p1 at cleared → AgreesWith d1 p1
at_once_agrees d d1 p p1 at cleared a h waits room once = once_agrees d d1 p p1 at d1.control once.reply cleared a h waits room once.execution once.leaves once.kept

-- it takes one place, one event and no number
pub at_once_room : (d d1 : Desk) (p p1 : BookState) (at : ℕ) (cleared : List Bool) → at < length d.slots → length d.slots ≤ p.spare → EndsAtOnce d d1 p p1 at cleared → length d1.slots ≤ p1.spare
at_once_room d d1 p p1 at cleared h room once = rw (once.kept, once.leaves.slots) (omega (arith, length-remove d.slots at h, room, h))

pub at_once_named : (d d1 : Desk) (p p1 : BookState) (at : ℕ) (cleared : List Bool) → Agrees d p → at < length d.slots → EndsAtOnce d d1 p p1 at cleared → IsCommandNo p1 (slot_at d.slots at).no
at_once_named d d1 p p1 at cleared a h once = rw once.kept (is_command_no d p at a h)

pub at_once_does : (d d1 d' : Desk) (p p1 p' : BookState) (at count : ℕ) (cleared : List Bool) → AgreesWith d p → at < length d.slots → (slot_at d.slots at).begun ≡ false → 0 < p.spare
    → refusal_of d.control (length d.blocks) (command_in p.works (slot_at d.slots at).no) ≡ None → plan_in (length d.blocks) (command_in p.works (slot_at d.slots at).no) ≡ [] → EndsAtOnce d d1 p p1 at cleared
    → Clears d1 d' p1 p' (slot_at d.slots at).no cleared (numbers_of (state_of d1 p1).tasks)
    → Does d d' p p' (beginning_by d p at count) (answer.Ended (slot_at d.slots at).no (line_by (arrival_of (slot_at d.slots at).no (state_of d p))))
unfolding beginning_turn
at_once_does d d1 d' p p1 p' at count cleared a h waits room unrefused unplanned once clears =
    let command = command_in p.works (slot_at d.slots at).no in
    once_does d d1 d' p p1 p' at count d1.control once.reply cleared a h waits room once.execution once.leaves once.kept clears
    (ap (λ (r : Option Reply). beginning_turn d p at count r (plan_in (length d.blocks) command)) unrefused ∙ ap (beginning_turn d p at count None) unplanned)

-- the answer names the work's line

said_same : (number : ℕ) (s s' : State) (step : Stepped) → s.arrivals ≡ s'.arrivals → said number s step ≡ said number s' step
said_same number s s' stepped.Moved e = refl
said_same number s s' stepped.Ended e = ap (λ (arrivals : List Arrival). answer.Ended number (line_by (numbered number arrivals))) e
said_same number s s' (stepped.Blocked by) e = refl
said_same number s s' stepped.Gone e = refl

answer_same : (number : ℕ) (s s' : State) (journal journal' : List Logged) → s.arrivals ≡ s'.arrivals → journal ≡ journal' → moved_answer number s journal ≡ moved_answer number s' journal'
answer_same number s s' journal journal' e j =
    ap (moved_answer number s) j ∙ ap (λ (arrivals : List Arrival). if list_any (λ (logged : Logged). ends number logged.event) journal' then answer.Ended number (line_by (numbered number arrivals)) else answer.Moved number) e

-- begun, and then moved

going_turn : List KeptWork → Slot → State → ℕ → Option ℕ → Turn
going_turn works slot s count fault = moving_from (task_in works slot) count fault slot.task.done slot.task.body.items s

begun_turn : (d d1 : Desk) (p p1 : BookState) (at count : ℕ) (fault : Option ℕ) → Agrees d p → at < length d.slots → (slot_at d.slots at).begun ≡ false → d1.slots ≡ slice_set d.slots at (record (slot_at d.slots at) { begun = true })
    → Wrote d d1 p p1 (told (event.Begun (slot_at d.slots at).no) ∷ []) → p1.works ≡ p.works
    → (going d1 p1 at count fault).turn ≡ moving_from (task_in p.works (slot_at d.slots at)) count fault 0 [] (says (event.Begun (slot_at d.slots at).no) (state_of d p)).state
unfolding going_turn
begun_turn d d1 p p1 at count fault a h waits slots w same_works =
    let slot = slot_at d.slots at in
    let slot1 : Slot = record slot { begun = true } in
    let here : slot_at d1.slots at ≡ slot1 = ap (λ (xs : List Slot). slot_at xs at) slots ∙ get_or-set_same d.slots at slot1 blank h in
    let s1 : State = (says (event.Begun slot.no) (state_of d p)).state in
    let fresh : IsFresh (command_in p.works slot.no).cdb slot = (slot_agrees d p at a h).waits waits in
    ap (λ (works : List KeptWork). going_turn works (slot_at d1.slots at) (state_of d1 p1) count fault) same_works
    ∙ ap (λ (x : Slot). going_turn p.works x (state_of d1 p1) count fault) here
    ∙ ap (λ (s : State). going_turn p.works slot1 s count fault) w.state
    ∙ moving_same (task_in p.works slot) (Here slot.task.done slot.task.body.items) count fault slot.task.done slot.task.body.items s1
    ∙ ap (λ (done : ℕ). moving_from (task_in p.works slot) count fault done slot.task.body.items s1) fresh.none
    ∙ ap (λ (got : List ℕ). moving_from (task_in p.works slot) count fault 0 got s1) fresh.empty

begin_turn : (d : Desk) (p : BookState) (at count : ℕ) (fault : Option ℕ) (plan : List BlockOp) → (0 < length plan) → beginning None plan (task_in p.works (slot_at d.slots at)) count fault (state_of d p)
    ≡ followed (says (event.Begun (slot_at d.slots at).no) (state_of d p)) (moving_from (task_in p.works (slot_at d.slots at)) count fault 0 [])
begin_turn d p at count fault [] some = absurd (omega arith)
begin_turn d p at count fault (operation ∷ plan) some = refl

pub begin_does : (d d1 d' : Desk) (p p1 p' : BookState) (at count : ℕ) (step : Stepped) → AgreesWith d p → at < length d.slots → (slot_at d.slots at).begun ≡ false
    → refusal_of d.control (length d.blocks) (command_in p.works (slot_at d.slots at).no) ≡ None → 0 < length (plan_in (length d.blocks) (command_in p.works (slot_at d.slots at).no))
    → d1.slots ≡ slice_set d.slots at (record (slot_at d.slots at) { begun = true }) → d1.faults ≡ d.faults
    → Wrote d d1 p p1 (told (event.Begun (slot_at d.slots at).no) ∷ []) → p1.works ≡ p.works → Spends d d1 p p1 1 → Does d1 d' p1 p' (going d1 p1 at count) (said (slot_at d.slots at).no (state_of d1 p1) step)
    → Does d d' p p' (beginning_by d p at count) (said (slot_at d.slots at).no (state_of d p) step)
begin_does d d1 d' p p1 p' at count step a h waits unrefused some slots faults w same_works spends x =
    let slot = slot_at d.slots at in
    let task = task_in p.works slot in
    let s = state_of d p in
    let turn = λ (fault : Option ℕ).
    ap (λ (r : Option Reply). beginning r (plan_in (length d.blocks) (command_in p.works slot.no)) task count fault s) unrefused ∙ begin_turn d p at count fault (plan_in (length d.blocks) (command_in p.works slot.no)) some in
    let moves = λ (fault : Option ℕ). begun_turn d d1 p p1 at count fault a.base h waits slots w same_works in
    let number : (slot_at d1.slots at).no ≡ slot.no = ap (λ (xs : List Slot). (slot_at xs at).no) slots ∙ ap (λ (y : Slot). y.no) (get_or-set_same d.slots at (record slot { begun = true }) blank h) in
    let arrivals : (state_of d1 p1).arrivals ≡ s.arrivals = ap (λ (works : List KeptWork). map at_a works) same_works in
    does_then d d1 d' p p1 p' (told (event.Begun slot.no) ∷ []) (going d1 p1 at count) (beginning_by d p at count) (said slot.no (state_of d1 p1) step) (said slot.no s step) w spends x faults refl
    (λ fault. ap (λ (t : Turn). t.journal) (turn fault) ∙ ap (λ (t : Turn). (told (event.Begun slot.no) ∷ []) ++ t.journal) (sym (moves fault)))
    (λ fault told_before.
    ap (λ (t : Turn). moved_answer slot.no s t.journal) (turn fault)
    ∙ ap (λ (t : Turn). moved_answer slot.no s t.journal) (sym (moves fault))
    ∙ answer_same slot.no s (state_of d1 p1) (going d1 p1 at count fault).turn.journal (going d1 p1 at count fault).turn.journal (sym arrivals) refl
    ∙ ap (λ (n : ℕ). moved_answer n (state_of d1 p1) (going d1 p1 at count fault).turn.journal) (sym number)
    ∙ told_before ∙ said_same slot.no (state_of d1 p1) s step arrivals)

-- whether there is an operation

empty_of : {A : Type 0} (xs : List A) → length xs ≡ 0 → xs ≡ []
empty_of [] e = refl
empty_of (x ∷ xs) e = absurd (omega (arith, e))

pub unplanned : (d : Desk) (p : BookState) (at : ℕ) → Agrees d p → at < length d.slots → length (slot_at d.slots at).task.plan.operations ≡ 0 → plan_in (length d.blocks) (command_in p.works (slot_at d.slots at).no) ≡ []
unplanned d p at a h none = sym (slot_agrees d p at a h).operations ∙ empty_of (slot_at d.slots at).task.plan.operations none

pub planned : (d : Desk) (p : BookState) (at : ℕ) → Agrees d p → at < length d.slots → (length (slot_at d.slots at).task.plan.operations ≡ 0 → ⊥) → 0 < length (plan_in (length d.blocks) (command_in p.works (slot_at d.slots at).no))
planned d p at a h some = subst (λ (plan : List BlockOp). 0 < length plan) (slot_agrees d p at a h).operations (omega (arith, some))

pub begun_agrees : (d d1 : Desk) (p p1 : BookState) (at : ℕ) → AgreesWith d p → at < length d.slots → (slot_at d.slots at).begun ≡ false → (length (slot_at d.slots at).task.plan.operations ≡ 0 → ⊥)
    → d1.slots ≡ slice_set d.slots at (record (slot_at d.slots at) { begun = true }) → Agrees d1 p1 → AgreesWith d1 p1
begun_agrees d d1 p p1 at a h waits some slots base =
    let slot = slot_at d.slots at in
    let fresh : IsFresh (command_in p.works slot.no).cdb slot = (slot_agrees d p at a.base h).waits waits in
    let left : slot.task.done < length slot.task.plan.operations = omega (arith, some, fresh.none) in
    record { base = base; left = rw slots (each_put IsLeft d.slots at (record slot { begun = true }) a.left (λ begun. left)) }

pub begun_slot : (d d1 : Desk) (at : ℕ) → at < length d.slots → d1.slots ≡ slice_set d.slots at (record (slot_at d.slots at) { begun = true }) → slot_at d1.slots at ≡ record (slot_at d.slots at) { begun = true }
begun_slot d d1 at h slots = ap (λ (xs : List Slot). slot_at xs at) slots ∙ get_or-set_same d.slots at (record (slot_at d.slots at) { begun = true }) blank h
