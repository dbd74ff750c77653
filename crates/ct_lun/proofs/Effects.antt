-- The state behind each event that a unit writes, and the room that is left.
use Rattle.std.proofs.Common.{◌≡◌, ℕ, zero, suc, ◌-◌, ◌<◌, List, [], ◌∷◌, ◌++◌, Bool, true, false, ◌&&◌, ◌==◌, if◌then◌else◌, Option, Some, None, option_and_then, length, map, slice_get, slice_set, refl, sym, ap, ◌∙◌, arith, append_assoc, length-append}
use Rattle.std.proofs.lemmas.Bool.{false≢true}
use Rattle.std.proofs.lemmas.List.{append-nil}
use Rattle.ct_sense.specs.declared.reply.Reply.{Reply}
use Rattle.ct_matrix.specs.Queues.{TaskSet, with_begun}
use Rattle.ct_book.specs.declared.event.Event.{Event}
use Rattle.ct_book.specs.declared.event.Event.TheVariants as event
use Rattle.ct_book.specs.declared.event.Kind2.TheVariants as kind
use Rattle.ct_book.specs.declared.event.Why.TheVariants.{Medium}
use Rattle.ct_book.specs.declared.event.Logged.{Logged}
use Rattle.ct_book.specs.Journals.{KeptWork, BookState, numbered, with_event, with_reply, reply_in, told_in}
use Rattle.ct_exec.specs.Controls.{ControlState, tells_aborts, is_unrestricted}
use Rattle.ct_exec.specs.Executions.{Execution, execute}
use Rattle.ct_machine.specs.States.{Stage, Waiting, Here, Task, Message, State, disk_of, arrival_of, task_of, without_task, with_task, at_stage, is_remote}
use Rattle.ct_machine.specs.Events.{after, after_events, after_event}
use Rattle.ct_machine.specs.Events.Ends.{ended_at, cut_at, leaves, is_cleared, stops_with}
use Rattle.ct_machine.specs.Events.Sends.{answered, came_remote, stop}
use Rattle.ct_lun.specs.declared.slot.Slot.{Slot}
use Rattle.ct_lun.specs.Apart.{Each}
use Rattle.ct_lun.specs.Desk.{Desk, slot_at, with_control}
use Rattle.ct_lun.specs.States.{command_in, stage_of, task_in, tasks_in, at_a, state_of}
use Rattle.ct_lun.specs.Agreement.{SlotAgrees, IsFresh, Agrees}
use Rattle.ct_lun.specs.Calls.{Leaves, Wrote, IsOver, by_end, by_medium, closed_book, told, replied}
use Rattle.ct_lun.proofs.Lists.{slot_read, get_set}
use Rattle.ct_lun.proofs.Tasks.{without_at, with_at}
use Rattle.ct_lun.proofs.Keeps.{slot_agrees, task_found, agrees_left, agrees_begun, agrees_control}

-- two calls, one after the other
after_append : (s : State) (es fs : List Logged) → after_events s (es ++ fs) ≡ after_events (after_events s es) fs
after_append s [] fs = refl
after_append s (e ∷ es) fs = after_append (after s e) es fs

pub wrote_then : (d d' d2 : Desk) (p p' p2 : BookState) (es fs : List Logged) → Wrote d d' p p' es → Wrote d' d2 p' p2 fs → Wrote d d2 p p2 (es ++ fs)
wrote_then d d' d2 p p' p2 es fs a b = record {
  journal = b.journal ∙ ap (λ (l : List Logged). l ++ fs) a.journal ∙ append_assoc p.journal es fs;
  state = b.state ∙ ap (λ (s : State). after_events s fs) a.state ∙ sym (after_append (state_of d p) es fs);
  agrees = b.agrees;
  spare = omega (arith, a.spare, b.spare, length-append es fs);
}

-- every work came at A, so nothing is sent

came_get : (works : List KeptWork) (place : ℕ) → came_remote (slice_get (map at_a works) place) ≡ false
came_get [] place = refl
came_get (came ∷ works) zero = refl
came_get (came ∷ works) (suc place) = came_get works place

pub came_here : (works : List KeptWork) (number : ℕ) → came_remote (numbered number (map at_a works)) ≡ false
came_here works zero = refl
came_here works (suc before) = came_get works before

pub answered_here : (number : ℕ) (s : State) → came_remote (arrival_of number s) ≡ false → answered kind.Reply number s ≡ s
answered_here number s here = rw here refl

pub stage_begun : (slot : Slot) → slot.begun ≡ true → stage_of slot ≡ Here slot.task.done slot.task.body.items
stage_begun slot begun = rw begun refl

pub stage_waits : (slot : Slot) → slot.begun ≡ false → stage_of slot ≡ Waiting
stage_waits slot waits = rw waits refl

-- the state without a command

pub left_state : (d d' : Desk) (p p' : BookState) (at : ℕ) → Agrees d p → at < length d.slots → Leaves d d' at → p'.works ≡ p.works → p'.commands ≡ p.commands → p'.functions ≡ p.functions → p'.pieces ≡ p.pieces
    → state_of d' p' ≡ record (state_of d p) { tasks = without_task (slot_at d.slots at).no (state_of d p).tasks }
left_state d d' p p' at a h l works commands functions pieces =
    let tasks = without_at p.works d.slots at (slot_at d.slots at) a.numbers (slot_read d.slots at h) in
    rw (l.set, l.pool.size, commands, functions, pieces, works, l.slots, l.control, l.blocks) (ap (λ (ts : List Task). record (state_of d p) { tasks = ts }) (sym tasks))

-- a command that began ends, or the medium fails it

ended_here : (task : Task) (done : ℕ) (got : List ℕ) (s : State) → task.stage ≡ Here done got → came_remote (arrival_of task.no s) ≡ false → ended_at task.stage task s ≡ leaves task.no s
ended_here task done got s stage here = rw stage (answered_here task.no (leaves task.no s) here)

failed_here : (task : Task) (done : ℕ) (got : List ℕ) (s : State) → task.stage ≡ Here done got → came_remote (arrival_of task.no s) ≡ false → cut_at Medium task.stage task s ≡ leaves task.no s
failed_here task done got s stage here = rw stage (answered_here task.no (leaves task.no s) here)

over_state : (d : Desk) (p : BookState) (at : ℕ) (e : Event) → Agrees d p → at < length d.slots → (slot_at d.slots at).begun ≡ true → IsOver (slot_at d.slots at).no e → after_event e None (state_of d p) ≡ leaves (slot_at d.slots at).no (state_of d p)
over_state d p at e a h begun by_end =
    let slot = slot_at d.slots at in
    let found = task_found d p at a h in
    rw found (ended_here (task_in p.works slot) slot.task.done slot.task.body.items (state_of d p) (stage_begun slot begun) (came_here p.works slot.no))
over_state d p at e a h begun (by_medium puts) =
    let slot = slot_at d.slots at in
    let found = task_found d p at a h in
    rw found (failed_here (task_in p.works slot) slot.task.done slot.task.body.items (state_of d p) (stage_begun slot begun) (came_here p.works slot.no))

-- the reply that was kept counts with the event
pub reply_kept : (p : BookState) (number : ℕ) (reply : Reply) → numbered number p.replies ≡ Some None → reply_in (slice_set p.replies (number - 1) (Some reply)) number ≡ Some reply
reply_kept p zero reply unanswered = cc
reply_kept p (suc before) reply unanswered =
    let place : suc before - 1 ≡ before = omega arith in
    ap (λ (k : ℕ). reply_in (slice_set p.replies k (Some reply)) (suc before)) place
    ∙ ap (λ (o : Option (Option Reply)). option_and_then (λ r. r) o) (get_set p.replies before None (Some reply) unanswered)

over_told : (p : BookState) (number : ℕ) (reply : Reply) (e : Event) → numbered number p.replies ≡ Some None → IsOver number e → told_in (with_reply p number reply) e ≡ replied e reply
over_told p number reply e unanswered by_end = ap (λ (o : Option Reply). record { event = event.Ended number; work = None; reply = o }) (reply_kept p number reply unanswered)
over_told p number reply e unanswered (by_medium puts) = ap (λ (o : Option Reply). record { event = event.Cut number puts Medium false; work = None; reply = o }) (reply_kept p number reply unanswered)

pub after_one : (s : State) (e : Event) (reply : Reply) → after_events s (replied e reply ∷ []) ≡ after_event e None s
unfolding after
after_one s e reply = refl

-- a command that began is over
pub over_wrote : (d d' : Desk) (p p' : BookState) (at : ℕ) (reply : Reply) (e : Event) → Agrees d p → at < length d.slots → (slot_at d.slots at).begun ≡ true → IsOver (slot_at d.slots at).no e → 0 < p.spare → Leaves d d' at → p' ≡ closed_book p (slot_at d.slots at).no reply e
    → Wrote d d' p p' (replied e reply ∷ [])
over_wrote d d' p p' at reply e a h begun over room l book =
    let slot = slot_at d.slots at in
    let sa : SlotAgrees (length d.blocks) d.pool p.works p.replies slot = slot_agrees d p at a h in
    rw book
    (record {
      journal = ap (λ (x : Logged). p.journal ++ x ∷ []) (over_told p slot.no reply e sa.reply over);
      state = left_state d d' p (closed_book p slot.no reply e) at a h l refl refl refl refl ∙ sym (over_state d p at e a h begun over) ∙ sym (after_one (state_of d p) e reply);
      agrees = agrees_left d d' p (closed_book p slot.no reply e) at reply a h l refl refl;
      spare = omega arith;
    })

-- every command came at A, so none is stopped at B

abbrev IsAtA : Task → Type 0
IsAtA task = is_remote task.node ≡ false

tasks_at_a : (works : List KeptWork) (slots : List Slot) → Each IsAtA (tasks_in works slots)
tasks_at_a works [] = tt
tasks_at_a works (x ∷ xs) = (refl, tasks_at_a works xs)

without_at_a : (number : ℕ) (tasks : List Task) → Each IsAtA tasks → Each IsAtA (without_task number tasks)
without_at_a number [] each = tt
without_at_a number (task ∷ tasks) each = go (task.no == number) (without_at_a number tasks each.1)
  where
    go : (here : Bool) → Each IsAtA (without_task number tasks) → Each IsAtA (if here then without_task number tasks else task ∷ without_task number tasks)
    go true rest = rest
    go false rest = (each.0, rest)

stops_none : (told : Bool) (by : ℕ) (cleared : List Bool) (tasks : List Task) → Each IsAtA tasks → stops_with told by cleared tasks ≡ []
stops_none told by cleared [] each = refl
stops_none told by cleared (task ∷ tasks) each = go (is_cleared cleared task) (is_remote task.node) each.0 (stops_none told by cleared tasks each.1)
  where
    go : (is_due at_b : Bool) → at_b ≡ false → stops_with told by cleared tasks ≡ [] → (if is_due && at_b then stop task.no by told ∷ stops_with told by cleared tasks else stops_with told by cleared tasks) ≡ []
    go true true e rest = absurd (false≢true (sym e))
    go true false e rest = rest
    go false at_b e rest = rest

-- a waiting command is executed at once

executed_by : Execution → Task → State → State
executed_by execution task s =
    let left = answered kind.Reply task.no (leaves task.no (record s { control = execution.disk.control; blocks = execution.disk.blocks })) in
    record left { to_b = left.to_b ++ stops_with (tells_aborts s.control) task.no execution.cleared left.tasks }

executed_state : (task : Task) (s : State) (control : ControlState) (reply : Reply) (cleared : List Bool) → s.to_b ≡ [] → came_remote (arrival_of task.no s) ≡ false → Each IsAtA s.tasks → execute (disk_of s) task.command ≡ record { disk = record { control = control; blocks = s.blocks }; reply = reply; cleared = cleared }
    → ended_at Waiting task s ≡ leaves task.no (record s { control = control })
unfolding executed_by
executed_state task s control reply cleared none here at_a e =
    ap (λ (execution : Execution). executed_by execution task s) e
    ∙ ap (λ (left : State). record left { to_b = left.to_b ++ stops_with (tells_aborts s.control) task.no cleared left.tasks }) (answered_here task.no (leaves task.no (record s { control = control })) here)
    ∙ ap (λ (stops : List Message). record (leaves task.no (record s { control = control })) { to_b = s.to_b ++ stops }) (stops_none (tells_aborts s.control) task.no cleared (without_task task.no s.tasks) (without_at_a task.no s.tasks at_a))
    ∙ ap (λ (messages : List Message). record (leaves task.no (record s { control = control })) { to_b = messages }) (append-nil s.to_b)

pub at_once_wrote : (d d' : Desk) (p p' : BookState) (at : ℕ) (control : ControlState) (reply : Reply) (cleared : List Bool) → Agrees d p → at < length d.slots → (slot_at d.slots at).begun ≡ false → 0 < p.spare
    → execute (record { control = d.control; blocks = d.blocks }) (command_in p.works (slot_at d.slots at).no) ≡ record { disk = record { control = control; blocks = d.blocks }; reply = reply; cleared = cleared }
    → Leaves (with_control d control) d' at → p' ≡ closed_book p (slot_at d.slots at).no reply (event.Ended (slot_at d.slots at).no)
    → Wrote d d' p p' (replied (event.Ended (slot_at d.slots at).no) reply ∷ [])
at_once_wrote d d' p p' at control reply cleared a h waits room e l book =
    let slot = slot_at d.slots at in
    let task = task_in p.works slot in
    let ended = closed_book p slot.no reply (event.Ended slot.no) in
    let sa : SlotAgrees (length d.blocks) d.pool p.works p.replies slot = slot_agrees d p at a h in
    let found : task_of slot.no (state_of d p).tasks ≡ Some task = task_found d p at a h in
    let changed : Agrees (with_control d control) p = agrees_control d p control a in
    let effect : after_event (event.Ended slot.no) None (state_of d p) ≡ leaves slot.no (record (state_of d p) { control = control }) =
    rw found (ap (λ (stage : Stage). ended_at stage task (state_of d p)) (stage_waits slot waits) ∙ executed_state task (state_of d p) control reply cleared refl (came_here p.works slot.no) (tasks_at_a p.works d.slots) e) in
    rw book
    (record {
      journal = ap (λ (x : Logged). p.journal ++ x ∷ []) (over_told p slot.no reply (event.Ended slot.no) sa.reply by_end);
      state = left_state (with_control d control) d' p ended at changed h l refl refl refl refl ∙ sym effect ∙ sym (after_one (state_of d p) (event.Ended slot.no) reply);
      agrees = agrees_left (with_control d control) d' p ended at reply changed h l refl refl;
      spare = omega arith;
    })

-- the control changes before a command leaves, or behind it
pub leaves_control : (d d' : Desk) (at : ℕ) (control : ControlState) → Leaves d d' at → Leaves (with_control d control) (with_control d' control) at
leaves_control d d' at control l = record {
  set = ap (λ (s : TaskSet). record s { unrestricted = is_unrestricted control }) l.set;
  slots = l.slots;
  pool = l.pool;
  control = refl;
  blocks = l.blocks;
  faults = l.faults;
}

-- a waiting command begins

pub after_told : (s : State) (e : Event) → after_events s (told e ∷ []) ≡ after_event e None s
unfolding after
after_told s e = refl

begun_state : (number : ℕ) (task : Task) (s : State) → task_of number s.tasks ≡ Some task → after_event (event.Begun number) None s ≡ record s { tasks = with_task (at_stage (Here 0 []) task) s.tasks }
begun_state number task s found = rw found refl

pub begun_wrote : (d : Desk) (p : BookState) (at : ℕ) → Agrees d p → at < length d.slots → (slot_at d.slots at).begun ≡ false → 0 < p.spare
    → Wrote d (record d { set = record d.set { commands = with_begun (slot_at d.slots at).no d.set.commands }; slots = slice_set d.slots at (record (slot_at d.slots at) { begun = true }) }) p (with_event p (event.Begun (slot_at d.slots at).no)) (told (event.Begun (slot_at d.slots at).no) ∷ [])
begun_wrote d p at a h waits room =
    let slot = slot_at d.slots at in
    let new : Slot = record slot { begun = true } in
    let sa : SlotAgrees (length d.blocks) d.pool p.works p.replies slot = slot_agrees d p at a h in
    let fresh : IsFresh (command_in p.works slot.no).cdb slot = sa.waits waits in
    let found : task_of slot.no (state_of d p).tasks ≡ Some (task_in p.works slot) = task_found d p at a h in
    let staged : at_stage (Here 0 []) (task_in p.works slot) ≡ task_in p.works new = rw (fresh.none, fresh.empty) refl in
    let tasks : with_task (at_stage (Here 0 []) (task_in p.works slot)) (tasks_in p.works d.slots) ≡ tasks_in p.works (slice_set d.slots at new) =
    ap (λ (t : Task). with_task t (tasks_in p.works d.slots)) staged ∙ with_at p.works d.slots at slot new a.numbers (slot_read d.slots at h) refl in
    record {
      journal = refl;
      state =
          ap (λ (ts : List Task). record (state_of d p) { tasks = ts }) (sym tasks)
          ∙ sym (begun_state slot.no (task_in p.works slot) (state_of d p) found)
          ∙ sym (after_told (state_of d p) (event.Begun slot.no));
      agrees = agrees_begun d p (with_event p (event.Begun slot.no)) at a h waits refl refl;
      spare = omega arith;
    }
