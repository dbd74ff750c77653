-- What steps write: no arrival.
use Rattle.std.proofs.Common.{◌≡◌, ℕ, zero, suc, ◌+◌, List, [], ◌∷◌, ◌++◌, Bool, true, false, Option, Some, None, length, take, drop, nat_le, slice_get, refl, ap, ◌∙◌, cond}
use Rattle.std.specs.List.{list_any}
use Rattle.std.proofs.lemmas.List.Elements.{filter_map-append}
use Rattle.ct_sense.specs.declared.reply.Reply.{Reply}
use Rattle.ct_plan.specs.declared.operation.BlockOp.{BlockOp}
use Rattle.ct_plan.specs.Cells.{performed}
use Rattle.ct_book.specs.declared.event.Event.TheVariants as event
use Rattle.ct_book.specs.declared.event.Why.TheVariants.{By}
use Rattle.ct_book.specs.declared.event.Logged.{Logged}
use Rattle.ct_book.specs.Journals.{KeptWork, works_in}
use Rattle.ct_exec.specs.Controls.{tells_aborts}
use Rattle.ct_exec.specs.Executions.{execute, refusal_of, plan_in}
use Rattle.ct_machine.specs.declared.act.Answer.TheVariants as answer
use Rattle.ct_machine.specs.States.{Stage, Waiting, Here, Granted, There, Over, Task, State, disk_of, task_of}
use Rattle.ct_machine.specs.Events.Ends.{is_cleared}
use Rattle.ct_plan.specs.Pieces.{tried}
use Rattle.ct_machine.specs.Acts.Turns.{Turn, nothing, says, replies, followed}
use Rattle.ct_machine.specs.Acts.Moves.{moving_on, failing, failing_if, moved_to}
use Rattle.ct_machine.specs.Acts.Moves.{moving_from}
use Rattle.ct_machine.specs.Acts.Begins.{clearing, clearing_all, ending_at_once, is_granted}
use Rattle.ct_machine.specs.Acts.Functions.{numbers_of}
use Rattle.ct_machine.specs.Acts.Begins.{beginning_at, beginning}
use Rattle.ct_machine.specs.Acts.Answers.{Done}
use Rattle.ct_machine.specs.Acts.Steps.{blocked_by, beginning_unless, stepping_at, is_sent}
use Rattle.ct_machine.specs.Acts.Steps.{stepping}
use Rattle.ct_machine.specs.Acts.Next.{stepping_next}

-- no work comes
abbrev pub Quiet : Turn → Type 0
Quiet t = works_in t.journal ≡ []

both : (t : Turn) (next : State → Turn) → Quiet t → Quiet (next t.state) → Quiet (followed t next)
both t next a b =
    filter_map-append (λ (logged : Logged). logged.work) t.journal (next t.state).journal
    ∙ ap (λ (ws : List KeptWork). ws ++ works_in (next t.state).journal) a ∙ b

moves_on : (number count : ℕ) (s : State) → Quiet (moving_on number count s)
moves_on number zero s = refl
moves_on number (suc count) s = refl

fails : (task : Task) (plan : List BlockOp) (done : ℕ) (found : Option BlockOp) (s : State) → Quiet (failing task plan done found s)
fails task plan done None s = refl
fails task plan done (Some operation) s = refl

fails_if : (task : Task) (plan : List BlockOp) (done : ℕ) (operations : List BlockOp) (fault : Option ℕ) (s : State) → Quiet (failing_if task plan done operations fault s)
fails_if task plan done operations None s = refl
fails_if task plan done operations (Some fault) s = fails task plan done (slice_get operations fault) s

moves_to : (difference : Option ℕ) (ended : Bool) (task : Task) (plan : List BlockOp) (done : ℕ) (got : List ℕ) (operations : List BlockOp) (fault : Option ℕ) (s : State) → Quiet (moved_to difference ended task plan done got operations fault s)
moves_to (Some offset) ended task plan done got operations fault s = refl
moves_to None true task plan done got operations fault s = refl
moves_to None false task plan done got operations fault s = fails_if task plan done operations fault s

moves_from : (task : Task) (count : ℕ) (fault : Option ℕ) (done : ℕ) (got : List ℕ) (s : State) → Quiet (moving_from task count fault done got s)
moves_from task count fault done got s =
    let plan = plan_in (length s.blocks) task.command in
    let operations = take count (drop done plan) in
    let progress = performed task.command.out (tried operations fault) (record { blocks = s.blocks; got = got }) in
    let done' = done + progress.made in
    let first : Turn = moving_on task.no progress.made s in
    both first (moved_to progress.difference (nat_le (length plan) done') task plan done' progress.cells.got operations fault)
    (moves_on task.no progress.made s) (moves_to progress.difference (nat_le (length plan) done') task plan done' progress.cells.got operations fault first.state)

clears : (by : ℕ) (cleared : List Bool) (found : Option Task) (s : State) → Quiet (clearing by cleared found s)
clears by cleared None s = refl
clears by cleared (Some task) s = go (is_cleared cleared task)
  where
    go : (t : Bool) → Quiet (cond t (says (event.Cut task.no 0 (By by) (tells_aborts s.control)) s) (nothing s))
    go true = refl
    go false = refl

clears_all : (by : ℕ) (cleared : List Bool) (numbers : List ℕ) (s : State) → Quiet (clearing_all by cleared numbers s)
clears_all by cleared [] s = refl
clears_all by cleared (number ∷ numbers) s =
    let first : Turn = clearing by cleared (task_of number s.tasks) s in
    both first (clearing_all by cleared numbers) (clears by cleared (task_of number s.tasks) s) (clears_all by cleared numbers first.state)

ends_at_once : (task : Task) (s : State) → Quiet (ending_at_once task s)
ends_at_once task s =
    let execution = execute (disk_of s) task.command in
    let first : Turn = replies (event.Ended task.no) execution.reply s in
    both first (λ ended. clearing_all task.no execution.cleared (numbers_of ended.tasks) ended) refl (clears_all task.no execution.cleared (numbers_of first.state.tasks) first.state)

begins_at : (granted : Bool) (task : Task) (count : ℕ) (fault : Option ℕ) (s : State) → Quiet (beginning_at granted task count fault s)
begins_at true task count fault s = refl
begins_at false task count fault s =
    let first : Turn = says (event.Begun task.no) s in
    both first (moving_from task count fault 0 []) refl (moves_from task count fault 0 [] first.state)

begins : (refused : Option Reply) (plan : List BlockOp) (task : Task) (count : ℕ) (fault : Option ℕ) (s : State) → Quiet (beginning refused plan task count fault s)
begins (Some reply) plan task count fault s = ends_at_once task s
begins None [] task count fault s = ends_at_once task s
begins None (operation ∷ operations) task count fault s = begins_at (is_granted s.ha task.node) task count fault s

begins_unless : (blocked : Option ℕ) (task : Task) (count : ℕ) (fault : Option ℕ) (s : State) → Quiet (beginning_unless blocked task count fault s).turn
begins_unless (Some by) task count fault s = refl
begins_unless None task count fault s = begins (refusal_of s.control (length s.blocks) task.command) (plan_in (length s.blocks) task.command) task count fault s

steps_at : (stage : Stage) (task : Task) (count : ℕ) (fault : Option ℕ) (s : State) → Quiet (stepping_at stage task count fault s).turn
steps_at Waiting task count fault s = begins_unless (blocked_by s.functions s task) task count fault s
steps_at (Here done got) task count fault s = moves_from task count fault done got s
steps_at (There done got) task count fault s = moves_from task count fault done got s
steps_at Granted task count fault s = refl
steps_at Over task count fault s = refl

pub steps : (found : Option Task) (number count : ℕ) (fault : Option ℕ) (s : State) → Quiet (stepping found number count fault s).turn
steps None number count fault s = go (list_any (is_sent number) s.to_a)
  where
    go : (t : Bool) → Quiet (cond {A = Done} t (record { turn = nothing s; answer = answer.Away number }) (record { turn = nothing s; answer = answer.Gone })).turn
    go true = refl
    go false = refl
steps (Some task) number count fault s = steps_at task.stage task count fault s

pub steps_next : (next : Option ℕ) (count : ℕ) (fault : Option ℕ) (s : State) → Quiet (stepping_next next count fault s).turn
steps_next None count fault s = refl
steps_next (Some number) count fault s = steps (task_of number s.tasks) number count fault s
