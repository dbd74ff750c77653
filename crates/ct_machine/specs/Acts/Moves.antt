-- A command that began makes the next block operations of its plan.
use Rattle.std.specs.Prelude.{ℕ, zero, suc, ◌+◌, List, [], length, take, drop, Bool, true, false, nat_le, if◌then◌else◌, Option, None, Some, slice_get}
use Rattle.ct_plan.specs.declared.operation.BlockOp.{BlockOp}
use Rattle.ct_plan.specs.Plans.{puts_among}
use Rattle.ct_plan.specs.Cells.{performed}
use Rattle.ct_plan.specs.Pieces.{tried}
use Rattle.ct_book.specs.declared.event.Event.TheVariants as event
use Rattle.ct_book.specs.declared.event.Why.TheVariants.{Medium}
use Rattle.ct_exec.specs.Executions.{plan_in, reply_moved, reply_failed}
use Rattle.ct_machine.specs.States.{Stage, Here, There, Task, State}
use Rattle.ct_machine.specs.Acts.Turns.{Turn, nothing, says, replies, followed}

abbrev pub moving_on : ℕ → ℕ → State → Turn
moving_on number zero s = nothing s
moving_on number (suc count) s = says (event.Moved number (suc count)) s

-- where the medium fails an operation, the command is cut
abbrev pub failing : Task → List BlockOp → ℕ → Option BlockOp → State → Turn
failing task plan done None s = nothing s
failing task plan done (Some operation) s =
    replies (event.Cut task.no (puts_among (take done plan)) Medium false) (reply_failed s.control operation) s

abbrev pub failing_if : Task → List BlockOp → ℕ → List BlockOp → Option ℕ → State → Turn
failing_if task plan done operations None s = nothing s
failing_if task plan done operations (Some fault) s = failing task plan done (slice_get operations fault) s

-- a command that made these operations ends at a difference and at the end of its plan, and else goes on, if the
-- medium doesn't fail it
abbrev pub moved_to : Option ℕ → Bool → Task → List BlockOp → ℕ → List ℕ → List BlockOp → Option ℕ → State → Turn
moved_to (Some offset) ended task plan done got operations fault s = replies (event.Ended task.no) (reply_moved s.control (Some offset) []) s
moved_to None true task plan done got operations fault s = replies (event.Ended task.no) (reply_moved s.control None got) s
moved_to None false task plan done got operations fault s = failing_if task plan done operations fault s

abbrev pub moving_from : Task → ℕ → Option ℕ → ℕ → List ℕ → State → Turn
moving_from task count fault done got s =
    let plan = plan_in (length s.blocks) task.command in
    let operations = take count (drop done plan) in
    let progress = performed task.command.out (tried operations fault) (record { blocks = s.blocks; got = got }) in
    let done' = done + progress.made in
    followed (moving_on task.no progress.made s) (moved_to progress.difference (nat_le (length plan) done') task plan done' progress.cells.got operations fault)

abbrev pub moving : Stage → Task → ℕ → Option ℕ → State → Turn
moving (Here done got) task count fault s = moving_from task count fault done got s
moving (There done got) task count fault s = moving_from task count fault done got s
moving _ task count fault s = nothing s
