-- A command begins, or ends when it would begin.
use Rattle.std.specs.Prelude.{ℕ, List, [], ◌∷◌, Bool, true, false, if◌then◌else◌, Option, None, Some}
use Rattle.ct_word.specs.declared.names.Ha.{Ha}
use Rattle.ct_word.specs.declared.names.Ha.TheVariants.{Serialise}
use Rattle.ct_word.specs.declared.names.Node.{Node}
use Rattle.ct_sense.specs.declared.reply.Reply.{Reply}
use Rattle.ct_plan.specs.declared.operation.BlockOp.{BlockOp}
use Rattle.ct_book.specs.declared.event.Event.TheVariants as event
use Rattle.ct_book.specs.declared.event.Why.TheVariants.{By}
use Rattle.ct_exec.specs.Controls.{tells_aborts}
use Rattle.ct_exec.specs.Executions.{execute}
use Rattle.ct_machine.specs.States.{Granted, Task, State, disk_of, task_of, is_remote}
use Rattle.ct_machine.specs.Events.Ends.{is_cleared}
use Rattle.ct_machine.specs.Acts.Turns.{Turn, nothing, says, replies, followed}
use Rattle.ct_machine.specs.Acts.Functions.{numbers_of}
use Rattle.ct_machine.specs.Acts.Moves.{moving_from}

-- the waiting commands of the nexuses that a PREEMPT AND ABORT cleared are cut
abbrev pub clearing : ℕ → List Bool → Option Task → State → Turn
clearing by cleared None s = nothing s
clearing by cleared (Some task) s =
    if is_cleared cleared task then says (event.Cut task.no 0 (By by) (tells_aborts s.control)) s
    else nothing s

abbrev pub clearing_all : ℕ → List Bool → List ℕ → State → Turn
clearing_all by cleared [] s = nothing s
clearing_all by cleared (number ∷ numbers) s = followed (clearing by cleared (task_of number s.tasks) s) (clearing_all by cleared numbers)

-- a command that is refused, or has no block operation, ends at once
abbrev pub ending_at_once : Task → State → Turn
ending_at_once task s =
    let execution = execute (disk_of s) task.command in
    followed (replies (event.Ended task.no) execution.reply s) (λ ended. clearing_all task.no execution.cleared (numbers_of ended.tasks) ended)

-- in the mode `serialise` a command of the other node is granted to it
abbrev pub is_granted : Ha → Node → Bool
is_granted Serialise node = is_remote node
is_granted _ node = false

abbrev pub beginning_at : Bool → Task → ℕ → Option ℕ → State → Turn
beginning_at true task count fault s = says (event.Granted task.no) s
beginning_at false task count fault s = followed (says (event.Begun task.no) s) (moving_from task count fault 0 [])

abbrev pub beginning : Option Reply → List BlockOp → Task → ℕ → Option ℕ → State → Turn
beginning (Some reply) plan task count fault s = ending_at_once task s
beginning None [] task count fault s = ending_at_once task s
beginning None (operation ∷ operations) task count fault s = beginning_at (is_granted s.ha task.node) task count fault s
