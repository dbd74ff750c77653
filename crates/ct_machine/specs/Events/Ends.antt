-- A command is over: at A it leaves the task set, at B a message says so to A, where it leaves on delivery.
use Rattle.std.specs.Prelude.{ℕ, ◌+◌, ◌-◌, List, [], ◌∷◌, ◌++◌, Bool, ◌&&◌, ◌==◌, if◌then◌else◌, Option, None, Some}
use Rattle.ct_word.specs.Nexuses.{contains}
use Rattle.ct_book.specs.declared.event.Kind2.{Kind2}
use Rattle.ct_book.specs.declared.event.Kind2.TheVariants as kind
use Rattle.ct_book.specs.declared.event.Why.{Why}
use Rattle.ct_book.specs.declared.event.Why.TheVariants.{By, Medium}
use Rattle.ct_exec.specs.Controls.{tells_aborts}
use Rattle.ct_exec.specs.Executions.{execute}
use Rattle.ct_machine.specs.States.{Stage, Waiting, There, Over, Task, Open, Message, State, disk_of, without_task, with_task, at_stage, is_waiting, is_remote}
use Rattle.ct_machine.specs.Events.Sends.{message, stop, to_a, to_b, answered}

abbrev pub leaves : ℕ → State → State
leaves number s = record s { tasks = without_task number s.tasks }

abbrev pub over_at_b : Kind2 → Task → State → State
over_at_b kind task s = to_a (message kind task.no) (record s { tasks = with_task (at_stage Over task) s.tasks })

-- a command that a nexus of a set sent, and that waits
abbrev pub is_cleared : List Bool → Task → Bool
is_cleared cleared task = is_waiting task.stage && contains cleared task.command.nexus

-- the stops for the commands of B that an accepted PREEMPT AND ABORT cuts (SPC-4)
abbrev pub stops_with : Bool → ℕ → List Bool → List Task → List Message
stops_with told by cleared [] = []
stops_with told by cleared (task ∷ tasks) =
    if is_cleared cleared task && is_remote task.node then stop task.no by told ∷ stops_with told by cleared tasks
    else stops_with told by cleared tasks

-- a command that ends when it would begin is executed whole
abbrev pub executed_at_once : Task → State → State
executed_at_once task s =
    let execution = execute (disk_of s) task.command in
    let left = answered kind.Reply task.no (leaves task.no (record s { control = execution.disk.control; blocks = execution.disk.blocks })) in
    record left { to_b = left.to_b ++ stops_with (tells_aborts s.control) task.no execution.cleared left.tasks }

abbrev pub ended_at : Stage → Task → State → State
ended_at Waiting task s = executed_at_once task s
ended_at (There done got) task s = over_at_b kind.Finish task s
ended_at _ task s = answered kind.Reply task.no (leaves task.no s)

abbrev pub after_ended : Option Task → State → State
after_ended None s = s
after_ended (Some task) s = ended_at task.stage task s

-- a command is cut, by a function or another command, or by a fault of the medium

abbrev pub noted : ℕ → ℕ → List Open → List Open
noted by number [] = []
noted by number (function ∷ functions) =
    (if function.no == by then record function { cut = function.cut ++ number ∷ [] } else function) ∷ noted by number functions

abbrev pub cut_at : Why → Stage → Task → State → State
cut_at (By by) (There done got) task s = over_at_b kind.Stopped task (record s { functions = noted by task.no s.functions })
cut_at (By by) _ task s = leaves task.no (record s { functions = noted by task.no s.functions })
cut_at Medium (There done got) task s = over_at_b kind.Finish task s
cut_at Medium _ task s = answered kind.Reply task.no (leaves task.no s)

abbrev pub after_cut : Why → Option Task → State → State
after_cut why None s = s
after_cut why (Some task) s = cut_at why task.stage task s
