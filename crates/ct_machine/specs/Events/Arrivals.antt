-- A work comes: it takes its room, and goes to A as a message where it came at B. A command enters the task set.
use Rattle.std.specs.Prelude.{ℕ, ◌+◌, ◌-◌, [], ◌∷◌, ◌++◌, length, if◌then◌else◌, Option, None, Some}
use Rattle.ct_word.specs.declared.names.Node.{Node}
use Rattle.ct_tmf.specs.declared.function.Ask.{Ask}
use Rattle.ct_book.specs.declared.work.Command.{Command}
use Rattle.ct_book.specs.declared.work.Work.TheVariants as work
use Rattle.ct_book.specs.declared.event.Kind2.{Kind2}
use Rattle.ct_book.specs.declared.event.Kind2.TheVariants as kind
use Rattle.ct_book.specs.Journals.{KeptWork}
use Rattle.ct_exec.specs.Executions.{plan_in}
use Rattle.ct_machine.specs.States.{Waiting, Task, Arrival, State, is_remote, queued}
use Rattle.ct_machine.specs.Events.Sends.{message, to_a}

abbrev pub with_room : ℕ → KeptWork → State → State
with_room pieces (work.Cmd command) s = record s { room = record s.room { commands = s.room.commands - 1; pieces = s.room.pieces - pieces } }
with_room pieces (work.Ask ask) s = record s { room = record s.room { functions = s.room.functions - 1 } }

abbrev pub pieces_of : KeptWork → State → ℕ
pieces_of (work.Cmd command) s = length (plan_in (length s.blocks) command)
pieces_of (work.Ask ask) s = 0

abbrev pub kind_of : KeptWork → Kind2
kind_of (work.Cmd command) = kind.Ask
kind_of (work.Ask ask) = kind.Function

abbrev pub sent_from : Node → ℕ → KeptWork → State → State
sent_from node number came s = if is_remote node then to_a (message (kind_of came) number) s else s

abbrev pub after_came : ℕ → Node → Option KeptWork → State → State
after_came number node None s = s
after_came number node (Some came) s =
    let arrived = record s { arrivals = s.arrivals ++ record { node = node; work = came } ∷ [] } in
    sent_from node number came (with_room (pieces_of came s) came arrived)

-- a command enters the task set

abbrev pub new_task : ℕ → Node → Command → Task
new_task number node command = record { no = number; node = node; command = command; stage = Waiting }

abbrev pub entered : ℕ → Node → KeptWork → State → State
entered number node (work.Cmd command) s = record s { tasks = queued (new_task number node command) s.tasks }
entered number node (work.Ask ask) s = s

abbrev pub after_enter : ℕ → Option Arrival → State → State
after_enter number None s = s
after_enter number (Some arrival) s = entered number arrival.node arrival.work s
