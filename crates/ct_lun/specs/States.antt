-- The machine's state, of which the unit has one half and the book the other. There is one node, A, and no task
-- management function.
use Rattle.std.specs.Prelude.{ℕ, List, [], map, Option, Some, None, if◌then◌else◌}
use Rattle.ct_word.specs.declared.names.Ha.TheVariants as ha
use Rattle.ct_word.specs.declared.names.Node.TheVariants.{A}
use Rattle.ct_cdb.specs.declared.op.Attr2.TheVariants.{Simple}
use Rattle.ct_book.specs.declared.work.Command.{Command}
use Rattle.ct_book.specs.declared.work.Work.TheVariants as work
use Rattle.ct_book.specs.Journals.{KeptWork, BookState, numbered}
use Rattle.ct_machine.specs.States.{Stage, Waiting, Here, Task, Arrival, State}
use Rattle.ct_lun.specs.declared.slot.Slot.{Slot}
use Rattle.ct_lun.specs.Desk.{Desk}

-- what is read under a number that no command has
abbrev pub nobody : Command
nobody = record {
  line = 0;
  nexus = record { port = 0; init = 0 };
  visible = 0;
  tag = record { 0 = 0 };
  attr = Simple;
  cdb = [];
  out = [];
}

abbrev pub command_by : Option KeptWork → Command
command_by (Some (work.Cmd command)) = command
command_by (Some (work.Ask ask)) = nobody
command_by None = nobody

-- the command with a number
abbrev pub command_in : List KeptWork → ℕ → Command
command_in works number = command_by (numbered number works)

abbrev pub stage_of : Slot → Stage
stage_of slot = if slot.begun then Here slot.task.done slot.task.body.items else Waiting

abbrev pub task_in : List KeptWork → Slot → Task
task_in works slot = record { no = slot.no; node = A; command = command_in works slot.no; stage = stage_of slot }

abbrev pub tasks_in : List KeptWork → List Slot → List Task
tasks_in works slots = map (task_in works) slots

abbrev pub at_a : KeptWork → Arrival
at_a came = record { node = A; work = came }

abbrev pub state_of : Desk → BookState → State
state_of desk book = record {
  ha = ha.None;
  depth = desk.set.depth;
  pool = desk.pool.size;
  room = record { commands = book.commands; functions = book.functions; pieces = book.pieces };
  arrivals = map at_a book.works;
  tasks = tasks_in book.works desk.slots;
  functions = [];
  to_a = [];
  to_b = [];
  stopped = [];
  control = desk.control;
  blocks = desk.blocks;
}
