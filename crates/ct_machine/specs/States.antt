-- The state of one logical unit with its two nodes. Which node a command runs at, and the messages between the
-- nodes, are this project's own; the task set and its functions are those of SAM-5.
use Rattle.std.specs.Prelude.{ℕ, ◌-◌, List, [], ◌∷◌, length, map, Bool, true, false, not, ◌==◌, if◌then◌else◌}
use Rattle.std.specs.Prelude.{Option}
use Rattle.std.specs.List.{find, sum_by}
use Rattle.ct_word.specs.declared.names.Ha.{Ha}
use Rattle.ct_word.specs.declared.names.Node.{Node}
use Rattle.ct_word.specs.declared.names.Node.TheVariants.{A, B}
use Rattle.ct_word.specs.declared.names.Room.{Room}
use Rattle.ct_tmf.specs.declared.function.Ask.{Ask}
use Rattle.ct_matrix.specs.Extents.{footprint_of}
use Rattle.ct_matrix.specs.declared.held.Held.{Held}
use Rattle.ct_matrix.specs.declared.held.HeldCommand.{HeldCommand}
use Rattle.ct_matrix.specs.Queues.{TaskSet, placed_among}
use Rattle.ct_book.specs.declared.work.Command.{Command}
use Rattle.ct_book.specs.declared.event.Kind2.{Kind2}
use Rattle.ct_book.specs.Works.{profile_in}
use Rattle.ct_book.specs.Journals.{KeptWork, numbered}
use Rattle.ct_exec.specs.Controls.{ControlState, Disk, is_unrestricted, opening_control, opening_disk}
use Rattle.ct_exec.specs.Executions.{need_in}
use Rattle.ct_machine.specs.declared.act.Opening.{Opening}

-- where a command of the task set stands: it waits; it began at A, with so many block operations done and these
-- data so far; its grant is on its way to B; it began at B; that it is over there is on its way to A
pub data Stage : Type 0 where
  Waiting : Stage
  Here : (done : ℕ) (got : List ℕ) → Stage
  Granted : Stage
  There : (done : ℕ) (got : List ℕ) → Stage
  Over : Stage

-- a command of the task set (SAM-5, 4.10): its number, and the node at which it came
pub record Task : Type 0 where
  pub no : ℕ
  pub node : Node
  pub command : Command
  pub stage : Stage

-- a task management function that isn't answered yet, the commands that it awaits, and those that it cut
pub record Open : Type 0 where
  pub no : ℕ
  pub ask : Ask
  pub awaits : List ℕ
  pub cut : List ℕ

-- a message; a stop says by which function, and whether the command's initiator is told
pub record Message : Type 0 where
  pub kind : Kind2
  pub no : ℕ
  pub by : ℕ
  pub told : Bool

-- a work, and the node at which it came
pub record Arrival : Type 0 where
  pub node : Node
  pub work : KeptWork

-- the state: how the nodes share the unit, how many commands the task set holds, the blocks of the pool, the room
-- that is left for works; the works by number; the task set in queue order; the open functions, the lowest number
-- first; the messages to each node, the oldest first; the commands for which a stop was sent; control and blocks of the
-- disk
pub record State : Type 0 where
  pub ha : Ha
  pub depth : ℕ
  pub pool : ℕ
  pub room : Room
  pub arrivals : List Arrival
  pub tasks : List Task
  pub functions : List Open
  pub to_a : List Message
  pub to_b : List Message
  pub stopped : List ℕ
  pub control : ControlState
  pub blocks : List (List ℕ)

-- a unit as it is opened
abbrev pub opened : Opening → State
opened o = record {
  ha = o.ha;
  depth = o.depth;
  pool = o.pool;
  room = o.room;
  arrivals = [];
  tasks = [];
  functions = [];
  to_a = [];
  to_b = [];
  stopped = [];
  control = opening_control o.lun;
  blocks = (opening_disk o.lun o.blocks).blocks;
}

abbrev pub disk_of : State → Disk
disk_of s = record { control = s.control; blocks = s.blocks }

-- look-ups by number
abbrev pub arrival_of : ℕ → State → Option Arrival
arrival_of number s = numbered number s.arrivals

abbrev pub task_of : ℕ → List Task → Option Task
task_of number tasks = find (λ (task : Task). task.no == number) tasks

abbrev pub function_of : ℕ → List Open → Option Open
function_of number functions = find (λ (function : Open). function.no == number) functions

-- the task set without a command, and with a command in the place of the one with its number
abbrev pub without_task : ℕ → List Task → List Task
without_task number [] = []
without_task number (task ∷ tasks) = if task.no == number then without_task number tasks else task ∷ without_task number tasks

abbrev pub with_task : Task → List Task → List Task
with_task changed [] = []
with_task changed (task ∷ tasks) = (if task.no == changed.no then changed else task) ∷ with_task changed tasks

abbrev pub at_stage : Stage → Task → Task
at_stage stage task = record task { stage = stage }

abbrev pub is_waiting : Stage → Bool
is_waiting Waiting = true
is_waiting _ = false

-- it waits or began at A
abbrev pub is_here : Stage → Bool
is_here Waiting = true
is_here (Here done got) = true
is_here _ = false

-- it began at A or at B, and can move
abbrev pub is_moving : Stage → Bool
is_moving (Here done got) = true
is_moving (There done got) = true
is_moving _ = false

abbrev pub done_at : Stage → ℕ
done_at (Here done got) = done
done_at (There done got) = done
done_at _ = 0

-- what came at this node came at the other one, not where the task set is
abbrev pub is_remote : Node → Bool
is_remote A = false
is_remote B = true

-- all but a waiting command have begun
abbrev pub has_begun : Stage → Bool
has_begun stage = not (is_waiting stage)

-- a command, begun or not, as the table of conflicts sees it, on a disk of so many blocks
abbrev pub held_by : ℕ → Command → Bool → Held
held_by blocks command begun = record {
  index = (profile_in blocks command).index;
  print = footprint_of (length command.out) blocks (profile_in blocks command);
  attr = command.attr;
  begun = begun;
}

abbrev pub held_of : ℕ → Task → HeldCommand
held_of blocks task = record { no = task.no; held = held_by blocks task.command (has_begun task.stage) }

abbrev pub task_set_of : State → TaskSet
task_set_of s = record {
  commands = map (held_of (length s.blocks)) s.tasks;
  depth = s.depth;
  unrestricted = is_unrestricted s.control;
}

-- the blocks of the pool that are free: those that no command of the task set needs
abbrev pub free_blocks : State → ℕ
free_blocks s = s.pool - sum_by (λ (task : Task). need_in (length s.blocks) task.command) s.tasks

-- a new command's place (SAM-5, clause 8): HEAD OF QUEUE right before the first that waits, any other last
abbrev pub waits : Task → Bool
waits task = is_waiting task.stage

abbrev pub queued : Task → List Task → List Task
queued new tasks = placed_among waits new.command.attr new tasks
