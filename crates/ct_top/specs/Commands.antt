-- What the lines of a script bring to the logical unit that they declare, and with what it is opened.
use Rattle.std.specs.Prelude.{ℕ, List, [], ◌∷◌, length, sum_by, count_by, Option, Some, None}
use Rattle.std.specs.List.{filter_map}
use Rattle.std.specs.Option.{unwrap_or}
use Rattle.ct_word.specs.declared.limit.TheConstants.{DEPTH, POOL}
use Rattle.ct_word.specs.declared.names.Ha.TheVariants as ha
use Rattle.ct_word.specs.declared.names.Room.{Room}
use Rattle.ct_book.specs.declared.work.Work.TheVariants as work
use Rattle.ct_book.specs.Journals.{KeptWork}
use Rattle.ct_exec.specs.Executions.{plan_in}
use Rattle.ct_machine.specs.declared.act.Opening.{Opening}
use Rattle.ct_script.specs.declared.script.Line.{Line}
use Rattle.ct_script.specs.declared.script.Sizes.{Sizes}
use Rattle.ct_script.specs.declared.script.Word.{Word}
use Rattle.ct_script.specs.declared.script.Word.TheVariants.{Lun, Port, Map, Cmd, Task, Step, Drain, Sync}
use Rattle.ct_script.specs.Rules.{is_command, is_task}

-- the work that a line sends: a command, whose nexus sees the unit alone, under the number 0, or a function
abbrev pub work_sent : ℕ → Word → Option KeptWork
work_sent line (Cmd n x tag attr cdb out) =
    Some (work.Cmd (record { line = line; nexus = n; visible = 1; tag = tag; attr = attr; cdb = cdb; out = out }))
work_sent line (Task n x function) = Some (work.Ask (record { line = line; nexus = n; function = function }))
work_sent line (Lun lun blocks sizes) = None
work_sent line (Port port node) = None
work_sent line (Map n x lun) = None
work_sent line (Step lun number blocks) = None
work_sent line (Drain lun) = None
work_sent line Sync = None

-- the works of lines, in order
abbrev pub works_sent : List Line → List KeptWork
works_sent lines = filter_map (λ (line : Line). work_sent line.no line.word) lines

-- how many block operations a work plans on a disk of so many blocks
abbrev pub pieces_by : ℕ → Option KeptWork → ℕ
pieces_by blocks (Some (work.Cmd command)) = length (plan_in blocks command)
pieces_by blocks (Some (work.Ask ask)) = 0
pieces_by blocks None = 0

abbrev pub pieces_in : ℕ → Line → ℕ
pieces_in blocks line = pieces_by blocks (work_sent line.no line.word)

-- exactly the room that the works of these lines take
abbrev pub room_of : ℕ → List Line → Room
room_of blocks lines = record {
  commands = count_by is_command lines;
  functions = count_by is_task lines;
  pieces = sum_by (pieces_in blocks) lines;
}

-- how many commands and blocks of a pool the unit has that the lines declare
abbrev pub word_sizes : Word → Option Sizes
word_sizes (Lun lun blocks sizes) = Some sizes
word_sizes _ = None

abbrev pub declared_sizes : List Line → Sizes
declared_sizes [] = record { depth = DEPTH; pool = POOL }
declared_sizes (line ∷ lines) = unwrap_or (word_sizes line.word) (declared_sizes lines)

-- a unit of one node, whose task set and pool are as the lines declare
abbrev pub opening_of : ℕ → List Line → Opening
opening_of blocks lines =
    record {
      ha = ha.None;
      lun = record { 0 = 0 };
      blocks = blocks;
      depth = (declared_sizes lines).depth;
      pool = (declared_sizes lines).pool;
      room = room_of blocks lines;
    }
