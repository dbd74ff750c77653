-- What a line needs of the lines before it.
use Rattle.std.specs.Prelude.{◌≡◌, ◌≤◌, ℕ, take, drop, List, [], ◌∷◌, ◌++◌, ◌==◌, nat_lt, Bool, true, false, ◌&&◌, ◌||◌, not, length, sum_by, count_by, Option, None, Some, Result, Ok, Err}
use Rattle.std.specs.List.{list_any, list_all, All}
use Rattle.std.specs.Option.{option_or, unwrap_or}
use Rattle.ct_word.specs.declared.limit.TheConstants.{MOST_BLOCKS, MOST_DEPTH, MOST_POOL}
use Rattle.ct_word.specs.declared.limit.TheConstants.{MOST_LINES, MOST_COMMANDS, MOST_TASKS}
use Rattle.ct_word.specs.declared.limit.TheConstants.{MOST_DATA_OUT, MOST_DATA_OUT_TOGETHER, MOST_OPERATIONS}
use Rattle.ct_word.specs.Nexuses.{IsNexus, is_same_nexus}
use Rattle.ct_word.specs.declared.names.LunNo.{LunNo}
use Rattle.ct_word.specs.declared.names.Nexus.{Nexus}
use Rattle.ct_cdb.specs.declared.op.Cdb.{Cdb}
use Rattle.ct_cdb.specs.declared.op.CdbFault.{CdbFault}
use Rattle.ct_cdb.specs.Forms.{cdb_of}
use Rattle.ct_cdb.specs.Profiles.{asked_of}
use Rattle.ct_script.specs.declared.script.Line.{Line}
use Rattle.ct_script.specs.declared.script.Sizes.{Sizes}
use Rattle.ct_script.specs.declared.script.Word.{Word}
use Rattle.ct_script.specs.declared.script.Word.TheVariants.{Lun, Port, Map, Cmd, Task, Step, Drain, Sync}

abbrev pub word_declares_lun : LunNo → Word → Bool
word_declares_lun lun (Lun number blocks sizes) = number.0 == lun.0
word_declares_lun lun _ = false

abbrev pub declares_lun : LunNo → Line → Bool
declares_lun lun line = word_declares_lun lun line.word

abbrev pub word_declares_port : ℕ → Word → Bool
word_declares_port port (Port number node) = number == port
word_declares_port port _ = false

abbrev pub declares_port : ℕ → Line → Bool
declares_port port line = word_declares_port port line.word

abbrev pub word_maps : Nexus → ℕ → Word → Bool
word_maps nexus x (Map n number lun) = is_same_nexus n nexus && (number == x)
word_maps nexus x _ = false

abbrev pub maps : Nexus → ℕ → Line → Bool
maps nexus x line = word_maps nexus x line.word

abbrev pub word_is_command : Word → Bool
word_is_command (Cmd n x tag attr cdb out) = true
word_is_command _ = false

abbrev pub is_command : Line → Bool
is_command line = word_is_command line.word

abbrev pub word_is_task : Word → Bool
word_is_task (Task n x function) = true
word_is_task _ = false

abbrev pub is_task : Line → Bool
is_task line = word_is_task line.word

-- a line that does something, and sets nothing up
abbrev pub word_acts : Word → Bool
word_acts (Lun lun blocks sizes) = false
word_acts (Port port node) = false
word_acts (Map n x lun) = false
word_acts (Cmd n x tag attr cdb out) = true
word_acts (Task n x function) = true
word_acts (Step lun number blocks) = true
word_acts (Drain lun) = true
word_acts Sync = true

abbrev pub acts : Line → Bool
acts line = word_acts line.word

-- a name is declared twice, behind a line that acts, or not at all
abbrev pub is_misnamed_by : Bool → List Line → Word → Bool
is_misnamed_by acted earlier (Lun lun blocks sizes) = acted || list_any (declares_lun lun) earlier
is_misnamed_by acted earlier (Port port node) = acted || list_any (declares_port port) earlier
is_misnamed_by acted earlier (Map n x lun) =
    acted || not (list_any (declares_port n.port) earlier) || not (list_any (declares_lun lun) earlier) || list_any (maps n x) earlier
is_misnamed_by acted earlier (Cmd n x tag attr cdb out) = not (list_any (declares_port n.port) earlier) || not (list_any (maps n x) earlier)
is_misnamed_by acted earlier (Task n x function) =
    not (list_any (declares_port n.port) earlier) || not (list_any (maps n x) earlier)
is_misnamed_by acted earlier (Step lun number blocks) = not (list_any (declares_lun lun) earlier)
is_misnamed_by acted earlier (Drain lun) = not (list_any (declares_lun lun) earlier)
is_misnamed_by acted earlier Sync = false

abbrev pub is_misnamed : List Line → Word → Bool
is_misnamed earlier word = is_misnamed_by (list_any acts earlier) earlier word

-- how much DATA a line has, in bytes
abbrev pub word_data_bytes : Word → ℕ
word_data_bytes (Cmd n x tag attr cdb out) = length out
word_data_bytes _ = 0

abbrev pub data_bytes : Line → ℕ
data_bytes line = word_data_bytes line.word

-- DATA of one line that is more than a line may have
abbrev pub is_long : Word → Bool
is_long word = nat_lt MOST_DATA_OUT (word_data_bytes word)

-- the blocks of the unit that the lines declare, if they declare one
abbrev pub word_blocks : Word → Option ℕ
word_blocks (Lun lun blocks sizes) = Some blocks
word_blocks _ = None

abbrev pub declared_blocks : List Line → Option ℕ
declared_blocks [] = None
declared_blocks (line ∷ lines) = option_or (word_blocks line.word) (declared_blocks lines)

-- the block operations that a CDB with its data-out asks for, on a disk of so many blocks
abbrev pub cdb_asked : Result Cdb CdbFault → List ℕ → ℕ → ℕ
cdb_asked (Ok cdb) out blocks = asked_of cdb.op out blocks
cdb_asked (Err fault) out blocks = 0

-- the block operations that a line asks for
abbrev pub word_line_asked : ℕ → Word → ℕ
word_line_asked blocks (Cmd n x tag attr cdb out) = cdb_asked (cdb_of cdb) out blocks
word_line_asked blocks _ = 0

abbrev pub line_asked : ℕ → Line → ℕ
line_asked blocks line = word_line_asked blocks line.word

-- the block operations that lines ask for, on the disk that they declare
abbrev pub disk_blocks : List Line → ℕ
disk_blocks lines = unwrap_or (declared_blocks lines) 0

unfoldable pub asked_by : List Line → ℕ
asked_by lines = sum_by (line_asked (disk_blocks lines)) lines

-- lines pass a limit: on commands, on functions, on DATA of all of them, or on block operations
abbrev pub is_over : List Line → Bool
is_over lines =
    nat_lt MOST_COMMANDS (count_by is_command lines)
    || nat_lt MOST_TASKS (count_by is_task lines)
    || nat_lt MOST_DATA_OUT_TOGETHER (sum_by data_bytes lines)
    || nat_lt MOST_OPERATIONS (asked_by lines)

-- a line behind these passes a limit: on lines, on the DATA of one, or on what all of them add up to
abbrev pub passes_limit : List Line → Line → Bool
passes_limit earlier line = nat_lt MOST_LINES line.no || is_long line.word || is_over (earlier ++ line ∷ [])

-- a task set and a pool hold something, and no more than they may
pub record IsSized (sizes : Sizes) : Type 0 where
  pub some_commands : 1 ≤ sizes.depth
  pub few_commands : sizes.depth ≤ MOST_DEPTH
  pub some_blocks : 1 ≤ sizes.pool
  pub few_blocks : sizes.pool ≤ MOST_POOL

-- numbers are in the ranges of their places: the blocks of a unit and its sizes, the nexus of a command or function, the
-- block operations of a step
abbrev pub IsInRange : Word → Type 0
IsInRange (Lun lun blocks sizes) = (1 ≤ blocks) × (blocks ≤ MOST_BLOCKS) × IsSized sizes
IsInRange (Cmd n x tag attr cdb out) = IsNexus n
IsInRange (Task n x function) = IsNexus n
IsInRange (Step lun number blocks) = 1 ≤ blocks
IsInRange _ = Unit {0}

abbrev pub AreInRange : List Line → Type 0
AreInRange lines = All (λ line. IsInRange line.word) lines

-- the first so many lines set up, and the others act
pub record SetUpFirst (lines : List Line) (settings : ℕ) : Type 0 where
  pub few : settings ≤ length lines
  pub quiet : list_any acts (take settings lines) ≡ false
  pub acting : list_all acts (drop settings lines) ≡ true
