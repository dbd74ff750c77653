-- The serial disk: what the entries of a journal make of the opening disk, one command at a time, each executed whole.
use Rattle.std.specs.Prelude.{ℕ, zero, suc, List, [], ◌∷◌, ◌++◌, length, Bool, if◌then◌else◌, Option, Some}
use Rattle.ct_tmf.specs.declared.function.Outcome.{Outcome}
use Rattle.ct_tmf.specs.declared.function.Outcome.TheVariants.{Rejected}
use Rattle.ct_plan.specs.declared.operation.BlockOp.{BlockOp}
use Rattle.ct_plan.specs.Plans.{is_put}
use Rattle.ct_plan.specs.Cells.{after_all}
use Rattle.ct_book.specs.declared.work.Command.{Command}
use Rattle.ct_book.specs.declared.work.Work.TheVariants as work
use Rattle.ct_book.specs.declared.event.Event.{Event}
use Rattle.ct_book.specs.declared.event.Event.TheVariants as event
use Rattle.ct_book.specs.declared.event.Logged.{Logged}
use Rattle.ct_book.specs.Journals.{KeptWork, numbered, works_in}
use Rattle.ct_book.specs.Histories.{set_by, cut_by}
use Rattle.ct_exec.specs.Controls.{Disk, opening_disk}
use Rattle.ct_exec.specs.Closing.{closing_control}
use Rattle.ct_exec.specs.Executions.{execute, plan_in}
use Rattle.ct_machine.specs.declared.act.Opening.{Opening}

-- the first so many puts of a plan
abbrev pub first_puts : ℕ → List BlockOp → List BlockOp
first_puts zero operations = []
first_puts (suc count) [] = []
first_puts (suc count) (operation ∷ operations) =
    if is_put operation then operation ∷ first_puts count operations else first_puts (suc count) operations

-- a command that was cut when it had put so many blocks leaves these
abbrev pub cut_disk : ℕ → Command → Disk → Disk
cut_disk puts command disk = record disk {
  blocks = (after_all command.out (first_puts puts (plan_in (length disk.blocks) command)) (record { blocks = disk.blocks; got = [] })).blocks;
}

abbrev pub command_ran : Option KeptWork → Disk → Disk
command_ran (Some (work.Cmd command)) disk = (execute disk command).disk
command_ran _ disk = disk

abbrev pub command_cut : ℕ → Option KeptWork → Disk → Disk
command_cut puts (Some (work.Cmd command)) disk = cut_disk puts command disk
command_cut puts _ disk = disk

abbrev pub function_done : Outcome → List Bool → Option KeptWork → Disk → Disk
function_done Rejected others _ disk = disk
function_done _ others (Some (work.Ask ask)) disk = record disk { control = closing_control ask others disk.control }
function_done _ others _ disk = disk

-- the disk after an event behind a journal: a command that ended is executed whole, one that was cut leaves its first
-- puts, and a function that was answered and not rejected changes the control; all else changes nothing
abbrev pub disk_after : List Logged → Event → Disk → Disk
disk_after before (event.Ended number) disk = command_ran (numbered number (works_in before)) disk
disk_after before (event.Cut number puts why told) disk = command_cut puts (numbered number (works_in before)) disk
disk_after before (event.Closed number outcome) disk =
    let came = numbered number (works_in before) in
    function_done outcome (set_by came (works_in before) (cut_by number before)) came disk
disk_after before (event.Came number node line) disk = disk
disk_after before (event.Enter number) disk = disk
disk_after before (event.Turned number) disk = disk
disk_after before (event.Begun number) disk = disk
disk_after before (event.Granted number) disk = disk
disk_after before (event.Moved number count) disk = disk
disk_after before (event.Asked number) disk = disk
disk_after before (event.Deliver node kind number) disk = disk

abbrev pub serial_behind : List Logged → Disk → List Logged → Disk
serial_behind before disk [] = disk
serial_behind before disk (logged ∷ journal) = serial_behind (before ++ logged ∷ []) (disk_after before logged.event disk) journal

-- the disk after all entries of a journal, in their order
unfoldable pub serial_disk : Opening → List Logged → Disk
serial_disk o journal = serial_behind [] (opening_disk o.lun o.blocks) journal
