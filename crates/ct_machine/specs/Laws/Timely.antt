-- The cuts right behind a PREEMPT AND ABORT (SPC-4).
use Rattle.std.specs.Prelude.{◌≡◌, ℕ, ◌+◌, ◌-◌, List, [], ◌∷◌, ◌++◌, map, drop, Bool, false, if◌then◌else◌, Option, Some}
use Rattle.std.specs.List.{filter}
use Rattle.ct_word.specs.Nexuses.{contains}
use Rattle.ct_book.specs.declared.work.Command.{Command}
use Rattle.ct_book.specs.declared.work.Work.TheVariants as work
use Rattle.ct_book.specs.declared.event.Event.{Event}
use Rattle.ct_book.specs.declared.event.Event.TheVariants as event
use Rattle.ct_book.specs.declared.event.Why.TheVariants.{By, Medium}
use Rattle.ct_book.specs.declared.event.Logged.{Logged}
use Rattle.ct_book.specs.Journals.{KeptWork}
use Rattle.ct_exec.specs.Controls.{tells_aborts}
use Rattle.ct_exec.specs.Executions.{execute}
use Rattle.ct_machine.specs.declared.act.Opening.{Opening}
use Rattle.ct_machine.specs.Entrances.{Member}
use Rattle.ct_machine.specs.Serial.{serial_disk}
use Rattle.ct_machine.specs.Laws.Standings.{Standings, standings_of}
use Rattle.ct_machine.specs.Laws.Journals.{Each, work_in, IsCommandOf}

-- the cuts that are due: by which command, whether the initiators are told, and of which commands
pub record Due : Type 0 where
  pub by : ℕ
  pub told : Bool
  pub left : List ℕ

abbrev pub is_of : List Bool → Member → Bool
is_of cleared member = contains cleared member.command.nexus

abbrev pub numbers_among : List Member → List ℕ
numbers_among members = map (λ (member : Member). member.no) members

-- behind the end of a command: of the task set as it is then, those whose nexuses it cleared
abbrev pub due_by : Opening → List Logged → ℕ → Option KeptWork → List Member → Due
due_by o before number (Some (work.Cmd command)) members =
    let disk = serial_disk o before in
    record {
      by = number;
      told = tells_aborts disk.control;
      left = numbers_among (filter (is_of (execute disk command).cleared) members);
    }
due_by o before number _ members = record { by = number; told = false; left = [] }

abbrev pub due_after : Standings → Opening → List Logged → Logged → Event → Due → Due
due_after standings o before logged (event.Ended number) due =
    due_by o before number (work_in number before) (standings (before ++ logged ∷ [])).members
due_after standings o before logged (event.Cut number puts why told) due = record due { left = drop 1 due.left }
due_after standings o before logged (event.Came number node line) due = due
due_after standings o before logged (event.Enter number) due = due
due_after standings o before logged (event.Turned number) due = due
due_after standings o before logged (event.Begun number) due = due
due_after standings o before logged (event.Granted number) due = due
due_after standings o before logged (event.Moved number count) due = due
due_after standings o before logged (event.Asked number) due = due
due_after standings o before logged (event.Closed number outcome) due = due
due_after standings o before logged (event.Deliver node kind number) due = due

abbrev pub due_behind : Standings → Opening → List Logged → Due → List Logged → Due
due_behind standings o before due [] = due
due_behind standings o before due (logged ∷ journal) =
    due_behind standings o (before ++ logged ∷ []) (due_after standings o before logged logged.event due) journal

unfoldable pub due_of : Standings → Opening → List Logged → Due
due_of standings o journal = due_behind standings o [] (record { by = 0; told = false; left = [] }) journal

-- a cut by a command, no function
abbrev pub IsCutByCommand : List Logged → Event → Type 0
IsCutByCommand before (event.Came number node line) = ⊥
IsCutByCommand before (event.Enter number) = ⊥
IsCutByCommand before (event.Turned number) = ⊥
IsCutByCommand before (event.Begun number) = ⊥
IsCutByCommand before (event.Granted number) = ⊥
IsCutByCommand before (event.Moved number count) = ⊥
IsCutByCommand before (event.Ended number) = ⊥
IsCutByCommand before (event.Cut number puts (By by) told) = (command : Command) × IsCommandOf before by command
IsCutByCommand before (event.Cut number puts Medium told) = ⊥
IsCutByCommand before (event.Asked number) = ⊥
IsCutByCommand before (event.Closed number outcome) = ⊥
IsCutByCommand before (event.Deliver node kind number) = ⊥

-- what is due comes next, and nothing else is cut by a command
abbrev pub IsTimelyAt : List Logged → Due → List ℕ → Event → Type 0
IsTimelyAt before due [] happened = IsCutByCommand before happened → ⊥
IsTimelyAt before due (number ∷ numbers) happened = happened ≡ event.Cut number 0 (By due.by) due.told

pub record IsTimelyBy (standings : Standings) (o : Opening) (journal : List Logged) : Type 0 where
  pub each : Each (λ before logged. let due = due_of standings o before in IsTimelyAt before due due.left logged.event) journal
  pub done : (due_of standings o journal).left ≡ []

abbrev pub IsTimely : Opening → List Logged → Type 0
IsTimely o journal = IsTimelyBy (standings_of o) o journal
