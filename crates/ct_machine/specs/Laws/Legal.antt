-- Replies and effects are those of commands executed singly, in the order of their entries.
use Rattle.std.specs.Prelude.{◌≡◌, ℕ, ◌-◌, List, true, false, Option, None, Some, is_some, slice_get}
use Rattle.ct_tmf.specs.declared.function.Ask.{Ask}
use Rattle.ct_tmf.specs.Reaches.{hits}
use Rattle.ct_sense.specs.declared.reply.Reply.{Reply}
use Rattle.ct_plan.specs.declared.operation.BlockOp.{BlockOp}
use Rattle.ct_book.specs.declared.work.Command.{Command}
use Rattle.ct_book.specs.declared.event.Event.{Event}
use Rattle.ct_book.specs.declared.event.Event.TheVariants as event
use Rattle.ct_book.specs.declared.event.Why.{Why}
use Rattle.ct_book.specs.declared.event.Why.TheVariants.{By, Medium}
use Rattle.ct_book.specs.declared.event.Logged.{Logged}
use Rattle.ct_exec.specs.Controls.{is_unrestricted}
use Rattle.ct_exec.specs.Executions.{execute, refusal_of, plan_in, need_in, reply_failed}
use Rattle.ct_machine.specs.declared.act.Opening.{Opening}
use Rattle.ct_machine.specs.Entrances.{sender_of, entrance_of, refusal_at}
use Rattle.ct_machine.specs.Serial.{serial_disk}
use Rattle.ct_machine.specs.Laws.Standings.{Standings, standings_of}
use Rattle.ct_machine.specs.Laws.Journals.{Each, has, is_begin, made_by, IsCommandOf, IsFunctionOf}

-- QUEUE ALGORITHM MODIFIER said all along that reordering is restricted (SPC-4, Control mode page)
pub record IsRestricted (o : Opening) (journal : List Logged) : Type 0 where
  pub each : Each (λ before logged. is_unrestricted (serial_disk o before).control ≡ false) journal
  pub last : is_unrestricted (serial_disk o journal).control ≡ false

-- the reply is that of the whole execution on the serial disk
abbrev pub RepliesAsExecuted : Opening → List Logged → ℕ → Option Reply → Type 0
RepliesAsExecuted o before number replied =
    (command : Command) × IsCommandOf before number command
    × (replied ≡ Some (execute (serial_disk o before) command).reply)

-- the first cause to refuse a command at its arrival, if there is one
abbrev pub refusal_behind : Standings → Opening → List Logged → Command → Option Reply
refusal_behind standings o before command =
    refusal_at (entrance_of (standings before)) (serial_disk o before).control (sender_of command) (need_in o.blocks command)

-- a command enters where there is no cause to refuse it
abbrev pub IsEntering : Standings → Opening → List Logged → ℕ → Type 0
IsEntering standings o before number =
    (command : Command) × IsCommandOf before number command × (refusal_behind standings o before command ≡ None)

-- a command is refused at its arrival for the first cause that there is
abbrev pub IsTurnedFor : Standings → Opening → List Logged → ℕ → Option Reply → Type 0
IsTurnedFor standings o before number replied =
    (command : Command) × IsCommandOf before number command
    × (replied ≡ refusal_behind standings o before command) × (is_some replied ≡ true)

-- a function cuts what it hits; a medium fault tells of the operation that failed
abbrev pub IsCutFor : Opening → List Logged → ℕ → Why → Option Reply → Type 0
IsCutFor o before number (By by) replied =
    (command : Command) × IsCommandOf before number command
    × ((ask : Ask) → IsFunctionOf before by ask → hits ask command.nexus command.tag ≡ true)
IsCutFor o before number Medium replied =
    (command : Command) × (operation : BlockOp) × IsCommandOf before number command
    × (slice_get (plan_in o.blocks command) (made_by number before) ≡ Some operation)
    × (replied ≡ Some (reply_failed (serial_disk o before).control operation))

abbrev pub IsLegalAt : Standings → Opening → List Logged → Event → Option Reply → Type 0
IsLegalAt standings o before (event.Ended number) replied = RepliesAsExecuted o before number replied
IsLegalAt standings o before (event.Turned number) replied = IsTurnedFor standings o before number replied
IsLegalAt standings o before (event.Cut number puts why told) replied = IsCutFor o before number why replied
IsLegalAt standings o before (event.Came number node line) replied = Unit {0}
IsLegalAt standings o before (event.Enter number) replied = Unit {0}
IsLegalAt standings o before (event.Begun number) replied = Unit {0}
IsLegalAt standings o before (event.Granted number) replied = Unit {0}
IsLegalAt standings o before (event.Moved number count) replied = Unit {0}
IsLegalAt standings o before (event.Asked number) replied = Unit {0}
IsLegalAt standings o before (event.Closed number outcome) replied = Unit {0}
IsLegalAt standings o before (event.Deliver node kind number) replied = Unit {0}

-- a journal is legal, by what the unit stood at behind each beginning of it
abbrev pub IsLegalBy : Standings → Opening → List Logged → Type 0
IsLegalBy standings o journal = Each (λ before logged. IsLegalAt standings o before logged.event logged.reply) journal

abbrev pub IsLegal : Opening → List Logged → Type 0
IsLegal o journal = IsLegalBy (standings_of o) o journal

-- also where reordering is unrestricted: a command enters where no cause refuses it; one that made no block operation has
-- the reply of its whole execution, and one that made some would be refused by no check at its entry
abbrev pub IsSoundAt : Standings → Opening → List Logged → Event → Option Reply → Type 0
IsSoundAt standings o before (event.Ended number) replied =
    (has (is_begin number) before ≡ false → RepliesAsExecuted o before number replied)
    × ((command : Command) → IsCommandOf before number command → has (is_begin number) before ≡ true →
    refusal_of (serial_disk o before).control o.blocks command ≡ None)
IsSoundAt standings o before (event.Enter number) replied = IsEntering standings o before number
IsSoundAt standings o before (event.Turned number) replied = IsTurnedFor standings o before number replied
IsSoundAt standings o before (event.Cut number puts why told) replied = IsCutFor o before number why replied
IsSoundAt standings o before (event.Came number node line) replied = Unit {0}
IsSoundAt standings o before (event.Begun number) replied = Unit {0}
IsSoundAt standings o before (event.Granted number) replied = Unit {0}
IsSoundAt standings o before (event.Moved number count) replied = Unit {0}
IsSoundAt standings o before (event.Asked number) replied = Unit {0}
IsSoundAt standings o before (event.Closed number outcome) replied = Unit {0}
IsSoundAt standings o before (event.Deliver node kind number) replied = Unit {0}

abbrev pub IsSoundBy : Standings → Opening → List Logged → Type 0
IsSoundBy standings o journal = Each (λ before logged. IsSoundAt standings o before logged.event logged.reply) journal

abbrev pub IsSound : Opening → List Logged → Type 0
IsSound o journal = IsSoundBy (standings_of o) o journal
