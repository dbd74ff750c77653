-- Whom the cuts of a function tell, and how functions are answered (SAM-5, clause 7).
use Rattle.std.specs.Prelude.{◌≡◌, ℕ, ◌≤◌, ◌<◌, List, [], ◌∷◌, Bool, true, false, not, ◌&&◌, if◌then◌else◌}
use Rattle.std.specs.Prelude.{Option, None, Some, IfSome, fold}
use Rattle.std.specs.List.{list_any}
use Rattle.ct_word.specs.declared.limit.TheConstants.{MOST_FUNCTIONS}
use Rattle.ct_word.specs.Nexuses.{is_same_nexus}
use Rattle.ct_tmf.specs.declared.function.Ask.{Ask}
use Rattle.ct_tmf.specs.declared.function.Outcome.{Outcome}
use Rattle.ct_tmf.specs.declared.function.Outcome.TheVariants.{Complete, Succeeded, Rejected}
use Rattle.ct_tmf.specs.Reaches.{seeks}
use Rattle.ct_book.specs.declared.work.Command.{Command}
use Rattle.ct_book.specs.declared.event.Event.{Event}
use Rattle.ct_book.specs.declared.event.Event.TheVariants as event
use Rattle.ct_book.specs.declared.event.Why.TheVariants.{By, Medium}
use Rattle.ct_book.specs.declared.event.Logged.{Logged}
use Rattle.ct_exec.specs.Controls.{tells_aborts}
use Rattle.ct_machine.specs.declared.act.Opening.{Opening}
use Rattle.ct_machine.specs.Entrances.{Member, Standing}
use Rattle.ct_machine.specs.Serial.{serial_disk}
use Rattle.ct_machine.specs.Laws.Standings.{Standings, standings_of}
use Rattle.ct_machine.specs.Laws.Journals.{Each, has, is_entry, is_asked, AtStart, IsCommandOf, IsFunctionOf}

-- the events of a journal before the first that passes a test
abbrev pub until : (Event → Bool) → List Logged → List Logged
until test [] = []
until test (logged ∷ journal) = if test logged.event then [] else logged ∷ until test journal

-- TAS said when a function was taken up that initiators are told of aborts (SPC-4, Control mode page)
abbrev pub told_aborts_at : Opening → ℕ → List Logged → Bool
told_aborts_at o by before = tells_aborts (serial_disk o (until (is_asked by) before)).control

-- a command that a function cuts is told so exactly where TAS said so when the function was taken up, and another nexus
-- than the command's asked; of a fault of the medium its reply tells
abbrev pub IsToldAt : Opening → List Logged → Event → Type 0
IsToldAt o before (event.Cut number puts (By by) told) =
    (ask : Ask) (command : Command) → IsFunctionOf before by ask → IsCommandOf before number command →
    told ≡ (told_aborts_at o by before && not (is_same_nexus ask.nexus command.nexus))
IsToldAt o before (event.Cut number puts Medium told) = told ≡ false
IsToldAt o before (event.Came number node line) = Unit {0}
IsToldAt o before (event.Enter number) = Unit {0}
IsToldAt o before (event.Turned number) = Unit {0}
IsToldAt o before (event.Begun number) = Unit {0}
IsToldAt o before (event.Granted number) = Unit {0}
IsToldAt o before (event.Moved number count) = Unit {0}
IsToldAt o before (event.Ended number) = Unit {0}
IsToldAt o before (event.Asked number) = Unit {0}
IsToldAt o before (event.Closed number outcome) = Unit {0}
IsToldAt o before (event.Deliver node kind number) = Unit {0}

abbrev pub TellsOfCuts : Opening → List Logged → Type 0
TellsOfCuts o journal = Each (λ before logged. IsToldAt o before logged.event) journal

-- a function that wasn't taken up is rejected, since as many are open as can be; one that was succeeds where it is a
-- query that finds a command of the task set, and else it is complete
abbrev pub IsOutcomeOf : Standing → Bool → Ask → Outcome → Type 0
IsOutcomeOf standing false ask outcome = (outcome ≡ Rejected) × (MOST_FUNCTIONS ≤ standing.functions)
IsOutcomeOf standing true ask outcome =
    outcome ≡ (if list_any (λ (member : Member). seeks ask member.command.nexus member.command.tag) standing.members then Succeeded
    else Complete)

-- a function is taken up where fewer are open than can be, and answered as it must be
abbrev pub IsAnsweredAt : Standings → List Logged → Event → Type 0
IsAnsweredAt standings before (event.Asked number) = (standings before).functions < MOST_FUNCTIONS
IsAnsweredAt standings before (event.Closed number outcome) =
    (ask : Ask) → IsFunctionOf before number ask →
    IsOutcomeOf (standings before) (has (is_asked number) before) ask outcome
IsAnsweredAt standings before (event.Came number node line) = Unit {0}
IsAnsweredAt standings before (event.Enter number) = Unit {0}
IsAnsweredAt standings before (event.Turned number) = Unit {0}
IsAnsweredAt standings before (event.Begun number) = Unit {0}
IsAnsweredAt standings before (event.Granted number) = Unit {0}
IsAnsweredAt standings before (event.Moved number count) = Unit {0}
IsAnsweredAt standings before (event.Ended number) = Unit {0}
IsAnsweredAt standings before (event.Cut number puts why told) = Unit {0}
IsAnsweredAt standings before (event.Deliver node kind number) = Unit {0}

abbrev pub AnswersFunctionsBy : Standings → List Logged → Type 0
AnswersFunctionsBy standings journal = Each (λ before logged. IsAnsweredAt standings before logged.event) journal

abbrev pub AnswersFunctions : Opening → List Logged → Type 0
AnswersFunctions o journal = AnswersFunctionsBy (standings_of o) journal

-- no function is open: each that was taken up is closed
abbrev pub NoneIsOpen : List Logged → Type 0
NoneIsOpen before = (by : ℕ) → has (is_asked by) before ≡ true → has (is_entry by) before ≡ true

-- a command starts while no function is open
abbrev pub BeginsAlone : List Logged → Event → Type 0
BeginsAlone before happened = AtStart (λ number. NoneIsOpen before) before happened

abbrev pub WaitsForFunctions : List Logged → Type 0
WaitsForFunctions journal = Each (λ before logged. BeginsAlone before logged.event) journal

-- the function that an event closes, and that the last event of a journal closed
abbrev pub closed_by : Event → Option ℕ
closed_by (event.Came number node line) = None
closed_by (event.Enter number) = None
closed_by (event.Turned number) = None
closed_by (event.Begun number) = None
closed_by (event.Granted number) = None
closed_by (event.Moved number count) = None
closed_by (event.Ended number) = None
closed_by (event.Cut number puts why told) = None
closed_by (event.Asked number) = None
closed_by (event.Closed number outcome) = Some number
closed_by (event.Deliver node kind number) = None

abbrev pub last_closed : List Logged → Option ℕ
last_closed journal = fold (λ (last : Option ℕ) (logged : Logged). closed_by logged.event) None journal

-- a function that closes right behind another has the higher number: of those that close in one act the lower number
-- goes first
abbrev pub ClosesInOrder : List Logged → Event → Type 0
ClosesInOrder before happened =
    IfSome (closed_by happened) (λ number. (lower : ℕ) → last_closed before ≡ Some lower → lower < number)

abbrev pub ClosesByNumber : List Logged → Type 0
ClosesByNumber journal = Each (λ before logged. ClosesInOrder before logged.event) journal
