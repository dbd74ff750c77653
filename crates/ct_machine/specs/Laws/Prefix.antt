-- What a cut command has put, and when a function is answered.
use Rattle.std.specs.Prelude.{◌≡◌, ℕ, ◌-◌, List, take, true, false}
use Rattle.ct_tmf.specs.declared.function.Ask.{Ask}
use Rattle.ct_tmf.specs.Reaches.{hits}
use Rattle.ct_plan.specs.Plans.{puts_among}
use Rattle.ct_book.specs.declared.work.Command.{Command}
use Rattle.ct_book.specs.declared.event.Event.{Event}
use Rattle.ct_book.specs.declared.event.Event.TheVariants as event
use Rattle.ct_book.specs.declared.event.Why.{Why}
use Rattle.ct_book.specs.declared.event.Why.TheVariants.{By, Medium}
use Rattle.ct_book.specs.declared.event.Logged.{Logged}
use Rattle.ct_exec.specs.Executions.{plan_in}
use Rattle.ct_machine.specs.declared.act.Opening.{Opening}
use Rattle.ct_machine.specs.Laws.Journals.{Each, has, is_entry, is_enter, is_asked, comes_first, made_by, IsCommandOf, IsFunctionOf}

abbrev pub IsPrefix : Opening → List Logged → ℕ → ℕ → Type 0
IsPrefix o before number puts =
    (command : Command) → IsCommandOf before number command → puts ≡ puts_among (take (made_by number before) (plan_in o.blocks command))

-- a cut by a function stands between the function's `asked` and its `closed`
abbrev pub IsCutWhileOpen : List Logged → Why → Type 0
IsCutWhileOpen before Medium = Unit {0}
IsCutWhileOpen before (By by) = (ask : Ask) → IsFunctionOf before by ask → (has (is_asked by) before ≡ true) × (has (is_entry by) before ≡ false)

-- each command that had entered when a function was taken up, and that it hits, has its entry
abbrev pub ClosesBehindAll : List Logged → ℕ → Type 0
ClosesBehindAll before by =
    (ask : Ask) (number : ℕ) (command : Command) → IsFunctionOf before by ask → IsCommandOf before number command →
    comes_first (is_enter number) (is_asked by) before ≡ true → has (is_asked by) before ≡ true →
    hits ask command.nexus command.tag ≡ true →
    has (is_entry number) before ≡ true

abbrev pub RecordsPrefixAt : Opening → List Logged → Event → Type 0
RecordsPrefixAt o before (event.Cut number puts why told) = IsPrefix o before number puts × IsCutWhileOpen before why
RecordsPrefixAt o before (event.Closed number outcome) = ClosesBehindAll before number
RecordsPrefixAt o before (event.Moved number count) = has (is_entry number) before ≡ false
RecordsPrefixAt o before (event.Came number node line) = Unit {0}
RecordsPrefixAt o before (event.Enter number) = Unit {0}
RecordsPrefixAt o before (event.Turned number) = Unit {0}
RecordsPrefixAt o before (event.Begun number) = Unit {0}
RecordsPrefixAt o before (event.Granted number) = Unit {0}
RecordsPrefixAt o before (event.Ended number) = Unit {0}
RecordsPrefixAt o before (event.Asked number) = Unit {0}
RecordsPrefixAt o before (event.Deliver node kind number) = Unit {0}

-- a cut counts the blocks that the command put, and what a function cut or awaited is over before it closes
abbrev pub RecordsPrefix : Opening → List Logged → Type 0
RecordsPrefix o journal = Each (λ before logged. RecordsPrefixAt o before logged.event) journal
