-- Each event is one of a work of its kind.
use Rattle.std.specs.Prelude.{◌≡◌, ℕ, ◌-◌, List, Bool, true, false, not, Option, None, Some, is_some}
use Rattle.ct_tmf.specs.declared.function.Ask.{Ask}
use Rattle.ct_tmf.specs.declared.function.Outcome.{Outcome}
use Rattle.ct_tmf.specs.declared.function.Outcome.TheVariants.{Complete, Succeeded, Rejected}
use Rattle.ct_book.specs.declared.work.Command.{Command}
use Rattle.ct_book.specs.declared.event.Event.{Event}
use Rattle.ct_book.specs.declared.event.Event.TheVariants as event
use Rattle.ct_book.specs.declared.event.Logged.{Logged}
use Rattle.ct_book.specs.Facts.{About, NewWork, AnyWork, ACommand, AFunction, facts_of}
use Rattle.ct_machine.specs.Laws.Journals.{Each, has, is_asked, work_in, IsCommandOf, IsFunctionOf}

-- a command has this number
abbrev pub IsCommand : List Logged → ℕ → Type 0
IsCommand before number = (command : Command) × IsCommandOf before number command

abbrev pub is_rejected : Outcome → Bool
is_rejected Rejected = true
is_rejected Complete = false
is_rejected Succeeded = false

abbrev pub IsFunction : List Logged → ℕ → Type 0
IsFunction before number = (ask : Ask) × IsFunctionOf before number ask

-- a work of which an event can tell has this number
abbrev pub IsAmong : List Logged → About → ℕ → Type 0
IsAmong before ACommand number = IsCommand before number
IsAmong before AFunction number = IsFunction before number
IsAmong before NewWork number = Unit {0}
IsAmong before AnyWork number = Unit {0}

-- what cuts a command is a work that came
abbrev pub HasCome : List Logged → Option ℕ → Type 0
HasCome before (Some by) = is_some (work_in by before) ≡ true
HasCome before None = Unit {0}

-- a function is closed that was taken up, exactly where it isn't rejected
abbrev pub IsClosedAs : List Logged → Event → Type 0
IsClosedAs before (event.Closed number outcome) = has (is_asked number) before ≡ not (is_rejected outcome)
IsClosedAs before (event.Came number node line) = Unit {0}
IsClosedAs before (event.Enter number) = Unit {0}
IsClosedAs before (event.Turned number) = Unit {0}
IsClosedAs before (event.Begun number) = Unit {0}
IsClosedAs before (event.Granted number) = Unit {0}
IsClosedAs before (event.Moved number count) = Unit {0}
IsClosedAs before (event.Ended number) = Unit {0}
IsClosedAs before (event.Cut number puts why told) = Unit {0}
IsClosedAs before (event.Asked number) = Unit {0}
IsClosedAs before (event.Deliver node kind number) = Unit {0}

pub record IsOfItsKind (before : List Logged) (happened : Event) : Type 0 where
  pub work : IsAmong before (facts_of happened).about (facts_of happened).no
  pub by : HasCome before (facts_of happened).by
  pub closed : IsClosedAs before happened

abbrev pub IsTyped : List Logged → Type 0
IsTyped journal = Each (λ before logged. IsOfItsKind before logged.event) journal
