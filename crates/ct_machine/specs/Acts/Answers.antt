-- What an act answers.
use Rattle.std.specs.Prelude.{ℕ, List, [], ◌∷◌, Bool, false, ◌==◌, if◌then◌else◌, Option, None, Some}
use Rattle.std.specs.List.{list_any}
use Rattle.ct_word.specs.declared.names.Node.TheVariants.{A}
use Rattle.ct_tmf.specs.declared.function.Outcome.{Outcome}
use Rattle.ct_book.specs.declared.work.Work.TheVariants as work
use Rattle.ct_book.specs.declared.event.Event.{Event}
use Rattle.ct_book.specs.declared.event.Event.TheVariants as event
use Rattle.ct_book.specs.declared.event.Why.TheVariants.{By, Medium}
use Rattle.ct_book.specs.declared.event.Logged.{Logged}
use Rattle.ct_book.specs.Journals.{line_of}
use Rattle.ct_machine.specs.declared.act.Answer.{Answer}
use Rattle.ct_machine.specs.declared.act.Answer.TheVariants as answer
use Rattle.ct_machine.specs.States.{Open, Arrival, State, arrival_of}
use Rattle.ct_machine.specs.Acts.Turns.{Turn, nothing}

-- what an act did, and what it answers
pub record Done : Type 0 where
  pub turn : Turn
  pub answer : Answer

abbrev pub unchanged : Answer → State → Done
unchanged said s = record { turn = nothing s; answer = said }

-- an event by which a command is over, and one by which a function is answered
abbrev pub ends : ℕ → Event → Bool
ends number (event.Came over node line) = false
ends number (event.Enter over) = false
ends number (event.Turned over) = false
ends number (event.Begun over) = false
ends number (event.Granted over) = false
ends number (event.Moved over count) = false
ends number (event.Ended over) = over == number
ends number (event.Cut over puts Medium told) = over == number
ends number (event.Cut over puts (By by) told) = false
ends number (event.Asked over) = false
ends number (event.Closed over outcome) = false
ends number (event.Deliver node kind over) = false

abbrev pub outcome_in : ℕ → Event → Option Outcome
outcome_in number (event.Came over node line) = None
outcome_in number (event.Enter over) = None
outcome_in number (event.Turned over) = None
outcome_in number (event.Begun over) = None
outcome_in number (event.Granted over) = None
outcome_in number (event.Moved over count) = None
outcome_in number (event.Ended over) = None
outcome_in number (event.Cut over puts why told) = None
outcome_in number (event.Asked over) = None
outcome_in number (event.Closed over outcome) = if over == number then Some outcome else None
outcome_in number (event.Deliver node kind over) = None

abbrev pub line_by : Option Arrival → ℕ
line_by None = 0
line_by (Some arrival) = line_of arrival.work

-- a command that moved is over, or it isn't
abbrev pub moved_answer : ℕ → State → List Logged → Answer
moved_answer number s journal =
    if list_any (λ (logged : Logged). ends number logged.event) journal then answer.Ended number (line_by (arrival_of number s))
    else answer.Moved number

-- a function was answered, or it awaits commands
abbrev pub asked_by : ℕ → Option Outcome → Answer
asked_by number None = answer.Open number
asked_by number (Some outcome) = answer.Closed number outcome

abbrev pub first_some : {A : Type 0} → Option A → Option A → Option A
first_some (Some x) other = Some x
first_some None other = other

abbrev pub outcome_among : ℕ → List Logged → Option Outcome
outcome_among number [] = None
outcome_among number (logged ∷ journal) = first_some (outcome_in number logged.event) (outcome_among number journal)

abbrev pub asked_answer : ℕ → List Logged → Answer
asked_answer number journal = asked_by number (outcome_among number journal)
