-- What is read from a journal: its events, and the works behind their numbers.
use Rattle.std.specs.Prelude.{◌≡◌, ℕ, ◌+◌, List, [], ◌∷◌, ◌++◌, Bool, false, ◌&&◌, ◌||◌, ◌==◌, if◌then◌else◌}
use Rattle.std.specs.Prelude.{Option, None, Some, IfSome}
use Rattle.std.specs.List.{list_any}
use Rattle.ct_tmf.specs.declared.function.Ask.{Ask}
use Rattle.ct_book.specs.declared.work.Command.{Command}
use Rattle.ct_book.specs.declared.work.Work.TheVariants as work
use Rattle.ct_book.specs.declared.event.Event.{Event}
use Rattle.ct_book.specs.declared.event.Event.TheVariants as event
use Rattle.ct_book.specs.declared.event.Logged.{Logged}
use Rattle.ct_book.specs.Facts.{facts_of}
use Rattle.ct_book.specs.Journals.{KeptWork, numbered, works_in}

-- P holds of each event of a journal and the events before it
abbrev pub EachBehind : (List Logged → Logged → Type 0) → List Logged → List Logged → Type 0
EachBehind P before [] = Unit {0}
EachBehind P before (logged ∷ journal) = P before logged × EachBehind P (before ++ logged ∷ []) journal

abbrev pub Each : (List Logged → Logged → Type 0) → List Logged → Type 0
Each P journal = EachBehind P [] journal

-- some event of a journal passes a test
abbrev pub has : (Event → Bool) → List Logged → Bool
has test journal = list_any (λ (logged : Logged). test logged.event) journal

-- the event by which a work is done: its entry in the history
abbrev pub is_entry : ℕ → Event → Bool
is_entry wanted event = (facts_of event).is_entry && ((facts_of event).no == wanted)

abbrev pub is_enter : ℕ → Event → Bool
is_enter wanted (event.Came number node line) = false
is_enter wanted (event.Enter number) = number == wanted
is_enter wanted (event.Turned number) = false
is_enter wanted (event.Begun number) = false
is_enter wanted (event.Granted number) = false
is_enter wanted (event.Moved number count) = false
is_enter wanted (event.Ended number) = false
is_enter wanted (event.Cut number puts why told) = false
is_enter wanted (event.Asked number) = false
is_enter wanted (event.Closed number outcome) = false
is_enter wanted (event.Deliver node kind number) = false

abbrev pub is_begin : ℕ → Event → Bool
is_begin wanted (event.Came number node line) = false
is_begin wanted (event.Enter number) = false
is_begin wanted (event.Turned number) = false
is_begin wanted (event.Begun number) = number == wanted
is_begin wanted (event.Granted number) = number == wanted
is_begin wanted (event.Moved number count) = false
is_begin wanted (event.Ended number) = false
is_begin wanted (event.Cut number puts why told) = false
is_begin wanted (event.Asked number) = false
is_begin wanted (event.Closed number outcome) = false
is_begin wanted (event.Deliver node kind number) = false

-- the command that starts by an event, if it hasn't before: it begins, is granted, or ends
abbrev pub started_by : Event → Option ℕ
started_by (event.Came number node line) = None
started_by (event.Enter number) = None
started_by (event.Turned number) = None
started_by (event.Begun number) = Some number
started_by (event.Granted number) = Some number
started_by (event.Moved number count) = None
started_by (event.Ended number) = Some number
started_by (event.Cut number puts why told) = None
started_by (event.Asked number) = None
started_by (event.Closed number outcome) = None
started_by (event.Deliver node kind number) = None

abbrev pub is_number : ℕ → Option ℕ → Bool
is_number wanted (Some number) = number == wanted
is_number wanted None = false

abbrev pub is_start : ℕ → Event → Bool
is_start wanted event = is_number wanted (started_by event)

-- P holds of a command where it starts: at the first of its `begun`, `granted` and `ended`
abbrev pub AtStart : (ℕ → Type 0) → List Logged → Event → Type 0
AtStart P before happened = IfSome (started_by happened) (λ number. has (is_start number) before ≡ false → P number)

-- the command that ends by an event
abbrev pub ended_by : Event → Option ℕ
ended_by (event.Came number node line) = None
ended_by (event.Enter number) = None
ended_by (event.Turned number) = None
ended_by (event.Begun number) = None
ended_by (event.Granted number) = None
ended_by (event.Moved number count) = None
ended_by (event.Ended number) = Some number
ended_by (event.Cut number puts why told) = None
ended_by (event.Asked number) = None
ended_by (event.Closed number outcome) = None
ended_by (event.Deliver node kind number) = None

-- P holds of a command where it ends
abbrev pub AtEnd : (ℕ → Type 0) → Event → Type 0
AtEnd P happened = IfSome (ended_by happened) P

abbrev pub is_asked : ℕ → Event → Bool
is_asked wanted (event.Came number node line) = false
is_asked wanted (event.Enter number) = false
is_asked wanted (event.Turned number) = false
is_asked wanted (event.Begun number) = false
is_asked wanted (event.Granted number) = false
is_asked wanted (event.Moved number count) = false
is_asked wanted (event.Ended number) = false
is_asked wanted (event.Cut number puts why told) = false
is_asked wanted (event.Asked number) = number == wanted
is_asked wanted (event.Closed number outcome) = false
is_asked wanted (event.Deliver node kind number) = false

-- the first event that passes one of two tests passes the first
abbrev pub comes_first : (Event → Bool) → (Event → Bool) → List Logged → Bool
comes_first first second [] = false
comes_first first second (logged ∷ journal) =
    if second logged.event then false
    else first logged.event || comes_first first second journal

-- the block operations that a command made
abbrev pub made_at : ℕ → Event → ℕ
made_at wanted (event.Came number node line) = 0
made_at wanted (event.Enter number) = 0
made_at wanted (event.Turned number) = 0
made_at wanted (event.Begun number) = 0
made_at wanted (event.Granted number) = 0
made_at wanted (event.Moved number count) = if number == wanted then count else 0
made_at wanted (event.Ended number) = 0
made_at wanted (event.Cut number puts why told) = 0
made_at wanted (event.Asked number) = 0
made_at wanted (event.Closed number outcome) = 0
made_at wanted (event.Deliver node kind number) = 0

abbrev pub made_by : ℕ → List Logged → ℕ
made_by wanted [] = 0
made_by wanted (logged ∷ journal) = made_at wanted logged.event + made_by wanted journal

abbrev pub work_in : ℕ → List Logged → Option KeptWork
work_in number journal = numbered number (works_in journal)

-- the work with a number is this command, or this function
abbrev pub IsCommandOf : List Logged → ℕ → Command → Type 0
IsCommandOf journal number command = work_in number journal ≡ Some (work.Cmd command)

abbrev pub IsFunctionOf : List Logged → ℕ → Ask → Type 0
IsFunctionOf journal number ask = work_in number journal ≡ Some (work.Ask ask)
