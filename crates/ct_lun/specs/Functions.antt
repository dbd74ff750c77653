-- What a task management function does to a unit (SAM-5, clause 7): it is taken up, cuts what it hits, and is answered.
use Rattle.std.specs.Prelude.{◌≡◌, ℕ, ◌+◌, ◌≤◌, List, [], ◌++◌, ◌∷◌, length, Bool, Option, None, Some}
use Rattle.ct_tmf.specs.declared.function.Ask.{Ask}
use Rattle.ct_tmf.specs.declared.function.Function.TheVariants.{ClearAca}
use Rattle.ct_tmf.specs.declared.function.Outcome.{Outcome}
use Rattle.ct_book.specs.declared.work.Work.TheVariants as work
use Rattle.ct_book.specs.declared.event.Logged.{Logged}
use Rattle.ct_book.specs.Journals.{KeptWork, BookState, numbered}
use Rattle.ct_book.specs.Histories.{others_of}
use Rattle.ct_machine.specs.States.{Open, State}
use Rattle.ct_machine.specs.Events.{after_events}
use Rattle.ct_machine.specs.Acts.Functions.{numbers_of, cutting_all, asking}
use Rattle.ct_machine.specs.Acts.Answers.{outcome_among}
use Rattle.ct_lun.specs.Desk.{Desk}
use Rattle.ct_lun.specs.States.{state_of}
use Rattle.ct_lun.specs.Agreement.{AgreesWith}
use Rattle.ct_lun.specs.Rooms.{room_of}
use Rattle.ct_lun.specs.Calls.{Wrote, Spends, medium_cuts}

-- what is read under a number that no function has
abbrev pub nothing_asked : Ask
nothing_asked = record { line = 0; nexus = record { port = 0; init = 0 }; function = ClearAca }

abbrev pub ask_by : Option KeptWork → Ask
ask_by (Some (work.Ask ask)) = ask
ask_by (Some (work.Cmd command)) = nothing_asked
ask_by None = nothing_asked

-- the function with a number
abbrev pub ask_in : List KeptWork → ℕ → Ask
ask_in works number = ask_by (numbered number works)

-- an open function that awaits nothing and cut these commands so far
abbrev pub open_of : ℕ → Ask → List ℕ → Open
open_of number ask cut = record { no = number; ask = ask; awaits = []; cut = cut }

-- the machine's state while it is open
abbrev pub while_open : Desk → BookState → Open → State
while_open desk book function = record (state_of desk book) { functions = function ∷ [] }

-- what the machine writes of the commands with these numbers, in their order, which an open function cuts where it hits them
abbrev pub cut_journal : Desk → BookState → Open → List ℕ → List Logged
cut_journal desk book function numbers = (cutting_all function.no function.ask numbers (while_open desk book function)).journal

-- of the commands with these numbers, in their order, those that the function hits were cut: first these, in the end those
pub record Cuts (desk desk' : Desk) (book book' : BookState) (number : ℕ) (ask : Ask) (cut cut' numbers : List ℕ) : Type 0 where
  pub journal : book'.journal ≡ book.journal ++ cut_journal desk book (open_of number ask cut) numbers
  pub state : while_open desk' book' (open_of number ask cut') ≡ after_events (while_open desk book (open_of number ask cut)) (cut_journal desk book (open_of number ask cut) numbers)
  pub agrees : AgreesWith desk' book'
  pub spare : book'.spare + length (cut_journal desk book (open_of number ask cut) numbers) ≡ book.spare
  pub spends : Spends desk desk' book book' (length (cut_journal desk book (open_of number ask cut) numbers))
  pub works : book'.works ≡ book.works
  pub control : desk'.control ≡ desk.control
  pub faults : desk'.faults ≡ desk.faults

-- a function cut what it hits in the whole task set; of these other nexuses than the asker's it cut a command
pub record CutsAll (desk desk' : Desk) (book book' : BookState) (number : ℕ) (ask : Ask) (nexuses : List Bool) : Type 0 where
  pub cut : List ℕ
  pub cuts : Cuts desk desk' book book' number ask [] cut (numbers_of (state_of desk book).tasks)
  pub others : nexuses ≡ others_of ask.nexus book.works cut

-- a function was taken up and answered as the machine does it; the cuts are paid by the commands that left
pub record IsAnswered (desk desk' : Desk) (book book' : BookState) (number : ℕ) (ask : Ask) (outcome : Outcome) : Type 0 where
  pub said : outcome_among number (asking number ask (state_of desk book)).journal ≡ Some outcome
  pub wrote : Wrote desk desk' book book' (asking number ask (state_of desk book)).journal
  pub agrees : AgreesWith desk' book'
  pub uncut : medium_cuts (asking number ask (state_of desk book)).journal ≡ 0
  pub room : room_of (state_of desk' book') + length (asking number ask (state_of desk book)).journal ≤ room_of (state_of desk book) + 2
  pub faults : desk'.faults ≡ desk.faults
