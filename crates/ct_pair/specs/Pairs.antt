-- A pair: one logical unit with its two nodes and its journal.
use Rattle.std.specs.Prelude.{◌≡◌, ℕ, ◌+◌, ◌<◌, ◌≤◌, ◌++◌, Option, IsSome}
use Rattle.ct_word.specs.declared.names.Ha.TheVariants as ha
use Rattle.ct_book.specs.Journals.{BookState}
use Rattle.ct_plan.specs.Pieces.{faults_at}
use Rattle.ct_machine.specs.declared.act.Act.{Act}
use Rattle.ct_machine.specs.declared.act.Answer.{Answer}
use Rattle.ct_machine.specs.declared.act.Opening.{Opening}
use Rattle.ct_machine.specs.States.{State}
use Rattle.ct_machine.specs.Acts.{act_of}
use Rattle.ct_machine.specs.Runs.{replay, IsRun}
use Rattle.ct_lun.specs.Desk.{Desk}
use Rattle.ct_lun.specs.States.{state_of}
use Rattle.ct_lun.specs.Agreement.{AgreesWith}
use Rattle.ct_lun.specs.Rooms.{room_of}
pub use Rattle.ct_lun.specs.Calls.{medium_cuts}

-- what contracts see of a pair: what it was opened with, its unit and its book
pub record PairState : Type 0 where
  pub opening : Opening
  pub desk : Desk
  pub book : BookState

-- there is one node; the unit and its book are what the journal leads to, the journal is a run, and its medium cuts are as many as the faults
-- of the medium; there is room for all events that can still come
pub record IsPair (opening : Opening) (desk : Desk) (book : BookState) : Type 0 where
  pub single : opening.ha ≡ ha.None
  pub state : state_of desk book ≡ replay opening book.journal
  pub run : IsRun opening book.journal
  pub agrees : AgreesWith desk book
  pub room : room_of (state_of desk book) ≤ book.spare
  pub cuts : medium_cuts book.journal ≡ desk.faults

-- what the machine does behind the journal of a pair
abbrev pub state_in : PairState → State
state_in pair = replay pair.opening pair.book.journal

-- an act wrote and answered what the machine does, with a fault of the medium only where its count rose, by one
pub record Acts (old new : PairState) (act : Act) (said : Answer) : Type 0 where
  pub fault : Option ℕ
  pub journal : new.book.journal ≡ old.book.journal ++ (act_of (state_in old) act fault).journal
  pub answer : said ≡ (act_of (state_in old) act fault).answer
  pub opening : new.opening ≡ old.opening
  pub cause : IsSome fault → old.desk.faults < new.desk.faults
  pub later : old.desk.faults ≤ new.desk.faults
  pub counted : new.desk.faults ≡ old.desk.faults + faults_at fault
