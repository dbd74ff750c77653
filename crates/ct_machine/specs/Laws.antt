-- What the journal of a logical unit owes, whatever the schedule.
pub mod Journals
pub mod Standings
pub mod Once
pub mod Orderly
pub mod Reorders
pub mod Prefix
pub mod Kinds
pub mod Cells
pub mod Endings
pub mod Legal
pub mod Timely
pub mod Functions
pub mod Live
pub mod Works
use Rattle.std.specs.Prelude.{◌≡◌, ◌-◌, List, []}
use Rattle.ct_book.specs.declared.event.Logged.{Logged}
use Rattle.ct_machine.specs.declared.act.Opening.{Opening}
use Rattle.ct_machine.specs.Runs.{replay}
use Rattle.ct_machine.specs.Serial.{serial_disk}
use Rattle.ct_machine.specs.Laws.Once.{EachOnce}
use Rattle.ct_machine.specs.Laws.Orderly.{IsOrderly}
use Rattle.ct_machine.specs.Laws.Reorders.{ReordersAtRest}
use Rattle.ct_machine.specs.Laws.Prefix.{RecordsPrefix}
use Rattle.ct_machine.specs.Laws.Kinds.{IsTyped}
use Rattle.ct_machine.specs.Laws.Cells.{MakesPlans, IsByCells}
use Rattle.ct_machine.specs.Laws.Endings.{EndsGoodOrDiffers}
use Rattle.ct_machine.specs.Laws.Legal.{IsRestricted, IsLegal, IsSound}
use Rattle.ct_machine.specs.Laws.Timely.{IsTimely}
use Rattle.ct_machine.specs.Laws.Functions.{TellsOfCuts, AnswersFunctions, WaitsForFunctions, ClosesByNumber}
use Rattle.ct_machine.specs.Laws.Live.{NextDoesSomething, RestsQuietly}

-- what every run owes
pub record IsLawful (o : Opening) (journal : List Logged) : Type 0 where
  pub legal : IsRestricted o journal → IsLegal o journal
  pub sound : IsSound o journal
  pub once : EachOnce o journal
  pub typed : IsTyped journal
  pub orderly : IsOrderly o journal
  pub reorders : ReordersAtRest o journal
  pub plans : MakesPlans o journal
  pub prefix : RecordsPrefix o journal
  pub cells : IsByCells o journal
  pub endings : EndsGoodOrDiffers o journal
  pub timely : IsTimely o journal
  pub tells : TellsOfCuts o journal
  pub answers : AnswersFunctions o journal
  pub waits : WaitsForFunctions journal
  pub closes : ClosesByNumber journal
  pub next : NextDoesSomething o journal
  pub rest : RestsQuietly o journal
  pub control : (replay o journal).control ≡ (serial_disk o journal).control
  -- where no command is live, the blocks are the serial disk's
  pub blocks : IsRestricted o journal → (replay o journal).tasks ≡ [] → (replay o journal).blocks ≡ (serial_disk o journal).blocks
