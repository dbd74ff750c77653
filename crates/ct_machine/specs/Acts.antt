-- What an act does: the events that it writes, and its answer. It is composed of small turns, of one event each.
pub mod Turns
pub mod Entries
pub mod Functions
pub mod Moves
pub mod Begins
pub mod Answers
pub mod Arrivals
pub mod Steps
pub mod Messages
pub mod Next
use Rattle.std.specs.Prelude.{ℕ, List, if◌then◌else◌, Option}
use Rattle.ct_book.specs.declared.event.Logged.{Logged}
use Rattle.ct_machine.specs.declared.act.Act.{Act}
use Rattle.ct_machine.specs.declared.act.Act.TheVariants as act
use Rattle.ct_machine.specs.declared.act.Answer.{Answer}
use Rattle.ct_machine.specs.declared.act.Answer.TheVariants as answer
use Rattle.ct_machine.specs.States.{State, task_of}
use Rattle.ct_machine.specs.Acts.Answers.{Done}
use Rattle.ct_machine.specs.Acts.Arrivals.{arriving}
use Rattle.ct_machine.specs.Acts.Steps.{stepping}
use Rattle.ct_machine.specs.Acts.Messages.{delivering}
use Rattle.ct_machine.specs.Acts.Next.{doing_next}

-- an act, with the operation that the medium fails, if there is one, counted from the first that the act would make
abbrev pub doing : State → Act → Option ℕ → Done
doing s (act.Arrive node came) fault = arriving node came s
doing s (act.Step number count) fault = stepping (task_of number s.tasks) number count fault s
doing s (act.Deliver node) fault = delivering node s
doing s (act.Next count) fault = doing_next s.to_a s.to_b count fault s

-- what an act writes and answers
pub record Written : Type 0 where
  pub journal : List Logged
  pub answer : Answer

unfoldable pub act_of : State → Act → Option ℕ → Written
act_of s done fault = let result = doing s done fault in record { journal = result.turn.journal; answer = result.answer }
