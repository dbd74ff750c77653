-- A message is delivered.
use Rattle.std.specs.Prelude.{ℕ, List, [], ◌∷◌, Option, None, Some}
use Rattle.ct_word.specs.declared.names.Node.{Node}
use Rattle.ct_word.specs.declared.names.Node.TheVariants.{A, B}
use Rattle.ct_tmf.specs.declared.function.Ask.{Ask}
use Rattle.ct_book.specs.declared.work.Work.TheVariants as work
use Rattle.ct_book.specs.declared.event.Event.TheVariants as event
use Rattle.ct_book.specs.declared.event.Kind2.{Kind2}
use Rattle.ct_book.specs.declared.event.Kind2.TheVariants as kind
use Rattle.ct_book.specs.declared.event.Why.TheVariants.{By}
use Rattle.ct_book.specs.Journals.{KeptWork}
use Rattle.ct_machine.specs.declared.act.Answer.TheVariants as answer
use Rattle.ct_machine.specs.States.{Stage, There, Task, Message, Arrival, State, arrival_of, task_of}
use Rattle.ct_machine.specs.Acts.Turns.{Turn, nothing, says, followed}
use Rattle.ct_machine.specs.Acts.Entries.{entering}
use Rattle.ct_machine.specs.Acts.Functions.{puts_of, open_numbers, closing_all, asking}
use Rattle.ct_machine.specs.Acts.Answers.{Done, unchanged}

abbrev pub taking_in : ℕ → KeptWork → State → Turn
taking_in number (work.Cmd command) s = entering number command s
taking_in number (work.Ask ask) s = asking number ask s

abbrev pub coming_in : ℕ → Option Arrival → State → Turn
coming_in number None s = nothing s
coming_in number (Some arrival) s = taking_in number arrival.work s

abbrev pub coming_to_a : Kind2 → Message → State → Turn
coming_to_a kind.Ask message s = coming_in message.no (arrival_of message.no s) s
coming_to_a kind.Function message s = coming_in message.no (arrival_of message.no s) s
coming_to_a kind.Finish message s = closing_all (open_numbers s) s
coming_to_a kind.Stopped message s = closing_all (open_numbers s) s
coming_to_a _ message s = nothing s

-- a stop comes to B: a command that began there and isn't over is cut

abbrev pub stopping_at : Stage → Task → Message → State → Turn
stopping_at (There done got) task message s = says (event.Cut task.no (puts_of task s) (By message.by) message.told) s
stopping_at _ task message s = nothing s

abbrev pub stopping : Option Task → Message → State → Turn
stopping None message s = nothing s
stopping (Some task) message s = stopping_at task.stage task message s

abbrev pub coming_to_b : Kind2 → Message → State → Turn
coming_to_b kind.Stop message s = stopping (task_of message.no s.tasks) message s
coming_to_b _ message s = nothing s

abbrev pub coming_to : Node → Message → State → Turn
coming_to A message s = coming_to_a message.kind message s
coming_to B message s = coming_to_b message.kind message s

abbrev pub delivering_first : Node → List Message → State → Done
delivering_first node [] s = unchanged answer.Nothing s
delivering_first node (message ∷ messages) s = record {
  turn = followed (says (event.Deliver node message.kind message.no) s) (coming_to node message);
  answer = answer.Delivered message.kind message.no;
}

abbrev pub messages_to : Node → State → List Message
messages_to A s = s.to_a
messages_to B s = s.to_b

abbrev pub delivering : Node → State → Done
delivering node s = delivering_first node (messages_to node s) s
