-- What a part of an act does: the state that it left, and the events that it wrote.
use Rattle.std.specs.Prelude.{◌+◌, List, [], ◌∷◌, ◌++◌, None, Some}
use Rattle.ct_sense.specs.declared.reply.Reply.{Reply}
use Rattle.ct_book.specs.declared.work.Work.TheVariants as work
use Rattle.ct_book.specs.declared.event.Event.{Event}
use Rattle.ct_book.specs.declared.event.Event.TheVariants as event
use Rattle.ct_book.specs.declared.event.Logged.{Logged}
use Rattle.ct_machine.specs.States.{State}
use Rattle.ct_machine.specs.Events.{after}

-- what was done: the state that it left, and the events
pub record Turn : Type 0 where
  pub state : State
  pub journal : List Logged

abbrev pub nothing : State → Turn
nothing s = record { state = s; journal = [] }

abbrev pub writes : Logged → State → Turn
writes logged s = record { state = after s logged; journal = logged ∷ [] }

abbrev pub says : Event → State → Turn
says event s = writes (record { event = event; work = None; reply = None }) s

abbrev pub replies : Event → Reply → State → Turn
replies event reply s = writes (record { event = event; work = None; reply = Some reply }) s

abbrev pub followed : Turn → (State → Turn) → Turn
followed turn next = record { state = (next turn.state).state; journal = turn.journal ++ (next turn.state).journal }
