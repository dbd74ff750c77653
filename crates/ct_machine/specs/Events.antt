-- The state after an event. The state changes by events alone.
pub mod Sends
pub mod Arrivals
pub mod Moves
pub mod Ends
pub mod Functions
pub mod Deliveries
use Rattle.std.specs.Prelude.{◌-◌, List, [], ◌∷◌, Option}
use Rattle.ct_book.specs.declared.work.Work.TheVariants as work
use Rattle.ct_book.specs.declared.event.Event.{Event}
use Rattle.ct_book.specs.declared.event.Event.TheVariants as event
use Rattle.ct_book.specs.declared.event.Kind2.TheVariants as kind
use Rattle.ct_book.specs.declared.event.Logged.{Logged}
use Rattle.ct_book.specs.Journals.{KeptWork}
use Rattle.ct_machine.specs.States.{Here, Granted, State, arrival_of, task_of}
use Rattle.ct_machine.specs.Events.Sends.{answered}
use Rattle.ct_machine.specs.Events.Arrivals.{after_came, after_enter}
use Rattle.ct_machine.specs.Events.Moves.{staged, after_granted, after_moved}
use Rattle.ct_machine.specs.Events.Ends.{after_ended, after_cut}
use Rattle.ct_machine.specs.Events.Functions.{after_asked, after_closed}
use Rattle.ct_machine.specs.Events.Deliveries.{after_deliver}

-- the state after an event, by what happened
abbrev pub after_event : Event → Option KeptWork → State → State
after_event (event.Came number node line) came s = after_came number node came s
after_event (event.Enter number) came s = after_enter number (arrival_of number s) s
after_event (event.Turned number) came s = answered kind.Reply number s
after_event (event.Begun number) came s = staged (Here 0 []) (task_of number s.tasks) s
after_event (event.Granted number) came s = after_granted number s
after_event (event.Moved number count) came s = after_moved (task_of number s.tasks) count s
after_event (event.Ended number) came s = after_ended (task_of number s.tasks) s
after_event (event.Cut number puts why told) came s = after_cut why (task_of number s.tasks) s
after_event (event.Asked number) came s = after_asked number (arrival_of number s) s
after_event (event.Closed number outcome) came s = after_closed number s
after_event (event.Deliver node kind number) came s = after_deliver node kind number s

unfoldable pub after : State → Logged → State
after s logged = after_event logged.event logged.work s

-- the state after a list of events
abbrev pub after_events : State → List Logged → State
after_events s [] = s
after_events s (logged ∷ journal) = after_events (after s logged) journal
