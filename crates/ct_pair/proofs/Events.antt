-- What events do to the works that came: all but arrivals leave them.
use Rattle.std.proofs.Common.{◌≡◌, ℕ, ◌≤◌, List, [], ◌∷◌, ◌++◌, Bool, true, false, Option, Some, None, refl, ◌∙◌, arith}
use Rattle.std.specs.List.{cons_option}
use Rattle.ct_word.specs.declared.names.Node.{Node}
use Rattle.ct_word.specs.declared.names.Node.TheVariants.{A, B}
use Rattle.ct_word.specs.declared.names.Room.{Room}
use Rattle.ct_book.specs.declared.work.Work.TheVariants as work
use Rattle.ct_book.specs.declared.event.Event.{Event}
use Rattle.ct_book.specs.declared.event.Event.TheVariants as event
use Rattle.ct_book.specs.declared.event.Kind2.{Kind2}
use Rattle.ct_book.specs.declared.event.Kind2.TheVariants as kind
use Rattle.ct_book.specs.declared.event.Why.{Why}
use Rattle.ct_book.specs.declared.event.Why.TheVariants.{By, Medium}
use Rattle.ct_book.specs.declared.event.Logged.{Logged}
use Rattle.ct_book.specs.Journals.{KeptWork, works_in}
use Rattle.ct_machine.specs.declared.act.Opening.{Opening}
use Rattle.ct_machine.specs.States.{Stage, Waiting, Here, Granted, There, Over, Task, Open, Message, Arrival, State, opened, arrival_of, task_of, function_of}
use Rattle.ct_machine.specs.Events.Sends.{message, came_remote, to_b_if, answered}
use Rattle.ct_machine.specs.Events.Arrivals.{pieces_of, with_room, sent_from, after_came, entered, after_enter}
use Rattle.ct_machine.specs.Events.Moves.{staged, moved_at, after_moved}
use Rattle.ct_machine.specs.Events.Ends.{leaves, ended_at, after_ended, cut_at, after_cut}
use Rattle.ct_machine.specs.Events.Functions.{asked_for, after_asked, closed}
use Rattle.ct_machine.specs.Events.Deliveries.{came_to_a, begun_at_b, after_grant, came_to_b, after_deliver}
use Rattle.ct_machine.specs.Events.{after_event, after, after_events}
use Rattle.ct_machine.specs.Runs.{replay}

-- the works that came stay
abbrev Stays : State → State → Type 0
Stays s t = t.arrivals ≡ s.arrivals

told : (at_b : Bool) (m : Message) (s : State) → Stays s (to_b_if at_b m s)
told true m s = refl
told false m s = refl

answers : (k : Kind2) (number : ℕ) (s : State) → Stays s (answered k number s)
answers k number s = told (came_remote (arrival_of number s)) (message k number) s

enters : (number : ℕ) (found : Option Arrival) (s : State) → Stays s (after_enter number found s)
enters number None s = refl
enters number (Some arrival) s = go arrival.work
  where
    go : (w : KeptWork) → Stays s (entered number arrival.node w s)
    go (work.Cmd command) = refl
    go (work.Ask ask) = refl

stages : (stage : Stage) (found : Option Task) (s : State) → Stays s (staged stage found s)
stages stage None s = refl
stages stage (Some task) s = refl

moves : (found : Option Task) (count : ℕ) (s : State) → Stays s (after_moved found count s)
moves None count s = refl
moves (Some task) count s = go task.stage
  where
    go : (stage : Stage) → Stays s (moved_at stage task count s)
    go (Here done got) = refl
    go (There done got) = refl
    go Waiting = refl
    go Granted = refl
    go Over = refl

ends : (found : Option Task) (s : State) → Stays s (after_ended found s)
ends None s = refl
ends (Some task) s = go task.stage
  where
    go : (stage : Stage) → Stays s (ended_at stage task s)
    go Waiting = answers kind.Reply task.no _
    go (Here done got) = answers kind.Reply task.no (leaves task.no s)
    go (There done got) = refl
    go Granted = answers kind.Reply task.no (leaves task.no s)
    go Over = answers kind.Reply task.no (leaves task.no s)

cuts : (why : Why) (found : Option Task) (s : State) → Stays s (after_cut why found s)
cuts why None s = refl
cuts why (Some task) s = go why task.stage
  where
    go : (why : Why) (stage : Stage) → Stays s (cut_at why stage task s)
    go (By by) Waiting = refl
    go (By by) (Here done got) = refl
    go (By by) (There done got) = refl
    go (By by) Granted = refl
    go (By by) Over = refl
    go Medium Waiting = answers kind.Reply task.no (leaves task.no s)
    go Medium (Here done got) = answers kind.Reply task.no (leaves task.no s)
    go Medium (There done got) = refl
    go Medium Granted = answers kind.Reply task.no (leaves task.no s)
    go Medium Over = answers kind.Reply task.no (leaves task.no s)

asks : (number : ℕ) (found : Option Arrival) (s : State) → Stays s (after_asked number found s)
asks number None s = refl
asks number (Some arrival) s = go arrival.work
  where
    go : (w : KeptWork) → Stays s (asked_for number w s)
    go (work.Cmd command) = refl
    go (work.Ask ask) = refl

closes : (found : Option Open) (s : State) → Stays s (closed found s)
closes None s = refl
closes (Some function) s = refl

to_a : (k : Kind2) (number : ℕ) (s : State) → Stays s (came_to_a k number s)
to_a kind.Ask number s = refl
to_a kind.Function number s = refl
to_a kind.Finish number s = refl
to_a kind.Stopped number s = refl
to_a kind.Grant number s = refl
to_a kind.Stop number s = refl
to_a kind.Reply number s = refl
to_a kind.Response number s = refl

grants : (found : Option Task) (s : State) → Stays s (after_grant found s)
grants None s = refl
grants (Some task) s = go task.stage
  where
    go : (stage : Stage) → Stays s (begun_at_b stage task s)
    go Granted = refl
    go Waiting = refl
    go (Here done got) = refl
    go (There done got) = refl
    go Over = refl

to_b : (k : Kind2) (number : ℕ) (s : State) → Stays s (came_to_b k number s)
to_b kind.Grant number s = grants (task_of number s.tasks) s
to_b kind.Ask number s = refl
to_b kind.Function number s = refl
to_b kind.Finish number s = refl
to_b kind.Stopped number s = refl
to_b kind.Stop number s = refl
to_b kind.Reply number s = refl
to_b kind.Response number s = refl

delivers : (node : Node) (k : Kind2) (number : ℕ) (s : State) → Stays s (after_deliver node k number s)
delivers A k number s = to_a k number _
delivers B k number s = to_b k number _

stays : (e : Event) (s : State) → Stays s (after_event e None s)
stays (event.Came number node line) s = refl
stays (event.Enter number) s = enters number (arrival_of number s) s
stays (event.Turned number) s = answers kind.Reply number s
stays (event.Begun number) s = stages (Here 0 []) (task_of number s.tasks) s
stays (event.Granted number) s = stages Granted (task_of number s.tasks) s
stays (event.Moved number count) s = moves (task_of number s.tasks) count s
stays (event.Ended number) s = ends (task_of number s.tasks) s
stays (event.Cut number puts why told) s = cuts why (task_of number s.tasks) s
stays (event.Asked number) s = asks number (arrival_of number s) s
stays (event.Closed number outcome) s =
    let first = answers kind.Response number (closed (function_of number s.functions) s) in
    let second = closes (function_of number s.functions) s in
    first ∙ second
stays (event.Deliver node k number) s = delivers node k number s

-- events without works leave the works that came
stays_once : (s : State) (l : Logged) → l.work ≡ None → (after s l).arrivals ≡ s.arrivals
unfolding after
stays_once s l none = rw none (stays l.event s)

pub arrivals_stay : (s : State) (journal : List Logged) → works_in journal ≡ [] → (after_events s journal).arrivals ≡ s.arrivals
arrivals_stay s [] none = refl
arrivals_stay s (l ∷ journal) none = go (arrivals_stay (after s l) journal) l.work refl none
  where
    go : (works_in journal ≡ [] → (after_events (after s l) journal).arrivals ≡ (after s l).arrivals) → (came : Option KeptWork) → l.work ≡ came → cons_option came (works_in journal) ≡ [] → (after_events (after s l) journal).arrivals ≡ s.arrivals
    go rest None same h = rest h ∙ stays_once s l same
    go rest (Some w) same h = absurd cc
