-- What the calls of a unit do.
use Rattle.std.specs.Prelude.{◌≡◌, ℕ, zero, suc, ◌+◌, ◌-◌, ◌≤◌, List, [], ◌++◌, ◌∷◌, length, Option, None, Some, slice_set, remove, Bool, false}
use Rattle.ct_sense.specs.declared.reply.Reply.{Reply}
use Rattle.ct_pool.specs.Leases.{Gives}
use Rattle.ct_plan.specs.declared.task.Task.{Task as PlanTask}
use Rattle.ct_plan.specs.declared.task.Piece.{Piece}
use Rattle.ct_plan.specs.Pieces.{Advances, Uses, fault_in, faults_at}
use Rattle.ct_plan.specs.Tasks.{IsReady, asked}
use Rattle.ct_matrix.specs.Queues.{without}
use Rattle.ct_book.specs.declared.event.Event.{Event}
use Rattle.ct_book.specs.declared.event.Event.TheVariants as event
use Rattle.ct_book.specs.declared.event.Why.TheVariants.{Medium}
use Rattle.ct_book.specs.declared.event.Logged.{Logged}
use Rattle.ct_book.specs.Journals.{BookState, with_event, with_reply}
use Rattle.ct_exec.specs.declared.refusal.Refusal.{Refusal}
use Rattle.ct_exec.specs.Executions.{good, execute}
use Rattle.ct_exec.specs.Refusals.{refused_reply}
use Rattle.ct_machine.specs.declared.act.Answer.{Answer}
use Rattle.ct_machine.specs.declared.act.Answer.TheVariants as answer
use Rattle.ct_machine.specs.States.{State, arrival_of}
use Rattle.ct_machine.specs.Events.{after_events}
use Rattle.ct_machine.specs.Acts.Answers.{Done, line_by}
use Rattle.ct_machine.specs.Acts.Begins.{clearing_all}
use Rattle.ct_lun.specs.declared.said.Entered.{Entered}
use Rattle.ct_lun.specs.declared.said.Entered.TheVariants as entered
use Rattle.ct_lun.specs.declared.said.Stepped.{Stepped}
use Rattle.ct_lun.specs.declared.said.Stepped.TheVariants as stepped
use Rattle.ct_lun.specs.Apart.{Each}
use Rattle.ct_lun.specs.Desk.{Desk, slot_at, with_control}
use Rattle.ct_lun.specs.States.{command_in, state_of}
use Rattle.ct_lun.specs.Agreement.{IsLeft, Agrees, AgreesWith}
use Rattle.ct_lun.specs.Rooms.{room_of}

-- the command at a place made some operations on the medium
pub record Goes (desk desk' : Desk) (at count : ℕ) (out : List ℕ) (piece : Piece) : Type 0 where
  pub task : PlanTask
  pub moved : Advances out (asked (slot_at desk.slots at).task count) (slot_at desk.slots at).task task desk.blocks desk'.blocks piece (fault_in piece)
  pub slots : desk'.slots ≡ slice_set desk.slots at (record (slot_at desk.slots at) { task = task })
  pub pool : Uses desk.pool desk'.pool (slot_at desk.slots at).task.lease
  pub ready : IsReady (length out) (length desk'.blocks) desk'.pool task
  pub control : desk'.control ≡ desk.control
  pub set : desk'.set ≡ desk.set
  pub counted : desk'.faults ≡ desk.faults + faults_at (fault_in piece)

-- the command at a place left the task set, and its blocks are free
pub record Leaves (desk desk' : Desk) (at : ℕ) : Type 0 where
  pub set : desk'.set ≡ record desk.set { commands = without (slot_at desk.slots at).no desk.set.commands }
  pub slots : desk'.slots ≡ remove desk.slots at
  pub pool : Gives desk.pool desk'.pool (slot_at desk.slots at).task.lease
  pub control : desk'.control ≡ desk.control
  pub blocks : desk'.blocks ≡ desk.blocks
  pub faults : desk'.faults ≡ desk.faults

-- the reply of a command that ends: why it is refused or failed, or its data
abbrev pub ending_reply : Option Refusal → List ℕ → Reply
ending_reply (Some refusal) got = refused_reply refusal
ending_reply None got = good got

-- the book with the reply of a command, and the event with which it counts
abbrev pub closed_book : BookState → ℕ → Reply → Event → BookState
closed_book book number reply event = with_event (with_reply book number reply) event

-- an event by which a command is over: it ended, or the medium failed it
pub data IsOver (number : ℕ) : Event → Type 0 where
  by_end : IsOver number (event.Ended number)
  by_medium : (puts : ℕ) → IsOver number (event.Cut number puts Medium false)

-- a call wrote these events, and led the unit and the book to the state behind them
pub record Wrote (desk desk' : Desk) (book book' : BookState) (events : List Logged) : Type 0 where
  pub journal : book'.journal ≡ book.journal ++ events
  pub state : state_of desk' book' ≡ after_events (state_of desk book) events
  pub agrees : Agrees desk' book'
  pub spare : book'.spare + length events ≡ book.spare

-- an event that counts alone, and one with a reply
abbrev pub told : Event → Logged
told event = record { event = event; work = None; reply = None }

abbrev pub replied : Event → Reply → Logged
replied event reply = record { event = event; work = None; reply = Some reply }

-- what is written of a command that made so many operations
abbrev pub moved_journal : ℕ → ℕ → List Logged
moved_journal number zero = []
moved_journal number (suc count) = told (event.Moved number (suc count)) ∷ []

-- the book behind a piece
abbrev pub moved_book : BookState → ℕ → ℕ → BookState
moved_book book number count = record book { journal = book.journal ++ moved_journal number count; spare = book.spare - length (moved_journal number count) }

-- the command at a place was executed at once, which left the blocks as they were, and cleared these nexuses, of which
-- no command was cut yet
pub record EndsAtOnce (desk desk' : Desk) (book book' : BookState) (at : ℕ) (cleared : List Bool) : Type 0 where
  pub reply : Reply
  pub leaves : Leaves (with_control desk desk'.control) desk' at
  pub execution : execute (record { control = desk.control; blocks = desk.blocks }) (command_in book.works (slot_at desk.slots at).no) ≡ record { disk = record { control = desk'.control; blocks = desk.blocks }; reply = reply; cleared = cleared }
  pub kept : book' ≡ closed_book book (slot_at desk.slots at).no reply (event.Ended (slot_at desk.slots at).no)

-- the room that the state asks for fell by as many events at least
abbrev pub Spends : Desk → Desk → BookState → BookState → ℕ → Type 0
Spends desk desk' book book' count = room_of (state_of desk' book') + count ≤ room_of (state_of desk book)

-- how many commands were cut by a fault of the medium
abbrev pub medium_cuts_at : Event → ℕ
medium_cuts_at (event.Cut number puts Medium told) = 1
medium_cuts_at _ = 0

abbrev pub medium_cuts : List Logged → ℕ
medium_cuts [] = 0
medium_cuts (logged ∷ journal) = medium_cuts_at logged.event + medium_cuts journal

-- of the commands with these numbers, in their order, the waiting ones of these nexuses were cut by a command that cleared
-- the nexuses
pub record Clears (desk desk' : Desk) (book book' : BookState) (by : ℕ) (cleared : List Bool) (numbers : List ℕ) : Type 0 where
  pub wrote : Wrote desk desk' book book' (clearing_all by cleared numbers (state_of desk book)).journal
  pub spends : Spends desk desk' book book' (length (clearing_all by cleared numbers (state_of desk book)).journal)
  pub left : Each IsLeft desk'.slots
  pub faults : desk'.faults ≡ desk.faults

-- a call did what the machine does; where the medium failed once, one command was cut for it, and else none
pub record Does (desk desk' : Desk) (book book' : BookState) (outcome : Option ℕ → Done) (said : Answer) : Type 0 where
  pub fault : Option ℕ
  pub journal : book'.journal ≡ book.journal ++ (outcome fault).turn.journal
  pub answer : said ≡ (outcome fault).answer
  pub state : state_of desk' book' ≡ after_events (state_of desk book) (outcome fault).turn.journal
  pub agrees : AgreesWith desk' book'
  pub spare : book'.spare + length (outcome fault).turn.journal ≡ book.spare
  pub room : room_of (state_of desk' book') + length (outcome fault).turn.journal ≤ room_of (state_of desk book)
  pub counted : desk'.faults ≡ desk.faults + faults_at fault
  pub cuts : medium_cuts (outcome fault).turn.journal ≡ faults_at fault

-- the machine's answers
abbrev pub entered_as : Option Reply → Entered
entered_as None = entered.Queued
entered_as (Some reply) = entered.Turned

abbrev pub said : ℕ → State → Stepped → Answer
said number s stepped.Moved = answer.Moved number
said number s stepped.Ended = answer.Ended number (line_by (arrival_of number s))
said number s (stepped.Blocked by) = answer.Blocked by
said number s stepped.Gone = answer.Gone

abbrev pub said_next : State → Option (ℕ × Stepped) → Answer
said_next s None = answer.Idle
said_next s (Some (number, step)) = said number s step
