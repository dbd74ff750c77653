-- How a book is kept: the events by themselves, and the works, bodies and replies by number.
use Rattle.std.specs.Prelude.{◌≡◌, ℕ, ◌+◌, ◌*◌, ◌<◌, ◌≤◌, ◌^◌, List, [], ◌∷◌, length, map, slice_get, Bool, true, false}
use Rattle.std.specs.Prelude.{Option, None, Some, IsSome, IfSome, IsSomeAnd}
use Rattle.ct_word.specs.Kept.{Kept}
use Rattle.ct_word.specs.declared.names.Room.{Room}
use Rattle.ct_word.specs.Nexuses.{IsNexus}
use Rattle.ct_sense.specs.declared.reply.Reply.{Reply}
use Rattle.ct_book.specs.declared.work.Work.TheVariants as work
use Rattle.ct_book.specs.declared.event.Event.{Event}
use Rattle.ct_book.specs.declared.event.Event.TheVariants.{Came, Enter, Turned, Begun, Granted, Moved, Ended, Cut}
use Rattle.ct_book.specs.declared.event.Event.TheVariants.{Asked, Closed, Deliver}
use Rattle.ct_book.specs.declared.event.Logged.{Logged}
use Rattle.ct_book.specs.Works.{IsReady}
use Rattle.ct_book.specs.Facts.{About, NewWork, AnyWork, ACommand, AFunction, facts_of}
use Rattle.ct_book.specs.Journals.{KeptWork, BookState, numbered, works_in, is_command, reply_of, reply_at, IsNumbered}

-- the work that counts with an event: that of an arrival
abbrev pub work_at : List KeptWork → Event → Option KeptWork
work_at works (Came number node line) = numbered number works
work_at works (Enter number) = None
work_at works (Turned number) = None
work_at works (Begun number) = None
work_at works (Granted number) = None
work_at works (Moved number count) = None
work_at works (Ended number) = None
work_at works (Cut number puts why told) = None
work_at works (Asked number) = None
work_at works (Closed number outcome) = None
work_at works (Deliver node kind number) = None

-- an event, with what counts with it among the works and the replies
abbrev pub logged_with : List KeptWork → List (Option Reply) → Event → Logged
logged_with works replies event = record { event = event; work = work_at works event; reply = reply_at replies event }

abbrev pub logged_in : BookState → Event → Logged
logged_in book event = logged_with book.works book.replies event

abbrev pub logged_all : List KeptWork → List (Option Reply) → List Event → List Logged
logged_all works replies events = map (logged_with works replies) events

-- how many events a room is for
abbrev pub events_for : Room → ℕ
events_for room = room.pieces + 10 * room.commands + 12 * room.functions

-- an empty book with this room
abbrev pub empty_book : Room → BookState
empty_book room = record {
  journal = [];
  works = [];
  replies = [];
  untaken = [];
  commands = room.commands;
  functions = room.functions;
  pieces = room.pieces;
  spare = events_for room;
}

-- a number that was given to a command, or to a function
abbrev pub IsCommandNo : BookState → ℕ → Type 0
IsCommandNo book number = IsSomeAnd (numbered number book.works) (λ came. is_command came ≡ true)

abbrev pub IsFunctionNo : BookState → ℕ → Type 0
IsFunctionNo book number = IsSomeAnd (numbered number book.works) (λ came. is_command came ≡ false)

abbrev pub IsWorkNo : BookState → ℕ → Type 0
IsWorkNo book number = IsSome (numbered number book.works)

-- an event can tell of the work with a number: it came, and is of the kind
abbrev pub IsAbout : BookState → About → ℕ → Type 0
IsAbout book NewWork number = ⊥
IsAbout book AnyWork number = IsWorkNo book number
IsAbout book ACommand number = IsCommandNo book number
IsAbout book AFunction number = IsFunctionNo book number

abbrev pub IsCutter : BookState → Option ℕ → Type 0
IsCutter book None = Unit {0}
IsCutter book (Some by) = IsWorkNo book by

abbrev pub StandsIf : Bool → Option Reply → Type 0
StandsIf true reply = IsSome reply
StandsIf false reply = Unit {0}

-- an event can be written: it is no arrival, the works that it names came and are of their kinds, and the reply that
-- counts with it stands
abbrev pub CanBePushed : BookState → Event → Type 0
CanBePushed book event =
    let told = facts_of event in
    IsAbout book told.about told.no × IsCutter book told.by × StandsIf told.has_reply (reply_of book told.no)

abbrev pub IsAmongIf : Bool → ℕ → ℕ → Type 0
IsAmongIf true number came = number ≤ came
IsAmongIf false number came = Unit {0}

-- the reply that counts with an event stands; a work that is done was among so many works
abbrev pub IsSettled : ℕ → Event → Option Reply → Type 0
IsSettled came event reply =
    let told = facts_of event in
    StandsIf told.has_reply reply × IsAmongIf told.is_entry told.no came

-- the same of each event of a journal behind so many works
abbrev pub IsSettledFrom : ℕ → List Logged → Type 0
IsSettledFrom came [] = Unit {0}
IsSettledFrom came (logged ∷ journal) =
    IsSettled came logged.event logged.reply × IsSettledFrom (length (works_in (logged ∷ [])) + came) journal

-- a command's nexus is one
abbrev pub HasNexus : KeptWork → Type 0
HasNexus (work.Cmd command) = IsNexus command.nexus
HasNexus (work.Ask ask) = Unit {0}

-- an empty list with room for the data of a command
abbrev pub IsBodyOf : KeptWork → Kept ℕ → Type 0
IsBodyOf (work.Cmd command) body = IsReady command body
IsBodyOf (work.Ask ask) body = ⊥

-- what is kept of a body is that of its work, or it was taken, or the work is a function
abbrev pub IsKept : KeptWork → Option (Kept ℕ) → Type 0
IsKept came None = HasNexus came
IsKept came (Some body) = IsBodyOf came body

abbrev pub AreKept : List KeptWork → List (Option (Kept ℕ)) → Type 0
AreKept works bodies = (place : ℕ) (came : KeptWork) (body : Option (Kept ℕ)) → slice_get works place ≡ Some came → slice_get bodies place ≡ Some body → IsKept came body

-- a work that has just come under a number: no reply stands, and a command's empty list wasn't taken
pub record IsFresh (book : BookState) (number : ℕ) (came : KeptWork) : Type 0 where
  pub work : numbered number book.works ≡ Some came
  pub reply : reply_of book number ≡ None
  pub body : numbered number book.untaken ≡ Some (is_command came)

-- what is true of every book
pub record IsSound (book : BookState) : Type 0 where
  pub in_order : IsNumbered book.journal
  pub come : book.works ≡ works_in book.journal
  pub settled : IsSettledFrom 0 book.journal
  pub nexuses : (number : ℕ) → IfSome (numbered number book.works) HasNexus
  pub reply_each : length book.replies ≡ length book.works
  pub body_each : length book.untaken ≡ length book.works
  pub few_works : length book.works + (book.commands + book.functions) < 2 ^ 32
  pub few_events : length book.journal + book.spare < 2 ^ 32

pub record IsBook (events : Kept Event) (works : Kept KeptWork) (bodies : Kept (Option (Kept ℕ))) (replies : Kept (Option Reply)) (commands : ℕ) (functions : ℕ) : Type 0 where
  pub in_order : IsNumbered (logged_all works.items replies.items events.items)
  pub come : works.items ≡ works_in (logged_all works.items replies.items events.items)
  pub settled : IsSettledFrom 0 (logged_all works.items replies.items events.items)
  pub kept : AreKept works.items bodies.items
  pub reply_each : length replies.items ≡ length works.items
  pub body_each : length bodies.items ≡ length works.items
  pub work_room : works.room ≡ commands + functions
  pub reply_room : replies.room ≡ works.room
  pub body_room : bodies.room ≡ works.room
  pub few_works : length works.items + works.room < 2 ^ 32
  pub few_events : length events.items + events.room < 2 ^ 32
