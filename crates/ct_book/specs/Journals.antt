-- The journal of a logical unit, as contracts see it.
use Rattle.std.specs.Prelude.{◌≡◌, ℕ, zero, suc, ◌+◌, ◌-◌, List, [], ◌∷◌, ◌++◌, length, slice_get, slice_set, Bool, true, false, ◌&&◌, nat_lt, nat_le, if◌then◌else◌, Option, None, Some, option_and_then}
use Rattle.std.specs.List.{filter_map}
use Rattle.ct_word.specs.declared.names.Node.{Node}
use Rattle.ct_sense.specs.declared.reply.Reply.{Reply}
use Rattle.ct_book.specs.declared.work.Command.{Command}
use Rattle.ct_book.specs.declared.work.Work.{Work}
use Rattle.ct_book.specs.declared.work.Work.TheVariants as work
use Rattle.ct_book.specs.declared.event.Event.{Event}
use Rattle.ct_book.specs.declared.event.Event.TheVariants.{Came}
use Rattle.ct_book.specs.declared.event.Logged.{Logged}
use Rattle.ct_book.specs.Facts.{facts_of}

-- a work as it is kept: a command or a function
abbrev pub KeptWork : Type 0
KeptWork = Work Command

-- the item with a number, from 1
abbrev pub numbered : {A : Type 0} → ℕ → List A → Option A
numbered zero items = None
numbered (suc before) items = slice_get items before

-- the works of a journal, by number
abbrev pub works_in : List Logged → List KeptWork
works_in journal = filter_map (λ (logged : Logged). logged.work) journal

-- what contracts see of a book: the journal, the works and the replies by number, of which works the empty
-- list for the data-in wasn't taken, how many commands, functions and block operations can still come, and
-- how many events can still be written
pub record BookState : Type 0 where
  pub journal : List Logged
  pub works : List KeptWork
  pub replies : List (Option Reply)
  pub untaken : List Bool
  pub commands : ℕ
  pub functions : ℕ
  pub pieces : ℕ
  pub spare : ℕ

abbrev pub is_command : KeptWork → Bool
is_command (work.Cmd command) = true
is_command (work.Ask ask) = false

abbrev pub line_of : KeptWork → ℕ
line_of (work.Cmd command) = command.line
line_of (work.Ask ask) = ask.line

-- there is room for one more work, and for so many block operations
abbrev pub has_room : BookState → KeptWork → ℕ → Bool
has_room book (work.Cmd command) pieces = nat_lt 0 book.commands && nat_le pieces book.pieces
has_room book (work.Ask ask) pieces = nat_lt 0 book.functions && nat_le pieces book.pieces

abbrev pub used_by : KeptWork → BookState → BookState
used_by (work.Cmd command) book = record book { commands = book.commands - 1 }
used_by (work.Ask ask) book = record book { functions = book.functions - 1 }

-- the event of an arrival, with its work
abbrev pub arrived : ℕ → Node → KeptWork → Logged
arrived number node came = record { event = Came number node (line_of came); work = Some came; reply = None }

-- the book after an arrival, which takes the next number
abbrev pub with_work : BookState → Node → KeptWork → ℕ → BookState
with_work book node came pieces = record (used_by came book) {
  journal = book.journal ++ arrived (length book.works + 1) node came ∷ [];
  works = book.works ++ came ∷ [];
  replies = book.replies ++ None ∷ [];
  untaken = book.untaken ++ is_command came ∷ [];
  pieces = book.pieces - pieces;
  spare = book.spare - 1;
}

-- the reply that stands under a number
abbrev pub reply_in : List (Option Reply) → ℕ → Option Reply
reply_in replies number = option_and_then (λ reply. reply) (numbered number replies)

abbrev pub reply_of : BookState → ℕ → Option Reply
reply_of book number = reply_in book.replies number

-- the reply that counts with an event, if one does
abbrev pub reply_at : List (Option Reply) → Event → Option Reply
reply_at replies event = if (facts_of event).has_reply then reply_in replies (facts_of event).no else None

abbrev pub reply_with : BookState → Event → Option Reply
reply_with book event = reply_at book.replies event

-- an event that is no arrival, as it counts in the journal
abbrev pub told_in : BookState → Event → Logged
told_in book event = record { event = event; work = None; reply = reply_with book event }

-- the book after an event that is no arrival
abbrev pub with_event : BookState → Event → BookState
with_event book event = record book { journal = book.journal ++ told_in book event ∷ []; spare = book.spare - 1 }

-- the book with the reply of a command
abbrev pub with_reply : BookState → ℕ → Reply → BookState
with_reply book number reply = record book { replies = slice_set book.replies (number - 1) (Some reply) }

-- the book when the empty list of a command was taken
abbrev pub without_body : BookState → ℕ → BookState
without_body book number = record book { untaken = slice_set book.untaken (number - 1) false }

-- an arrival has the next number and the line of its work; no other event counts with a work
abbrev pub IsInOrder : ℕ → Event → Option KeptWork → Type 0
IsInOrder next (Came number node line) (Some came) = (number ≡ next) × (line ≡ line_of came)
IsInOrder next (Came number node line) None = ⊥
IsInOrder next _ (Some came) = ⊥
IsInOrder next _ None = Unit {0}

-- the k-th arrival of a journal, behind so many works, has the number k and its work's line
abbrev pub IsNumberedFrom : ℕ → List Logged → Type 0
IsNumberedFrom works [] = Unit {0}
IsNumberedFrom works (logged ∷ journal) =
    IsInOrder (suc works) logged.event logged.work × IsNumberedFrom (length (works_in (logged ∷ [])) + works) journal

abbrev pub IsNumbered : List Logged → Type 0
IsNumbered journal = IsNumberedFrom 0 journal
