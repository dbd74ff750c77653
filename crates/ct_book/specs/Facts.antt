-- What each event tells of a work: a row an event.
use Rattle.std.specs.Prelude.{ℕ, Bool, true, false, Option, None, Some, is_none}
use Rattle.ct_book.specs.declared.event.Event.{Event}
use Rattle.ct_book.specs.declared.event.Event.TheVariants.{Came, Enter, Turned, Begun, Granted, Moved, Ended, Cut, Asked, Closed, Deliver}
use Rattle.ct_book.specs.declared.event.Why.{Why}
use Rattle.ct_book.specs.declared.event.Why.TheVariants.{By, Medium}

-- of which works an event can tell: of one that comes by it, or of one that has come: any, a command, a function
pub data About : Type 0 where
  NewWork : About
  AnyWork : About
  ACommand : About
  AFunction : About

-- the number of the work; of which works the event can tell; the work that cut it; whether a reply counts with the event;
-- whether the work is done by it, so that it is the work's entry in the history
pub record Facts : Type 0 where
  pub no : ℕ
  pub about : About
  pub by : Option ℕ
  pub has_reply : Bool
  pub is_entry : Bool

abbrev facts : ℕ → About → Option ℕ → Bool → Bool → Facts
facts number about by has_reply is_entry =
    record { no = number; about = about; by = by; has_reply = has_reply; is_entry = is_entry }

abbrev pub cutter_of : Why → Option ℕ
cutter_of (By by) = Some by
cutter_of Medium = None

abbrev pub facts_of : Event → Facts
facts_of (Came number node line) = facts number NewWork None false false
facts_of (Enter number) = facts number ACommand None false false
facts_of (Turned number) = facts number ACommand None true true
facts_of (Begun number) = facts number ACommand None false false
facts_of (Granted number) = facts number ACommand None false false
facts_of (Moved number count) = facts number ACommand None false false
facts_of (Ended number) = facts number ACommand None true true
facts_of (Cut number puts why told) = facts number ACommand (cutter_of why) (is_none (cutter_of why)) true
facts_of (Asked number) = facts number AFunction None false false
facts_of (Closed number outcome) = facts number AFunction None false true
facts_of (Deliver node kind number) = facts number AnyWork None false false
