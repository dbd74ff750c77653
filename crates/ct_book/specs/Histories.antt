-- The history of a logical unit: how its works were done, in the order in which they were.
use Rattle.std.specs.Prelude.{ℕ, List, [], ◌∷◌, ◌++◌, Bool, ◌==◌, Option, Some, if◌then◌else◌}
use Rattle.ct_word.specs.declared.names.Nexus.{Nexus}
use Rattle.ct_word.specs.Nexuses.{is_same_nexus, no_nexuses, with_nexus}
use Rattle.ct_tmf.specs.declared.function.Function.{Function}
use Rattle.ct_tmf.specs.declared.function.Function.TheVariants.{ClearTaskSet}
use Rattle.ct_book.specs.declared.work.Work.TheVariants as work
use Rattle.ct_book.specs.declared.event.Event.{Event}
use Rattle.ct_book.specs.declared.event.Event.TheVariants as event
use Rattle.ct_book.specs.declared.event.Why.TheVariants.{By, Medium}
use Rattle.ct_book.specs.declared.event.Logged.{Logged}
use Rattle.ct_book.specs.declared.event.Entry.{Entry}
use Rattle.ct_book.specs.declared.event.Entry.TheVariants as entry
use Rattle.ct_book.specs.Facts.{facts_of}
use Rattle.ct_book.specs.Journals.{KeptWork, numbered, works_in}

-- the numbers of the commands that a function, or another command, cut by so far
abbrev pub cut_at : ℕ → Event → List ℕ
cut_at by (event.Came number node line) = []
cut_at by (event.Enter number) = []
cut_at by (event.Turned number) = []
cut_at by (event.Begun number) = []
cut_at by (event.Granted number) = []
cut_at by (event.Moved number count) = []
cut_at by (event.Ended number) = []
cut_at by (event.Cut number puts (By cutter) told) = if cutter == by then number ∷ [] else []
cut_at by (event.Cut number puts Medium told) = []
cut_at by (event.Asked number) = []
cut_at by (event.Closed number outcome) = []
cut_at by (event.Deliver node kind number) = []

abbrev pub cut_by : ℕ → List Logged → List ℕ
cut_by by [] = []
cut_by by (logged ∷ journal) = cut_at by logged.event ++ cut_by by journal

-- a set with the nexus of a command, where it is another than the asker's
abbrev pub with_other : Nexus → Option KeptWork → List Bool → List Bool
with_other asker (Some (work.Cmd command)) set =
    if is_same_nexus command.nexus asker then set else with_nexus set command.nexus
with_other asker _ set = set

-- the nexuses of some commands, but the asker's
abbrev pub others_of : Nexus → List KeptWork → List ℕ → List Bool
others_of asker works [] = no_nexuses
others_of asker works (number ∷ numbers) = with_other asker (numbered number works) (others_of asker works numbers)

-- a set with the nexus of the command that an event says was cut by a work, where it is another than the asker's
abbrev pub with_cut : ℕ → Nexus → List KeptWork → Event → List Bool → List Bool
with_cut by asker works (event.Came number node line) set = set
with_cut by asker works (event.Enter number) set = set
with_cut by asker works (event.Turned number) set = set
with_cut by asker works (event.Begun number) set = set
with_cut by asker works (event.Granted number) set = set
with_cut by asker works (event.Moved number count) set = set
with_cut by asker works (event.Ended number) set = set
with_cut by asker works (event.Cut number puts (By cutter) told) set =
    if cutter == by then with_other asker (numbered number works) set else set
with_cut by asker works (event.Cut number puts Medium told) set = set
with_cut by asker works (event.Asked number) set = set
with_cut by asker works (event.Closed number outcome) set = set
with_cut by asker works (event.Deliver node kind number) set = set

-- the set of a function's entry: for CLEAR TASK SET the other nexuses of which it cut a command
abbrev pub set_of : Function → Nexus → List KeptWork → List ℕ → List Bool
set_of ClearTaskSet asker works cut = others_of asker works cut
set_of _ asker works cut = no_nexuses

abbrev pub set_by : Option KeptWork → List KeptWork → List ℕ → List Bool
set_by (Some (work.Ask ask)) works cut = set_of ask.function ask.nexus works cut
set_by _ works cut = no_nexuses

-- the entry of a function that an event behind a journal answers
abbrev pub answered_at : List Logged → ℕ → Entry
answered_at before number =
    let works = works_in before in
    entry.Func number (set_by (numbered number works) works (cut_by number before))

-- how a work was done that was done by an event behind a journal: a command ended, was cut or refused, and else a
-- function was answered
abbrev pub entry_of : List Logged → Event → Entry
entry_of before (event.Ended number) = entry.Ran number
entry_of before (event.Cut number puts why told) = entry.Cut number puts why
entry_of before (event.Turned number) = entry.Turned number
entry_of before event = answered_at before (facts_of event).no

-- the entry of an event behind a journal, if it is one by which a work is done
abbrev pub entries_at : List Logged → Event → List Entry
entries_at before event = if (facts_of event).is_entry then entry_of before event ∷ [] else []

abbrev pub history_behind : List Logged → List Logged → List Entry
history_behind before [] = []
history_behind before (logged ∷ journal) =
    entries_at before logged.event ++ history_behind (before ++ logged ∷ []) journal

-- the entries of a journal, in order
unfoldable pub history_of : List Logged → List Entry
history_of journal = history_behind [] journal
