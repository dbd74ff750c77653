-- What a law reads of a logical unit beside its journal.
use Rattle.std.specs.Prelude.{List}
use Rattle.ct_book.specs.declared.event.Logged.{Logged}
use Rattle.ct_machine.specs.declared.act.Opening.{Opening}
use Rattle.ct_machine.specs.Entrances.{Standing}
use Rattle.ct_machine.specs.Acts.Entries.{standing_of}
use Rattle.ct_machine.specs.Runs.{replay}

-- for each beginning of a journal, what the unit stood at behind it
abbrev pub Standings : Type 0
Standings = List Logged → Standing

-- the machine's own: what the beginning leads to
abbrev pub standings_of : Opening → Standings
standings_of o before = standing_of (replay o before)
