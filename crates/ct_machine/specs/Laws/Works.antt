-- What an act brings, and what it takes of the room for works.
use Rattle.std.specs.Prelude.{◌≡◌, ℕ, ◌+◌, ◌-◌, List, [], ◌∷◌, ◌++◌, length, if◌then◌else◌, fold}
use Rattle.ct_word.specs.declared.names.Room.{Room}
use Rattle.ct_tmf.specs.declared.function.Ask.{Ask}
use Rattle.ct_book.specs.declared.work.Work.TheVariants as work
use Rattle.ct_book.specs.Journals.{KeptWork}
use Rattle.ct_exec.specs.Executions.{plan_in}
use Rattle.ct_machine.specs.declared.act.Act.{Act}
use Rattle.ct_machine.specs.declared.act.Act.TheVariants as act
use Rattle.ct_machine.specs.States.{State}
use Rattle.ct_machine.specs.Events.Functions.{works_of}
use Rattle.ct_machine.specs.Acts.Arrivals.{has_room_for}

-- the works that an act brings: that of an arrival for which there is room
abbrev pub brought : State → Act → List KeptWork
brought s (act.Arrive node came) = if has_room_for came s then came ∷ [] else []
brought s _ = []

-- what a work leaves of a room: a command also takes the block operations of its plan
abbrev pub room_without : ℕ → Room → KeptWork → Room
room_without blocks room (work.Cmd command) = record room { commands = room.commands - 1; pieces = room.pieces - length (plan_in blocks command) }
room_without blocks room (work.Ask ask) = record room { functions = room.functions - 1 }

-- works come by arrivals alone, and take their room
pub record Brings (before after : State) (done : Act) : Type 0 where
  pub works : works_of after ≡ works_of before ++ brought before done
  pub room : after.room ≡ fold (room_without (length before.blocks)) before.room (brought before done)
  pub size : length after.blocks ≡ length before.blocks
