-- Commands, and the room for the data that they return.
use Rattle.std.specs.Prelude.{◌≡◌, ℕ, ◌≤◌, List, []}
use Rattle.ct_word.specs.Kept.{Kept}
use Rattle.ct_word.specs.Nexuses.{IsNexus}
use Rattle.ct_cdb.specs.declared.profile.Profile.{Profile}
use Rattle.ct_cdb.specs.Forms.{cdb_of}
use Rattle.ct_cdb.specs.Profiles.{profile_by, room_of}
use Rattle.ct_book.specs.declared.work.Command.{Command}

-- what a command means, on a disk of so many blocks: its row
unfoldable pub profile_in : ℕ → Command → Profile
profile_in blocks command = profile_by (cdb_of command.cdb) command.out blocks

-- the most bytes of data-in that a CDB can ask for; one that doesn't decode returns none
unfoldable pub room_for : List ℕ → ℕ
room_for cdb = room_of (cdb_of cdb)

-- a command of a nexus, with an empty list that has room for its data
pub record IsReady (command : Command) (body : Kept ℕ) : Type 0 where
  pub nexus : IsNexus command.nexus
  pub empty : body.items ≡ []
  pub room : room_for command.cdb ≤ body.room
