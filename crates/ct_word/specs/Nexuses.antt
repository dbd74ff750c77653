-- I_T nexuses, and sets of them (SAM-5, 3.1).
use Rattle.std.specs.Prelude.{ℕ, ◌+◌, ◌*◌, ◌<◌, List, Bool, true, false, ◌&&◌, ◌==◌, nat_lt, if◌then◌else◌}
use Rattle.std.specs.Prelude.{replicate, slice_index_or, slice_set}
use Rattle.ct_word.specs.declared.names.Nexus.{Nexus}

-- both numbers are below 16
pub record IsNexus (nexus : Nexus) : Type 0 where
  pub port : nexus.port < 16
  pub init : nexus.init < 16

abbrev pub is_same_nexus : Nexus → Nexus → Bool
is_same_nexus a b = (a.port == b.port) && (a.init == b.init)

-- a set tells of each of the 256 nexuses, at its place, whether it is in the set; two numbers that are no nexus have no
-- place among them
abbrev pub place_of : Nexus → ℕ
place_of nexus = if nat_lt nexus.port 16 && nat_lt nexus.init 16 then nexus.port * 16 + nexus.init else 256

unfoldable pub no_nexuses : List Bool
no_nexuses = replicate 256 false

abbrev pub contains : List Bool → Nexus → Bool
contains set nexus = slice_index_or set (place_of nexus) false

abbrev pub with_nexus : List Bool → Nexus → List Bool
with_nexus set nexus = slice_set set (place_of nexus) true

-- the set of one nexus
abbrev pub only_nexus : Nexus → List Bool
only_nexus nexus = with_nexus no_nexuses nexus
