-- At which node a port is, and which logical unit a nexus sees under a number. Ports and numbers are below 16.
use Rattle.std.specs.Prelude.{◌≡◌, ℕ, ◌+◌, ◌*◌, List, Bool, ◌&&◌, ◌==◌, nat_lt, if◌then◌else◌, length, replicate, slice_index_or, slice_set, Option, None, Some}
use Rattle.std.specs.Int.{bit_at}
use Rattle.ct_word.specs.Nexuses.{place_of, is_same_nexus}
use Rattle.ct_word.specs.declared.names.LunNo.{LunNo}
use Rattle.ct_word.specs.declared.names.Nexus.{Nexus}
use Rattle.ct_word.specs.declared.names.Node.{Node}

-- the node of each port that is there, at the port's place, and the logical unit that is seen under each number of each
-- nexus, at its place
pub record Declared : Type 0 where
  pub nodes : List (Option Node)
  pub units : List (Option LunNo)

-- there are places for 16 ports, and for 16 numbers of 256 nexuses
pub record HasPlaces (declared : Declared) : Type 0 where
  pub ports : length declared.nodes ≡ 16
  pub numbers : length declared.units ≡ 4096

unfoldable pub nothing_declared : Declared
nothing_declared = record { nodes = replicate 16 None; units = replicate 4096 None }

-- the node of a port, where the port is there
unfoldable pub node_of : Declared → ℕ → Option Node
node_of declared port = slice_index_or declared.nodes port None

unfoldable pub with_port : Declared → ℕ → Node → Declared
with_port declared port node = record { nodes = slice_set declared.nodes port (Some node); units = declared.units }

-- a number of a nexus that can be seen
abbrev pub is_place : Nexus → ℕ → Bool
is_place nexus x = nat_lt nexus.port 16 && nat_lt nexus.init 16 && nat_lt x 16

abbrev pub place_in : Nexus → ℕ → ℕ
place_in nexus x = place_of nexus * 16 + x

abbrev pub is_same_place : Nexus → ℕ → Nexus → ℕ → Bool
is_same_place nexus x other y = is_same_nexus nexus other && (x == y)

-- the logical unit that a nexus sees under a number, where it sees one
unfoldable pub unit_of : Declared → Nexus → ℕ → Option LunNo
unit_of declared nexus x = if is_place nexus x then slice_index_or declared.units (place_in nexus x) None else None

unfoldable pub with_unit : Declared → Nexus → ℕ → LunNo → Declared
with_unit declared nexus x unit =
    record { nodes = declared.nodes; units = slice_set declared.units (place_in nexus x) (Some unit) }

-- the numbers under which a nexus sees logical units, as a set of bits
abbrev pub bit_of : Option LunNo → ℕ
bit_of None = 0
bit_of (Some unit) = 1

abbrev pub IsVisible : Declared → Nexus → ℕ → Type 0
IsVisible declared nexus visible = (x : ℕ) → bit_at visible x ≡ bit_of (unit_of declared nexus x)
