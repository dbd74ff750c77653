-- What a pool keeps, and how its parts are seen.
use Rattle.std.specs.Prelude.{◌≡◌, ℕ, ◌+◌, ◌<◌, ◌≤◌, ◌^◌, ⊤, List, [], length, map, Option, Some, None, option_map}
use Rattle.std.specs.List.{All}
use Rattle.slab.specs.Slab.{Slab, get, slab_len}
use Rattle.ct_word.specs.Kept.{Kept}
use Rattle.ct_pool.specs.Leases.{PoolState, blocks_out}

-- a list of blocks
abbrev pub Blocks : Type 0
Blocks = Kept (List ℕ)

-- the blocks of each lease
abbrev pub leases_of : List (Option Blocks) → List (Option (List (List ℕ)))
leases_of slots = map (option_map (λ blocks. blocks.items)) slots

-- a block has all its bytes
abbrev pub IsWhole : List ℕ → Type 0
IsWhole block = length block ≡ 512

-- so many blocks went from one list to another
pub record Moves (from to from' to' : Blocks) (count : ℕ) : Type 0 where
  pub left : length from'.items + count ≡ length from.items
  pub left_room : from'.room ≡ from.room + count
  pub moved : length to'.items ≡ length to.items + count
  pub moved_room : to'.room + count ≡ to.room
  pub whole : All IsWhole to.items → All IsWhole to'.items

-- there is room for so many blocks in all
abbrev pub HasRoom : ℕ → Option Blocks → Type 0
HasRoom size None = ⊤
HasRoom size (Some blocks) = length blocks.items + blocks.room ≡ size

-- a list for a lease to come
pub record IsSpare (size : ℕ) (blocks : Blocks) : Type 0 where
  pub empty : blocks.items ≡ []
  pub room : blocks.room ≡ size

-- what a pool keeps
pub record IsSound (size contexts : ℕ) (free : Blocks) (slots : Slab Blocks) (spare : Kept Blocks) : Type 0 where
  pub small : size < 2 ^ 32
  pub few : contexts < 2 ^ 32
  pub free_size : length free.items + free.room ≡ size
  pub conserved : blocks_out (leases_of slots.slots) ≡ free.room
  pub sized : (key : ℕ) → HasRoom size (get slots key)
  pub spares : All (IsSpare size) spare.items
  pub spare_size : length spare.items + spare.room ≡ contexts
  pub out : slab_len slots ≡ spare.room
  pub capacity : contexts ≤ slots.capacity

-- what contracts see of it
abbrev pub state_of : ℕ → ℕ → Blocks → Slab Blocks → PoolState
state_of size contexts free slots =
    record { size = size; contexts = contexts; free = length free.items; leases = leases_of slots.slots }
