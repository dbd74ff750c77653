-- A pool of blocks and its leases, as contracts see them.
use Rattle.std.specs.Prelude.{◌≡◌, ◌≢◌, ℕ, ◌+◌, List, [], length, Option, Some, None, is_some, unwrap_or, count_by, slice_index_or, slice_set}
use Rattle.std.specs.List.{All, sum_by}

-- how many blocks the pool has, how many leases can be out at once, how many blocks are free, and by
-- its key the blocks of each lease that is out
pub record PoolState : Type 0 where
  pub size : ℕ
  pub contexts : ℕ
  pub free : ℕ
  pub leases : List (Option (List (List ℕ)))

-- a lease: its key, and how many blocks it has
pub record LeaseState : Type 0 where
  pub key : ℕ
  pub count : ℕ

-- the blocks of the lease with this key, if it is out
abbrev pub blocks_at : PoolState → ℕ → Option (List (List ℕ))
blocks_at pool key = slice_index_or pool.leases key None

-- the blocks of a lease
abbrev pub blocks_of : PoolState → LeaseState → List (List ℕ)
blocks_of pool lease = unwrap_or (blocks_at pool lease.key) []

-- how many leases are out
abbrev pub leases_out : PoolState → ℕ
leases_out pool = count_by is_some pool.leases

-- how many blocks a slot's lease has
abbrev pub count_in : Option (List (List ℕ)) → ℕ
count_in slot = length (unwrap_or slot [])

-- how many blocks the leases have that are out
abbrev pub blocks_out : List (Option (List (List ℕ))) → ℕ
blocks_out leases = sum_by count_in leases

-- the free blocks and the blocks of the leases that are out are all that the pool has
abbrev pub IsConserved : PoolState → Type 0
IsConserved pool = pool.free + blocks_out pool.leases ≡ pool.size

-- the lease is the pool's, and these are its blocks
pub record Holds (pool : PoolState) (lease : LeaseState) (blocks : List (List ℕ)) : Type 0 where
  pub found : blocks_at pool lease.key ≡ Some blocks
  pub count : length blocks ≡ lease.count

-- the lease is the pool's
abbrev pub IsLeaseOf : PoolState → LeaseState → Type 0
IsLeaseOf pool lease = Holds pool lease (blocks_of pool lease)

-- every lease with another key holds what it held
abbrev pub KeepsOthers : PoolState → PoolState → ℕ → Type 0
KeepsOthers old new key = (other : ℕ) → other ≢ key → blocks_at new other ≡ blocks_at old other

-- a new lease of so many blocks, which may hold any bytes
pub record Takes (old new : PoolState) (asked : ℕ) (lease : LeaseState) : Type 0 where
  pub count : lease.count ≡ asked
  pub was_vacant : blocks_at old lease.key ≡ None
  pub holds : IsLeaseOf new lease
  pub whole : All (λ block. length block ≡ 512) (blocks_of new lease)
  pub others : KeepsOthers old new lease.key
  pub free : new.free + asked ≡ old.free
  pub out : leases_out new ≡ leases_out old + 1
  pub size : new.size ≡ old.size
  pub contexts : new.contexts ≡ old.contexts

-- a lease came back with its blocks
pub record Gives (old new : PoolState) (lease : LeaseState) : Type 0 where
  pub vacant : blocks_at new lease.key ≡ None
  pub others : KeepsOthers old new lease.key
  pub free : new.free ≡ old.free + lease.count
  pub out : leases_out new + 1 ≡ leases_out old
  pub size : new.size ≡ old.size
  pub contexts : new.contexts ≡ old.contexts

-- the pool with another block at a place of a lease
abbrev pub with_block : PoolState → LeaseState → ℕ → List ℕ → PoolState
with_block pool lease place block =
    record pool { leases = slice_set pool.leases lease.key (Some (slice_set (blocks_of pool lease) place block)) }
