-- What a pool ends as, where a `&mut` to a leased block is returned.
use Rattle.std.specs.Prelude.{ℕ, List}
use Rattle.std.specs.Borrow.{Lends, Fml, MutBor}
use Rattle.ct_word.specs.contracts.block.Block.{the_row as block_row}
use Rattle.ct_pool.specs.contracts.pool.Pool.{the_row}
use Rattle.ct_pool.specs.Leases.{PoolState, LeaseState, with_block}

-- once the borrow r ends, the place of the lease has the last block written through r
abbrev pub LendsBlock : MutBor PoolState → LeaseState → ℕ → MutBor (List ℕ) → Fml
LendsBlock pool lease place r = Lends the_row block_row pool r (with_block pool.now lease place)
