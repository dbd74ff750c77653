-- How far the two lists are filled.
use Rattle.std.proofs.Common.{◌≡◌, ◌+◌, length}
use Rattle.std.specs.List.{All}
use Rattle.ct_pool.specs.Sound.{IsSpare}
use Rattle.ct_pool.proofs.pool.Pool.open.Given as goal

abbrev pub invariant-loop : goal.invariant-loop
invariant-loop l = record {
  filled : length l.free.items ≡ l.counter;
  room : l.free.room + l.counter ≡ l.blocks;
}

abbrev pub invariant-loop-2 : goal.invariant-loop-2
invariant-loop-2 l = record {
  filled : length l.spare.items ≡ l.counter;
  room : l.spare.room + l.counter ≡ l.contexts;
  empty : All (IsSpare l.blocks) l.spare.items;
}
