-- What was moved before this pass.
use Rattle.ct_pool.specs.Sound.{Moves}
use Rattle.ct_pool.proofs.moves.move_blocks.Given as goal

abbrev pub invariant-loop : goal.invariant-loop
invariant-loop l = Moves l.initial.from l.initial.to l.from l.to l.counter
