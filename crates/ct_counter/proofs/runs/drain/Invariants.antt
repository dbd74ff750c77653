use Rattle.std.proofs.Common.{◌≡◌}
use Rattle.ct_counter.proofs.runs.drain.Given as goal

abbrev pub invariant-loop : goal.invariant-loop
invariant-loop g l = l.seat.turn ≡ l.initial.seat.turn
