use Rattle.std.proofs.Common.{◌≡◌, ◌+◌, drop}
use Rattle.std.specs.List.{position_or_len}
use Rattle.ct_queue.specs.KnownCommands.{waits_in}
use Rattle.ct_queue.proofs.search.first_waiting.Given as goal

abbrev pub invariant-loop-at : goal.invariant-loop-at
invariant-loop-at l = l.at + position_or_len waits_in (drop l.at l.known) ≡ position_or_len waits_in l.known
