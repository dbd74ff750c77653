use Rattle.std.proofs.Common.{◌≡◌, ◌+◌, drop}
use Rattle.std.specs.List.{position_or_len}
use Rattle.ct_queue.specs.KnownCommands.{has_number}
use Rattle.ct_queue.proofs.search.place.Given as goal

abbrev pub invariant-loop-at : goal.invariant-loop-at
invariant-loop-at l = l.at + position_or_len (has_number l.no) (drop l.at l.known) ≡ position_or_len (has_number l.no) l.known
