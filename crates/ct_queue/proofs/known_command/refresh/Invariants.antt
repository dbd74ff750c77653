use Rattle.std.proofs.Common.{◌≡◌}
use Rattle.ct_queue.proofs.Known.{known_up_to}
use Rattle.ct_queue.proofs.known_command.refresh.Given as goal

abbrev pub invariant-loop-at : goal.invariant-loop-at
invariant-loop-at l = l.known ≡ record l.initial.known { items = known_up_to l.at l.free_order l.commands.items l.commands.items l.initial.known.items }
