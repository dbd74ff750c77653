use Rattle.std.proofs.Common.{◌≡◌, true, drop}
use Rattle.ct_matrix.specs.Queues.{first_to_wait_for}
use Rattle.ct_queue.proofs.search.blocker.Given as goal

abbrev pub invariant-loop-at : goal.invariant-loop-at
invariant-loop-at l =
    first_to_wait_for l.free_order l.ahead l.waiting (drop l.at l.commands.items) ≡ first_to_wait_for l.free_order true l.waiting l.commands.items
