use Rattle.ct_queue.proofs.Known.{right_order}
use Rattle.ct_queue.proofs.queue.QueueWaits.set_order.Goals as goal

pub refresh-requires : goal.refresh-requires
refresh-requires c = rw c.self.invariant.1.items (right_order c.self.inside.unrestricted c.args.free_order c.self.inside.commands.items)
