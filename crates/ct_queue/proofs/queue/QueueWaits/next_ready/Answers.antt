use Rattle.ct_matrix.specs.Queues.{next_ready_of}
use Rattle.ct_queue.proofs.Known.{ready_kept}
use Rattle.ct_queue.proofs.queue.QueueWaits.next_ready.Goals as goal

pub returns : goal.returns
unfolding next_ready_of
returns c = rw (c.ready.ensures, c.as_slice.ensures, ← c.self.view_is, c.self.invariant.1.items) (ready_kept (record { commands = c.self.inside.commands.items; depth = c.self.inside.depth; unrestricted = c.self.inside.unrestricted }) c.self.inside.commands.items)
