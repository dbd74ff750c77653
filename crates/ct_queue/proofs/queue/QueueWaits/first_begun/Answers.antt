use Rattle.ct_queue.proofs.Known.{begun_kept}
use Rattle.ct_queue.proofs.queue.QueueWaits.first_begun.Goals as goal

pub returns : goal.returns
returns c = rw (c.begun.ensures, c.as_slice.ensures, ← c.self.view_is, c.self.invariant.1.items) (begun_kept c.self.inside.unrestricted c.self.inside.commands.items c.self.inside.commands.items)
