use Rattle.ct_pair.proofs.Acted.{acted_deliver}
use Rattle.ct_pair.proofs.pair.Pair.act.Goals as goal

pub returns-in-Deliver : goal.returns-in-Deliver
returns-in-Deliver g c = rw (← c.self.view_is, c.in-Deliver.is) (acted_deliver c.self.inside.opening c.self.inside.lun c.self.inside.book c.in-Deliver.field-0 c.self.invariant)
