use Rattle.std.proofs.Common.{sym, ◌∙◌}
use Rattle.ct_shelf.proofs.Steps.{shown-length}
use Rattle.ct_shelf.proofs.shelf.Shelf.len.Goals as goal

pub returns : goal.returns
returns g c = rw (← c.self.view_is) (c.len.ensures ∙ sym (shown-length c.self.inside.slots c.self.inside.order c.self.invariant))
