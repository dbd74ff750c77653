use Rattle.std.proofs.Common.{◌∙◌, arith}
use Rattle.ct_shelf.proofs.Steps.{shown-length, item_at, has_item, sound-removed, shown-removed}
use Rattle.ct_shelf.proofs.shelf.Shelf.remove.Goals as goal

pub remove-key-requires : goal.remove-key-requires
remove-key-requires g c = omega (arith, shown-length c.self.inside.slots c.self.inside.order c.self.invariant, rw (← c.self.view_is) at c.requires)

pub remove-requires : goal.remove-requires
remove-requires g c = has_item c.self.inside.slots c.self.inside.order c.self.invariant _ _ c.remove-key.ensures.item

pub invariant_of-self : goal.invariant_of-self
invariant_of-self g c =
    rw c.remove-key.ensures.rest
    (sound-removed c.self.inside.slots c.self.inside.order c.self.invariant c.remove.new.self _ _ c.remove-key.ensures.item c.remove.ensures.updates c.remove.ensures.len c.remove.ensures.capacity)

pub returns-clause-item : goal.returns-clause-item
returns-clause-item g c = rw (← c.self.view_is) (item_at c.self.inside.slots c.self.inside.order c.self.invariant c.args.at c.remove-key.result c.remove-key.ensures.item ∙ c.remove.ensures.value)

pub returns-clause-rest : goal.returns-clause-rest
returns-clause-rest g c =
    rw (← c.self.view_is, c.remove-key.ensures.rest)
    (shown-removed c.self.inside.slots c.self.inside.order c.self.invariant c.remove.new.self c.args.at c.remove-key.result c.remove-key.ensures.item c.remove.ensures.updates)
