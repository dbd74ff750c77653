use Rattle.std.proofs.Common.{◌∙◌, arith}
use Rattle.ct_shelf.proofs.Steps.{shown-length, item_at, has_item}
use Rattle.ct_shelf.proofs.shelf.Shelf.item.Goals as goal

pub key_at-requires : goal.key_at-requires
key_at-requires g c = omega (arith, shown-length c.self.inside.slots c.self.inside.order c.self.invariant, rw (← c.self.view_is) at c.requires)

pub index-requires : goal.index-requires
index-requires g c = has_item c.self.inside.slots c.self.inside.order c.self.invariant _ _ c.key_at.ensures

pub returns : goal.returns
returns g c = rw (← c.self.view_is) (item_at c.self.inside.slots c.self.inside.order c.self.invariant c.args.at c.key_at.result c.key_at.ensures ∙ c.index.ensures)
