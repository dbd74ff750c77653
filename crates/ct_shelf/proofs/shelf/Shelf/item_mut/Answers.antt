use Rattle.std.proofs.Common.{refl, ◌∙◌, arith}
use Rattle.ct_shelf.proofs.Steps.{shown-length, item_at, has_item, sound-set, shown-set}
use Rattle.ct_shelf.proofs.shelf.Shelf.item_mut.Goals as goal

pub key_at-requires : goal.key_at-requires
key_at-requires g c = omega (arith, shown-length c.self.inside.slots c.self.inside.order c.self.invariant, rw (← c.self.view_is) at c.requires)

pub index_mut-requires : goal.index_mut-requires
index_mut-requires g c = has_item c.self.inside.slots c.self.inside.order c.self.invariant _ _ c.key_at.ensures

pub invariant_of-self-lent : goal.invariant_of-self-lent
invariant_of-self-lent g c w = sound-set c.self.inside.slots c.self.inside.order c.self.invariant _ _ w c.key_at.ensures c.index_mut.result.now c.index_mut.ensures.value

pub returns : goal.returns
returns g c = (
  (refl, λ w. rw (← c.self.view_is) (shown-set c.self.inside.slots c.self.inside.order c.self.invariant c.args.at c.key_at.result w c.key_at.ensures c.index_mut.result.now c.index_mut.ensures.value)),
  record {
    writes_back = tt;
    value = rw (← c.self.view_is) (item_at c.self.inside.slots c.self.inside.order c.self.invariant c.args.at c.key_at.result c.key_at.ensures ∙ c.index_mut.ensures.value);
  },
)
