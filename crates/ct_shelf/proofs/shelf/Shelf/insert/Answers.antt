use Rattle.std.proofs.Common.{arith}
use Rattle.ct_shelf.proofs.Steps.{shown-length, sound-inserted, shown-inserted}
use Rattle.ct_shelf.proofs.shelf.Shelf.insert.Goals as goal

pub insert-requires-clause-within : goal.insert-requires-clause-within
insert-requires-clause-within g c = omega (arith, shown-length c.self.inside.slots c.self.inside.order c.self.invariant, rw (← c.self.view_is) at c.requires.within)

pub invariant_of-self : goal.invariant_of-self
invariant_of-self g c =
    rw c.insert.ensures
    (sound-inserted c.self.inside.slots c.self.inside.order c.self.invariant c.insert_reserved-key.new.self _ _ _ c.insert_reserved-key.ensures.was_vacant c.insert_reserved-key.ensures.updates
    (omega (arith, shown-length c.self.inside.slots c.self.inside.order c.self.invariant, rw (← c.self.view_is) at c.requires.within)) (rw (← c.self.view_is) at c.requires.room) c.insert_reserved-key.ensures.len c.insert_reserved-key.ensures.capacity)

pub returns : goal.returns
returns g c =
    rw (← c.self.view_is, c.insert.ensures)
    (shown-inserted c.self.inside.slots c.self.inside.order c.self.invariant c.insert_reserved-key.new.self c.args.at c.insert_reserved-key.result c.args.item c.insert_reserved-key.ensures.was_vacant c.insert_reserved-key.ensures.updates
    (omega (arith, shown-length c.self.inside.slots c.self.inside.order c.self.invariant, rw (← c.self.view_is) at c.requires.within)))
