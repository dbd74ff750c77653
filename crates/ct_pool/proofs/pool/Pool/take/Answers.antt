use Rattle.ct_pool.proofs.Steps.{TakeSteps, sound-after_take, takes}
use Rattle.ct_pool.proofs.pool.Pool.take.Goals as goal

steps : (c : goal.After-insert_reserved-key) → TakeSteps c.args.k c.insert_reserved-key.result c.self.inside.free c.move_blocks.new.from c.self.inside.leased c.insert_reserved-key.new.self c.self.inside.spare c.pop.new.self c.in-Some.blocks c.move_blocks.new.to
steps c = record {
  popped = c.in-Some.ensures.0;
  popped_room = c.in-Some.ensures.1;
  moved = c.move_blocks.ensures;
  vacant = c.insert_reserved-key.ensures.was_vacant;
  updates = c.insert_reserved-key.ensures.updates;
  len = c.insert_reserved-key.ensures.len;
  capacity = c.insert_reserved-key.ensures.capacity;
}

pub invariant_of-self : goal.invariant_of-self
invariant_of-self c =
    sound-after_take c.self.inside.size c.self.inside.contexts c.args.k c.insert_reserved-key.result c.self.inside.free c.move_blocks.new.from c.self.inside.leased c.insert_reserved-key.new.self c.self.inside.spare c.pop.new.self c.in-Some.blocks c.move_blocks.new.to c.self.invariant (steps c)

pub returns-clause-taken : goal.returns-clause-taken
returns-clause-taken c =
    rw (← c.self.view_is)
    (takes c.self.inside.size c.self.inside.contexts c.args.k c.insert_reserved-key.result c.self.inside.free c.move_blocks.new.from c.self.inside.leased c.insert_reserved-key.new.self c.self.inside.spare c.pop.new.self c.in-Some.blocks c.move_blocks.new.to c.self.invariant (steps c))
