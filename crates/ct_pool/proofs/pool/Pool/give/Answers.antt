use Rattle.std.proofs.Common.{◌<◌, [], sym, ap, ◌∙◌, length, arith}
use Rattle.ct_word.specs.Kept.{Kept}
use Rattle.ct_pool.specs.Leases.{LeaseState}
use Rattle.ct_pool.specs.Sound.{Blocks}
use Rattle.ct_pool.proofs.Steps.{GiveSteps, sound-after_give, gives, blocks_found}
use Rattle.ct_pool.proofs.pool.Pool.give.Goals as goal

-- the lease, by its fields
abbrev lease : (c : goal.After-push) → LeaseState
lease c = record { key = c.l.inside.key; count = c.l.inside.count }

steps : (c : goal.After-push) → GiveSteps c.l.inside.count c.l.inside.key c.self.inside.free c.move_blocks.new.to c.self.inside.leased c.remove-blocks.new.self c.self.inside.spare c.push.new.self c.remove-blocks.result c.move_blocks.new.from
steps c =
    let room : 0 < c.self.inside.spare.room = omega (arith, c.self.invariant.out, c.remove-blocks.ensures.len) in
    let held = rw (← c.self.view_is, ← c.l.view_is) at c.requires in
    record {
      found = c.remove-blocks.ensures.value;
      whole = ap length (sym (blocks_found c.self.inside.size c.self.inside.contexts (lease c) c.self.inside.free c.self.inside.leased c.remove-blocks.result c.remove-blocks.ensures.value 0 [])) ∙ held.count;
      updates = c.remove-blocks.ensures.updates;
      written = c.remove-blocks.ensures.slots;
      len = c.remove-blocks.ensures.len;
      capacity = c.remove-blocks.ensures.capacity;
      moved = c.move_blocks.ensures;
      pushed = ap (λ (kept : Kept Blocks). kept.items) c.push.ensures;
      pushed_room = omega (arith, ap (λ (kept : Kept Blocks). kept.room) c.push.ensures, room);
    }

pub invariant_of-self : goal.invariant_of-self
invariant_of-self c =
    sound-after_give c.self.inside.size c.self.inside.contexts (lease c) c.self.inside.free c.move_blocks.new.to c.self.inside.leased c.remove-blocks.new.self c.self.inside.spare c.push.new.self c.remove-blocks.result c.move_blocks.new.from c.self.invariant (steps c)

pub returns : goal.returns
returns c =
    rw (← c.self.view_is, ← c.l.view_is)
    (gives c.self.inside.size c.self.inside.contexts (lease c) c.self.inside.free c.move_blocks.new.to c.self.inside.leased c.remove-blocks.new.self c.self.inside.spare c.push.new.self c.remove-blocks.result c.move_blocks.new.from c.self.invariant (steps c))
