use Rattle.std.proofs.Common.{ℕ, List, [], refl, sym, ap, ◌∙◌, get_or}
use Rattle.std.proofs.lemmas.Option.{get_or_from_slice_get}
use Rattle.ct_pool.proofs.Steps.{sound-after_write, state-after_write, blocks_found}
use Rattle.ct_pool.proofs.pool.Pool.block.Goals as goal

pub invariant_of-self-lent : goal.invariant_of-self-lent
invariant_of-self-lent c w =
    sound-after_write c.self.inside.size c.self.inside.contexts (record { key = c.l.inside.key; count = c.l.inside.count }) c.self.inside.free c.self.inside.leased c.index_mut-blocks.result.now c.index_mut-blocks.ensures.value c.args.i w c.self.inside.spare c.self.invariant

pub returns : goal.returns
returns c = (
  (refl, λ w. rw (← c.self.view_is, ← c.l.view_is) (state-after_write c.self.inside.size c.self.inside.contexts (record { key = c.l.inside.key; count = c.l.inside.count }) c.self.inside.free c.self.inside.leased c.index_mut-blocks.result.now c.index_mut-blocks.ensures.value c.args.i w)),
  record {
    writes_back = tt;
    value = rw (← c.self.view_is, ← c.l.view_is) (sym (ap (λ (blocks : List (List ℕ)). get_or blocks c.args.i [])
        (blocks_found c.self.inside.size c.self.inside.contexts (record { key = c.l.inside.key; count = c.l.inside.count }) c.self.inside.free c.self.inside.leased c.index_mut-blocks.result.now c.index_mut-blocks.ensures.value c.args.i [])
        ∙ get_or_from_slice_get c.index_mut-blocks.result.now.items c.args.i c.item_mut.result.now [] c.item_mut.ensures.value));
  },
)
