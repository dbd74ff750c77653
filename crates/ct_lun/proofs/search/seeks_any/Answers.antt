use Rattle.std.proofs.Common.{sym, ◌∙◌}
use Rattle.ct_tmf.specs.Reaches.{seeks}
use Rattle.ct_lun.specs.declared.slot.Slot.{Slot}
use Rattle.ct_lun.proofs.Searches.{any_here, any_later}
use Rattle.ct_lun.proofs.search.seeks_any.Goals as goal

pub returns-then-seeks : goal.returns-then-seeks
returns-then-seeks c =
    any_here (λ (slot : Slot). seeks c.args.ask.now slot.nexus slot.tag) c.args.slots.now.items c.loop-at.at c.item-slot.result.now c.item-slot.ensures
    (sym c.seeks.ensures ∙ c.if-seeks.true) c.loop-at.invariant

pub loop-at-preserved : goal.loop-at-preserved
loop-at-preserved c =
    any_later (λ (slot : Slot). seeks c.args.ask.now slot.nexus slot.tag) c.args.slots.now.items c.loop-at.at c.item-slot.result.now c.item-slot.ensures
    (sym c.seeks.ensures ∙ c.if-seeks.false) c.loop-at.invariant
