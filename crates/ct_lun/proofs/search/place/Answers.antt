use Rattle.std.proofs.Common.{◌==◌, sym, ◌∙◌}
use Rattle.ct_lun.specs.declared.slot.Slot.{Slot}
use Rattle.ct_lun.proofs.Searches.{found_here, found_later}
use Rattle.ct_lun.proofs.search.place.Goals as goal

pub returns-then-eq : goal.returns-then-eq
returns-then-eq c = found_here (λ (slot : Slot). slot.no == c.args.no) c.args.slots.now.items c.loop-at.at c.item.result.now c.item.ensures (sym c.eq.ensures ∙ c.if-eq.true) c.loop-at.invariant

pub loop-at-preserved : goal.loop-at-preserved
loop-at-preserved c = found_later (λ (slot : Slot). slot.no == c.args.no) c.args.slots.now.items c.loop-at.at c.item.result.now c.item.ensures (sym c.eq.ensures ∙ c.if-eq.false) c.loop-at.invariant
