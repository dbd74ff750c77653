use Rattle.std.proofs.Common.{sym, ◌∙◌}
use Rattle.ct_machine.specs.Entrances.{is_same_sender}
use Rattle.ct_lun.specs.declared.slot.Slot.{Slot}
use Rattle.ct_lun.specs.Overlaps.{sender_of_slot}
use Rattle.ct_lun.proofs.Searches.{any_here, any_later, both_same, other_number, other_first}
use Rattle.ct_lun.proofs.search.overlaps.Goals as goal
use Rattle.ct_lun.proofs.search.overlaps.Goals.{else-is_same-via-then-is_same+else-tag-slot, else-is_same-via-else-is_same}

pub returns-then-tag-slot : goal.returns-then-tag-slot
returns-then-tag-slot c =
    any_here (λ (slot : Slot). is_same_sender (record { nexus = c.args.nexus; tag = c.args.tag }) (sender_of_slot slot)) c.args.slots.now.items c.loop-at.at c.item-slot.result.now c.item-slot.ensures
    (both_same _ _ _ (sym c.is_same.ensures ∙ c.if-is_same.true) c.if-tag-slot.true) c.loop-at.invariant

pub loop-at-preserved : goal.loop-at-preserved
loop-at-preserved c =
    let next = any_later (λ (slot : Slot). is_same_sender (record { nexus = c.args.nexus; tag = c.args.tag }) (sender_of_slot slot)) c.args.slots.now.items c.loop-at.at c.item-slot.result.now c.item-slot.ensures in
    elim c.else-is_same.branch [
      | else-is_same-via-then-is_same+else-tag-slot w ↦ next (other_number _ _ _ w.if-tag-slot.false) c.loop-at.invariant
      | else-is_same-via-else-is_same w ↦ next (other_first _ _ (sym c.is_same.ensures ∙ w.if-is_same.false)) c.loop-at.invariant
    ]
