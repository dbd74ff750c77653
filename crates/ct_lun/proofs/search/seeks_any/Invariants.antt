use Rattle.std.proofs.Common.{◌≡◌, drop}
use Rattle.std.specs.List.{list_any}
use Rattle.ct_tmf.specs.Reaches.{seeks}
use Rattle.ct_lun.specs.declared.slot.Slot.{Slot}
use Rattle.ct_lun.proofs.search.seeks_any.Given as goal

abbrev pub invariant-loop-at : goal.invariant-loop-at
invariant-loop-at l =
    list_any (λ (slot : Slot). seeks l.ask slot.nexus slot.tag) (drop l.at l.slots.items)
    ≡ list_any (λ (slot : Slot). seeks l.ask slot.nexus slot.tag) l.slots.items
