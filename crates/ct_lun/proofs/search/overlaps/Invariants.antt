use Rattle.std.proofs.Common.{◌≡◌, drop}
use Rattle.ct_lun.specs.Overlaps.{is_sent_by}
use Rattle.ct_lun.proofs.search.overlaps.Given as goal

abbrev pub invariant-loop-at : goal.invariant-loop-at
invariant-loop-at l =
    is_sent_by (record { nexus = l.nexus; tag = l.tag }) (drop l.at l.slots.items) ≡ is_sent_by (record { nexus = l.nexus; tag = l.tag }) l.slots.items
