use Rattle.std.proofs.Common.{◌≡◌, ◌+◌, drop}
use Rattle.ct_lun.specs.Desk.{place_of}
use Rattle.ct_lun.proofs.search.place.Given as goal

abbrev pub invariant-loop-at : goal.invariant-loop-at
invariant-loop-at l = l.at + place_of l.no (drop l.at l.slots.items) ≡ place_of l.no l.slots.items
