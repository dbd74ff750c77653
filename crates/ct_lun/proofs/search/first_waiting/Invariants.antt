use Rattle.std.proofs.Common.{◌≡◌, ◌+◌, drop}
use Rattle.ct_lun.specs.Desk.{waiting_from}
use Rattle.ct_lun.proofs.search.first_waiting.Given as goal

abbrev pub invariant-loop-at : goal.invariant-loop-at
invariant-loop-at l = l.at + waiting_from (drop l.at l.slots.items) ≡ waiting_from l.slots.items
