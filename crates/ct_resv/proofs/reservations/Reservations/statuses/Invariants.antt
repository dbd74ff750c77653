use Rattle.std.proofs.Common.{◌≡◌, take}
use Rattle.std.specs.List.{flat_map}
use Rattle.ct_resv.specs.Reports.{status_entry}
use Rattle.ct_resv.proofs.reservations.Reservations.statuses.Given as goal

abbrev pub invariant-loop-registrant : goal.invariant-loop-registrant
invariant-loop-registrant l = l.list ≡ flat_map (status_entry l.self) (take l.registrant-index l.registrant-items)
