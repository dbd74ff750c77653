use Rattle.std.proofs.Common.{◌≡◌, take}
use Rattle.ct_resv.specs.Reports.{keys_listed}
use Rattle.ct_resv.proofs.reservations.Reservations.keys.Given as goal

abbrev pub invariant-loop-registrant : goal.invariant-loop-registrant
invariant-loop-registrant l = l.list ≡ keys_listed (take l.registrant-index l.registrant-items)
