use Rattle.std.proofs.Common.{◌≡◌, take}
use Rattle.ct_resv.specs.Registering.{others_of}
use Rattle.ct_resv.proofs.registrants.Registrants.unregister.Given as goal

abbrev pub invariant-loop-registrant : goal.invariant-loop-registrant
invariant-loop-registrant l = l.left ≡ others_of l.nexus (take l.registrant-index l.registrant-items)
