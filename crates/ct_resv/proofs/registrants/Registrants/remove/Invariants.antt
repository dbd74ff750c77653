use Rattle.ct_resv.proofs.Leaving.{AreParted}
use Rattle.ct_resv.proofs.registrants.Registrants.remove.Given as goal

abbrev pub invariant-loop-registrant : goal.invariant-loop-registrant
invariant-loop-registrant l = AreParted l.nexus l.named l.registrant-items l.registrant-index l.left l.removed
