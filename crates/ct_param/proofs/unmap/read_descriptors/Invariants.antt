use Rattle.ct_param.proofs.Descriptors.{AreRead}
use Rattle.ct_param.proofs.unmap.read_descriptors.Given as goal

abbrev pub invariant-loop-place : goal.invariant-loop-place
invariant-loop-place l = AreRead l.bytes l.place l.list
