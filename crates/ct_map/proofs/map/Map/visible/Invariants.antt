use Rattle.ct_map.proofs.Bits.{AreVisibleBelow}
use Rattle.ct_map.proofs.map.Map.visible.Given as goal

abbrev pub invariant-loop-x : goal.invariant-loop-x
invariant-loop-x l = AreVisibleBelow l.self l.n l.x l.visible
