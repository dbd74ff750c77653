use Rattle.std.proofs.Common.{◌<◌, length, arith}
use Rattle.ct_resv.proofs.Leaving.{key_set}
use Rattle.ct_resv.proofs.registrants.Registrants.set_key.Goals as goal

pub loop-place-preserved : goal.loop-place-preserved
loop-place-preserved c =
    let within : c.loop-place.place < length c.self.inside.list = omega (arith, c.self.invariant.0, c.self.invariant.1) in
    (rw c.with_key.ensures (key_set c.args.nexus c.args.key c.self.inside.list c.loop-place.self-inside.list c.loop-place.place _ within c.loop-place.invariant.0), c.loop-place.invariant.1)
