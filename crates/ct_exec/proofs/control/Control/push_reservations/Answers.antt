use Rattle.std.proofs.Common.{arith}
use Rattle.ct_resv.proofs.Sizes.{length-most}
use Rattle.ct_exec.proofs.control.Control.push_reservations.Goals as goal

pub input-requires : goal.input-requires
input-requires c =
    omega (arith, length-most c.self.inside.reservations c.args.action c.args.allocation c.self.invariant, c.requires)
