use Rattle.ct_resv.proofs.Sound.{action_sound}
use Rattle.ct_exec.proofs.control.Control.reserve.Goals as goal

pub invariant_of-self : goal.invariant_of-self
invariant_of-self c =
    rw c.out.ensures.after
    (action_sound c.self.inside.reservations c.args.nexus c.args.action c.args.list.now c.self.invariant)

pub invariant_of-self-in-Err : goal.invariant_of-self-in-Err
invariant_of-self-in-Err c =
    rw c.out.ensures.after
    (action_sound c.self.inside.reservations c.args.nexus c.args.action c.args.list.now c.self.invariant)
