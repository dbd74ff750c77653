use Rattle.std.proofs.Common.{sym}
use Rattle.ct_plan.proofs.Ranged.{length-planned}
use Rattle.ct_plan.proofs.plan.Plan.length.Goals as goal

pub returns : goal.returns
returns c =
    rw (← c.self.view_is, c.len.ensures.len, c.self.invariant.counted)
    (sym (length-planned c.self.inside.phases c.self.inside.ranges))
