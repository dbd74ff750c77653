use Rattle.std.proofs.Common.{sym}
use Rattle.ct_plan.proofs.Ranged.{puts_done}
use Rattle.ct_plan.proofs.plan.Plan.writes_done.Goals as goal

pub returns : goal.returns
returns c =
    rw (
      ← c.self.view_is,
      c.puts_by.ensures,
      c.puts_by-2.ensures,
      c.get.ensures,
      c.get-2.ensures,
      c.min-made.ensures,
      c.min-behind.ensures,
      c.saturating_sub.ensures,
      c.self.invariant.counted,
    )
    (sym (puts_done c.self.inside.phases c.self.inside.ranges c.args.done c.self.invariant.phases_few))
