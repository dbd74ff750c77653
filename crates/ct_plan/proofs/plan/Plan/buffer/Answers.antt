use Rattle.std.proofs.Common.{arith}
use Rattle.ct_plan.proofs.Ranged.{some_need, in_two}
use Rattle.ct_plan.proofs.plan.Plan.buffer.Goals as goal

pub overflow_sub-self-inside : goal.overflow_sub-self-inside
overflow_sub-self-inside c =
    let within = rw (← c.self.view_is) at c.requires in
    omega (
      arith,
      some_need c.self.inside.phases c.self.inside.ranges c.self.inside.count c.self.inside.need
          c.args.done c.self.invariant within,
    )

pub returns : goal.returns
returns c =
    let within = rw (← c.self.view_is) at c.requires in
    rw (← c.self.view_is)
    (omega (
      arith,
      c.min.ensures,
      some_need c.self.inside.phases c.self.inside.ranges c.self.inside.count
          c.self.inside.need c.args.done c.self.invariant within,
    ))

pub split-place-requires : goal.split-place-requires
split-place-requires c =
    let within = rw (← c.self.view_is) at c.requires in
    in_two c.self.inside.phases c.self.inside.ranges c.self.inside.count c.self.inside.need c.args.done
    c.self.invariant within
