use Rattle.std.proofs.Common.{length, refl, ap, ◌∙◌}
use Rattle.ct_plan.specs.declared.task.Task.{Task}
use Rattle.ct_plan.specs.Plans.{plan_of}
use Rattle.ct_plan.proofs.Planned.{ready_first}
use Rattle.ct_plan.proofs.tests.perform.Goals as goal

pub make_pieces-last-requires : goal.make_pieces-last-requires
make_pieces-last-requires g c =
    let out = length c.args.out.now in
    let blocks = length (g.B.Backend.blocks c.args.medium.now) in
    let same = ap (λ n. plan_of out n c.args.profile) c.len.ensures in
    let planned = c.by-plan.ensures.operations ∙ same in
    let task : Task = record { plan = c.by-plan.result; lease = c.in-Some.lease; body = c.args.body; done = 0 } in
    let lease = c.in-Some.ensures.taken in
    let count = lease.count ∙ c.need.ensures in
    ready_first out blocks c.args.profile c.take.new.self task c.requires.fits planned refl lease.holds count
    c.requires.room
