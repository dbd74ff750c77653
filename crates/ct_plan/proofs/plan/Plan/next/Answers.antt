use Rattle.std.proofs.Common.{◌≡◌, ◌+◌, ◌*◌, ◌<◌, length, slice_get, None, sym, ap, ◌∙◌, arith}
use Rattle.std.proofs.lemmas.Option.{slice_get-get_or}
use Rattle.ct_cdb.specs.Ranges.{total}
use Rattle.ct_cdb.specs.declared.profile.Phase.TheVariants.{Get}
use Rattle.ct_plan.specs.Plans.{planned}
use Rattle.ct_plan.proofs.Ranged.{length-planned, in_two, phase_within, planned_at}
use Rattle.ct_plan.proofs.plan.Plan.next.Goals as goal

pub split-at-requires : goal.split-at-requires
split-at-requires c =
    let within = rw (← c.self.view_is) at c.requires in
    in_two c.self.inside.phases c.self.inside.ranges c.self.inside.count c.self.inside.need c.args.done
    c.self.invariant within

pub unreachable-requires : goal.unreachable-requires
unreachable-requires c =
    let within = rw (← c.self.view_is) at c.requires in
    let few : c.args.done < length c.self.inside.phases * c.self.inside.count =
    rw c.self.invariant.counted (omega (arith, within, length-planned c.self.inside.phases c.self.inside.ranges)) in
    let there = phase_within c.split-at.result.0 (length c.self.inside.phases) c.self.inside.count c.split-at.result.1
    c.args.done c.split-at.ensures.sum few in
    let some = slice_get-get_or c.self.inside.phases c.split-at.result.0 Get there in
    let none : slice_get c.self.inside.phases c.split-at.result.0 ≡ None = sym c.get.ensures ∙ c.in-None.is in
    cc

pub returns-clause-value : goal.returns-clause-value
returns-clause-value c =
    let phase = c.in-Some.phase in
    let place = c.split-at.result.1 in
    let lba = c.lba_at-lba.result in
    let sum : c.args.done ≡ c.split-at.result.0 * total c.self.inside.ranges + place =
    sym c.split-at.ensures.sum ∙ ap (λ n. c.split-at.result.0 * n + place) c.self.invariant.counted in
    rw (← c.self.view_is, c.operation_of.ensures.operation, c.self.invariant.counted)
    (ap (slice_get (planned c.self.inside.phases c.self.inside.ranges)) sum
    ∙ planned_at c.self.inside.phases c.self.inside.ranges c.split-at.result.0 place phase lba
    (sym c.get.ensures ∙ c.in-Some.is) c.lba_at-lba.ensures)
