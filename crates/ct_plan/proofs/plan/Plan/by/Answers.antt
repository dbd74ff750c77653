use Rattle.std.proofs.Common.{◌≡◌, ◌*◌, ◌<◌, ◌≤◌, true, length, sym, ap, ◌∙◌, rules, arith}
use Rattle.ct_word.specs.declared.limit.TheConstants.{MOST_BLOCKS, MOST_RANGES}
use Rattle.ct_cdb.specs.Profiles.{is_performed}
use Rattle.ct_plan.specs.Plans.{need_of, plan_of, needed}
use Rattle.ct_cdb.specs.Ranges.{total}
use Rattle.ct_cdb.proofs.Numbers.{all_inside}
use Rattle.ct_plan.proofs.Ranged.{need_known, none_of_plan, performed_inside, performed_few}
use Rattle.ct_plan.proofs.plan.Plan.by.Goals as goal

pub returns-clause-need : goal.returns-clause-need
unfolding need_of plan_of
returns-clause-need c =
    let performed : is_performed c.args.out c.args.blocks c.args.profile ≡ true = search rules in
    let some : 0 < length c.args.profile.phases * total c.args.profile.ranges =
    omega (arith, c.if-operations-eq0.false, c.operations.ensures) in
    rw performed (need_known c.args.profile.phases c.args.profile.ranges c.args.profile.need some)

pub returns-then-operations-eq0-clause-operations : goal.returns-then-operations-eq0-clause-operations
returns-then-operations-eq0-clause-operations c =
    c.none-then-operations-eq0.ensures.operations
    ∙ sym (none_of_plan c.args.out c.args.blocks c.args.profile (sym c.operations.ensures ∙ c.if-operations-eq0.true))

pub returns-then-operations-eq0-clause-need : goal.returns-then-operations-eq0-clause-need
unfolding need_of
returns-then-operations-eq0-clause-need c =
    c.none-then-operations-eq0.ensures.need
    ∙ ap (λ operations. needed operations c.args.profile.need)
    (sym (none_of_plan c.args.out c.args.blocks c.args.profile (sym c.operations.ensures ∙ c.if-operations-eq0.true)))

pub overflow_cast-count : goal.overflow_cast-count
overflow_cast-count c =
    let few = performed_few c.args.out c.args.blocks c.args.profile
    (sym c.is_performed.ensures ∙ c.if-not-is_performed.false) c.requires.few c.total-count.ensures.few in
    omega (arith, few, c.total-count.ensures.total)

pub overflow_cast-result : goal.overflow_cast-result
overflow_cast-result c =
    let few = performed_few c.args.out c.args.blocks c.args.profile
    (sym c.is_performed.ensures ∙ c.if-not-is_performed.false) c.requires.few c.total-count.ensures.few in
    omega (arith, few, c.requires.fits.modest)

pub invariant_of-result : goal.invariant_of-result
invariant_of-result c =
    let performed : is_performed c.args.out c.args.blocks c.args.profile ≡ true =
    sym c.is_performed.ensures ∙ c.if-not-is_performed.false in
    let few = performed_few c.args.out c.args.blocks c.args.profile performed c.requires.few c.total-count.ensures.few in
    record {
      counted = c.total-count.ensures.total;
      few = omega (arith, few, c.total-count.ensures.total);
      phases_few = search rules;
      inside = all_inside c.args.blocks MOST_BLOCKS c.args.profile.ranges c.requires.few
          (performed_inside c.args.out c.args.blocks c.args.profile performed);
      buffered = rw c.total-count.ensures.total c.requires.fits.buffered;
    }
