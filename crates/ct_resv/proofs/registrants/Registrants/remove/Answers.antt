use Rattle.std.proofs.Common.{◌∙◌, sym, ap, List, arith}
use Rattle.ct_resv.specs.declared.registrants.Registrant.{Registrant}
use Rattle.ct_resv.specs.Registering.{nexuses_of}
use Rattle.ct_resv.specs.Changes.{removed_of, left_of}
use Rattle.ct_resv.proofs.Leaving.{none_parted, one_removed, one_left, few_left, all_removed, all_left}
use Rattle.ct_resv.proofs.registrants.Registrants.remove.Goals.{then-is_removed, else-is_removed}
use Rattle.ct_resv.proofs.registrants.Registrants.remove.Goals as goal

pub loop-registrant-init : goal.loop-registrant-init
loop-registrant-init c = rw (c.none-left.ensures, c.open-removed.ensures) (none_parted _ _ _)

pub push-requires : goal.push-requires
push-requires c =
    omega (
      arith,
      few_left _ _ _ _ _ _ c.loop-registrant.invariant,
      c.as_slice-registrant-items.ensures.few,
    )

pub loop-registrant-preserved : goal.loop-registrant-preserved
loop-registrant-preserved c = elim c.if-is_removed.branch [
  | then-is_removed w ↦
      rw (w.left-is, w.removed-is, w.add.ensures)
      (one_removed _ _ _ _ _ _ _ c.loop-registrant-test.true c.loop-registrant.invariant
      (sym c.is_removed.ensures ∙ w.if-is_removed.true))
  | else-is_removed w ↦
      rw (w.left-is, w.removed-is, w.push.ensures)
      (one_left _ _ _ _ _ _ _ c.loop-registrant-test.true c.loop-registrant.invariant
      (sym c.is_removed.ensures ∙ w.if-is_removed.false))
]

pub returns-clause-removed : goal.returns-clause-removed
returns-clause-removed c =
    all_removed _ _ _ _ _ _ c.loop-registrant.invariant c.loop-registrant-test.false
    ∙ ap (λ (xs : List Registrant). nexuses_of (removed_of c.args.nexus c.args.named xs)) c.as_slice-registrant-items.ensures.list

pub returns-clause-left : goal.returns-clause-left
returns-clause-left c =
    all_left _ _ _ _ _ _ c.loop-registrant.invariant c.loop-registrant-test.false
    ∙ ap (left_of c.args.nexus c.args.named) c.as_slice-registrant-items.ensures.list
