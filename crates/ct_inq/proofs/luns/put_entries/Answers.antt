use Rattle.ct_inq.proofs.Entries.{none_put, seen_put, unseen_put}
use Rattle.ct_inq.proofs.luns.put_entries.Goals.{then-visible-number-eq1, else-visible-number-eq1}
use Rattle.ct_inq.proofs.luns.put_entries.Goals as goal

pub loop-number-init : goal.loop-number-init
loop-number-init c = rw c.requires (none_put c.args.visible)

pub loop-number-preserved : goal.loop-number-preserved
loop-number-preserved c = elim c.if-visible-number-eq1.branch [
  | then-visible-number-eq1 w ↦
      rw (w.end-is, w.list-is) (seen_put _ _ _ _ c.loop-number-test.true c.loop-number.invariant w.if-visible-number-eq1.true)
  | else-visible-number-eq1 w ↦ rw (w.end-is, w.list-is) (unseen_put _ _ _ _ c.loop-number.invariant w.if-visible-number-eq1.false)
]
