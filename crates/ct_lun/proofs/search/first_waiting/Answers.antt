use Rattle.ct_lun.specs.Desk.{waits}
use Rattle.ct_lun.proofs.Searches.{found_here, found_later}
use Rattle.ct_lun.proofs.search.first_waiting.Goals as goal

pub returns-then-not-item : goal.returns-then-not-item
returns-then-not-item c = found_here waits c.args.slots.now.items c.loop-at.at c.item.result.now c.item.ensures (cc (c.if-not-item.true)) c.loop-at.invariant

pub loop-at-preserved : goal.loop-at-preserved
loop-at-preserved c = found_later waits c.args.slots.now.items c.loop-at.at c.item.result.now c.item.ensures (cc (c.if-not-item.false)) c.loop-at.invariant
