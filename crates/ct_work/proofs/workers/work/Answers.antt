use Rattle.ct_work.proofs.Working.{by_none, by_trans, paired_by}
use Rattle.ct_work.proofs.workers.work.Goals as goal

pub loop-init : goal.loop-init
loop-init g c = record { paired = c.requires; grown = by_none _ _ _ _ g.M.Machine.steps _ c.args.seats.now.items }

pub loop-preserved-then-pass : goal.loop-preserved-then-pass
loop-preserved-then-pass g c = let inv = c.loop.invariant in record {
  paired = paired_by _ _ _ _ g.M.Machine.steps _ c.args.turns.now.items c.loop.seats.items c.pass.new.seats.items inv.paired c.pass.ensures;
  grown = by_trans _ _ _ _ g.M.Machine.steps _ c.args.seats.now.items c.loop.seats.items c.pass.new.seats.items inv.grown c.pass.ensures;
}

pub loop-preserved : goal.loop-preserved
loop-preserved g c = let inv = c.loop.invariant in record {
  paired = paired_by _ _ _ _ g.M.Machine.steps _ c.args.turns.now.items c.loop.seats.items c.pass.new.seats.items inv.paired c.pass.ensures;
  grown = by_trans _ _ _ _ g.M.Machine.steps _ c.args.seats.now.items c.loop.seats.items c.pass.new.seats.items inv.grown c.pass.ensures;
}
