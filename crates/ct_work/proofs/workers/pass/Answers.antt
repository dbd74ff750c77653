use Rattle.std.proofs.Common.{arith, ◌<◌, length}
use Rattle.ct_work.proofs.Working.{by_none, by_more}
use Rattle.ct_work.proofs.Rows.{paired_set}
use Rattle.ct_work.proofs.workers.pass.Goals as goal

pub loop-index-init : goal.loop-index-init
loop-index-init g c = record { paired = c.requires; grown = by_none _ _ _ _ g.M.Machine.steps _ c.args.seats.now.items }

pub loop-index-preserved : goal.loop-index-preserved
loop-index-preserved g c =
    let inv = c.loop-index.invariant in
    let inside : c.loop-index.index < length c.loop-index.seats.items = (let l = inv.paired.0 in omega arith) in
    let at = c.index_mut.ensures.value in
    let same = c.make-answer.ensures.same in
    record {
      paired = paired_set g.row.M.Denot _ _ _ _ g.M.Machine.steps c.args.turns.now.items c.loop-index.seats.items c.loop-index.index c.index_mut.result.now c.make-answer.new.seat inside at same.0 inv.paired;
      grown = by_more _ _ _ _ g.M.Machine.steps _ c.args.seats.now.items c.loop-index.seats.items c.loop-index.index c.index_mut.result.now c.make-answer.new.seat c.next.result c.make-answer.result inside at same.0 same.1 same.2 c.make-answer.ensures.act c.next.ensures.act inv.grown;
    }
