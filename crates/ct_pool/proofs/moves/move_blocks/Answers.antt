use Rattle.std.proofs.Common.{length, ap, sym, ◌∙◌, arith}
use Rattle.ct_pool.proofs.Steps.{moves_more}
use Rattle.ct_pool.proofs.moves.move_blocks.Goals as goal
use Rattle.ct_pool.proofs.moves.move_blocks.Goals.{in-Some+else-prove, in_default}

pub loop-preserved : goal.loop-preserved
loop-preserved c =
    elim c.match-pop.branch [
      | in-Some+else-prove w ↦
          moves_more c.args.from.now c.args.to.now c.loop.from c.loop.to c.pop.new.self c.match-pop.to c.loop.counter w.in-Some.block c.loop.invariant w.in-Some.ensures.0 w.in-Some.ensures.1 (w.to-is ∙ w.push.ensures) (omega arith) (ap length (sym w.bytes.ensures) ∙ w.if-prove.false)
      | in_default w ↦ absurd (omega (arith, ap length w.in_default.ensures.0))
    ]
