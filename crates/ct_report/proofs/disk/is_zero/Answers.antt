use Rattle.ct_report.proofs.Zeros.{zero_more}
use Rattle.ct_report.proofs.disk.is_zero.Goals as goal

pub loop-byte-preserved : goal.loop-byte-preserved
loop-byte-preserved c = zero_more c.args.bytes.now c.loop-byte.bits c.loop-byte.byte-index c.loop-byte-test.true
    c.loop-byte.invariant
