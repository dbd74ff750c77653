use Rattle.ct_report.proofs.Alone.{all_alone}
use Rattle.ct_report.proofs.byte_print.alone_ahead.Goals as goal

pub returns-clause-alone : goal.returns-clause-alone
returns-clause-alone c = all_alone c.args.bytes.now c.loop-place.place c.loop-place.invariant c.loop-place.auto.place
    c.loop-place-test.false c.loop-place.auto.place-end
