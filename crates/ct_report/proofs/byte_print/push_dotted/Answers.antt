use Rattle.std.proofs.Common.{◌++◌}
use Rattle.ct_report.specs.ByteText.{dotted_text}
use Rattle.ct_report.proofs.Alone.{dotted_step}
use Rattle.ct_report.proofs.byte_print.push_dotted.Goals as goal

pub loop-rest-preserved : goal.loop-rest-preserved
loop-rest-preserved c = dotted_step (c.args.text.now.items ++ dotted_text c.args.bytes.now) c.loop-rest.text.items
    c.push_alone.new.text.items c.push_first_run.new.text.items c.loop-rest.rest.now c.split_at.result.0.now
    c.split_at.result.1.now c.in_ok-rest.rest.now c.alone_ahead.result c.loop-rest.invariant
    c.alone_ahead.ensures.alone c.split_at.ensures.front c.split_at.ensures.back c.in_ok-push_alone.ensures
    c.in_ok-rest.ensures.text
