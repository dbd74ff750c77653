use Rattle.std.proofs.Common.{arith}
use Rattle.ct_report.proofs.Running.{without_last_dot, not_empty}
use Rattle.ct_report.proofs.byte_print.push_byte_text.Goals as goal

pub returns : goal.returns
returns c = without_last_dot c.args.text.now.items c.push_dotted.new.text.items c.pop.new.self.items c.args.bytes.now
    _ (not_empty c.args.bytes.now c.is_empty.result c.is_empty.ensures c.if-is_empty.false)
    c.in_ok-push_dotted.ensures (omega arith) c.pop.ensures.rest
