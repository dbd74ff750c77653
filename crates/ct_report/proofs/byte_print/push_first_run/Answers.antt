use Rattle.ct_report.proofs.Running.{first_run_text, not_empty}
use Rattle.ct_report.proofs.byte_print.push_first_run.Goals as goal

pub returns-clause-text : goal.returns-clause-text
returns-clause-text c = first_run_text c.args.text.now.items c.push_run_text.new.text.items c.push.new.self.items
    c.args.bytes.now c.equal_ahead-equal.result (not_empty c.args.bytes.now c.is_empty.result c.is_empty.ensures
    c.if-is_empty.false) c.equal_ahead-equal.ensures.equal c.in_ok-push_run_text.ensures c.in_ok-push.ensures.items
