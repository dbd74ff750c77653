use Rattle.std.proofs.Common.{sym, ◌∙◌}
use Rattle.ct_report.proofs.Running.{first_blocks_text}
use Rattle.ct_report.proofs.Zeros.{zero_block_text}
use Rattle.ct_report.proofs.disk.push_blocks_from.Goals as goal

pub returns-then-is_zero_at-clause-text : goal.returns-then-is_zero_at-clause-text
returns-then-is_zero_at-clause-text c = zero_block_text c.args.text.now.items c.args.disk.now c.args.first
    c.requires.inside (sym c.is_zero_at.ensures ∙ c.if-is_zero_at.true)

pub returns-clause-text : goal.returns-clause-text
returns-clause-text c = first_blocks_text c.args.text.now.items c.push_block_run.new.text.items c.args.disk.now
    c.args.first c.run_end-end.result c.block.result.now c.requires.inside c.block.ensures c.run_end-end.ensures.end
    c.in_ok-push_block_run.ensures
