use Rattle.std.proofs.Common.{◌≡◌}
use Rattle.ct_matrix.specs.declared.held.HeldCommand.{HeldCommand}
use Rattle.ct_queue.proofs.Searching.{any_here, any_later}
use Rattle.ct_queue.proofs.search.some_begun.Goals as goal

pub returns-then-item : goal.returns-then-item
returns-then-item c = any_here (λ (command : HeldCommand). command.held.begun) c.args.commands.now.items c.loop-at.at c.item.result.now c.item.ensures c.if-item.true c.loop-at.invariant

pub loop-at-preserved : goal.loop-at-preserved
loop-at-preserved c = any_later (λ (command : HeldCommand). command.held.begun) c.args.commands.now.items c.loop-at.at c.item.result.now c.item.ensures c.if-item.false c.loop-at.invariant
