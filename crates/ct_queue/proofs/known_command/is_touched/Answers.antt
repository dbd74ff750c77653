use Rattle.ct_queue.proofs.Known.{touched_waits}
use Rattle.ct_queue.proofs.known_command.is_touched.Goals as goal

pub returns-in-Order : goal.returns-in-Order
returns-in-Order c = rw (c.in-Order.is) (touched_waits _ _ c.if-command.false)

pub returns-in-Entered : goal.returns-in-Entered
returns-in-Entered c = rw (c.in-Entered.is, c.waits_for.ensures) (touched_waits _ _ c.if-command.false)
