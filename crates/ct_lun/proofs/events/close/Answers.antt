use Rattle.ct_lun.proofs.Books.{can_close}
use Rattle.ct_lun.proofs.events.close.Goals as goal

pub push-requires-clause-settled : goal.push-requires-clause-settled
push-requires-clause-settled c = rw c.answer.ensures (can_close c.args.book.now c.args.no c.args.reply c.args.event c.requires.command c.requires.unanswered c.requires.kind)
