use Rattle.std.proofs.Common.{◌++◌}
use Rattle.ct_book.specs.Kept.{logged_in}
use Rattle.ct_report.specs.JournalText.{journal_text}
use Rattle.ct_report.proofs.Lines.{next_line}
use Rattle.ct_report.proofs.journal.push_journal.Goals as goal

pub loop-place-preserved : goal.loop-place-preserved
loop-place-preserved c =
    next_line (c.args.text.now.items ++ journal_text c.args.book.now.journal) c.loop-place.text.items c.push_logged.new.text.items c.args.book.now.journal c.loop-place.place (logged_in c.args.book.now c.event.result.now) c.loop-place.invariant c.event.ensures c.in_ok-push_logged.ensures
