use Rattle.std.proofs.Common.{◌∙◌, sym}
use Rattle.ct_book.specs.Kept.{logged_in}
use Rattle.ct_book.proofs.Entries.{history-more, history-none}
use Rattle.ct_book.proofs.book.Book.history.Goals as goal

pub loop-place-init : goal.loop-place-init
loop-place-init c = c.new-entries.ensures.items ∙ sym history-none

pub loop-place-preserved : goal.loop-place-preserved
loop-place-preserved c =
    let book = c.args.self.now in
    let more = history-more book.journal c.loop-place.place (logged_in book c.event.result.now) c.event.ensures in
    rw (more, ← c.entry-entry.ensures, ← c.loop-place.invariant) c.in_ok-put.ensures
