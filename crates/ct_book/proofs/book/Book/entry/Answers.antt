use Rattle.ct_book.specs.Kept.{logged_in}
use Rattle.ct_book.proofs.Entries.{closed-set}
use Rattle.ct_book.proofs.book.Book.entry.Goals as goal

pub returns-in-Closed : goal.returns-in-Closed
returns-in-Closed c =
    let book = c.args.self.now in
    let same = closed-set book.works book.journal c.args.place c.in-Closed.no c.in-Closed.outcome (logged_in book c.args.event.now) c.requires.sound.come c.requires.sound.settled c.requires.stands c.in-Closed.is in
    rw (c.in-Closed.is, c.set_by.ensures, same)
