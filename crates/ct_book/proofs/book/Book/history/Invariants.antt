use Rattle.std.proofs.Common.{◌≡◌, take}
use Rattle.ct_book.specs.Histories.{history_of}
use Rattle.ct_book.proofs.book.Book.history.Given as goal

abbrev pub invariant-loop-place : goal.invariant-loop-place
invariant-loop-place l = l.entries.items ≡ history_of (take l.place l.self.journal)
