use Rattle.std.proofs.Common.{◌≡◌, ◌≤◌, take, drop}
use Rattle.ct_book.specs.Histories.{others_of, cut_by}
use Rattle.ct_book.proofs.book.Book.others.Given as goal

abbrev pub invariant-loop-place : goal.invariant-loop-place
invariant-loop-place l = record {
  within : l.place ≤ l.before;
  set : l.set ≡ others_of l.asker l.self.works (cut_by l.by (drop l.place (take l.before l.self.journal)));
}

abbrev pub decreases-loop-place : goal.decreases-loop-place
decreases-loop-place l = l.place
