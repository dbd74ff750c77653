use Rattle.std.proofs.Common.{◌≡◌, ◌-◌, length}
use Rattle.ct_book.specs.Kept.{events_for}
use Rattle.ct_top.specs.Played.{Point, point_of, Drains}
use Rattle.ct_top.proofs.played.drain.Given as goal

-- what is done from here on is done from the start on
abbrev pub invariant-loop-pair : goal.invariant-loop-pair
invariant-loop-pair g l = record {
  opening : l.pair.opening ≡ l.fn.pair.opening;
  drains : (end : Point) → Drains l.fn.pair.opening (point_of l.pair) end → Drains l.fn.pair.opening (point_of l.fn.pair) end;
}

-- the events for which there is room
abbrev pub decreases-loop-pair : goal.decreases-loop-pair
decreases-loop-pair g l = events_for l.pair.opening.room - length l.pair.book.journal
