use Rattle.std.proofs.Common.{◌≡◌, ℕ, List, [], ◌+◌, ◌-◌, ◌≤◌, length, map, drop}
use Rattle.ct_book.specs.Journals.{BookState}
use Rattle.ct_book.specs.Kept.{IsWorkNo}
use Rattle.ct_book.specs.Histories.{others_of}
use Rattle.ct_machine.specs.Acts.Functions.{numbers_of}
use Rattle.ct_lun.specs.Desk.{Desk, number_of}
use Rattle.ct_lun.specs.States.{state_of}
use Rattle.ct_lun.specs.Agreement.{AgreesWith}
use Rattle.ct_lun.specs.Functions.{Cuts}
use Rattle.ct_lun.proofs.unit.Lun.cut_hit.Given as goal

-- these commands were cut so far, and what is done with those from the place on is what is done with all
abbrev pub invariant-loop-at : goal.invariant-loop-at
invariant-loop-at g l = record {
  agrees : AgreesWith l.self l.book;
  reason : IsWorkNo l.book l.no;
  within : l.at ≤ length l.self.slots;
  room : length l.self.slots ≤ l.at + l.book.spare;
  cut : List ℕ;
  others : l.others ≡ others_of l.ask.nexus l.fn.book.works cut;
  works : l.book.works ≡ l.fn.book.works;
  leads : (end : Desk) (last : BookState) (all : List ℕ) → Cuts l.self end l.book last l.no l.ask cut all (map number_of (drop l.at l.self.slots))
      → Cuts l.fn.self end l.fn.book last l.no l.ask [] all (numbers_of (state_of l.fn.self l.fn.book).tasks);
}

abbrev pub decreases-loop-at : goal.decreases-loop-at
decreases-loop-at g l = length l.self.slots - l.at
