use Rattle.std.proofs.Common.{◌+◌, ◌-◌, ◌≤◌, length, map, drop}
use Rattle.ct_book.specs.Journals.{BookState}
use Rattle.ct_book.specs.Kept.{IsCommandNo}
use Rattle.ct_machine.specs.Acts.Functions.{numbers_of}
use Rattle.ct_lun.specs.Desk.{Desk, number_of}
use Rattle.ct_lun.specs.States.{state_of}
use Rattle.ct_lun.specs.Agreement.{AgreesWith}
use Rattle.ct_lun.specs.Calls.{Clears}
use Rattle.ct_lun.proofs.unit.Lun.clear.Given as goal

-- what is done with the commands from the place on is what is done with all
abbrev pub invariant-loop-at : goal.invariant-loop-at
invariant-loop-at g l = record {
  agrees : AgreesWith l.self l.book;
  reason : IsCommandNo l.book l.by;
  within : l.at ≤ length l.self.slots;
  room : length l.self.slots ≤ l.at + l.book.spare;
  leads : (end : Desk) (last : BookState) → Clears l.self end l.book last l.by l.cleared (map number_of (drop l.at l.self.slots))
      → Clears l.fn.self end l.fn.book last l.by l.cleared (numbers_of (state_of l.fn.self l.fn.book).tasks);
}

abbrev pub decreases-loop-at : goal.decreases-loop-at
decreases-loop-at g l = length l.self.slots - l.at
