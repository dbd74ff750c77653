use Rattle.std.proofs.Common.{length, ◌-◌}
use Rattle.ct_param.proofs.Pages.{IsReadTo}
use Rattle.ct_param.proofs.mode.read_pages.Given as goal

abbrev pub invariant-loop-at : goal.invariant-loop-at
invariant-loop-at l = IsReadTo l.bytes l.at l.list

abbrev pub decreases-loop-at : goal.decreases-loop-at
decreases-loop-at l = length l.bytes - l.at
