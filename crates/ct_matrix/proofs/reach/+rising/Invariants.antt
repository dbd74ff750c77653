use Rattle.std.proofs.Common.{length}
use Rattle.ct_matrix.proofs.reach.+rising.Given as goal

abbrev pub decreases-rising : goal.decreases-rising
decreases-rising l = length l.ranges.now
