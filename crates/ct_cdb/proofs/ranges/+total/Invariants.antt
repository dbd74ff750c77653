use Rattle.std.proofs.Common.{length}
use Rattle.ct_cdb.proofs.ranges.+total.Given as goal

abbrev pub decreases-total : goal.decreases-total
decreases-total l = length l.ranges.now
