use Rattle.std.proofs.Common.{length}
use Rattle.ct_cdb.proofs.ranges.+lba_at.Given as goal

abbrev pub decreases-lba_at : goal.decreases-lba_at
decreases-lba_at l = length l.ranges.now
