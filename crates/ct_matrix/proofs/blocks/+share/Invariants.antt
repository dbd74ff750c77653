use Rattle.std.proofs.Common.{length, ◌+◌}
use Rattle.ct_matrix.proofs.blocks.+share.Given as goal

abbrev pub decreases-share : goal.decreases-share
decreases-share l = length l.a.now + length l.b.now
