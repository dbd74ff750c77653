use Rattle.std.proofs.Common.{length}
use Rattle.ct_param.proofs.unmap.+is_each_apart.Given as goal

abbrev pub decreases-is_each_apart : goal.decreases-is_each_apart
decreases-is_each_apart l = length l.list.now
