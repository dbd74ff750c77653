use Rattle.std.proofs.Common.{◌==◌}
use Rattle.ct_script.proofs.Cutting.{found_first}
use Rattle.ct_script.proofs.cuts.first_place.Goals as goal

pub returns-clause-place : goal.returns-clause-place
returns-clause-place c = found_first (λ b. b == c.args.at) c.args.bytes.now c.memchr.result c.memchr.ensures
