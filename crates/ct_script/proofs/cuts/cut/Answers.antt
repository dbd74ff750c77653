use Rattle.std.proofs.Common.{◌==◌, sym}
use Rattle.ct_script.proofs.Cutting.{split_at_place, split_nowhere}
use Rattle.ct_script.proofs.cuts.cut.Goals as goal

pub returns-in-Some-clause-parts : goal.returns-in-Some-clause-parts
returns-in-Some-clause-parts c = split_at_place (λ b. b == c.args.at) c.args.bytes.now c.in-Some.place (sym c.in-Some.ensures.place)

pub returns-in-None-clause-parts : goal.returns-in-None-clause-parts
returns-in-None-clause-parts c = split_nowhere (λ b. b == c.args.at) c.args.bytes.now (sym c.in-None.ensures.place)
