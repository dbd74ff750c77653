use Rattle.ct_plan.proofs.Cuts.{all_pieces}
use Rattle.ct_plan.proofs.laws.any_pieces.Goals as goal

pub returns : goal.returns
returns c = all_pieces
