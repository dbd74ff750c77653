use Rattle.ct_plan.proofs.Cuts.{whole_phases}
use Rattle.ct_plan.proofs.laws.whole.Goals as goal

pub returns : goal.returns
returns c = whole_phases
