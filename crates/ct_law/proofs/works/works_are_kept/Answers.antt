use Rattle.ct_law.proofs.Arrivals.{works_kept}
use Rattle.ct_law.proofs.works.works_are_kept.Goals as goal

pub returns : goal.returns
returns c = λ o journal run. works_kept o journal run
