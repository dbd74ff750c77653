use Rattle.ct_law.proofs.Lawful.{lawful}
use Rattle.ct_law.proofs.safety.runs_end_good_or_differ.Goals as goal

pub returns : goal.returns
returns c = λ o journal run. (lawful o journal run).endings
