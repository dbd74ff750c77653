use Rattle.ct_law.proofs.Lawful.{lawful}
use Rattle.ct_law.proofs.safety.runs_are_legal.Goals as goal

pub returns : goal.returns
returns c = λ o journal run restricted. (lawful o journal run).legal restricted
