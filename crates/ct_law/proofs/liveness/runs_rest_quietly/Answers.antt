use Rattle.ct_law.proofs.Lawful.{lawful}
use Rattle.ct_law.proofs.liveness.runs_rest_quietly.Goals as goal

pub returns : goal.returns
returns c = λ o journal run. (lawful o journal run).rest
