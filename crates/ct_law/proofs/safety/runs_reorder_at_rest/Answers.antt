use Rattle.ct_law.proofs.Lawful.{lawful}
use Rattle.ct_law.proofs.safety.runs_reorder_at_rest.Goals as goal

pub returns : goal.returns
returns c = λ o journal run. (lawful o journal run).reorders
