use Rattle.ct_law.proofs.Lawful.{lawful}
use Rattle.ct_law.proofs.safety.blocks_are_serial_at_rest.Goals as goal

pub returns : goal.returns
returns c = λ o journal run restricted rest. (lawful o journal run).blocks restricted rest
