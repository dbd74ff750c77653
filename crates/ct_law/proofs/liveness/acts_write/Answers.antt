use Rattle.ct_law.proofs.Acts.Writes.{acts_write}
use Rattle.ct_law.proofs.liveness.acts_write.Goals as goal

pub returns : goal.returns
returns c = λ o journal. acts_write o journal
