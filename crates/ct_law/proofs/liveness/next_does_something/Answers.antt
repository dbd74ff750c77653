use Rattle.ct_law.proofs.Acts.Busy.{next_is_busy}
use Rattle.ct_law.proofs.liveness.next_does_something.Goals as goal

pub returns : goal.returns
returns c = λ o journal run count fault void. next_is_busy o journal run count fault void
