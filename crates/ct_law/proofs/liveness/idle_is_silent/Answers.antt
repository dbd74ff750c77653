use Rattle.ct_law.proofs.Acts.Busy.{idle_is_silent}
use Rattle.ct_law.proofs.liveness.idle_is_silent.Goals as goal

pub returns : goal.returns
returns c = λ o journal count fault idle. idle_is_silent o journal count fault idle
