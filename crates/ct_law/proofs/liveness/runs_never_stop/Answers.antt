use Rattle.ct_law.proofs.Acts.Live.{never_stops}
use Rattle.ct_law.proofs.liveness.runs_never_stop.Goals as goal

pub returns : goal.returns
returns c = λ o journal run. never_stops o journal run
