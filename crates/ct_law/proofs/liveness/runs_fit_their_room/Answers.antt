use Rattle.ct_law.proofs.Acts.Fits.{fits_room}
use Rattle.ct_law.proofs.liveness.runs_fit_their_room.Goals as goal

pub returns : goal.returns
returns c = λ o journal run. fits_room o journal run
