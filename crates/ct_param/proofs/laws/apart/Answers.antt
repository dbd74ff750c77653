use Rattle.ct_param.proofs.Sharing.{apart_exactly}
use Rattle.ct_param.proofs.laws.apart.Goals as goal

pub returns : goal.returns
returns c = apart_exactly
