use Rattle.ct_ua.proofs.Nexuses.{first_raised, raised_again, raise_spares, raised_beside}
use Rattle.ct_ua.proofs.laws.raised_once.Goals as goal

pub returns : goal.returns
returns c = record { first = first_raised; again = raised_again; spares = raise_spares; beside = raised_beside }
