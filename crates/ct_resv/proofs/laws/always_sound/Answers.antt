use Rattle.ct_resv.proofs.Sound.{action_sound}
use Rattle.ct_resv.proofs.laws.always_sound.Goals as goal

pub returns-clause-out : goal.returns-clause-out
returns-clause-out c = action_sound
