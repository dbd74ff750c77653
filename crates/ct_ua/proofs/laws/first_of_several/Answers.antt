use Rattle.ct_ua.proofs.Codes.{first_or_none}
use Rattle.ct_ua.proofs.laws.first_of_several.Goals as goal

pub returns : goal.returns
returns c = first_or_none
