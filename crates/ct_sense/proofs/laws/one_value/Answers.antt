use Rattle.ct_sense.proofs.Values.{one_value}
use Rattle.ct_sense.proofs.laws.one_value.Goals as goal

pub returns : goal.returns
returns c = one_value
