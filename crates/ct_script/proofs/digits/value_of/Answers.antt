use Rattle.std.proofs.Common.{arith}
use Rattle.ct_script.proofs.HexPairs.{values}
use Rattle.ct_script.proofs.digits.value_of.Goals as goal

pub returns : goal.returns
returns c = values c.args.digit (omega arith)
