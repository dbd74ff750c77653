use Rattle.ct_resv.proofs.Sizes.{length-whole, length-data, length-most}
use Rattle.ct_resv.proofs.laws.lengths.Goals as goal

pub returns : goal.returns
returns c = record { whole = length-whole; cut = length-data; most = length-most }
