use Rattle.ct_pages.proofs.Sizes.{length-whole, length-data}
use Rattle.ct_pages.proofs.laws.lengths.Goals as goal

pub returns : goal.returns
returns c = record { whole = length-whole; cut = length-data }
