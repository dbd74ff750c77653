use Rattle.ct_word.proofs.Numerals.{numeral}
use Rattle.ct_word.proofs.laws.one_numeral.Goals as goal

pub returns : goal.returns
returns c = numeral
