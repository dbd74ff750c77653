use Rattle.std.proofs.Common.{◌∙◌}
use Rattle.ct_word.proofs.Numerals.{parsed_is, is_utf8}
use Rattle.ct_word.proofs.decimals.parse_digits.Goals as goal

pub returns-in-Ok : goal.returns-in-Ok
returns-in-Ok c = c.ok.ensures.value ∙ parsed_is c.args.digits.now c.parse.result c.requires (rw c.in-Ok.ensures.cases.0 at c.parse.ensures.value.0)

pub returns-in-Err : goal.returns-in-Err
returns-in-Err c = absurd (c.in-Err.ensures.cases.0 (is_utf8 c.args.digits.now c.requires))
