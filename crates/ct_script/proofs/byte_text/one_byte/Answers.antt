use Rattle.std.proofs.Common.{◌≡◌, length, ◌∙◌, arith}
use Rattle.ct_script.proofs.HexPairs.{one_pair_of, no_single}
use Rattle.ct_script.proofs.byte_text.one_byte.Goals as goal

pub returns-in-len2 : goal.returns-in-len2
returns-in-len2 c = c.read_pair.ensures ∙ one_pair_of c.args.pair.now (omega arith)

pub returns-in_default-2 : goal.returns-in_default-2
returns-in_default-2 c = no_single c.args.pair.now (λ (two : length c.args.pair.now ≡ 2). omega (arith, two))
