use Rattle.std.proofs.Common.{Some, ap, take}
use Rattle.std.specs.Prelude.{option_map}
use Rattle.ct_script.specs.ByteText.{joined}
use Rattle.ct_script.proofs.Texts.{second_star}
use Rattle.ct_script.proofs.byte_text.push_counted.Goals as goal

pub returns-in-Some : goal.returns-in-Some
returns-in-Some c = ap (λ found. option_map (take c.args.most) (joined (Some c.args.bytes.now.items) found))
    (second_star c.args.pair.now c.args.rest.now c.cut.result.0.now c.cut.result.1 c.in-Some.field-0
    c.cut.ensures.parts c.in-Some.is)
