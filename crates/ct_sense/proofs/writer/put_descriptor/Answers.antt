use Rattle.std.proofs.Common.{arith, refl}
use Rattle.std.proofs.lemmas.List.{drop_all}
use Rattle.ct_sense.proofs.writer.put_descriptor.Goals as goal

pub returns-in-Some-clause-form : goal.returns-in-Some-clause-form
returns-in-Some-clause-form c = rw (c.in-Some.is, drop_all 20 c.args.into.now (omega arith), c.to_be_bytes.ensures) refl
