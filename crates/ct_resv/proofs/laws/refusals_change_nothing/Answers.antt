use Rattle.ct_resv.proofs.Refusals.{refused_keeps}
use Rattle.ct_resv.proofs.laws.refusals_change_nothing.Goals as goal

pub returns : goal.returns
returns c = refused_keeps
