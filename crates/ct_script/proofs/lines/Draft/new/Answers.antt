use Rattle.ct_script.proofs.Saying.{none_add_up}
use Rattle.ct_script.proofs.lines.Draft.new.Goals as goal

pub invariant_of-result : goal.invariant_of-result
invariant_of-result c = none_add_up c.new.result.items c.new.ensures.items
