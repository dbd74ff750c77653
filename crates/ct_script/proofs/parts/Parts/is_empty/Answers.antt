use Rattle.ct_script.proofs.Cutting.{part_left}
use Rattle.ct_script.proofs.parts.Parts.is_empty.Goals as goal

pub returns-in_default : goal.returns-in_default
returns-in_default c = rw (← c.self.view_is) (part_left c.self.inside.at c.self.inside.rest c.in_default.field-0 c.in_default.is)
