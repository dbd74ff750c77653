use Rattle.ct_map.proofs.Places.{no_unit, unit_added, other_unit}
use Rattle.ct_map.proofs.laws.units_apart.Goals as goal

pub returns-clause-none : goal.returns-clause-none
returns-clause-none c = no_unit

pub returns-clause-added : goal.returns-clause-added
returns-clause-added c = unit_added

pub returns-clause-others : goal.returns-clause-others
returns-clause-others c = other_unit
