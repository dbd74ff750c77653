use Rattle.ct_map.proofs.Places.{no_port, port_added, other_port}
use Rattle.ct_map.proofs.laws.ports_apart.Goals as goal

pub returns-clause-none : goal.returns-clause-none
returns-clause-none c = no_port

pub returns-clause-added : goal.returns-clause-added
returns-clause-added c = port_added

pub returns-clause-others : goal.returns-clause-others
returns-clause-others c = other_port
