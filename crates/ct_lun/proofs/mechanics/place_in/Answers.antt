use Rattle.ct_matrix.proofs.Places.{insert_first, first_within}
use Rattle.ct_lun.specs.Desk.{waits}
use Rattle.ct_lun.proofs.mechanics.place_in.Goals as goal

pub insert-requires-clause-within : goal.insert-requires-clause-within
insert-requires-clause-within c = rw (c.first_waiting-at.ensures) (first_within waits _)

pub returns-in-Head-clause-placed : goal.returns-in-Head-clause-placed
returns-in-Head-clause-placed c =
    rw (c.insert.ensures, c.first_waiting-at.ensures, c.in-Head.is) (insert_first waits _ _)
