use Rattle.ct_law.proofs.Arrivals.{arrivals_alone}
use Rattle.ct_law.proofs.works.arrivals_alone_take_room.Goals as goal

pub returns : goal.returns
returns c = λ o journal done fault. arrivals_alone o journal done fault
