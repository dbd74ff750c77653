use Rattle.std.proofs.Common.{◌-◌}
use Rattle.ct_book.proofs.Pages.{nexus-place}
use Rattle.ct_book.proofs.book.Book.work.Goals as goal

pub returns-in_default-clause-nexus : goal.returns-in_default-clause-nexus
returns-in_default-clause-nexus c =
    let i = c.self.inside in
    rw c.get.ensures (nexus-place i.works.items i.bodies.items (c.number.result - 1) c.self.invariant.body_each c.self.invariant.kept)
