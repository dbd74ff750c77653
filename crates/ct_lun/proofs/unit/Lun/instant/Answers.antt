use Rattle.std.proofs.Common.{sym}
use Rattle.ct_lun.proofs.unit.Lun.instant.Goals as goal

pub returns-clause-done : goal.returns-clause-done
returns-clause-done g c =
    rw (← c.self.view_is) (c.instant-done.ensures (g.B.Backend.blocks c.self.inside.medium) (sym c.len-blocks.ensures))
