use Rattle.std.proofs.Common.{sym, subst}
use Rattle.ct_matrix.specs.Extents.{extents_of, IsRising}
use Rattle.ct_matrix.proofs.Rising.{rising_rises}
use Rattle.ct_matrix.proofs.blocks.Footprint.by.Goals as goal

pub new-requires-2 : goal.new-requires-2
new-requires-2 c =
    subst IsRising (sym c.rising-extents.ensures.extents) (rising_rises (extents_of c.as_slice.result.now))
