use Rattle.std.proofs.Common.{length, ap, ◌∙◌, arith}
use Rattle.ct_matrix.proofs.Rising.{length-insert}
use Rattle.ct_matrix.proofs.reach.+rising.Goals as goal

pub returns-else-first-eq0-clause-few : goal.returns-else-first-eq0-clause-few
returns-else-first-eq0-clause-few t c =
    let size = ap length c.with.ensures ∙ length-insert _ c.rising-extents.result in
    omega (arith, size, c.rising-extents.ensures.few, c.in-len1-up.len_at_least)
