use Rattle.std.proofs.Common.{arith, length-drop}
use Rattle.ct_cdb.proofs.ranges.+total.Goals as goal

pub overflow_add-result : goal.overflow_add-result
overflow_add-result t c = omega (arith, c.total.ensures.small, c.count_of.ensures.small, c.requires, c.in-len1-up.len_at_least)

pub returns-in-len1-up-clause-small : goal.returns-in-len1-up-clause-small
returns-in-len1-up-clause-small t c = omega (arith, c.total.ensures.small, c.count_of.ensures.small, c.requires, c.in-len1-up.len_at_least)
