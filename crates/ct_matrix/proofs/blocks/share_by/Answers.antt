use Rattle.std.proofs.Common.{sym}
use Rattle.ct_matrix.proofs.Rising.{apart_lists, apart_turned}
use Rattle.ct_matrix.proofs.blocks.share_by.Goals as goal

pub returns-then-begin_behind : goal.returns-then-begin_behind
returns-then-begin_behind c =
    sym (apart_lists c.args.a.now c.args.b.now c.args.end_of_a c.requires.end_of_a
    (c.begin_behind.ensures c.if-begin_behind.true))

pub returns-then-begin_behind-2 : goal.returns-then-begin_behind-2
returns-then-begin_behind-2 c =
    sym (apart_turned c.args.a.now c.args.b.now c.args.end_of_b c.requires.end_of_b
    (c.begin_behind-2.ensures c.if-begin_behind-2.true))
