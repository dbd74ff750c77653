use Rattle.std.proofs.Common.{◌≡◌, ◌<◌, false, sym, ◌∙◌, arith}
use Rattle.ct_matrix.specs.declared.blocks.Extent.{Extent}
use Rattle.ct_matrix.specs.Extents.{blocks_in}
use Rattle.ct_matrix.proofs.Rising.{met, no_second, first_done, second_done}
use Rattle.ct_matrix.proofs.blocks.+share.Goals as goal

abbrev blank : Extent
blank = record { first = 0; count = 0 }

pub returns-in-empty-b : goal.returns-in-empty-b
returns-in-empty-b t c = sym (no_second c.args.a.now c.args.b.now c.in-empty-b.len_below)

pub returns-then-meet : goal.returns-then-meet
returns-then-meet t c =
    sym (met c.args.a.now c.args.b.now blank c.in-len1-up.len_at_least c.in-len1-up-b.len_at_least
    (sym c.meet.ensures ∙ c.if-meet.true))

pub returns-then-end : goal.returns-then-end
returns-then-end t c =
    c.share.ensures
    ∙ first_done c.args.a.now c.args.b.now blank c.in-len1-up.len_at_least c.in-len1-up-b.len_at_least c.requires.b
    (sym c.meet.ensures ∙ c.if-meet.false)
    (omega (arith, c.end.ensures.end, c.end-else-meet.ensures.end, c.if-end.true))

pub returns-else-end : goal.returns-else-end
returns-else-end t c =
    c.share-else-end.ensures
    ∙ second_done c.args.a.now c.args.b.now blank c.in-len1-up.len_at_least c.in-len1-up-b.len_at_least c.requires.a
    (sym c.meet.ensures ∙ c.if-meet.false)
    (omega (arith, c.end.ensures.end, c.end-else-meet.ensures.end, c.if-end.false))
