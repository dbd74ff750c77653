use Rattle.std.proofs.Common.{replicate, sym, ap, ◌∙◌}
use Rattle.ct_pair.proofs.Opened.{opened_pair}
use Rattle.ct_pair.proofs.pair.Pair.open.Goals as goal

pub invariant_of-result : goal.invariant_of-result
invariant_of-result g c =
    opened_pair _ c.in_ok-lun.lun c.in_ok-book.book _ _ c.requires.single c.in_ok-lun.ensures c.in_ok-book.ensures
    (c.requires.zeros ∙ ap (λ n. replicate n (replicate 512 0)) (sym c.len.ensures)) c.requires.few c.requires.unfailed
