use Rattle.std.proofs.Common.{◌≡◌, ◌||◌, ◌&&◌, sym}
use Rattle.ct_matrix.specs.Extents.{overlap}
use Rattle.ct_matrix.proofs.Shared.{in_sets-from}
use Rattle.ct_matrix.proofs.Rising.{overlap_by}
use Rattle.ct_matrix.proofs.blocks.overlaps.Goals as goal

pub returns : goal.returns
returns c =
    let computed : (((c.a.inside.writes && (c.b.inside.reads || c.b.inside.writes)) || (c.a.inside.reads && c.b.inside.writes)) && c.share_by-shared.result) ≡ overlap c.args.a.now c.args.b.now =
    rw (c.share_by-shared.ensures, c.as_slice.ensures.extents, c.as_slice-2.ensures.extents, ← c.a.view_is, ← c.b.view_is)
    (sym (overlap_by c.a.inside.extents c.b.inside.extents c.a.inside.reads c.a.inside.writes c.b.inside.reads c.b.inside.writes)) in
    record { computed = computed; in_sets = in_sets-from _ c.args.a.now c.args.b.now computed }
