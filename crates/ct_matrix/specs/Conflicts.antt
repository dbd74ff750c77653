-- Whether a command has to wait for another (SAM-5, clause 8, for the task attributes; the rest is this
-- project's own).
use Rattle.std.specs.Prelude.{Bool, true, false, not, ◌&&◌, ◌||◌, if◌then◌else◌}
use Rattle.ct_cdb.specs.declared.op.Attr2.{Attr2}
use Rattle.ct_cdb.specs.declared.op.Attr2.TheVariants.{Ordered, Head}
use Rattle.ct_matrix.specs.declared.cells.Action.{Action}
use Rattle.ct_matrix.specs.declared.cells.Action.TheVariants as action
use Rattle.ct_matrix.specs.declared.held.Held.{Held}
use Rattle.ct_matrix.specs.declared.held.Demand.{Demand}
use Rattle.ct_matrix.specs.declared.held.Demand.TheVariants.{Free, Wait}
use Rattle.ct_matrix.specs.Extents.{overlap}
use Rattle.ct_matrix.specs.Matrix.{action_of}

-- a cell, where reordering is unrestricted or not (SPC-4, QUEUE ALGORITHM MODIFIER), and the footprints
-- overlap or not
abbrev pub is_conflict : Action → Bool → Bool → Bool
is_conflict action.Skip unrestricted overlapping = false
is_conflict action.Pass unrestricted overlapping = false
is_conflict action.Block unrestricted overlapping = true
is_conflict action.OptBlock unrestricted overlapping = not unrestricted
is_conflict action.Extent unrestricted overlapping = overlapping
is_conflict action.OptExtent unrestricted overlapping = not unrestricted && overlapping

-- two commands conflict
unfoldable pub conflicts : Bool → Held → Held → Bool
conflicts unrestricted a b = is_conflict (action_of a.index b.index) unrestricted (overlap a.print b.print)

abbrev pub is_skip : Action → Bool
is_skip action.Skip = true
is_skip _ = false

-- the second command never waits for the first
unfoldable pub skips : Held → Held → Bool
skips a b = is_skip (action_of a.index b.index)

abbrev pub is_head : Attr2 → Bool
is_head Head = true
is_head _ = false

abbrev pub is_ordered : Attr2 → Bool
is_ordered Ordered = true
is_ordered _ = false

-- a waiting command b has to wait for a live command a, which stands ahead of it or behind it: a HEAD OF
-- QUEUE command, and one that stands ahead, wait for a conflicting command that has begun; else an ORDERED
-- command waits, any command waits for an ORDERED or HEAD OF QUEUE one, and for one that it conflicts with
abbrev pub has_to_wait : Bool → Bool → Held → Held → Bool
has_to_wait unrestricted ahead a b =
    if skips a b then false
    else if is_head b.attr || not ahead then a.begun && conflicts unrestricted a b
    else is_ordered b.attr || is_ordered a.attr || is_head a.attr || conflicts unrestricted a b

abbrev pub demand_if : Bool → Demand
demand_if true = Wait
demand_if false = Free

-- what a live command a demands of a waiting command b
abbrev pub demand_of : Bool → Bool → Held → Held → Demand
demand_of unrestricted ahead a b = demand_if (has_to_wait unrestricted ahead a b)
