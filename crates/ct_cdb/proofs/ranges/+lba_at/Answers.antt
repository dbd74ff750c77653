use Rattle.std.proofs.Common.{ℕ, ◌+◌, Some, sym, ap, ◌∙◌, slice_index_or}
use Rattle.ct_cdb.specs.declared.ranges.LbaRange.{LbaRange}
use Rattle.ct_cdb.proofs.Numbers.{in_first_range, behind_first_range}
use Rattle.ct_cdb.proofs.ranges.+lba_at.Goals as goal

pub returns-then-place-first : goal.returns-then-place-first
returns-then-place-first t c =
    let blank : LbaRange = record { lba = 0; count = 0 } in
    in_first_range c.args.ranges.now blank c.args.place c.in-len1-up.len_at_least c.if-place-first.true
    ∙ ap (λ (n : ℕ). Some ((slice_index_or c.args.ranges.now 0 blank).lba + n)) (sym c.from.ensures)

pub returns-else-place-first : goal.returns-else-place-first
returns-else-place-first t c =
    let blank : LbaRange = record { lba = 0; count = 0 } in
    behind_first_range c.args.ranges.now blank c.args.place c.in-len1-up.len_at_least c.if-place-first.false
    ∙ c.lba_at.ensures
