-- What a list with reserved room ends as, where a `&mut` to one of its items is returned.
use Rattle.std.specs.Prelude.{ℕ, slice_set}
use Rattle.std.specs.Borrow.{Lends, Fml, RattleType, MutBor}
use Rattle.ct_word.specs.Kept.{Kept}
use Rattle.ct_word.specs.contracts.reserve.Reserve.{the_row}

-- the same list with another item at a place
abbrev pub with_item : {T : Type 0} → Kept T → ℕ → T → Kept T
with_item kept at item = record kept { items = slice_set kept.items at item }

-- once the borrow r ends, the place has the last value written through r
abbrev pub lends_item : (T : RattleType) → MutBor (Kept T.Denot) → ℕ → MutBor T.Denot → Fml
lends_item T s at r = Lends (the_row T) T s r (with_item s.now at)
