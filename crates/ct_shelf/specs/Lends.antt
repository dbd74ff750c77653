-- What a shelf ends as, where a `&mut` to one of its items is returned.
use Rattle.std.specs.Prelude.{ℕ}
use Rattle.std.specs.Borrow.{Lends, Fml, RattleType, MutBor}
use Rattle.ct_word.specs.Kept.{Kept}
use Rattle.ct_word.specs.Lends.{with_item}
use Rattle.ct_shelf.specs.contracts.shelf.Shelf.{the_row}

-- once the borrow r ends, the place has the last value written through r
abbrev pub lends_item : (T : RattleType) → MutBor (Kept T.Denot) → ℕ → MutBor T.Denot → Fml
lends_item T s at r = Lends (the_row T) T s r (with_item s.now at)
