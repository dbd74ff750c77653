-- What a block ends as, where a `&mut` to its bytes is returned.
use Rattle.std.specs.Prelude.{ℕ, List}
use Rattle.std.specs.Borrow.{Lends, Fml, MutBor, Array, u8 as byte}
use Rattle.ct_word.specs.contracts.block.Block.{the_row}

-- once the borrow r ends, the block has the bytes that were last written through r
abbrev pub LendsBytes : MutBor (List ℕ) → MutBor (List ℕ) → Fml
LendsBytes block r = Lends the_row (Array byte 512) block r (λ bytes. bytes)
