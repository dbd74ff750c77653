-- What a whole stream gave. At `None` its bytes are not told.
use Rattle.std.specs.Prelude.{ℕ, ◌<◌, ◌≤◌, List, length, ⊤, Option, None, Some}
use Rattle.std.specs.Io.KnownBytes.{Consumes, IsAtEnd}

-- these bytes were all that was left, and none is left
pub record GivesAll (old new : Option (List ℕ)) (bytes : List ℕ) : Type 0 where
  pub given : Consumes old new bytes
  pub at_end : IsAtEnd new

-- these bytes were the next of those left, and at most so many
pub record GivesUpTo (most : ℕ) (old new : Option (List ℕ)) : Type 0 where
  pub bytes : List ℕ
  pub given : Consumes old new bytes
  pub within : length bytes ≤ most

-- more than `limit` bytes were left
abbrev pub IsLongerThan : ℕ → Option (List ℕ) → Type 0
IsLongerThan limit None = ⊤
IsLongerThan limit (Some bytes) = limit < length bytes
