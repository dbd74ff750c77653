-- Ranges of blocks, as sets of block numbers.
use Rattle.std.specs.Prelude.{ℕ, zero, suc, ◌+◌, List, [], ◌∷◌, ◌++◌, Bool, nat_le}
use Rattle.ct_cdb.specs.declared.ranges.LbaRange.{LbaRange}

-- so many block numbers, from the first on
abbrev pub numbers_from : ℕ → ℕ → List ℕ
numbers_from first zero = []
numbers_from first (suc count) = first ∷ numbers_from (first + 1) count

-- the numbers of the blocks of some ranges, in order
abbrev pub numbers_of : List LbaRange → List ℕ
numbers_of [] = []
numbers_of (range ∷ ranges) = numbers_from range.lba range.count ++ numbers_of ranges

-- how many blocks there are
abbrev pub total : List LbaRange → ℕ
total [] = 0
total (range ∷ ranges) = range.count + total ranges

-- a range is inside a disk of so many blocks, also an empty one (SBC-3)
abbrev pub is_inside : ℕ → LbaRange → Bool
is_inside blocks range = nat_le (range.lba + range.count) blocks
