-- Fields of several bytes, the highest byte first (SPC-4, 3.6.4).
use Rattle.std.specs.Prelude.{ℕ, List, drop}
use Rattle.byteorder.specs.Endian.{big_number, big_bytes}

-- the number in so many bytes, from a place on
abbrev pub number_at : ℕ → ℕ → List ℕ → ℕ
number_at width at bytes = big_number width (drop at bytes)

-- the bytes of a number
abbrev pub bytes_of : ℕ → ℕ → List ℕ
bytes_of width number = big_bytes width number
