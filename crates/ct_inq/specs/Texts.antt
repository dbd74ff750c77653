-- The texts by which a logical unit is known (SPC-4, 6.6 and 7.8), in ASCII.
use Rattle.std.specs.Prelude.{ℕ, suc, zero, ◌+◌, ◌/◌, ◌%◌, List, [], ◌∷◌, ◌++◌, codes}

-- T10 VENDOR IDENTIFICATION, 8 characters
abbrev pub vendor : List ℕ
vendor = codes "FREEBSD "

-- PRODUCT IDENTIFICATION, 16 characters
abbrev pub product : List ℕ
product = codes "CTLDISK         "

-- PRODUCT REVISION LEVEL, 4 characters
abbrev pub revision : List ℕ
revision = codes "0001"

-- the lowest so many decimal digits of a number
abbrev pub decimal_digits : ℕ → ℕ → List ℕ
decimal_digits zero number = []
decimal_digits (suc count) number = decimal_digits count (number / 10) ++ (48 + number % 10) ∷ []

-- PRODUCT SERIAL NUMBER, 16 characters: the last eight are the number of the logical unit
abbrev pub serial : ℕ → List ℕ
serial lun = codes "CTL-LUN-" ++ decimal_digits 8 lun
