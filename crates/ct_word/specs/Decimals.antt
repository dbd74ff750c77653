-- Decimal numbers without sign and without leading zeros.
use Rattle.std.specs.Prelude.{ℕ, List, [], ◌∷◌, Bool, false, ◌==◌, ◌&&◌, ◌||◌, not, length, if◌then◌else◌, Option, Some, None}
use Rattle.std.specs.List.{list_all}
use Rattle.std.specs.Char.{is_ascii_digit}
use Rattle.std.specs.Str.Parse.{digits_value}

-- there are digits and nothing else, and the first is 0 only where it is the only one
abbrev pub is_decimal : List ℕ → Bool
is_decimal [] = false
is_decimal (digit ∷ digits) = (not (digit == 48) || (length digits == 0)) && list_all is_ascii_digit (digit ∷ digits)

-- the number that a word spells, if it spells one
abbrev pub decimal_of : List ℕ → Option ℕ
decimal_of word = if is_decimal word then Some (digits_value 10 word) else None
