-- Byte texts: how a script writes bytes.
use Rattle.std.specs.Prelude.{ℕ, ◌+◌, ◌*◌, List, [], ◌∷◌, ◌++◌, ◌==◌, Bool, length, replicate, nat_le, if◌then◌else◌}
use Rattle.std.specs.Prelude.{Option, Some, None}
use Rattle.std.specs.List.{slice_split}
use Rattle.std.specs.Result.{result_ok}
use Rattle.hex.specs.Hex.{decode_of, hex_digit_value}
use Rattle.ct_word.specs.Decimals.{decimal_of}

abbrev pub is_dot : ℕ → Bool
is_dot b = b == 46

abbrev pub is_star : ℕ → Bool
is_star b = b == 42

-- the byte of the values of two digits
abbrev pub byte_of_values : Option ℕ → Option ℕ → Option ℕ
byte_of_values (Some high) (Some low) = Some (high * 16 + low)
byte_of_values _ _ = None

-- the byte of two hexadecimal digits, of either case
abbrev pub pair_byte : ℕ → ℕ → Option ℕ
pair_byte high low = byte_of_values (hex_digit_value high) (hex_digit_value low)

-- one or more pairs of hexadecimal digits, of either case
abbrev pub pairs_of : List ℕ → Option (List ℕ)
pairs_of [] = None
pairs_of (digit ∷ digits) = result_ok (decode_of (digit ∷ digits))

-- one byte, where it is the only one
abbrev pub single : Option (List ℕ) → Option ℕ
single (Some (byte ∷ [])) = Some byte
single _ = None

-- a byte, so many times
abbrev pub repeated : Option ℕ → Option ℕ → Option (List ℕ)
repeated (Some byte) (Some count) = if count == 0 then None else Some (replicate count byte)
repeated _ _ = None

-- pairs of digits, or one pair and how often its byte stands
abbrev pub bytes_of_parts : List (List ℕ) → Option (List ℕ)
bytes_of_parts (pairs ∷ []) = pairs_of pairs
bytes_of_parts (pair ∷ count ∷ []) = repeated (single (pairs_of pair)) (decimal_of count)
bytes_of_parts _ = None

-- a piece: its parts stand round a star
abbrev pub piece_of : List ℕ → Option (List ℕ)
piece_of piece = bytes_of_parts (slice_split is_star piece)

-- the bytes of one piece and those of the others
abbrev pub joined : Option (List ℕ) → Option (List ℕ) → Option (List ℕ)
joined (Some bytes) (Some others) = Some (bytes ++ others)
joined _ _ = None

abbrev pub bytes_of_pieces : List (List ℕ) → Option (List ℕ)
bytes_of_pieces [] = Some []
bytes_of_pieces (piece ∷ pieces) = joined (piece_of piece) (bytes_of_pieces pieces)

-- the bytes that a text of pieces with dots between them stands for
abbrev pub bytes_of_text : List ℕ → Option (List ℕ)
bytes_of_text text = bytes_of_pieces (slice_split is_dot text)

-- these bytes, where they are at most so many
abbrev pub at_most : ℕ → Option (List ℕ) → Option (List ℕ)
at_most most None = None
at_most most (Some bytes) = if nat_le (length bytes) most then Some bytes else None
