-- What the table of forms says, without the order in which anything is tried.
use Rattle.std.specs.Prelude.{◌≡◌, ◌≢◌, ◌<◌, ℕ, List, [], Bool, not, ◌&&◌, ◌==◌, length, IsTrue, IsFalse, IsSomeAnd}
use Rattle.std.specs.List.{list_any}
use Rattle.ct_cdb.specs.declared.row.Field.{Field}
use Rattle.ct_cdb.specs.declared.row.Row.{Row}
use Rattle.ct_cdb.specs.Forms.{row_of, fields_of}

-- the bytes have a row in the table, of which this holds
abbrev pub HasRow : List ℕ → (Row → Type 0) → Type 0
HasRow bytes holds = (bytes ≢ []) × IsSomeAnd (row_of bytes) holds

-- whether a field that begins at this byte is refused
abbrev pub is_refused : Row → List ℕ → ℕ → Bool
is_refused row bytes byte = list_any (λ (f : Field). not f.accepted && (f.byte == byte)) (fields_of row bytes)

-- the bytes are as many as the row says, and none of its fields is refused
abbrev pub IsAccepted : Row → List ℕ → Type 0
IsAccepted row bytes = (length bytes ≡ row.size) × ((byte : ℕ) → IsFalse (is_refused row bytes byte))

-- the first number that passes a test
pub record IsLowest (test : ℕ → Bool) (number : ℕ) : Type 0 where
  pub passes : IsTrue (test number)
  pub lowest : (lower : ℕ) → lower < number → IsFalse (test lower)
