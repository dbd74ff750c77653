-- Fields of a CDB, and which of them may be refused.
use Rattle.std.specs.Prelude.{ℕ, ◌-◌, ◌+◌, ◌*◌, ◌/◌, ◌%◌, List, Bool, slice_index, nat_le, ◌==◌, if◌then◌else◌}
use Rattle.std.specs.Prelude.{Option, is_some}
use Rattle.ct_word.specs.Fields.{number_at}
use Rattle.ct_word.specs.declared.limit.TheConstants.{MOST_TRANSFER}
use Rattle.ct_cdb.specs.declared.row.Field.{Field}

abbrev pub field : ℕ → Bool → Field
field byte accepted = record { byte = byte; accepted = accepted }

-- a field that names one of a few things
abbrev pub choice_field : {T : Type 0} → ℕ → Option T → Field
choice_field byte choice = field byte (is_some choice)

-- bits 7-5 of byte 1: RDPROTECT, WRPROTECT or VRPROTECT, 0 where blocks have no protection information (SBC-3)
abbrev pub is_unprotected : List ℕ → Bool
is_unprotected bytes = slice_index bytes 1 / 32 == 0

abbrev pub protect_field : List ℕ → Field
protect_field bytes = field 1 (is_unprotected bytes)

-- bits 2-1 of byte 1: BYTCHK (SBC-3)
abbrev pub byte_check : List ℕ → ℕ
byte_check bytes = slice_index bytes 1 / 2 % 4

-- a number of blocks, as many as are moved at once
abbrev pub count_field : ℕ → ℕ → Field
count_field byte count = field byte (nat_le count MOST_TRANSFER)

-- CONTROL, the last byte of every form (SAM-5, 5.2), whose bit 2 (NACA) is refused
abbrev pub control_field : ℕ → List ℕ → Field
control_field size bytes = field (size - 1) (slice_index bytes (size - 1) / 4 % 2 == 0)

-- a bit of a byte, by its weight
abbrev pub bit_at : ℕ → ℕ → List ℕ → Bool
bit_at byte weight bytes = slice_index bytes byte / weight % 2 == 1

-- LOGICAL BLOCK ADDRESS, of 21, 32 or 64 bits (SBC-3)
abbrev pub lba_21 : List ℕ → ℕ
lba_21 bytes = slice_index bytes 1 % 32 * 65536 + number_at 2 2 bytes

abbrev pub lba_32 : List ℕ → ℕ
lba_32 bytes = number_at 4 2 bytes

abbrev pub lba_64 : List ℕ → ℕ
lba_64 bytes = number_at 8 2 bytes

-- TRANSFER LENGTH of a form of six bytes, where 0 means 256 blocks (SBC-3, READ (6)), and of the other forms
abbrev pub count_6 : List ℕ → ℕ
count_6 bytes = if slice_index bytes 4 == 0 then 256 else slice_index bytes 4

abbrev pub count_10 : List ℕ → ℕ
count_10 bytes = number_at 2 7 bytes

abbrev pub count_12 : List ℕ → ℕ
count_12 bytes = number_at 4 6 bytes

abbrev pub count_16 : List ℕ → ℕ
count_16 bytes = number_at 4 10 bytes
