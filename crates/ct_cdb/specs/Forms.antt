-- The table of CDB forms, by the first byte, OPERATION CODE (SPC-4, SBC-3), and what bytes are by it.
use Rattle.std.specs.Prelude.{ℕ, ◌-◌, List, [], ◌∷◌, ◌++◌, length, slice_index, Result, Ok, Err, Option, Some, None}
use Rattle.std.specs.Prelude.{if◌then◌else◌, ◌==◌}
use Rattle.ct_cdb.specs.declared.op.Cdb.{Cdb}
use Rattle.ct_cdb.specs.declared.op.CdbFault.{CdbFault}
use Rattle.ct_cdb.specs.declared.op.CdbFault.TheVariants.{Empty, BadOperation, BadLength, BadField}
use Rattle.ct_cdb.specs.declared.row.Field.{Field}
use Rattle.ct_cdb.specs.declared.row.Row.{Row}
use Rattle.ct_cdb.specs.Fields.{control_field}
use Rattle.ct_cdb.specs.Rows.Blocks.{read_6, read_10, read_12, read_16, write_6, write_10, write_12, write_16}
use Rattle.ct_cdb.specs.Rows.Blocks.{write_and_verify_10, write_and_verify_16, verify_10, verify_12, verify_16}
use Rattle.ct_cdb.specs.Rows.Blocks.{compare_and_write, write_same_10, write_same_16, unmap}
use Rattle.ct_cdb.specs.Rows.Blocks.{synchronize_cache_10, synchronize_cache_16}
use Rattle.ct_cdb.specs.Rows.Inquiries.{test_unit_ready, request_sense, inquiry, report_luns}
use Rattle.ct_cdb.specs.Rows.Inquiries.{read_capacity_10, read_capacity_16}
use Rattle.ct_cdb.specs.Rows.Modes.{mode_select_6, mode_select_10, mode_sense_6, mode_sense_10, start_stop_unit}
use Rattle.ct_cdb.specs.Rows.Reservations.{persistent_reserve_in, persistent_reserve_out}

-- the table, at these bytes: each code with its row
abbrev pub rows : List ℕ → List (ℕ × Row)
rows bytes =
    (0x00, test_unit_ready)
    ∷ (0x03, request_sense bytes)
    ∷ (0x08, read_6 bytes)
    ∷ (0x0a, write_6 bytes)
    ∷ (0x12, inquiry bytes)
    ∷ (0x15, mode_select_6 bytes)
    ∷ (0x1a, mode_sense_6 bytes)
    ∷ (0x1b, start_stop_unit bytes)
    ∷ (0x25, read_capacity_10)
    ∷ (0x28, read_10 bytes)
    ∷ (0x2a, write_10 bytes)
    ∷ (0x2e, write_and_verify_10 bytes)
    ∷ (0x2f, verify_10 bytes)
    ∷ (0x35, synchronize_cache_10 bytes)
    ∷ (0x41, write_same_10 bytes)
    ∷ (0x42, unmap bytes)
    ∷ (0x55, mode_select_10 bytes)
    ∷ (0x5a, mode_sense_10 bytes)
    ∷ (0x5e, persistent_reserve_in bytes)
    ∷ (0x5f, persistent_reserve_out bytes)
    ∷ (0x88, read_16 bytes)
    ∷ (0x89, compare_and_write bytes)
    ∷ (0x8a, write_16 bytes)
    ∷ (0x8e, write_and_verify_16 bytes)
    ∷ (0x8f, verify_16 bytes)
    ∷ (0x91, synchronize_cache_16 bytes)
    ∷ (0x93, write_same_16 bytes)
    ∷ (0x9e, read_capacity_16 bytes)
    ∷ (0xa0, report_luns bytes)
    ∷ (0xa8, read_12 bytes)
    ∷ (0xaa, write_12 bytes)
    ∷ (0xaf, verify_12 bytes)
    ∷ []

abbrev pub row_at : ℕ → List (ℕ × Row) → Option Row
row_at code [] = None
row_at code (first ∷ others) = if code == first.0 then Some first.1 else row_at code others

-- the row that the first byte names, if it names one
unfoldable pub row_of : List ℕ → Option Row
row_of bytes = row_at (slice_index bytes 0) (rows bytes)

-- every field of a row that may be refused
abbrev pub fields_of : Row → List ℕ → List Field
fields_of row bytes = row.refusable ++ control_field row.size bytes ∷ []

-- what a row says where no field is refused
abbrev pub accepted_cdb : Row → List ℕ → Cdb
accepted_cdb row bytes = record { op = row.op; control = slice_index bytes (row.size - 1) }

-- the first of the fields that isn't accepted is told
abbrev pub tried : List Field → Cdb → Result Cdb CdbFault
tried [] cdb = Ok cdb
tried (first ∷ others) cdb = if first.accepted then tried others cdb else Err (BadField first.byte)

-- what the bytes are by a row
abbrev pub read_by : Row → List ℕ → Result Cdb CdbFault
read_by row bytes =
    if length bytes == row.size then tried (fields_of row bytes) (accepted_cdb row bytes)
    else Err (BadLength row.size (length bytes))

abbrev pub read_by_row : Option Row → List ℕ → Result Cdb CdbFault
read_by_row None bytes = Err BadOperation
read_by_row (Some row) bytes = read_by row bytes

-- the CDB that bytes are, or why they are none
abbrev pub cdb_of : List ℕ → Result Cdb CdbFault
cdb_of bytes = if length bytes == 0 then Err Empty else read_by_row (row_of bytes) bytes
