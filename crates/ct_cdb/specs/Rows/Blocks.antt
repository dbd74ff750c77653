-- Commands that move blocks (SBC-3, clause 5).
use Rattle.std.specs.Prelude.{List, [], ◌∷◌, ℕ, ◌/◌, ◌%◌, ◌==◌, ◌&&◌, nat_le, slice_index, Bool, false}
use Rattle.ct_word.specs.Fields.{number_at}
use Rattle.ct_word.specs.declared.limit.TheConstants.{MOST_TRANSFER, MOST_COMPARE}
use Rattle.ct_cdb.specs.declared.op.Op.{Op}
use Rattle.ct_cdb.specs.declared.op.Op.TheVariants.{Read, Write, WriteAndVerify, Verify, CompareAndWrite, WriteSame}
use Rattle.ct_cdb.specs.declared.op.Op.TheVariants.{Unmap, SynchronizeCache}
use Rattle.ct_cdb.specs.declared.op.Form.TheVariants.{Six, Ten, Twelve, Sixteen}
use Rattle.ct_cdb.specs.declared.row.Field.{Field}
use Rattle.ct_cdb.specs.declared.row.Row.{Row}
use Rattle.ct_cdb.specs.Fields.{field, protect_field, is_unprotected, byte_check, count_field, bit_at}
use Rattle.ct_cdb.specs.Fields.{lba_21, lba_32, lba_64, count_6, count_10, count_12, count_16}

-- a form of six bytes, which refuses nothing
abbrev pub six : Op → Row
six op = record { size = 6; refusable = []; op = op }

-- a longer form, with a field in byte 1 and a number of blocks
abbrev pub long : ℕ → Field → Field → Op → Row
long size first count op = record { size = size; refusable = first ∷ count ∷ []; op = op }

-- READ
abbrev pub read_6 : List ℕ → Row
read_6 bytes = six (Read Six (lba_21 bytes) (count_6 bytes))

abbrev pub read_10 : List ℕ → Row
read_10 bytes =
    long 10 (protect_field bytes) (count_field 7 (count_10 bytes)) (Read Ten (lba_32 bytes) (count_10 bytes))

abbrev pub read_12 : List ℕ → Row
read_12 bytes =
    long 12 (protect_field bytes) (count_field 6 (count_12 bytes)) (Read Twelve (lba_32 bytes) (count_12 bytes))

abbrev pub read_16 : List ℕ → Row
read_16 bytes =
    long 16 (protect_field bytes) (count_field 10 (count_16 bytes)) (Read Sixteen (lba_64 bytes) (count_16 bytes))

-- WRITE
abbrev pub write_6 : List ℕ → Row
write_6 bytes = six (Write Six (lba_21 bytes) (count_6 bytes))

abbrev pub write_10 : List ℕ → Row
write_10 bytes =
    long 10 (protect_field bytes) (count_field 7 (count_10 bytes)) (Write Ten (lba_32 bytes) (count_10 bytes))

abbrev pub write_12 : List ℕ → Row
write_12 bytes =
    long 12 (protect_field bytes) (count_field 6 (count_12 bytes)) (Write Twelve (lba_32 bytes) (count_12 bytes))

abbrev pub write_16 : List ℕ → Row
write_16 bytes =
    long 16 (protect_field bytes) (count_field 10 (count_16 bytes)) (Write Sixteen (lba_64 bytes) (count_16 bytes))

-- WRITE AND VERIFY, whose BYTCHK is 0
abbrev pub write_check_field : List ℕ → Field
write_check_field bytes = field 1 (is_unprotected bytes && (byte_check bytes == 0))

abbrev pub write_and_verify_10 : List ℕ → Row
write_and_verify_10 bytes =
    long 10 (write_check_field bytes) (count_field 7 (count_10 bytes))
    (WriteAndVerify Ten (lba_32 bytes) (count_10 bytes))

abbrev pub write_and_verify_16 : List ℕ → Row
write_and_verify_16 bytes =
    long 16 (write_check_field bytes) (count_field 10 (count_16 bytes))
    (WriteAndVerify Sixteen (lba_64 bytes) (count_16 bytes))

-- VERIFY, whose BYTCHK is 0, or 1 where blocks are compared with the data-out
abbrev pub verify_check_field : List ℕ → Field
verify_check_field bytes = field 1 (is_unprotected bytes && nat_le (byte_check bytes) 1)

abbrev pub verify_10 : List ℕ → Row
verify_10 bytes =
    long 10 (verify_check_field bytes) (count_field 7 (count_10 bytes))
    (Verify Ten (bit_at 1 2 bytes) (lba_32 bytes) (count_10 bytes))

abbrev pub verify_12 : List ℕ → Row
verify_12 bytes =
    long 12 (verify_check_field bytes) (count_field 6 (count_12 bytes))
    (Verify Twelve (bit_at 1 2 bytes) (lba_32 bytes) (count_12 bytes))

abbrev pub verify_16 : List ℕ → Row
verify_16 bytes =
    long 16 (verify_check_field bytes) (count_field 10 (count_16 bytes))
    (Verify Sixteen (bit_at 1 2 bytes) (lba_64 bytes) (count_16 bytes))

-- COMPARE AND WRITE, of at most 128 blocks
abbrev pub compare_and_write : List ℕ → Row
compare_and_write bytes =
    long 16 (protect_field bytes) (field 13 (nat_le (slice_index bytes 13) MOST_COMPARE))
    (CompareAndWrite (lba_64 bytes) (slice_index bytes 13))

-- WRITE SAME: ANCHOR, PBDATA and LBDATA are 0, and at least one block is written; UNMAP is ignored in the form of ten
-- bytes
abbrev pub write_same_field : List ℕ → Field
write_same_field bytes = field 1 ((slice_index bytes 1 / 16 == 0) && (slice_index bytes 1 % 8 == 0))

abbrev pub some_count_field : ℕ → ℕ → Field
some_count_field byte count = field byte (nat_le 1 count && nat_le count MOST_TRANSFER)

abbrev pub write_same_10 : List ℕ → Row
write_same_10 bytes =
    long 10 (write_same_field bytes) (some_count_field 7 (count_10 bytes))
    (WriteSame Ten false (lba_32 bytes) (count_10 bytes))

abbrev pub write_same_16 : List ℕ → Row
write_same_16 bytes =
    long 16 (write_same_field bytes) (some_count_field 10 (count_16 bytes))
    (WriteSame Sixteen (bit_at 1 8 bytes) (lba_64 bytes) (count_16 bytes))

-- UNMAP, whose ANCHOR is 0
abbrev pub unmap : List ℕ → Row
unmap bytes =
    record { size = 10; refusable = field 1 (slice_index bytes 1 % 2 == 0) ∷ []; op = Unmap (number_at 2 7 bytes) }

-- SYNCHRONIZE CACHE
abbrev pub synchronize_cache_10 : List ℕ → Row
synchronize_cache_10 bytes =
    record { size = 10; refusable = []; op = SynchronizeCache Ten (lba_32 bytes) (count_10 bytes) }

abbrev pub synchronize_cache_16 : List ℕ → Row
synchronize_cache_16 bytes =
    record { size = 16; refusable = []; op = SynchronizeCache Sixteen (lba_64 bytes) (count_16 bytes) }
