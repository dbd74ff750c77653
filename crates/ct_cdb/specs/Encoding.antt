-- The bytes of a CDB. Every bit that a form ignores is 0.
use Rattle.std.specs.Prelude.{◌≡◌, ◌<◌, ◌≤◌, ◌+◌, ◌*◌, ◌/◌, ◌%◌, ◌^◌, ℕ, List, [], ◌∷◌, ◌++◌, Bool, true, false}
use Rattle.std.specs.Prelude.{if◌then◌else◌, length, drop}
use Rattle.ct_word.specs.Fields.{bytes_of}
use Rattle.ct_cdb.specs.declared.op.Op.{Op}
use Rattle.ct_cdb.specs.declared.op.Op.TheVariants as op
use Rattle.ct_cdb.specs.declared.op.Form.{Form}
use Rattle.ct_cdb.specs.declared.op.Form.TheVariants.{Six, Ten, Twelve, Sixteen}
use Rattle.ct_word.specs.declared.limit.TheConstants.{MOST_TRANSFER, MOST_COMPARE}
use Rattle.ct_cdb.specs.declared.op.Cdb.{Cdb}
use Rattle.ct_cdb.specs.Choices.{code_of_page, is_vital, code_of_selection, code_of_control, code_of_mode}
use Rattle.ct_cdb.specs.Choices.{subcode_of_mode, code_of_reserve_in, code_of_reserve_out, type_of_reserve_out}

-- an LBA fits the place that a form has for it
abbrev pub IsLba : Form → ℕ → Type 0
IsLba Six lba = lba < 2 ^ 21
IsLba Ten lba = lba < 2 ^ 32
IsLba Twelve lba = lba < 2 ^ 32
IsLba Sixteen lba = lba < 2 ^ 64

-- a form can say so many blocks: that of six bytes has no way to say none (SBC-3, READ (6))
abbrev pub IsCount : Form → ℕ → Type 0
IsCount Six count = (0 < count) × (count ≤ MOST_TRANSFER)
IsCount Ten count = count ≤ MOST_TRANSFER
IsCount Twelve count = count ≤ MOST_TRANSFER
IsCount Sixteen count = count ≤ MOST_TRANSFER

abbrev pub IsTransfer : Form → ℕ → ℕ → Type 0
IsTransfer form lba count = IsLba form lba × IsCount form count

-- the forms of a command that has these alone
abbrev pub IsTenOrSixteen : Form → Type 0
IsTenOrSixteen Six = ⊥
IsTenOrSixteen Ten = Unit {0}
IsTenOrSixteen Twelve = ⊥
IsTenOrSixteen Sixteen = Unit {0}

abbrev pub IsTenAndMore : Form → Type 0
IsTenAndMore Six = ⊥
IsTenAndMore Ten = Unit {0}
IsTenAndMore Twelve = Unit {0}
IsTenAndMore Sixteen = Unit {0}

-- the UNMAP bit has a place in the form of sixteen bytes
abbrev pub IsUnmapBit : Form → Bool → Type 0
IsUnmapBit Six unmap = ⊥
IsUnmapBit Ten unmap = unmap ≡ false
IsUnmapBit Twelve unmap = ⊥
IsUnmapBit Sixteen unmap = Unit {0}

-- NUMBER OF LOGICAL BLOCKS of SYNCHRONIZE CACHE, which has no limit of its own
abbrev pub IsCached : Form → ℕ → Type 0
IsCached Six count = ⊥
IsCached Ten count = count < 2 ^ 16
IsCached Twelve count = ⊥
IsCached Sixteen count = count < 2 ^ 32

-- a length that has one byte in the form of six bytes, and two in that of ten
abbrev pub IsLength : Form → ℕ → Type 0
IsLength Six size = size < 2 ^ 8
IsLength Ten size = size < 2 ^ 16
IsLength Twelve size = ⊥
IsLength Sixteen size = ⊥

-- each field of a form fits its place, and the form doesn't refuse it
abbrev pub IsInPlace : Op → Type 0
IsInPlace op.TestUnitReady = Unit {0}
IsInPlace (op.RequestSense descriptor allocation) = allocation < 2 ^ 8
IsInPlace (op.Inquiry page allocation) = allocation < 2 ^ 16
IsInPlace (op.ReportLuns select allocation) = allocation < 2 ^ 32
IsInPlace op.ReadCapacity10 = Unit {0}
IsInPlace (op.ReadCapacity16 allocation) = allocation < 2 ^ 32
IsInPlace (op.Read form lba count) = IsTransfer form lba count
IsInPlace (op.Write form lba count) = IsTransfer form lba count
IsInPlace (op.WriteAndVerify form lba count) = IsTenOrSixteen form × IsTransfer form lba count
IsInPlace (op.Verify form compare lba count) = IsTenAndMore form × IsTransfer form lba count
IsInPlace (op.CompareAndWrite lba count) = (lba < 2 ^ 64) × (count ≤ MOST_COMPARE)
IsInPlace (op.WriteSame form unmap lba count) = IsUnmapBit form unmap × (0 < count) × IsTransfer form lba count
IsInPlace (op.Unmap list) = list < 2 ^ 16
IsInPlace (op.SynchronizeCache form lba count) = IsLba form lba × IsCached form count
IsInPlace (op.StartStopUnit start) = Unit {0}
IsInPlace (op.ModeSelect form list) = IsLength form list
IsInPlace (op.ModeSense form no_descriptor control page allocation) = IsLength form allocation
IsInPlace (op.PersistentReserveIn action allocation) = allocation < 2 ^ 16
IsInPlace (op.PersistentReserveOut action list) = list < 2 ^ 32

-- CONTROL is a byte, and its bit 2 (NACA) is 0
abbrev pub IsControl : ℕ → Type 0
IsControl control = (control < 256) × (control / 4 % 2 ≡ 0)

-- what can be written: each field fits its place, and none is refused
pub record IsEncodable (cdb : Cdb) : Type 0 where
  pub op : IsInPlace cdb.op
  pub control : IsControl cdb.control

-- a bit of this weight
abbrev pub bit : Bool → ℕ → ℕ
bit set weight = if set then weight else 0

-- forms that name blocks: the code, the flags of byte 1, the LBA, the number of blocks and CONTROL; the number of blocks
-- of a form of six bytes, which shares byte 1 with the LBA, is 0 for 256
abbrev pub blocks_form : Form → ℕ → ℕ → ℕ → ℕ → ℕ → List ℕ
blocks_form Six code flags lba count control =
    code ∷ lba / 65536 ∷ [] ++ bytes_of 2 lba ++ count % 256 ∷ control ∷ []
blocks_form Ten code flags lba count control =
    code ∷ flags ∷ [] ++ bytes_of 4 lba ++ 0 ∷ [] ++ bytes_of 2 count ++ control ∷ []
blocks_form Twelve code flags lba count control =
    code ∷ flags ∷ [] ++ bytes_of 4 lba ++ bytes_of 4 count ++ 0 ∷ control ∷ []
blocks_form Sixteen code flags lba count control =
    code ∷ flags ∷ [] ++ bytes_of 8 lba ++ bytes_of 4 count ++ 0 ∷ control ∷ []

-- forms of six bytes: the code, bytes 1 to 4 and CONTROL
abbrev pub six_form : ℕ → ℕ → ℕ → ℕ → ℕ → ℕ → List ℕ
six_form code first second third fourth control = code ∷ first ∷ second ∷ third ∷ fourth ∷ control ∷ []

-- forms of ten bytes with bytes 1 to 3 and a length in bytes 7 and 8
abbrev pub ten_form : ℕ → ℕ → ℕ → ℕ → ℕ → ℕ → List ℕ
ten_form code first second third size control =
    code ∷ first ∷ second ∷ third ∷ 0 ∷ 0 ∷ 0 ∷ [] ++ bytes_of 2 size ++ control ∷ []

-- the operation code of a form, 0 where the command has no such form
abbrev pub code_of : Form → ℕ → ℕ → ℕ → ℕ → ℕ
code_of Six six ten twelve sixteen = six
code_of Ten six ten twelve sixteen = ten
code_of Twelve six ten twelve sixteen = twelve
code_of Sixteen six ten twelve sixteen = sixteen

-- MODE SENSE and MODE SELECT, by bytes 1 to 3 and the length
abbrev pub mode_form : Form → ℕ → ℕ → ℕ → ℕ → ℕ → ℕ → ℕ → List ℕ
mode_form Six six ten first second third size control = six_form six first second third size control
mode_form Ten six ten first second third size control = ten_form ten first second third size control
mode_form Twelve six ten first second third size control = []
mode_form Sixteen six ten first second third size control = []

-- the other forms of twelve and sixteen bytes: byte 1, byte 2 and a length
abbrev pub report_luns_form : ℕ → ℕ → ℕ → List ℕ
report_luns_form select allocation control =
    0xa0 ∷ 0 ∷ select ∷ 0 ∷ 0 ∷ 0 ∷ [] ++ bytes_of 4 allocation ++ 0 ∷ control ∷ []

abbrev pub read_capacity_form : ℕ → ℕ → List ℕ
read_capacity_form allocation control =
    0x9e ∷ 0x10 ∷ 0 ∷ 0 ∷ 0 ∷ 0 ∷ 0 ∷ 0 ∷ 0 ∷ 0 ∷ [] ++ bytes_of 4 allocation ++ 0 ∷ control ∷ []

-- PERSISTENT RESERVE OUT: its list length has four bytes
abbrev pub reserve_out_form : ℕ → ℕ → ℕ → ℕ → List ℕ
reserve_out_form action type list control =
    0x5f ∷ action ∷ type ∷ 0 ∷ 0 ∷ [] ++ bytes_of 4 list ++ control ∷ []

abbrev pub bytes_of_op : Op → ℕ → List ℕ
bytes_of_op op.TestUnitReady control = six_form 0x00 0 0 0 0 control
bytes_of_op (op.RequestSense descriptor allocation) control = six_form 0x03 (bit descriptor 1) 0 0 allocation control
bytes_of_op (op.Inquiry page allocation) control =
    0x12 ∷ bit (is_vital page) 1 ∷ code_of_page page ∷ [] ++ bytes_of 2 allocation ++ control ∷ []
bytes_of_op (op.ReportLuns select allocation) control = report_luns_form (code_of_selection select) allocation control
bytes_of_op op.ReadCapacity10 control = ten_form 0x25 0 0 0 0 control
bytes_of_op (op.ReadCapacity16 allocation) control = read_capacity_form allocation control
bytes_of_op (op.Read form lba count) control =
    blocks_form form (code_of form 0x08 0x28 0xa8 0x88) 0 lba count control
bytes_of_op (op.Write form lba count) control =
    blocks_form form (code_of form 0x0a 0x2a 0xaa 0x8a) 0 lba count control
bytes_of_op (op.WriteAndVerify form lba count) control =
    blocks_form form (code_of form 0 0x2e 0 0x8e) 0 lba count control
bytes_of_op (op.Verify form compare lba count) control =
    blocks_form form (code_of form 0 0x2f 0xaf 0x8f) (bit compare 2) lba count control
bytes_of_op (op.CompareAndWrite lba count) control = blocks_form Sixteen 0x89 0 lba count control
bytes_of_op (op.WriteSame form unmap lba count) control =
    blocks_form form (code_of form 0 0x41 0 0x93) (bit unmap 8) lba count control
bytes_of_op (op.Unmap list) control = ten_form 0x42 0 0 0 list control
bytes_of_op (op.SynchronizeCache form lba count) control =
    blocks_form form (code_of form 0 0x35 0 0x91) 0 lba count control
bytes_of_op (op.StartStopUnit start) control = six_form 0x1b 0 0 0 (bit start 1) control
bytes_of_op (op.ModeSelect form list) control = mode_form form 0x15 0x55 0 0 0 list control
bytes_of_op (op.ModeSense form no_descriptor values page allocation) control =
    mode_form form 0x1a 0x5a (bit no_descriptor 8) (code_of_control values * 64 + code_of_mode page)
    (subcode_of_mode page) allocation control
bytes_of_op (op.PersistentReserveIn action allocation) control =
    ten_form 0x5e (code_of_reserve_in action) 0 0 allocation control
bytes_of_op (op.PersistentReserveOut action list) control =
    reserve_out_form (code_of_reserve_out action) (type_of_reserve_out action) list control

abbrev pub bytes_of_cdb : Cdb → List ℕ
bytes_of_cdb cdb = bytes_of_op cdb.op cdb.control

-- bytes, as many as this, are written at the beginning of a list, and the rest stays
pub record IsWritten (bytes : List ℕ) (size : ℕ) (old new : List ℕ) : Type 0 where
  pub size_is : size ≡ length bytes
  pub new_is : new ≡ bytes ++ drop size old
