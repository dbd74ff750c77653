-- The row of a command, what is read off it, and what holds of every row.
use Rattle.std.specs.Prelude.{◌≡◌, ℕ, suc, ◌+◌, ◌*◌, ◌<◌, ◌≤◌, max, List, [], ◌∷◌, length, Bool, true, false, not, ◌&&◌, ◌||◌}
use Rattle.std.specs.Prelude.{nat_lt, Result, Ok, Err, if◌then◌else◌}
use Rattle.std.specs.List.{list_all, list_any}
use Rattle.ct_word.specs.declared.limit.TheConstants.{BLOCK_SIZE}
use Rattle.ct_cdb.specs.declared.op.Op.{Op}
use Rattle.ct_cdb.specs.declared.op.Op.TheVariants as op
use Rattle.ct_cdb.specs.declared.op.Cdb.{Cdb}
use Rattle.ct_cdb.specs.declared.op.CdbFault.{CdbFault}
use Rattle.ct_cdb.specs.declared.op.SerIdx.{SerIdx}
use Rattle.ct_cdb.specs.declared.op.SerIdx.TheVariants.{Tur, Inq, RqS, Cap, Rd, Wr, Un, Sy, MSn, MSl, Res, Sta}
use Rattle.ct_cdb.specs.declared.profile.Profile.{Profile}
use Rattle.ct_cdb.specs.declared.profile.Class.{Class}
use Rattle.ct_cdb.specs.declared.profile.Class.TheVariants.{Always, Reading, Writing}
use Rattle.ct_cdb.specs.declared.profile.Phase.{Phase}
use Rattle.ct_cdb.specs.declared.profile.Phase.TheVariants as phase
use Rattle.ct_cdb.specs.Ranges.{total, is_inside}
use Rattle.ct_cdb.specs.Built.{is_built}
use Rattle.ct_cdb.specs.Commands.Still.{still}
use Rattle.ct_cdb.specs.Commands.Blocks.{read, write, write_and_verify, verify, compare_and_write, write_same, unmap}
use Rattle.ct_cdb.specs.Commands.Blocks.{synchronize_cache}
use Rattle.ct_cdb.specs.Commands.Inquiries.{test_unit_ready, request_sense, inquiry, report_luns}
use Rattle.ct_cdb.specs.Commands.Inquiries.{read_capacity_10, read_capacity_16}
use Rattle.ct_cdb.specs.Commands.Modes.{start_stop_unit, mode_select, mode_sense}
use Rattle.ct_cdb.specs.Commands.Reservations.{persistent_reserve_in, persistent_reserve_out}

-- the row of a command that came with this data-out, on a disk of so many blocks
abbrev pub profile_of : Op → List ℕ → ℕ → Profile
profile_of op.TestUnitReady out blocks = test_unit_ready
profile_of (op.RequestSense descriptor allocation) out blocks = request_sense descriptor allocation
profile_of (op.Inquiry page allocation) out blocks = inquiry page allocation
profile_of (op.ReportLuns select allocation) out blocks = report_luns select allocation
profile_of op.ReadCapacity10 out blocks = read_capacity_10
profile_of (op.ReadCapacity16 allocation) out blocks = read_capacity_16 allocation
profile_of (op.Read form lba count) out blocks = read lba count
profile_of (op.Write form lba count) out blocks = write lba count
profile_of (op.WriteAndVerify form lba count) out blocks = write_and_verify lba count
profile_of (op.Verify form compare lba count) out blocks = verify compare lba count
profile_of (op.CompareAndWrite lba count) out blocks = compare_and_write lba count
profile_of (op.WriteSame form unmap lba count) out blocks = write_same lba count
profile_of (op.Unmap list) out blocks = unmap list out blocks
profile_of (op.SynchronizeCache form lba count) out blocks = synchronize_cache lba count
profile_of (op.StartStopUnit start) out blocks = start_stop_unit
profile_of (op.ModeSelect form list) out blocks = mode_select list
profile_of (op.ModeSense form no_descriptor control page allocation) out blocks =
    mode_sense form no_descriptor page allocation
profile_of (op.PersistentReserveIn action allocation) out blocks = persistent_reserve_in action allocation
profile_of (op.PersistentReserveOut action list) out blocks = persistent_reserve_out list

-- the row of a command that moves no block and reports no attention, as of bytes that are no CDB
abbrev pub refused : SerIdx → Class → Profile
refused index class = record (still index class) { reports_attention = false }

-- the row of a command, of which index and class alone stand as long as it isn't built
abbrev pub built_row : Bool → Profile → Profile
built_row true profile = profile
built_row false profile = refused profile.index profile.class

-- the row of bytes, by what they decode to
abbrev pub profile_by : Result Cdb CdbFault → List ℕ → ℕ → Profile
profile_by (Ok cdb) out blocks = built_row (is_built cdb.op) (profile_of cdb.op out blocks)
profile_by (Err fault) out blocks = refused Inq Always

-- the block operations of all phases
abbrev pub operations : Profile → ℕ
operations profile = length profile.phases * total profile.ranges

-- neither so many bytes of data-out nor a disk of so many blocks refuses the command
abbrev pub is_performed : ℕ → ℕ → Profile → Bool
is_performed out blocks profile = not (nat_lt out profile.data_out) && list_all (is_inside blocks) profile.ranges

-- the serialisation index of a command, the room for its data-in, and whether it reports an attention: columns that
-- depend neither on its data-out nor on the disk
abbrev pub index_of : Op → SerIdx
index_of op = (profile_of op [] 0).index

abbrev pub room_of : Result Cdb CdbFault → ℕ
room_of decoded = (profile_by decoded [] 0).data_in

abbrev pub reports : Result Cdb CdbFault → Bool
reports decoded = (profile_by decoded [] 0).reports_attention

-- the block operations that a command asks for, whether it is refused later or not; those of a command whose data-out
-- names its blocks depend on the disk too
abbrev pub asked_of : Op → List ℕ → ℕ → ℕ
asked_of op out blocks = operations (profile_of op out blocks)

-- a phase reads blocks, or writes blocks
abbrev pub reads : Phase → Bool
reads phase.Get = true
reads phase.Look = true
reads phase.Put = false
reads phase.PutSecondHalf = false
reads phase.PutSame = false
reads phase.Zero = false
reads phase.Compare = true

abbrev pub writes : Phase → Bool
writes phase.Get = false
writes phase.Look = false
writes phase.Put = true
writes phase.PutSecondHalf = true
writes phase.PutSame = true
writes phase.Zero = true
writes phase.Compare = false

-- it gives blocks to the initiator
abbrev pub gives : Phase → Bool
gives phase.Get = true
gives phase.Look = false
gives phase.Put = false
gives phase.PutSecondHalf = false
gives phase.PutSame = false
gives phase.Zero = false
gives phase.Compare = false

-- the blocks of the data-out that it goes through, where it works on so many
abbrev pub named_by : ℕ → Phase → ℕ
named_by count phase.Get = 0
named_by count phase.Look = 0
named_by count phase.Put = count
named_by count phase.PutSecondHalf = count + count
named_by count phase.PutSame = 1
named_by count phase.Zero = 0
named_by count phase.Compare = count

abbrev pub most_named : ℕ → List Phase → ℕ
most_named count [] = 0
most_named count (phase ∷ phases) = max (named_by count phase) (most_named count phases)

-- how many of some phases give blocks
abbrev pub giving : List Phase → ℕ
giving [] = 0
giving (phase ∷ phases) = if gives phase then suc (giving phases) else giving phases

-- the index that a row has goes with its phases: the table of conflicts lets commands of the index Rd pass one
-- another, and those of Rd, Wr and Un alone move blocks
abbrev pub has_no_phase : List Phase → Bool
has_no_phase [] = true
has_no_phase (phase ∷ phases) = false

abbrev pub is_indexed : SerIdx → List Phase → Bool
is_indexed Rd phases = not (list_any writes phases)
is_indexed Wr phases = true
is_indexed Un phases = true
is_indexed Tur phases = has_no_phase phases
is_indexed Inq phases = has_no_phase phases
is_indexed RqS phases = has_no_phase phases
is_indexed Cap phases = has_no_phase phases
is_indexed Sy phases = has_no_phase phases
is_indexed MSn phases = has_no_phase phases
is_indexed MSl phases = has_no_phase phases
is_indexed Res phases = has_no_phase phases
is_indexed Sta phases = has_no_phase phases

-- so does its class: a persistent reservation lets commands of the class Reading read beside it (SPC-4, PERSISTENT
-- RESERVE OUT)
abbrev pub is_classed : Class → List Phase → Bool
is_classed Always phases = has_no_phase phases
is_classed Reading phases = not (list_any writes phases)
is_classed Writing phases = has_no_phase phases || list_any writes phases

-- what the columns of a row have to do with one another
pub record Fits (profile : Profile) : Type 0 where
  -- the index is one of commands that do such phases
  pub indexed : is_indexed profile.index profile.phases ≡ true
  -- the class is one of commands that do such phases
  pub classed : is_classed profile.class profile.phases ≡ true
  -- write protection refuses exactly what writes blocks
  pub barred : profile.is_write ≡ list_any writes profile.phases
  -- what moves blocks needs a started unit, and reports an attention
  pub awake : (has_no_phase profile.phases || (profile.needs_started && profile.reports_attention)) ≡ true
  -- the data-out that is asked for has all blocks that the phases go through
  pub covered : BLOCK_SIZE * most_named (total profile.ranges) profile.phases ≤ profile.data_out
  -- what moves blocks needs a block of the pool
  pub buffered : 0 < operations profile → 0 < profile.need
  -- two blocks of the pool for each that is moved, and two more, are enough
  pub modest : profile.need ≤ 2 * total profile.ranges + 2
  -- there is room for all blocks that are given
  pub roomy : BLOCK_SIZE * (giving profile.phases * total profile.ranges) ≤ profile.data_in
