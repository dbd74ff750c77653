-- The columns of every row fit one another, and which of them stand by themselves.
use Rattle.std.proofs.Common.{◌≡◌, ℕ, ◌≤◌, List, [], Bool, true, false, Result, Ok, Err, refl, arith}
use Rattle.ct_cdb.specs.declared.op.Op.{Op}
use Rattle.ct_cdb.specs.declared.op.Op.TheVariants.{TestUnitReady, Verify}
use Rattle.ct_cdb.specs.declared.op.Cdb.{Cdb}
use Rattle.ct_cdb.specs.declared.op.CdbFault.{CdbFault}
use Rattle.ct_cdb.specs.declared.op.SerIdx.{SerIdx}
use Rattle.ct_cdb.specs.declared.op.SerIdx.TheVariants.{Tur, Inq}
use Rattle.ct_cdb.specs.declared.profile.Class.{Class}
use Rattle.ct_cdb.specs.declared.profile.Class.TheVariants.{Always}
use Rattle.ct_cdb.specs.declared.profile.Profile.{Profile}
use Rattle.ct_cdb.specs.Built.{is_built}
use Rattle.ct_cdb.specs.Profiles.{profile_of, profile_by, built_row, operations, asked_of, room_of, reports, Fits}
use Rattle.ct_cdb.specs.Profiles.{refused, is_indexed, is_classed}

-- the last clause is tried for each command that has none
pub row_fits : (op : Op) (out : List ℕ) (blocks : ℕ) → Fits (profile_of op out blocks)
row_fits TestUnitReady out blocks =
    record {
      indexed = refl;
      classed = refl;
      barred = refl;
      awake = refl;
      covered = omega arith;
      buffered = λ some. omega arith;
      modest = omega arith;
      roomy = omega arith;
    }
row_fits (Verify form true lba count) out blocks =
    record {
      indexed = refl;
      classed = refl;
      barred = refl;
      awake = refl;
      covered = omega arith;
      buffered = λ some. omega arith;
      modest = omega arith;
      roomy = omega arith;
    }
row_fits (Verify form false lba count) out blocks =
    record {
      indexed = refl;
      classed = refl;
      barred = refl;
      awake = refl;
      covered = omega arith;
      buffered = λ some. omega arith;
      modest = omega arith;
      roomy = omega arith;
    }
row_fits _ out blocks =
    record {
      indexed = refl;
      classed = refl;
      barred = refl;
      awake = refl;
      covered = omega arith;
      buffered = λ some. omega arith;
      modest = omega arith;
      roomy = omega arith;
    }

still_indexed : (index : SerIdx) → is_indexed index [] ≡ true
still_indexed Tur = refl
still_indexed _ = refl

still_classed : (class : Class) → is_classed class [] ≡ true
still_classed Always = refl
still_classed _ = refl

-- so do those of a command that isn't built, or of bytes that are no CDB
refused_fits : (index : SerIdx) (class : Class) → Fits (refused index class)
refused_fits index class =
    record {
      indexed = still_indexed index;
      classed = still_classed class;
      barred = refl;
      awake = refl;
      covered = omega arith;
      buffered = λ some. omega arith;
      modest = omega arith;
      roomy = omega arith;
    }

built_fits : (built : Bool) (profile : Profile) → Fits profile → Fits (built_row built profile)
built_fits true profile fits = fits
built_fits false profile fits = refused_fits profile.index profile.class

pub decoded_fits : (decoded : Result Cdb CdbFault) (out : List ℕ) (blocks : ℕ) → Fits (profile_by decoded out blocks)
decoded_fits (Ok cdb) out blocks =
    built_fits (is_built cdb.op) (profile_of cdb.op out blocks) (row_fits cdb.op out blocks)
decoded_fits (Err fault) out blocks = refused_fits Inq Always

same_room : (op : Op) (out : List ℕ) (blocks : ℕ) → (profile_of op out blocks).data_in ≡ (profile_of op [] 0).data_in
same_room TestUnitReady out blocks = refl
same_room _ out blocks = refl

built_room : (built : Bool) (one other : Profile) → one.data_in ≡ other.data_in
    → (built_row built one).data_in ≡ (built_row built other).data_in
built_room true one other same = same
built_room false one other same = refl

-- the room for the data-in depends neither on the data-out nor on the disk
pub decoded_room : (decoded : Result Cdb CdbFault) (out : List ℕ) (blocks : ℕ)
    → (profile_by decoded out blocks).data_in ≡ room_of decoded
decoded_room (Ok cdb) out blocks =
    built_room (is_built cdb.op) (profile_of cdb.op out blocks) (profile_of cdb.op [] 0) (same_room cdb.op out blocks)
decoded_room (Err fault) out blocks = refl

same_reports : (op : Op) (out : List ℕ) (blocks : ℕ)
    → (profile_of op out blocks).reports_attention ≡ (profile_of op [] 0).reports_attention
same_reports TestUnitReady out blocks = refl
same_reports _ out blocks = refl

built_reports : (built : Bool) (one other : Profile) → one.reports_attention ≡ other.reports_attention
    → (built_row built one).reports_attention ≡ (built_row built other).reports_attention
built_reports true one other same = same
built_reports false one other same = refl

-- nor does it depend on them whether an attention is reported
pub decoded_reports : (decoded : Result Cdb CdbFault) (out : List ℕ) (blocks : ℕ)
    → (profile_by decoded out blocks).reports_attention ≡ reports decoded
decoded_reports (Ok cdb) out blocks =
    built_reports (is_built cdb.op) (profile_of cdb.op out blocks) (profile_of cdb.op [] 0)
    (same_reports cdb.op out blocks)
decoded_reports (Err fault) out blocks = refl

built_operations : (built : Bool) (profile : Profile) (asked : ℕ) → operations profile ≤ asked
    → operations (built_row built profile) ≤ asked
built_operations true profile asked few = few
built_operations false profile asked few = omega arith

-- a command makes no more block operations than it asks for
pub few_operations : (cdb : Cdb) (out : List ℕ) (blocks : ℕ)
    → operations (profile_by (Ok cdb) out blocks) ≤ asked_of cdb.op out blocks
few_operations cdb out blocks =
    built_operations (is_built cdb.op) (profile_of cdb.op out blocks) (asked_of cdb.op out blocks) (omega arith)
