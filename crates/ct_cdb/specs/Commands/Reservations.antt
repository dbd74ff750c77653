-- Persistent reservations (SPC-4, PERSISTENT RESERVE IN and PERSISTENT RESERVE OUT).
use Rattle.std.specs.Prelude.{ℕ, ◌+◌, ◌*◌, min}
use Rattle.ct_word.specs.declared.limit.TheConstants.{MOST_REGISTRANTS}
use Rattle.ct_cdb.specs.declared.op.SerIdx.TheVariants.{Res}
use Rattle.ct_cdb.specs.declared.choices.ReserveIn.{ReserveIn}
use Rattle.ct_cdb.specs.declared.choices.ReserveIn.TheVariants as reserve_in
use Rattle.ct_cdb.specs.declared.profile.Profile.{Profile}
use Rattle.ct_cdb.specs.declared.profile.Class.TheVariants.{Always}
use Rattle.ct_cdb.specs.Commands.Still.{still}

-- PERSISTENT RESERVE IN: the most bytes that each service action returns
abbrev pub reserve_in_length : ReserveIn → ℕ
reserve_in_length reserve_in.ReadKeys = 8 + 8 * MOST_REGISTRANTS
reserve_in_length reserve_in.ReadReservation = 24
reserve_in_length reserve_in.ReportCapabilities = 8
reserve_in_length reserve_in.ReadFullStatus = 8 + 48 * MOST_REGISTRANTS

abbrev pub persistent_reserve_in : ReserveIn → ℕ → Profile
persistent_reserve_in action allocation =
    record (still Res Always) { data_in = min allocation (reserve_in_length action) }

-- PERSISTENT RESERVE OUT
abbrev pub persistent_reserve_out : ℕ → Profile
persistent_reserve_out list = record (still Res Always) { data_out = list }
