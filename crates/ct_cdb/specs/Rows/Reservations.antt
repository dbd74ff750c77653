-- Persistent reservations (SPC-4, PERSISTENT RESERVE IN and PERSISTENT RESERVE OUT).
use Rattle.std.specs.Prelude.{List, [], ◌∷◌, ℕ, ◌%◌, ◌||◌, not, slice_index, Option, is_some, unwrap_or}
use Rattle.ct_word.specs.Fields.{number_at}
use Rattle.ct_cdb.specs.declared.op.Op.TheVariants.{PersistentReserveIn, PersistentReserveOut}
use Rattle.ct_cdb.specs.declared.choices.ReserveIn.{ReserveIn}
use Rattle.ct_cdb.specs.declared.choices.ReserveIn.TheVariants as reserve_in
use Rattle.ct_cdb.specs.declared.choices.ReserveOut.{ReserveOut}
use Rattle.ct_cdb.specs.declared.choices.ReserveOut.TheVariants as reserve_out
use Rattle.ct_cdb.specs.declared.choices.ReservationType.{ReservationType}
use Rattle.ct_cdb.specs.declared.choices.ReservationType.TheVariants as kind
use Rattle.ct_cdb.specs.declared.row.Row.{Row}
use Rattle.ct_cdb.specs.Fields.{field, choice_field}
use Rattle.ct_cdb.specs.Choices.{reserve_in_of, reservation_type, has_type, reserve_out_of}

-- PERSISTENT RESERVE IN: SERVICE ACTION, ALLOCATION LENGTH
abbrev pub persistent_reserve_in : List ℕ → Row
persistent_reserve_in bytes =
    let asked : Option ReserveIn = reserve_in_of (slice_index bytes 1 % 32) in
    record {
      size = 10;
      refusable = choice_field 1 asked ∷ [];
      op = PersistentReserveIn (unwrap_or asked reserve_in.ReadKeys) (number_at 2 7 bytes);
    }

-- PERSISTENT RESERVE OUT: SERVICE ACTION, SCOPE and TYPE where the action has them, PARAMETER LIST LENGTH
abbrev pub persistent_reserve_out : List ℕ → Row
persistent_reserve_out bytes =
    let code : ℕ = slice_index bytes 1 % 32 in
    let type : Option ReservationType = reservation_type (slice_index bytes 2) in
    let asked : Option ReserveOut = reserve_out_of (unwrap_or type kind.WriteExclusive) code in
    record {
      size = 10;
      refusable = choice_field 1 asked ∷ field 2 (not (has_type code) || is_some type) ∷ [];
      op = PersistentReserveOut (unwrap_or asked reserve_out.Register) (number_at 4 5 bytes);
    }
