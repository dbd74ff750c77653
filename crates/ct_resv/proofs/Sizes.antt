-- How many bytes PERSISTENT RESERVE IN returns.
use Rattle.std.proofs.Common.{◌≡◌, ◌≤◌, ◌+◌, ℕ, min, List, length, Option, None, Some, refl, ap, ◌∙◌, arith}
use Rattle.std.proofs.lemmas.List.{length-take}
use Rattle.ct_cdb.specs.declared.choices.ReserveIn.{ReserveIn}
use Rattle.ct_cdb.specs.declared.choices.ReserveIn.TheVariants as action
use Rattle.ct_cdb.specs.Commands.Reservations.{reserve_in_length}
use Rattle.ct_resv.specs.declared.registrants.Registrant.{Registrant}
use Rattle.ct_resv.specs.declared.reservations.Reservation.{Reservation}
use Rattle.ct_resv.specs.declared.reservations.Reservations.{Reservations}
use Rattle.ct_resv.specs.Reports.{headed, keys_listed, reservation_listed, statuses_listed, reservation_length}
use Rattle.ct_resv.specs.Reports.{listed_length, whole_reserve_in_data, reserve_in_data}
use Rattle.ct_resv.specs.Soundness.{IsSound}
use Rattle.ct_resv.proofs.Listing.{length-keys, length-statuses}

length-headed : (generation : ℕ) (listed : List ℕ) → length (headed generation listed) ≡ 8 + length listed
length-headed generation listed = omega arith

length-reservation : (registrants : List Registrant) (reservation : Option Reservation) → length (reservation_listed registrants reservation) ≡ reservation_length reservation
length-reservation registrants None = refl
length-reservation registrants (Some reservation) = refl

pub length-whole : (state : Reservations) (asked : ReserveIn) → length (whole_reserve_in_data state asked) ≡ listed_length state asked
unfolding whole_reserve_in_data
length-whole state action.ReadKeys =
    omega (arith, length-headed state.generation (keys_listed state.registrants), length-keys state.registrants)
length-whole state action.ReadReservation =
    omega (
      arith,
      length-headed state.generation (reservation_listed state.registrants state.reservation),
      length-reservation state.registrants state.reservation,
    )
length-whole state action.ReportCapabilities = refl
length-whole state action.ReadFullStatus =
    omega (arith, length-headed state.generation (statuses_listed state), length-statuses state state.registrants)

pub length-data : (state : Reservations) (asked : ReserveIn) (allocation : ℕ) → length (reserve_in_data state asked allocation) ≡ min allocation (listed_length state asked)
unfolding reserve_in_data
length-data state asked allocation =
    length-take allocation (whole_reserve_in_data state asked) ∙ ap (min allocation) (length-whole state asked)

reservation_most : (reservation : Option Reservation) → reservation_length reservation ≤ 16
reservation_most None = omega arith
reservation_most (Some reservation) = omega arith

listed_most : (state : Reservations) (asked : ReserveIn) → length state.registrants ≤ 64 → listed_length state asked ≤ reserve_in_length asked
listed_most state action.ReadKeys few = omega arith
listed_most state action.ReadReservation few = omega (arith, reservation_most state.reservation)
listed_most state action.ReportCapabilities few = omega arith
listed_most state action.ReadFullStatus few = omega arith

pub length-most : (state : Reservations) (asked : ReserveIn) (allocation : ℕ) → IsSound state → length (reserve_in_data state asked allocation) ≤ min allocation (reserve_in_length asked)
length-most state asked allocation sound =
    omega (arith, length-data state asked allocation, listed_most state asked sound.few)

-- the most bytes of data, for room that doesn't depend on what there is to say
pub length-allocation : (state : Reservations) (asked : ReserveIn) (allocation : ℕ) → length (reserve_in_data state asked allocation) ≤ allocation
length-allocation state asked allocation = omega (arith, length-data state asked allocation)

pub ruleset most_bytes = (length-allocation)
