-- What every state keeps: registrants are few and apart, and who holds the reservation is registered.
use Rattle.std.specs.Prelude.{◌≡◌, ◌≤◌, List, [], ◌∷◌, length, Bool, true, not, ◌&&◌, ◌==◌, if◌then◌else◌}
use Rattle.std.specs.Prelude.{Option, None, Some}
use Rattle.ct_word.specs.declared.limit.TheConstants.{MOST_REGISTRANTS}
use Rattle.ct_resv.specs.declared.registrants.Registrant.{Registrant}
use Rattle.ct_resv.specs.declared.reservations.Reservation.{Reservation}
use Rattle.ct_resv.specs.declared.reservations.Reservations.{Reservations}
use Rattle.ct_resv.specs.Registering.{is_registered, is_held_by_all}

-- each nexus is registered once
abbrev pub are_apart : List Registrant → Bool
are_apart [] = true
are_apart (registrant ∷ others) = not (is_registered registrant.nexus others) && are_apart others

-- the holder is registered; where every registrant is a holder, there is one
abbrev pub is_held : List Registrant → Option Reservation → Bool
is_held registrants None = true
is_held registrants (Some reservation) =
    if is_held_by_all reservation.kind then not (length registrants == 0)
    else is_registered reservation.holder registrants

pub record IsSound (state : Reservations) : Type 0 where
  pub few : length state.registrants ≤ MOST_REGISTRANTS
  pub once : are_apart state.registrants ≡ true
  pub held : is_held state.registrants state.reservation ≡ true
