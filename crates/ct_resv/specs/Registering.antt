-- Registrants of a logical unit, and the holders of its persistent reservation (SPC-4, 5.12).
use Rattle.std.specs.Prelude.{ℕ, List, [], filter, Bool, true, false, not, ◌==◌, if◌then◌else◌}
use Rattle.std.specs.Prelude.{Option, None, Some, option_map}
use Rattle.std.specs.List.{list_any, find, fold}
use Rattle.ct_word.specs.Nexuses.{is_same_nexus, no_nexuses, with_nexus}
use Rattle.ct_word.specs.declared.names.Nexus.{Nexus}
use Rattle.ct_cdb.specs.declared.choices.ReservationType.{ReservationType}
use Rattle.ct_cdb.specs.declared.choices.ReservationType.TheVariants as type
use Rattle.ct_resv.specs.declared.registrants.Registrant.{Registrant}
use Rattle.ct_resv.specs.declared.reservations.Reservation.{Reservation}
use Rattle.ct_resv.specs.declared.reservations.Reservations.{Reservations}

-- nothing is registered, nothing is reserved, and PRGENERATION is 0
abbrev pub no_reservations : Reservations
no_reservations = record { generation = 0; registrants = []; reservation = None }

-- a registrant is this nexus, or is another
abbrev pub is_own : Nexus → Registrant → Bool
is_own nexus registrant = is_same_nexus registrant.nexus nexus

abbrev pub is_other : Nexus → Registrant → Bool
is_other nexus registrant = not (is_own nexus registrant)

-- a nexus is registered
abbrev pub is_registered : Nexus → List Registrant → Bool
is_registered nexus registrants = list_any (is_own nexus) registrants

-- the key of a nexus, if it is registered
abbrev pub key_of : Nexus → List Registrant → Option ℕ
key_of nexus registrants = option_map (λ registrant. registrant.key) (find (is_own nexus) registrants)

-- a nexus is registered with this key
abbrev pub is_key : ℕ → Option ℕ → Bool
is_key key None = false
is_key key (Some own) = own == key

abbrev pub has_key : Nexus → ℕ → List Registrant → Bool
has_key nexus key registrants = is_key key (key_of nexus registrants)

-- the nexuses of registrants, as a set
abbrev pub nexuses_of : List Registrant → List Bool
nexuses_of registrants = fold (λ set registrant. with_nexus set registrant.nexus) no_nexuses registrants

-- the registrants that are other nexuses than this one
abbrev pub others_of : Nexus → List Registrant → List Registrant
others_of nexus registrants = filter (is_other nexus) registrants

-- the types under which every registrant holds the reservation (SPC-4, 5.12, all registrants)
abbrev pub is_held_by_all : ReservationType → Bool
is_held_by_all type.WriteExclusive = false
is_held_by_all type.ExclusiveAccess = false
is_held_by_all type.WriteExclusiveRegistrantsOnly = false
is_held_by_all type.ExclusiveAccessRegistrantsOnly = false
is_held_by_all type.WriteExclusiveAllRegistrants = true
is_held_by_all type.ExclusiveAccessAllRegistrants = true

-- the types under which one registrant holds it, and the others have access too (SPC-4, 5.12, registrants only)
abbrev pub is_registrants_only : ReservationType → Bool
is_registrants_only type.WriteExclusive = false
is_registrants_only type.ExclusiveAccess = false
is_registrants_only type.WriteExclusiveRegistrantsOnly = true
is_registrants_only type.ExclusiveAccessRegistrantsOnly = true
is_registrants_only type.WriteExclusiveAllRegistrants = false
is_registrants_only type.ExclusiveAccessAllRegistrants = false

-- a nexus is a persistent reservation holder
abbrev pub is_holder : Nexus → List Registrant → Reservation → Bool
is_holder nexus registrants reservation =
    if is_held_by_all reservation.kind then is_registered nexus registrants
    else is_same_nexus reservation.holder nexus

abbrev pub holds_by : Nexus → List Registrant → Option Reservation → Bool
holds_by nexus registrants None = false
holds_by nexus registrants (Some reservation) = is_holder nexus registrants reservation

abbrev pub holds : Reservations → Nexus → Bool
holds state nexus = holds_by nexus state.registrants state.reservation
