-- Whose commands pass.
use Rattle.std.proofs.Common.{◌≡◌, List, true, Option, None, Some, refl, subst}
use Rattle.ct_word.specs.Nexuses.{is_same_nexus}
use Rattle.ct_word.specs.declared.names.Nexus.{Nexus}
use Rattle.ct_cdb.specs.declared.profile.Class.{Class}
use Rattle.ct_cdb.specs.declared.profile.Class.TheVariants as class
use Rattle.ct_cdb.specs.declared.choices.ReservationType.{ReservationType}
use Rattle.ct_cdb.specs.declared.choices.ReservationType.TheVariants as type
use Rattle.ct_resv.specs.declared.registrants.Registrant.{Registrant}
use Rattle.ct_resv.specs.declared.reservations.Reservation.{Reservation}
use Rattle.ct_resv.specs.declared.reservations.Reservations.{Reservations}
use Rattle.ct_resv.specs.Registering.{is_registered, is_holder, holds_by, holds}
use Rattle.ct_resv.specs.Access.{passes, passing_of, allowed_under, is_allowed}
use Rattle.ct_resv.specs.Soundness.{is_held, IsSound}
use Rattle.ct_resv.proofs.Sameness.{same_is_equal}

pub passes_free : (state : Reservations) (nexus : Nexus) (asked : Class) → state.reservation ≡ None → is_allowed state nexus asked ≡ true
unfolding is_allowed
passes_free state nexus asked free = rw free refl

always_under : (state : Reservations) (nexus : Nexus) (reservation : Option Reservation) → allowed_under state nexus class.Always reservation ≡ true
always_under state nexus None = refl
always_under state nexus (Some reservation) = refl

pub passes_always : (state : Reservations) (nexus : Nexus) → is_allowed state nexus class.Always ≡ true
unfolding is_allowed
passes_always state nexus = always_under state nexus state.reservation

-- a holder is registered
abbrev reserved_by : ReservationType → Nexus → Reservation
reserved_by kind holder = record { kind = kind; holder = holder }

registered_holder : (nexus holder : Nexus) (registrants : List Registrant) → is_same_nexus holder nexus ≡ true → is_registered holder registrants ≡ true → is_registered nexus registrants ≡ true
registered_holder nexus holder registrants same registered =
    subst (λ (n : Nexus). is_registered n registrants ≡ true) (same_is_equal holder nexus same) registered

pub holder_registered : (kind : ReservationType) (nexus holder : Nexus) (registrants : List Registrant) → is_holder nexus registrants (reserved_by kind holder) ≡ true
    → is_held registrants (Some (reserved_by kind holder)) ≡ true → is_registered nexus registrants ≡ true
holder_registered type.WriteExclusive nexus holder registrants is held = registered_holder nexus holder registrants is held
holder_registered type.ExclusiveAccess nexus holder registrants is held = registered_holder nexus holder registrants is held
holder_registered type.WriteExclusiveRegistrantsOnly nexus holder registrants is held = registered_holder nexus holder registrants is held
holder_registered type.ExclusiveAccessRegistrantsOnly nexus holder registrants is held = registered_holder nexus holder registrants is held
holder_registered type.WriteExclusiveAllRegistrants nexus holder registrants is held = is
holder_registered type.ExclusiveAccessAllRegistrants nexus holder registrants is held = is

reading_passes : (state : Reservations) (nexus : Nexus) (kind : ReservationType) → holds state nexus ≡ true → is_registered nexus state.registrants ≡ true
    → passes state nexus (passing_of class.Reading kind) ≡ true
reading_passes state nexus type.WriteExclusive held registered = refl
reading_passes state nexus type.ExclusiveAccess held registered = held
reading_passes state nexus type.WriteExclusiveRegistrantsOnly held registered = refl
reading_passes state nexus type.ExclusiveAccessRegistrantsOnly held registered = registered
reading_passes state nexus type.WriteExclusiveAllRegistrants held registered = refl
reading_passes state nexus type.ExclusiveAccessAllRegistrants held registered = registered

writing_passes : (state : Reservations) (nexus : Nexus) (kind : ReservationType) → holds state nexus ≡ true → is_registered nexus state.registrants ≡ true
    → passes state nexus (passing_of class.Writing kind) ≡ true
writing_passes state nexus type.WriteExclusive held registered = held
writing_passes state nexus type.ExclusiveAccess held registered = held
writing_passes state nexus type.WriteExclusiveRegistrantsOnly held registered = registered
writing_passes state nexus type.ExclusiveAccessRegistrantsOnly held registered = registered
writing_passes state nexus type.WriteExclusiveAllRegistrants held registered = registered
writing_passes state nexus type.ExclusiveAccessAllRegistrants held registered = registered

class_passes : (asked : Class) (state : Reservations) (nexus : Nexus) (kind : ReservationType) → holds state nexus ≡ true → is_registered nexus state.registrants ≡ true
    → passes state nexus (passing_of asked kind) ≡ true
class_passes class.Always state nexus kind held registered = refl
class_passes class.Reading state nexus kind held registered = reading_passes state nexus kind held registered
class_passes class.Writing state nexus kind held registered = writing_passes state nexus kind held registered

holder_under : (state : Reservations) (nexus : Nexus) (asked : Class) (reservation : Option Reservation) → holds state nexus ≡ true
    → holds_by nexus state.registrants reservation ≡ true → is_held state.registrants reservation ≡ true
    → allowed_under state nexus asked reservation ≡ true
holder_under state nexus asked None held is sound = refl
holder_under state nexus asked (Some reservation) held is sound =
    class_passes asked state nexus reservation.kind held
    (holder_registered reservation.kind nexus reservation.holder state.registrants is sound)

pub passes_holder : (state : Reservations) (nexus : Nexus) (asked : Class) → IsSound state → holds state nexus ≡ true → is_allowed state nexus asked ≡ true
unfolding is_allowed
passes_holder state nexus asked sound held = holder_under state nexus asked state.reservation held held sound.held
