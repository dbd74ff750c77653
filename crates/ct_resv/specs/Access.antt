-- Which commands a persistent reservation lets through (SPC-4, 5.12, the table of commands allowed in its presence, by
-- the class of a command).
use Rattle.std.specs.Prelude.{Bool, true, Option, None, Some}
use Rattle.ct_word.specs.declared.names.Nexus.{Nexus}
use Rattle.ct_cdb.specs.declared.profile.Class.{Class}
use Rattle.ct_cdb.specs.declared.profile.Class.TheVariants as class
use Rattle.ct_cdb.specs.declared.choices.ReservationType.{ReservationType}
use Rattle.ct_cdb.specs.declared.choices.ReservationType.TheVariants as type
use Rattle.ct_resv.specs.declared.access.Passing.{Passing}
use Rattle.ct_resv.specs.declared.access.Passing.TheVariants as passing
use Rattle.ct_resv.specs.declared.reservations.Reservation.{Reservation}
use Rattle.ct_resv.specs.declared.reservations.Reservations.{Reservations}
use Rattle.ct_resv.specs.Registering.{is_registered, holds}

-- who passes under a type, with a command that reads, and with one that writes
abbrev pub passing_reading : ReservationType → Passing
passing_reading type.WriteExclusive = passing.Everyone
passing_reading type.ExclusiveAccess = passing.Holders
passing_reading type.WriteExclusiveRegistrantsOnly = passing.Everyone
passing_reading type.ExclusiveAccessRegistrantsOnly = passing.Registrants
passing_reading type.WriteExclusiveAllRegistrants = passing.Everyone
passing_reading type.ExclusiveAccessAllRegistrants = passing.Registrants

abbrev pub passing_writing : ReservationType → Passing
passing_writing type.WriteExclusive = passing.Holders
passing_writing type.ExclusiveAccess = passing.Holders
passing_writing type.WriteExclusiveRegistrantsOnly = passing.Registrants
passing_writing type.ExclusiveAccessRegistrantsOnly = passing.Registrants
passing_writing type.WriteExclusiveAllRegistrants = passing.Registrants
passing_writing type.ExclusiveAccessAllRegistrants = passing.Registrants

abbrev pub passing_of : Class → ReservationType → Passing
passing_of class.Always kind = passing.Everyone
passing_of class.Reading kind = passing_reading kind
passing_of class.Writing kind = passing_writing kind

-- a nexus is among those who pass
abbrev pub passes : Reservations → Nexus → Passing → Bool
passes state nexus passing.Everyone = true
passes state nexus passing.Registrants = is_registered nexus state.registrants
passes state nexus passing.Holders = holds state nexus

abbrev pub allowed_under : Reservations → Nexus → Class → Option Reservation → Bool
allowed_under state nexus asked None = true
allowed_under state nexus asked (Some reservation) = passes state nexus (passing_of asked reservation.kind)

-- a command of this class is let through for a nexus; where nothing is reserved, every command is
unfoldable pub is_allowed : Reservations → Nexus → Class → Bool
is_allowed state nexus asked = allowed_under state nexus asked state.reservation
