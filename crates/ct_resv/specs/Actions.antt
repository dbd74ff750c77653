-- PERSISTENT RESERVE OUT (SPC-4, 6.16): one equation a service action.
use Rattle.std.specs.Prelude.{ℕ, List, Bool, not, ◌==◌, ◌&&◌, if◌then◌else◌, Option, None, Some}
use Rattle.std.specs.List.{list_any}
use Rattle.ct_word.specs.declared.names.Nexus.{Nexus}
use Rattle.ct_cdb.specs.declared.choices.ReservationType.{ReservationType}
use Rattle.ct_cdb.specs.declared.choices.ReserveOut.{ReserveOut}
use Rattle.ct_cdb.specs.declared.choices.ReserveOut.TheVariants as action
use Rattle.ct_param.specs.declared.resv.ResvList.{ResvList}
use Rattle.ct_resv.specs.declared.fault.ResvFault.TheVariants.{Conflict, BadRelease, BadKey}
use Rattle.ct_resv.specs.declared.registrants.Named.TheVariants as named
use Rattle.ct_resv.specs.declared.registrants.Registrant.{Registrant}
use Rattle.ct_resv.specs.declared.reservations.Reservation.{Reservation}
use Rattle.ct_resv.specs.declared.reservations.Reservations.{Reservations}
use Rattle.ct_resv.specs.Registering.{is_registered, has_key, is_held_by_all, is_holder}
use Rattle.ct_resv.specs.Changes.{Outcome, refused, unchanged, added, rekeyed, unregistered, reserved, released}
use Rattle.ct_resv.specs.Changes.{cleared, is_named, removed, preempted, is_same_type}

-- an action of a registrant: RESERVATION KEY has to be its own key, else it ends with RESERVATION CONFLICT
abbrev pub by_registrant : Nexus → ResvList → Reservations → Outcome → Outcome
by_registrant nexus keys state outcome =
    if has_key nexus keys.key state.registrants then outcome else refused Conflict state

-- SERVICE ACTION RESERVATION KEY registers; 0 registers nothing
abbrev pub registering : Nexus → ℕ → Reservations → Outcome
registering nexus key state = if key == 0 then unchanged state else added nexus key state

-- of a registrant it becomes the key; 0 unregisters
abbrev pub registering_again : Nexus → ℕ → Reservations → Outcome
registering_again nexus key state = if key == 0 then unregistered nexus state else rekeyed nexus key state

-- REGISTER (SPC-4, 5.12, registering): of a nexus that isn't registered RESERVATION KEY has to be 0
abbrev pub after_register : Nexus → ResvList → Reservations → Outcome
after_register nexus keys state =
    if is_registered nexus state.registrants then
    by_registrant nexus keys state (registering_again nexus keys.service_key state)
    else if keys.key == 0 then registering nexus keys.service_key state
    else refused Conflict state

-- REGISTER AND IGNORE EXISTING KEY (SPC-4, 5.12, registering)
abbrev pub after_register_ignoring : Nexus → ResvList → Reservations → Outcome
after_register_ignoring nexus keys state =
    if is_registered nexus state.registrants then registering_again nexus keys.service_key state
    else registering nexus keys.service_key state

-- RESERVE (SPC-4, 5.12, reserving): a holder may reserve again, with the same type
abbrev pub reserving : Nexus → ReservationType → Reservations → Option Reservation → Outcome
reserving nexus kind state None = reserved nexus kind state
reserving nexus kind state (Some reservation) =
    if is_holder nexus state.registrants reservation && is_same_type reservation.kind kind then unchanged state
    else refused Conflict state

abbrev pub after_reserve : Nexus → ReservationType → ResvList → Reservations → Outcome
after_reserve nexus kind keys state = by_registrant nexus keys state (reserving nexus kind state state.reservation)

-- RELEASE (SPC-4, 5.12, releasing): of another than a holder it does nothing; a holder has to name the type
abbrev pub releasing : Nexus → ReservationType → Reservations → Option Reservation → Outcome
releasing nexus kind state None = unchanged state
releasing nexus kind state (Some reservation) =
    if not (is_holder nexus state.registrants reservation) then unchanged state
    else if is_same_type reservation.kind kind then released nexus kind state
    else refused BadRelease state

abbrev pub after_release : Nexus → ReservationType → ResvList → Reservations → Outcome
after_release nexus kind keys state = by_registrant nexus keys state (releasing nexus kind state state.reservation)

-- CLEAR (SPC-4, 5.12, clearing)
abbrev pub after_clear : Nexus → ResvList → Reservations → Outcome
after_clear nexus keys state = by_registrant nexus keys state (cleared nexus state)

-- PREEMPT and PREEMPT AND ABORT (SPC-4, 5.12, preempting): the named registrants are those with this key; 0 names all
-- of them, where all hold the reservation
-- one registrant holds the reservation, and is named
abbrev pub is_preempted : ℕ → List Registrant → Reservation → Bool
is_preempted key registrants reservation =
    not (is_held_by_all reservation.kind) && has_key reservation.holder key registrants

abbrev pub preempting_by_key : Nexus → ReservationType → ℕ → Reservations → Option Reservation → Outcome
preempting_by_key nexus kind key state None = removed nexus (named.Key key) state
preempting_by_key nexus kind key state (Some reservation) =
    if is_preempted key state.registrants reservation then
    preempted nexus reservation.kind kind (named.Key key) state
    else removed nexus (named.Key key) state

abbrev pub preempting_all : Nexus → ReservationType → Reservations → Option Reservation → Outcome
preempting_all nexus kind state None = refused BadKey state
preempting_all nexus kind state (Some reservation) =
    if is_held_by_all reservation.kind then preempted nexus reservation.kind kind named.Everyone state
    else refused BadKey state

abbrev pub preempting : Nexus → ReservationType → ℕ → Reservations → Outcome
preempting nexus kind key state =
    if key == 0 then preempting_all nexus kind state state.reservation
    else if list_any (is_named (named.Key key)) state.registrants
    then preempting_by_key nexus kind key state state.reservation
    else refused Conflict state

abbrev pub after_preempt : Nexus → ReservationType → ResvList → Reservations → Outcome
after_preempt nexus kind keys state =
    by_registrant nexus keys state (preempting nexus kind keys.service_key state)

-- a service action of a nexus, with its parameter list
unfoldable pub after_out : Reservations → Nexus → ReserveOut → ResvList → Outcome
after_out state nexus action.Register keys = after_register nexus keys state
after_out state nexus (action.Reserve kind) keys = after_reserve nexus kind keys state
after_out state nexus (action.Release kind) keys = after_release nexus kind keys state
after_out state nexus action.Clear keys = after_clear nexus keys state
after_out state nexus (action.Preempt kind) keys = after_preempt nexus kind keys state
after_out state nexus (action.PreemptAndAbort kind) keys = after_preempt nexus kind keys state
after_out state nexus action.RegisterAndIgnoreExistingKey keys = after_register_ignoring nexus keys state
