-- What holds of each way in which an action ends holds of every action.
use Rattle.std.proofs.Common.{◌≡◌, ℕ, Bool, true, false, not, ◌&&◌, ◌==◌, if◌then◌else◌, Option, None, Some, refl}
use Rattle.std.specs.List.{list_any}
use Rattle.ct_word.specs.declared.names.Nexus.{Nexus}
use Rattle.ct_cdb.specs.declared.choices.ReservationType.{ReservationType}
use Rattle.ct_cdb.specs.declared.choices.ReserveOut.{ReserveOut}
use Rattle.ct_cdb.specs.declared.choices.ReserveOut.TheVariants as action
use Rattle.ct_param.specs.declared.resv.ResvList.{ResvList}
use Rattle.ct_resv.specs.declared.fault.ResvFault.{ResvFault}
use Rattle.ct_resv.specs.declared.fault.ResvFault.TheVariants.{Conflict, BadRelease, BadKey}
use Rattle.ct_resv.specs.declared.registrants.Named.{Named}
use Rattle.ct_resv.specs.declared.registrants.Named.TheVariants as named
use Rattle.ct_resv.specs.declared.reservations.Reservation.{Reservation}
use Rattle.ct_resv.specs.declared.reservations.Reservations.{Reservations}
use Rattle.ct_resv.specs.Registering.{is_registered, has_key, is_held_by_all, is_holder}
use Rattle.ct_resv.specs.Changes.{Outcome, refused, unchanged, added, rekeyed, unregistered, reserved, released, cleared}
use Rattle.ct_resv.specs.Changes.{is_named, removed, preempted, is_same_type}
use Rattle.ct_resv.specs.Actions.{by_registrant, registering, registering_again, after_register, after_register_ignoring}
use Rattle.ct_resv.specs.Actions.{reserving, releasing, is_preempted}
use Rattle.ct_resv.specs.Actions.{preempting_by_key, preempting_all, preempting, after_preempt, after_out}
use Rattle.ct_resv.proofs.Sameness.{has_key_registered}

-- the reservation is held by one who has another key, or by all
abbrev pub StandsWithout : ℕ → Reservations → Option Reservation → Type 0
StandsWithout key state None = Unit {0}
StandsWithout key state (Some reservation) = is_preempted key state.registrants reservation ≡ false

pub record Each (P : Outcome → Type 0) (state : Reservations) (nexus : Nexus) : Type 0 where
  pub refused_is : (fault : ResvFault) → P (refused fault state)
  pub unchanged_is : P (unchanged state)
  pub added_is : (key : ℕ) → is_registered nexus state.registrants ≡ false → P (added nexus key state)
  pub rekeyed_is : (key : ℕ) → P (rekeyed nexus key state)
  pub unregistered_is : P (unregistered nexus state)
  pub reserved_is : (kind : ReservationType) → is_registered nexus state.registrants ≡ true → P (reserved nexus kind state)
  pub released_is : (kind : ReservationType) → P (released nexus kind state)
  pub cleared_is : P (cleared nexus state)
  pub removed_is : (key : ℕ) → is_registered nexus state.registrants ≡ true → StandsWithout key state state.reservation → P (removed nexus (named.Key key) state)
  pub preempted_is : (old kind : ReservationType) (who : Named) → is_registered nexus state.registrants ≡ true → P (preempted nexus old kind who state)

pub chosen : (P : Outcome → Type 0) (test : Bool) (a b : Outcome) → (test ≡ true → P a) → (test ≡ false → P b) → P (if test then a else b)
chosen P true a b first second = first refl
chosen P false a b first second = second refl

each_by_registrant : (P : Outcome → Type 0) (state : Reservations) (nexus : Nexus) (keys : ResvList) (outcome : Outcome) → Each P state nexus
    → (is_registered nexus state.registrants ≡ true → P outcome) → P (by_registrant nexus keys state outcome)
each_by_registrant P state nexus keys outcome each here =
    chosen P (has_key nexus keys.key state.registrants) outcome (refused Conflict state)
    (λ has. here (has_key_registered nexus keys.key state.registrants has)) (λ _. each.refused_is Conflict)

each_registering : (P : Outcome → Type 0) (state : Reservations) (nexus : Nexus) (key : ℕ) → Each P state nexus → is_registered nexus state.registrants ≡ false → P (registering nexus key state)
each_registering P state nexus key each new =
    chosen P (key == 0) (unchanged state) (added nexus key state) (λ _. each.unchanged_is) (λ _. each.added_is key new)

each_again : (P : Outcome → Type 0) (state : Reservations) (nexus : Nexus) (key : ℕ) → Each P state nexus → P (registering_again nexus key state)
each_again P state nexus key each =
    chosen P (key == 0) (unregistered nexus state) (rekeyed nexus key state) (λ _. each.unregistered_is) (λ _. each.rekeyed_is key)

each_register : (P : Outcome → Type 0) (state : Reservations) (nexus : Nexus) (keys : ResvList) → Each P state nexus → P (after_register nexus keys state)
each_register P state nexus keys each =
    chosen P (is_registered nexus state.registrants) (by_registrant nexus keys state (registering_again nexus keys.service_key state))
    (if keys.key == 0 then registering nexus keys.service_key state else refused Conflict state)
    (λ _. each_by_registrant P state nexus keys (registering_again nexus keys.service_key state) each (λ _. each_again P state nexus keys.service_key each))
    (λ new. chosen P (keys.key == 0) (registering nexus keys.service_key state) (refused Conflict state)
    (λ _. each_registering P state nexus keys.service_key each new) (λ _. each.refused_is Conflict))

each_ignoring : (P : Outcome → Type 0) (state : Reservations) (nexus : Nexus) (keys : ResvList) → Each P state nexus → P (after_register_ignoring nexus keys state)
each_ignoring P state nexus keys each =
    chosen P (is_registered nexus state.registrants) (registering_again nexus keys.service_key state) (registering nexus keys.service_key state)
    (λ _. each_again P state nexus keys.service_key each) (λ new. each_registering P state nexus keys.service_key each new)

each_reserving : (P : Outcome → Type 0) (state : Reservations) (nexus : Nexus) (kind : ReservationType) (reservation : Option Reservation) → Each P state nexus → is_registered nexus state.registrants ≡ true
    → P (reserving nexus kind state reservation)
each_reserving P state nexus kind None each here = each.reserved_is kind here
each_reserving P state nexus kind (Some reservation) each here =
    chosen P (is_holder nexus state.registrants reservation && is_same_type reservation.kind kind) (unchanged state) (refused Conflict state)
    (λ _. each.unchanged_is) (λ _. each.refused_is Conflict)

each_releasing : (P : Outcome → Type 0) (state : Reservations) (nexus : Nexus) (kind : ReservationType) (reservation : Option Reservation) → Each P state nexus
    → P (releasing nexus kind state reservation)
each_releasing P state nexus kind None each = each.unchanged_is
each_releasing P state nexus kind (Some reservation) each =
    chosen P (not (is_holder nexus state.registrants reservation)) (unchanged state)
    (if is_same_type reservation.kind kind then released nexus kind state else refused BadRelease state)
    (λ _. each.unchanged_is)
    (λ _. chosen P (is_same_type reservation.kind kind) (released nexus kind state) (refused BadRelease state)
    (λ _. each.released_is kind) (λ _. each.refused_is BadRelease))

each_by_key : (P : Outcome → Type 0) (state : Reservations) (nexus : Nexus) (kind : ReservationType) (key : ℕ) (reservation : Option Reservation) → Each P state nexus
    → is_registered nexus state.registrants ≡ true → (StandsWithout key state reservation → P (removed nexus (named.Key key) state))
    → P (preempting_by_key nexus kind key state reservation)
each_by_key P state nexus kind key None each here stands = stands tt
each_by_key P state nexus kind key (Some reservation) each here stands =
    chosen P (is_preempted key state.registrants reservation) (preempted nexus reservation.kind kind (named.Key key) state) (removed nexus (named.Key key) state)
    (λ _. each.preempted_is reservation.kind kind (named.Key key) here) stands

each_all : (P : Outcome → Type 0) (state : Reservations) (nexus : Nexus) (kind : ReservationType) (reservation : Option Reservation) → Each P state nexus
    → is_registered nexus state.registrants ≡ true → P (preempting_all nexus kind state reservation)
each_all P state nexus kind None each here = each.refused_is BadKey
each_all P state nexus kind (Some reservation) each here =
    chosen P (is_held_by_all reservation.kind) (preempted nexus reservation.kind kind named.Everyone state) (refused BadKey state)
    (λ _. each.preempted_is reservation.kind kind named.Everyone here) (λ _. each.refused_is BadKey)

each_preempting : (P : Outcome → Type 0) (state : Reservations) (nexus : Nexus) (kind : ReservationType) (key : ℕ) → Each P state nexus
    → is_registered nexus state.registrants ≡ true → P (preempting nexus kind key state)
each_preempting P state nexus kind key each here =
    chosen P (key == 0) (preempting_all nexus kind state state.reservation)
    (if list_any (is_named (named.Key key)) state.registrants then preempting_by_key nexus kind key state state.reservation else refused Conflict state)
    (λ _. each_all P state nexus kind state.reservation each here)
    (λ _. chosen P (list_any (is_named (named.Key key)) state.registrants) (preempting_by_key nexus kind key state state.reservation) (refused Conflict state)
    (λ _. each_by_key P state nexus kind key state.reservation each here (each.removed_is key here)) (λ _. each.refused_is Conflict))

each_preempt : (P : Outcome → Type 0) (state : Reservations) (nexus : Nexus) (kind : ReservationType) (keys : ResvList) → Each P state nexus → P (after_preempt nexus kind keys state)
each_preempt P state nexus kind keys each =
    each_by_registrant P state nexus keys (preempting nexus kind keys.service_key state) each (each_preempting P state nexus kind keys.service_key each)

pub each_action : (P : Outcome → Type 0) (state : Reservations) (nexus : Nexus) (asked : ReserveOut) (keys : ResvList) → Each P state nexus → P (after_out state nexus asked keys)
unfolding after_out
each_action P state nexus action.Register keys each = each_register P state nexus keys each
each_action P state nexus (action.Reserve kind) keys each =
    each_by_registrant P state nexus keys (reserving nexus kind state state.reservation) each (each_reserving P state nexus kind state.reservation each)
each_action P state nexus (action.Release kind) keys each =
    each_by_registrant P state nexus keys (releasing nexus kind state state.reservation) each (λ _. each_releasing P state nexus kind state.reservation each)
each_action P state nexus action.Clear keys each = each_by_registrant P state nexus keys (cleared nexus state) each (λ _. each.cleared_is)
each_action P state nexus (action.Preempt kind) keys each = each_preempt P state nexus kind keys each
each_action P state nexus (action.PreemptAndAbort kind) keys each = each_preempt P state nexus kind keys each
each_action P state nexus action.RegisterAndIgnoreExistingKey keys each = each_ignoring P state nexus keys each
