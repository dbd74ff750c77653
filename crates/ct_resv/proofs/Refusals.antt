-- An action that is refused changes nothing.
use Rattle.std.proofs.Common.{◌≡◌, length, nat_le, Bool, true, false, if◌then◌else◌, refl}
use Rattle.std.specs.Prelude.{IfErr}
use Rattle.ct_word.specs.declared.names.Nexus.{Nexus}
use Rattle.ct_cdb.specs.declared.choices.ReserveOut.{ReserveOut}
use Rattle.ct_param.specs.declared.resv.ResvList.{ResvList}
use Rattle.ct_resv.specs.declared.fault.ResvFault.TheVariants.{Full}
use Rattle.ct_resv.specs.declared.reservations.Reservations.{Reservations}
use Rattle.ct_resv.specs.Changes.{Outcome, refused}
use Rattle.ct_resv.specs.Actions.{after_out}
use Rattle.ct_resv.proofs.Walk.{Each, each_action}

abbrev IsKept : Reservations → Outcome → Type 0
IsKept state outcome = IfErr outcome.answer (λ _. outcome.after ≡ state)

added_keeps : (test : Bool) (state : Reservations) (outcome : Outcome) → IsKept state outcome → IsKept state (if test then refused Full state else outcome)
added_keeps true state outcome kept = refl
added_keeps false state outcome kept = kept

each_keeps : (state : Reservations) (nexus : Nexus) → Each (IsKept state) state nexus
each_keeps state nexus = record {
  refused_is = λ fault. refl;
  unchanged_is = tt;
  added_is = λ key new. added_keeps (nat_le 64 (length state.registrants)) state _ tt;
  rekeyed_is = λ key. tt;
  unregistered_is = tt;
  reserved_is = λ kind here. tt;
  released_is = λ kind. tt;
  cleared_is = tt;
  removed_is = λ key here stands. tt;
  preempted_is = λ old kind who here. tt;
}

pub refused_keeps : (state : Reservations) (nexus : Nexus) (asked : ReserveOut) (keys : ResvList) → IfErr (after_out state nexus asked keys).answer (λ _. (after_out state nexus asked keys).after ≡ state)
refused_keeps state nexus asked keys = each_action (IsKept state) state nexus asked keys (each_keeps state nexus)
