-- What PERSISTENT RESERVE OUT makes of its parameter list (SPC-4, 5.12 and PERSISTENT RESERVE OUT).
use Rattle.std.specs.Prelude.{ℕ, List, take, Bool, true, false, Option, None, Some, Result, Ok, Err}
use Rattle.ct_word.specs.Nexuses.{no_nexuses}
use Rattle.ct_word.specs.declared.names.Nexus.{Nexus}
use Rattle.ct_word.specs.declared.names.Code.TheVariants.{ReservationsPreempted, ReservationsReleased}
use Rattle.ct_word.specs.declared.names.Code.TheVariants.{RegistrationsPreempted, CommandsCleared}
use Rattle.ct_cdb.specs.declared.choices.ReserveOut.{ReserveOut}
use Rattle.ct_cdb.specs.declared.choices.ReserveOut.TheVariants as action
use Rattle.ct_cdb.specs.declared.op.Op.{Op}
use Rattle.ct_cdb.specs.declared.op.Op.TheVariants as op
use Rattle.ct_param.specs.declared.fault.ListFault.{ListFault}
use Rattle.ct_param.specs.declared.resv.ResvList.{ResvList}
use Rattle.ct_param.specs.ResvLists.{resv_list_of}
use Rattle.ct_ua.specs.declared.code_set.CodeSet.{CodeSet}
use Rattle.ct_ua.specs.Attentions.{after_raise_for}
use Rattle.ct_resv.specs.declared.done.Done.{Done}
use Rattle.ct_resv.specs.declared.fault.ResvFault.{ResvFault}
use Rattle.ct_resv.specs.declared.reservations.Reservations.{Reservations}
use Rattle.ct_resv.specs.Changes.{Outcome}
use Rattle.ct_resv.specs.Actions.{after_out}
use Rattle.ct_exec.specs.Controls.{ControlState, tells_aborts}

-- the parameter list is in the first bytes of the data-out
abbrev pub reserve_list : ℕ → List ℕ → Result ResvList ListFault
reserve_list size out = resv_list_of (take size out)

-- why an action is refused, where its list has no fault
abbrev pub fault_of_answer : Result Done ResvFault → Option ResvFault
fault_of_answer (Ok done) = None
fault_of_answer (Err fault) = Some fault

abbrev pub fault_of_action : Reservations → Nexus → ReserveOut → Result ResvList ListFault → Option ResvFault
fault_of_action state nexus asked (Ok list) = fault_of_answer (after_out state nexus asked list).answer
fault_of_action state nexus asked (Err fault) = None

abbrev pub action_fault : Reservations → Nexus → List ℕ → Op → Option ResvFault
action_fault state nexus out (op.PersistentReserveOut asked size) =
    fault_of_action state nexus asked (reserve_list size out)
action_fault state nexus out _ = None

-- PREEMPT AND ABORT aborts the commands of the nexuses that it removes; where TAS is 0, they are told by a unit
-- attention (SPC-4, 5.12, preempting and aborting)
abbrev pub aborted_by : ReserveOut → Done → List Bool
aborted_by (action.PreemptAndAbort type) done = done.removed
aborted_by _ done = no_nexuses

abbrev pub told_of_aborts : Bool → List Bool → List CodeSet → List CodeSet
told_of_aborts true aborted attentions = attentions
told_of_aborts false aborted attentions = after_raise_for attentions aborted CommandsCleared

-- the unit attentions behind an accepted action, which aborts the commands of these nexuses, where TAS has this value
-- (SPC-4, 5.12)
abbrev pub told_of_action : Bool → Done → List Bool → List CodeSet → List CodeSet
told_of_action tells done aborted attentions =
    told_of_aborts tells aborted (
    after_raise_for (
    after_raise_for (
    after_raise_for attentions done.removed RegistrationsPreempted)
    done.released ReservationsReleased)
    done.preempted ReservationsPreempted)

abbrev pub told_by_answer : ControlState → ReserveOut → Result Done ResvFault → List CodeSet
told_by_answer control asked (Ok done) =
    told_of_action (tells_aborts control) done (aborted_by asked done) control.attentions
told_by_answer control asked (Err fault) = control.attentions

-- the control behind an action
abbrev pub after_action : ControlState → ReserveOut → Outcome → ControlState
after_action control asked outcome = record control {
  reservations = outcome.after;
  attentions = told_by_answer control asked outcome.answer;
}

abbrev pub after_reserve_out : ControlState → Nexus → ReserveOut → Result ResvList ListFault → ControlState
after_reserve_out control nexus asked (Ok list) =
    after_action control asked (after_out control.reservations nexus asked list)
after_reserve_out control nexus asked (Err fault) = control

-- the nexuses whose commands an action aborts
abbrev pub cleared_by_answer : ReserveOut → Result Done ResvFault → List Bool
cleared_by_answer asked (Ok done) = aborted_by asked done
cleared_by_answer asked (Err fault) = no_nexuses

abbrev pub cleared_by_action : Reservations → Nexus → ReserveOut → Result ResvList ListFault → List Bool
cleared_by_action state nexus asked (Ok list) = cleared_by_answer asked (after_out state nexus asked list).answer
cleared_by_action state nexus asked (Err fault) = no_nexuses
