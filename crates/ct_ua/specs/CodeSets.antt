-- Unit attention conditions by their codes (SAM-5, 5.14), and which of several is told first.
use Rattle.std.specs.Prelude.{◌≡◌, List, [], ◌∷◌, ◌++◌, Bool, true, false, if◌then◌else◌, Option, None, Some}
use Rattle.std.specs.List.{list_any}
use Rattle.ct_word.specs.declared.names.Code.{Code}
use Rattle.ct_word.specs.declared.names.Code.TheVariants as code
use Rattle.ct_sense.specs.declared.sense.SenseCode.{SenseCode}
use Rattle.ct_sense.specs.declared.code.TheConstants.{POWER_ON_OR_RESET_OCCURRED, POWER_ON_OCCURRED}
use Rattle.ct_sense.specs.declared.code.TheConstants.{I_T_NEXUS_LOSS_OCCURRED, MODE_PARAMETERS_CHANGED}
use Rattle.ct_sense.specs.declared.code.TheConstants.{RESERVATIONS_PREEMPTED, RESERVATIONS_RELEASED}
use Rattle.ct_sense.specs.declared.code.TheConstants.{REGISTRATIONS_PREEMPTED, ASYMMETRIC_ACCESS_STATE_CHANGED}
use Rattle.ct_sense.specs.declared.code.TheConstants.{COMMANDS_CLEARED_BY_ANOTHER_INITIATOR}
use Rattle.ct_ua.specs.declared.code_set.CodeSet.{CodeSet}

-- the sense key, UNIT ATTENTION, and the additional sense code of a condition (SPC-4, 4.5)
abbrev pub sense_code_of : Code → SenseCode
sense_code_of code.Reset = POWER_ON_OR_RESET_OCCURRED
sense_code_of code.PowerOn = POWER_ON_OCCURRED
sense_code_of code.NexusLoss = I_T_NEXUS_LOSS_OCCURRED
sense_code_of code.ModeChanged = MODE_PARAMETERS_CHANGED
sense_code_of code.ReservationsPreempted = RESERVATIONS_PREEMPTED
sense_code_of code.ReservationsReleased = RESERVATIONS_RELEASED
sense_code_of code.RegistrationsPreempted = REGISTRATIONS_PREEMPTED
sense_code_of code.AccessStateChanged = ASYMMETRIC_ACCESS_STATE_CHANGED
sense_code_of code.CommandsCleared = COMMANDS_CLEARED_BY_ANOTHER_INITIATOR

-- the empty set
abbrev pub no_codes : CodeSet
no_codes = record {
  reset = false;
  power_on = false;
  nexus_loss = false;
  mode_changed = false;
  reservations_preempted = false;
  reservations_released = false;
  registrations_preempted = false;
  access_state_changed = false;
  commands_cleared = false;
}

-- the set has the code
abbrev pub has_code : CodeSet → Code → Bool
has_code set code.Reset = set.reset
has_code set code.PowerOn = set.power_on
has_code set code.NexusLoss = set.nexus_loss
has_code set code.ModeChanged = set.mode_changed
has_code set code.ReservationsPreempted = set.reservations_preempted
has_code set code.ReservationsReleased = set.reservations_released
has_code set code.RegistrationsPreempted = set.registrations_preempted
has_code set code.AccessStateChanged = set.access_state_changed
has_code set code.CommandsCleared = set.commands_cleared

-- the same set, but that the code is in it, or isn't
abbrev pub put_code : CodeSet → Code → Bool → CodeSet
put_code set code.Reset is_in = record set { reset = is_in }
put_code set code.PowerOn is_in = record set { power_on = is_in }
put_code set code.NexusLoss is_in = record set { nexus_loss = is_in }
put_code set code.ModeChanged is_in = record set { mode_changed = is_in }
put_code set code.ReservationsPreempted is_in = record set { reservations_preempted = is_in }
put_code set code.ReservationsReleased is_in = record set { reservations_released = is_in }
put_code set code.RegistrationsPreempted is_in = record set { registrations_preempted = is_in }
put_code set code.AccessStateChanged is_in = record set { access_state_changed = is_in }
put_code set code.CommandsCleared is_in = record set { commands_cleared = is_in }

abbrev pub with_code : CodeSet → Code → CodeSet
with_code set code = put_code set code true

abbrev pub without_code : CodeSet → Code → CodeSet
without_code set code = put_code set code false

-- all codes, in the order in which a nexus is told of several
abbrev pub told_in_order : List Code
told_in_order =
    code.Reset ∷ code.PowerOn ∷ code.NexusLoss ∷ code.ModeChanged ∷ code.ReservationsPreempted
    ∷ code.ReservationsReleased ∷ code.RegistrationsPreempted ∷ code.AccessStateChanged ∷ code.CommandsCleared ∷ []

-- the first of some codes that the set has
abbrev pub first_among : List Code → CodeSet → Option Code
first_among [] set = None
first_among (first ∷ others) set = if has_code set first then Some first else first_among others set

-- the code of the set that is told first
abbrev pub first_of : CodeSet → Option Code
first_of set = first_among told_in_order set

-- the set has this code and none that stands before it in a list of codes
pub record IsFirst (codes : List Code) (set : CodeSet) (first : Code) : Type 0 where
  pub before : List Code
  pub after : List Code
  pub order : codes ≡ before ++ first ∷ after
  pub is_in : has_code set first ≡ true
  pub none_before : list_any (has_code set) before ≡ false
