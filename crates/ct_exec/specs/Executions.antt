-- The whole execution of one command, at once (SBC-3, clause 5; SPC-4, 4.5).
use Rattle.std.specs.Prelude.{ℕ, List, [], ◌∷◌, length, Bool, true, false, not, ◌&&◌, nat_lt, if◌then◌else◌}
use Rattle.std.specs.Prelude.{Option, None, Some, option_map, Result, Ok, Err}
use Rattle.std.specs.List.{list_all}
use Rattle.ct_word.specs.declared.names.Code.{Code}
use Rattle.ct_word.specs.declared.names.Nexus.{Nexus}
use Rattle.ct_word.specs.Nexuses.{no_nexuses}
use Rattle.ct_cdb.specs.declared.op.Op.{Op}
use Rattle.ct_cdb.specs.declared.op.Op.TheVariants as op
use Rattle.ct_cdb.specs.declared.choices.PageControl.{PageControl}
use Rattle.ct_cdb.specs.declared.choices.PageControl.TheVariants as page_control
use Rattle.ct_cdb.specs.declared.op.Cdb.{Cdb}
use Rattle.ct_cdb.specs.declared.op.CdbFault.{CdbFault}
use Rattle.ct_cdb.specs.declared.op.CdbFault.TheVariants.{Empty, BadOperation, BadLength, BadField}
use Rattle.ct_cdb.specs.declared.profile.Class.{Class}
use Rattle.ct_cdb.specs.declared.profile.Profile.{Profile}
use Rattle.ct_cdb.specs.Built.{is_built}
use Rattle.ct_cdb.specs.Forms.{cdb_of}
use Rattle.ct_cdb.specs.Profiles.{reports}
use Rattle.ct_cdb.specs.Ranges.{is_inside}
use Rattle.ct_sense.specs.declared.reply.Reply.{Reply}
use Rattle.ct_sense.specs.declared.reply.Status.TheVariants as status
use Rattle.ct_sense.specs.declared.sense.SenseCode.{SenseCode}
use Rattle.ct_sense.specs.declared.code.TheConstants.{INVALID_COMMAND_OPERATION_CODE, INVALID_FIELD_IN_CDB}
use Rattle.ct_sense.specs.declared.code.TheConstants.{PARAMETER_LIST_LENGTH_ERROR, LBA_OUT_OF_RANGE}
use Rattle.ct_sense.specs.declared.code.TheConstants.{INITIALIZING_COMMAND_REQUIRED, WRITE_PROTECTED}
use Rattle.ct_sense.specs.declared.code.TheConstants.{SAVING_PARAMETERS_NOT_SUPPORTED}
use Rattle.ct_sense.specs.declared.code.TheConstants.{MISCOMPARE_DURING_VERIFY, UNRECOVERED_READ_ERROR, WRITE_ERROR}
use Rattle.ct_sense.specs.Codes.{sense_of}
use Rattle.ct_param.specs.declared.fault.ListFault.{ListFault}
use Rattle.ct_param.specs.Faults.{sense_code_of as sense_code_of_fault}
use Rattle.ct_resv.specs.declared.fault.ResvFault.{ResvFault}
use Rattle.ct_resv.specs.Faults.{sense_code_of as sense_code_of_resv_fault}
use Rattle.ct_resv.specs.Access.{is_allowed}
use Rattle.ct_ua.specs.CodeSets.{sense_code_of}
use Rattle.ct_ua.specs.Attentions.{first_code}
use Rattle.ct_plan.specs.declared.operation.BlockOp.{BlockOp}
use Rattle.ct_plan.specs.declared.operation.BlockOp.TheVariants as operations
use Rattle.ct_plan.specs.Plans.{plan_of, need_of}
use Rattle.ct_plan.specs.Effects.{effect}
use Rattle.ct_book.specs.declared.work.Command.{Command}
use Rattle.ct_book.specs.Works.{profile_in}
use Rattle.ct_exec.specs.Controls.{ControlState, Disk, has_descriptors}
use Rattle.ct_exec.specs.Modes.{list_fault}
use Rattle.ct_exec.specs.Reserving.{action_fault}
use Rattle.ct_exec.specs.Changes.{attention_taken, changed_control, cleared_by}
use Rattle.ct_exec.specs.Data.{data_of_unit}

-- GOOD with these data
abbrev pub good : List ℕ → Reply
good got = record { status = status.Good; sense = None; descriptor = false; body = got }

-- CHECK CONDITION with these sense data, in the form that the control asks for
abbrev pub check_condition : ControlState → SenseCode → Option ℕ → Reply
check_condition control code information = record {
  status = status.CheckCondition;
  sense = Some (sense_of code information);
  descriptor = has_descriptors control;
  body = [];
}

-- RESERVATION CONFLICT, a status without sense data (SAM-5, 5.3)
abbrev pub reservation_conflict : Reply
reservation_conflict = record {
  status = status.ReservationConflict;
  sense = None;
  descriptor = false;
  body = [];
}

-- the reply of a command that made its block operations: its data, or MISCOMPARE with the offset of the
-- first byte that differs
abbrev pub reply_moved : ControlState → Option ℕ → List ℕ → Reply
reply_moved control None got = good got
reply_moved control (Some offset) got = check_condition control MISCOMPARE_DURING_VERIFY (Some offset)

-- the refusal of bytes that are no CDB
abbrev pub undecoded : ControlState → CdbFault → Reply
undecoded control Empty = check_condition control INVALID_COMMAND_OPERATION_CODE None
undecoded control BadOperation = check_condition control INVALID_COMMAND_OPERATION_CODE None
undecoded control (BadLength want got) = check_condition control INVALID_FIELD_IN_CDB None
undecoded control (BadField byte) = check_condition control INVALID_FIELD_IN_CDB None

-- Checks: each says with what reply it refuses, if it does

-- the command isn't built
abbrev pub unbuilt : ControlState → Op → Option Reply
unbuilt control op = if is_built op then None else Some (check_condition control INVALID_COMMAND_OPERATION_CODE None)

-- its nexus has a unit attention, and it is one that reports it (SAM-5, 5.14)
abbrev pub reported : ControlState → Nexus → Bool → Option Reply
reported control nexus true =
    option_map (λ (condition : Code). check_condition control (sense_code_of condition) None)
    (first_code control.attentions nexus)
reported control nexus false = None

-- a persistent reservation doesn't let commands of its class through for its nexus (SPC-4, 5.12)
abbrev pub reserved : ControlState → Nexus → Class → Option Reply
reserved control nexus asked = if is_allowed control.reservations nexus asked then None else Some reservation_conflict

-- the unit is stopped, and it needs a started one (SBC-3, START STOP UNIT)
abbrev pub stopped : ControlState → Profile → Option Reply
stopped control profile =
    if profile.needs_started && not control.is_started
    then Some (check_condition control INITIALIZING_COMMAND_REQUIRED None) else None

-- it asks for saved mode pages (SPC-4, MODE SENSE)
abbrev pub is_saved : PageControl → Bool
is_saved page_control.Saved = true
is_saved _ = false

abbrev pub asks_saved : Op → Bool
asks_saved (op.ModeSense form no_descriptor values page allocation) = is_saved values
asks_saved _ = false

abbrev pub unsaved : ControlState → Op → Option Reply
unsaved control op =
    if asks_saved op then Some (check_condition control SAVING_PARAMETERS_NOT_SUPPORTED None) else None

-- it came with fewer bytes of data-out than it asks for
abbrev pub short_of_data : ControlState → ℕ → Profile → Option Reply
short_of_data control out profile =
    if nat_lt out profile.data_out then Some (check_condition control PARAMETER_LIST_LENGTH_ERROR None) else None

-- its parameter list is in fault
abbrev pub faulty_list : ControlState → ℕ → List ℕ → Op → Option Reply
faulty_list control blocks out op =
    option_map (λ (fault : ListFault). check_condition control (sense_code_of_fault fault) None)
    (list_fault control.pages blocks out op)

-- a range isn't inside the disk
abbrev pub out_of_range : ControlState → ℕ → Profile → Option Reply
out_of_range control blocks profile =
    if list_all (is_inside blocks) profile.ranges then None
    else Some (check_condition control LBA_OUT_OF_RANGE None)

-- it writes, and the unit is write protected (SPC-4, SWP of the Control mode page)
abbrev pub write_protected : ControlState → Profile → Option Reply
write_protected control profile =
    if profile.is_write && control.pages.protect then Some (check_condition control WRITE_PROTECTED None) else None

-- it is a PERSISTENT RESERVE OUT whose action is refused (SPC-4, PERSISTENT RESERVE OUT)
abbrev pub refused_action : ControlState → Option SenseCode → Reply
refused_action control (Some code) = check_condition control code None
refused_action control None = reservation_conflict

abbrev pub faulty_action : ControlState → Nexus → List ℕ → Op → Option Reply
faulty_action control nexus out op =
    option_map (λ (fault : ResvFault). refused_action control (sense_code_of_resv_fault fault))
    (action_fault control.reservations nexus out op)

-- the first of some checks that refuses
abbrev pub first_refusal : List (Option Reply) → Option Reply
first_refusal [] = None
first_refusal (Some reply ∷ checks) = Some reply
first_refusal (None ∷ checks) = first_refusal checks

-- the order of checks
abbrev pub refusal_by : ControlState → ℕ → Nexus → List ℕ → Result Cdb CdbFault → Profile → Option Reply
refusal_by control blocks nexus out (Err fault) profile = Some (undecoded control fault)
refusal_by control blocks nexus out (Ok cdb) profile =
    first_refusal (
    unbuilt control cdb.op
    ∷ reported control nexus profile.reports_attention
    ∷ reserved control nexus profile.class
    ∷ stopped control profile
    ∷ unsaved control cdb.op
    ∷ short_of_data control (length out) profile
    ∷ faulty_list control blocks out cdb.op
    ∷ out_of_range control blocks profile
    ∷ write_protected control profile
    ∷ faulty_action control nexus out cdb.op
    ∷ [])

-- the reply that refuses a command when it begins, on a disk of so many blocks, if there is one
unfoldable pub refusal_of : ControlState → ℕ → Command → Option Reply
refusal_of control blocks command =
    refusal_by control blocks command.nexus command.out (cdb_of command.cdb) (profile_in blocks command)

-- the control after a refusal: a command that reports unit attentions took the first, if there was one
unfoldable pub refused_control : ControlState → Command → ControlState
refused_control control command =
    if reports (cdb_of command.cdb) then attention_taken control command.nexus else control

-- a command executed: the disk after it, its reply, and the nexuses whose commands it clears (SPC-4, PREEMPT
-- AND ABORT)
pub record Execution : Type 0 where
  pub disk : Disk
  pub reply : Reply
  pub cleared : List Bool

-- what a command does that nothing refuses: what its phases do at once, what it changes of the control, and whose
-- commands it clears; it returns the data of the unit, or those of its blocks, and its sense data have the form that
-- was asked for before it
abbrev pub effect_of : Disk → Command → Execution
effect_of disk command =
    let blocks = length disk.blocks in
    let profile = profile_in blocks command in
    let told = data_of_unit disk.control blocks command in
    let done = effect command.out profile.ranges profile.phases (record { blocks = disk.blocks; got = told }) in
    record {
      disk = record { control = changed_control disk.control command; blocks = done.cells.blocks };
      reply = reply_moved disk.control done.difference done.cells.got;
      cleared = cleared_by disk.control command;
    }

abbrev pub executed : Option Reply → Disk → Command → Execution
executed (Some reply) disk command = record {
  disk = record disk { control = refused_control disk.control command };
  reply = reply;
  cleared = no_nexuses;
}
executed None disk command = effect_of disk command

-- a whole command: refused, or else done
unfoldable pub execute : Disk → Command → Execution
execute disk command = executed (refusal_of disk.control (length disk.blocks) command) disk command

-- the block operations of a command with its data-out, on a disk of so many blocks, and the blocks of the
-- pool that it needs; one that doesn't decode has none
unfoldable pub plan_in : ℕ → Command → List BlockOp
plan_in blocks command = plan_of (length command.out) blocks (profile_in blocks command)

unfoldable pub need_in : ℕ → Command → ℕ
need_in blocks command = need_of (length command.out) blocks (profile_in blocks command)

-- the reply where the medium failed an operation: UNRECOVERED READ ERROR or WRITE ERROR, with the LBA
abbrev pub reply_failed : ControlState → BlockOp → Reply
reply_failed control (operations.Get lba) = check_condition control UNRECOVERED_READ_ERROR (Some lba)
reply_failed control (operations.Look lba) = check_condition control UNRECOVERED_READ_ERROR (Some lba)
reply_failed control (operations.Put lba place) = check_condition control WRITE_ERROR (Some lba)
reply_failed control (operations.Zero lba) = check_condition control WRITE_ERROR (Some lba)
reply_failed control (operations.Compare lba place) = check_condition control UNRECOVERED_READ_ERROR (Some lba)
