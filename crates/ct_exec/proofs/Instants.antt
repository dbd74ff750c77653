-- What a command does at once that nothing refuses is what its plan does.
use Rattle.std.proofs.Common.{◌≡◌, ℕ, Bool, true, false, not, ◌&&◌, nat_lt, cond, if◌then◌else◌, List, [], ◌∷◌, length}
use Rattle.std.proofs.Common.{Option, None, Some, Result, Ok, Err, refl, sym, ◌∙◌, ap, subst}
use Rattle.std.specs.List.{list_all}
use Rattle.std.proofs.lemmas.Bool.{and_parts}
use Rattle.ct_word.specs.Nexuses.{no_nexuses}
use Rattle.ct_word.specs.declared.names.Nexus.{Nexus}
use Rattle.ct_cdb.specs.declared.op.Cdb.{Cdb}
use Rattle.ct_cdb.specs.declared.op.CdbFault.{CdbFault}
use Rattle.ct_cdb.specs.declared.profile.Profile.{Profile}
use Rattle.ct_cdb.specs.Forms.{cdb_of}
use Rattle.ct_cdb.specs.Ranges.{is_inside}
use Rattle.ct_cdb.specs.Profiles.{is_performed}
use Rattle.ct_sense.specs.declared.reply.Reply.{Reply}
use Rattle.ct_sense.specs.declared.code.TheConstants.{PARAMETER_LIST_LENGTH_ERROR, LBA_OUT_OF_RANGE}
use Rattle.ct_plan.specs.declared.operation.BlockOp.{BlockOp}
use Rattle.ct_plan.specs.Plans.{planned, plan_of}
use Rattle.ct_plan.specs.Cells.{Cells, Progress, performed}
use Rattle.ct_plan.specs.Effects.{effect}
use Rattle.ct_plan.proofs.Cuts.{whole_phases}
use Rattle.ct_book.specs.declared.work.Command.{Command}
use Rattle.ct_book.specs.Works.{profile_in}
use Rattle.ct_exec.specs.Controls.{ControlState, Disk}
use Rattle.ct_exec.specs.Data.{data_of_unit}
use Rattle.ct_exec.specs.Changes.{changed_control, cleared_by}
use Rattle.ct_exec.specs.Executions.{Execution, good, check_condition, refusal_of, refusal_by, reply_moved}
use Rattle.ct_exec.specs.Executions.{unbuilt, reported, reserved, stopped, unsaved, short_of_data, faulty_list, out_of_range}
use Rattle.ct_exec.specs.Executions.{execute, executed, plan_in}
use Rattle.ct_exec.proofs.Unrefused.{first_parts}
use Rattle.ct_exec.proofs.UnitData.{moving_silent}

-- nothing refuses what is performed
unrefused_performed : (control : ControlState) (blocks : ℕ) (nexus : Nexus) (out : List ℕ)
    (decoded : Result Cdb CdbFault) (profile : Profile) → refusal_by control blocks nexus out decoded profile ≡ None
    → is_performed (length out) blocks profile ≡ true
unrefused_performed control blocks nexus out (Err fault) profile h = absurd (cc)
unrefused_performed control blocks nexus out (Ok cdb) profile h =
    let built = first_parts (unbuilt control cdb.op) _ h in
    let told = first_parts (reported control nexus profile.reports_attention) _ built.1 in
    let allowed = first_parts (reserved control nexus profile.class) _ told.1 in
    let ready = first_parts (stopped control profile) _ allowed.1 in
    let current = first_parts (unsaved control cdb.op) _ ready.1 in
    let long = first_parts (short_of_data control (length out) profile) _ current.1 in
    let listed = first_parts (faulty_list control blocks out cdb.op) _ long.1 in
    let inside = first_parts (out_of_range control blocks profile) _ listed.1 in
    go (nat_lt (length out) profile.data_out) (list_all (is_inside blocks) profile.ranges) long.0 inside.0
  where
    go : (short inside : Bool)
        → (if short then Some (check_condition control PARAMETER_LIST_LENGTH_ERROR None) else None) ≡ None
        → (if inside then None else Some (check_condition control LBA_OUT_OF_RANGE None)) ≡ None
        → (not short && inside) ≡ true
    go true inside long within = absurd (cc)
    go false true long within = refl
    go false false long within = absurd (cc)

-- a command before its first operation, with the data that it returns of the unit
abbrev pub begun : Disk → Command → Cells
begun disk c = record { blocks = disk.blocks; got = data_of_unit disk.control (length disk.blocks) c }

-- the disk and the reply of a command whose operations came so far, with the control behind it, and the nexuses whose
-- commands it clears
abbrev pub operated_by : Disk → ControlState → List Bool → Progress → Execution
operated_by disk changed cleared progress = record {
  disk = record { control = changed; blocks = progress.cells.blocks };
  reply = reply_moved disk.control progress.difference progress.cells.got;
  cleared = cleared;
}

pub whole_execution : (disk : Disk) (c : Command) → refusal_of disk.control (length disk.blocks) c ≡ None
    → execute disk c
    ≡ operated_by disk (changed_control disk.control c) (cleared_by disk.control c)
    (performed c.out (plan_in (length disk.blocks) c) (begun disk c))
unfolding execute refusal_of plan_in plan_of
whole_execution disk c unrefused =
    let profile : Profile = profile_in (length disk.blocks) c in
    let changed : ControlState = changed_control disk.control c in
    let clears : List Bool = cleared_by disk.control c in
    let yes : is_performed (length c.out) (length disk.blocks) profile ≡ true =
    unrefused_performed disk.control (length disk.blocks) c.nexus c.out (cdb_of c.cdb) profile unrefused in
    let inside =
    and_parts (not (nat_lt (length c.out) profile.data_out))
    (list_all (is_inside (length disk.blocks)) profile.ranges) yes in
    let ends = whole_phases c.out profile.ranges profile.phases (begun disk c) inside.1 in
    let planned_so : planned profile.phases profile.ranges
    ≡ cond (is_performed (length c.out) (length disk.blocks) profile) (planned profile.phases profile.ranges) [] =
    ap (λ (b : Bool). cond b (planned profile.phases profile.ranges) []) (sym yes) in
    ap (λ (refusal : Option Reply). executed refusal disk c) unrefused
    ∙ ap (λ (d : Option ℕ). record {
      disk = record {
        control = changed;
        blocks =
            (effect c.out profile.ranges profile.phases (begun disk c)).cells.blocks;
      };
      reply = reply_moved disk.control d (effect c.out profile.ranges profile.phases (begun disk c)).cells.got;
      cleared = clears;
    }) (sym ends.difference)
    ∙ ap (λ (cells : Cells). record {
      disk = record { control = changed; blocks = cells.blocks };
      reply = reply_moved disk.control
          (performed c.out (planned profile.phases profile.ranges) (begun disk c)).difference cells.got;
      cleared = clears;
    }) (sym ends.cells)
    ∙ ap (λ (operations : List BlockOp). operated_by disk changed clears (performed c.out operations (begun disk c)))
    planned_so

-- a command that moves blocks returns no data but theirs
pub begun_moving : (disk : Disk) (c : Command) (operation : BlockOp) (others : List BlockOp)
    → plan_in (length disk.blocks) c ≡ operation ∷ others → begun disk c ≡ record { blocks = disk.blocks; got = [] }
begun_moving disk c operation others planned_is =
    ap (λ (told : List ℕ). record { blocks = disk.blocks; got = told })
    (moving_silent disk.control (length disk.blocks) c operation others planned_is).told

-- and leaves the control
pub changed_moving : (disk : Disk) (c : Command) (operation : BlockOp) (others : List BlockOp)
    → plan_in (length disk.blocks) c ≡ operation ∷ others → changed_control disk.control c ≡ disk.control
changed_moving disk c operation others planned_is =
    (moving_silent disk.control (length disk.blocks) c operation others planned_is).changed

-- and clears no nexus
pub cleared_moving : (disk : Disk) (c : Command) (operation : BlockOp) (others : List BlockOp)
    → plan_in (length disk.blocks) c ≡ operation ∷ others → cleared_by disk.control c ≡ no_nexuses
cleared_moving disk c operation others planned_is =
    (moving_silent disk.control (length disk.blocks) c operation others planned_is).cleared

-- a command that nothing refuses and that has no block operation leaves the blocks, and returns the data of the unit
pub done_at_once : (control : ControlState) (command : Command) (count : ℕ) (blocks : List (List ℕ))
    → refusal_of control count command ≡ None → plan_in count command ≡ [] → length blocks ≡ count
    → execute (record { control = control; blocks = blocks }) command
    ≡ record {
      disk = record { control = changed_control control command; blocks = blocks };
      reply = good (data_of_unit control count command);
      cleared = cleared_by control command;
    }
done_at_once control command count blocks unrefused unplanned size =
    let disk : Disk = record { control = control; blocks = blocks } in
    let refused : refusal_of control (length blocks) command ≡ None =
    subst (λ (n : ℕ). refusal_of control n command ≡ None) (sym size) unrefused in
    let planned_is : plan_in (length blocks) command ≡ [] =
    subst (λ (n : ℕ). plan_in n command ≡ []) (sym size) unplanned in
    whole_execution disk command refused
    ∙ ap (λ (operations : List BlockOp). operated_by disk (changed_control control command)
    (cleared_by control command) (performed command.out operations (begun disk command))) planned_is
    ∙ ap (λ (n : ℕ). record {
      disk = record { control = changed_control control command; blocks = blocks };
      reply = good (data_of_unit control n command);
      cleared = cleared_by control command;
    }) size
