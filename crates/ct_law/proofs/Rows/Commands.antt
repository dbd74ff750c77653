-- The commands obey the laws.
use Rattle.std.specs.List.{list_all}
use Rattle.std.proofs.Common.{◌≡◌, ◌≢◌, ℕ, Bool, true, false, not, ◌&&◌, nat_lt, if◌then◌else◌, List, [], ◌∷◌}
use Rattle.std.proofs.Common.{Option, Some, None, option_map, Result, Ok, Err, length, slice_index_or, refl, sym}
use Rattle.std.proofs.Common.{ap, ◌∙◌, subst, ⊎_elim}
use Rattle.std.proofs.lemmas.Bool.{both_ways, cases_eq}
use Rattle.ct_word.specs.declared.names.Nexus.{Nexus}
use Rattle.ct_word.specs.Nexuses.{no_nexuses, contains, place_of, only_nexus}
use Rattle.ct_word.specs.declared.names.Code.{Code}
use Rattle.ct_word.specs.declared.names.Code.TheVariants.{NexusLoss}
use Rattle.ct_cdb.specs.declared.op.Op.{Op}
use Rattle.ct_cdb.specs.declared.op.Op.TheVariants as op
use Rattle.ct_cdb.specs.declared.op.Cdb.{Cdb}
use Rattle.ct_cdb.specs.declared.op.CdbFault.{CdbFault}
use Rattle.ct_cdb.specs.declared.op.SerIdx.{SerIdx}
use Rattle.ct_cdb.specs.declared.op.SerIdx.TheVariants.{Rd, Wr, Un, MSl, Res, Sta}
use Rattle.ct_cdb.specs.declared.profile.Class.{Class}
use Rattle.ct_cdb.specs.declared.profile.Phase.{Phase}
use Rattle.ct_cdb.specs.declared.profile.Profile.{Profile}
use Rattle.ct_cdb.specs.Built.{is_built}
use Rattle.ct_cdb.specs.Forms.{cdb_of}
use Rattle.ct_cdb.specs.Ranges.{is_inside}
use Rattle.ct_cdb.specs.Profiles.{profile_of, profile_by, built_row, reports, is_indexed}
use Rattle.ct_cdb.proofs.Fitting.{decoded_fits}
use Rattle.ct_sense.specs.declared.reply.Reply.{Reply}
use Rattle.ct_sense.specs.declared.code.TheConstants.{INVALID_COMMAND_OPERATION_CODE, PARAMETER_LIST_LENGTH_ERROR}
use Rattle.ct_sense.specs.declared.code.TheConstants.{LBA_OUT_OF_RANGE, INITIALIZING_COMMAND_REQUIRED}
use Rattle.ct_sense.specs.declared.code.TheConstants.{SAVING_PARAMETERS_NOT_SUPPORTED, WRITE_PROTECTED}
use Rattle.ct_tmf.specs.declared.function.Ask.{Ask}
use Rattle.ct_tmf.specs.declared.function.Function.{Function}
use Rattle.ct_tmf.specs.declared.function.Function.TheVariants.{AbortTask, AbortTaskSet, ClearTaskSet, LunReset, NexusReset, QueryTask, QueryTaskSet, ClearAca}
use Rattle.ct_tmf.specs.Reaches.{aborted_by, reaches, hits}
use Rattle.ct_matrix.specs.declared.cells.Action.{Action}
use Rattle.ct_matrix.specs.declared.cells.Action.TheVariants as action
use Rattle.ct_matrix.specs.declared.held.Held.{Held}
use Rattle.ct_matrix.specs.Extents.{overlap}
use Rattle.ct_matrix.specs.Matrix.{action_of}
use Rattle.ct_matrix.specs.Conflicts.{is_conflict, conflicts, is_skip, skips}
use Rattle.ct_plan.specs.declared.operation.BlockOp.{BlockOp}
use Rattle.ct_plan.specs.Plans.{plan_of}
use Rattle.ct_plan.specs.Cells.{Cells, performed}
use Rattle.ct_param.specs.declared.fault.ListFault.{ListFault}
use Rattle.ct_param.specs.Faults.{sense_code_of as sense_code_of_fault}
use Rattle.ct_resv.specs.declared.fault.ResvFault.{ResvFault}
use Rattle.ct_resv.specs.declared.reservations.Reservations.{Reservations}
use Rattle.ct_resv.specs.Faults.{sense_code_of as sense_code_of_resv_fault}
use Rattle.ct_resv.specs.Access.{is_allowed}
use Rattle.ct_pages.specs.declared.pages.ModePages.{ModePages}
use Rattle.ct_ua.specs.declared.code_set.CodeSet.{CodeSet}
use Rattle.ct_ua.specs.CodeSets.{no_codes, first_of, sense_code_of}
use Rattle.ct_ua.specs.Attentions.{first_code}
use Rattle.ct_ua.proofs.Nexuses.{nothing_taken, first_left, none_contained, other_not_in, first_beside}
use Rattle.ct_book.specs.declared.work.Command.{Command}
use Rattle.ct_book.specs.Works.{profile_in}
use Rattle.ct_exec.specs.Controls.{ControlState, Disk, is_unrestricted, tells_aborts}
use Rattle.ct_exec.specs.Closing.{closed_control, closing_control}
use Rattle.ct_exec.specs.Modes.{list_fault}
use Rattle.ct_exec.specs.Reserving.{action_fault}
use Rattle.ct_exec.specs.Changes.{attention_taken, changed_by, decoded_change, changed_control}
use Rattle.ct_exec.specs.Changes.{cleared_by}
use Rattle.ct_exec.specs.Executions.{Execution, good, check_condition, reservation_conflict, refused_action}
use Rattle.ct_exec.specs.Executions.{unbuilt, reported, reserved, stopped, short_of_data, faulty_action}
use Rattle.ct_exec.specs.Executions.{asks_saved, unsaved, faulty_list, out_of_range, write_protected, refusal_by}
use Rattle.ct_exec.specs.Executions.{refusal_of, refused_control, executed, execute, plan_in}
use Rattle.ct_exec.specs.Data.{data_of_unit}
use Rattle.ct_exec.proofs.Unrefused.{first_parts, first_none}
use Rattle.ct_exec.proofs.Clears.{clearing_index, clearing_keeps_tas}
use Rattle.ct_exec.proofs.UnitData.{unplanned}
use Rattle.ct_exec.proofs.Instants.{begun, begun_moving, changed_moving, cleared_moving, operated_by, whole_execution}
use Rattle.ct_machine.specs.States.{held_by}
use Rattle.ct_law.proofs.Cells.Blocks.{start, perform_size}
use Rattle.ct_law.proofs.Rows.Footprints.{apart_law}
use Rattle.ct_law.proofs.Rows.Laws.{has_operations, operated, IsOnce, Same, Laws}

-- Whole

-- a command that nothing refuses, with its operations and the data that it returns of the unit
abbrev done : Disk → Command → List BlockOp → Execution
done disk c ops =
    operated_by disk (changed_control disk.control c) (cleared_by disk.control c) (performed c.out ops (begun disk c))

whole_any : (n : ℕ) (disk : Disk) (c : Command) → length disk.blocks ≡ n → refusal_of disk.control n c ≡ None
    → execute disk c ≡ done disk c (plan_in n c)
whole_any n disk c sized =
    subst (λ m. refusal_of disk.control m c ≡ None → execute disk c ≡ done disk c (plan_in m c)) sized
    (whole_execution disk c)

whole_law : (n : ℕ) (disk : Disk) (c : Command) → length disk.blocks ≡ n → refusal_of disk.control n c ≡ None
    → has_operations (plan_in n c) ≡ true → execute disk c ≡ operated disk c (plan_in n c)
whole_law n disk c sized e moves = go (plan_in n c) refl moves
  where
    go : (ops : List BlockOp) → plan_in n c ≡ ops → has_operations ops ≡ true
        → execute disk c ≡ operated disk c (plan_in n c)
    go [] planned_is moves = absurd (cc)
    go (operation ∷ others) planned_is moves =
        let here : plan_in (length disk.blocks) c ≡ operation ∷ others =
        subst (λ (m : ℕ). plan_in m c ≡ operation ∷ others) (sym sized) planned_is in
        whole_any n disk c sized e
        ∙ ap (λ (cells : Cells). operated_by disk (changed_control disk.control c) (cleared_by disk.control c)
        (performed c.out (plan_in n c) cells)) (begun_moving disk c operation others here)
        ∙ ap (λ (changed : ControlState). operated_by disk changed (cleared_by disk.control c)
        (performed c.out (plan_in n c) (start disk.blocks))) (changed_moving disk c operation others here)
        ∙ ap (λ (cleared : List Bool). operated_by disk disk.control cleared
        (performed c.out (plan_in n c) (start disk.blocks))) (cleared_moving disk c operation others here)

-- Refused

refused_is : (disk : Disk) (c : Command) (reply : Reply) → refusal_of disk.control (length disk.blocks) c ≡ Some reply →
    execute disk c ≡ record {
      disk = record { control = refused_control disk.control c; blocks = disk.blocks };
      reply = reply;
      cleared = no_nexuses;
    }
unfolding execute
refused_is disk c reply e = ap (λ o. executed o disk c) e

abbrev reply_once : List ℕ → Option Reply → Reply
reply_once told (Some reply) = reply
reply_once told None = good told

abbrev control_once : ControlState → Command → Option Reply → ControlState
control_once control c (Some reply) = refused_control control c
control_once control c None = changed_control control c

abbrev cleared_once : ControlState → Command → Option Reply → List Bool
cleared_once control c (Some reply) = no_nexuses
cleared_once control c None = cleared_by control c

-- the control after a command that is refused or makes no operation, its reply, and what it clears
abbrev changed_once : ℕ → ControlState → Command → ControlState
changed_once n control c = control_once control c (refusal_of control n c)

abbrev replied_once : ℕ → ControlState → Command → Reply
replied_once n control c = reply_once (data_of_unit control n c) (refusal_of control n c)

abbrev clears_once : ℕ → ControlState → Command → List Bool
clears_once n control c = cleared_once control c (refusal_of control n c)

once_is : (n : ℕ) (control : ControlState) (blocks : List (List ℕ)) (c : Command) → length blocks ≡ n
    → IsOnce (refusal_of control n c) (plan_in n c)
    → execute (record { control = control; blocks = blocks }) c
    ≡ record {
      disk = record { control = changed_once n control c; blocks = blocks };
      reply = replied_once n control c;
      cleared = clears_once n control c;
    }
once_is n control blocks c sized h = go (refusal_of control n c) refl h
  where
    disk : Disk
    disk = record { control = control; blocks = blocks }

    go : (o : Option Reply) → refusal_of control n c ≡ o → IsOnce o (plan_in n c)
        → execute disk c
        ≡ record {
          disk = record { control = control_once control c o; blocks = blocks };
          reply = reply_once (data_of_unit control n c) o;
          cleared = cleared_once control c o;
        }
    go (Some reply) e h = refused_is disk c reply (subst (λ m. refusal_of control m c ≡ Some reply) (sym sized) e)
    go None e h =
        whole_any n disk c sized e
        ∙ ap (done disk c) h
        ∙ ap (λ (m : ℕ). record {
          disk = record { control = changed_control control c; blocks = blocks };
          reply = good (data_of_unit control m c);
          cleared = cleared_by control c;
        }) sized

once_law : (n : ℕ) (disk : Disk) (now : ControlState) (blocks : List (List ℕ)) (c : Command) → length disk.blocks ≡ n →
    length blocks ≡ n → now ≡ disk.control → IsOnce (refusal_of now n c) (plan_in n c) → Same disk now blocks c
once_law n disk now blocks c sized size e h =
    let here = once_is n now blocks c size h in
    let there = once_is n disk.control disk.blocks c sized (subst (λ k. IsOnce (refusal_of k n c) (plan_in n c)) e h) in
    record {
      control =
          ap (λ (a : Execution). a.disk.control) there ∙ ap (λ k. changed_once n k c) (sym e) ∙ sym
          (ap (λ (a : Execution). a.disk.control) here);
      reply = ap (λ (a : Execution). a.reply) here ∙ ap (λ k. replied_once n k c) e ∙ sym
          (ap (λ (a : Execution). a.reply) there);
      cleared =
          ap (λ (a : Execution). a.cleared) here ∙ ap (λ k. clears_once n k c) e ∙ sym
          (ap (λ (a : Execution). a.cleared) there);
      disk_blocks = ap (λ (a : Execution). a.disk.blocks) there;
      blocks = ap (λ (a : Execution). a.disk.blocks) here;
    }

-- a property of an execution that is refused or operated
executions : (P : Disk → Command → Execution → Type 0) (disk : Disk) (c : Command) →
    ((reply : Reply) → P disk c
    (record {
      disk = record { control = refused_control disk.control c; blocks = disk.blocks };
      reply = reply;
      cleared = no_nexuses;
    })) → P disk c (done disk c (plan_in (length disk.blocks) c)) → P disk c (execute disk c)
executions P disk c one two = go (refusal_of disk.control (length disk.blocks) c) refl
  where
    go : (o : Option Reply) → refusal_of disk.control (length disk.blocks) c ≡ o → P disk c (execute disk c)
    go (Some reply) e = subst (P disk c) (sym (refused_is disk c reply e)) (one reply)
    go None e = subst (P disk c) (sym (whole_any (length disk.blocks) disk c refl e)) two

-- Allowed

-- a control that lets begin what another let begin: no nexus has a unit attention that had none, and the rest is the
-- same
record Allows (before after : ControlState) : Type 0 where
  pages : after.pages ≡ before.pages
  started : after.is_started ≡ before.is_started
  reservations : after.reservations ≡ before.reservations
  attentions : (nexus : Nexus) → first_code before.attentions nexus ≡ None → first_code after.attentions nexus ≡ None

same_allows : (control : ControlState) → Allows control control
same_allows control = record { pages = refl; started = refl; reservations = refl; attentions = λ nexus none. none }

-- the same for the commands of one nexus
record AllowsFor (nexus : Nexus) (before after : ControlState) : Type 0 where
  pages : after.pages ≡ before.pages
  started : after.is_started ≡ before.is_started
  reservations : after.reservations ≡ before.reservations
  attentions : first_code before.attentions nexus ≡ None → first_code after.attentions nexus ≡ None

allows_for : (before after : ControlState) (nexus : Nexus) → Allows before after → AllowsFor nexus before after
allows_for before after nexus allows = record {
  pages = allows.pages;
  started = allows.started;
  reservations = allows.reservations;
  attentions = allows.attentions nexus;
}

-- a check that lets one control's command begin lets another's
spared_if : (test : Bool) (one other : Reply) → (if test then Some one else None) ≡ None
    → (if test then Some other else None) ≡ None
spared_if true one other none = absurd (cc)
spared_if false one other none = refl

spared_unless : (test : Bool) (one other : Reply) → (if test then None else Some one) ≡ None
    → (if test then None else Some other) ≡ None
spared_unless true one other none = refl
spared_unless false one other none = absurd (cc)

spared_reported : (before after : ControlState) (nexus : Nexus) (reports : Bool) → AllowsFor nexus before after
    → reported before nexus reports ≡ None → reported after nexus reports ≡ None
spared_reported before after nexus false allows none = refl
spared_reported before after nexus true allows none = go (first_code before.attentions nexus) refl none
  where
    go : (first : Option Code) → first_code before.attentions nexus ≡ first
        → option_map (λ (condition : Code). check_condition before (sense_code_of condition) None) first ≡ None
        → reported after nexus true ≡ None
    go (Some condition) is none = absurd (cc)
    go None is none =
        ap (option_map (λ (condition : Code). check_condition after (sense_code_of condition) None))
        (allows.attentions is)

spared_reserved : (before after : ControlState) (nexus : Nexus) (asked : Class) → AllowsFor nexus before after
    → reserved before nexus asked ≡ None → reserved after nexus asked ≡ None
spared_reserved before after nexus asked allows none =
    subst (λ (state : Reservations). (if is_allowed state nexus asked then None else Some reservation_conflict) ≡ None)
    (sym allows.reservations) none

spared_stopped : {nexus : Nexus} (before after : ControlState) (profile : Profile) → AllowsFor nexus before after
    → stopped before profile ≡ None → stopped after profile ≡ None
spared_stopped before after profile allows none =
    subst (λ (started : Bool). (if profile.needs_started && not started then Some
    (check_condition after INITIALIZING_COMMAND_REQUIRED None) else None) ≡ None) (sym allows.started)
    (spared_if (profile.needs_started && not before.is_started)
    (check_condition before INITIALIZING_COMMAND_REQUIRED None)
    (check_condition after INITIALIZING_COMMAND_REQUIRED None) none)

spared_list : {nexus : Nexus} (before after : ControlState) (n : ℕ) (out : List ℕ) (o : Op) → AllowsFor nexus before after
    → faulty_list before n out o ≡ None → faulty_list after n out o ≡ None
spared_list before after n out o allows none =
    subst (λ (pages : ModePages).
    option_map (λ (fault : ListFault). check_condition after (sense_code_of_fault fault) None)
    (list_fault pages n out o) ≡ None) (sym allows.pages) (go (list_fault before.pages n out o) none)
  where
    go : (fault : Option ListFault)
        → option_map (λ (fault : ListFault). check_condition before (sense_code_of_fault fault) None) fault ≡ None
        → option_map (λ (fault : ListFault). check_condition after (sense_code_of_fault fault) None) fault ≡ None
    go None none = refl
    go (Some fault) none = absurd (cc)

spared_protected : {nexus : Nexus} (before after : ControlState) (profile : Profile) → AllowsFor nexus before after
    → write_protected before profile ≡ None → write_protected after profile ≡ None
spared_protected before after profile allows none =
    subst (λ (pages : ModePages). (if profile.is_write && pages.protect then Some
    (check_condition after WRITE_PROTECTED None) else None) ≡ None) (sym allows.pages)
    (spared_if (profile.is_write && before.pages.protect) (check_condition before WRITE_PROTECTED None)
    (check_condition after WRITE_PROTECTED None) none)

spared_action : (before after : ControlState) (nexus : Nexus) (out : List ℕ) (o : Op) → AllowsFor nexus before after
    → faulty_action before nexus out o ≡ None → faulty_action after nexus out o ≡ None
spared_action before after nexus out o allows none =
    subst (λ (state : Reservations).
    option_map (λ (fault : ResvFault). refused_action after (sense_code_of_resv_fault fault))
    (action_fault state nexus out o) ≡ None) (sym allows.reservations)
    (go (action_fault before.reservations nexus out o) none)
  where
    go : (fault : Option ResvFault)
        → option_map (λ (fault : ResvFault). refused_action before (sense_code_of_resv_fault fault)) fault ≡ None
        → option_map (λ (fault : ResvFault). refused_action after (sense_code_of_resv_fault fault)) fault ≡ None
    go None none = refl
    go (Some fault) none = absurd (cc)

spared_by : (before after : ControlState) (n : ℕ) (nexus : Nexus) (out : List ℕ) (decoded : Result Cdb CdbFault)
    (profile : Profile) → AllowsFor nexus before after → refusal_by before n nexus out decoded profile ≡ None
    → refusal_by after n nexus out decoded profile ≡ None
spared_by before after n nexus out (Err fault) profile allows none = absurd (cc)
spared_by before after n nexus out (Ok cdb) profile allows none =
    let built = first_parts (unbuilt before cdb.op) _ none in
    let told = first_parts (reported before nexus profile.reports_attention) _ built.1 in
    let let_through = first_parts (reserved before nexus profile.class) _ told.1 in
    let ready = first_parts (stopped before profile) _ let_through.1 in
    let current = first_parts (unsaved before cdb.op) _ ready.1 in
    let long = first_parts (short_of_data before (length out) profile) _ current.1 in
    let listed = first_parts (faulty_list before n out cdb.op) _ long.1 in
    let inside = first_parts (out_of_range before n profile) _ listed.1 in
    let free = first_parts (write_protected before profile) _ inside.1 in
    let accepted = first_parts (faulty_action before nexus out cdb.op) _ free.1 in
    first_none _ _
    (spared_unless (is_built cdb.op) (check_condition before INVALID_COMMAND_OPERATION_CODE None)
    (check_condition after INVALID_COMMAND_OPERATION_CODE None) built.0)
    (first_none _ _ (spared_reported before after nexus profile.reports_attention allows told.0)
    (first_none _ _ (spared_reserved before after nexus profile.class allows let_through.0)
    (first_none _ _ (spared_stopped before after profile allows ready.0)
    (first_none _ _
    (spared_if (asks_saved cdb.op) (check_condition before SAVING_PARAMETERS_NOT_SUPPORTED None)
    (check_condition after SAVING_PARAMETERS_NOT_SUPPORTED None) current.0)
    (first_none _ _
    (spared_if (nat_lt (length out) profile.data_out) (check_condition before PARAMETER_LIST_LENGTH_ERROR None)
    (check_condition after PARAMETER_LIST_LENGTH_ERROR None) long.0)
    (first_none _ _ (spared_list before after n out cdb.op allows listed.0)
    (first_none _ _
    (spared_unless (list_all (is_inside n) profile.ranges) (check_condition before LBA_OUT_OF_RANGE None)
    (check_condition after LBA_OUT_OF_RANGE None) inside.0)
    (first_none _ _ (spared_protected before after profile allows free.0)
    (first_none _ _ (spared_action before after nexus out cdb.op allows accepted.0) refl)))))))))

allows_unrefused : (before after : ControlState) (n : ℕ) (a : Command) → AllowsFor a.nexus before after
    → refusal_of before n a ≡ None → refusal_of after n a ≡ None
unfolding refusal_of
allows_unrefused before after n a allows none =
    spared_by before after n a.nexus a.out (cdb_of a.cdb) (profile_in n a) allows none

-- a nexus at the same place has the same
first_at : (attentions : List CodeSet) (nexus other : Nexus) → place_of other ≡ place_of nexus
    → first_code attentions other ≡ None → first_code attentions nexus ≡ None
unfolding first_code
first_at attentions nexus other same none =
    ap (λ (place : ℕ). first_of (slice_index_or attentions place no_codes)) (sym same) ∙ none

-- taking a unit attention raises none
taken_allows : (control : ControlState) (nexus : Nexus) → Allows control (attention_taken control nexus)
taken_allows control nexus = record {
  pages = refl;
  started = refl;
  reservations = refl;
  attentions = λ other none. ⊎_elim
      (λ (same : place_of other ≡ place_of nexus).
      let first : first_code control.attentions nexus ≡ None = first_at control.attentions nexus other same none in
      subst (λ (attentions : List CodeSet). first_code attentions other ≡ None)
      (sym (nothing_taken control.attentions nexus first)) none)
      (λ (differ : place_of other ≢ place_of nexus). first_left control.attentions nexus other differ ∙ none)
      (cases_eq (place_of other) (place_of nexus));
}

-- what commands change goes by their index: of those that change more than unit attentions the table lets none pass
-- one that moves blocks
abbrev is_changing : SerIdx → Bool
is_changing MSl = true
is_changing Res = true
is_changing Sta = true
is_changing _ = false

changed_allows : (control : ControlState) (nexus : Nexus) (o : Op) (out : List ℕ) (n : ℕ)
    → is_changing (profile_of o out n).index ≡ false → Allows control (changed_by control nexus out o)
changed_allows control nexus (op.RequestSense descriptor allocation) out n same = taken_allows control nexus
changed_allows control nexus (op.StartStopUnit start) out n same = absurd (cc)
changed_allows control nexus (op.ModeSelect form list) out n same = absurd (cc)
changed_allows control nexus (op.PersistentReserveOut asked list) out n same = absurd (cc)
changed_allows control nexus _ out n same = same_allows control

built_index : (built : Bool) (profile : Profile) → (built_row built profile).index ≡ profile.index
built_index true profile = refl
built_index false profile = refl

decoded_allows : (control : ControlState) (nexus : Nexus) (decoded : Result Cdb CdbFault) (out : List ℕ) (n : ℕ)
    → is_changing (profile_by decoded out n).index ≡ false → Allows control (decoded_change control nexus out decoded)
decoded_allows control nexus (Ok cdb) out n same =
    changed_allows control nexus cdb.op out n
    (ap is_changing (sym (built_index (is_built cdb.op) (profile_of cdb.op out n))) ∙ same)
decoded_allows control nexus (Err fault) out n same = same_allows control

changed_control_allows : (control : ControlState) (n : ℕ) (b : Command)
    → is_changing (profile_in n b).index ≡ false → Allows control (changed_control control b)
unfolding changed_control profile_in
changed_control_allows control n b same = decoded_allows control b.nexus (cdb_of b.cdb) b.out n same

refused_control_allows : (control : ControlState) (b : Command) → Allows control (refused_control control b)
unfolding refused_control
refused_control_allows control b = go (reports (cdb_of b.cdb))
  where
    go : (told : Bool) → Allows control (if told then attention_taken control b.nexus else control)
    go true = taken_allows control b.nexus
    go false = same_allows control

executed_allows : (disk : Disk) (n : ℕ) (b : Command) → is_changing (profile_in n b).index ≡ false
    → Allows disk.control (execute disk b).disk.control
executed_allows disk n b same =
    executions (λ d c e. Allows d.control e.disk.control) disk b
    (λ reply. refused_control_allows disk.control b) (changed_control_allows disk.control n b same)

-- the table has no conflict of two commands of which one moves blocks and the other changes more
passing_blocks : (index other : SerIdx) (phase : Phase) (phases : List Phase) (unrestricted overlapping : Bool)
    → is_indexed index (phase ∷ phases) ≡ true
    → is_conflict (action_of index other) unrestricted overlapping ≡ false → is_changing other ≡ false
passing_blocks Rd MSl phase phases unrestricted overlapping indexed apart = absurd (cc)
passing_blocks Rd Res phase phases unrestricted overlapping indexed apart = absurd (cc)
passing_blocks Rd Sta phase phases unrestricted overlapping indexed apart = absurd (cc)
passing_blocks Rd _ phase phases unrestricted overlapping indexed apart = refl
passing_blocks Wr MSl phase phases unrestricted overlapping indexed apart = absurd (cc)
passing_blocks Wr Res phase phases unrestricted overlapping indexed apart = absurd (cc)
passing_blocks Wr Sta phase phases unrestricted overlapping indexed apart = absurd (cc)
passing_blocks Wr _ phase phases unrestricted overlapping indexed apart = refl
passing_blocks Un MSl phase phases unrestricted overlapping indexed apart = absurd (cc)
passing_blocks Un Res phase phases unrestricted overlapping indexed apart = absurd (cc)
passing_blocks Un Sta phase phases unrestricted overlapping indexed apart = absurd (cc)
passing_blocks Un _ phase phases unrestricted overlapping indexed apart = refl
passing_blocks _ other phase phases unrestricted overlapping indexed apart = absurd (cc)

passing_by : (out n : ℕ) (profile : Profile) (other : SerIdx) (unrestricted overlapping : Bool)
    → is_indexed profile.index profile.phases ≡ true → has_operations (plan_of out n profile) ≡ true
    → is_conflict (action_of profile.index other) unrestricted overlapping ≡ false → is_changing other ≡ false
passing_by out n profile other unrestricted overlapping indexed moves apart = go profile.phases refl indexed
  where
    go : (phases : List Phase) → profile.phases ≡ phases → is_indexed profile.index phases ≡ true
        → is_changing other ≡ false
    go [] still indexed = absurd (let none = unplanned out n profile still in cc)
    go (phase ∷ phases) still indexed =
        passing_blocks profile.index other phase phases unrestricted overlapping indexed apart

passing_in : (n : ℕ) (a : Command) (other : SerIdx) (unrestricted overlapping : Bool)
    → has_operations (plan_in n a) ≡ true
    → is_conflict (action_of (profile_in n a).index other) unrestricted overlapping ≡ false
    → is_changing other ≡ false
unfolding plan_in profile_in
passing_in n a other unrestricted overlapping moves apart =
    passing_by (length a.out) n (profile_by (cdb_of a.cdb) a.out n) other unrestricted overlapping
    (decoded_fits (cdb_of a.cdb) a.out n).indexed moves apart

unchanging : (unrestricted : Bool) (n : ℕ) (a b : Command) (x y : Bool)
    → conflicts unrestricted (held_by n a x) (held_by n b y) ≡ false → has_operations (plan_in n a) ≡ true
    → is_changing (profile_in n b).index ≡ false
unfolding conflicts
unchanging unrestricted n a b x y apart moves =
    passing_in n a (profile_in n b).index unrestricted (overlap (held_by n a x).print (held_by n b y).print) moves apart

allowed_law : (unrestricted : Bool) (n : ℕ) (a b : Command) (x y : Bool) (disk : Disk)
    → conflicts unrestricted (held_by n a x) (held_by n b y) ≡ false → has_operations (plan_in n a) ≡ true
    → refusal_of disk.control n a ≡ None → refusal_of (execute disk b).disk.control n a ≡ None
allowed_law unrestricted n a b x y disk apart moves none =
    allows_unrefused disk.control (execute disk b).disk.control n a
    (allows_for disk.control (execute disk b).disk.control a.nexus
    (executed_allows disk n b (unchanging unrestricted n a b x y apart moves))) none

reorders_law : (unrestricted : Bool) (n : ℕ) (a b : Command) (x y : Bool) (disk : Disk)
    → conflicts unrestricted (held_by n a x) (held_by n b y) ≡ false → has_operations (plan_in n a) ≡ true
    → is_unrestricted (execute disk b).disk.control ≡ is_unrestricted disk.control
unfolding is_unrestricted
reorders_law unrestricted n a b x y disk apart moves =
    ap (λ (pages : ModePages). pages.free_order)
    (executed_allows disk n b (unchanging unrestricted n a b x y apart moves)).pages

sizes_law : (disk : Disk) (c : Command) → length (execute disk c).disk.blocks ≡ length disk.blocks
sizes_law disk c =
    executions (λ d c e. length e.disk.blocks ≡ length d.blocks) disk c (λ reply. refl)
    (perform_size c.out (plan_in (length disk.blocks) c) (begun disk c))

-- Cleared

-- what doesn't conflict with a command that moves blocks clears no nexus, nor does that command
unclearing_law : (unrestricted : Bool) (n : ℕ) (a b : Command) (x y : Bool) (disk : Disk) (nexus : Nexus)
    → conflicts unrestricted (held_by n a x) (held_by n b y) ≡ false → has_operations (plan_in n a) ≡ true
    → contains (execute disk b).cleared nexus ≡ false
unclearing_law unrestricted n a b x y disk nexus apart moves =
    executions (λ d c e. (is_changing (profile_in n c).index ≡ false) → contains e.cleared nexus ≡ false) disk b
    (λ reply same. none_contained nexus) (λ same. go (contains (cleared_by disk.control b) nexus) refl same)
    (unchanging unrestricted n a b x y apart moves)
  where
    go : (clears : Bool) → contains (cleared_by disk.control b) nexus ≡ clears
        → is_changing (profile_in n b).index ≡ false → contains (cleared_by disk.control b) nexus ≡ false
    go true is same =
        absurd (both_ways (is_changing (profile_in n b).index) same
        (ap is_changing (clearing_index disk.control b n nexus is)))
    go false is same = is

moving_law : (n : ℕ) (disk : Disk) (c : Command) (nexus : Nexus) → length disk.blocks ≡ n
    → has_operations (plan_in n c) ≡ true → contains (execute disk c).cleared nexus ≡ false
moving_law n disk c nexus sized moves =
    executions (λ d c e. (has_operations (plan_in (length d.blocks) c) ≡ true) →
    contains e.cleared nexus ≡ false) disk c
    (λ reply moves. none_contained nexus) (λ moves. go (plan_in (length disk.blocks) c) refl moves)
    (subst (λ m. has_operations (plan_in m c) ≡ true) (sym sized) moves)
  where
    go : (ops : List BlockOp) → plan_in (length disk.blocks) c ≡ ops → has_operations ops ≡ true
        → contains (cleared_by disk.control c) nexus ≡ false
    go [] planned_is moves = absurd (cc)
    go (operation ∷ others) planned_is moves =
        ap (λ set. contains set nexus) (cleared_moving disk c operation others planned_is) ∙ none_contained nexus

told_law : (disk : Disk) (c : Command) (nexus : Nexus) → contains (execute disk c).cleared nexus ≡ true
    → tells_aborts (execute disk c).disk.control ≡ tells_aborts disk.control
told_law disk c nexus clears =
    executions (λ d c e. (contains e.cleared nexus ≡ true) →
    tells_aborts e.disk.control ≡ tells_aborts d.control) disk c
    (λ reply clears. absurd (both_ways (contains no_nexuses nexus) (none_contained nexus) clears))
    (clearing_keeps_tas disk.control c nexus) clears

-- a skip is no conflict
skip_law : (unrestricted : Bool) (a b : Held) → skips a b ≡ true → conflicts unrestricted a b ≡ false
unfolding skips conflicts
skip_law unrestricted a b e = go (action_of a.index b.index) e
  where
    go : (k : Action) → is_skip k ≡ true → is_conflict k unrestricted (overlap a.print b.print) ≡ false
    go action.Skip e = refl
    go action.Pass e = absurd (cc)
    go action.Block e = absurd (cc)
    go action.OptBlock e = absurd (cc)
    go action.Extent e = absurd (cc)
    go action.OptExtent e = absurd (cc)

-- nor does a function that doesn't hit it: I_T NEXUS RESET tells its asker alone, and what else changes anything hits all
closing_allows : (asker : Nexus) (a : Command) (function : Function) (others : List Bool) (control : ControlState)
    → reaches (aborted_by function) asker a.nexus a.tag ≡ false
    → AllowsFor a.nexus control (closed_control function asker others control)
closing_allows asker a ClearTaskSet others control beside = absurd (cc)
closing_allows asker a LunReset others control beside = absurd (cc)
closing_allows asker a NexusReset others control beside = record {
  pages = refl;
  started = refl;
  reservations = refl;
  attentions = λ none.
      first_beside control.attentions (only_nexus asker) a.nexus NexusLoss (other_not_in asker a.nexus beside) ∙ none;
}
closing_allows asker a (AbortTask tag) others control beside = allows_for control control a.nexus (same_allows control)
closing_allows asker a AbortTaskSet others control beside = allows_for control control a.nexus (same_allows control)
closing_allows asker a (QueryTask tag) others control beside = allows_for control control a.nexus (same_allows control)
closing_allows asker a QueryTaskSet others control beside = allows_for control control a.nexus (same_allows control)
closing_allows asker a ClearAca others control beside = allows_for control control a.nexus (same_allows control)

spared_law : (ask : Ask) (others : List Bool) (control : ControlState) (n : ℕ) (a : Command) → hits ask a.nexus a.tag ≡ false
    → refusal_of control n a ≡ None → refusal_of (closing_control ask others control) n a ≡ None
unfolding hits closing_control
spared_law ask others control n a beside none =
    allows_unrefused control (closed_control ask.function ask.nexus others control) n a
    (closing_allows ask.nexus a ask.function others control beside) none

spared_order_law : (ask : Ask) (others : List Bool) (control : ControlState) (a : Command) →
    hits ask a.nexus a.tag ≡ false → is_unrestricted (closing_control ask others control) ≡ is_unrestricted control
unfolding hits closing_control is_unrestricted
spared_order_law ask others control a beside =
    ap (λ (pages : ModePages). pages.free_order) (closing_allows ask.nexus a ask.function others control beside).pages

pub laws : Laws
laws = record {
  apart = apart_law;
  allowed = allowed_law;
  whole = whole_law;
  once = once_law;
  sizes = sizes_law;
  skipped = skip_law;
  spared = spared_law;
  spared_order = spared_order_law;
  unclearing = unclearing_law;
  moving_clears = moving_law;
  reorders = reorders_law;
  clears_told = told_law;
}
