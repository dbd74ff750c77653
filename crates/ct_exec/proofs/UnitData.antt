-- What a command has to do with the unit itself: which commands return data of it or change it, and how many bytes these
-- data are.
use Rattle.std.proofs.Common.{◌≡◌, ◌≤◌, ℕ, Bool, true, false, cond, List, [], ◌∷◌, length, Result, Ok, Err, ◌⊎◌, inl, Option}
use Rattle.std.proofs.Common.{inr, refl, sym, subst, ap, arith}
use Rattle.std.proofs.lemmas.List.{length-take}
use Rattle.ct_word.specs.Nexuses.{no_nexuses}
use Rattle.ct_word.specs.declared.names.Code.{Code}
use Rattle.ct_word.specs.declared.names.Nexus.{Nexus}
use Rattle.ct_cdb.specs.declared.op.Op.{Op}
use Rattle.ct_cdb.specs.declared.op.Op.TheVariants as op
use Rattle.ct_cdb.specs.declared.op.Cdb.{Cdb}
use Rattle.ct_cdb.specs.declared.op.CdbFault.{CdbFault}
use Rattle.ct_cdb.specs.declared.profile.Phase.{Phase}
use Rattle.ct_cdb.specs.declared.profile.Profile.{Profile}
use Rattle.ct_cdb.specs.Built.{is_built}
use Rattle.ct_cdb.specs.Forms.{cdb_of}
use Rattle.ct_cdb.specs.Profiles.{profile_of, profile_by, built_row, is_performed, room_of}
use Rattle.ct_plan.specs.declared.operation.BlockOp.{BlockOp}
use Rattle.ct_plan.specs.Plans.{planned, plan_of}
use Rattle.ct_book.specs.declared.work.Command.{Command}
use Rattle.ct_book.specs.Works.{profile_in, room_for}
use Rattle.ct_exec.specs.Controls.{ControlState}
use Rattle.ct_exec.specs.Changes.{changed_by, decoded_change, changed_control, cleared_by_op, decoded_cleared, cleared_by}
use Rattle.ct_exec.specs.Data.{sense_data, data_by, decoded_data, data_of_unit}
use Rattle.ct_exec.specs.Executions.{plan_in}

-- a command that returns no data of the unit, leaves its control, and clears no nexus
pub record IsSilent (bytes : List ℕ) (control after : ControlState) (set : List Bool) : Type 0 where
  pub told : bytes ≡ []
  pub changed : after ≡ control
  pub cleared : set ≡ no_nexuses

-- a command either has no phase or is silent; the last clause is tried for each command that has none
still_or_silent : (control : ControlState) (blocks : ℕ) (nexus : Nexus) (visible : ℕ) (out : List ℕ) (o : Op)
    → ((profile_of o out blocks).phases ≡ [])
    ⊎ IsSilent (data_by control blocks nexus visible o) control (changed_by control nexus out o)
    (cleared_by_op control nexus out o)
still_or_silent control blocks nexus visible out (op.RequestSense descriptor allocation) = inl refl
still_or_silent control blocks nexus visible out (op.Inquiry page allocation) = inl refl
still_or_silent control blocks nexus visible out (op.ReportLuns select allocation) = inl refl
still_or_silent control blocks nexus visible out op.ReadCapacity10 = inl refl
still_or_silent control blocks nexus visible out (op.ReadCapacity16 allocation) = inl refl
still_or_silent control blocks nexus visible out (op.StartStopUnit start) = inl refl
still_or_silent control blocks nexus visible out (op.ModeSelect form list) = inl refl
still_or_silent control blocks nexus visible out (op.ModeSense form no_descriptor values page allocation) = inl refl
still_or_silent control blocks nexus visible out (op.PersistentReserveIn asked allocation) = inl refl
still_or_silent control blocks nexus visible out (op.PersistentReserveOut asked list) = inl refl
still_or_silent control blocks nexus visible out _ = inr (record { told = refl; changed = refl; cleared = refl })

built_still : (built : Bool) (profile : Profile) → profile.phases ≡ [] → (built_row built profile).phases ≡ []
built_still true profile still = still
built_still false profile still = refl

decoded_still_or_silent : (control : ControlState) (blocks : ℕ) (nexus : Nexus) (visible : ℕ) (out : List ℕ)
    (decoded : Result Cdb CdbFault)
    → ((profile_by decoded out blocks).phases ≡ [])
    ⊎ IsSilent (decoded_data control blocks nexus visible decoded) control (decoded_change control nexus out decoded)
    (decoded_cleared control nexus out decoded)
decoded_still_or_silent control blocks nexus visible out (Ok cdb) =
    elim (still_or_silent control blocks nexus visible out cdb.op) [
      | inl still ↦ inl (built_still (is_built cdb.op) (profile_of cdb.op out blocks) still)
      | inr silent ↦ inr silent
    ]
decoded_still_or_silent control blocks nexus visible out (Err fault) = inr (record { told = refl; changed = refl; cleared = refl })

-- a command without a phase has no block operation
pub unplanned : (out blocks : ℕ) (profile : Profile) → profile.phases ≡ [] → plan_of out blocks profile ≡ []
unfolding plan_of
unplanned out blocks profile still = go (is_performed out blocks profile)
  where
    go : (goes : Bool) → cond goes (planned profile.phases profile.ranges) [] ≡ []
    go true = ap (λ (phases : List Phase). planned phases profile.ranges) still
    go false = refl

-- a command that has block operations is silent
pub moving_silent : (control : ControlState) (blocks : ℕ) (c : Command) (operation : BlockOp) (others : List BlockOp)
    → plan_in blocks c ≡ operation ∷ others
    → IsSilent (data_of_unit control blocks c) control (changed_control control c) (cleared_by control c)
unfolding plan_in data_of_unit changed_control cleared_by profile_in
moving_silent control blocks c operation others planned_is =
    elim (decoded_still_or_silent control blocks c.nexus c.visible c.out (cdb_of c.cdb)) [
      | inl still ↦
          let none = unplanned (length c.out) blocks (profile_by (cdb_of c.cdb) c.out blocks) still in
          absurd (cc)
      | inr silent ↦ silent
    ]

-- there is room for the data of each command

pub length-sense : (condition : Option Code) (descriptor : Bool) (allocation : ℕ)
    → length (sense_data condition descriptor allocation)
    ≤ (profile_of (op.RequestSense descriptor allocation) [] 0).data_in
length-sense condition true allocation = omega (arith, length-take {A = ℕ})
length-sense condition false allocation = omega (arith, length-take {A = ℕ})

-- a command that isn't built would return no data; the last clause is tried for each command
built_room : (o : Op) → (profile_of o [] 0).data_in ≡ (built_row (is_built o) (profile_of o [] 0)).data_in
built_room (op.Verify form true lba count) = refl
built_room (op.Verify form false lba count) = refl
built_room _ = refl

pub row_has_room : (cdb : List ℕ) (decoded : Cdb) (room : ℕ) → cdb_of cdb ≡ Ok decoded → room_for cdb ≤ room
    → (profile_of decoded.op [] 0).data_in ≤ room
unfolding room_for
row_has_room cdb decoded room is fits =
    let here : room_of (Ok decoded) ≤ room = subst (λ (d : Result Cdb CdbFault). room_of d ≤ room) is fits in
    subst (λ (size : ℕ). size ≤ room) (sym (built_room decoded.op)) here
