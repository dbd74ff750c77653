-- A command plans no more block operations than it asks for.
use Rattle.std.proofs.Common.{◌≡◌, ℕ, ◌≤◌, Bool, true, false, List, [], length, cond, Result, Ok, Err, refl, arith}
use Rattle.ct_cdb.specs.declared.op.Cdb.{Cdb}
use Rattle.ct_cdb.specs.declared.op.CdbFault.{CdbFault}
use Rattle.ct_cdb.specs.declared.profile.Profile.{Profile}
use Rattle.ct_cdb.specs.Built.{is_built}
use Rattle.ct_cdb.specs.Profiles.{profile_of, profile_by, built_row, operations, is_performed}
use Rattle.ct_plan.specs.Plans.{planned, plan_of}
use Rattle.ct_plan.proofs.Ranged.{length-planned}
use Rattle.ct_script.specs.Rules.{cdb_asked}

-- how many block operations a row's plan has
pub length-plan_of : (out blocks : ℕ) (profile : Profile)
    → length (plan_of out blocks profile) ≡ cond (is_performed out blocks profile) (operations profile) 0
unfolding plan_of
length-plan_of out blocks profile = go (is_performed out blocks profile)
  where
    go : (t : Bool) → length (cond t (planned profile.phases profile.ranges) []) ≡ cond t (operations profile) 0
    go true = length-planned profile.phases profile.ranges
    go false = refl

planned_by_row : (out blocks : ℕ) (profile : Profile) → length (plan_of out blocks profile) ≤ operations profile
planned_by_row out blocks profile = go (is_performed out blocks profile) (length-plan_of out blocks profile)
  where
    go : (t : Bool) → length (plan_of out blocks profile) ≡ cond t (operations profile) 0
        → length (plan_of out blocks profile) ≤ operations profile
    go true is = omega (arith, is)
    go false is = omega (arith, is)

planned_by_built : (built : Bool) (out blocks : ℕ) (profile : Profile)
    → length (plan_of out blocks (built_row built profile)) ≤ operations profile
planned_by_built true out blocks profile = planned_by_row out blocks profile
planned_by_built false out blocks profile = omega (arith, planned_by_row out blocks (built_row false profile))

pub planned_asked : (decoded : Result Cdb CdbFault) (out : List ℕ) (blocks : ℕ)
    → length (plan_of (length out) blocks (profile_by decoded out blocks)) ≤ cdb_asked decoded out blocks
planned_asked (Ok cdb) out blocks =
    planned_by_built (is_built cdb.op) (length out) blocks (profile_of cdb.op out blocks)
planned_asked (Err fault) out blocks = planned_by_row (length out) blocks (profile_by (Err fault) out blocks)
