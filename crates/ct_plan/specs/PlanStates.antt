-- A plan as it is kept: phases and ranges.
use Rattle.std.specs.Prelude.{◌≡◌, ℕ, ◌*◌, ◌<◌, ◌≤◌, List, length, true}
use Rattle.std.specs.List.{list_all}
use Rattle.ct_word.specs.declared.limit.TheConstants.{MOST_BLOCKS, MOST_RANGES}
use Rattle.ct_cdb.specs.declared.profile.Phase.{Phase}
use Rattle.ct_cdb.specs.declared.ranges.LbaRange.{LbaRange}
use Rattle.ct_cdb.specs.Ranges.{total, is_inside}
use Rattle.ct_plan.specs.declared.operation.BlockOp.{BlockOp}

-- a plan as contracts see it: its block operations, and the blocks of the pool that it needs
pub record PlanState : Type 0 where
  pub operations : List BlockOp
  pub need : ℕ

-- what holds of the parts of a plan
pub record IsPlan (phases : List Phase) (ranges : List LbaRange) (count need : ℕ) : Type 0 where
  pub counted : count ≡ total ranges
  pub few : count ≤ MOST_RANGES * MOST_BLOCKS
  pub phases_few : length phases ≤ 2
  pub inside : list_all (is_inside MOST_BLOCKS) ranges ≡ true
  pub buffered : 0 < length phases * count → 0 < need
