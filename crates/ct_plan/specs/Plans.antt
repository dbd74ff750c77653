-- The plan of a command: its block operations, in the order in which they are made. It is read off the command's row.
use Rattle.std.specs.Prelude.{ℕ, suc, ◌+◌, List, [], ◌∷◌, ◌++◌, Bool, true, false, if◌then◌else◌, Option, None}
use Rattle.std.specs.Prelude.{Some}
use Rattle.ct_cdb.specs.declared.profile.Phase.{Phase}
use Rattle.ct_cdb.specs.declared.profile.Phase.TheVariants as phase
use Rattle.ct_cdb.specs.declared.profile.Profile.{Profile}
use Rattle.ct_cdb.specs.declared.ranges.LbaRange.{LbaRange}
use Rattle.ct_cdb.specs.Ranges.{total, numbers_of}
use Rattle.ct_cdb.specs.Profiles.{writes, is_performed}
use Rattle.ct_plan.specs.declared.operation.BlockOp.{BlockOp}
use Rattle.ct_plan.specs.declared.operation.BlockOp.TheVariants as operations

-- what a phase on so many blocks does to the block at a place among them, which has this LBA
abbrev pub operation_of : Phase → ℕ → ℕ → ℕ → BlockOp
operation_of phase.Get count place lba = operations.Get lba
operation_of phase.Look count place lba = operations.Look lba
operation_of phase.Put count place lba = operations.Put lba place
operation_of phase.PutSecondHalf count place lba = operations.Put lba (count + place)
operation_of phase.PutSame count place lba = operations.Put lba 0
operation_of phase.Zero count place lba = operations.Zero lba
operation_of phase.Compare count place lba = operations.Compare lba place

-- the operations of a phase on these of its blocks, of which the first stands at this place
abbrev pub operations_from : Phase → ℕ → ℕ → List ℕ → List BlockOp
operations_from phase count place [] = []
operations_from phase count place (lba ∷ lbas) =
    operation_of phase count place lba ∷ operations_from phase count (place + 1) lbas

abbrev pub operations_in : Phase → List LbaRange → List BlockOp
operations_in phase ranges = operations_from phase (total ranges) 0 (numbers_of ranges)

-- phases, one after another, each on all blocks of the ranges
abbrev pub planned : List Phase → List LbaRange → List BlockOp
planned [] ranges = []
planned (phase ∷ phases) ranges = operations_in phase ranges ++ planned phases ranges

-- the plan of a command with so many bytes of data-out, on a disk of so many blocks
unfoldable pub plan_of : ℕ → ℕ → Profile → List BlockOp
plan_of out blocks profile = if is_performed out blocks profile then planned profile.phases profile.ranges else []

-- the blocks of the pool that operations need of those that a row asks for: none where there is no operation
abbrev pub needed : List BlockOp → ℕ → ℕ
needed [] need = 0
needed (operation ∷ others) need = need

unfoldable pub need_of : ℕ → ℕ → Profile → ℕ
need_of out blocks profile = needed (plan_of out blocks profile) profile.need

-- it changes a block
abbrev pub is_put : BlockOp → Bool
is_put (operations.Get lba) = false
is_put (operations.Look lba) = false
is_put (operations.Put lba place) = true
is_put (operations.Zero lba) = true
is_put (operations.Compare lba place) = false

-- how many of these operations are puts
abbrev pub puts_among : List BlockOp → ℕ
puts_among [] = 0
puts_among (operation ∷ others) = if is_put operation then suc (puts_among others) else puts_among others

-- of so many operations of a phase, if there is one, those that are puts
abbrev pub puts_by : Option Phase → ℕ → ℕ
puts_by None made = 0
puts_by (Some phase) made = if writes phase then made else 0

-- it gives a block to the initiator
abbrev pub is_get : BlockOp → Bool
is_get (operations.Get lba) = true
is_get (operations.Look lba) = false
is_get (operations.Put lba place) = false
is_get (operations.Zero lba) = false
is_get (operations.Compare lba place) = false

-- how many of these operations are gets
abbrev pub gets_among : List BlockOp → ℕ
gets_among [] = 0
gets_among (operation ∷ others) = if is_get operation then suc (gets_among others) else gets_among others
