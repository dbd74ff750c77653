-- What a command at work needs, so that it can go on.
use Rattle.std.specs.Prelude.{◌≡◌, ℕ, ◌+◌, ◌*◌, ◌^◌, ◌<◌, ◌≤◌, ⊤, List, drop, take}
use Rattle.std.specs.List.{All}
use Rattle.ct_pool.specs.Leases.{PoolState, IsLeaseOf}
use Rattle.ct_plan.specs.declared.operation.BlockOp.{BlockOp}
use Rattle.ct_plan.specs.declared.operation.BlockOp.TheVariants as operations
use Rattle.ct_plan.specs.declared.task.Task.{Task}
use Rattle.ct_plan.specs.Plans.{gets_among}
use Rattle.ct_plan.specs.Cells.{Cells}

-- the operations of a task that are left
abbrev pub left : Task → List BlockOp
left task = drop task.done task.plan.operations

-- those of them that a piece of so many is asked for
abbrev pub asked : Task → ℕ → List BlockOp
asked task blocks = take blocks (left task)

-- the blocks of the medium, and the data that the task got so far
abbrev pub cells_of : List (List ℕ) → Task → Cells
cells_of blocks task = record { blocks = blocks; got = task.body.items }

-- the LBA of the block that an operation is on
abbrev pub lba_of : BlockOp → ℕ
lba_of (operations.Get lba) = lba
lba_of (operations.Look lba) = lba
lba_of (operations.Put lba place) = lba
lba_of (operations.Zero lba) = lba
lba_of (operations.Compare lba place) = lba

-- an operation is on a medium of so many blocks
abbrev pub IsInside : ℕ → BlockOp → Type 0
IsInside blocks operation = lba_of operation < blocks

-- a data-out of so many bytes has the block that the operation names, if it names one
abbrev pub IsCovered : ℕ → BlockOp → Type 0
IsCovered out (operations.Get lba) = ⊤
IsCovered out (operations.Look lba) = ⊤
IsCovered out (operations.Put lba place) = 512 * (place + 1) ≤ out
IsCovered out (operations.Zero lba) = ⊤
IsCovered out (operations.Compare lba place) = 512 * (place + 1) ≤ out

-- the offset of a byte that is compared fits in four bytes, which are INFORMATION of the sense data (SPC-4, 4.5)
abbrev pub IsTold : BlockOp → Type 0
IsTold (operations.Get lba) = ⊤
IsTold (operations.Look lba) = ⊤
IsTold (operations.Put lba place) = ⊤
IsTold (operations.Zero lba) = ⊤
IsTold (operations.Compare lba place) = 512 * (place + 1) ≤ 2 ^ 32

-- a task with so many bytes of data-out can go on, on a medium of so many blocks
pub record IsReady (out blocks : ℕ) (pool : PoolState) (task : Task) : Type 0 where
  pub inside : All (IsInside blocks) task.plan.operations
  pub covered : All (IsCovered out) task.plan.operations
  pub leased : IsLeaseOf pool task.lease
  pub need : task.lease.count ≡ task.plan.need
  pub room : 512 * gets_among (left task) ≤ task.body.room
