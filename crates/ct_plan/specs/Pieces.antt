-- What a piece of a plan does: some of its operations, one after another.
use Rattle.std.specs.Prelude.{◌≡◌, ℕ, zero, suc, ◌+◌, ◌*◌, ◌<◌, ◌==◌, ⊤, Bool, true, false, List, [], ◌∷◌, length, take}
use Rattle.std.specs.Prelude.{slice_get, slice_index_or}
use Rattle.std.specs.Prelude.{Option, None, Some, IfSome, option_map, if◌then◌else◌}
use Rattle.ct_word.specs.Kept.{Kept}
use Rattle.ct_pool.specs.Leases.{PoolState, LeaseState, IsLeaseOf, KeepsOthers, leases_out}
use Rattle.ct_plan.specs.declared.operation.BlockOp.{BlockOp}
use Rattle.ct_plan.specs.declared.operation.BlockOp.TheVariants as operations
use Rattle.ct_plan.specs.declared.task.Task.{Task}
use Rattle.ct_plan.specs.declared.task.Piece.{Piece}
use Rattle.ct_plan.specs.declared.task.PieceEnd.{PieceEnd}
use Rattle.ct_plan.specs.declared.task.PieceEnd.TheVariants.{All, Miscompare, ReadFault, WriteFault}
use Rattle.ct_plan.specs.Plans.{gets_among}
use Rattle.ct_plan.specs.Cells.{Cells, Progress, after, after_all, performed}
use Rattle.ct_plan.specs.Tasks.{cells_of}

-- the end of a piece where the medium failed this operation
abbrev pub fault_of : BlockOp → PieceEnd
fault_of (operations.Get lba) = ReadFault lba
fault_of (operations.Look lba) = ReadFault lba
fault_of (operations.Put lba place) = WriteFault lba
fault_of (operations.Zero lba) = WriteFault lba
fault_of (operations.Compare lba place) = ReadFault lba

-- the medium failed an operation
abbrev pub is_fault : PieceEnd → Bool
is_fault All = false
is_fault (Miscompare offset) = false
is_fault (ReadFault lba) = true
is_fault (WriteFault lba) = true

-- the place of the operation that the medium failed, where a piece of so many ended in a fault
abbrev pub fault_behind : ℕ → Option PieceEnd → Option ℕ
fault_behind moved None = None
fault_behind moved (Some end) = if is_fault end then Some moved else None

-- the place, among those asked for, of the operation at which a piece ended in a fault
abbrev pub fault_in : Piece → Option ℕ
fault_in piece = fault_behind piece.moved piece.end

-- how many calls of the medium fail in a piece with a fault at this place, if any
abbrev pub faults_at : Option ℕ → ℕ
faults_at None = 0
faults_at (Some place) = 1

-- the operations that are made of these, if no difference is found: none from the one on that the medium fails
abbrev pub tried : List BlockOp → Option ℕ → List BlockOp
tried operations None = operations
tried operations (Some fault) = take fault operations

-- how far operations come where the medium fails the one at this place, if any
abbrev pub reached : List ℕ → List BlockOp → Cells → Option ℕ → Progress
reached out operations cells fault = performed out (tried operations fault) cells

-- how a piece ends that no fault and no difference ended
abbrev pub unfailed_end : Task → Option PieceEnd
unfailed_end task = if task.done == length task.plan.operations then Some All else None

-- how a piece ends that leaves the task like this, where it found this difference, if any, and else the medium failed
-- the operation at this place, if any
abbrev pub end_of : Task → List BlockOp → Option ℕ → Option ℕ → Option PieceEnd
end_of task operations fault (Some offset) = Some (Miscompare offset)
end_of task operations None None = unfailed_end task
end_of task operations (Some place) None = option_map fault_of (slice_get operations place)

-- a piece makes these operations, or those in front of the one at the place where the medium failed, and stops behind a
-- difference
pub record Advances (out : List ℕ) (operations : List BlockOp) (old new : Task) (before after : List (List ℕ)) (piece : Piece) (fault : Option ℕ) : Type 0 where
  pub moved : piece.moved ≡ (reached out operations (cells_of before old) fault).made
  pub done : new.done ≡ old.done + piece.moved
  pub blocks : after ≡ (reached out operations (cells_of before old) fault).cells.blocks
  pub got : new.body.items ≡ (reached out operations (cells_of before old) fault).cells.got
  pub end : piece.end ≡ end_of new operations fault (reached out operations (cells_of before old) fault).difference
  pub within : IfSome fault (λ place. place < length operations)
  pub plan : new.plan ≡ old.plan
  pub lease : new.lease ≡ old.lease
  pub room : new.body.room + length new.body.items ≡ old.body.room + length old.body.items
  pub size : length after ≡ length before

-- nothing but the bytes of a lease's blocks changes
pub record Uses (old new : PoolState) (lease : LeaseState) : Type 0 where
  pub holds : IsLeaseOf new lease
  pub others : KeepsOthers old new lease.key
  pub free : new.free ≡ old.free
  pub out : leases_out new ≡ leases_out old
  pub size : new.size ≡ old.size
  pub contexts : new.contexts ≡ old.contexts

-- a task went on by all of these operations
pub record Makes (out : List ℕ) (operations : List BlockOp) (old new : Task) (before after : List (List ℕ)) : Type 0 where
  pub plan : new.plan ≡ old.plan
  pub lease : new.lease ≡ old.lease
  pub done : new.done ≡ old.done + length operations
  pub cells : cells_of after new ≡ after_all out operations (cells_of before old)
  pub room : new.body.room + 512 * gets_among operations ≡ old.body.room
  pub grown : length new.body.items ≡ length old.body.items + 512 * gets_among operations
  pub size : length after ≡ length before

-- one operation is made, by way of a buffer: what it does to the blocks and to the data of the command
pub record Performs (out : List ℕ) (operation : BlockOp) (old new : Kept ℕ) (blocks blocks' : List (List ℕ)) : Type 0
  where
    pub cells : record { blocks = blocks'; got = new.items }
        ≡ after out operation (record { blocks = blocks; got = old.items })
    pub room : new.room + 512 * gets_among (operation ∷ []) ≡ old.room
    pub grown : length new.items ≡ length old.items + 512 * gets_among (operation ∷ [])
    pub size : length blocks' ≡ length blocks

-- an operation that reads has its block in this buffer
abbrev pub IsRead : List (List ℕ) → List ℕ → BlockOp → Type 0
IsRead blocks buffer (operations.Get lba) = buffer ≡ slice_index_or blocks lba []
IsRead blocks buffer (operations.Look lba) = buffer ≡ slice_index_or blocks lba []
IsRead blocks buffer (operations.Put lba place) = ⊤
IsRead blocks buffer (operations.Zero lba) = ⊤
IsRead blocks buffer (operations.Compare lba place) = buffer ≡ slice_index_or blocks lba []

-- an operation that reads has its block in one of these buffers
pub record IsReadAmong (blocks buffers : List (List ℕ)) (operation : BlockOp) : Type 0 where
  pub place : ℕ
  pub within : place < length buffers
  pub read : IsRead blocks (slice_index_or buffers place []) operation

-- so has the last of so many of these operations
abbrev pub LastIsRead : List BlockOp → ℕ → List (List ℕ) → List (List ℕ) → Type 0
LastIsRead operations zero blocks buffers = ⊤
LastIsRead operations (suc moved) blocks buffers = IfSome (slice_get operations moved) (IsReadAmong blocks buffers)
