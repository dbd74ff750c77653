-- What block operations do: to the blocks of a disk, and to the data of the command that makes them.
use Rattle.std.specs.Prelude.{ℕ, suc, ◌+◌, ◌*◌, List, [], ◌∷◌, ◌++◌, take, drop, replicate, slice_set, slice_index_or}
use Rattle.std.specs.Prelude.{Option, None, Some, option_map, not, ◌==◌, position}
use Rattle.std.specs.List.{zip}
use Rattle.ct_plan.specs.declared.operation.BlockOp.{BlockOp}
use Rattle.ct_plan.specs.declared.operation.BlockOp.TheVariants as operations

-- the blocks of a disk, and the data that one command got so far
pub record Cells : Type 0 where
  pub blocks : List (List ℕ)
  pub got : List ℕ

-- a block of the data-out
abbrev pub out_block : List ℕ → ℕ → List ℕ
out_block out place = take 512 (drop (512 * place) out)

abbrev pub with_block : Cells → ℕ → List ℕ → Cells
with_block cells lba block = record cells { blocks = slice_set cells.blocks lba block }

-- a block of zeros
abbrev pub zero_block : List ℕ
zero_block = replicate 512 0

-- one operation
abbrev pub after : List ℕ → BlockOp → Cells → Cells
after out (operations.Get lba) cells = record cells { got = cells.got ++ slice_index_or cells.blocks lba [] }
after out (operations.Look lba) cells = cells
after out (operations.Put lba place) cells = with_block cells lba (out_block out place)
after out (operations.Zero lba) cells = with_block cells lba zero_block
after out (operations.Compare lba place) cells = cells

-- operations, one after another
abbrev pub after_all : List ℕ → List BlockOp → Cells → Cells
after_all out [] cells = cells
after_all out (operation ∷ others) cells = after_all out others (after out operation cells)

-- the place of the first byte at which two lists differ
abbrev pub first_difference : List ℕ → List ℕ → Option ℕ
first_difference xs ys = position (λ pair. not (pair.0 == pair.1)) (zip xs ys)

-- the offset in the data-out of the first byte that isn't that of the medium, at an operation that compares
abbrev pub difference_at : List ℕ → BlockOp → Cells → Option ℕ
difference_at out (operations.Get lba) cells = None
difference_at out (operations.Look lba) cells = None
difference_at out (operations.Put lba place) cells = None
difference_at out (operations.Zero lba) cells = None
difference_at out (operations.Compare lba place) cells =
    option_map (λ at. 512 * place + at) (first_difference (slice_index_or cells.blocks lba []) (out_block out place))

-- how far operations came: how many were made, one that found a difference among them, and what they did
pub record Progress : Type 0 where
  pub made : ℕ
  pub difference : Option ℕ
  pub cells : Cells

abbrev pub one_more : Progress → Progress
one_more progress = record progress { made = suc progress.made }

abbrev pub unless : Option ℕ → Cells → Progress → Progress
unless None cells others = one_more others
unless (Some offset) cells others = record { made = 1; difference = Some offset; cells = cells }

-- operations, one after another, up to the first that finds a difference
abbrev pub performed : List ℕ → List BlockOp → Cells → Progress
performed out [] cells = record { made = 0; difference = None; cells = cells }
performed out (operation ∷ others) cells =
    unless (difference_at out operation cells) cells (performed out others (after out operation cells))

abbrev pub joined_where : Option ℕ → Progress → Progress → Progress
joined_where None first next = record next { made = first.made + next.made }
joined_where (Some offset) first next = first

-- a piece, and behind it the next one where it found no difference
abbrev pub joined : Progress → Progress → Progress
joined first next = joined_where first.difference first next

-- operations in pieces of these sizes
abbrev pub in_pieces : List ℕ → List ℕ → List BlockOp → Cells → Progress
in_pieces out [] operations cells = record { made = 0; difference = None; cells = cells }
in_pieces out (size ∷ sizes) operations cells =
    let piece = performed out (take size operations) cells in
    joined piece (in_pieces out sizes (drop size operations) piece.cells)
