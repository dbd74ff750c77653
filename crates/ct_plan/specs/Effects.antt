-- What a command does at once, by its row: to the blocks of a disk, and to the data that it returns. Nothing here
-- speaks of operations, of which its plan is made.
use Rattle.std.specs.Prelude.{◌≡◌, ℕ, zero, suc, ◌+◌, List, [], ◌∷◌, ◌++◌, take, drop, length, Option, None, Some}
use Rattle.std.specs.Prelude.{option_map}
use Rattle.std.specs.Option.{option_or}
use Rattle.std.specs.List.{concat}
use Rattle.ct_word.specs.declared.limit.TheConstants.{BLOCK_SIZE}
use Rattle.ct_cdb.specs.declared.profile.Phase.{Phase}
use Rattle.ct_cdb.specs.declared.profile.Phase.TheVariants as phase
use Rattle.ct_cdb.specs.declared.ranges.LbaRange.{LbaRange}
use Rattle.ct_cdb.specs.Ranges.{total}
use Rattle.ct_plan.specs.Cells.{Cells, Progress, out_block, zero_block, first_difference}

-- a disk is a list of blocks, each a list of 512 bytes
abbrev pub Disk : Type 0
Disk = List (List ℕ)

-- the blocks of some ranges, one after another
abbrev pub blocks_at : List LbaRange → Disk → Disk
blocks_at [] disk = []
blocks_at (range ∷ ranges) disk = take range.count (drop range.lba disk) ++ blocks_at ranges disk

-- blocks in the places of those that were there, from an LBA on
abbrev pub spliced : ℕ → Disk → Disk → Disk
spliced lba blocks disk = take lba disk ++ (blocks ++ drop (lba + length blocks) disk)

-- so many blocks, one for each place from this one on
abbrev pub blocks_from : (ℕ → List ℕ) → ℕ → ℕ → Disk
blocks_from block place zero = []
blocks_from block place (suc count) = block place ∷ blocks_from block (place + 1) count

-- these blocks in the places of those of some ranges, of which the first block stands at this place
abbrev pub filled : (ℕ → List ℕ) → ℕ → List LbaRange → Disk → Disk
filled block place [] disk = disk
filled block place (range ∷ ranges) disk =
    filled block (place + range.count) ranges (spliced range.lba (blocks_from block place range.count) disk)

-- of two lists of blocks, of which the first stands behind so many bytes, the offset of the first byte that differs
abbrev pub difference_among : ℕ → Disk → Disk → Option ℕ
difference_among offset [] others = None
difference_among offset (block ∷ blocks) [] = None
difference_among offset (block ∷ blocks) (other ∷ others) =
    option_or (option_map (λ at. offset + at) (first_difference block other))
    (difference_among (offset + BLOCK_SIZE) blocks others)

-- what a command did that a difference ended, or that came to its end
pub record Effect : Type 0 where
  pub difference : Option ℕ
  pub cells : Cells

-- the blocks of the disk changed, or the data
abbrev pub with_blocks : Cells → Disk → Cells
with_blocks cells blocks = record cells { blocks = blocks }

-- what a phase leaves
abbrev pub after_phase : List ℕ → List LbaRange → Phase → Cells → Cells
after_phase out ranges phase.Get cells = record cells { got = cells.got ++ concat (blocks_at ranges cells.blocks) }
after_phase out ranges phase.Look cells = cells
after_phase out ranges phase.Put cells = with_blocks cells (filled (out_block out) 0 ranges cells.blocks)
after_phase out ranges phase.PutSecondHalf cells =
    with_blocks cells (filled (λ place. out_block out (total ranges + place)) 0 ranges cells.blocks)
after_phase out ranges phase.PutSame cells = with_blocks cells (filled (λ place. out_block out 0) 0 ranges cells.blocks)
after_phase out ranges phase.Zero cells = with_blocks cells (filled (λ place. zero_block) 0 ranges cells.blocks)
after_phase out ranges phase.Compare cells = cells

-- the offset in the data-out of the first byte that a phase finds to differ
abbrev pub difference_of : List ℕ → List LbaRange → Phase → Cells → Option ℕ
difference_of out ranges phase.Get cells = None
difference_of out ranges phase.Look cells = None
difference_of out ranges phase.Put cells = None
difference_of out ranges phase.PutSecondHalf cells = None
difference_of out ranges phase.PutSame cells = None
difference_of out ranges phase.Zero cells = None
difference_of out ranges phase.Compare cells =
    difference_among 0 (blocks_at ranges cells.blocks) (blocks_from (out_block out) 0 (total ranges))

abbrev pub ended_by : Option ℕ → Cells → Effect → Effect
ended_by None cells others = others
ended_by (Some offset) cells others = record { difference = Some offset; cells = cells }

-- phases, one after another, up to the first that finds a difference
abbrev pub effect : List ℕ → List LbaRange → List Phase → Cells → Effect
effect out ranges [] cells = record { difference = None; cells = cells }
effect out ranges (phase ∷ phases) cells =
    ended_by (difference_of out ranges phase cells) cells
    (effect out ranges phases (after_phase out ranges phase cells))

-- operations come as far as an effect at once: to the same difference, with the same blocks and data
pub record EndsAs (progress : Progress) (effect : Effect) : Type 0 where
  pub difference : progress.difference ≡ effect.difference
  pub cells : progress.cells ≡ effect.cells
