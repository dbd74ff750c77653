-- Which blocks a command reads and writes, as sets of block numbers.
use Rattle.std.specs.Prelude.{◌≡◌, ◌≤◌, ℕ, ◌+◌, List, [], ◌∷◌, ◌++◌, Bool, ◌||◌, ◌==◌, nat_le, ◌⊎◌, ⊤, if◌then◌else◌}
use Rattle.std.specs.List.{list_any, All, Contains}
use Rattle.ct_cdb.specs.declared.profile.Profile.{Profile}
use Rattle.ct_cdb.specs.declared.ranges.LbaRange.{LbaRange}
use Rattle.ct_cdb.specs.Ranges.{numbers_from}
use Rattle.ct_cdb.specs.Profiles.{reads, writes, is_performed}
use Rattle.ct_matrix.specs.declared.blocks.Extent.{Extent}

-- what a command reads and what it writes, as ranges of blocks
pub record Print : Type 0 where
  pub reads : List Extent
  pub writes : List Extent

-- the numbers of all blocks of some ranges
abbrev pub blocks_in : List Extent → List ℕ
blocks_in [] = []
blocks_in (extent ∷ extents) = numbers_from extent.first extent.count ++ blocks_in extents

-- some block is in both sets
abbrev pub share_a_block : List ℕ → List ℕ → Bool
share_a_block xs ys = list_any (λ x. list_any (λ y. x == y) ys) xs

-- a block is written by one command and read or written by the other
unfoldable pub overlap : Print → Print → Bool
overlap a b =
    share_a_block (blocks_in a.writes) (blocks_in b.reads ++ blocks_in b.writes)
    || share_a_block (blocks_in a.reads) (blocks_in b.writes)

-- a command writes this block
abbrev pub Writes : Print → ℕ → Type 0
Writes print block = Contains (blocks_in print.writes) block

-- a command reads or writes this block
abbrev pub Touches : Print → ℕ → Type 0
Touches print block = Contains (blocks_in print.reads) block ⊎ Writes print block

-- one command writes a block, and the other reads or writes it
abbrev pub TouchesBoth : Print → Print → Type 0
TouchesBoth a b = (block : ℕ) × ((Writes a block × Touches b block) ⊎ (Touches a block × Writes b block))

-- ranges of blocks, without those that are empty
abbrev pub extents_of : List LbaRange → List Extent
extents_of [] = []
extents_of (range ∷ ranges) =
    if range.count == 0 then extents_of ranges else record { first = range.lba; count = range.count } ∷ extents_of
    ranges

-- the same blocks, in rising order of the ranges' first blocks
abbrev pub insert : Extent → List Extent → List Extent
insert extent [] = extent ∷ []
insert extent (other ∷ others) =
    if nat_le extent.first other.first then extent ∷ other ∷ others else other ∷ insert extent others

abbrev pub rising : List Extent → List Extent
rising [] = []
rising (extent ∷ extents) = insert extent (rising extents)

abbrev pub IsRising : List Extent → Type 0
IsRising [] = ⊤
IsRising (extent ∷ extents) = All (λ (other : Extent). extent.first ≤ other.first) extents × IsRising extents

-- ranges that end before a block, or at it
abbrev pub EndBy : ℕ → List Extent → Type 0
EndBy end extents = All (λ (extent : Extent). extent.first + extent.count ≤ end) extents

abbrev pub extents_if : Bool → List Extent → List Extent
extents_if goes extents = if goes then extents else []

-- a command reads its ranges where a phase reads, and writes them where a phase writes (SBC-3)
abbrev pub whole_print : Profile → Print
whole_print profile = record {
  reads = extents_if (list_any reads profile.phases) (rising (extents_of profile.ranges));
  writes = extents_if (list_any writes profile.phases) (rising (extents_of profile.ranges));
}

-- a command that has no block to move, or is refused for its data-out or its range, touches none
abbrev pub no_print : Print
no_print = record { reads = []; writes = [] }

-- the footprint of a command with so many bytes of data-out, on a disk of so many blocks
unfoldable pub footprint_of : ℕ → ℕ → Profile → Print
footprint_of out blocks profile = if is_performed out blocks profile then whole_print profile else no_print
