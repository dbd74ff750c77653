-- How far operations come: those of two lists one after another, and none behind a difference.
use Rattle.std.proofs.Common.{◌≡◌, ℕ, suc, ◌+◌, ◌≤◌, List, [], ◌∷◌, ◌++◌, length, take, Option, Some, None, refl}
use Rattle.std.proofs.Common.{sym, ap, ◌∙◌, arith}
use Rattle.std.proofs.lemmas.List.{length-set}
use Rattle.ct_plan.specs.declared.operation.BlockOp.{BlockOp}
use Rattle.ct_plan.specs.declared.operation.BlockOp.TheVariants as operations
use Rattle.ct_plan.specs.Cells.{Cells, Progress, out_block, zero_block, after, after_all, difference_at, one_more}
use Rattle.ct_plan.specs.Cells.{unless, performed, joined_where, joined}

pub after_all-append : (out : List ℕ) (xs ys : List BlockOp) (cells : Cells)
    → after_all out (xs ++ ys) cells ≡ after_all out ys (after_all out xs cells)
after_all-append out [] ys cells = refl
after_all-append out (x ∷ xs) ys cells = after_all-append out xs ys (after out x cells)

pub performed-append : (out : List ℕ) (xs ys : List BlockOp) (cells : Cells)
    → performed out (xs ++ ys) cells ≡ joined (performed out xs cells) (performed out ys (performed out xs cells).cells)
performed-append out [] ys cells =
    let next : Progress = performed out ys cells in
    let count : next.made ≡ 0 + next.made = omega arith in
    ap (λ (n : ℕ). record next { made = n }) count
performed-append out (x ∷ xs) ys cells = go (difference_at out x cells) (performed-append out xs ys (after out x cells))
  where
    first : Progress
    first = performed out xs (after out x cells)

    next : Progress
    next = performed out ys first.cells

    more : (difference : Option ℕ)
        → one_more (joined_where difference first next) ≡ joined_where difference (one_more first) next
    more None = let count : suc (first.made + next.made) ≡ suc first.made + next.made =
        omega arith in ap (λ (n : ℕ). record next { made = n }) count
    more (Some offset) = refl

    go : (difference : Option ℕ) → performed out (xs ++ ys) (after out x cells) ≡ joined first next
        → unless difference cells (performed out (xs ++ ys) (after out x cells))
        ≡ joined (unless difference cells first) (performed out ys (unless difference cells first).cells)
    go None rest = ap one_more rest ∙ more first.difference
    go (Some offset) rest = refl

-- nothing is made behind a difference
pub performed-stopped : (out : List ℕ) (xs ys : List BlockOp) (cells : Cells) (offset : ℕ)
    → (performed out xs cells).difference ≡ Some offset → performed out (xs ++ ys) cells ≡ performed out xs cells
performed-stopped out xs ys cells offset found =
    performed-append out xs ys cells
    ∙ ap (λ (d : Option ℕ). joined_where d (performed out xs cells)
    (performed out ys (performed out xs cells).cells)) found

-- where nothing differs it goes on
pub performed-on : (out : List ℕ) (xs ys : List BlockOp) (cells : Cells) → (performed out xs cells).difference ≡ None
    → performed out (xs ++ ys) cells
    ≡ joined_where None (performed out xs cells) (performed out ys (performed out xs cells).cells)
performed-on out xs ys cells none =
    performed-append out xs ys cells
    ∙ ap (λ (d : Option ℕ). joined_where d (performed out xs cells)
    (performed out ys (performed out xs cells).cells)) none

-- operations that find no difference come all the way
abbrev pub all_made : List ℕ → List BlockOp → Cells → Progress
all_made out operations cells =
    record { made = length operations; difference = None; cells = after_all out operations cells }

pub performed-all : (out : List ℕ) (ops : List BlockOp) (cells : Cells) → (performed out ops cells).difference ≡ None
    → performed out ops cells ≡ all_made out ops cells
performed-all out [] cells none = refl
performed-all out (x ∷ xs) cells none = go (difference_at out x cells) none (performed-all out xs (after out x cells))
  where
    go : (difference : Option ℕ) → (unless difference cells (performed out xs (after out x cells))).difference ≡ None
        → ((performed out xs (after out x cells)).difference ≡ None
        → performed out xs (after out x cells) ≡ all_made out xs (after out x cells))
        → unless difference cells (performed out xs (after out x cells)) ≡ all_made out (x ∷ xs) cells
    go None same rest = ap one_more (rest same)
    go (Some offset) same rest = absurd (cc)

-- an operation that finds a difference changes nothing
pub difference_still : (out : List ℕ) (operation : BlockOp) (cells : Cells) (offset : ℕ)
    → difference_at out operation cells ≡ Some offset → after out operation cells ≡ cells
difference_still out (operations.Get lba) cells offset found = absurd (cc)
difference_still out (operations.Look lba) cells offset found = refl
difference_still out (operations.Put lba place) cells offset found = absurd (cc)
difference_still out (operations.Zero lba) cells offset found = absurd (cc)
difference_still out (operations.Compare lba place) cells offset found = refl

-- what was counted was made, and nothing else
pub performed-cells : (out : List ℕ) (ops : List BlockOp) (cells : Cells)
    → (performed out ops cells).cells ≡ after_all out (take (performed out ops cells).made ops) cells
performed-cells out [] cells = refl
performed-cells out (x ∷ xs) cells = go (difference_at out x cells) refl (performed-cells out xs (after out x cells))
  where
    rest : Progress
    rest = performed out xs (after out x cells)

    go : (difference : Option ℕ) → difference_at out x cells ≡ difference
        → rest.cells ≡ after_all out (take rest.made xs) (after out x cells)
        → (unless difference cells rest).cells ≡ after_all out (take (unless difference cells rest).made (x ∷ xs)) cells
    go None found same = same
    go (Some offset) found same = sym (difference_still out x cells offset found)

pub made_within : (out : List ℕ) (ops : List BlockOp) (cells : Cells) → (performed out ops cells).made ≤ length ops
made_within out [] cells = omega arith
made_within out (x ∷ xs) cells = go (difference_at out x cells) (made_within out xs (after out x cells))
  where
    rest : Progress
    rest = performed out xs (after out x cells)

    go : (difference : Option ℕ) → rest.made ≤ length xs → (unless difference cells rest).made ≤ suc (length xs)
    go None fewer = omega arith
    go (Some offset) fewer = omega arith

-- the number of blocks stays
pub size_after : (out : List ℕ) (operation : BlockOp) (cells : Cells)
    → length (after out operation cells).blocks ≡ length cells.blocks
size_after out (operations.Get lba) cells = refl
size_after out (operations.Look lba) cells = refl
size_after out (operations.Put lba place) cells = length-set cells.blocks lba (out_block out place)
size_after out (operations.Zero lba) cells = length-set cells.blocks lba zero_block
size_after out (operations.Compare lba place) cells = refl

pub size_after_all : (out : List ℕ) (ops : List BlockOp) (cells : Cells)
    → length (after_all out ops cells).blocks ≡ length cells.blocks
size_after_all out [] cells = refl
size_after_all out (x ∷ xs) cells = size_after_all out xs (after out x cells) ∙ size_after out x cells

pub perform_size : (out : List ℕ) (ops : List BlockOp) (cells : Cells)
    → length (performed out ops cells).cells.blocks ≡ length cells.blocks
perform_size out ops cells =
    ap (λ (c : Cells). length c.blocks) (performed-cells out ops cells)
    ∙ size_after_all out (take (performed out ops cells).made ops) cells
