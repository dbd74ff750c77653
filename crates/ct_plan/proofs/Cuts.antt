-- A plan in pieces, and as a whole.
use Rattle.std.proofs.Common.{◌≡◌, ℕ, zero, suc, ◌+◌, ◌*◌, ◌≤◌, true, List, [], ◌∷◌, ◌++◌}
use Rattle.std.proofs.Common.{length, sum, Option, Some, None, option_map, take, drop, set, get_or, refl}
use Rattle.std.proofs.Common.{sym, ap, ◌∙◌, arith, append_assoc, append-nil, take-append-drop}
use Rattle.std.proofs.Common.{drop-set-lt, leb-true, add-zero}
use Rattle.std.proofs.Math.Seq.{take-add}
use Rattle.std.specs.List.{concat, list_all}
use Rattle.std.specs.Option.{option_or}
use Rattle.std.proofs.lemmas.List.Sums.{sum_by-cons}
use Rattle.std.proofs.lemmas.List.Folds.{concat-append}
use Rattle.std.proofs.lemmas.List.{drop_more, take_more_set, length-take, length-drop}
use Rattle.std.proofs.lemmas.Bool.{and_parts}
use Rattle.ct_word.specs.declared.limit.TheConstants.{BLOCK_SIZE}
use Rattle.ct_cdb.specs.declared.profile.Phase.{Phase}
use Rattle.ct_cdb.specs.declared.profile.Phase.TheVariants as phase
use Rattle.ct_cdb.specs.declared.ranges.LbaRange.{LbaRange}
use Rattle.ct_cdb.specs.Ranges.{numbers_from, numbers_of, total, is_inside}
use Rattle.ct_cdb.proofs.Numbers.{length-numbers_from}
use Rattle.ct_plan.specs.declared.operation.BlockOp.{BlockOp}
use Rattle.ct_plan.specs.Plans.{operation_of, operations_from, operations_in, planned}
use Rattle.ct_plan.specs.Cells.{Cells, Progress, out_block, zero_block, with_block, after, after_all, difference_at}
use Rattle.ct_plan.specs.Cells.{first_difference, unless, performed, joined_where, joined, in_pieces}
use Rattle.ct_plan.specs.Effects.{Disk, EndsAs, blocks_at, spliced, blocks_from, filled, difference_among}
use Rattle.ct_plan.specs.Effects.{after_phase, difference_of, ended_by, effect}
use Rattle.ct_plan.proofs.Performing.{after_all-append, performed-append, performed-all, size_after_all, perform_size}

pub all_pieces : (out sizes : List ℕ) (operations : List BlockOp) (cells : Cells) → in_pieces out sizes operations cells ≡ performed out (take (sum sizes) operations) cells
all_pieces out [] operations cells = refl
all_pieces out (size ∷ sizes) operations cells =
    let piece = performed out (take size operations) cells in
    let cut : take (sum (size ∷ sizes)) operations ≡ take size operations ++ take (sum sizes) (drop size operations) =
    ap (λ n. take n operations) (sum_by-cons (λ n. n) size sizes) ∙ take-add size (sum sizes) operations in
    ap (joined piece) (all_pieces out sizes (drop size operations) piece.cells)
    ∙ sym (performed-append out (take size operations) (take (sum sizes) (drop size operations)) cells)
    ∙ ap (λ all. performed out all cells) (sym cut)

-- the cells of a disk and these data
abbrev cells_of : Disk → List ℕ → Cells
cells_of disk got = record { blocks = disk; got = got }

-- operations on blocks of two lists
from_append : (phase : Phase) (count place : ℕ) (xs ys : List ℕ)
    → operations_from phase count place (xs ++ ys)
    ≡ operations_from phase count place xs ++ operations_from phase count (place + length xs) ys
from_append phase count place [] ys = ap (λ (n : ℕ). operations_from phase count n ys) (omega arith)
from_append phase count place (x ∷ xs) ys =
    let far : place + 1 + length xs ≡ place + length (x ∷ xs) = omega arith in
    ap (λ (ops : List BlockOp). operation_of phase count place x ∷ ops) (from_append phase count (place + 1) xs ys)
    ∙ ap (λ (n : ℕ). operation_of phase count place
    x ∷ (operations_from phase count (place + 1) xs ++ operations_from phase count n ys)) far

-- the blocks of a range, and those of the ranges behind it
from_range : (phase : Phase) (count place : ℕ) (range : LbaRange) (ranges : List LbaRange)
    → operations_from phase count place (numbers_of (range ∷ ranges))
    ≡ operations_from phase count place (numbers_from range.lba range.count) ++ operations_from phase count
    (place + range.count) (numbers_of ranges)
from_range phase count place range ranges =
    from_append phase count place (numbers_from range.lba range.count) (numbers_of ranges)
    ∙ ap (λ (n : ℕ). operations_from phase count place (numbers_from range.lba range.count) ++ operations_from phase
    count (place + n) (numbers_of ranges)) (length-numbers_from range.lba range.count)

-- Gets

got_from : (out : List ℕ) (disk : Disk) (got : List ℕ) (count place lba n : ℕ) → lba + n ≤ length disk
    → after_all out (operations_from phase.Get count place (numbers_from lba n)) (cells_of disk got)
    ≡ cells_of disk (got ++ concat (take n (drop lba disk)))
got_from out disk got count place lba zero within = ap (cells_of disk) (sym (append-nil got))
got_from out disk got count place lba (suc n) within =
    let block = get_or disk lba [] in
    let more = concat (take n (drop (lba + 1) disk)) in
    got_from out disk (got ++ block) count (place + 1) (lba + 1) n (omega arith)
    ∙ ap (cells_of disk)
    (append_assoc got block more
    ∙ ap (λ rest. got ++ concat (take (suc n) rest)) (sym (drop_more disk lba [] (omega arith))))

got_in : (out : List ℕ) (disk : Disk) (got : List ℕ) (count place : ℕ) (ranges : List LbaRange)
    → list_all (is_inside (length disk)) ranges ≡ true
    → after_all out (operations_from phase.Get count place (numbers_of ranges)) (cells_of disk got)
    ≡ cells_of disk (got ++ concat (blocks_at ranges disk))
got_in out disk got count place [] inside = ap (cells_of disk) (sym (append-nil got))
got_in out disk got count place (range ∷ ranges) inside =
    let parts = and_parts (is_inside (length disk) range) (list_all (is_inside (length disk)) ranges) inside in
    let here = take range.count (drop range.lba disk) in
    ap (λ (ops : List BlockOp). after_all out ops (cells_of disk got)) (from_range phase.Get count place range ranges)
    ∙ after_all-append out (operations_from phase.Get count place (numbers_from range.lba range.count))
    (operations_from phase.Get count (place + range.count) (numbers_of ranges)) (cells_of disk got)
    ∙ ap (after_all out (operations_from phase.Get count (place + range.count) (numbers_of ranges)))
    (got_from out disk got count place range.lba range.count (leb-true (range.lba + range.count) (length disk) parts.0))
    ∙ got_in out disk (got ++ concat here) count (place + range.count) ranges parts.1
    ∙ ap (cells_of disk)
    (append_assoc got (concat here) (concat (blocks_at ranges disk))
    ∙ ap (λ (bytes : List ℕ). got ++ bytes) (sym (concat-append here (blocks_at ranges disk))))

-- Puts, of any block at each place

module _ (out : List ℕ) (phase : Phase) (count : ℕ) (block : ℕ → List ℕ)
    (puts : (place lba : ℕ) (cells : Cells)
    → after out (operation_of phase count place lba) cells ≡ with_block cells lba (block place)) where
  put_from : (disk : Disk) (got : List ℕ) (place lba n : ℕ) → lba + n ≤ length disk
      → after_all out (operations_from phase count place (numbers_from lba n)) (cells_of disk got)
      ≡ cells_of (spliced lba (blocks_from block place n) disk) got
  put_from disk got place lba zero within =
      ap (λ d. cells_of d got)
      (sym (take-append-drop lba disk) ∙ ap (λ n. take lba disk ++ drop n disk) (sym (add-zero lba)))
  put_from disk got place lba (suc n) within =
      let bytes = block place in
      let changed = set disk lba bytes in
      let blocks = blocks_from block (place + 1) n in
      let again = put_from changed got (place + 1) (lba + 1) n (omega (arith, length-set_disk disk lba bytes)) in
      let front : take (lba + 1) changed ≡ take lba disk ++ bytes ∷ [] = take_more_set disk lba bytes (omega arith) in
      let back : drop (lba + 1 + length blocks) changed ≡ drop (lba + 1 + length blocks) disk =
      drop-set-lt (lba + 1 + length blocks) disk lba bytes (omega arith) in
      let far : lba + 1 + length blocks ≡ lba + suc (length blocks) = omega arith in
      ap (after_all out (operations_from phase count (place + 1) (numbers_from (lba + 1) n)))
      (puts place lba (cells_of disk got))
      ∙ again
      ∙ ap (λ d. cells_of d got) (ap (λ d. d ++ (blocks ++ drop (lba + 1 + length blocks) changed)) front
      ∙ append_assoc (take lba disk) (bytes ∷ []) (blocks ++ drop (lba + 1 + length blocks) changed)
      ∙ ap (λ rest. take lba disk ++ (bytes ∷ (blocks ++ rest))) back
      ∙ ap (λ m. take lba disk ++ (bytes ∷ (blocks ++ drop m disk))) far)
    where
      length-set_disk : (d : Disk) (i : ℕ) (b : List ℕ) → length (set d i b) ≡ length d
      length-set_disk [] i b = refl
      length-set_disk (x ∷ xs) zero b = refl
      length-set_disk (x ∷ xs) (suc i) b = ap suc (length-set_disk xs i b)

  put_in : (disk : Disk) (got : List ℕ) (place : ℕ) (ranges : List LbaRange)
      → list_all (is_inside (length disk)) ranges ≡ true
      → after_all out (operations_from phase count place (numbers_of ranges)) (cells_of disk got)
      ≡ cells_of (filled block place ranges disk) got
  put_in disk got place [] inside = refl
  put_in disk got place (range ∷ ranges) inside =
      let parts = and_parts (is_inside (length disk) range) (list_all (is_inside (length disk)) ranges) inside in
      let ops = operations_from phase count place (numbers_from range.lba range.count) in
      let now = spliced range.lba (blocks_from block place range.count) disk in
      let first = put_from disk got place range.lba range.count
      (leb-true (range.lba + range.count) (length disk) parts.0) in
      let size : length now ≡ length disk =
      sym (ap (λ (c : Cells). length c.blocks) first) ∙ size_after_all out ops (cells_of disk got) in
      ap (λ (all : List BlockOp). after_all out all (cells_of disk got)) (from_range phase count place range ranges)
      ∙ after_all-append out ops (operations_from phase count (place + range.count) (numbers_of ranges))
      (cells_of disk got)
      ∙ ap (after_all out (operations_from phase count (place + range.count) (numbers_of ranges))) first
      ∙ put_in now got (place + range.count) ranges (rw size parts.1)

-- operations that compare nothing find no difference
even_from : (out : List ℕ) (phase : Phase) (count place : ℕ) (lbas : List ℕ) (cells : Cells)
    → ((place lba : ℕ) (now : Cells) → difference_at out (operation_of phase count place lba) now ≡ None)
    → (performed out (operations_from phase count place lbas) cells).difference ≡ None
even_from out phase count place [] cells none = refl
even_from out phase count place (lba ∷ lbas) cells none =
    ap (λ (d : Option ℕ). (unless d cells
    (performed out (operations_from phase count (place + 1) lbas)
    (after out (operation_of phase count place lba) cells))).difference) (none place lba cells)
    ∙ even_from out phase count (place + 1) lbas (after out (operation_of phase count place lba) cells) none

-- Compares

compared_cells : (out : List ℕ) (count place : ℕ) (lbas : List ℕ) (cells : Cells)
    → (performed out (operations_from phase.Compare count place lbas) cells).cells ≡ cells
compared_cells out count place [] cells = refl
compared_cells out count place (lba ∷ lbas) cells =
    go (difference_at out (operation_of phase.Compare count place lba) cells)
    (compared_cells out count (place + 1) lbas cells)
  where
    rest : Progress
    rest = performed out (operations_from phase.Compare count (place + 1) lbas) cells

    go : (d : Option ℕ) → rest.cells ≡ cells → (unless d cells rest).cells ≡ cells
    go None same = same
    go (Some offset) same = refl

compared_next : (d : Option ℕ) (cells : Cells) (rest : Progress)
    → (unless d cells rest).difference ≡ option_or d rest.difference
compared_next None cells rest = refl
compared_next (Some offset) cells rest = refl

compared_from : (out : List ℕ) (cells : Cells) (count place lba n : ℕ) → lba + n ≤ length cells.blocks
    → (performed out (operations_from phase.Compare count place (numbers_from lba n)) cells).difference
    ≡ difference_among (BLOCK_SIZE * place) (take n (drop lba cells.blocks)) (blocks_from (out_block out) place n)
compared_from out cells count place lba zero within = refl
compared_from out cells count place lba (suc n) within =
    let here : Option ℕ =
    option_map (λ at. BLOCK_SIZE * place + at)
    (first_difference (get_or cells.blocks lba []) (out_block out place)) in
    let step : BLOCK_SIZE * (place + 1) ≡ BLOCK_SIZE * place + BLOCK_SIZE = omega arith in
    compared_next here cells
    (performed out (operations_from phase.Compare count (place + 1) (numbers_from (lba + 1) n)) cells)
    ∙ ap (option_or here) (compared_from out cells count (place + 1) (lba + 1) n (omega arith)
    ∙ ap (λ (offset : ℕ). difference_among offset (take n (drop (lba + 1) cells.blocks))
    (blocks_from (out_block out) (place + 1) n)) step)
    ∙ ap (λ (rest : Disk). difference_among (BLOCK_SIZE * place) (take (suc n) rest)
    (blocks_from (out_block out) place (suc n))) (sym (drop_more cells.blocks lba [] (omega arith)))

or_assoc : (a b c : Option ℕ) → option_or (option_or a b) c ≡ option_or a (option_or b c)
or_assoc None b c = refl
or_assoc (Some x) b c = refl

among_append : (offset : ℕ) (xs ys more others : Disk) → length xs ≡ length more
    → difference_among offset (xs ++ ys) (more ++ others)
    ≡ option_or (difference_among offset xs more) (difference_among (offset + BLOCK_SIZE * length xs) ys others)
among_append offset [] ys [] others same = ap (λ (n : ℕ). difference_among n ys others) (omega arith)
among_append offset [] ys (z ∷ zs) others same = absurd (omega arith)
among_append offset (x ∷ xs) ys [] others same = absurd (omega arith)
among_append offset (x ∷ xs) ys (z ∷ zs) others same =
    let here : Option ℕ = option_map (λ at. offset + at) (first_difference x z) in
    let far : offset + BLOCK_SIZE + BLOCK_SIZE * length xs ≡ offset + BLOCK_SIZE * length (x ∷ xs) = omega arith in
    ap (option_or here)
    (among_append (offset + BLOCK_SIZE) xs ys zs others (omega (arith, same))
    ∙ ap (λ (n : ℕ). option_or (difference_among (offset + BLOCK_SIZE) xs zs) (difference_among n ys others))
    far)
    ∙ sym (or_assoc here (difference_among (offset + BLOCK_SIZE) xs zs)
    (difference_among (offset + BLOCK_SIZE * length (x ∷ xs)) ys others))

blocks_from-add : (block : ℕ → List ℕ) (place n m : ℕ)
    → blocks_from block place (n + m) ≡ blocks_from block place n ++ blocks_from block (place + n) m
blocks_from-add block place zero m =
    let none : 0 + m ≡ m = omega arith in
    let same : place ≡ place + 0 = omega arith in
    ap (blocks_from block place) none ∙ ap (λ (p : ℕ). blocks_from block p m) same
blocks_from-add block place (suc n) m =
    let more : suc n + m ≡ suc (n + m) = omega arith in
    let far : place + 1 + n ≡ place + suc n = omega arith in
    ap (blocks_from block place) more
    ∙ ap (λ (rest : Disk). block place ∷ rest) (blocks_from-add block (place + 1) n m)
    ∙ ap (λ (p : ℕ). block place ∷ (blocks_from block (place + 1) n ++ blocks_from block p m)) far

length-blocks_from : (block : ℕ → List ℕ) (place n : ℕ) → length (blocks_from block place n) ≡ n
length-blocks_from block place zero = refl
length-blocks_from block place (suc n) = ap suc (length-blocks_from block (place + 1) n)

joined_difference : (first next : Progress)
    → (joined first next).difference ≡ option_or first.difference next.difference
joined_difference first next = go first.difference refl
  where
    go : (d : Option ℕ) → first.difference ≡ d → (joined_where d first next).difference ≡ option_or d next.difference
    go None e = refl
    go (Some offset) e = e

compared_in : (out : List ℕ) (cells : Cells) (count place : ℕ) (ranges : List LbaRange)
    → list_all (is_inside (length cells.blocks)) ranges ≡ true
    → (performed out (operations_from phase.Compare count place (numbers_of ranges)) cells).difference
    ≡ difference_among (BLOCK_SIZE * place) (blocks_at ranges cells.blocks)
    (blocks_from (out_block out) place (total ranges))
compared_in out cells count place [] inside = refl
compared_in out cells count place (range ∷ ranges) inside =
    let parts = and_parts (is_inside (length cells.blocks) range) (list_all (is_inside (length cells.blocks)) ranges)
    inside in
    let within = leb-true (range.lba + range.count) (length cells.blocks) parts.0 in
    let ops = operations_from phase.Compare count place (numbers_from range.lba range.count) in
    let rest = operations_from phase.Compare count (place + range.count) (numbers_of ranges) in
    let here = take range.count (drop range.lba cells.blocks) in
    let size : length here ≡ range.count =
    omega (
      arith,
      length-take range.count (drop range.lba cells.blocks),
      length-drop range.lba cells.blocks,
      within,
    ) in
    let far : BLOCK_SIZE * place + BLOCK_SIZE * length here ≡ BLOCK_SIZE * (place + range.count) =
    omega (arith, size) in
    ap (λ (all : List BlockOp). (performed out all cells).difference)
    (from_range phase.Compare count place range ranges)
    ∙ ap (λ (p : Progress). p.difference) (performed-append out ops rest cells)
    ∙ joined_difference (performed out ops cells) (performed out rest (performed out ops cells).cells)
    ∙ ap (λ (c : Cells). option_or (performed out ops cells).difference (performed out rest c).difference)
    (compared_cells out count place (numbers_from range.lba range.count) cells)
    ∙ ap (λ (d : Option ℕ). option_or d (performed out rest cells).difference)
    (compared_from out cells count place range.lba range.count within)
    ∙ ap (option_or (difference_among (BLOCK_SIZE * place) here (blocks_from (out_block out) place range.count)))
    (compared_in out cells count (place + range.count) ranges parts.1)
    ∙ ap (λ (n : ℕ). option_or
    (difference_among (BLOCK_SIZE * place) here (blocks_from (out_block out) place range.count))
    (difference_among n (blocks_at ranges cells.blocks)
    (blocks_from (out_block out) (place + range.count) (total ranges)))) (sym far)
    ∙ sym (among_append (BLOCK_SIZE * place) here (blocks_at ranges cells.blocks)
    (blocks_from (out_block out) place range.count) (blocks_from (out_block out) (place + range.count) (total ranges))
    (size ∙ sym (length-blocks_from (out_block out) place range.count)))
    ∙ ap (difference_among (BLOCK_SIZE * place) (blocks_at (range ∷ ranges) cells.blocks))
    (sym (blocks_from-add (out_block out) place range.count (total ranges)))

-- A phase, and phases one after another

abbrev Comes : List ℕ → List LbaRange → Phase → Cells → Type 0
Comes out ranges phase cells =
    ((performed out (operations_in phase ranges) cells).difference ≡ difference_of out ranges phase cells)
    × ((performed out (operations_in phase ranges) cells).cells ≡ after_phase out ranges phase cells)

-- a phase that compares nothing
evenly : (out : List ℕ) (ranges : List LbaRange) (phase : Phase) (cells : Cells)
    → ((place lba : ℕ) (now : Cells) → difference_at out (operation_of phase (total ranges) place lba) now ≡ None)
    → difference_of out ranges phase cells ≡ None
    → after_all out (operations_in phase ranges) cells ≡ after_phase out ranges phase cells
    → Comes out ranges phase cells
evenly out ranges phase cells none even same =
    let all = performed-all out (operations_in phase ranges) cells
    (even_from out phase (total ranges) 0 (numbers_of ranges) cells none) in
    (ap (λ (p : Progress). p.difference) all ∙ sym even, ap (λ (p : Progress). p.cells) all ∙ same)

looked : (out : List ℕ) (count place : ℕ) (lbas : List ℕ) (cells : Cells)
    → after_all out (operations_from phase.Look count place lbas) cells ≡ cells
looked out count place [] cells = refl
looked out count place (lba ∷ lbas) cells = looked out count (place + 1) lbas cells

phase_comes : (out : List ℕ) (ranges : List LbaRange) (phase : Phase) (cells : Cells)
    → list_all (is_inside (length cells.blocks)) ranges ≡ true → Comes out ranges phase cells
phase_comes out ranges phase.Get cells inside =
    evenly out ranges phase.Get cells (λ place lba now. refl) refl
    (got_in out cells.blocks cells.got (total ranges) 0 ranges inside)
phase_comes out ranges phase.Look cells inside =
    evenly out ranges phase.Look cells (λ place lba now. refl) refl
    (looked out (total ranges) 0 (numbers_of ranges) cells)
phase_comes out ranges phase.Put cells inside =
    evenly out ranges phase.Put cells (λ place lba now. refl) refl
    (put_in out phase.Put (total ranges) (out_block out) (λ place lba now. refl) cells.blocks cells.got 0 ranges
    inside)
phase_comes out ranges phase.PutSecondHalf cells inside =
    evenly out ranges phase.PutSecondHalf cells (λ place lba now. refl) refl
    (put_in out phase.PutSecondHalf (total ranges) (λ place. out_block out (total ranges + place))
    (λ place lba now. refl) cells.blocks cells.got 0 ranges inside)
phase_comes out ranges phase.PutSame cells inside =
    evenly out ranges phase.PutSame cells (λ place lba now. refl) refl
    (put_in out phase.PutSame (total ranges) (λ place. out_block out 0) (λ place lba now. refl) cells.blocks
    cells.got 0 ranges inside)
phase_comes out ranges phase.Zero cells inside =
    evenly out ranges phase.Zero cells (λ place lba now. refl) refl
    (put_in out phase.Zero (total ranges) (λ place. zero_block) (λ place lba now. refl) cells.blocks cells.got 0
    ranges inside)
phase_comes out ranges phase.Compare cells inside = (
  compared_in out cells (total ranges) 0 ranges inside,
  compared_cells out (total ranges) 0 (numbers_of ranges)
      cells,
)

-- a phase that finds a difference changes nothing
phase_still : (out : List ℕ) (ranges : List LbaRange) (phase : Phase) (cells : Cells) (offset : ℕ)
    → difference_of out ranges phase cells ≡ Some offset → after_phase out ranges phase cells ≡ cells
phase_still out ranges phase.Get cells offset found = absurd (cc)
phase_still out ranges phase.Look cells offset found = refl
phase_still out ranges phase.Put cells offset found = absurd (cc)
phase_still out ranges phase.PutSecondHalf cells offset found = absurd (cc)
phase_still out ranges phase.PutSame cells offset found = absurd (cc)
phase_still out ranges phase.Zero cells offset found = absurd (cc)
phase_still out ranges phase.Compare cells offset found = refl

-- the operations of phases end as the phases do at once
pub whole_phases : (out : List ℕ) (ranges : List LbaRange) (phases : List Phase) (cells : Cells)
    → list_all (is_inside (length cells.blocks)) ranges ≡ true
    → EndsAs (performed out (planned phases ranges) cells) (effect out ranges phases cells)
whole_phases out ranges [] cells inside = record { difference = refl; cells = refl }
whole_phases out ranges (phase ∷ phases) cells inside =
    let comes = phase_comes out ranges phase cells inside in
    let size : length (after_phase out ranges phase cells).blocks ≡ length cells.blocks =
    sym (ap (λ (c : Cells). length c.blocks) comes.1) ∙ perform_size out (operations_in phase ranges) cells in
    go comes (whole_phases out ranges phases (after_phase out ranges phase cells) (rw size inside))
    (difference_of out ranges phase cells) refl
  where
    ops : List BlockOp
    ops = operations_in phase ranges

    first : Progress
    first = performed out ops cells

    next : Progress
    next = performed out (planned phases ranges) first.cells

    after : Cells
    after = after_phase out ranges phase cells

    go : Comes out ranges phase cells
        → EndsAs (performed out (planned phases ranges) after) (effect out ranges phases after) → (d : Option ℕ)
        → difference_of out ranges phase cells ≡ d
        → EndsAs (performed out (planned (phase ∷ phases) ranges) cells)
        (ended_by d cells (effect out ranges phases after))
    go comes rest None e =
        let so = performed-append out ops (planned phases ranges) cells
        ∙ ap (λ (d : Option ℕ). joined_where d first next) (comes.0 ∙ e)
        ∙ ap (λ (c : Cells). joined_where None first (performed out (planned phases ranges) c)) comes.1 in
        record {
          difference = ap (λ (p : Progress). p.difference) so ∙ rest.difference;
          cells = ap (λ (p : Progress). p.cells) so ∙ rest.cells;
        }
    go comes rest (Some offset) e =
        let so = performed-append out ops (planned phases ranges) cells
        ∙ ap (λ (d : Option ℕ). joined_where d first next) (comes.0 ∙ e) in
        record {
          difference = ap (λ (p : Progress). p.difference) so ∙ comes.0 ∙ e;
          cells = ap (λ (p : Progress). p.cells) so ∙ comes.1 ∙ phase_still out ranges phase cells offset e;
        }
