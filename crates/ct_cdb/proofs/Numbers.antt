-- Block numbers of ranges, by their places.
use Rattle.std.proofs.Common.{◌≡◌, ℕ, zero, suc, ◌+◌, ◌-◌, ◌*◌, ◌<◌, ◌≤◌, Bool, true, ◌&&◌, List, [], ◌∷◌, ◌++◌, take, drop, length, slice_get, slice_index_or, Some, refl, sym, ap, ◌∙◌}
use Rattle.std.proofs.Common.{arith, length-append}
use Rattle.std.specs.List.{list_all}
use Rattle.std.proofs.lemmas.Bool.{and_parts, leb-true}
use Rattle.std.proofs.lemmas.Bool.Decides.{nat_tests}
use Rattle.std.proofs.lemmas.List.{take_all}
use Rattle.ct_cdb.specs.declared.ranges.LbaRange.{LbaRange}
use Rattle.ct_word.specs.declared.limit.TheConstants.{MOST_BLOCKS}
use Rattle.ct_cdb.specs.Ranges.{numbers_from, numbers_of, total, is_inside}

-- a place in the first range, and one behind it
within_first : (first count place : ℕ) (rest : List ℕ) → place < count
    → slice_get (numbers_from first count ++ rest) place ≡ Some (first + place)
within_first first zero place rest within = absurd (omega arith)
within_first first (suc count) zero rest within = ap (λ (n : ℕ). Some n) (omega arith)
within_first first (suc count) (suc place) rest within =
    within_first (first + 1) count place rest (omega arith) ∙ ap (λ (n : ℕ). Some n) (omega arith)

behind_first : (first count place : ℕ) (rest : List ℕ) → count ≤ place
    → slice_get (numbers_from first count ++ rest) place ≡ slice_get rest (place - count)
behind_first first zero place rest behind = ap (slice_get rest) (omega arith)
behind_first first (suc count) zero rest behind = absurd (omega arith)
behind_first first (suc count) (suc place) rest behind =
    behind_first (first + 1) count place rest (omega arith) ∙ ap (slice_get rest) (omega arith)

pub in_first_range : (ranges : List LbaRange) (blank : LbaRange) (place : ℕ) → 1 ≤ length ranges
    → place < (slice_index_or ranges 0 blank).count
    → slice_get (numbers_of ranges) place ≡ Some ((slice_index_or ranges 0 blank).lba + place)
in_first_range [] blank place some within = absurd (omega arith)
in_first_range (range ∷ ranges) blank place some within =
    within_first range.lba range.count place (numbers_of ranges) within

-- the ranges behind the first
abbrev pub behind_one : List LbaRange → List LbaRange
behind_one ranges = take (length ranges - 1) (drop 1 ranges)

pub behind_first_range : (ranges : List LbaRange) (blank : LbaRange) (place : ℕ) → 1 ≤ length ranges
    → (slice_index_or ranges 0 blank).count ≤ place
    → slice_get (numbers_of ranges) place
    ≡ slice_get (numbers_of (behind_one ranges)) (place - (slice_index_or ranges 0 blank).count)
behind_first_range [] blank place some behind = absurd (omega arith)
behind_first_range (range ∷ ranges) blank place some behind =
    behind_first range.lba range.count place (numbers_of ranges) behind
    ∙ ap (λ (rest : List LbaRange). slice_get (numbers_of rest) (place - range.count))
    (sym (take_all (suc (length ranges) - 1) ranges (omega arith)))

pub total_parts : (ranges : List LbaRange) (blank : LbaRange) → 1 ≤ length ranges
    → total ranges ≡ (slice_index_or ranges 0 blank).count + total (behind_one ranges)
total_parts [] blank some = absurd (omega arith)
total_parts (range ∷ ranges) blank some =
    ap (λ (rest : List LbaRange). range.count + total rest) (sym (take_all (suc (length ranges) - 1) ranges (omega arith)))

-- ranges on a disk of at most so many blocks have at most so many each

pub all_inside : (blocks most : ℕ) (ranges : List LbaRange) → blocks ≤ most → list_all (is_inside blocks) ranges ≡ true
    → list_all (is_inside most) ranges ≡ true
all_inside blocks most [] few inside = refl
all_inside blocks most (range ∷ ranges) few inside =
    let parts = and_parts (is_inside blocks range) (list_all (is_inside blocks) ranges) inside in
    let here : is_inside most range ≡ true = grind (arith, nat_tests, parts.0) in
    ap (λ (t : Bool). t && list_all (is_inside most) ranges) here ∙ all_inside blocks most ranges few parts.1

pub total_inside : (blocks : ℕ) (ranges : List LbaRange) → blocks ≤ MOST_BLOCKS
    → list_all (is_inside blocks) ranges ≡ true → total ranges ≤ length ranges * MOST_BLOCKS
total_inside blocks [] few inside = omega arith
total_inside blocks (range ∷ ranges) few inside =
    let parts = and_parts (is_inside blocks range) (list_all (is_inside blocks) ranges) inside in
    let here : range.lba + range.count ≤ blocks = leb-true (range.lba + range.count) blocks parts.0 in
    omega (arith, here, few, total_inside blocks ranges few parts.1)

pub length-numbers_from : (first count : ℕ) → length (numbers_from first count) ≡ count
length-numbers_from first zero = refl
length-numbers_from first (suc count) = ap suc (length-numbers_from (first + 1) count)

pub length-numbers_of : (ranges : List LbaRange) → length (numbers_of ranges) ≡ total ranges
length-numbers_of [] = refl
length-numbers_of (range ∷ ranges) =
    omega (
      arith,
      length-append (numbers_from range.lba range.count) (numbers_of ranges),
      length-numbers_from range.lba
          range.count,
      length-numbers_of ranges,
    )
