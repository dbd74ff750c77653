-- Which blocks two sets of block numbers share, and where two ranges meet.
use Rattle.std.proofs.Common.{◌≡◌, ℕ, zero, suc, ◌+◌, ◌<◌, ◌≤◌, max, min, List, [], ◌∷◌, ◌++◌, Bool, true, false, ◌||◌, ◌==◌, ◌↔◌, ◌⊎◌, inl, inr, nat_lt, refl, sym, ap, ◌∙◌, subst, arith}
use Rattle.std.specs.List.{list_any, Contains}
use Rattle.std.proofs.lemmas.Bool.{cases_Bool, cases_eq, false≢true, ltb_from_iff}
use Rattle.std.proofs.lemmas.Bool.Decides.{nat_tests}
use Rattle.std.proofs.lemmas.List.Folds.{list_any_at, list_any-append}
use Rattle.ct_matrix.specs.declared.blocks.Extent.{Extent}
use Rattle.ct_cdb.specs.Ranges.{numbers_from}
use Rattle.ct_matrix.specs.Extents.{Print, blocks_in, share_a_block, overlap, TouchesBoth}

later : (x y : ℕ) (xs : List ℕ) → Contains xs y → Contains (x ∷ xs) y
later x y xs (k, within, here) = (suc k, omega arith, here)

passes : (p : ℕ → Bool) (xs : List ℕ) → list_any p xs ≡ true → (x : ℕ) × Contains xs x × (p x ≡ true)
passes p [] h = absurd (false≢true h)
passes p (x ∷ xs) h =
    elim (cases_Bool (p x)) [
      | inl passing ↦ (x, (0, omega arith, refl), passing)
      | inr failing ↦ let rest = passes p xs (rw failing at h) in (rest.0, later x rest.0 xs rest.1, rest.2)
    ]

passed : (p : ℕ → Bool) (xs : List ℕ) (x : ℕ) → Contains xs x → p x ≡ true → list_any p xs ≡ true
passed p xs x (k, within, here) h = list_any_at p xs k x within (ap p here ∙ h)

-- two sets share a block exactly where some block is in both
pub shared : (xs ys : List ℕ) → share_a_block xs ys ≡ true → (x : ℕ) × Contains xs x × Contains ys x
shared xs ys h =
    let outer = passes (λ x. list_any (λ y. x == y) ys) xs h in
    let inner = passes (λ y. outer.0 == y) ys outer.2 in
    let same : inner.0 ≡ outer.0 = grind (arith, nat_tests, inner.2) in
    (outer.0, outer.1, subst (Contains ys) same inner.1)

pub sharing : (xs ys : List ℕ) (x : ℕ) → Contains xs x → Contains ys x → share_a_block xs ys ≡ true
sharing xs ys x in_xs in_ys =
    let same : (x == x) ≡ true = grind (arith, nat_tests) in
    passed (λ z. list_any (λ y. z == y) ys) xs x in_xs (passed (λ y. x == y) ys x in_ys same)

-- the numbers of a range
pub numbers_within : (count first x : ℕ) → Contains (numbers_from first count) x → (first ≤ x) × (x < first + count)
numbers_within zero first x (k, within, here) = absurd (omega (arith, within))
numbers_within (suc count) first x (zero, within, here) = (omega (arith, here), omega (arith, here))
numbers_within (suc count) first x (suc k, within, here) =
    let rest = numbers_within count (first + 1) x (k, omega (arith, within), here) in (omega (arith, rest.0), omega (arith, rest.1))

numbers_has : (count first x : ℕ) → first ≤ x → x < first + count → Contains (numbers_from first count) x
numbers_has zero first x low high = absurd (omega arith)
numbers_has (suc count) first x low high =
    elim (cases_eq first x) [
      | inl same ↦ (0, omega arith, same)
      | inr differs ↦ later first x (numbers_from (first + 1) count) (numbers_has count (first + 1) x (omega (arith, differs)) (omega arith))
    ]

-- two ranges share a block exactly where the later beginning is before the earlier end
pub share-extents : (a b : Extent) → share_a_block (numbers_from a.first a.count) (numbers_from b.first b.count) ≡ nat_lt (max a.first b.first) (min (a.first + a.count) (b.first + b.count))
share-extents a b = ltb_from_iff (meets, met)
  where
    meets : share_a_block (numbers_from a.first a.count) (numbers_from b.first b.count) ≡ true → max a.first b.first < min (a.first + a.count) (b.first + b.count)
    meets h =
        let both = shared (numbers_from a.first a.count) (numbers_from b.first b.count) h in
        let in_a = numbers_within a.count a.first both.0 both.1 in
        let in_b = numbers_within b.count b.first both.0 both.2 in
        omega (arith, in_a.0, in_a.1, in_b.0, in_b.1)

    met : max a.first b.first < min (a.first + a.count) (b.first + b.count) → share_a_block (numbers_from a.first a.count) (numbers_from b.first b.count) ≡ true
    met h =
        sharing (numbers_from a.first a.count) (numbers_from b.first b.count) (max a.first b.first)
        (numbers_has a.count a.first (max a.first b.first) (omega arith) (omega arith))
        (numbers_has b.count b.first (max a.first b.first) (omega arith) (omega arith))

pub share-none : (xs : List ℕ) → share_a_block xs [] ≡ false
share-none [] = refl
share-none (x ∷ xs) = share-none xs

pub share-append : (xs ys zs : List ℕ) → share_a_block xs (ys ++ zs) ≡ (share_a_block xs ys || share_a_block xs zs)
share-append [] ys zs = refl
share-append (x ∷ xs) ys zs =
    rw (list_any-append (λ y. x == y) ys zs, share-append xs ys zs)
    (exchange (list_any (λ y. x == y) ys) (list_any (λ y. x == y) zs) (share_a_block xs ys) (share_a_block xs zs))
  where
    exchange : (a b c d : Bool) → ((a || b) || (c || d)) ≡ ((a || c) || (b || d))
    exchange a b c d = grind arith

-- two footprints overlap, by the pairs of their sets
pub overlap_is : (a b : Print) → overlap a b ≡ (share_a_block (blocks_in a.writes) (blocks_in b.reads) || share_a_block (blocks_in a.writes) (blocks_in b.writes) || share_a_block (blocks_in a.reads) (blocks_in b.writes))
unfolding overlap
overlap_is a b = rw (share-append (blocks_in a.writes) (blocks_in b.reads) (blocks_in b.writes)) refl

-- which of three tests passes
either : (x y z : Bool) → (x || y || z) ≡ true → (x ≡ true) ⊎ ((y ≡ true) ⊎ (z ≡ true))
either true y z h = inl refl
either false true z h = inr (inl refl)
either false false z h = inr (inr h)

first_of_three : (x y z : Bool) → x ≡ true → (x || y || z) ≡ true
first_of_three x y z h = grind arith

second_of_three : (x y z : Bool) → y ≡ true → (x || y || z) ≡ true
second_of_three x y z h = grind arith

third_of_three : (x y z : Bool) → z ≡ true → (x || y || z) ≡ true
third_of_three x y z h = grind arith

-- two footprints overlap exactly where one command writes a block that the other reads or writes
pub overlap-in_sets : (a b : Print) → (overlap a b ≡ true) ↔ TouchesBoth a b
overlap-in_sets a b = (λ h. touches (sym (overlap_is a b) ∙ h), λ h. overlap_is a b ∙ touching h)
  where
    touches : (share_a_block (blocks_in a.writes) (blocks_in b.reads) || share_a_block (blocks_in a.writes) (blocks_in b.writes) || share_a_block (blocks_in a.reads) (blocks_in b.writes)) ≡ true → TouchesBoth a b
    touches h =
        elim (either (share_a_block (blocks_in a.writes) (blocks_in b.reads)) (share_a_block (blocks_in a.writes) (blocks_in b.writes)) (share_a_block (blocks_in a.reads) (blocks_in b.writes)) h) [
          | inl one ↦ let both = shared (blocks_in a.writes) (blocks_in b.reads) one in (both.0, inl (both.1, inl both.2))
          | inr (inl two) ↦ let both = shared (blocks_in a.writes) (blocks_in b.writes) two in (both.0, inl (both.1, inr both.2))
          | inr (inr three) ↦ let both = shared (blocks_in a.reads) (blocks_in b.writes) three in (both.0, inr (inl both.1, both.2))
        ]

    touching : TouchesBoth a b → (share_a_block (blocks_in a.writes) (blocks_in b.reads) || share_a_block (blocks_in a.writes) (blocks_in b.writes) || share_a_block (blocks_in a.reads) (blocks_in b.writes)) ≡ true
    touching (x, inl (writes, inl reads)) = first_of_three (share_a_block (blocks_in a.writes) (blocks_in b.reads)) (share_a_block (blocks_in a.writes) (blocks_in b.writes)) (share_a_block (blocks_in a.reads) (blocks_in b.writes)) (sharing (blocks_in a.writes) (blocks_in b.reads) x writes reads)
    touching (x, inl (writes, inr also)) = second_of_three (share_a_block (blocks_in a.writes) (blocks_in b.reads)) (share_a_block (blocks_in a.writes) (blocks_in b.writes)) (share_a_block (blocks_in a.reads) (blocks_in b.writes)) (sharing (blocks_in a.writes) (blocks_in b.writes) x writes also)
    touching (x, inr (inl reads, writes)) = third_of_three (share_a_block (blocks_in a.writes) (blocks_in b.reads)) (share_a_block (blocks_in a.writes) (blocks_in b.writes)) (share_a_block (blocks_in a.reads) (blocks_in b.writes)) (sharing (blocks_in a.reads) (blocks_in b.writes) x reads writes)
    touching (x, inr (inr also, writes)) = second_of_three (share_a_block (blocks_in a.writes) (blocks_in b.reads)) (share_a_block (blocks_in a.writes) (blocks_in b.writes)) (share_a_block (blocks_in a.reads) (blocks_in b.writes)) (sharing (blocks_in a.writes) (blocks_in b.writes) x also writes)

-- which of two footprints comes first does not matter
pub overlap_comm : (a b : Print) → overlap a b ≡ overlap b a
overlap_comm a b = same_tests (overlap a b) (overlap b a) (λ h. turned a b h) (λ h. turned b a h)
  where
    same_tests : (x y : Bool) → (x ≡ true → y ≡ true) → (y ≡ true → x ≡ true) → x ≡ y
    same_tests true y forth back = sym (forth refl)
    same_tests false true forth back = back refl
    same_tests false false forth back = refl

    turn : (a b : Print) → TouchesBoth a b → TouchesBoth b a
    turn a b (x, inl (writes, touches)) = (x, inr (touches, writes))
    turn a b (x, inr (touches, writes)) = (x, inl (writes, touches))

    turned : (a b : Print) → overlap a b ≡ true → overlap b a ≡ true
    turned a b h = (overlap-in_sets b a).1 (turn a b ((overlap-in_sets a b).0 h))

-- an answer that computes `overlap`, in sets
pub in_sets-from : (answer : Bool) (a b : Print) → answer ≡ overlap a b → (answer ≡ true) ↔ TouchesBoth a b
in_sets-from answer a b computed = subst (λ (r : Bool). (r ≡ true) ↔ TouchesBoth a b) (sym computed) (overlap-in_sets a b)
