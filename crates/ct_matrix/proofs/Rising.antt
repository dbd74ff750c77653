-- Ranges in rising order: the same blocks as before, and what two lists of them share.
use Rattle.std.proofs.Common.{◌≡◌, ℕ, suc, ◌+◌, ◌-◌, ◌<◌, ◌≤◌, max, min, List, [], ◌∷◌, ◌++◌, Bool, true, false, ◌||◌, ◌&&◌, ◌==◌, nat_lt, nat_le, if◌then◌else◌, length, take, drop, slice_index_or, ⊎_elim, inl, inr, refl, sym, ap, ◌∙◌, subst, arith}
use Rattle.std.specs.List.{list_any, All, Contains}
use Rattle.std.proofs.lemmas.Bool.{false≢true, leb-true, leb-false, ltb-false}
use Rattle.std.proofs.lemmas.Bool.Decides.{nat_tests}
use Rattle.std.proofs.lemmas.List.{take_all}
use Rattle.std.proofs.lemmas.List.Elements.{All-nil, All-cons, Contains-append_cases}
use Rattle.std.proofs.lemmas.List.Folds.{list_any-append}
use Rattle.ct_matrix.specs.declared.blocks.Extent.{Extent}
use Rattle.ct_cdb.specs.Ranges.{numbers_from}
use Rattle.ct_matrix.specs.Extents.{blocks_in, share_a_block, overlap, extents_if, insert, rising, IsRising, EndBy}
use Rattle.ct_matrix.proofs.Shared.{numbers_within, shared, share-extents, share-append, share-none, overlap_is}

-- what holds of each range of a list

abbrev all_first : (P : Extent → Type 0) (x : Extent) (xs : List Extent) → All P (x ∷ xs) → P x
all_first P x xs all = all 0 x (omega arith)

abbrev all_later : (P : Extent → Type 0) (x : Extent) (xs : List Extent) → All P (x ∷ xs) → All P xs
all_later P x xs all = λ k blank within. all (suc k) blank (omega (arith, within))

all_so : (P Q : Extent → Type 0) (xs : List Extent) → ((x : Extent) → P x → Q x) → All P xs → All Q xs
all_so P Q xs f all = λ k blank within. f (slice_index_or xs k blank) (all k blank within)

-- ranges that begin at a block or behind it
abbrev Begin : ℕ → List Extent → Type 0
Begin first extents = All (λ (extent : Extent). first ≤ extent.first) extents

begin_with : (n : ℕ) (e : Extent) (xs : List Extent) → n ≤ e.first → Begin n xs → Begin n (insert e xs)
begin_with n e [] low all = All-cons (λ (x : Extent). n ≤ x.first) e [] low all
begin_with n e (x ∷ xs) low all =
    go (nat_le e.first x.first) (begin_with n e xs low (all_later (λ (y : Extent). n ≤ y.first) x xs all))
  where
    P : Extent → Type 0
    P y = n ≤ y.first

    go : (t : Bool) → All P (insert e xs) → All P (if t then e ∷ x ∷ xs else x ∷ insert e xs)
    go true later = All-cons P e (x ∷ xs) low all
    go false later = All-cons P x (insert e xs) (all_first P x xs all) later

insert_rises : (e : Extent) (xs : List Extent) → IsRising xs → IsRising (insert e xs)
insert_rises e [] rises = (All-nil (λ (x : Extent). e.first ≤ x.first), tt)
insert_rises e (x ∷ xs) rises = go (nat_le e.first x.first) refl (insert_rises e xs rises.1)
  where
    go : (t : Bool) → nat_le e.first x.first ≡ t → IsRising (insert e xs)
        → IsRising (if t then e ∷ x ∷ xs else x ∷ insert e xs)
    go true low later =
        let first : e.first ≤ x.first = leb-true e.first x.first low in (
          All-cons (λ (y : Extent). e.first ≤ y.first) x xs first
              (all_so (λ (y : Extent). x.first ≤ y.first) (λ (y : Extent). e.first ≤ y.first) xs
              (λ y behind. omega (arith, first, behind)) rises.0),
          rises,
        )
    go false high later =
        let behind : x.first < e.first = leb-false e.first x.first high in
        (begin_with x.first e xs (omega (arith, behind)) rises.0, later)

pub rising_rises : (xs : List Extent) → IsRising (rising xs)
rising_rises [] = tt
rising_rises (x ∷ xs) = insert_rises x (rising xs) (rising_rises xs)

pub length-insert : (e : Extent) (xs : List Extent) → length (insert e xs) ≡ suc (length xs)
length-insert e [] = refl
length-insert e (x ∷ xs) = go (nat_le e.first x.first) (length-insert e xs)
  where
    go : (t : Bool) → length (insert e xs) ≡ suc (length xs)
        → length (if t then e ∷ x ∷ xs else x ∷ insert e xs) ≡ suc (suc (length xs))
    go true same = refl
    go false same = ap suc same

-- a test of blocks passes as before

or_turned : (a b c : Bool) → (a || (b || c)) ≡ (b || (a || c))
or_turned a b c = grind arith

any_insert : (p : ℕ → Bool) (e : Extent) (xs : List Extent)
    → list_any p (blocks_in (insert e xs)) ≡ (list_any p (numbers_from e.first e.count) || list_any p (blocks_in xs))
any_insert p e [] = list_any-append p (numbers_from e.first e.count) []
any_insert p e (x ∷ xs) = go (nat_le e.first x.first) (any_insert p e xs)
  where
    mine : List ℕ
    mine = numbers_from e.first e.count

    first : List ℕ
    first = numbers_from x.first x.count

    go : (t : Bool) → list_any p (blocks_in (insert e xs)) ≡ (list_any p mine || list_any p (blocks_in xs))
        → list_any p (blocks_in (if t then e ∷ x ∷ xs else x ∷ insert e xs))
        ≡ (list_any p mine || list_any p (first ++ blocks_in xs))
    go true same = list_any-append p mine (first ++ blocks_in xs)
    go false same =
        list_any-append p first (blocks_in (insert e xs))
        ∙ ap (λ (t : Bool). list_any p first || t) same
        ∙ or_turned (list_any p first) (list_any p mine) (list_any p (blocks_in xs))
        ∙ ap (λ (t : Bool). list_any p mine || t) (sym (list_any-append p first (blocks_in xs)))

pub any_rising : (p : ℕ → Bool) (xs : List Extent) → list_any p (blocks_in (rising xs)) ≡ list_any p (blocks_in xs)
any_rising p [] = refl
any_rising p (x ∷ xs) =
    any_insert p x (rising xs)
    ∙ ap (λ (t : Bool). list_any p (numbers_from x.first x.count) || t) (any_rising p xs)
    ∙ sym (list_any-append p (numbers_from x.first x.count) (blocks_in xs))

-- where the blocks of ranges stand

not_before : (n : ℕ) (xs : List Extent) (z : ℕ) → Begin n xs → Contains (blocks_in xs) z → n ≤ z
not_before n [] z all (k, within, here) = absurd (omega (arith, within))
not_before n (x ∷ xs) z all there =
    ⊎_elim
    (λ (mine : Contains (numbers_from x.first x.count) z).
    let at = numbers_within x.count x.first z mine in
    omega (arith, at.0, all_first (λ (y : Extent). n ≤ y.first) x xs all))
    (λ (later : Contains (blocks_in xs) z).
    not_before n xs z (all_later (λ (y : Extent). n ≤ y.first) x xs all) later)
    (Contains-append_cases (numbers_from x.first x.count) (blocks_in xs) z there)

before_end : (n : ℕ) (xs : List Extent) (z : ℕ) → EndBy n xs → Contains (blocks_in xs) z → z < n
before_end n [] z all (k, within, here) = absurd (omega (arith, within))
before_end n (x ∷ xs) z all there =
    ⊎_elim
    (λ (mine : Contains (numbers_from x.first x.count) z).
    let at = numbers_within x.count x.first z mine in
    omega (arith, at.1, all_first (λ (y : Extent). y.first + y.count ≤ n) x xs all))
    (λ (later : Contains (blocks_in xs) z).
    before_end n xs z (all_later (λ (y : Extent). y.first + y.count ≤ n) x xs all) later)
    (Contains-append_cases (numbers_from x.first x.count) (blocks_in xs) z there)

not_shared : (xs ys : List ℕ) → ((z : ℕ) → Contains xs z → Contains ys z → ⊥) → share_a_block xs ys ≡ false
not_shared xs ys none = go (share_a_block xs ys) refl
  where
    go : (t : Bool) → share_a_block xs ys ≡ t → t ≡ false
    go false h = refl
    go true h = let both = shared xs ys h in absurd (none both.0 both.1 both.2)

-- ranges that end before others begin share no block
pub apart_lists : (xs ys : List Extent) (n : ℕ) → EndBy n xs → Begin n ys
    → share_a_block (blocks_in xs) (blocks_in ys) ≡ false
apart_lists xs ys n end begin =
    not_shared (blocks_in xs) (blocks_in ys)
    (λ z mine other. omega (arith, before_end n xs z end mine, not_before n ys z begin other))

pub apart_turned : (xs ys : List Extent) (n : ℕ) → EndBy n ys → Begin n xs
    → share_a_block (blocks_in xs) (blocks_in ys) ≡ false
apart_turned xs ys n end begin =
    not_shared (blocks_in xs) (blocks_in ys)
    (λ z mine other. omega (arith, before_end n ys z end other, not_before n xs z begin mine))

-- the walk over two lists

-- the ranges behind the first
abbrev behind_one : List Extent → List Extent
behind_one xs = take (length xs - 1) (drop 1 xs)

behind_is : (x : Extent) (xs : List Extent) → behind_one (x ∷ xs) ≡ xs
behind_is x xs = take_all (suc (length xs) - 1) xs (omega arith)

pub behind_rises : (xs : List Extent) → 1 ≤ length xs → IsRising xs → IsRising (behind_one xs)
behind_rises [] some rises = absurd (omega arith)
behind_rises (x ∷ xs) some rises = subst IsRising (sym (behind_is x xs)) rises.1

pub begin_first : (xs : List Extent) (blank : Extent) (n : ℕ) → 1 ≤ length xs → IsRising xs
    → n ≤ (slice_index_or xs 0 blank).first → Begin n xs
begin_first [] blank n some rises low = absurd (omega arith)
begin_first (x ∷ xs) blank n some rises low =
    All-cons (λ (y : Extent). n ≤ y.first) x xs low
    (all_so (λ (y : Extent). x.first ≤ y.first) (λ (y : Extent). n ≤ y.first) xs
    (λ y behind. omega (arith, low, behind)) rises.0)

abbrev meets : Extent → Extent → Bool
meets a b = nat_lt (max a.first b.first) (min (a.first + a.count) (b.first + b.count))

or_left : (a b : Bool) → a ≡ true → (a || b) ≡ true
or_left a b h = grind arith

first_met : (x y : Extent) (xs ys : List Extent) → meets x y ≡ true
    → share_a_block (blocks_in (x ∷ xs)) (blocks_in (y ∷ ys)) ≡ true
first_met x y xs ys met =
    let mine = numbers_from x.first x.count in
    let other = numbers_from y.first y.count in
    list_any-append (λ (n : ℕ). list_any (λ (m : ℕ). n == m) (other ++ blocks_in ys)) mine (blocks_in xs)
    ∙ or_left (share_a_block mine (other ++ blocks_in ys)) (share_a_block (blocks_in xs) (other ++ blocks_in ys))
    (share-append mine other (blocks_in ys)
    ∙ or_left (share_a_block mine other) (share_a_block mine (blocks_in ys)) (share-extents x y ∙ met))

pub no_second : (xs ys : List Extent) → length ys < 1 → share_a_block (blocks_in xs) (blocks_in ys) ≡ false
no_second xs [] none = share-none (blocks_in xs)
no_second xs (y ∷ ys) none = absurd (omega (arith, none))

pub met : (xs ys : List Extent) (blank : Extent) → 1 ≤ length xs → 1 ≤ length ys
    → meets (slice_index_or xs 0 blank) (slice_index_or ys 0 blank) ≡ true
    → share_a_block (blocks_in xs) (blocks_in ys) ≡ true
met [] ys blank some others h = absurd (omega arith)
met (x ∷ xs) [] blank some others h = absurd (omega arith)
met (x ∷ xs) (y ∷ ys) blank some others h = first_met x y xs ys h

-- of two ranges that don't meet, the one that ends first meets none behind the other
alone : (x y : Extent) (ys : List Extent) → IsRising (y ∷ ys) → meets x y ≡ false
    → x.first + x.count ≤ y.first + y.count → (z : ℕ) → Contains (numbers_from x.first x.count) z
    → Contains (blocks_in (y ∷ ys)) z → ⊥
alone x y ys rises apart ends z mine other =
    let at = numbers_within x.count x.first z mine in
    let low = not_before y.first (y ∷ ys) z
    (All-cons (λ (e : Extent). y.first ≤ e.first) y ys (omega arith) rises.0) other in
    let far = ltb-false (max x.first y.first) (min (x.first + x.count) (y.first + y.count)) apart in
    omega (arith, at.0, at.1, low, far, ends)

or_none : (a b : Bool) → a ≡ false → (a || b) ≡ b
or_none a b h = grind arith

pub first_done : (xs ys : List Extent) (blank : Extent) → 1 ≤ length xs → 1 ≤ length ys → IsRising ys
    → meets (slice_index_or xs 0 blank) (slice_index_or ys 0 blank) ≡ false
    → (slice_index_or xs 0 blank).first + (slice_index_or xs 0 blank).count
    ≤ (slice_index_or ys 0 blank).first + (slice_index_or ys 0 blank).count
    → share_a_block (blocks_in (behind_one xs)) (blocks_in ys) ≡ share_a_block (blocks_in xs) (blocks_in ys)
first_done [] ys blank some others rises apart ends = absurd (omega arith)
first_done (x ∷ xs) [] blank some others rises apart ends = absurd (omega arith)
first_done (x ∷ xs) (y ∷ ys) blank some others rises apart ends =
    let mine = numbers_from x.first x.count in
    let all = blocks_in (y ∷ ys) in
    ap (λ (rest : List Extent). share_a_block (blocks_in rest) all) (behind_is x xs)
    ∙ sym (list_any-append (λ (n : ℕ). list_any (λ (m : ℕ). n == m) all) mine (blocks_in xs)
    ∙ or_none (share_a_block mine all) (share_a_block (blocks_in xs) all)
    (not_shared mine all (alone x y ys rises apart ends)))

pub second_done : (xs ys : List Extent) (blank : Extent) → 1 ≤ length xs → 1 ≤ length ys → IsRising xs
    → meets (slice_index_or xs 0 blank) (slice_index_or ys 0 blank) ≡ false
    → (slice_index_or ys 0 blank).first + (slice_index_or ys 0 blank).count
    < (slice_index_or xs 0 blank).first + (slice_index_or xs 0 blank).count
    → share_a_block (blocks_in xs) (blocks_in (behind_one ys)) ≡ share_a_block (blocks_in xs) (blocks_in ys)
second_done [] ys blank some others rises apart ends = absurd (omega arith)
second_done (x ∷ xs) [] blank some others rises apart ends = absurd (omega arith)
second_done (x ∷ xs) (y ∷ ys) blank some others rises apart ends =
    let other = numbers_from y.first y.count in
    let all = blocks_in (x ∷ xs) in
    let turned : meets y x ≡ false = grind (arith, nat_tests) in
    ap (λ (rest : List Extent). share_a_block all (blocks_in rest)) (behind_is y ys)
    ∙ sym (share-append all other (blocks_in ys)
    ∙ or_none (share_a_block all other) (share_a_block all (blocks_in ys))
    (not_shared all other (λ z mine here. alone y x xs rises turned (omega (arith, ends)) z here mine)))

-- ranges that each command reads or not, and writes or not

share_if : (t u : Bool) (xs ys : List Extent)
    → share_a_block (blocks_in (extents_if t xs)) (blocks_in (extents_if u ys))
    ≡ (t && (u && share_a_block (blocks_in xs) (blocks_in ys)))
share_if true true xs ys = refl
share_if true false xs ys = share-none (blocks_in xs)
share_if false u xs ys = refl

pub overlap_by : (xs ys : List Extent) (r w r' w' : Bool)
    → overlap (record { reads = extents_if r xs; writes = extents_if w xs })
    (record { reads = extents_if r' ys; writes = extents_if w' ys })
    ≡ (((w && (r' || w')) || (r && w')) && share_a_block (blocks_in xs) (blocks_in ys))
overlap_by xs ys r w r' w' =
    overlap_is (record { reads = extents_if r xs; writes = extents_if w xs })
    (record { reads = extents_if r' ys; writes = extents_if w' ys })
    ∙ rw (share_if w r' xs ys, share_if w w' xs ys, share_if r w' xs ys)
    (go r w r' w' (share_a_block (blocks_in xs) (blocks_in ys)))
  where
    go : (r w r' w' s : Bool) → (((w && (r' && s)) || (w && (w' && s))) || (r && (w' && s)))
        ≡ (((w && (r' || w')) || (r && w')) && s)
    go r w r' w' s = grind arith
