-- A cut at the first place where a byte stands.
use Rattle.std.proofs.Common.{◌≡◌, ℕ, ◌+◌, ◌-◌, ◌<◌, ◌≤◌, Bool, true, false, cond, List, [], ◌∷◌, length, take, drop, Some, None, position, refl, sym, ap, ◌∙◌, arith, Option, Bor, ◌==◌, count_by}
use Rattle.std.proofs.lemmas.Bool.Decides.{nat_tests}
use Rattle.ct_script.specs.Cuts.{parts_of_rest}
use Rattle.std.specs.List.{slice_split, position_or_len}
use Rattle.std.proofs.lemmas.List.Splits.{slice_split_first, slice_split_none, length-slice_split}
use Rattle.std.specs.Prelude.{slice_index, nat_lt}
use Rattle.memchr.specs.Find.{IsFirstByte}
use Rattle.std.proofs.lemmas.List.Sums.{fails_before_first, position_or_len_is}
use Rattle.std.proofs.lemmas.List.Elements.{All-from_get_or}
use Rattle.std.proofs.lemmas.List.{take_rest}
use Rattle.std.proofs.lemmas.Bool.{ltb-true, ltb-false}

some_at : {A : Type 0} (b : Bool) (x y : A) → cond b (Some x) None ≡ Some y → (b ≡ true) × (x ≡ y)
some_at true x y h = (refl, cc)
some_at false x y h = absurd (cc)

none_at : {A : Type 0} (b : Bool) (x : A) → cond b (Some x) None ≡ None → b ≡ false
none_at true x h = absurd (cc)
none_at false x h = refl

pub split_at_place : (p : ℕ → Bool) (xs : List ℕ) (n : ℕ) → position p xs ≡ Some n → slice_split p xs ≡ take n xs ∷ slice_split p (take (length xs - (n + 1)) (drop (n + 1) xs))
split_at_place p xs n h =
    let found = some_at _ _ _ h in
    let within : position_or_len p xs < length xs = ltb-true _ _ found.0 in
    slice_split_first p xs 0 within
    ∙ ap (λ k. take k xs ∷ slice_split p (drop (k + 1) xs)) found.1
    ∙ ap (λ rest. take n xs ∷ slice_split p rest) (sym (take_rest xs (n + 1)))

pub split_nowhere : (p : ℕ → Bool) (xs : List ℕ) → position p xs ≡ None → slice_split p xs ≡ xs ∷ []
split_nowhere p xs h =
    let past : length xs ≤ position_or_len p xs = ltb-false _ _ (none_at _ (position_or_len p xs) h) in
    slice_split_none p xs (All-from_get_or (λ x. p x ≡ false) xs 0 (λ i (in_xs : i < length xs). fails_before_first p xs i 0 (omega arith)))

is_false : (t : Bool) → ¬ (t ≡ true) → t ≡ false
is_false true h = absurd (h refl)
is_false false h = refl

-- the first place where a byte stands, as a search tells it
pub found_first : (p : ℕ → Bool) (xs : List ℕ) (found : Option ℕ) → IsFirstByte p xs found → found ≡ position p xs
found_first p xs None nowhere =
    let past : position_or_len p xs ≡ length xs = position_or_len_is p xs (length xs) 0 (omega arith) (λ k low. is_false (p (slice_index xs k)) (nowhere k (omega arith) low)) (λ low. absurd (omega (arith, low))) in
    let none : nat_lt (position_or_len p xs) (length xs) ≡ false = grind (arith, nat_tests) in
    sym (ap (λ t. cond t (Some (position_or_len p xs)) None) none)
found_first p xs (Some place) first =
    let is : position_or_len p xs ≡ place = position_or_len_is p xs place 0 (let high = first.0.high in omega (arith, high)) (λ k low. is_false (p (slice_index xs k)) (first.0.before k (omega arith) low)) (λ low. first.1) in
    let within = first.0.high in
    let some : nat_lt (position_or_len p xs) (length xs) ≡ true = grind (arith, nat_tests) in
    ap Some (sym is) ∙ sym (ap (λ t. cond t (Some (position_or_len p xs)) None) some)

-- there is a part as long as something is left to be cut, even nothing
pub part_left : (at : ℕ) (rest : Option (Bor (List ℕ))) (text : Bor (List ℕ)) → rest ≡ Some text → false ≡ (length (parts_of_rest at rest) == 0)
part_left at None text is = absurd (cc)
part_left at (Some more) text is = rw length-slice_split (no_zero (count_by (λ b. b == at) more.now))
  where
    no_zero : (n : ℕ) → false ≡ (n + 1 == 0)
    no_zero n = grind (arith, nat_tests)
