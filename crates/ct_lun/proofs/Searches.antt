-- A search among items, by their places.
use Rattle.std.proofs.Common.{◌≡◌, ℕ, ◌+◌, ◌==◌, ◌≢◌, ◌&&◌, ◌||◌, List, ◌∷◌, Bool, true, false, Some, slice_get, drop, refl, sym, ap, ◌∙◌, arith}
use Rattle.std.specs.List.{list_any, position_or_len}
use Rattle.std.proofs.lemmas.Bool.{false≢true}
use Rattle.std.proofs.lemmas.Bool.Decides.{nat_tests}
use Rattle.ct_shelf.proofs.Reading.{drop_item}

module _ {A : Type 0} (test : A → Bool) (items : List A) (at : ℕ) (item : A) (is : slice_get items at ≡ Some item) where
  first : test item ≡ true → position_or_len test (item ∷ drop (at + 1) items) ≡ 0
  first here = rw here refl

  later : test item ≡ false → position_or_len test (item ∷ drop (at + 1) items) ≡ 1 + position_or_len test (drop (at + 1) items)
  later other = rw other refl

  pub found_here : test item ≡ true → at + position_or_len test (drop at items) ≡ position_or_len test items → at ≡ position_or_len test items
  found_here here walked = omega (arith, ap (position_or_len test) (drop_item items at item is), first here, walked)

  pub found_later : test item ≡ false → at + position_or_len test (drop at items) ≡ position_or_len test items → at + 1 + position_or_len test (drop (at + 1) items) ≡ position_or_len test items
  found_later other walked = omega (arith, ap (position_or_len test) (drop_item items at item is), later other, walked)

  pub any_here : test item ≡ true → list_any test (drop at items) ≡ list_any test items → true ≡ list_any test items
  any_here here walked = sym (ap (list_any test) (drop_item items at item is) ∙ ap (λ (b : Bool). b || list_any test (drop (at + 1) items)) here) ∙ walked

  pub any_later : test item ≡ false → list_any test (drop at items) ≡ list_any test items → list_any test (drop (at + 1) items) ≡ list_any test items
  any_later other walked = sym (ap (list_any test) (drop_item items at item is) ∙ ap (λ (b : Bool). b || list_any test (drop (at + 1) items)) other) ∙ walked

-- a test of two parts, the second of two numbers
pub both_same : (first : Bool) (a b : ℕ) → first ≡ true → a ≡ b → (first && (a == b)) ≡ true
both_same true a b is same = grind (arith, nat_tests)
both_same false a b is same = absurd (false≢true is)

pub other_number : (first : Bool) (a b : ℕ) → a ≢ b → (first && (a == b)) ≡ false
other_number true a b differ = grind (arith, nat_tests)
other_number false a b differ = refl

pub other_first : (first second : Bool) → first ≡ false → (first && second) ≡ false
other_first true second other = absurd (false≢true (sym other))
other_first false second other = refl
