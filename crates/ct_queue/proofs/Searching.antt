-- A search among items, by their places.
use Rattle.std.proofs.Common.{◌≡◌, ℕ, ◌+◌, ◌||◌, List, ◌∷◌, Bool, true, false, Some, slice_get, drop, sym, ap, ◌∙◌}
use Rattle.std.specs.List.{list_any}
use Rattle.ct_shelf.proofs.Reading.{drop_item}

module _ {A : Type 0} (test : A → Bool) (items : List A) (at : ℕ) (item : A) (is : slice_get items at ≡ Some item) where
  pub any_here : test item ≡ true → list_any test (drop at items) ≡ list_any test items → true ≡ list_any test items
  any_here here walked = sym (ap (list_any test) (drop_item items at item is) ∙ ap (λ (b : Bool). b || list_any test (drop (at + 1) items)) here) ∙ walked

  pub any_later : test item ≡ false → list_any test (drop at items) ≡ list_any test items → list_any test (drop (at + 1) items) ≡ list_any test items
  any_later other walked = sym (ap (list_any test) (drop_item items at item is) ∙ ap (λ (b : Bool). b || list_any test (drop (at + 1) items)) other) ∙ walked
