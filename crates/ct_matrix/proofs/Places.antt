-- The place of a new item before the first that passes a test.
use Rattle.std.proofs.Common.{◌≡◌, ℕ, suc, ◌≤◌, List, [], ◌∷◌, Bool, true, false, not, inl, inr, length, map, insert, refl, sym, ap, ◌∙◌, arith}
use Rattle.std.specs.List.{position_or_len}
use Rattle.std.proofs.lemmas.Bool.{cases_Bool}
use Rattle.std.proofs.lemmas.List.Sums.{prefix_len-le-length}
use Rattle.ct_matrix.specs.Queues.{before_first}

pub first_within : {A : Type 0} (test : A → Bool) (items : List A) → position_or_len test items ≤ length items
first_within test items = prefix_len-le-length (λ item. not (test item)) items

-- put at that place
pub insert_first : {A : Type 0} (test : A → Bool) (new : A) (items : List A) → insert items (position_or_len test items) new ≡ before_first test new items
insert_first test new [] = refl
insert_first test new (item ∷ items) =
    elim (cases_Bool (test item)) [
      | inl here ↦
          let place : position_or_len test (item ∷ items) ≡ 0 = rw here refl in
          rw (place, here) refl
      | inr later ↦
          let place : position_or_len test (item ∷ items) ≡ suc (position_or_len test items) = rw later (omega arith) in
          rw (place, later) (ap (λ rest. item ∷ rest) (insert_first test new items))
    ]

-- a map keeps it where the test stays the same
pub map_first : {A B : Type 0} (f : A → B) (test : A → Bool) (test' : B → Bool) (new : A) (items : List A) → ((item : A) → test' (f item) ≡ test item) → map f (before_first test new items) ≡ before_first test' (f new) (map f items)
map_first f test test' new [] same = refl
map_first f test test' new (item ∷ items) same =
    elim (cases_Bool (test item)) [
      | inl here ↦ rw (same item, here) refl
      | inr later ↦ rw (same item, later) (ap (λ rest. f item ∷ rest) (map_first f test test' new items same))
    ]
