-- Items of lists by their places, and the gets among operations.
use Rattle.std.proofs.Common.{◌≡◌, ℕ, zero, suc, ◌+◌, ◌<◌, List, [], ◌∷◌, ◌++◌, length, take, drop, slice_get, Some, refl, ap, ◌∙◌, arith}
use Rattle.ct_plan.specs.declared.operation.BlockOp.{BlockOp}
use Rattle.ct_plan.specs.declared.operation.BlockOp.TheVariants as operations
use Rattle.ct_plan.specs.Plans.{gets_among}

pub slice_get-drop : {X : Type 0} (count : ℕ) (xs : List X) (place : ℕ) → slice_get (drop count xs) place ≡ slice_get xs (count + place)
slice_get-drop zero xs place = ap (slice_get xs) (omega arith)
slice_get-drop (suc count) [] place = refl
slice_get-drop (suc count) (x ∷ xs) place =
    let same : suc (count + place) ≡ suc count + place = omega arith in
    slice_get-drop count xs place ∙ ap (slice_get (x ∷ xs)) same

pub slice_get-take : {X : Type 0} (count : ℕ) (xs : List X) (place : ℕ) → place < count → slice_get (take count xs) place ≡ slice_get xs place
slice_get-take zero xs place below = absurd (omega arith)
slice_get-take (suc count) [] place below = refl
slice_get-take (suc count) (x ∷ xs) zero below = refl
slice_get-take (suc count) (x ∷ xs) (suc place) below = slice_get-take count xs place (omega arith)

pub slice_get-within : {X : Type 0} (xs : List X) (place : ℕ) (x : X) → slice_get xs place ≡ Some x → place < length xs
slice_get-within [] place x found = absurd (cc)
slice_get-within (y ∷ ys) zero x found = omega arith
slice_get-within (y ∷ ys) (suc place) x found = omega (arith, slice_get-within ys place x found)

-- the first items and one more
pub take-one_more : {X : Type 0} (count : ℕ) (xs : List X) (x : X) → slice_get xs count ≡ Some x → take (suc count) xs ≡ take count xs ++ x ∷ []
take-one_more count [] x found = absurd (cc)
take-one_more zero (y ∷ ys) x found = let same : y ≡ x = cc in ap (λ z. z ∷ []) same
take-one_more (suc count) (y ∷ ys) x found = ap (λ zs. y ∷ zs) (take-one_more count ys x found)

-- an item and those behind it
pub drop-at : {X : Type 0} (count : ℕ) (xs : List X) (x : X) → slice_get xs count ≡ Some x → drop count xs ≡ x ∷ drop (suc count) xs
drop-at count [] x found = absurd (cc)
drop-at zero (y ∷ ys) x found = let same : y ≡ x = cc in ap (λ z. z ∷ ys) same
drop-at (suc count) (y ∷ ys) x found = drop-at count ys x found

pub gets_among-cons : (operation : BlockOp) (others : List BlockOp) → gets_among (operation ∷ others) ≡ gets_among (operation ∷ []) + gets_among others
gets_among-cons (operations.Get lba) others = omega arith
gets_among-cons (operations.Look lba) others = omega arith
gets_among-cons (operations.Put lba place) others = omega arith
gets_among-cons (operations.Zero lba) others = omega arith
gets_among-cons (operations.Compare lba place) others = omega arith

pub gets_among-append : (xs ys : List BlockOp) → gets_among (xs ++ ys) ≡ gets_among xs + gets_among ys
gets_among-append [] ys = omega arith
gets_among-append (x ∷ xs) ys =
    omega (arith, gets_among-append xs ys, gets_among-cons x (xs ++ ys), gets_among-cons x xs)
