-- Places in lists, from 0, and numbers, from 1.
use Rattle.std.proofs.Common.{◌≡◌, ◌⊎◌, inl, inr, ℕ, zero, suc, ◌-◌, ◌<◌, ◌≤◌, List, [], ◌∷◌, ◌++◌, length, slice_get, slice_set, Some, refl, ap, arith, sub-one}
use Rattle.std.proofs.lemmas.Option.{same_Some, slice_get_within}
use Rattle.ct_book.specs.Journals.{numbered}

-- what stands at a place after one more item
pub get-push : {X : Type 0} (xs : List X) (y : X) (i : ℕ) (x : X) → slice_get (xs ++ y ∷ []) i ≡ Some x → (slice_get xs i ≡ Some x) ⊎ ((i ≡ length xs) × (y ≡ x))
get-push [] y zero x h = inr (refl, same_Some _ _ h)
get-push [] y (suc i) x h = absurd cc
get-push (z ∷ zs) y zero x h = inl h
get-push (z ∷ zs) y (suc i) x h = elim (get-push zs y i x h) [ inl a ↦ inl a | inr w ↦ inr (omega arith, w.1) ]

-- what stands at a place after a write
pub get-write : {X : Type 0} (xs : List X) (k : ℕ) (y : X) (i : ℕ) (x : X) → slice_get (slice_set xs k y) i ≡ Some x → (slice_get xs i ≡ Some x) ⊎ ((i ≡ k) × (y ≡ x))
get-write [] k y i x h = absurd cc
get-write (z ∷ zs) zero y zero x h = inr (refl, same_Some _ _ h)
get-write (z ∷ zs) zero y (suc i) x h = inl h
get-write (z ∷ zs) (suc k) y zero x h = inl h
get-write (z ∷ zs) (suc k) y (suc i) x h = elim (get-write zs k y i x h) [ inl a ↦ inl a | inr w ↦ inr (omega arith, w.1) ]

pub get-left : {X : Type 0} (xs ys : List X) (i : ℕ) → i < length xs → slice_get (xs ++ ys) i ≡ slice_get xs i
get-left [] ys i h = absurd (omega arith)
get-left (x ∷ xs) ys zero h = refl
get-left (x ∷ xs) ys (suc i) h = get-left xs ys i (omega arith)

pub get-last : {X : Type 0} (xs : List X) (y : X) → slice_get (xs ++ y ∷ []) (length xs) ≡ Some y
get-last [] y = refl
get-last (x ∷ xs) y = get-last xs y

pub get-apart : {X : Type 0} (xs : List X) (k : ℕ) (y : X) (i : ℕ) → (i ≡ k → ⊥) → slice_get (slice_set xs k y) i ≡ slice_get xs i
get-apart [] k y i h = refl
get-apart (x ∷ xs) zero y zero h = absurd (h refl)
get-apart (x ∷ xs) zero y (suc i) h = refl
get-apart (x ∷ xs) (suc k) y zero h = refl
get-apart (x ∷ xs) (suc k) y (suc i) h = get-apart xs k y i (λ e. h (ap suc e))

pub numbered-left : {X : Type 0} (number : ℕ) (xs ys : List X) → number ≤ length xs → numbered number (xs ++ ys) ≡ numbered number xs
numbered-left zero xs ys h = refl
numbered-left (suc before) xs ys h = get-left xs ys before (omega arith)

pub numbered-within : {X : Type 0} (number : ℕ) (xs : List X) (x : X) → numbered number xs ≡ Some x → number ≤ length xs
numbered-within zero xs x h = absurd cc
numbered-within (suc before) xs x h = omega (arith, slice_get_within xs before x h)

pub numbered-stays : {X : Type 0} (number : ℕ) (xs ys : List X) (x : X) → numbered number xs ≡ Some x → numbered number (xs ++ ys) ≡ Some x
numbered-stays number xs ys x h = rw (numbered-left number xs ys (numbered-within number xs x h)) h

pub numbered-last : {X : Type 0} (number : ℕ) (xs : List X) (y : X) → number ≡ suc (length xs) → numbered number (xs ++ y ∷ []) ≡ Some y
numbered-last number xs y e = rw e (get-last xs y)

pub numbered-apart : {X : Type 0} (number : ℕ) (xs : List X) (other : ℕ) (y : X) → 0 < other → (number ≡ other → ⊥) → numbered number (slice_set xs (other - 1) y) ≡ numbered number xs
numbered-apart zero xs other y given h = refl
numbered-apart (suc before) xs zero y given h = absurd (omega arith)
numbered-apart (suc before) xs (suc other) y given h = rw sub-one (get-apart xs other y before (λ e. h (ap suc e)))
