-- Plain lists: facts of each item, numbers that stand once, sums, and one item replaced, taken out or put in.
use Rattle.std.proofs.Common.{◌≡◌, ℕ, zero, suc, ◌+◌, ◌<◌, ◌≤◌, List, [], ◌∷◌, ◌++◌, true, false, not, ◌==◌, Some, length, map, slice_get, slice_set, insert, remove, sum_by, refl, sym, ap, ◌∙◌, subst, arith}
use Rattle.std.proofs.lemmas.Bool.Decides.{nat_tests}
use Rattle.std.proofs.lemmas.List.Sums.{sum_by-cons, prefix_len-le-length}
use Rattle.std.proofs.lemmas.Option.{slice_get-get_or}
use Rattle.ct_lun.specs.declared.slot.Slot.{Slot}
use Rattle.ct_lun.specs.Apart.{Each, Differs, IsApart}
use Rattle.ct_lun.specs.Desk.{blank, slot_at, place_of}

pub turned : (a b : ℕ) → (a == b) ≡ false → (b == a) ≡ false
turned a b h = grind (arith, nat_tests)

pub same_number : (a b : ℕ) → (a == b) ≡ true → a ≡ b
same_number a b h = grind (arith, nat_tests)

pub equal_number : (a : ℕ) → (a == a) ≡ true
equal_number a = grind (arith, nat_tests)

pub place_within : (number : ℕ) (slots : List Slot) → place_of number slots ≤ length slots
place_within number slots = prefix_len-le-length (λ (slot : Slot). not (slot.no == number)) slots

pub slot_read : (slots : List Slot) (at : ℕ) → at < length slots → slice_get slots at ≡ Some (slot_at slots at)
slot_read slots at within = slice_get-get_or slots at blank within

-- each of some items

pub each_at : {A : Type 0} (P : A → Type 0) (xs : List A) (at : ℕ) (x : A) → Each P xs → slice_get xs at ≡ Some x → P x
each_at P [] at x each read = cc
each_at P (y ∷ ys) zero x each read = let same : y ≡ x = cc in subst P same each.0
each_at P (y ∷ ys) (suc at) x each read = each_at P ys at x each.1 read

pub each_differ : {A : Type 0} (P Q : A → Type 0) (f g : A → ℕ) (k m : ℕ) (xs : List A) → Each P xs → Differs k (map f xs) → Differs m (map g xs)
    → ((y : A) → P y → (f y == k) ≡ false → (g y == m) ≡ false → Q y) → Each Q xs
each_differ P Q f g k m [] each apart others step = tt
each_differ P Q f g k m (x ∷ xs) each apart others step = (step x each.0 apart.0 others.0, each_differ P Q f g k m xs each.1 apart.1 others.1 step)

pub each_differs : {A : Type 0} (P Q : A → Type 0) (f : A → ℕ) (k : ℕ) (xs : List A) → Each P xs → Differs k (map f xs)
    → ((y : A) → P y → (f y == k) ≡ false → Q y) → Each Q xs
each_differs P Q f k [] each apart step = tt
each_differs P Q f k (x ∷ xs) each apart step = (step x each.0 apart.0, each_differs P Q f k xs each.1 apart.1 step)

pub each_step : {A : Type 0} (P Q : A → Type 0) (xs : List A) → Each P xs → ((y : A) → P y → Q y) → Each Q xs
each_step P Q [] each step = tt
each_step P Q (x ∷ xs) each step = (step x each.0, each_step P Q xs each.1 step)

pub differs_at : {A : Type 0} (f : A → ℕ) (k : ℕ) (xs : List A) (at : ℕ) (x : A) → Differs k (map f xs) → slice_get xs at ≡ Some x → (f x == k) ≡ false
differs_at f k [] at x apart read = cc
differs_at f k (y ∷ ys) zero x apart read = let same : y ≡ x = cc in subst (λ z. (f z == k) ≡ false) same apart.0
differs_at f k (y ∷ ys) (suc at) x apart read = differs_at f k ys at x apart.1 read

pub each_set : {A : Type 0} (P Q : A → Type 0) (f g : A → ℕ) (xs : List A) (at : ℕ) (x z : A) → Each P xs → IsApart (map f xs) → IsApart (map g xs) → slice_get xs at ≡ Some x
    → ((y : A) → P y → (f y == f x) ≡ false → (g y == g x) ≡ false → Q y) → Q z → Each Q (slice_set xs at z)
each_set P Q f g [] at x z each ff gg read step new = cc
each_set P Q f g (y ∷ ys) zero x z each ff gg read step new =
    let same : y ≡ x = cc in
    (new, each_differ P Q f g (f x) (g x) ys each.1 (subst (λ w. Differs (f w) (map f ys)) same ff.0) (subst (λ w. Differs (g w) (map g ys)) same gg.0) step)
each_set P Q f g (y ∷ ys) (suc at) x z each ff gg read step new =
    (step y each.0 (turned (f x) (f y) (differs_at f (f y) ys at x ff.0 read)) (turned (g x) (g y) (differs_at g (g y) ys at x gg.0 read)), each_set P Q f g ys at x z each.1 ff.1 gg.1 read step new)

pub each_remove : {A : Type 0} (P Q : A → Type 0) (f g : A → ℕ) (xs : List A) (at : ℕ) (x : A) → Each P xs → IsApart (map f xs) → IsApart (map g xs) → slice_get xs at ≡ Some x
    → ((y : A) → P y → (f y == f x) ≡ false → (g y == g x) ≡ false → Q y) → Each Q (remove xs at)
each_remove P Q f g [] at x each ff gg read step = cc
each_remove P Q f g (y ∷ ys) zero x each ff gg read step =
    let same : y ≡ x = cc in
    each_differ P Q f g (f x) (g x) ys each.1 (subst (λ w. Differs (f w) (map f ys)) same ff.0) (subst (λ w. Differs (g w) (map g ys)) same gg.0) step
each_remove P Q f g (y ∷ ys) (suc at) x each ff gg read step =
    (step y each.0 (turned (f x) (f y) (differs_at f (f y) ys at x ff.0 read)) (turned (g x) (g y) (differs_at g (g y) ys at x gg.0 read)), each_remove P Q f g ys at x each.1 ff.1 gg.1 read step)

pub each_push : {A : Type 0} (P : A → Type 0) (xs : List A) (z : A) → Each P xs → P z → Each P (xs ++ z ∷ [])
each_push P [] z each new = (new, tt)
each_push P (x ∷ xs) z each new = (each.0, each_push P xs z each.1 new)

pub each_insert : {A : Type 0} (P : A → Type 0) (xs : List A) (at : ℕ) (z : A) → Each P xs → P z → Each P (insert xs at z)
each_insert P [] zero z each new = (new, tt)
each_insert P [] (suc at) z each new = (new, tt)
each_insert P (x ∷ xs) zero z each new = (new, each)
each_insert P (x ∷ xs) (suc at) z each new = (each.0, each_insert P xs at z each.1 new)

-- numbers that stand once

pub map_set : {A B : Type 0} (f : A → B) (xs : List A) (at : ℕ) (z : A) → map f (slice_set xs at z) ≡ slice_set (map f xs) at (f z)
map_set f [] at z = refl
map_set f (x ∷ xs) zero z = refl
map_set f (x ∷ xs) (suc at) z = ap (λ rest. f x ∷ rest) (map_set f xs at z)

pub map_remove : {A B : Type 0} (f : A → B) (xs : List A) (at : ℕ) → map f (remove xs at) ≡ remove (map f xs) at
map_remove f [] zero = refl
map_remove f [] (suc at) = refl
map_remove f (x ∷ xs) zero = refl
map_remove f (x ∷ xs) (suc at) = ap (λ rest. f x ∷ rest) (map_remove f xs at)

pub map_same : {A B : Type 0} (f : A → B) (xs : List A) (at : ℕ) (x z : A) → slice_get xs at ≡ Some x → f z ≡ f x → map f (slice_set xs at z) ≡ map f xs
map_same f [] at x z read same = refl
map_same f (y ∷ ys) zero x z read same = let here : y ≡ x = cc in ap (λ k. k ∷ map f ys) (same ∙ ap f (sym here))
map_same f (y ∷ ys) (suc at) x z read same = ap (λ rest. f y ∷ rest) (map_same f ys at x z read same)

differs_remove : (k : ℕ) (ns : List ℕ) (at : ℕ) → Differs k ns → Differs k (remove ns at)
differs_remove k [] zero apart = tt
differs_remove k [] (suc at) apart = tt
differs_remove k (n ∷ ns) zero apart = apart.1
differs_remove k (n ∷ ns) (suc at) apart = (apart.0, differs_remove k ns at apart.1)

pub apart_remove : (ns : List ℕ) (at : ℕ) → IsApart ns → IsApart (remove ns at)
apart_remove [] zero apart = tt
apart_remove [] (suc at) apart = tt
apart_remove (n ∷ ns) zero apart = apart.1
apart_remove (n ∷ ns) (suc at) apart = (differs_remove n ns at apart.0, apart_remove ns at apart.1)

differs_push : (k : ℕ) (ns : List ℕ) (new : ℕ) → Differs k ns → (new == k) ≡ false → Differs k (ns ++ new ∷ [])
differs_push k [] new apart other = (other, tt)
differs_push k (n ∷ ns) new apart other = (apart.0, differs_push k ns new apart.1 other)

pub apart_push : (ns : List ℕ) (new : ℕ) → IsApart ns → Differs new ns → IsApart (ns ++ new ∷ [])
apart_push [] new apart fresh = (tt, tt)
apart_push (n ∷ ns) new apart fresh = (differs_push n ns new apart.0 (turned n new fresh.0), apart_push ns new apart.1 fresh.1)

differs_insert : (k : ℕ) (ns : List ℕ) (at new : ℕ) → Differs k ns → (new == k) ≡ false → Differs k (insert ns at new)
differs_insert k [] zero new apart other = (other, tt)
differs_insert k [] (suc at) new apart other = (other, tt)
differs_insert k (n ∷ ns) zero new apart other = (other, apart)
differs_insert k (n ∷ ns) (suc at) new apart other = (apart.0, differs_insert k ns at new apart.1 other)

pub apart_insert : (ns : List ℕ) (at new : ℕ) → IsApart ns → Differs new ns → IsApart (insert ns at new)
apart_insert [] zero new apart fresh = (tt, tt)
apart_insert [] (suc at) new apart fresh = (tt, tt)
apart_insert (n ∷ ns) zero new apart fresh = (fresh, apart)
apart_insert (n ∷ ns) (suc at) new apart fresh = (differs_insert n ns at new apart.0 (turned n new fresh.0), apart_insert ns at new apart.1 fresh.1)

pub map_push : {A B : Type 0} (f : A → B) (xs : List A) (z : A) → map f (xs ++ z ∷ []) ≡ map f xs ++ f z ∷ []
map_push f [] z = refl
map_push f (x ∷ xs) z = ap (λ rest. f x ∷ rest) (map_push f xs z)

pub map_insert : {A B : Type 0} (f : A → B) (xs : List A) (at : ℕ) (z : A) → map f (insert xs at z) ≡ insert (map f xs) at (f z)
map_insert f [] zero z = refl
map_insert f [] (suc at) z = refl
map_insert f (x ∷ xs) zero z = refl
map_insert f (x ∷ xs) (suc at) z = ap (λ rest. f x ∷ rest) (map_insert f xs at z)

-- sums

pub sum_set : {A : Type 0} (g : A → ℕ) (xs : List A) (at : ℕ) (x z : A) → slice_get xs at ≡ Some x → sum_by g (slice_set xs at z) + g x ≡ sum_by g xs + g z
sum_set g [] at x z read = cc
sum_set g (y ∷ ys) zero x z read =
    let same : y ≡ x = cc in
    rw same (omega (arith, sum_by-cons g z ys, sum_by-cons g x ys))
sum_set g (y ∷ ys) (suc at) x z read = omega (arith, sum_set g ys at x z read, sum_by-cons g y (slice_set ys at z), sum_by-cons g y ys)

pub sum_remove : {A : Type 0} (g : A → ℕ) (xs : List A) (at : ℕ) (x : A) → slice_get xs at ≡ Some x → sum_by g (remove xs at) + g x ≡ sum_by g xs
sum_remove g [] at x read = cc
sum_remove g (y ∷ ys) zero x read =
    let same : y ≡ x = cc in
    rw same (omega (arith, sum_by-cons g x ys))
sum_remove g (y ∷ ys) (suc at) x read = omega (arith, sum_remove g ys at x read, sum_by-cons g y (remove ys at), sum_by-cons g y ys)

pub sum_insert : {A : Type 0} (g : A → ℕ) (xs : List A) (at : ℕ) (z : A) → sum_by g (insert xs at z) ≡ sum_by g xs + g z
sum_insert g [] zero z = omega (arith, sum_by-cons g z [])
sum_insert g [] (suc at) z = omega (arith, sum_by-cons g z [])
sum_insert g (x ∷ xs) zero z = omega (arith, sum_by-cons g z (x ∷ xs))
sum_insert g (x ∷ xs) (suc at) z = omega (arith, sum_insert g xs at z, sum_by-cons g x (insert xs at z), sum_by-cons g x xs)

pub sum_push : {A : Type 0} (g : A → ℕ) (xs : List A) (z : A) → sum_by g (xs ++ z ∷ []) ≡ sum_by g xs + g z
sum_push g [] z = omega (arith, sum_by-cons g z [])
sum_push g (x ∷ xs) z = omega (arith, sum_push g xs z, sum_by-cons g x (xs ++ z ∷ []), sum_by-cons g x xs)

pub sum_map : {A B : Type 0} (g : B → ℕ) (f : A → B) (xs : List A) → sum_by g (map f xs) ≡ sum_by (λ x. g (f x)) xs
sum_map g f [] = refl
sum_map g f (x ∷ xs) = omega (arith, sum_map g f xs, sum_by-cons g (f x) (map f xs), sum_by-cons (λ y. g (f y)) x xs)

-- an item that was replaced and taken out
pub remove_set : {A : Type 0} (xs : List A) (at : ℕ) (z : A) → remove (slice_set xs at z) at ≡ remove xs at
remove_set [] zero z = refl
remove_set [] (suc at) z = refl
remove_set (x ∷ xs) zero z = refl
remove_set (x ∷ xs) (suc at) z = ap (λ rest. x ∷ rest) (remove_set xs at z)

pub get_set : {A : Type 0} (xs : List A) (at : ℕ) (x z : A) → slice_get xs at ≡ Some x → slice_get (slice_set xs at z) at ≡ Some z
get_set [] at x z read = cc
get_set (y ∷ ys) zero x z read = refl
get_set (y ∷ ys) (suc at) x z read = get_set ys at x z read

-- each of some items, without one and with one replaced

pub each_drop : {A : Type 0} (P : A → Type 0) (xs : List A) (at : ℕ) → Each P xs → Each P (remove xs at)
each_drop P [] zero each = tt
each_drop P [] (suc at) each = tt
each_drop P (x ∷ xs) zero each = each.1
each_drop P (x ∷ xs) (suc at) each = (each.0, each_drop P xs at each.1)

pub each_put : {A : Type 0} (P : A → Type 0) (xs : List A) (at : ℕ) (z : A) → Each P xs → P z → Each P (slice_set xs at z)
each_put P [] at z each new = tt
each_put P (x ∷ xs) zero z each new = (new, each.1)
each_put P (x ∷ xs) (suc at) z each new = (each.0, each_put P xs at z each.1 new)
