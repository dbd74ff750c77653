-- Nexuses that are the same, and registrants that are found by them.
use Rattle.std.proofs.Common.{◌≡◌, ◌==◌, ℕ, List, [], ◌∷◌, length, Bool, true, false, not, refl, sym, ap, ◌∙◌, arith}
use Rattle.std.specs.List.{list_any, filter}
use Rattle.std.proofs.lemmas.Bool.Decides.{nat_tests}
use Rattle.std.proofs.lemmas.Map.Views.{any-filter_same}
use Rattle.ct_word.specs.Nexuses.{is_same_nexus}
use Rattle.ct_word.specs.declared.names.Nexus.{Nexus}
use Rattle.ct_resv.specs.declared.registrants.Registrant.{Registrant}
use Rattle.ct_resv.specs.Registering.{is_own, is_registered, has_key}

-- a nexus is the same as another exactly where it is equal to it
pub same_is : (a b : Nexus) → is_same_nexus a b ≡ true → (a.port ≡ b.port) × (a.init ≡ b.init)
same_is a b e = (grind (arith, nat_tests, e), grind (arith, nat_tests, e))

pub equal_is_same : (a b : Nexus) → a.port ≡ b.port → a.init ≡ b.init → is_same_nexus a b ≡ true
equal_is_same a b port init = rw (port, init) (grind (arith, nat_tests))

abbrev made : ℕ → ℕ → Nexus
made port init = record { port = port; init = init }

pub same_is_equal : (a b : Nexus) → is_same_nexus a b ≡ true → a ≡ b
same_is_equal a b e =
    ap (λ port. made port a.init) (same_is a b e).0 ∙ ap (made b.port) (same_is a b e).1

pub same_itself : (a : Nexus) → is_same_nexus a a ≡ true
same_itself a = equal_is_same a a refl refl

swapped_by : (a b : Nexus) (v : Bool) → is_same_nexus b a ≡ v → is_same_nexus a b ≡ false → v ≡ false
swapped_by a b true e differ =
    let same : is_same_nexus a b ≡ true = equal_is_same a b (sym (same_is b a e).0) (sym (same_is b a e).1) in cc
swapped_by a b false e differ = refl

pub differ_swapped : (a b : Nexus) → is_same_nexus a b ≡ false → is_same_nexus b a ≡ false
differ_swapped a b differ = swapped_by a b (is_same_nexus b a) refl differ

-- what no item of a list passes, none of those that are kept does
none_kept_by : (test keep : Registrant → Bool) (x : Registrant) (xs : List Registrant) (u v : Bool) → test x ≡ u → keep x ≡ v
    → list_any test (x ∷ xs) ≡ false → (list_any test xs ≡ false → list_any test (filter keep xs) ≡ false)
    → list_any test (filter keep (x ∷ xs)) ≡ false
none_kept_by test keep x xs true v passes kept none rest = let one : list_any test (x ∷ xs) ≡ true = rw passes refl in cc
none_kept_by test keep x xs false true passes kept none rest = rw (kept, passes) (rest (rw passes at none))
none_kept_by test keep x xs false false passes kept none rest = rw kept (rest (rw passes at none))

pub none_kept : (test keep : Registrant → Bool) (xs : List Registrant) → list_any test xs ≡ false → list_any test (filter keep xs) ≡ false
none_kept test keep [] none = refl
none_kept test keep (x ∷ xs) none = none_kept_by test keep x xs (test x) (keep x) refl refl none (none_kept test keep xs)

-- a nexus whose registrations are all kept stays registered
pub stays_registered : (nexus : Nexus) (keep : Registrant → Bool) (xs : List Registrant) → ((r : Registrant) → is_own nexus r ≡ true → keep r ≡ true)
    → is_registered nexus (filter keep xs) ≡ is_registered nexus xs
stays_registered nexus keep xs all = any-filter_same (is_own nexus) keep true all xs

-- a nexus that has a key is registered
has_key_by : (nexus : Nexus) (key : ℕ) (x : Registrant) (xs : List Registrant) (v : Bool) → is_own nexus x ≡ v
    → has_key nexus key (x ∷ xs) ≡ true → (has_key nexus key xs ≡ true → is_registered nexus xs ≡ true)
    → is_registered nexus (x ∷ xs) ≡ true
has_key_by nexus key x xs true own has rest = rw own refl
has_key_by nexus key x xs false own has rest = rw own (rest (rw own at has))

pub has_key_registered : (nexus : Nexus) (key : ℕ) (xs : List Registrant) → has_key nexus key xs ≡ true → is_registered nexus xs ≡ true
has_key_registered nexus key [] has = cc
has_key_registered nexus key (x ∷ xs) has = has_key_by nexus key x xs (is_own nexus x) refl has (has_key_registered nexus key xs)

-- where somebody is registered, there is a registrant
pub some_registrant : (nexus : Nexus) (xs : List Registrant) → is_registered nexus xs ≡ true → not (length xs == 0) ≡ true
some_registrant nexus [] is = cc
some_registrant nexus (x ∷ xs) is = grind (arith, nat_tests)
