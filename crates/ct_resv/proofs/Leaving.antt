-- Loops over registrants that keep some of them, or collect their nexuses.
use Rattle.std.proofs.Common.{◌≡◌, ◌≤◌, ◌<◌, ◌+◌, ℕ, List, [], ◌∷◌, ◌++◌, length, map, take, drop, get_or, slice_set, Bool, true, false, cond, refl, sym, ap, ◌∙◌, append-nil, length-append, length-drop, arith}
use Rattle.std.specs.List.{filter}
use Rattle.std.proofs.lemmas.List.{get_or_default, take_all, length-map, length-take}
use Rattle.std.proofs.lemmas.List.Edits.{map_over_more}
use Rattle.std.proofs.lemmas.List.Elements.{filter_more}
use Rattle.std.proofs.lemmas.List.Sums.{length-filter, count_by-le-length, fold-append}
use Rattle.ct_word.specs.Nexuses.{no_nexuses, with_nexus}
use Rattle.ct_word.specs.declared.names.Nexus.{Nexus}
use Rattle.ct_resv.specs.declared.registrants.Named.{Named}
use Rattle.ct_resv.specs.declared.registrants.Registrant.{Registrant}
use Rattle.ct_resv.specs.Registering.{nexuses_of}
use Rattle.ct_resv.specs.Changes.{with_key, is_removed, is_left, removed_of, left_of}

pub kept_more : (p : Registrant → Bool) (xs : List Registrant) (i : ℕ) (d : Registrant) → i < length xs → p (get_or xs i d) ≡ true → filter p (take (i + 1) xs) ≡ filter p (take i xs) ++ get_or xs i d ∷ []
kept_more p xs i d within is =
    filter_more p xs i d within ∙ ap (λ b. filter p (take i xs) ++ cond b (get_or xs i d ∷ []) []) is

pub kept_same : (p : Registrant → Bool) (xs : List Registrant) (i : ℕ) (d : Registrant) → i < length xs → p (get_or xs i d) ≡ false → filter p (take (i + 1) xs) ≡ filter p (take i xs)
kept_same p xs i d within isnt =
    filter_more p xs i d within ∙ ap (λ b. filter p (take i xs) ++ cond b (get_or xs i d ∷ []) []) isnt ∙ append-nil _

pub few_kept : (p : Registrant → Bool) (xs : List Registrant) (i : ℕ) → length (filter p (take i xs)) ≤ i
few_kept p xs i = omega (arith, length-filter p (take i xs), count_by-le-length p (take i xs), length-take i xs)

pub set_more : (p : Registrant → Bool) (xs : List Registrant) (i : ℕ) (d : Registrant) → i < length xs → p (get_or xs i d) ≡ true → nexuses_of (filter p (take (i + 1) xs)) ≡ with_nexus (nexuses_of (filter p (take i xs))) (get_or xs i d).nexus
set_more p xs i d within is =
    ap nexuses_of (kept_more p xs i d within is)
    ∙ fold-append (λ set registrant. with_nexus set registrant.nexus) no_nexuses (filter p (take i xs)) (get_or xs i d ∷ [])

pub set_same : (p : Registrant → Bool) (xs : List Registrant) (i : ℕ) (d : Registrant) → i < length xs → p (get_or xs i d) ≡ false → nexuses_of (filter p (take (i + 1) xs)) ≡ nexuses_of (filter p (take i xs))
set_same p xs i d within isnt = ap nexuses_of (kept_same p xs i d within isnt)

-- so far some registrants are removed, and the rest are left
pub record AreParted (nexus : Nexus) (who : Named) (xs : List Registrant) (i : ℕ) (left : List Registrant) (set : List Bool) : Type 0 where
  pub left_is : left ≡ left_of nexus who (take i xs)
  pub set_is : set ≡ nexuses_of (removed_of nexus who (take i xs))

pub none_parted : (nexus : Nexus) (who : Named) (xs : List Registrant) → AreParted nexus who xs 0 [] no_nexuses
none_parted nexus who xs = record { left_is = refl; set_is = refl }

pub one_removed : (nexus : Nexus) (who : Named) (xs : List Registrant) (i : ℕ) (d : Registrant) (left : List Registrant) (set : List Bool) → i < length xs
    → AreParted nexus who xs i left set → is_removed nexus who (get_or xs i d) ≡ true
    → AreParted nexus who xs (i + 1) left (with_nexus set (get_or xs i d).nexus)
one_removed nexus who xs i d left set within parted is = record {
  left_is = parted.left_is ∙ sym (kept_same (is_left nexus who) xs i d within (rw is refl));
  set_is = ap (λ (s : List Bool). with_nexus s (get_or xs i d).nexus) parted.set_is ∙ sym (set_more (is_removed nexus who) xs i d within is);
}

pub one_left : (nexus : Nexus) (who : Named) (xs : List Registrant) (i : ℕ) (d : Registrant) (left : List Registrant) (set : List Bool) → i < length xs
    → AreParted nexus who xs i left set → is_removed nexus who (get_or xs i d) ≡ false
    → AreParted nexus who xs (i + 1) (left ++ get_or xs i d ∷ []) set
one_left nexus who xs i d left set within parted isnt = record {
  left_is = ap (λ (l : List Registrant). l ++ get_or xs i d ∷ []) parted.left_is ∙ sym (kept_more (is_left nexus who) xs i d within (rw isnt refl));
  set_is = parted.set_is ∙ sym (set_same (is_removed nexus who) xs i d within isnt);
}

pub few_left : (nexus : Nexus) (who : Named) (xs : List Registrant) (i : ℕ) (left : List Registrant) (set : List Bool) → AreParted nexus who xs i left set → length left ≤ i
few_left nexus who xs i left set parted = rw parted.left_is (few_kept (is_left nexus who) xs i)

pub ruleset leaving = (kept_more, kept_same, few_kept, set_more, set_same)

pub all_left : (nexus : Nexus) (who : Named) (xs : List Registrant) (i : ℕ) (left : List Registrant) (set : List Bool) → AreParted nexus who xs i left set → length xs ≤ i → left ≡ left_of nexus who xs
all_left nexus who xs i left set parted past = parted.left_is ∙ ap (left_of nexus who) (take_all i xs past)

pub all_removed : (nexus : Nexus) (who : Named) (xs : List Registrant) (i : ℕ) (left : List Registrant) (set : List Bool) → AreParted nexus who xs i left set → length xs ≤ i → set ≡ nexuses_of (removed_of nexus who xs)
all_removed nexus who xs i left set parted past = parted.set_is ∙ ap (λ (l : List Registrant). nexuses_of (removed_of nexus who l)) (take_all i xs past)

-- the keys up to a place are changed
pub key_set : (nexus : Nexus) (key : ℕ) (before now : List Registrant) (place : ℕ) (d : Registrant) → place < length before
    → now ≡ map (with_key nexus key) (take place before) ++ drop place before
    → slice_set now place (with_key nexus key (get_or now place d))
    ≡ map (with_key nexus key) (take (place + 1) before) ++ drop (place + 1) before
key_set nexus key before now place d within so_far =
    let whole : length now ≡ length before =
    omega (
      arith,
      simp (length-append, length-map, length-take, length-drop) at (ap length so_far),
    ) in
    let inside : place < length now = omega arith in
    map_over_more (with_key nexus key) before now place (get_or now place d) within so_far
    (get_or_default now place d (get_or now place d) inside)
