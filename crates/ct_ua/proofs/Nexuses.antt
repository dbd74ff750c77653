-- What is taken of one nexus and raised for another.
use Rattle.std.proofs.Common.{◌≡◌, ◌≢◌, ◌≤◌, ◌<◌, ◌+◌, ◌*◌, ◌⊎◌, inl, inr, replicate, nat_lt, ℕ, zero, suc, List, [], ◌∷◌, length, map, slice_set, slice_index_or, Bool, true, false, Option, None, Some, refl, sym, ap, ◌∙◌, arith, get_or-set_other, get_or-set_same}
use Rattle.std.proofs.lemmas.List.{set-get_or, set_comm, set_past, get_or-map, length-map, length-set}
use Rattle.std.proofs.lemmas.Bool.{cases_Bool, cases_eq}
use Rattle.std.proofs.lemmas.Bool.Decides.{nat_tests}
use Rattle.ct_word.specs.Nexuses.{IsNexus, place_of, is_same_nexus, no_nexuses, contains, only_nexus}
use Rattle.ct_word.specs.declared.names.Nexus.{Nexus}
use Rattle.ct_word.specs.declared.names.Code.{Code}
use Rattle.ct_ua.specs.declared.code_set.CodeSet.{CodeSet}
use Rattle.ct_ua.specs.CodeSets.{no_codes, has_code, with_code, without_code, first_of}
use Rattle.ct_ua.specs.Attentions.{codes_of, with_codes, first_code, without_first, after_take, after_raise, after_raise_for_all, after_raise_for_others, after_raise_for, after_clear}
use Rattle.ct_ua.proofs.Codes.{put-same, none_is, first_alone}

-- where a nexus has its place
below : (k : ℕ) → k < 16 → nat_lt k 16 ≡ true
below k inside = grind (arith, nat_tests)

place_is : (a : Nexus) → IsNexus a → place_of a ≡ a.port * 16 + a.init
place_is a in_a = rw (below a.port in_a.port, below a.init in_a.init) refl

-- different nexuses have different places
pub places_differ : (a b : Nexus) → IsNexus a → IsNexus b → is_same_nexus a b ≡ false → place_of a ≢ place_of b
places_differ a b in_a in_b differ same =
    let places : a.port * 16 + a.init ≡ b.port * 16 + b.init = sym (place_is a in_a) ∙ same ∙ place_is b in_b in
    let port : a.port ≡ b.port = omega (arith, in_a.init, in_b.init) in
    let init : a.init ≡ b.init = omega (arith, in_a.init, in_b.init) in
    let equal : is_same_nexus a b ≡ true = rw (port, init) (grind (arith, nat_tests)) in
    cc

-- other codes for one nexus leave those of the others
pub other_codes : (attentions : List CodeSet) (a b : Nexus) (codes : CodeSet) → place_of b ≢ place_of a → codes_of (with_codes attentions a codes) b ≡ codes_of attentions b
other_codes attentions a b codes differ = get_or-set_other attentions (place_of a) (place_of b) codes no_codes differ

-- the codes that a nexus has change nothing
pub own_codes : (attentions : List CodeSet) (a : Nexus) → with_codes attentions a (codes_of attentions a) ≡ attentions
own_codes attentions a = set-get_or attentions (place_of a) no_codes

-- a nexus without a condition has none to take
pub nothing_taken : (attentions : List CodeSet) (a : Nexus) → first_code attentions a ≡ None → after_take attentions a ≡ attentions
unfolding first_code after_take
nothing_taken attentions a none = rw none refl

-- taking for one nexus leaves what the others have
take_at : (attentions : List CodeSet) (a b : Nexus) (first : Option Code) → place_of b ≢ place_of a → codes_of (without_first attentions a first) b ≡ codes_of attentions b
take_at attentions a b None differ = refl
take_at attentions a b (Some first) differ = other_codes attentions a b _ differ

pub take_leaves : (attentions : List CodeSet) (a b : Nexus) → place_of b ≢ place_of a → codes_of (after_take attentions a) b ≡ codes_of attentions b
unfolding after_take
take_leaves attentions a b differ = take_at attentions a b (first_of (codes_of attentions a)) differ

-- so do the others' first codes
pub first_left : (attentions : List CodeSet) (a b : Nexus) → place_of b ≢ place_of a → first_code (after_take attentions a) b ≡ first_code attentions b
unfolding first_code
first_left attentions a b differ = ap first_of (take_leaves attentions a b differ)

-- the order of two takes for different nexuses doesn't matter
takes_at : (attentions : List CodeSet) (a b : Nexus) (first second : Option Code) → place_of a ≢ place_of b → without_first (without_first attentions a first) b second ≡ without_first (without_first attentions b second) a first
takes_at attentions a b None None differ = refl
takes_at attentions a b None (Some second) differ = refl
takes_at attentions a b (Some first) None differ = refl
takes_at attentions a b (Some first) (Some second) differ =
    let left : codes_of (without_first attentions a (Some first)) b ≡ codes_of attentions b = take_at attentions a b (Some first) (λ e. differ (sym e)) in
    let right : codes_of (without_first attentions b (Some second)) a ≡ codes_of attentions a = take_at attentions b a (Some second) differ in
    ap (λ codes. with_codes (without_first attentions a (Some first)) b (without_code codes second)) left
    ∙ set_comm attentions (place_of a) (place_of b) (without_code (codes_of attentions a) first) (without_code (codes_of attentions b) second) differ
    ∙ ap (λ codes. with_codes (without_first attentions b (Some second)) a (without_code codes first)) (sym right)

pub takes_commute : (attentions : List CodeSet) (a b : Nexus) → place_of a ≢ place_of b → after_take (after_take attentions a) b ≡ after_take (after_take attentions b) a
unfolding after_take
takes_commute attentions a b differ =
    let first = first_of (codes_of attentions a) in
    let second = first_of (codes_of attentions b) in
    ap (λ codes. without_first (without_first attentions a first) b (first_of codes)) (take_at attentions a b first (λ e. differ (sym e)))
    ∙ takes_at attentions a b first second differ
    ∙ ap (λ codes. without_first (without_first attentions b second) a (first_of codes)) (sym (take_at attentions b a second differ))

-- a code that stands is raised without a change
pub raised_again : (attentions : List CodeSet) (a : Nexus) (code : Code) → has_code (codes_of attentions a) code ≡ true → after_raise attentions a code ≡ attentions
unfolding after_raise
raised_again attentions a code is =
    ap (with_codes attentions a) (put-same (codes_of attentions a) code true is) ∙ own_codes attentions a

-- raising for one nexus leaves what the others have
pub raise_leaves : (attentions : List CodeSet) (a b : Nexus) (code : Code) → place_of b ≢ place_of a → codes_of (after_raise attentions a code) b ≡ codes_of attentions b
unfolding after_raise
raise_leaves attentions a b code differ = other_codes attentions a b _ differ

-- a nexus that there is has the code that was raised for it
pub raised_codes : (attentions : List CodeSet) (a : Nexus) (code : Code) → place_of a < length attentions → codes_of (after_raise attentions a code) a ≡ with_code (codes_of attentions a) code
unfolding after_raise
raised_codes attentions a code inside = get_or-set_same attentions (place_of a) _ no_codes inside

spared : (attentions : List CodeSet) (place : ℕ) (code : Code)
    → slice_index_or (slice_set (map (λ codes. with_code codes code) attentions) place (slice_index_or attentions place no_codes)) place no_codes
    ≡ slice_index_or attentions place no_codes
spared [] place code = refl
spared (codes ∷ attentions) zero code = refl
spared (codes ∷ attentions) (suc place) code = spared attentions place code

-- raising for the others leaves one's own
pub raise_spares : (attentions : List CodeSet) (a : Nexus) (code : Code) → codes_of (after_raise_for_others attentions a code) a ≡ codes_of attentions a
unfolding after_raise_for_all after_raise_for_others
raise_spares attentions a code = spared attentions (place_of a) code

-- each other nexus that there is has the code
pub raised_for_other : (attentions : List CodeSet) (a b : Nexus) (code : Code) → place_of b ≢ place_of a → place_of b < length attentions → codes_of (after_raise_for_others attentions a code) b ≡ with_code (codes_of attentions b) code
unfolding after_raise_for_all after_raise_for_others
raised_for_other attentions a b code differ inside =
    other_codes (map (λ codes. with_code codes code) attentions) a b (codes_of attentions a) differ
    ∙ get_or-map (λ codes. with_code codes code) attentions (place_of b) no_codes no_codes inside

-- a nexus that had none is told of what was raised
pub first_raised : (attentions : List CodeSet) (a : Nexus) (code : Code) → place_of a < length attentions → first_code attentions a ≡ None → first_code (after_raise attentions a code) a ≡ Some code
unfolding first_code
first_raised attentions a code inside none = rw (raised_codes attentions a code inside, none_is (codes_of attentions a) none) (first_alone code)

-- there are as many sets as before
length_without : (attentions : List CodeSet) (a : Nexus) (first : Option Code) → length (without_first attentions a first) ≡ length attentions
length_without attentions a None = refl
length_without attentions a (Some first) = length-set _ _ _

pub length-take : (attentions : List CodeSet) (a : Nexus) → length (after_take attentions a) ≡ length attentions
unfolding after_take
length-take attentions a = length_without attentions a (first_of (codes_of attentions a))

pub length-raise : (attentions : List CodeSet) (a : Nexus) (code : Code) → length (after_raise attentions a code) ≡ length attentions
unfolding after_raise
length-raise attentions a code = length-set _ _ _

pub length-raise_for_all : (attentions : List CodeSet) (code : Code) → length (after_raise_for_all attentions code) ≡ length attentions
unfolding after_raise_for_all
length-raise_for_all attentions code = length-map _ _

pub length-raise_for_others : (attentions : List CodeSet) (a : Nexus) (code : Code) → length (after_raise_for_others attentions a code) ≡ length attentions
unfolding after_raise_for_all after_raise_for_others
length-raise_for_others attentions a code = length-set _ _ _ ∙ length-map _ _

pub length-raise_for : (attentions : List CodeSet) (set : List Bool) (code : Code) → length (after_raise_for attentions set code) ≡ length attentions
unfolding after_raise_for
length-raise_for attentions [] code = refl
length-raise_for [] (is_in ∷ set) code = refl
length-raise_for (codes ∷ attentions) (is_in ∷ set) code = ap suc (length-raise_for attentions set code)

pub length-clear : (attentions : List CodeSet) (a : Nexus) → length (after_clear attentions a) ≡ length attentions
unfolding after_clear
length-clear attentions a = length-set _ _ _

-- raising for a set leaves what the others have
beside_at : (attentions : List CodeSet) (set : List Bool) (code : Code) (place : ℕ) → slice_index_or set place false ≡ false
    → slice_index_or (after_raise_for attentions set code) place no_codes ≡ slice_index_or attentions place no_codes
unfolding after_raise_for
beside_at attentions [] code place beside = refl
beside_at [] (told ∷ set) code place beside = refl
beside_at (codes ∷ attentions) (true ∷ set) code zero beside = absurd (cc)
beside_at (codes ∷ attentions) (false ∷ set) code zero beside = refl
beside_at (codes ∷ attentions) (told ∷ set) code (suc place) beside = beside_at attentions set code place beside

pub raised_beside : (attentions : List CodeSet) (set : List Bool) (a : Nexus) (code : Code) → contains set a ≡ false
    → codes_of (after_raise_for attentions set code) a ≡ codes_of attentions a
raised_beside attentions set a code beside = beside_at attentions set code (place_of a) beside

pub first_beside : (attentions : List CodeSet) (set : List Bool) (a : Nexus) (code : Code) → contains set a ≡ false
    → first_code (after_raise_for attentions set code) a ≡ first_code attentions a
unfolding first_code
first_beside attentions set a code beside = ap first_of (raised_beside attentions set a code beside)

-- the set of one nexus has no other
inside_of : (a : Nexus) → nat_lt (place_of a) 256 ≡ true → IsNexus a
inside_of a inside = go (nat_lt a.port 16) (nat_lt a.init 16) refl refl
  where
    go : (p i : Bool) → nat_lt a.port 16 ≡ p → nat_lt a.init 16 ≡ i → IsNexus a
    go true true port init = record { port = grind (arith, nat_tests); init = grind (arith, nat_tests) }
    go true false port init = let outside : nat_lt (place_of a) 256 ≡ false = rw (port, init) refl in cc
    go false i port init = let outside : nat_lt (place_of a) 256 ≡ false = rw port refl in cc

none_at : (count place : ℕ) → slice_index_or (replicate count false) place false ≡ false
none_at zero place = refl
none_at (suc count) zero = refl
none_at (suc count) (suc place) = none_at count place

pub none_contained : (a : Nexus) → contains no_nexuses a ≡ false
unfolding no_nexuses
none_contained a = none_at 256 (place_of a)

pub other_not_in : (a b : Nexus) → is_same_nexus a b ≡ false → contains (only_nexus a) b ≡ false
unfolding no_nexuses
other_not_in a b differ =
    elim (cases_Bool (nat_lt (place_of a) 256)) [
      | inl inside ↦ go inside (cases_eq (place_of b) (place_of a))
      | inr outside ↦
          ap (λ (set : List Bool). slice_index_or set (place_of b) false) (set_past (replicate 256 false) (place_of a) true (past outside))
          ∙ none_at 256 (place_of b)
    ]
  where
    past : nat_lt (place_of a) 256 ≡ false → length (replicate 256 false) ≤ place_of a
    past outside = let no : 256 ≤ place_of a = grind (arith, nat_tests) in no

    go : nat_lt (place_of a) 256 ≡ true → (place_of b ≡ place_of a) ⊎ (place_of b ≢ place_of a) → contains (only_nexus a) b ≡ false
    go inside (inl same) =
        absurd (places_differ a b (inside_of a inside) (inside_of b (ap (λ k. nat_lt k 256) same ∙ inside)) differ (sym same))
    go inside (inr apart) = get_or-set_other (replicate 256 false) (place_of a) (place_of b) true false apart ∙ none_at 256 (place_of b)
