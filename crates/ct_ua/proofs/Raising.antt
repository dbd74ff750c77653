-- A loop that raises a code for one nexus after another.
use Rattle.std.proofs.Common.{zero, suc, [], ◌∷◌, Bool, true, false, slice_index_or, refl, add-one, ◌≡◌, ◌<◌, ◌≤◌, ◌+◌, ℕ, List, ◌++◌, length, map, take, drop, get_or, slice_set, ap, arith, length-append, length-drop}
use Rattle.std.proofs.lemmas.List.{get_or_default, length-map, length-take}
use Rattle.std.proofs.lemmas.List.Edits.{map_over_more}
use Rattle.ct_word.specs.declared.names.Code.{Code}
use Rattle.ct_ua.specs.declared.code_set.CodeSet.{CodeSet}
use Rattle.ct_ua.specs.CodeSets.{with_code}
use Rattle.ct_ua.specs.Attentions.{raised_if, after_raise_for}

pub raised_more : (code : Code) (before now : List CodeSet) (place : ℕ) (default : CodeSet) → place < length before
    → now ≡ map (λ codes. with_code codes code) (take place before) ++ drop place before
    → slice_set now place (with_code (get_or now place default) code)
    ≡ map (λ codes. with_code codes code) (take (place + 1) before) ++ drop (place + 1) before
raised_more code before now place default within so_far =
    let whole : length now ≡ length before =
    omega (
      arith,
      simp (length-append, length-map, length-take, length-drop) at (ap length so_far),
    ) in
    let inside : place < length now = omega arith in
    map_over_more (λ codes. with_code codes code) before now place (get_or now place default) within so_far
    (get_or_default now place default (get_or now place default) inside)

-- the same for the nexuses of a set

one_more : (code : Code) (before : List CodeSet) (set : List Bool) (place : ℕ) (default : CodeSet) → place < length before
    → slice_index_or set place false ≡ true
    → slice_set (after_raise_for before (take place set) code) place (with_code (get_or (after_raise_for before (take place set) code) place default) code)
    ≡ after_raise_for before (take (suc place) set) code
unfolding after_raise_for
one_more code before [] place default within is_in = absurd (cc)
one_more code [] (told ∷ set) place default within is_in = absurd (omega arith)
one_more code (codes ∷ before) (true ∷ set) zero default within is_in = refl
one_more code (codes ∷ before) (false ∷ set) zero default within is_in = absurd (cc)
one_more code (codes ∷ before) (told ∷ set) (suc place) default within is_in =
    ap (λ (rest : List CodeSet). raised_if told codes code ∷ rest) (one_more code before set place default (omega arith) is_in)

none_more : (code : Code) (before : List CodeSet) (set : List Bool) (place : ℕ) → slice_index_or set place false ≡ false
    → after_raise_for before (take place set) code ≡ after_raise_for before (take (suc place) set) code
unfolding after_raise_for
none_more code before [] zero not_in = refl
none_more code before [] (suc place) not_in = refl
none_more code [] (told ∷ set) zero not_in = refl
none_more code [] (told ∷ set) (suc place) not_in = refl
none_more code (codes ∷ before) (true ∷ set) zero not_in = absurd (cc)
none_more code (codes ∷ before) (false ∷ set) zero not_in = refl
none_more code (codes ∷ before) (told ∷ set) (suc place) not_in =
    ap (λ (rest : List CodeSet). raised_if told codes code ∷ rest) (none_more code before set place not_in)

pub raised_for_more : (code : Code) (before now : List CodeSet) (set : List Bool) (place : ℕ) (default : CodeSet)
    → place < length before → now ≡ after_raise_for before (take place set) code → slice_index_or set place false ≡ true
    → slice_set now place (with_code (get_or now place default) code) ≡ after_raise_for before (take (place + 1) set) code
raised_for_more code before now set place default within so_far is_in =
    rw (so_far, add-one) (one_more code before set place default within is_in)

pub raised_for_no_more : (code : Code) (before now : List CodeSet) (set : List Bool) (place : ℕ)
    → now ≡ after_raise_for before (take place set) code → slice_index_or set place false ≡ false
    → now ≡ after_raise_for before (take (place + 1) set) code
raised_for_no_more code before now set place so_far not_in = rw (so_far, add-one) (none_more code before set place not_in)

-- places past the list's end don't count
pub raised_for_whole : (code : Code) (before : List CodeSet) (set : List Bool) (place : ℕ) → length before ≤ place
    → after_raise_for before (take place set) code ≡ after_raise_for before set code
unfolding after_raise_for
raised_for_whole code before [] zero past = refl
raised_for_whole code before [] (suc place) past = refl
raised_for_whole code [] (told ∷ set) zero past = refl
raised_for_whole code [] (told ∷ set) (suc place) past = refl
raised_for_whole code (codes ∷ before) (told ∷ set) zero past = absurd (omega arith)
raised_for_whole code (codes ∷ before) (told ∷ set) (suc place) past =
    ap (λ (rest : List CodeSet). raised_if told codes code ∷ rest) (raised_for_whole code before set place (omega arith))
