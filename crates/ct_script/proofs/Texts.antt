-- Reading byte texts, piece by piece.
use Rattle.std.proofs.Common.{◌≡◌, ℕ, zero, suc, ◌+◌, ◌-◌, ◌*◌, ◌^◌, ◌<◌, ◌≤◌, min, Bool, true, false, cond, Bor, List}
use Rattle.std.proofs.Common.{[], ◌∷◌, ◌++◌, length, take, replicate, Option, Some, None, Result, Ok, Err, refl, sym}
use Rattle.std.proofs.Common.{ap, ◌∙◌, arith}
use Rattle.std.specs.Prelude.{option_map, nat_le, ◌==◌, if◌then◌else◌}
use Rattle.std.proofs.lemmas.List.{append_assoc, take_all, length-take, length-take-le}
use Rattle.std.proofs.lemmas.Bool.Decides.{nat_tests}
use Rattle.std.specs.Result.{result_ok}
use Rattle.hex.specs.declared.error.FromHexError.{FromHexError}
use Rattle.hex.specs.Hex.{decode_of}
use Rattle.hex.proofs.HexLemmas.{decode_of-ok}
use Rattle.std.specs.List.{slice_split, onto_first}
use Rattle.ct_script.specs.Cuts.{parts_of_rest}
use Rattle.ct_script.specs.ByteText.{pairs_of, repeated, is_dot, is_star, bytes_of_parts, piece_of, bytes_of_pieces}
use Rattle.ct_script.specs.ByteText.{bytes_of_text, joined, at_most}
use Rattle.ct_script.specs.Reading.{bytes_of_rest}

-- pairs of digits are twice as long as their bytes, and there is one at least
pub pairs_of-some : (text bytes : List ℕ) → pairs_of text ≡ Some bytes
    → (length text ≡ 2 * length bytes) × (0 < length bytes)
pairs_of-some [] bytes h = absurd (cc)
pairs_of-some (c ∷ cs) bytes h = by_decoded (decode_of (c ∷ cs)) refl h
  where
    by_decoded : (r : Result (List ℕ) FromHexError) → decode_of (c ∷ cs) ≡ r → result_ok r ≡ Some bytes
        → (length (c ∷ cs) ≡ 2 * length bytes) × (0 < length bytes)
    by_decoded (Ok found) e h =
        let same : found ≡ bytes = cc in
        let sized = (decode_of-ok (c ∷ cs) found e).2 in
        let long : length (c ∷ cs) ≡ 2 * length bytes = sized ∙ ap (λ b. 2 * length b) same in
        (long, omega arith)
    by_decoded (Err f) e h = absurd (cc)

-- Up to so many bytes

take_append : (most : ℕ) (xs ys : List ℕ) → take most (take most xs ++ ys) ≡ take most (xs ++ ys)
take_append zero xs ys = refl
take_append (suc most) [] ys = refl
take_append (suc most) (x ∷ xs) ys = ap (λ l. x ∷ l) (take_append most xs ys)

-- what a piece adds is what it adds of the whole
pub adds_to : (most : ℕ) (old new : List ℕ) (found others : Option (List ℕ))
    → option_map (take most) (joined (Some old) found) ≡ Some new →
    option_map (take most) (joined (Some new) others) ≡ option_map (take most) (joined (Some old) (joined found others))
adds_to most old new None others h = absurd (cc)
adds_to most old new (Some bytes) None h = refl
adds_to most old new (Some bytes) (Some more) h =
    let is : take most (old ++ bytes) ≡ new = cc in
    ap Some (ap (λ l. take most (l ++ more)) (sym is) ∙ take_append most (old ++ bytes) more
    ∙ ap (take most) (append_assoc old bytes more))

-- the bytes of a text are those of its first piece and those of what is behind the dot
pub rest_bytes : (text piece : List ℕ) (others : Option (Bor (List ℕ)))
    → slice_split is_dot text ≡ piece ∷ parts_of_rest 46 others
    → bytes_of_text text ≡ joined (piece_of piece) (bytes_of_rest others)
rest_bytes text piece others parts = ap bytes_of_pieces parts ∙ ap (joined (piece_of piece)) (of_rest others)
  where
    of_rest : (others : Option (Bor (List ℕ))) → bytes_of_pieces (parts_of_rest 46 others) ≡ bytes_of_rest others
    of_rest None = refl
    of_rest (Some rest) = refl

pub at_most_taken : (most : ℕ) (found : Option (List ℕ)) (bytes : List ℕ) → option_map (take most) found ≡ Some bytes
    → length bytes ≤ most
at_most_taken most None bytes h = absurd (cc)
at_most_taken most (Some all) bytes h =
    let is : take most all ≡ bytes = cc in
    let long : length bytes ≡ min most (length all) = sym (ap length is) ∙ length-take most all in
    omega (arith, long)

-- a byte so often, up to so many bytes
pub run_up_to : (most count added byte : ℕ) (old : List ℕ) → length old ≤ most → added ≡ min count (most - length old)
    → take most (old ++ replicate count byte) ≡ old ++ replicate added byte
run_up_to most count added byte [] within e = let same : min count most ≡ added = omega (arith, e) in taken most count
    ∙ ap (λ n. replicate n byte) same
  where
    taken : (m n : ℕ) → take m (replicate n byte) ≡ replicate (min n m) byte
    taken zero n = let e : 0 ≡ min n 0 = omega arith in ap (λ k. replicate k byte) e
    taken (suc m) zero = let e : 0 ≡ min 0 (suc m) = omega arith in ap (λ k. replicate k byte) e
    taken (suc m) (suc n) = let e : suc (min n m) ≡ min (suc n) (suc m) =
        omega arith in ap (λ l. byte ∷ l) (taken m n) ∙ ap (λ k. replicate k byte) e
run_up_to zero count added byte (x ∷ xs) within e = absurd (omega (arith, within))
run_up_to (suc most) count added byte (x ∷ xs) within e =
    ap (λ l. x ∷ l) (run_up_to most count added byte xs (omega (arith, within)) (omega (arith, e)))

pub run_extends : (most : ℕ) (old : List ℕ) (byte count added : ℕ) (number : Option ℕ)
    → option_map (λ n. min n (2 ^ 64 - 1)) number ≡ Some count → 0 < count → length old ≤ most → most < 2 ^ 32
    → added ≡ min count (most - length old) →
    option_map (take most) (joined (Some old) (repeated (Some byte) number)) ≡ Some (old ++ replicate added byte)
run_extends most old byte count added None is some within small e = absurd (cc)
run_extends most old byte count added (Some n) is some within small e = by_zero (n == 0) refl
  where
    capped : min n (2 ^ 64 - 1) ≡ count
    capped = cc

    by_zero : (t : Bool) → (n == 0) ≡ t → option_map (take most) (joined (Some old) (repeated (Some byte)
        (Some n))) ≡ Some (old ++ replicate added byte)
    by_zero true z = let none : n ≡ 0 = grind (arith, nat_tests) in absurd (omega (arith, none, capped, some))
    by_zero false z =
        let found : repeated (Some byte) (Some n) ≡ Some (replicate n byte) =
        ap (λ t. if t then None else Some (replicate n byte)) z in
        ap (λ f. option_map (take most) (joined (Some old) f)) found
        ∙ ap Some (run_up_to most n added byte old within (omega (arith, e, capped, within, small)))

-- one byte more than the most is enough to know that there are too many
pub at_most_of_kept : (most : ℕ) (found : Option (List ℕ)) (bytes : List ℕ)
    → option_map (take (most + 1)) found ≡ Some bytes → at_most most found ≡ (if nat_le
    (length bytes) most then Some bytes else None)
at_most_of_kept most None bytes h = absurd (cc)
at_most_of_kept most (Some all) bytes h = by_length (nat_le (length all) most) refl
  where
    is : take (most + 1) all ≡ bytes
    is = cc

    by_length : (t : Bool) → nat_le (length all) most ≡ t
        → (if nat_le (length all) most then Some all else None) ≡ (if nat_le
        (length bytes) most then Some bytes else None)
    by_length true e =
        let few : length all ≤ most = grind (arith, nat_tests) in
        let same : all ≡ bytes = sym (take_all (most + 1) all (omega (arith, few))) ∙ is in
        ap (λ l. if nat_le (length l) most then Some l else None) same
    by_length false e =
        let many : most < length all = grind (arith, nat_tests) in
        let long : length bytes ≡ most + 1 = sym (ap length is) ∙ length-take-le (most + 1) all (omega (arith, many)) in
        let over : nat_le (length bytes) most ≡ false = grind (arith, nat_tests) in
        cc

-- a second star leaves three parts
three_parts : (pair count rest : List ℕ) → bytes_of_parts (pair ∷ count ∷ slice_split is_star rest) ≡ None
three_parts pair count [] = refl
three_parts pair count (b ∷ bs) = elim (is_star b) as (λ star. bytes_of_parts (pair ∷ count ∷ cond star
    ([] ∷ slice_split is_star bs) (onto_first b (slice_split is_star bs))) ≡ None) [
      | true ↦ refl
      | false ↦ onto
          (slice_split is_star bs)
    ]
  where
    onto : (parts : List (List ℕ)) → bytes_of_parts (pair ∷ count ∷ onto_first b parts) ≡ None
    onto [] = refl
    onto (part ∷ parts) = refl

pub second_star : (pair text count : List ℕ) (others : Option (Bor (List ℕ))) (rest : Bor (List ℕ))
    → slice_split is_star text ≡ count ∷ parts_of_rest 42 others → others ≡ Some rest
    → bytes_of_parts (pair ∷ slice_split is_star text) ≡ None
second_star pair text count None rest parts is = absurd (cc)
second_star pair text count (Some more) rest parts is = ap (λ ps. bytes_of_parts (pair ∷ ps)) parts
    ∙ three_parts pair count more.now
