-- Pairs of hexadecimal digits.
use Rattle.std.proofs.Common.{◌≡◌, ℕ, ◌+◌, ◌*◌, ◌%◌, ◌<◌, ◌≤◌, true, List, [], ◌∷◌, length, Option, Some, None, Ok, Err}
use Rattle.std.proofs.Common.{refl, sym, ap, ◌∙◌, arith, slice_index}
use Rattle.std.specs.Prelude.{unwrap_or, ◌==◌}
use Rattle.std.specs.Result.{result_ok}
use Rattle.std.proofs.lemmas.Bool.{agree_below_at, eqb-true}
use Rattle.hex.specs.declared.error.FromHexError.{FromHexError}
use Rattle.hex.specs.declared.error.FromHexError.TheVariants.{InvalidHexCharacter}
use Rattle.hex.specs.Hex.{decode_pairs, digit_or_error, hex_digit_value, pair_value, ◌>>=◌}
use Rattle.hex.proofs.HexLemmas.{decode_of-even}
use Rattle.hex.proofs.Pairs.{decode_pairs-ok_pair, decode_pairs-err_pair}
use Rattle.ct_script.specs.declared.digits.TheConstants.{VALUES}
use Rattle.ct_script.specs.ByteText.{byte_of_values, pair_byte, pairs_of, single}
use Rattle.ct_script.proofs.Texts.{pairs_of-some}

pub values : (digit : ℕ) → digit < 256 → slice_index VALUES.now digit ≡ unwrap_or (hex_digit_value digit) 255
values digit small = eqb-true (slice_index VALUES.now digit) (unwrap_or (hex_digit_value digit) 255) (agree_below_at
    (λ d. slice_index VALUES.now d == unwrap_or (hex_digit_value d) 255) (λ _. true) 256 digit refl small)

small_value : (digit value : ℕ) → hex_digit_value digit ≡ Some value → value < 16
small_value digit value is = grind (arith)

-- two digits
pub byte_of_two : (a b high low : ℕ) → high ≡ unwrap_or (hex_digit_value a) 255
    → low ≡ unwrap_or (hex_digit_value b) 255 → high ≤ 15 → low ≤ 15 → Some (high * 16 + low) ≡ pair_byte a b
byte_of_two a b high low is_high is_low h l = by_values (hex_digit_value a) (hex_digit_value b) is_high is_low
  where
    by_values : (x y : Option ℕ) → high ≡ unwrap_or x 255 → low ≡ unwrap_or y 255
        → Some (high * 16 + low) ≡ byte_of_values x y
    by_values None y is_high is_low = absurd (omega (arith, h, is_high))
    by_values (Some x) None is_high is_low = absurd (omega (arith, l, is_low))
    by_values (Some x) (Some y) is_high is_low = cc

large : (digit value : ℕ) → value ≡ unwrap_or (hex_digit_value digit) 255 → 15 < value → hex_digit_value digit ≡ None
large digit value is h = by_value (hex_digit_value digit) refl is
  where
    by_value : (x : Option ℕ) → hex_digit_value digit ≡ x → value ≡ unwrap_or x 255 → x ≡ None
    by_value None e is = refl
    by_value (Some x) e is = let few : x < 16 = small_value digit x e in absurd (omega (arith, h, is, few))

-- the first is no digit
pub no_high : (a b high : ℕ) → high ≡ unwrap_or (hex_digit_value a) 255 → 15 < high → None ≡ pair_byte a b
no_high a b high is h = ap (λ x. byte_of_values x (hex_digit_value b)) (sym (large a high is h))

-- the second is no digit
pub no_low : (a b low : ℕ) → low ≡ unwrap_or (hex_digit_value b) 255 → 15 < low → None ≡ pair_byte a b
no_low a b low is h = none (hex_digit_value a) ∙ ap (byte_of_values (hex_digit_value a)) (sym (large b low is h))
  where
    none : (x : Option ℕ) → None ≡ byte_of_values x None
    none None = refl
    none (Some x) = refl

pub pair_reads : (a b i byte : ℕ) → pair_byte a b ≡ Some byte → pair_value a b i ≡ Ok byte
pair_reads a b i byte is = by_values (hex_digit_value a) (hex_digit_value b) is
  where
    by_values : (x y : Option ℕ) → byte_of_values x y ≡ Some byte
        → (digit_or_error a i x >>= (λ h. digit_or_error b (i + 1) y >>= (λ l. Ok (h * 16 + l)))) ≡ Ok byte
    by_values None y is = absurd (cc)
    by_values (Some x) None is = absurd (cc)
    by_values (Some x) (Some y) is = cc

pub pair_refused : (a b i : ℕ) → pair_byte a b ≡ None → (e : FromHexError) × (pair_value a b i ≡ Err e)
pair_refused a b i is = by_values (hex_digit_value a) (hex_digit_value b) is
  where
    by_values : (x y : Option ℕ) → byte_of_values x y ≡ None
        → (e : FromHexError) × ((digit_or_error a i x >>= (λ h. digit_or_error b (i + 1) y >>= (λ l. Ok
        (h * 16 + l)))) ≡ Err e)
    by_values None y is = (InvalidHexCharacter a i, refl)
    by_values (Some x) None is = (InvalidHexCharacter b (i + 1), refl)
    by_values (Some x) (Some y) is = absurd (cc)

pub pairs_read : (text bytes : List ℕ) → 0 < length text → length text % 2 ≡ 0 → decode_pairs 0 text ≡ Ok bytes
    → pairs_of text ≡ Some bytes
pairs_read [] bytes some even is = absurd (omega (arith, some))
pairs_read (c ∷ cs) bytes some even is = ap result_ok (decode_of-even (c ∷ cs) even ∙ is)

pub pairs_refused : (text : List ℕ) (e : FromHexError) → 0 < length text → length text % 2 ≡ 0
    → decode_pairs 0 text ≡ Err e → pairs_of text ≡ None
pairs_refused [] e some even is = absurd (omega (arith, some))
pairs_refused (c ∷ cs) e some even is = ap result_ok (decode_of-even (c ∷ cs) even ∙ is)

-- one pair
one_pair : (a b : ℕ) → pair_byte a b ≡ single (pairs_of (a ∷ b ∷ []))
unfolding decode_pairs
one_pair a b = by_byte (pair_byte a b) refl
  where
    by_byte : (x : Option ℕ) → pair_byte a b ≡ x → x ≡ single (pairs_of (a ∷ b ∷ []))
    by_byte (Some byte) e = ap (λ r. single (result_ok r)) (sym (decode_pairs-ok_pair 0 a b byte []
        (pair_reads a b 0 byte e)))
    by_byte None e = let refused = pair_refused a b 0 e in ap (λ r. single (result_ok r)) (sym
        (decode_pairs-err_pair 0 a b refused.0 [] refused.1))

pub one_pair_of : (pair : List ℕ) → length pair ≡ 2 → pair_byte (slice_index pair 0) (slice_index pair 1) ≡ single
    (pairs_of pair)
one_pair_of [] long = absurd (omega (arith, long))
one_pair_of (a ∷ []) long = absurd (omega (arith, long))
one_pair_of (a ∷ b ∷ []) long = one_pair a b
one_pair_of (a ∷ b ∷ c ∷ more) long = absurd (omega (arith, long))

-- no single byte is spelled by more or less than two digits
pub no_single : (text : List ℕ) → (length text ≡ 2 → ⊥) → None ≡ single (pairs_of text)
no_single text other = by_pairs (pairs_of text) refl
  where
    by_pairs : (found : Option (List ℕ)) → pairs_of text ≡ found → None ≡ single found
    by_pairs None same = refl
    by_pairs (Some []) same = refl
    by_pairs (Some (byte ∷ [])) same = absurd (other (pairs_of-some text (byte ∷ []) same).0)
    by_pairs (Some (byte ∷ more ∷ bytes)) same = refl
