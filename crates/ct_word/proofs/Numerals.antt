-- What std's `parse` and `decimal` say of the words that spell a number.
use Rattle.std.proofs.Common.{◌≡◌, ◌≢◌, ℕ, ◌<◌, ◌≤◌, ◌^◌, Bool, true, false, cond, not, ◌&&◌, ◌||◌, ◌==◌, List, [], ◌∷◌, length, get_or, Some, None, zero, suc, Result, Ok, Err, decimal, refl, sym, ap, ◌∙◌, rules, arith, OkIff, IsUtf8, nat_lt, if◌then◌else◌, lt-ltb, le-ltb}
use Rattle.std.specs.Result.{result_ok}
use Rattle.std.proofs.lemmas.Str.{IsUtf8-from_ascii}
use Rattle.std.specs.List.{list_all}
use Rattle.std.specs.Char.{is_ascii_digit}
use Rattle.std.specs.Str.Parse.{digits_value, ParsesUnsigned}
use Rattle.std.proofs.lemmas.Str.Parse.{IsNumeralModel, IsDigitsTest, numerals_by_value, parse_plain}
use Rattle.std.proofs.lemmas.Fmt.{decimal-digits_value, digits_decimal, digits_value-decimal, decimal_nonempty, first_decimal, decimal_digit, IsAscii-from_digits}
use Rattle.std.proofs.lemmas.Bool.{false≢true}
use Rattle.std.proofs.lemmas.Bool.Decides.{nat_tests}
use Rattle.ct_word.specs.Decimals.{is_decimal, decimal_of}

tells : IsDigitsTest (λ ds. list_all is_ascii_digit ds ≡ true)
tells = search rules

own : IsNumeralModel (λ ds. list_all is_ascii_digit ds ≡ true) (digits_value 10)
own = numerals_by_value _ tells

-- the parts of the test
pub record Spells (word : List ℕ) : Type 0 where
  pub digits : list_all is_ascii_digit word ≡ true
  pub some : 0 < length word
  pub no_zero : get_or word 0 0 ≡ 48 → length word ≡ 1

both : (a b : Bool) → (a && b) ≡ true → (a ≡ true) × (b ≡ true)
both true b h = (refl, h)
both false b h = absurd (false≢true h)

pub Spells-from_test : (word : List ℕ) → is_decimal word ≡ true → Spells word
Spells-from_test [] h = absurd (false≢true h)
Spells-from_test (d ∷ ds) h =
    let parts = both _ _ h in
    record {
      digits = parts.1;
      some = omega arith;
      no_zero = λ z. zero_alone d ds parts.0 z;
    }
  where
    zero_alone : (d : ℕ) (ds : List ℕ) → (not (d == 48) || (length ds == 0)) ≡ true → d ≡ 48 → length (d ∷ ds) ≡ 1
    zero_alone d ds h z = grind (arith, nat_tests)

no_plus : (word : List ℕ) → list_all is_ascii_digit word ≡ true → 0 < length word → get_or word 0 0 ≢ 43
no_plus [] h some = absurd (omega arith)
no_plus (d ∷ ds) h some = λ e. grind (arith, nat_tests)

pub parse_decimal : {E : Type 0} (word : List ℕ) (r : Result ℕ E) → is_decimal word ≡ true → ParsesUnsigned 64 10 word r → OkIff r ((list_all is_ascii_digit word ≡ true) × (0 < length word) × (digits_value 10 word < 2 ^ 64)) (digits_value 10 word)
parse_decimal word r h parsed =
    let s = Spells-from_test word h in
    parse_plain own 64 word r parsed (no_plus word s.digits s.some)

pub parsed_is : {E : Type 0} (word : List ℕ) (r : Result ℕ E) → is_decimal word ≡ true → ParsesUnsigned 64 10 word r → result_ok r ≡ (if nat_lt (digits_value 10 word) (2 ^ 64) then Some (digits_value 10 word) else None)
parsed_is {E = E} word (Ok n) h parsed =
    let p = parse_decimal {E = E} word (Ok n) h parsed in
    rw (lt-ltb (digits_value 10 word) (2 ^ 64) p.0.2) (ap Some p.1)
parsed_is {E = E} word (Err e) h parsed =
    let s = Spells-from_test word h in
    let large : 2 ^ 64 ≤ digits_value 10 word = omega (arith, λ (small : digits_value 10 word < 2 ^ 64). parse_decimal {E = E} word (Err e) h parsed (s.digits, s.some, small)) in
    rw (le-ltb (digits_value 10 word) (2 ^ 64) large)

pub is_utf8 : (word : List ℕ) → is_decimal word ≡ true → IsUtf8 word
is_utf8 word h = IsUtf8-from_ascii word (IsAscii-from_digits word (own.to word (Spells-from_test word h).digits))

test-from_Spells : (word : List ℕ) → Spells word → is_decimal word ≡ true
test-from_Spells [] s = absurd (omega (arith, s.some))
test-from_Spells (d ∷ ds) s = rw s.digits (zero_first d ds s.no_zero)
  where
    zero_first : (d : ℕ) (ds : List ℕ) → (d ≡ 48 → length (d ∷ ds) ≡ 1) → ((not (d == 48) || (length ds == 0)) && true) ≡ true
    zero_first d ds h = grind (arith, nat_tests)

some_is : {A : Type 0} (b : Bool) (x y : A) → cond b (Some x) None ≡ Some y → (b ≡ true) × (x ≡ y)
some_is true x y h = (refl, cc)
some_is false x y h = absurd (cc)

-- a word spells a number only as it is printed
pub numeral : (word : List ℕ) (n : ℕ) → n < 2 ^ 64 → (decimal_of word ≡ Some n → word ≡ decimal n) × (word ≡ decimal n → decimal_of word ≡ Some n)
numeral word n small = (to, from)
  where
    to : decimal_of word ≡ Some n → word ≡ decimal n
    to h =
        let parts = some_is (is_decimal word) (digits_value 10 word) n h in
        let s = Spells-from_test word parts.0 in
        sym (ap decimal (sym parts.1) ∙ decimal-digits_value own word s.digits s.some s.no_zero (omega (arith, parts.1)))

    from : word ≡ decimal n → decimal_of word ≡ Some n
    from h =
        let s : Spells word = record { digits = rw h (digits_decimal own n small); some = rw h (decimal_nonempty n small); no_zero = rw h (alone n small) } in
        rw (test-from_Spells word s) (ap Some (ap (digits_value 10) h ∙ digits_value-decimal own n small))
      where
        alone : (n : ℕ) → n < 2 ^ 64 → get_or (decimal n) 0 0 ≡ 48 → length (decimal n) ≡ 1
        alone zero small e = ap length (decimal_digit 0 (omega arith))
        alone (suc n) small e = absurd (omega (arith, first_decimal (suc n) (omega arith) small))
