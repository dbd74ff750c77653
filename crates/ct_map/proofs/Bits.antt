-- The numbers that a nexus sees, bit by bit.
use Rattle.std.proofs.Common.{◌≡◌, ◌≢◌, ◌+◌, ◌^◌, ℕ, Bool, true, false, bit_or, slice_index_or, ◌==◌, Option, None, Some, refl, sym, ap, ◌∙◌, subst, arith, nat_lt}
use Rattle.std.specs.Prelude.{if◌then◌else◌, max}
use Rattle.std.specs.Option.{is_some}
use Rattle.std.specs.Int.{bit_at}
use Rattle.std.proofs.lemmas.Nat.Bits.{bit_at-zero, bit_at_or, bit_at-pow_same, bit_at-pow_other}
use Rattle.std.proofs.lemmas.Bool.Decides.{nat_tests}
use Rattle.ct_word.specs.declared.names.LunNo.{LunNo}
use Rattle.ct_word.specs.declared.names.Nexus.{Nexus}
use Rattle.ct_map.specs.Maps.{Declared, is_place, place_in, unit_of, bit_of, IsVisible}

-- the bit of a number below a bound
abbrev pub bit_below : Declared → Nexus → ℕ → ℕ → ℕ
bit_below declared nexus bound x = if nat_lt x bound then bit_of (unit_of declared nexus x) else 0

-- the numbers below a bound have their bits, and the others have none
abbrev pub AreVisibleBelow : Declared → Nexus → ℕ → ℕ → Type 0
AreVisibleBelow declared nexus bound visible = (x : ℕ) → bit_at visible x ≡ bit_below declared nexus bound x

pub none_visible : (declared : Declared) (nexus : Nexus) → AreVisibleBelow declared nexus 0 0
none_visible declared nexus x =
    let none : nat_lt x 0 ≡ false = grind (arith, nat_tests) in
    bit_at-zero x ∙ sym (ap (λ t. if t then bit_of (unit_of declared nexus x) else 0) none)

bit_of_none : (unit : Option LunNo) → is_some unit ≡ false → bit_of unit ≡ 0
bit_of_none None e = refl
bit_of_none (Some unit) e = absurd (cc)

bit_of_some : (unit : Option LunNo) → is_some unit ≡ true → bit_of unit ≡ 1
bit_of_some None e = absurd (cc)
bit_of_some (Some unit) e = refl

-- one number more

bit_same : (declared : Declared) (nexus : Nexus) (bound : ℕ) → bit_below declared nexus (bound + 1) bound ≡ bit_of (unit_of declared nexus bound)
bit_same declared nexus bound =
    let is : nat_lt bound (bound + 1) ≡ true = grind (arith, nat_tests) in
    ap (λ t. if t then bit_of (unit_of declared nexus bound) else 0) is

bit_not_yet : (declared : Declared) (nexus : Nexus) (bound : ℕ) → bit_below declared nexus bound bound ≡ 0
bit_not_yet declared nexus bound =
    let is : nat_lt bound bound ≡ false = grind (arith, nat_tests) in
    ap (λ t. if t then bit_of (unit_of declared nexus bound) else 0) is

bit_other : (declared : Declared) (nexus : Nexus) (bound x : ℕ) → x ≢ bound → bit_below declared nexus bound x ≡ bit_below declared nexus (bound + 1) x
bit_other declared nexus bound x differ =
    let same : nat_lt x bound ≡ nat_lt x (bound + 1) = grind (arith, nat_tests, differ) in
    ap (λ t. if t then bit_of (unit_of declared nexus x) else 0) same

pub unseen : (declared : Declared) (nexus : Nexus) (bound visible : ℕ) → AreVisibleBelow declared nexus bound visible
    → is_some (unit_of declared nexus bound) ≡ false → AreVisibleBelow declared nexus (bound + 1) visible
unseen declared nexus bound visible before none x = go (x == bound) refl
  where
    go : (t : Bool) → (x == bound) ≡ t → bit_at visible x ≡ bit_below declared nexus (bound + 1) x
    go true e =
        let same : x ≡ bound = grind (arith, nat_tests, e) in
        subst (λ n. bit_at visible n ≡ bit_below declared nexus (bound + 1) n) (sym same)
        (before bound ∙ bit_not_yet declared nexus bound ∙ sym (bit_same declared nexus bound ∙ bit_of_none (unit_of declared nexus bound) none))
    go false e =
        let differ : x ≢ bound = grind (arith, nat_tests, e) in
        before x ∙ bit_other declared nexus bound x differ

pub seen : (declared : Declared) (nexus : Nexus) (bound visible : ℕ) → AreVisibleBelow declared nexus bound visible
    → is_some (unit_of declared nexus bound) ≡ true → AreVisibleBelow declared nexus (bound + 1) (bit_or visible (2 ^ bound))
seen declared nexus bound visible before some x = bit_at_or visible (2 ^ bound) x ∙ go (x == bound) refl
  where
    go : (t : Bool) → (x == bound) ≡ t → max (bit_at visible x) (bit_at (2 ^ bound) x) ≡ bit_below declared nexus (bound + 1) x
    go true e =
        let same : x ≡ bound = grind (arith, nat_tests, e) in
        let own : max (bit_at visible bound) (bit_at (2 ^ bound) bound) ≡ 1 =
        omega (arith, before bound, bit_not_yet declared nexus bound, bit_at-pow_same bound) in
        subst (λ n. max (bit_at visible n) (bit_at (2 ^ bound) n) ≡ bit_below declared nexus (bound + 1) n) (sym same)
        (own ∙ sym (bit_same declared nexus bound ∙ bit_of_some (unit_of declared nexus bound) some))
    go false e =
        let differ : x ≢ bound = grind (arith, nat_tests, e) in
        let stays : max (bit_at visible x) (bit_at (2 ^ bound) x) ≡ bit_at visible x = omega (arith, bit_at-pow_other bound x differ) in
        stays ∙ before x ∙ bit_other declared nexus bound x differ

-- a number from 16 on is seen by none
pub all_visible : (declared : Declared) (nexus : Nexus) (visible : ℕ) → AreVisibleBelow declared nexus 16 visible → IsVisible declared nexus visible
unfolding unit_of
all_visible declared nexus visible before x = before x ∙ go (nat_lt x 16) refl
  where
    go : (t : Bool) → nat_lt x 16 ≡ t → (if t then bit_of (unit_of declared nexus x) else 0) ≡ bit_of (unit_of declared nexus x)
    go true e = refl
    go false e =
        let out : is_place nexus x ≡ false = grind (arith, nat_tests, e) in
        sym (ap (λ t. bit_of (if t then slice_index_or declared.units (place_in nexus x) None else None)) out)
