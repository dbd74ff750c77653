-- The first place where a test holds.
use Rattle.std.proofs.Common.{not, ◌≡◌, ℕ, ◌≤◌, Bool, true, false, cond, List, length, Some, None, position, refl, sym, arith}
use Rattle.std.specs.List.{position_or_len}
use Rattle.std.proofs.lemmas.List.Sums.{prefix_len-le-length}
use Rattle.std.proofs.lemmas.Bool.{ltb-false}

pub some_at : {A : Type 0} (b : Bool) (x y : A) → cond b (Some x) None ≡ Some y → (b ≡ true) × (x ≡ y)
some_at true x y h = (refl, cc)
some_at false x y h = absurd (cc)

pub none_at : {A : Type 0} (b : Bool) (x : A) → cond b (Some x) None ≡ None → b ≡ false
none_at true x h = absurd (cc)
none_at false x h = refl

pub place_first : {X : Type 0} (p : X → Bool) (xs : List X) (n : ℕ) → position p xs ≡ Some n → n ≡ position_or_len p xs
place_first p xs n h = sym (some_at _ _ _ h).1

pub place_past : {X : Type 0} (p : X → Bool) (xs : List X) → position p xs ≡ None → length xs ≡ position_or_len p xs
place_past p xs h =
    let past : length xs ≤ position_or_len p xs = ltb-false _ _ (none_at _ (position_or_len p xs) h) in
    omega (arith, prefix_len-le-length (λ x. not (p x)) xs)
