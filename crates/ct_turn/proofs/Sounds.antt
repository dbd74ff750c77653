-- What a seat says of its own acts stays true.
use Rattle.std.proofs.Common.{◌≡◌, ℕ, ◌<◌, ◌≤◌, List, [], ◌∷◌, ◌++◌, length, Option, Some, IfSome, sym, refl, ap, ◌∙◌, subst, arith, inl, inr, ltb, true, false, lt_of_not-le, append_assoc, append-nil, length-append}
use Rattle.std.proofs.lemmas.Bool.Decides.{nat_tests}
use mathlib.Core.Logic.{dite}
use native.Mathlib.Decide.{dec_le}
use Rattle.ct_turn.specs.declared.view.Item.{Item}
use Rattle.ct_turn.specs.declared.view.Known.{Known}
use Rattle.ct_turn.specs.Rules.{Sound}
use Rattle.ct_turn.specs.Seats.{Begins, covers, item, MadeOne, Made, NoneTwice, IsLonger}
use Rattle.ct_turn.specs.Steps.{ActsAt, part_left, newcomer, Joined, longer}
use Rattle.ct_turn.proofs.Sums.{covers_append, once_once, once_past, once_in}
use Rattle.ct_turn.proofs.Turning.{begins_self, begins_trans, begins_length}

module _ {O : Type 0} where
  pub if_some : (x : Option O) (P : O → Type 0) (o : O) → x ≡ Some o → IfSome x P → P o
  if_some x P o e h = subst (λ (z : Option O). IfSome z P) e h

  pub some_if : (x : Option O) (P : O → Type 0) (o : O) → x ≡ Some o → P o → IfSome x P
  some_if x P o e h = subst (λ (z : Option O). IfSome z P) (sym e) h

module _ {E : Type 0} where
  -- of two beginnings of one list the shorter begins the longer
  begins_of : (xs ys m n : List E) → xs ++ m ≡ ys ++ n → length xs ≤ length ys → Begins xs ys
  begins_of [] ys m n e h = (ys, refl)
  begins_of (x ∷ xs) [] m n e h = absurd (omega arith)
  begins_of (x ∷ xs) (y ∷ ys) m n e h = let tails : xs ++ m ≡ ys ++ n = cc in let heads : x ≡ y = cc in let t = begins_of xs ys m n tails (omega arith) in (t.0, λ i. sym heads i ∷ t.1 i)

  pub far_enough : (xs ys log : List E) → Begins xs log → Begins ys log → IsLonger xs ys (longer xs ys)
  far_enough xs ys log h k = dite (dec_le (length ys) (length xs))
      (λ le. let t : ltb (length xs) (length ys) ≡ false = grind (arith, nat_tests) in rw t (begins_self xs, begins_of ys xs k.0 h.0 (sym k.1 ∙ h.1) le, inl refl))
      (λ no. let lt : length xs < length ys = lt_of_not-le no in let t : ltb (length xs) (length ys) ≡ true = grind (arith, nat_tests) in rw t (begins_of xs ys h.0 k.0 (sym h.1 ∙ k.1) (omega arith), begins_self ys, inr refl))

module _ {O E A B : Type 0} where
  pub joined_seen : (v w x : Known O E A B) → Joined v w x → IsLonger v.seen w.seen x.seen
  joined_seen v w x (is, learnt) = subst (λ (y : Known O E A B). IsLonger v.seen w.seen y.seen) (sym is) (far_enough v.seen w.seen learnt.1 learnt.5 learnt.6)

module _ {O E A B : Type 0} (steps : O → List E → A → B → List E → Type 0) where
  one_more : (o : O) (seen seen' : List E) (x : Item A B) → Begins seen seen' → MadeOne steps o seen x → MadeOne steps o seen' x
  one_more o seen seen' x more (before, mine, after, is, from, to, step) =
      (before, mine, after ++ more.0, more.1 ∙ (ap (λ l. l ++ more.0) is ∙ append_assoc (before ++ mine) after more.0), from, to, step)

  pub made_more : (o : O) (seen seen' : List E) (own : List (Item A B)) → Begins seen seen' → Made steps o seen own → Made steps o seen' own
  made_more o seen seen' [] more h = tt
  made_more o seen seen' (x ∷ xs) more h = (one_more o seen seen' x more h.0, made_more o seen seen' xs more h.1)

  pub made_append : (o : O) (seen : List E) (xs ys : List (Item A B)) → Made steps o seen xs → Made steps o seen ys → Made steps o seen (xs ++ ys)
  made_append o seen [] ys h k = k
  made_append o seen (x ∷ xs) ys h k = (h.0, made_append o seen xs ys h.1 k)

  -- no range goes past what was seen
  pub made_below : (o : O) (seen : List E) (own : List (Item A B)) → Made steps o seen own → (k : ℕ) → length seen ≤ k → covers k own ≡ 0
  made_below o seen [] h k past = refl
  made_below o seen (x ∷ xs) h k past =
      let rest = made_below o seen xs h.1 k past in
      let all = ap length h.0.3 in
      let sum = length-append (h.0.0 ++ h.0.1) h.0.2 in
      let to = h.0.5 in
      let none = once_past k x.to (omega arith) in
      omega arith

  once_more : (o : O) (seen : List E) (own : List (Item A B)) (a : A) (b : B) (n m : ℕ) → length seen ≤ n → Made steps o seen own → NoneTwice own → NoneTwice (own ++ item a b n m ∷ [])
  once_more o seen own a b n m long made once k = let both = covers_append k own (item a b n m ∷ []) in let up = once_once k m in dite (dec_le n k)
      (λ le. let none = made_below o seen own made k (omega arith) in let past = once_past k n le in omega arith)
      (λ no. let lt : k < n = lt_of_not-le no in let here = once_in k n lt in let old = once k in omega arith)

  pub acts_sound : (v w : Known O E A B) (a : A) (b : B) → Sound steps v → ActsAt steps v a b w → Sound steps w
  acts_sound v w a b s (log, more, grows, is, step) =
      let seen : List E = log ++ more in
      let longer : Begins v.seen seen = begins_trans v.seen log seen grows (more, refl) in
      let long = begins_length v.seen log grows in
      let sum = length-append log more in
      subst (λ (x : Known O E A B). Sound steps x) (sym is) record {
        o = s.o;
        opening = s.opening;
        made = made_append s.o seen v.own (item a b (length log) (length seen) ∷ []) (made_more s.o v.seen seen v.own longer s.made)
            ((log, more, [], sym (append-nil seen), refl, refl, if_some v.opening (λ o. steps o log a b more) s.o s.opening step), tt);
        once = once_more s.o v.seen v.own a b (length log) (length seen) long s.made s.once;
        stage = s.stage;
        one = s.one;
        two = s.two;
        told = s.told;
        some_part = s.some_part;
      }

  pub part_sound : (v : Known O E A B) → 2 ≤ v.parts → Sound steps v → Sound steps (part_left v)
  part_sound v some_parts s = record { o = s.o; opening = s.opening; made = s.made; once = s.once; stage = s.stage; one = s.one; two = s.two; told = s.told; some_part = omega arith }

  pub newcomer_sound : (v : Known O E A B) → Sound steps v → Sound steps (newcomer 1 v)
  newcomer_sound v s = record { o = s.o; opening = s.opening; made = tt; once = λ k. omega arith; stage = refl; one = refl; two = refl; told = refl; some_part = omega arith }

  pub joined_sound : (v w x : Known O E A B) (p : O) → Sound steps v → w.opening ≡ Some p → Made steps p w.seen w.own → Joined v w x → Sound steps x
  joined_sound v w x p s opens made (is, learnt) =
      let o : O = learnt.0 in
      let mine : s.o ≡ o = if_some v.opening (λ y. y ≡ o) s.o s.opening learnt.2 in
      let its : p ≡ o = if_some w.opening (λ y. y ≡ o) p opens learnt.3 in
      let seen : List E = longer v.seen w.seen in
      let far = far_enough v.seen w.seen learnt.1 learnt.5 learnt.6 in
      subst (λ (y : Known O E A B). Sound steps y) (sym is) record {
        o = s.o;
        opening = s.opening;
        made = made_append s.o seen v.own w.own (made_more s.o v.seen seen v.own far.0 s.made)
            (made_more s.o w.seen seen w.own far.1 (subst (λ (y : O). Made steps y w.seen w.own) (its ∙ sym mine) made));
        once = learnt.7;
        stage = s.stage;
        one = refl;
        two = refl;
        told = refl;
        some_part = (let q = s.some_part in omega arith);
      }
