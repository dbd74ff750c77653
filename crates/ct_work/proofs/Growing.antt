-- A lane's items, one act more at a time.
use Rattle.std.proofs.Common.{◌≡◌, ℕ, ◌≤◌, List, [], ◌∷◌, ◌++◌, length, sym, refl, ap, ◌∙◌, arith, append_assoc, append-nil, length-append}
use mathlib.Core.List.{map-append}
use Rattle.ct_turn.specs.declared.view.Item.{Item}
use Rattle.ct_turn.specs.Seats.{SeatView, Acts, item}
use Rattle.ct_work.specs.Grown.{act_of, Rises, Grown}

module _ {A B : Type 0} where
  rises_snoc : (n : ℕ) (xs : List (Item A B)) (m : ℕ) (x : Item A B) (m' : ℕ) → Rises n xs m → m ≤ x.from → x.from ≤ x.to → x.to ≤ m' → Rises n (xs ++ x ∷ []) m'
  rises_snoc n [] m x m' h a b c = (omega arith, b, c)
  rises_snoc n (y ∷ ys) m x m' h a b c = (h.0, h.1, rises_snoc y.to ys m x m' h.2 a b c)

module _ {O E A B : Type 0} (steps : O → List E → A → B → List E → Type 0) where
  pub grown_none : (s : SeatView O E A B) → Grown s [] s
  grown_none s = record { turn = refl; opening = refl; parts = refl; seen = ([], sym (append-nil s.seen)); items = []; own = sym (append-nil s.own); made = refl; rises = omega arith }

  pub grown_more : (s t u : SeatView O E A B) (done : List A) (a : A) (b : B) → Grown s done t → u.turn ≡ t.turn → u.opening ≡ t.opening → u.parts ≡ t.parts → Acts steps t a b u → Grown s (done ++ a ∷ []) u
  grown_more s t u done a b h turn opening parts (between, more, seen, own, step) =
      let before : List E = t.seen ++ between in
      let x : Item A B = item a b (length before) (length u.seen) in
      let l1 = length-append t.seen between in
      let l2 = ap length seen ∙ length-append before more in
      record {
        turn = turn ∙ h.turn;
        opening = opening ∙ h.opening;
        parts = parts ∙ h.parts;
        seen = (h.seen.0 ++ (between ++ more), seen ∙ (append_assoc t.seen between more ∙ (ap (λ l. l ++ (between ++ more)) h.seen.1 ∙ append_assoc s.seen h.seen.0 (between ++ more))));
        items = h.items ++ x ∷ [];
        own = own ∙ (ap (λ l. l ++ x ∷ []) h.own ∙ append_assoc s.own h.items (x ∷ []));
        made = map-append act_of h.items (x ∷ []) ∙ ap (λ l. l ++ a ∷ []) h.made;
        rises = rises_snoc (length s.seen) h.items (length t.seen) x (length u.seen) h.rises (omega arith) (omega arith) (omega arith);
      }
