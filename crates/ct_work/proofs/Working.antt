-- A worker's acts, one more and one pass more.
use Rattle.std.proofs.Common.{◌≡◌, ◌≢◌, ℕ, ◌<◌, ◌≤◌, List, [], ◌∷◌, ◌++◌, map, length, get_or, set, sym, refl, ap, ◌∙◌, subst, arith, append_assoc, length-set, get_or-set_same, get_or-set_other}
use Rattle.std.proofs.lemmas.List.Elements.{All-nil, All-push, All-append}
use mathlib.Core.Logic.{dite}
use mathlib.Core.List.{map-append}
use native.Mathlib.Decide.{ℕ_discrete}
use Rattle.ct_turn.specs.declared.view.Item.{Item}
use Rattle.ct_turn.specs.Seats.{SeatView, TableId, Acts}
use Rattle.ct_work.specs.Grown.{act_of, Rises, Grown}
use Rattle.ct_work.specs.Jobs.{IsPaired}
use Rattle.ct_work.specs.Phases.{GrownBy}
use Rattle.ct_work.proofs.Growing.{grown_none, grown_more}
use Rattle.ct_work.proofs.Rows.{any_default}

module _ {A B : Type 0} where
  rises_weaker : (n m : ℕ) (xs : List (Item A B)) (k : ℕ) → n ≤ m → Rises m xs k → Rises n xs k
  rises_weaker n m [] k h r = omega arith
  rises_weaker n m (x ∷ xs) k h r = let a = r.0 in (omega arith, r.1, r.2)

  rises_append : (n : ℕ) (xs : List (Item A B)) (m : ℕ) (ys : List (Item A B)) (k : ℕ) → Rises n xs m → Rises m ys k → Rises n (xs ++ ys) k
  rises_append n [] m ys k h r = rises_weaker n m ys k h r
  rises_append n (x ∷ xs) m ys k h r = (h.0, h.1, rises_append x.to xs m ys k h.2 r)

module _ (O A B E : Type 0) (steps : O → List E → A → B → List E → Type 0) where
  abbrev S : Type 0
  S = SeatView O E A B

  grown_trans : (s t u : S) (as' bs : List A) → Grown s as' t → Grown t bs u → Grown s (as' ++ bs) u
  grown_trans s t u as' bs h k = record {
    turn = k.turn ∙ h.turn;
    opening = k.opening ∙ h.opening;
    parts = k.parts ∙ h.parts;
    seen = (h.seen.0 ++ k.seen.0, k.seen.1 ∙ (ap (λ l. l ++ k.seen.0) h.seen.1 ∙ append_assoc s.seen h.seen.0 k.seen.0));
    items = h.items ++ k.items;
    own = k.own ∙ (ap (λ l. l ++ k.items) h.own ∙ append_assoc s.own h.items k.items);
    made = map-append act_of h.items k.items ∙ (ap (λ l. l ++ map act_of k.items) h.made ∙ ap (λ l. as' ++ l) k.made);
    rises = rises_append (length s.seen) h.items (length t.seen) k.items (length u.seen) h.rises k.rises;
  }

  pub by_none : (p : A → Type 0) (old : List S) → GrownBy p old old
  by_none p old = record { same = refl; each = λ i d h. ([], grown_none steps (get_or old i d), All-nil p) }

  pub by_more : (p : A → Type 0) (old now : List S) (t : ℕ) (s u : S) (a : A) (b : B) → t < length now → s ≡ get_or now t s → u.turn ≡ s.turn → u.opening ≡ s.opening → u.parts ≡ s.parts → Acts steps s a b u → p a → GrownBy p old now → GrownBy p old (set now t u)
  by_more p old now t s u a b inside at turn opening parts step ok h = record {
    same = length-set now t u ∙ h.same;
    each = λ i d lt. dite (ℕ_discrete t i)
        (λ (e : t ≡ i).
        let g = h.each i d lt in
        let here : get_or now i d ≡ s = ap (λ (k : ℕ). get_or now k d) (sym e) ∙ (any_default now t d s inside ∙ sym at) in
        let there : get_or (set now t u) i d ≡ u = ap (λ (k : ℕ). get_or (set now t u) k d) (sym e) ∙ get_or-set_same now t u d inside in (
          g.0 ++ a ∷ [],
          subst (λ (x : S). Grown (get_or old i d) (g.0 ++ a ∷ []) x) (sym there) (grown_more steps (get_or old i d) s u g.0 a b (subst (λ (x : S). Grown (get_or old i d) g.0 x) here g.1) turn opening parts step),
          All-push p g.0 a g.2 ok,
        ))
        (λ (ne : t ≢ i).
        let g = h.each i d lt in
        let there : get_or (set now t u) i d ≡ get_or now i d = get_or-set_other now t i u d (λ e. ne (sym e)) in
        (g.0, subst (λ (x : S). Grown (get_or old i d) g.0 x) (sym there) g.1, g.2));
  }

  pub by_trans : (p : A → Type 0) (old now new : List S) → GrownBy p old now → GrownBy p now new → GrownBy p old new
  by_trans p old now new h k = record {
    same = k.same ∙ h.same;
    each = λ i d lt. (
        let g = h.each i d lt in
        let lt' : i < length now = (let e = h.same in omega arith) in
        let f = k.each i d lt' in
        (g.0 ++ f.0, grown_trans (get_or old i d) (get_or now i d) (get_or new i d) g.0 f.0 g.1 f.1, All-append p g.0 f.0 g.2 f.2));
  }

  pub paired_by : (p : A → Type 0) (turns : List TableId) (old new : List S) → IsPaired turns old → GrownBy p old new → IsPaired turns new
  paired_by p turns old new (long, each) h = (
    long ∙ sym h.same,
    λ i z d lt. let lt' : i < length old = (let e = h.same in omega arith) in let g = h.each i d lt' in g.1.turn ∙ each i z d lt',
  )
