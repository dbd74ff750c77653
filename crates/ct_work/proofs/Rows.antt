-- One job more of a row.
use Rattle.std.proofs.Common.{◌≡◌, ◌≢◌, ℕ, zero, suc, ◌<◌, List, [], ◌∷◌, ◌++◌, length, get_or, set, cond, eqb, IfSome, sym, refl, ap, ◌∙◌, subst, arith, append_assoc, append-nil, length-set, get_or-set_same, get_or-set_other, eq-eqb, ne_eqb}
use mathlib.Core.Logic.{dite}
use native.Mathlib.Decide.{ℕ_discrete}
use Rattle.ct_turn.specs.Seats.{SeatView, TableId, Acts}
use Rattle.ct_work.specs.declared.job.Job.{Job}
use Rattle.ct_work.specs.Grown.{Grown}
use Rattle.ct_work.specs.Jobs.{acts_for, IsPaired, IsAllowed, GrownAll}
use Rattle.ct_work.proofs.Growing.{grown_none, grown_more}

module _ {A : Type 0} where
  -- an element that is there is that at any default
  pub any_default : (xs : List A) (i : ℕ) (d e : A) → i < length xs → get_or xs i d ≡ get_or xs i e
  any_default [] i d e h = absurd (omega arith)
  any_default (x ∷ xs) zero d e h = refl
  any_default (x ∷ xs) (suc i) d e h = any_default xs i d e (omega arith)

module _ {O A B E : Type 0} where
  -- each seat made so far the acts of the jobs that aren't left
  abbrev pub GrownSo : {M : Type 0} → List (SeatView O E A B) → List (SeatView O E A B) → List (Job M O A B E) → List (Job M O A B E) → Type 0
  GrownSo old now all left = (i : ℕ) (d : SeatView O E A B) → i < length old → (done : List A) × Grown (get_or old i d) done (get_or now i d) × (done ++ acts_for i left ≡ acts_for i all)

module _ (M O A B E : Type 0) (steps : O → List E → A → B → List E → Type 0) where
  abbrev S : Type 0
  S = SeatView O E A B

  pub so_none : (old : List S) (jobs : List (Job M O A B E)) → GrownSo old old jobs jobs
  so_none old jobs i d h = ([], grown_none {A = A} {B = B} steps (get_or old i d), refl)

  pub so_more : (old now : List S) (all left : List (Job M O A B E)) (j : Job M O A B E) (s u : S) (b : B) → length now ≡ length old → j.turn < length now → s ≡ get_or now j.turn s
      → u.turn ≡ s.turn → u.opening ≡ s.opening → u.parts ≡ s.parts → Acts steps s j.act b u → GrownSo old now all (j ∷ left) → GrownSo old (set now j.turn u) all left
  so_more old now all left j s u b same inside at turn opening parts step so i d h = dite (ℕ_discrete j.turn i)
      (λ (e : j.turn ≡ i).
      let g = so i d h in
      let here : get_or now i d ≡ s = ap (λ (k : ℕ). get_or now k d) (sym e) ∙ (any_default now j.turn d s inside ∙ sym at) in
      let there : get_or (set now j.turn u) i d ≡ u = ap (λ (k : ℕ). get_or (set now j.turn u) k d) (sym e) ∙ get_or-set_same now j.turn u d inside in
      let took : cond (eqb j.turn i) (j.act ∷ acts_for i left) (acts_for i left) ≡ j.act ∷ acts_for i left = ap (λ b. cond b (j.act ∷ acts_for i left) (acts_for i left)) (eq-eqb j.turn i e) in (
        g.0 ++ j.act ∷ [],
        subst (λ (x : S). Grown (get_or old i d) (g.0 ++ j.act ∷ []) x) (sym there)
            (grown_more steps (get_or old i d) s u g.0 j.act b (subst (λ (x : S). Grown (get_or old i d) g.0 x) here g.1) turn opening parts step),
        append_assoc g.0 (j.act ∷ []) (acts_for i left) ∙ (ap (λ l. g.0 ++ l) (sym took) ∙ g.2),
      ))
      (λ (ne : j.turn ≢ i).
      let g = so i d h in
      let there : get_or (set now j.turn u) i d ≡ get_or now i d = get_or-set_other now j.turn i u d (λ e. ne (sym e)) in
      let left_out : cond (eqb j.turn i) (j.act ∷ acts_for i left) (acts_for i left) ≡ acts_for i left = ap (λ b. cond b (j.act ∷ acts_for i left) (acts_for i left)) (ne_eqb j.turn i ne) in
      (g.0, subst (λ (x : S). Grown (get_or old i d) g.0 x) (sym there) g.1, ap (λ l. g.0 ++ l) (sym left_out) ∙ g.2))

  pub so_all : (old now : List S) (all : List (Job M O A B E)) → length now ≡ length old → GrownSo old now all [] → GrownAll old all now
  so_all old now all same so = (same, λ i d h. let g = so i d h in subst (λ (l : List A). Grown (get_or old i d) l (get_or now i d)) (sym (append-nil g.0) ∙ g.2) g.1)

  pub paired_set : (turns : List TableId) (now : List S) (t : ℕ) (s u : S) → t < length now → s ≡ get_or now t s → u.turn ≡ s.turn → IsPaired turns now → IsPaired turns (set now t u)
  paired_set turns now t s u inside at same (long, each) = (
    long ∙ sym (length-set now t u),
    λ i z d h. let inside' : i < length now = (let l = length-set now t u in omega arith) in dite (ℕ_discrete i t)
        (λ (e : i ≡ t). ap (λ (x : S). x.turn) (ap (λ (k : ℕ). get_or (set now t u) k d) e ∙ get_or-set_same now t u d inside) ∙ (same ∙ (ap (λ (x : S). x.turn) (at ∙ ap (λ (k : ℕ). get_or now k s) (sym e)) ∙ each i z s inside')))
        (λ ne. ap (λ (x : S). x.turn) (get_or-set_other now t i u d ne) ∙ each i z d inside'),
  )

module _ (O A B E : Type 0) (allows : O → A → Type 0) where
  abbrev S' : Type 0
  S' = SeatView O E A B

  pub allowed_set : (now : List S') (t : ℕ) (s u : S') (k : ℕ) (a : A) → t < length now → s ≡ get_or now t s → u.opening ≡ s.opening → IsAllowed allows now k a → IsAllowed allows (set now t u) k a
  allowed_set now t s u k a inside at same (lt, each) = (
    (let l = length-set now t u in omega arith),
    λ d. dite (ℕ_discrete k t)
        (λ (e : k ≡ t). subst (λ o. IfSome o (λ o. allows o a))
        (sym (ap (λ (x : S'). x.opening) (ap (λ (n : ℕ). get_or (set now t u) n d) e ∙ get_or-set_same now t u d inside) ∙ (same ∙ ap (λ (x : S'). x.opening) (at ∙ ap (λ (n : ℕ). get_or now n s) (sym e))))) (each s))
        (λ ne. subst (λ o. IfSome o (λ o. allows o a)) (sym (ap (λ (x : S'). x.opening) (get_or-set_other now t k u d ne))) (each d)),
  )
