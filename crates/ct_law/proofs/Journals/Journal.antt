-- A journal that grows by one event.
use Rattle.std.proofs.Common.{◌≡◌, ℕ, ◌+◌, ◌⊎◌, inl, inr, Bool, true, false, ◌||◌, List, [], ◌∷◌, ◌++◌, refl, sym, ap}
use Rattle.std.proofs.Common.{◌∙◌, subst, ⊎_elim, arith, ne_eqb, cond, append_assoc, append-nil}
use Rattle.std.proofs.lemmas.Bool.{or_from, or_left, or_right, both_ways}
use Rattle.ct_book.specs.declared.event.Event.{Event}
use Rattle.ct_book.specs.declared.event.Event.TheVariants as event
use Rattle.ct_book.specs.declared.event.Why.TheVariants.{By, Medium}
use Rattle.ct_book.specs.declared.event.Logged.{Logged}
use Rattle.ct_book.specs.Histories.{cut_at, cut_by}
use Rattle.ct_machine.specs.Laws.Journals.{EachBehind, has, is_entry, is_begin, is_start, is_enter, is_asked, made_at}
use Rattle.ct_machine.specs.Laws.Journals.{made_by, comes_first}

pub each_more : (P : List Logged → Logged → Type 0) (before es : List Logged) (e : Logged) → EachBehind P before es →
    P (before ++ es) e → EachBehind P before (es ++ e ∷ [])
each_more P before [] e h p = (subst (λ b. P b e) (append-nil before) p, tt)
each_more P before (x ∷ es) e h p =
    (h.0, each_more P (before ++ x ∷ []) es e h.1 (subst (λ b. P b e) (sym (append_assoc before (x ∷ []) es)) p))

pub each_front : (P : List Logged → Logged → Type 0) (before es : List Logged) (e : Logged) →
    EachBehind P before (es ++ e ∷ []) → EachBehind P before es
each_front P before [] e h = tt
each_front P before (x ∷ es) e h = (h.0, each_front P (before ++ x ∷ []) es e h.1)

pub each_last : (P : List Logged → Logged → Type 0) (before es : List Logged) (e : Logged) →
    EachBehind P before (es ++ e ∷ []) → P (before ++ es) e
each_last P before [] e h = subst (λ b. P b e) (sym (append-nil before)) h.0
each_last P before (x ∷ es) e h =
    subst (λ b. P b e) (append_assoc before (x ∷ []) es) (each_last P (before ++ x ∷ []) es e h.1)

pub has_more : (p : Event → Bool) (es : List Logged) (e : Logged) → has p (es ++ e ∷ []) ≡ (has p es || p e.event)
has_more p [] e = go (p e.event)
  where
    go : (t : Bool) → (t || false) ≡ (false || t)
    go true = refl
    go false = refl
has_more p (x ∷ es) e = go (p x.event) (has_more p es e)
  where
    go : (t : Bool) → has p (es ++ e ∷ []) ≡ (has p es || p e.event) →
        (t || has p (es ++ e ∷ [])) ≡ ((t || has p es) || p e.event)
    go true h = refl
    go false h = h

pub has_stays : (p : Event → Bool) (es : List Logged) (e : Logged) → has p es ≡ true → has p (es ++ e ∷ []) ≡ true
has_stays p es e h = has_more p es e ∙ or_left _ _ h

pub has_now : (p : Event → Bool) (es : List Logged) (e : Logged) → p e.event ≡ true → has p (es ++ e ∷ []) ≡ true
has_now p es e h = has_more p es e ∙ or_right (has p es) _ h

pub has_not : (p : Event → Bool) (es : List Logged) (e : Logged) → has p es ≡ false → p e.event ≡ false →
    has p (es ++ e ∷ []) ≡ false
has_not p es e h i = has_more p es e ∙ or_from _ _ h i

pub has_same : (p : Event → Bool) (es : List Logged) (e : Logged) → p e.event ≡ false → has p (es ++ e ∷ []) ≡ has p es
has_same p es e i = has_more p es e ∙ go (has p es) (p e.event) i
  where
    go : (t s : Bool) → s ≡ false → (t || s) ≡ t
    go true s k = refl
    go false s k = k

-- what has not started has not begun
pub unstarted : (n : ℕ) (es : List Logged) → has (is_start n) es ≡ false → has (is_begin n) es ≡ false
unstarted n [] none = refl
unstarted n (x ∷ es) none = go (is_start n x.event) (is_begin n x.event) (one x.event) none (unstarted n es)
  where
    one : (e : Event) → is_start n e ≡ false → is_begin n e ≡ false
    one (event.Begun number) k = k
    one (event.Granted number) k = k
    one (event.Ended number) k = refl
    one (event.Came number node line) k = refl
    one (event.Enter number) k = refl
    one (event.Turned number) k = refl
    one (event.Moved number count) k = refl
    one (event.Cut number puts why told) k = refl
    one (event.Asked number) k = refl
    one (event.Closed number outcome) k = refl
    one (event.Deliver node kind number) k = refl

    go : (t u : Bool) → (t ≡ false → u ≡ false) → (t || has (is_start n) es) ≡ false
        → (has (is_start n) es ≡ false → has (is_begin n) es ≡ false) → (u || has (is_begin n) es) ≡ false
    go true u less k rest = absurd (cc)
    go false u less k rest = ap (λ z. z || has (is_begin n) es) (less refl) ∙ rest k

pub made_more : (n : ℕ) (es : List Logged) (e : Logged) → made_by n (es ++ e ∷ []) ≡ made_by n es + made_at n e.event
made_more n [] e = omega arith
made_more n (x ∷ es) e = let h = made_more n es e in omega (arith, h)

pub cut_more : (n : ℕ) (es : List Logged) (e : Logged) → cut_by n (es ++ e ∷ []) ≡ cut_by n es ++ cut_at n e.event
cut_more n [] e = append-nil (cut_at n e.event)
cut_more n (x ∷ es) e =
    ap (λ l. cut_at n x.event ++ l) (cut_more n es e) ∙ sym
    (append_assoc (cut_at n x.event) (cut_by n es) (cut_at n e.event))

-- which of two comes first
pub first_more : (p q : Event → Bool) (es : List Logged) (e : Logged) → comes_first p q (es ++ e ∷ []) ≡ true →
    (comes_first p q es ≡ true) ⊎ ((p e.event ≡ true) × (q e.event ≡ false) × (has q es ≡ false))
first_more p q [] e h = go (q e.event) (p e.event) refl refl h
  where
    go : (s t : Bool) → q e.event ≡ s → p e.event ≡ t → cond s false (t || false) ≡ true →
        (false ≡ true) ⊎ ((p e.event ≡ true) × (q e.event ≡ false) × (false ≡ false))
    go true t es' et h = absurd (cc)
    go false true es' et h = inr (et, es', refl)
    go false false es' et h = absurd (cc)
first_more p q (x ∷ es) e h = go (q x.event) (p x.event) h (first_more p q es e)
  where
    go : (s t : Bool) → cond s false (t || comes_first p q (es ++ e ∷ [])) ≡ true →
        (comes_first p q (es ++ e ∷ []) ≡ true →
        (comes_first p q es ≡ true) ⊎ ((p e.event ≡ true) × (q e.event ≡ false) × (has q es ≡ false))) →
        (cond s false (t || comes_first p q es) ≡ true)
        ⊎ ((p e.event ≡ true) × (q e.event ≡ false) × ((s || has q es) ≡ false))
    go true t h rec = absurd (cc)
    go false true h rec = inl refl
    go false false h rec = rec h

pub first_old : (p q : Event → Bool) (es : List Logged) (e : Logged) → p e.event ≡ false →
    comes_first p q (es ++ e ∷ []) ≡ true → comes_first p q es ≡ true
first_old p q es e n h =
    ⊎_elim (λ k. k) (λ (k : (p e.event ≡ true) × (q e.event ≡ false) × (has q es ≡ false)). absurd
    (both_ways (p e.event) n k.0)) (first_more p q es e h)

pub first_stays : (p q : Event → Bool) (es : List Logged) (e : Logged) → has q es ≡ true →
    comes_first p q (es ++ e ∷ []) ≡ true → comes_first p q es ≡ true
first_stays p q es e n h =
    ⊎_elim (λ k. k) (λ (k : (p e.event ≡ true) × (q e.event ≡ false) × (has q es ≡ false)). absurd
    (both_ways (has q es) k.2 n)) (first_more p q es e h)

pub first_has : (p q : Event → Bool) (es : List Logged) → comes_first p q es ≡ true → has p es ≡ true
first_has p q [] h = h
first_has p q (x ∷ es) h = go (q x.event) (p x.event) h (first_has p q es)
  where
    go : (s t : Bool) → cond s false (t || comes_first p q es) ≡ true → (comes_first p q es ≡ true → has p es ≡ true) →
        (t || has p es) ≡ true
    go true t h rec = absurd (cc)
    go false true h rec = refl
    go false false h rec = rec h

-- an event that says nothing of this number
pub record Quiet (n : ℕ) (e : Event) : Type 0 where
  pub entry : is_entry n e ≡ false
  pub begin : is_begin n e ≡ false
  pub enter : is_enter n e ≡ false
  pub asking : is_asked n e ≡ false
  pub made : made_at n e ≡ 0
  pub cut : cut_at n e ≡ []

pub record Untouched (n : ℕ) (journal : List Logged) : Type 0 where
  pub entry : has (is_entry n) journal ≡ false
  pub begin : has (is_begin n) journal ≡ false
  pub enter : has (is_enter n) journal ≡ false
  pub asking : has (is_asked n) journal ≡ false
  pub made : made_by n journal ≡ 0
  pub cut : cut_by n journal ≡ []

pub untouched_more : (n : ℕ) (es : List Logged) (e : Logged) → Untouched n es → Quiet n e.event →
    Untouched n (es ++ e ∷ [])
untouched_more n es e u q = record {
  entry = has_not (is_entry n) es e u.entry q.entry;
  begin = has_not (is_begin n) es e u.begin q.begin;
  enter = has_not (is_enter n) es e u.enter q.enter;
  asking = has_not (is_asked n) es e u.asking q.asking;
  made = let m = made_more n es e in omega (arith, m, u.made, q.made);
  cut = cut_more n es e ∙ ap (λ l. l ++ cut_at n e.event) u.cut ∙ q.cut;
}

-- the numbers that an event is about
abbrev pub IsOf : Event → ℕ → Type 0
IsOf (event.Came m node line) n = ⊥
IsOf (event.Enter m) n = m ≡ n
IsOf (event.Turned m) n = m ≡ n
IsOf (event.Begun m) n = m ≡ n
IsOf (event.Granted m) n = m ≡ n
IsOf (event.Moved m k) n = m ≡ n
IsOf (event.Ended m) n = m ≡ n
IsOf (event.Cut m k Medium told) n = m ≡ n
IsOf (event.Cut m k (By f) told) n = (m ≡ n) ⊎ (f ≡ n)
IsOf (event.Asked m) n = m ≡ n
IsOf (event.Closed m c) n = m ≡ n
IsOf (event.Deliver node kind m) n = ⊥

quiet_alone : (n : ℕ) (e : Event) → is_entry n e ≡ false → is_begin n e ≡ false → is_enter n e ≡ false →
    is_asked n e ≡ false → made_at n e ≡ 0 → cut_at n e ≡ [] → Quiet n e
quiet_alone n e a b c d m k = record { entry = a; begin = b; enter = c; asking = d; made = m; cut = k }

pub quiet : (n : ℕ) (e : Event) → (IsOf e n → ⊥) → Quiet n e
quiet n (event.Came m node line) f = quiet_alone n (event.Came m node line) refl refl refl refl refl refl
quiet n (event.Enter m) f = quiet_alone n (event.Enter m) refl refl (ne_eqb m n f) refl refl refl
quiet n (event.Turned m) f = quiet_alone n (event.Turned m) (ne_eqb m n f) refl refl refl refl refl
quiet n (event.Begun m) f = quiet_alone n (event.Begun m) refl (ne_eqb m n f) refl refl refl refl
quiet n (event.Granted m) f = quiet_alone n (event.Granted m) refl (ne_eqb m n f) refl refl refl refl
quiet n (event.Moved m k) f =
    quiet_alone n (event.Moved m k) refl refl refl refl (ap (λ t. cond t k 0) (ne_eqb m n f)) refl
quiet n (event.Ended m) f = quiet_alone n (event.Ended m) (ne_eqb m n f) refl refl refl refl refl
quiet n (event.Cut m k Medium told) f =
    quiet_alone n (event.Cut m k Medium told) (ne_eqb m n f) refl refl refl refl refl
quiet n (event.Cut m k (By g) told) f =
    quiet_alone n (event.Cut m k (By g) told) (ne_eqb m n (λ e. f (inl e))) refl refl refl refl
    (ap (λ t. cond t (m ∷ []) []) (ne_eqb g n (λ e. f (inr e))))
quiet n (event.Asked m) f = quiet_alone n (event.Asked m) refl refl refl (ne_eqb m n f) refl refl
quiet n (event.Closed m c) f = quiet_alone n (event.Closed m c) (ne_eqb m n f) refl refl refl refl refl
quiet n (event.Deliver node kind m) f = quiet_alone n (event.Deliver node kind m) refl refl refl refl refl refl
