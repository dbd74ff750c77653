-- Totals over views, and the places that ranges have.
use Rattle.std.proofs.Common.{◌≡◌, ◌≢◌, ℕ, zero, suc, ◌+◌, ◌-◌, ◌<◌, ◌≤◌, List, [], ◌∷◌, ◌++◌, set, sym, refl, ap, ◌∙◌, subst, ⊎_elim, arith, lt_of_not-le}
use Rattle.std.proofs.lemmas.Bool.Decides.{nat_tests}
use mathlib.Core.Logic.{dite}
use native.Mathlib.Decide.{dec_le}
use mathlib.Core.Option.{some, some-injective, some-ne-none}
use lib.ListN.{get_elem?}
use Rattle.atomic_table.proofs.Lists.{at_set, at_snoc}
use Rattle.ct_turn.specs.declared.view.Item.{Item}
use Rattle.ct_turn.specs.declared.view.Known.{Known}
use Rattle.ct_turn.specs.Rules.{total, Shares}
use Rattle.ct_turn.specs.Seats.{once_below, covers, NoneTwice, IsWhole, item}
use Rattle.ct_turn.specs.Steps.{spent}

module _ {V : Type 0} (f : V → ℕ) where
  pub total_set : (vs : List V) (i : ℕ) (v w : V) → get_elem? vs i ≡ some v → total f (set vs i w) + f v ≡ total f vs + f w
  total_set [] i v w e = absurd (some-ne-none v (sym e))
  total_set (x ∷ xs) zero v w e = let same : f x ≡ f v = ap f (some-injective x v e) in omega arith
  total_set (x ∷ xs) (suc i) v w e = let h = total_set xs i v w e in omega arith

  pub total_snoc : (vs : List V) (w : V) → total f (vs ++ w ∷ []) ≡ total f vs + f w
  total_snoc [] w = omega arith
  total_snoc (x ∷ xs) w = let h = total_snoc xs w in omega arith

  pub one_of_total : (vs : List V) (i : ℕ) (v : V) → get_elem? vs i ≡ some v → f v ≤ total f vs
  one_of_total [] i v e = absurd (some-ne-none v (sym e))
  one_of_total (x ∷ xs) zero v e = let same : f x ≡ f v = ap f (some-injective x v e) in omega arith
  one_of_total (x ∷ xs) (suc i) v e = let h = one_of_total xs i v e in omega arith

pub once_rises : (k n m : ℕ) → n ≤ m → once_below k n ≤ once_below k m
once_rises k n m h = grind (arith, nat_tests)

pub once_once : (k n : ℕ) → once_below k n ≤ 1
once_once k n = grind (arith, nat_tests)

pub once_past : (k n : ℕ) → n ≤ k → once_below k n ≡ 0
once_past k n h = grind (arith, nat_tests)

pub once_in : (k n : ℕ) → k < n → once_below k n ≡ 1
once_in k n h = grind (arith, nat_tests)

module _ {A B : Type 0} where
  pub covers_append : (k : ℕ) (xs ys : List (Item A B)) → covers k (xs ++ ys) ≡ covers k xs + covers k ys
  covers_append k [] ys = omega arith
  covers_append k (x ∷ xs) ys = let h = covers_append k xs ys in omega arith

module _ (O E A B : Type 0) where
  abbrev V : Type 0
  V = Known O E A B

  abbrev parts_of : V → ℕ
  parts_of v = v.parts

  abbrev covers_of : ℕ → V → ℕ
  covers_of k v = covers k v.own

  idle_set : (vs : List V) (i : ℕ) (w : V) → (w.parts ≡ 0 → w.own ≡ []) → ((j : ℕ) (v : V) → get_elem? vs j ≡ some v → v.parts ≡ 0 → v.own ≡ [])
      → (j : ℕ) (v : V) → get_elem? (set vs i w) j ≡ some v → v.parts ≡ 0 → v.own ≡ []
  idle_set vs i w mine others j v e z = ⊎_elim (λ (t : (j ≡ i) × (w ≡ v)). subst (λ (x : V). x.parts ≡ 0 → x.own ≡ []) t.1 mine z) (λ (t : (j ≢ i) × (get_elem? vs j ≡ some v)). others j v t.1 z) (at_set vs i j w v e)

  -- a step that changes no part and adds no item
  pub shares_same : (n : ℕ) (vs : List V) (i : ℕ) (v w : V) → get_elem? vs i ≡ some v → w.parts ≡ v.parts → w.own ≡ v.own → Shares n vs → Shares n (set vs i w)
  shares_same n vs i v w e p o r = record {
    parts = (let h = total_set parts_of vs i v w e in let q = r.parts in omega arith);
    idle = idle_set vs i w (λ z. o ∙ r.idle i v e (sym p ∙ z)) r.idle;
    counts = λ k. (let h = total_set (covers_of k) vs i v w e in let q = r.counts k in let same : covers k w.own ≡ covers k v.own = ap (covers k) o in omega arith);
  }

  -- an item with the range from n to m is added
  pub shares_more : (n m : ℕ) (vs : List V) (i : ℕ) (v w : V) (a : A) (b : B) → n ≤ m → get_elem? vs i ≡ some v → w.parts ≡ v.parts → 0 < v.parts → w.own ≡ v.own ++ item a b n m ∷ [] → Shares n vs → Shares m (set vs i w)
  shares_more n m vs i v w a b le e p pos o r = record {
    parts = (let h = total_set parts_of vs i v w e in let q = r.parts in omega arith);
    idle = idle_set vs i w (λ z. absurd (omega arith)) r.idle;
    counts = λ k. (
        let h = total_set (covers_of k) vs i v w e in
        let q = r.counts k in
        let up = once_rises k n m le in
        let same : covers k w.own ≡ covers k v.own + (once_below k m - once_below k n + 0) = ap (covers k) o ∙ covers_append k v.own (item a b n m ∷ []) in
        omega arith);
  }

  -- parts are cut from a seat's, for a new one with no item
  pub shares_split : (n : ℕ) (vs : List V) (i : ℕ) (v l r : V) → get_elem? vs i ≡ some v → l.parts + r.parts ≡ v.parts → l.own ≡ v.own → (l.parts ≡ 0 → l.own ≡ []) → r.own ≡ [] → Shares n vs → Shares n (set vs i l ++ r ∷ [])
  shares_split n vs i v l r e p o some_left none h = record {
    parts = (let a = total_set parts_of vs i v l e in let b = total_snoc parts_of (set vs i l) r in let q = h.parts in omega arith);
    idle = λ j x at z. ⊎_elim (λ (t : get_elem? (set vs i l) j ≡ some x). idle_set vs i l some_left h.idle j x t z) (λ (t : r ≡ x). ap (λ (y : V). y.own) (sym t) ∙ none) (at_snoc (set vs i l) r x j at);
    counts = λ k. (
        let a = total_set (covers_of k) vs i v l e in
        let b = total_snoc (covers_of k) (set vs i l) r in
        let q = h.counts k in
        let same : covers k l.own ≡ covers k v.own = ap (covers k) o in
        let zero_r : covers k r.own ≡ 0 = ap (covers k) none in
        omega arith);
  }

  -- one seat takes in another's parts and items
  pub shares_join : (n : ℕ) (vs : List V) (i j : ℕ) (v w b s : V) → get_elem? vs i ≡ some v → get_elem? vs j ≡ some w → get_elem? (set vs i b) j ≡ some w → b.parts ≡ v.parts + w.parts → b.own ≡ v.own ++ w.own → s.parts ≡ 0 → s.own ≡ []
      → Shares n vs → Shares n (set (set vs i b) j s)
  shares_join n vs i j v w b s e f g p o none none' h = record {
    parts = (let x = total_set parts_of vs i v b e in let y = total_set parts_of (set vs i b) j w s g in let q = h.parts in omega arith);
    idle = idle_set (set vs i b) j s (λ _. none') (idle_set vs i b (λ z. o ∙ (ap (λ l. l ++ w.own) (h.idle i v e (omega arith)) ∙ h.idle j w f (omega arith))) h.idle);
    counts = λ k. (
        let x = total_set (covers_of k) vs i v b e in
        let y = total_set (covers_of k) (set vs i b) j w s g in
        let q = h.counts k in
        let sum : covers k b.own ≡ covers k v.own + covers k w.own = ap (covers k) o ∙ covers_append k v.own w.own in
        let zero_s : covers k s.own ≡ 0 = ap (covers k) none' in
        omega arith);
  }

  -- no place lies in two ranges of one seat
  pub own_once : (n : ℕ) (vs : List V) (i : ℕ) (v : V) → get_elem? vs i ≡ some v → Shares n vs → NoneTwice v.own
  own_once n vs i v e h k = let a = one_of_total (covers_of k) vs i v e in let b = h.counts k in let c = once_once k n in omega arith

  none_left : (k : ℕ) (vs : List V) → total parts_of vs ≡ 0 → ((j : ℕ) (v : V) → get_elem? vs j ≡ some v → v.parts ≡ 0 → v.own ≡ []) → total (covers_of k) vs ≡ 0
  none_left k [] sum idle = refl
  none_left k (x ∷ xs) sum idle = let first : covers k x.own ≡ 0 = ap (covers k) (idle 0 x refl (omega arith)) in let rest = none_left k xs (omega arith) (λ j. idle (suc j)) in omega arith

  -- the items of the seat with all parts have each place of the journal, once
  pub all_own : (n : ℕ) (vs : List V) (i : ℕ) (v : V) → get_elem? vs i ≡ some v → v.parts ≡ 4096 → Shares n vs → (k : ℕ) → covers k v.own ≡ once_below k n
  all_own n vs i v e all h k =
      let s : V = spent in
      let x = total_set parts_of vs i v s e in
      let y = total_set (covers_of k) vs i v s e in
      let p = h.parts in
      let q = h.counts k in
      let none = none_left k (set vs i s) (omega arith) (idle_set vs i s (λ _. refl) h.idle) in
      omega arith

module _ {A B : Type 0} where
  -- a place that some range has lies in the range of an item
  pub item_at : (k : ℕ) (xs : List (Item A B)) → 0 < covers k xs → (i : ℕ) × (x : Item A B) × (get_elem? xs i ≡ some x) × (x.from ≤ k) × (k < x.to)
  item_at k [] h = absurd (omega arith)
  item_at k (x ∷ xs) h = dite (dec_le x.from k)
      (λ le. dite (dec_le x.to k)
      (λ past. let none_here : once_below k x.to ≡ 0 = once_past k x.to past in let t = item_at k xs (omega arith) in (suc t.0, t.1, t.2, t.3, t.4))
      (λ no. (0, x, refl, le, lt_of_not-le no)))
      (λ no. let before : k < x.from = lt_of_not-le no in let one : once_below k x.from ≡ 1 = once_in k x.from before in let top = once_once k x.to in let t = item_at k xs (omega arith) in (suc t.0, t.1, t.2, t.3, t.4))

  -- where the ranges cover the journal, each place of it lies in the range of an item
  pub covered : (xs : List (Item A B)) (n : ℕ) → IsWhole xs n → (k : ℕ) → k < n → (i : ℕ) × (x : Item A B) × (get_elem? xs i ≡ some x) × (x.from ≤ k) × (k < x.to)
  covered xs n whole k lt = let one = once_in k n lt in let here = whole k in item_at k xs (omega arith)
