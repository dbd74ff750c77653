-- The task set after a change.
use Rattle.std.proofs.Common.{◌≡◌, ℕ, ◌⊎◌, inl, inr, Bool, true, false, ◌||◌, List, [], ◌∷◌, ◌++◌, Some, refl, sym, ap}
use Rattle.std.proofs.Common.{◌∙◌, subst, ⊎_elim, nat_eq, cond, eqb-true, eq-eqb}
use Rattle.std.proofs.lemmas.Bool.{both_ways, eqb-false, or_left, or_right}
use Rattle.ct_matrix.specs.Conflicts.{is_head}
use Rattle.ct_matrix.specs.Queues.{before_first}
use Rattle.ct_machine.specs.States.{Task, is_waiting, task_of, without_task, with_task, waits, queued}

-- the item stands in the queue
abbrev pub Has : List Task → Task → Type 0
Has [] x = ⊥
Has (y ∷ ys) x = (y ≡ x) ⊎ Has ys x

pub has_found : (n : ℕ) (q : List Task) (x : Task) → task_of n q ≡ Some x → Has q x × (x.no ≡ n)
has_found n [] x e = cc
has_found n (y ∷ ys) x e = go (nat_eq y.no n) refl e (has_found n ys x)
  where
    go : (t : Bool) → nat_eq y.no n ≡ t → cond t (Some y) (task_of n ys) ≡ Some x →
        (task_of n ys ≡ Some x → Has ys x × (x.no ≡ n)) → Has (y ∷ ys) x × (x.no ≡ n)
    go true h e rec = let same : y ≡ x = cc in (inl same, ap (λ (z : Task). z.no) (sym same) ∙ eqb-true y.no n h)
    go false h e rec = let r = rec e in (inr r.0, r.1)

pub has_without : (n : ℕ) (q : List Task) (x : Task) → Has (without_task n q) x → Has q x × (x.no ≡ n → ⊥)
has_without n [] x h = absurd h
has_without n (y ∷ ys) x h = go (nat_eq y.no n) refl h (has_without n ys x)
  where
    go : (t : Bool) → nat_eq y.no n ≡ t → Has (cond t (without_task n ys) (y ∷ without_task n ys)) x →
        (Has (without_task n ys) x → Has ys x × (x.no ≡ n → ⊥)) → Has (y ∷ ys) x × (x.no ≡ n → ⊥)
    go true e h rec = let r = rec h in (inr r.0, r.1)
    go false e (inl h) rec = (inl h, λ k. eqb-false y.no n e (ap (λ (z : Task). z.no) h ∙ k))
    go false e (inr h) rec = let r = rec h in (inr r.0, r.1)

pub without_has : (n : ℕ) (q : List Task) (x : Task) → Has q x → (x.no ≡ n → ⊥) → Has (without_task n q) x
without_has n [] x h ne = absurd h
without_has n (y ∷ ys) x h ne = go (nat_eq y.no n) refl h (λ h'. without_has n ys x h' ne)
  where
    go : (t : Bool) → nat_eq y.no n ≡ t → Has (y ∷ ys) x → (Has ys x → Has (without_task n ys) x) →
        Has (cond t (without_task n ys) (y ∷ without_task n ys)) x
    go true e (inl h) rec = absurd (ne (ap (λ (z : Task). z.no) (sym h) ∙ eqb-true y.no n e))
    go true e (inr h) rec = rec h
    go false e (inl h) rec = inl h
    go false e (inr h) rec = inr (rec h)

pub has_with : (w : Task) (q : List Task) (x : Task) → Has (with_task w q) x → (w ≡ x) ⊎ (Has q x × (x.no ≡ w.no → ⊥))
has_with w [] x h = absurd h
has_with w (y ∷ ys) x (inr h) =
    ⊎_elim inl (λ (r : Has ys x × (x.no ≡ w.no → ⊥)). inr (inr r.0, r.1)) (has_with w ys x h)
has_with w (y ∷ ys) x (inl h) = go (nat_eq y.no w.no) refl h
  where
    go : (t : Bool) → nat_eq y.no w.no ≡ t → cond t w y ≡ x → (w ≡ x) ⊎ (Has (y ∷ ys) x × (x.no ≡ w.no → ⊥))
    go true e h = inl h
    go false e h = inr (inl h, λ k. eqb-false y.no w.no e (ap (λ (z : Task). z.no) h ∙ k))

pub with_has : (w : Task) (q : List Task) (x : Task) → Has q x → (x.no ≡ w.no → ⊥) → Has (with_task w q) x
with_has w [] x h ne = absurd h
with_has w (y ∷ ys) x (inr h) ne = inr (with_has w ys x h ne)
with_has w (y ∷ ys) x (inl h) ne = go (nat_eq y.no w.no) refl
  where
    go : (t : Bool) → nat_eq y.no w.no ≡ t → (cond t w y ≡ x) ⊎ Has (with_task w ys) x
    go true e = absurd (ne (ap (λ (z : Task). z.no) (sym h) ∙ eqb-true y.no w.no e))
    go false e = inl h

pub with_itself : (w : Task) (q : List Task) (x : Task) → Has q x → x.no ≡ w.no → Has (with_task w q) w
with_itself w [] x h e = absurd h
with_itself w (y ∷ ys) x (inr h) e = inr (with_itself w ys x h e)
with_itself w (y ∷ ys) x (inl h) e = go (nat_eq y.no w.no) refl
  where
    go : (t : Bool) → nat_eq y.no w.no ≡ t → (cond t w y ≡ w) ⊎ Has (with_task w ys) w
    go true k = inl refl
    go false k = absurd (eqb-false y.no w.no k (ap (λ (z : Task). z.no) h ∙ e))

pub has_push : (q : List Task) (w x : Task) → Has (q ++ w ∷ []) x → Has q x ⊎ (w ≡ x)
has_push [] w x (inl h) = inr h
has_push [] w x (inr h) = absurd h
has_push (y ∷ q) w x (inl h) = inl (inl h)
has_push (y ∷ q) w x (inr h) = ⊎_elim (λ (r : Has q x). inl (inr r)) inr (has_push q w x h)

pub push_has : (q : List Task) (w x : Task) → Has q x → Has (q ++ w ∷ []) x
push_has [] w x h = absurd h
push_has (y ∷ q) w x (inl h) = inl h
push_has (y ∷ q) w x (inr h) = inr (push_has q w x h)

-- a new item in its place
before_or : (t : Bool) (x y : Task) (ys q : List Task) (z : Task) → (Has q z → Has ys z ⊎ (x ≡ z)) →
    Has (cond t (x ∷ y ∷ ys) (y ∷ q)) z → Has (y ∷ ys) z ⊎ (x ≡ z)
before_or true x y ys q z f (inl h) = inr h
before_or true x y ys q z f (inr h) = inl h
before_or false x y ys q z f (inl h) = inl (inl h)
before_or false x y ys q z f (inr h) = ⊎_elim (λ k. inl (inr k)) inr (f h)

has_before : (x : Task) (q : List Task) (z : Task) → Has (before_first waits x q) z → Has q z ⊎ (x ≡ z)
has_before x [] z (inl h) = inr h
has_before x [] z (inr h) = absurd h
has_before x (y ∷ ys) z h = before_or (is_waiting y.stage) x y ys (before_first waits x ys) z (has_before x ys z) h

pub has_queued : (x : Task) (q : List Task) (z : Task) → Has (queued x q) z → Has q z ⊎ (x ≡ z)
has_queued x q z h = go (is_head x.command.attr) h
  where
    go : (t : Bool) → Has (cond t (before_first waits x q) (q ++ x ∷ [])) z → Has q z ⊎ (x ≡ z)
    go true h = has_before x q z h
    go false h = has_push q x z h

before_has : (x : Task) (q : List Task) (z : Task) → Has q z → Has (before_first waits x q) z
before_has x [] z h = absurd h
before_has x (y ∷ ys) z h = go (is_waiting y.stage) h (before_has x ys z)
  where
    go : (t : Bool) → Has (y ∷ ys) z → (Has ys z → Has (before_first waits x ys) z) →
        Has (cond t (x ∷ y ∷ ys) (y ∷ before_first waits x ys)) z
    go true h rec = inr h
    go false (inl h) rec = inl h
    go false (inr h) rec = inr (rec h)

pub queued_has : (x : Task) (q : List Task) (z : Task) → Has q z → Has (queued x q) z
queued_has x q z h = go (is_head x.command.attr)
  where
    go : (t : Bool) → Has (cond t (before_first waits x q) (q ++ x ∷ [])) z
    go true = before_has x q z h
    go false = push_has q x z h

push_itself : (q : List Task) (x : Task) → Has (q ++ x ∷ []) x
push_itself [] x = inl refl
push_itself (y ∷ q) x = inr (push_itself q x)

before_itself : (x : Task) (q : List Task) → Has (before_first waits x q) x
before_itself x [] = inl refl
before_itself x (y ∷ ys) = go (is_waiting y.stage) (before_itself x ys)
  where
    go : (t : Bool) → Has (before_first waits x ys) x → Has (cond t (x ∷ y ∷ ys) (y ∷ before_first waits x ys)) x
    go true h = inl refl
    go false h = inr h

pub queued_itself : (x : Task) (q : List Task) → Has (queued x q) x
queued_itself x q = go (is_head x.command.attr)
  where
    go : (t : Bool) → Has (cond t (before_first waits x q) (q ++ x ∷ [])) x
    go true = before_itself x q
    go false = push_itself q x

-- the order of two numbers
abbrev pub precedes : ℕ → ℕ → List Task → Bool
precedes a b [] = false
precedes a b (x ∷ xs) = cond (nat_eq x.no b) false (nat_eq x.no a || precedes a b xs)

precedes_cons : (a b : ℕ) (x : Task) (xs ys : List Task) → (precedes a b xs ≡ true → precedes a b ys ≡ true) →
    precedes a b (x ∷ xs) ≡ true → precedes a b (x ∷ ys) ≡ true
precedes_cons a b x xs ys f = go (nat_eq x.no b) (nat_eq x.no a)
  where
    go : (s t : Bool) → cond s false (t || precedes a b xs) ≡ true → cond s false (t || precedes a b ys) ≡ true
    go true t e = e
    go false true e = refl
    go false false e = f e

pub precedes_without : (a b n : ℕ) (q : List Task) → (a ≡ n → ⊥) → precedes a b q ≡ true →
    precedes a b (without_task n q) ≡ true
precedes_without a b n [] ne e = e
precedes_without a b n (x ∷ xs) ne e = go (nat_eq x.no n) refl (precedes_without a b n xs ne)
  where
    drops : (s t : Bool) → (t ≡ true → ⊥) → cond s false (t || precedes a b xs) ≡ true → precedes a b xs ≡ true
    drops true t f e = cc
    drops false true f e = absurd (f refl)
    drops false false f e = e

    go : (t : Bool) → nat_eq x.no n ≡ t → (precedes a b xs ≡ true → precedes a b (without_task n xs) ≡ true) →
        precedes a b (cond t (without_task n xs) (x ∷ without_task n xs)) ≡ true
    go true k rec =
        rec (drops (nat_eq x.no b) (nat_eq x.no a) (λ h. ne (sym (eqb-true x.no a h) ∙ eqb-true x.no n k)) e)
    go false k rec = precedes_cons a b x xs (without_task n xs) rec e

pub precedes_with : (a b : ℕ) (w : Task) (q : List Task) → precedes a b (with_task w q) ≡ precedes a b q
precedes_with a b w [] = refl
precedes_with a b w (x ∷ xs) =
    ap (λ n. cond (nat_eq n b) false (nat_eq n a || precedes a b (with_task w xs))) (go (nat_eq x.no w.no) refl) ∙ ap
    (λ r. cond (nat_eq x.no b) false (nat_eq x.no a || r)) (precedes_with a b w xs)
  where
    go : (t : Bool) → nat_eq x.no w.no ≡ t → (cond t w x).no ≡ x.no
    go true k = sym (eqb-true x.no w.no k)
    go false k = refl

-- old ones keep their order
precedes_push : (a b : ℕ) (q : List Task) (w : Task) → precedes a b q ≡ true → precedes a b (q ++ w ∷ []) ≡ true
precedes_push a b [] w e = cc
precedes_push a b (x ∷ xs) w e = precedes_cons a b x xs (xs ++ w ∷ []) (precedes_push a b xs w) e

precedes_before : (a b : ℕ) (q : List Task) (w : Task) → (w.no ≡ b → ⊥) → precedes a b q ≡ true →
    precedes a b (before_first waits w q) ≡ true
precedes_before a b [] w ne e = cc
precedes_before a b (x ∷ xs) w ne e = go (is_waiting x.stage) (precedes_before a b xs w ne)
  where
    under : (s t : Bool) → (s ≡ true → ⊥) → (r : Bool) → r ≡ true → cond s false (t || r) ≡ true
    under true t f r h = absurd (f refl)
    under false true f r h = refl
    under false false f r h = h

    go : (t : Bool) → (precedes a b xs ≡ true → precedes a b (before_first waits w xs) ≡ true) →
        precedes a b (cond t (w ∷ x ∷ xs) (x ∷ before_first waits w xs)) ≡ true
    go true rec = under (nat_eq w.no b) (nat_eq w.no a) (λ h. ne (eqb-true w.no b h)) (precedes a b (x ∷ xs)) e
    go false rec = precedes_cons a b x xs (before_first waits w xs) rec e

pub precedes_queued : (a b : ℕ) (q : List Task) (w : Task) → (w.no ≡ b → ⊥) → precedes a b q ≡ true →
    precedes a b (queued w q) ≡ true
precedes_queued a b q w ne e = go (is_head w.command.attr)
  where
    go : (t : Bool) → precedes a b (cond t (before_first waits w q) (q ++ w ∷ [])) ≡ true
    go true = precedes_before a b q w ne e
    go false = precedes_push a b q w e

-- a new one at the end stands behind each other
precedes_last : (q : List Task) (x w : Task) → Has q x → ((y : Task) → Has q y → y.no ≡ w.no → ⊥) →
    precedes x.no w.no (q ++ w ∷ []) ≡ true
precedes_last [] x w h new = absurd h
precedes_last (y ∷ ys) x w h new = go (nat_eq y.no w.no) refl h (λ h'. precedes_last ys x w h' (λ z hz. new z (inr hz)))
  where
    go : (t : Bool) → nat_eq y.no w.no ≡ t → Has (y ∷ ys) x → (Has ys x → precedes x.no w.no (ys ++ w ∷ []) ≡ true) →
        cond t false (nat_eq y.no x.no || precedes x.no w.no (ys ++ w ∷ [])) ≡ true
    go true k h rec = absurd (new y (inl refl) (eqb-true y.no w.no k))
    go false k (inl h) rec = or_left _ _ (eq-eqb y.no x.no (ap (λ (z : Task). z.no) h))
    go false k (inr h) rec = or_right _ _ (rec h)

pub last_queued : (q : List Task) (x w : Task) → is_head w.command.attr ≡ false → Has q x →
    ((y : Task) → Has q y → y.no ≡ w.no → ⊥) → precedes x.no w.no (queued w q) ≡ true
last_queued q x w e h new =
    subst (λ t. precedes x.no w.no (cond t (before_first waits w q) (q ++ w ∷ [])) ≡ true) (sym e)
    (precedes_last q x w h new)

-- a new HEAD OF QUEUE command stands ahead of each that waits
precedes_waiting : (q : List Task) (w y : Task) → Has q y → is_waiting y.stage ≡ true → (w.no ≡ y.no → ⊥) →
    ((x : Task) → Has q x → x.no ≡ y.no → x ≡ y) → precedes w.no y.no (before_first waits w q) ≡ true
precedes_waiting [] w y h wy ne one = absurd h
precedes_waiting (x ∷ xs) w y h wy ne one =
    go (is_waiting x.stage) refl h (λ h'. precedes_waiting xs w y h' wy ne (λ z hz. one z (inr hz)))
  where
    first : (s t r : Bool) → (s ≡ true → ⊥) → t ≡ true → cond s false (t || r) ≡ true
    first true t r f e = absurd (f refl)
    first false true r f e = refl
    first false false r f e = cc

    later : (s t r : Bool) → (s ≡ true → ⊥) → r ≡ true → cond s false (t || r) ≡ true
    later true t r f e = absurd (f refl)
    later false true r f e = refl
    later false false r f e = e

    go : (t : Bool) → is_waiting x.stage ≡ t → Has (x ∷ xs) y →
        (Has xs y → precedes w.no y.no (before_first waits w xs) ≡ true) →
        precedes w.no y.no (cond t (w ∷ x ∷ xs) (x ∷ before_first waits w xs)) ≡ true
    go true k h rec =
        first (nat_eq w.no y.no) (nat_eq w.no w.no) _ (λ e. ne (eqb-true w.no y.no e)) (eq-eqb w.no w.no refl)
    go false k (inl h) rec =
        absurd (both_ways (is_waiting x.stage) k (subst (λ (z : Task). is_waiting z.stage ≡ true) (sym h) wy))
    go false k (inr h) rec = later (nat_eq x.no y.no) (nat_eq x.no w.no) _
        (λ e. both_ways (is_waiting x.stage) k
        (subst (λ (z : Task). is_waiting z.stage ≡ true) (sym (one x (inl refl) (eqb-true x.no y.no e))) wy)) (rec h)

pub head_queued : (q : List Task) (w y : Task) → is_head w.command.attr ≡ true → Has q y → is_waiting y.stage ≡ true →
    (w.no ≡ y.no → ⊥) → ((x : Task) → Has q x → x.no ≡ y.no → x ≡ y) → precedes w.no y.no (queued w q) ≡ true
head_queued q w y e h wy ne one =
    subst (λ t. precedes w.no y.no (cond t (before_first waits w q) (q ++ w ∷ [])) ≡ true) (sym e)
    (precedes_waiting q w y h wy ne one)
