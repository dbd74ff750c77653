-- What the journal says of the commands of the task set, and of the works that are still to come.
use Rattle.std.proofs.Common.{◌≡◌, ℕ, ◌+◌, ◌≤◌, ◌<◌, ◌⊎◌, inl, inr, Bool, true, false, not, ◌||◌, List, [], ◌∷◌, ◌++◌}
use Rattle.std.proofs.Common.{Some, length, refl, sym, ap, ◌∙◌, subst, ⊎_elim, arith, eq-eqb, length-append}
use Rattle.std.proofs.lemmas.Bool.{cases_eq, or_parts, both_ways}
use Rattle.ct_book.specs.declared.work.Work.TheVariants as work
use Rattle.ct_book.specs.declared.event.Event.TheVariants as event
use Rattle.ct_book.specs.declared.event.Logged.{Logged}
use Rattle.ct_book.specs.Journals.{numbered}
use Rattle.ct_machine.specs.States.{Task, Stage, Waiting, Over, Message, Arrival, is_waiting, done_at, without_task}
use Rattle.ct_machine.specs.States.{with_task, at_stage, queued}
use Rattle.ct_machine.specs.Laws.Journals.{has, is_entry, is_begin, is_enter, made_at, made_by}
use Rattle.ct_law.proofs.Lists.Tasks.{Has, has_without, without_has, has_with, with_has, with_itself, has_queued}
use Rattle.ct_law.proofs.Lists.Tasks.{queued_has, queued_itself}
use Rattle.ct_law.proofs.Journals.Journal.{has_more, has_stays, has_now, has_not, has_same, made_more, Quiet, Untouched}
use Rattle.ct_law.proofs.Journals.Journal.{untouched_more, IsOf, quiet}
use Rattle.ct_law.proofs.Journals.Growing.{numbered_front, numbered_within}
use Rattle.ct_law.proofs.Lists.Messages.{is_arrival, Sent, Once, sent_push, sent_other, once_push}

abbrev pub is_over : Stage → Bool
is_over Over = true
is_over _ = false

-- a work is on its way to A
abbrev pub IsAsk : ℕ → List Message → Type 0
IsAsk n ms = Sent is_arrival n ms

-- a number that no work has yet, or whose work is on its way
abbrev pub IsFresh : ℕ → List Arrival → List Message → Type 0
IsFresh n works to_a = (length works < n) ⊎ IsAsk n to_a

abbrev pub arrival_for : Task → Arrival
arrival_for x = record { node = x.node; work = work.Cmd x.command }

pub record Books (journal : List Logged) (works : List Arrival) (queue : List Task) (to_a : List Message) : Type 0 where
  pub known : (x : Task) → Has queue x → numbered x.no works ≡ Some (arrival_for x)
  pub entry : (x : Task) → Has queue x → has (is_entry x.no) journal ≡ is_over x.stage
  pub begin : (x : Task) → Has queue x → is_over x.stage ≡ false →
      has (is_begin x.no) journal ≡ not (is_waiting x.stage)
  pub made : (x : Task) → Has queue x → is_over x.stage ≡ false → made_by x.no journal ≡ done_at x.stage
  pub entered : (x : Task) → Has queue x → has (is_enter x.no) journal ≡ true
  pub live : (n : ℕ) → has (is_enter n) journal ≡ true → has (is_entry n) journal ≡ false →
      (x : Task) × Has queue x × (x.no ≡ n)
  pub fresh : (n : ℕ) → IsFresh n works to_a → Untouched n journal
  pub once : Once to_a
  pub below : (n : ℕ) → IsAsk n to_a → (1 ≤ n) × (n ≤ length works)

-- a work comes
pub books_came : (journal : List Logged) (works : List Arrival) (queue : List Task) (to_a : List Message) (w : Arrival)
    (e : Logged) → ((n : ℕ) → IsOf e.event n → ⊥) → Books journal works queue to_a →
    Books (journal ++ e ∷ []) (works ++ w ∷ []) queue to_a
books_came journal works queue to_a w e none h = record {
  known = λ x k. numbered_front x.no works w _ (h.known x k);
  entry = λ x k. has_same (is_entry x.no) journal e (q x.no).entry ∙ h.entry x k;
  begin = λ x k o. has_same (is_begin x.no) journal e (q x.no).begin ∙ h.begin x k o;
  made = λ x k o. let m = made_more x.no journal e in let n = h.made x k o in omega (arith, m, n, (q x.no).made);
  entered = λ x k. has_stays (is_enter x.no) journal e (h.entered x k);
  live = λ n i en. h.live n (sym (has_same (is_enter n) journal e (q n).enter) ∙ i)
      (sym (has_same (is_entry n) journal e (q n).entry) ∙ en);
  fresh = λ n k. untouched_more n journal e
      (h.fresh n (⊎_elim (λ (l : length (works ++ w ∷ []) < n). let s = length-append works (w ∷ []) in inl (omega (arith, l, s))) (λ (a : IsAsk n to_a). inr a) k)) (q n);
  once = h.once;
  below = λ n a. let b = h.below n a in let s = length-append works (w ∷ []) in (b.0, omega (arith, b.1, s));
}
  where
    q : (n : ℕ) → Quiet n e.event
    q n = quiet n e.event (none n)

-- messages to A
pub books_ask : (journal : List Logged) (works : List Arrival) (queue : List Task) (to_a : List Message) (m : Message) →
    Books journal works queue to_a → Untouched m.no journal → (IsAsk m.no to_a → ⊥) →
    (1 ≤ m.no) × (m.no ≤ length works) → Books journal works queue (to_a ++ m ∷ [])
books_ask journal works queue to_a m h u new within = record {
  known = h.known;
  entry = h.entry;
  begin = h.begin;
  made = h.made;
  entered = h.entered;
  live = h.live;
  fresh = λ n k. ⊎_elim (λ (l : length works < n). h.fresh n (inl l))
      (λ (a : IsAsk n (to_a ++ m ∷ [])). ⊎_elim (λ (b : IsAsk n to_a). h.fresh n (inr b))
      (λ (e : (is_arrival m.kind ≡ true) × (m.no ≡ n)). subst (λ i. Untouched i journal) e.1 u)
      (sent_push is_arrival n to_a m a)) k;
  once = once_push to_a m (λ e k. new k) h.once;
  below = λ n a. ⊎_elim (λ (b : IsAsk n to_a). h.below n b)
      (λ (e : (is_arrival m.kind ≡ true) × (m.no ≡ n)). subst (λ i. (1 ≤ i) × (i ≤ length works)) e.1 within)
      (sent_push is_arrival n to_a m a);
}

-- a message that is no work
pub books_tell : (journal : List Logged) (works : List Arrival) (queue : List Task) (to_a : List Message)
    (m : Message) → is_arrival m.kind ≡ false → Books journal works queue to_a →
    Books journal works queue (to_a ++ m ∷ [])
books_tell journal works queue to_a m no_work h = record {
  known = h.known;
  entry = h.entry;
  begin = h.begin;
  made = h.made;
  entered = h.entered;
  live = h.live;
  fresh = λ n k. ⊎_elim (λ (l : length works < n). h.fresh n (inl l))
      (λ (a : IsAsk n (to_a ++ m ∷ [])). h.fresh n (inr (sent_other is_arrival n to_a m no_work a))) k;
  once = once_push to_a m (λ e k. both_ways (is_arrival m.kind) no_work e) h.once;
  below = λ n a. h.below n (sent_other is_arrival n to_a m no_work a);
}

-- the first message is delivered
pub books_pop : (journal : List Logged) (works : List Arrival) (queue : List Task) (m : Message) (ms : List Message) →
    Books journal works queue (m ∷ ms) → Books journal works queue ms
books_pop journal works queue m ms h = record {
  known = h.known;
  entry = h.entry;
  begin = h.begin;
  made = h.made;
  entered = h.entered;
  live = h.live;
  fresh = λ n k. h.fresh n (⊎_elim inl (λ (a : IsAsk n ms). inr (inr a)) k);
  once = h.once.1;
  below = λ n a. h.below n (inr a);
}

-- a command enters
pub books_in : (journal : List Logged) (works : List Arrival) (queue : List Task) (to_a : List Message) (w : Task)
    (e : Logged) → e.event ≡ event.Enter w.no → Books journal works queue to_a → w.stage ≡ Waiting →
    Untouched w.no journal → (IsAsk w.no to_a → ⊥) →
    numbered w.no works ≡ Some (arrival_for w) → Books (journal ++ e ∷ []) works (queued w queue) to_a
books_in journal works queue to_a w e is h st u new at = record {
  known = λ y m. by y m (λ k. h.known y k) (λ e. subst (λ (z : Task). numbered z.no works ≡ Some (arrival_for z)) e at);
  entry = λ y m. by y m (λ k. has_same (is_entry y.no) journal e (ap (is_entry y.no) is) ∙ h.entry y k)
      (λ k. subst (λ (z : Task). has (is_entry z.no) (journal ++ e ∷ []) ≡ is_over z.stage) k
      (has_not (is_entry w.no) journal e u.entry (ap (is_entry w.no) is) ∙ sym (ap is_over st)));
  begin = λ y m o. by y m (λ k. has_same (is_begin y.no) journal e (ap (is_begin y.no) is) ∙ h.begin y k o)
      (λ k. subst (λ (z : Task). has (is_begin z.no) (journal ++ e ∷ []) ≡ not (is_waiting z.stage)) k
      (has_not (is_begin w.no) journal e u.begin (ap (is_begin w.no) is) ∙ sym (ap (λ s. not (is_waiting s)) st)));
  made = λ y m o. by y m (λ k. let a = made_more y.no journal e in let b = h.made y k o in
      let c = ap (made_at y.no) is in omega (arith, a, b, c))
      (λ k. subst (λ (z : Task). made_by z.no (journal ++ e ∷ []) ≡ done_at z.stage) k
      (let a = made_more w.no journal e in let b = ap done_at st in let c = ap (made_at w.no) is in
      omega (arith, a, b, c, u.made)));
  entered = λ y m. by y m (λ k. has_stays (is_enter y.no) journal e (h.entered y k))
      (λ k. subst (λ (z : Task). has (is_enter z.no) (journal ++ e ∷ []) ≡ true) k
      (has_now (is_enter w.no) journal e (ap (is_enter w.no) is ∙ eq-eqb w.no w.no refl)));
  live = λ n i en. ⊎_elim
      (λ (k : w.no ≡ n). (w, queued_itself w queue, k))
      (λ (ne : w.no ≡ n → ⊥).
      let old =
      h.live n (sym (has_same (is_enter n) journal e (quiet n e.event (λ o. ne (mine n o))).enter) ∙ i)
      (sym (has_same (is_entry n) journal e (ap (is_entry n) is)) ∙ en) in
      (old.0, queued_has w queue old.0 old.1, old.2))
      (cases_eq w.no n);
  fresh = λ n k. untouched_more n journal e (h.fresh n k) (quiet n e.event (λ z. other n k (mine n z)));
  once = h.once;
  below = h.below;
}
  where
    mine : (n : ℕ) → IsOf e.event n → w.no ≡ n
    mine n o = subst (λ k. IsOf k n) is o

    by : {P : Type 0} (y : Task) → Has (queued w queue) y → (Has queue y → P) → (w ≡ y → P) → P
    by y m f g = ⊎_elim f g (has_queued w queue y m)

    other : (n : ℕ) → IsFresh n works to_a → w.no ≡ n → ⊥
    other n (inl l) k = let b = numbered_within w.no works _ at in omega (arith, l, k, b.1)
    other n (inr a) k = new (subst (λ i. IsAsk i to_a) (sym k) a)

-- a command takes another stage, with an event of its own
pub record Turns (journal : List Logged) (x : Task) (stage : Stage) (e : Logged) : Type 0 where
  pub entry : (has (is_entry x.no) journal || is_entry x.no e.event) ≡ is_over stage
  pub begin : is_over stage ≡ false → (has (is_begin x.no) journal || is_begin x.no e.event) ≡ not (is_waiting stage)
  pub made : is_over stage ≡ false → made_by x.no journal + made_at x.no e.event ≡ done_at stage
  pub enters : (n : ℕ) → is_enter n e.event ≡ false

pub books_turns : (journal : List Logged) (works : List Arrival) (queue : List Task) (to_a : List Message) (x : Task)
    (stage : Stage) (e : Logged) → Books journal works queue to_a → Has queue x → Turns journal x stage e →
    ((n : ℕ) → IsOf e.event n → (x.no ≡ n) ⊎ ((y : Task) → Has queue y → y.no ≡ n → ⊥)) →
    ((n : ℕ) → IsFresh n works to_a → IsOf e.event n → ⊥) →
    Books (journal ++ e ∷ []) works (with_task (at_stage stage x) queue) to_a
books_turns journal works queue to_a x stage e h hx t mine old = record {
  known = λ y m. by y m (λ k n. h.known y k)
      (λ k. subst (λ (z : Task). numbered z.no works ≡ Some (arrival_for z)) k (h.known x hx));
  entry = λ y m. by y m (λ k n. has_same (is_entry y.no) journal e (still y k n).entry ∙ h.entry y k)
      (λ k. subst (λ (z : Task). has (is_entry z.no) (journal ++ e ∷ []) ≡ is_over z.stage) k
      (has_more (is_entry x.no) journal e ∙ t.entry));
  begin = λ y m. by y m (λ k n o. has_same (is_begin y.no) journal e (still y k n).begin ∙ h.begin y k o)
      (λ k. subst (λ (z : Task). is_over z.stage ≡ false → has (is_begin z.no) (journal ++ e ∷ []) ≡ not (is_waiting z.stage)) k (λ o. has_more (is_begin x.no) journal e ∙ t.begin o));
  made = λ y m. by y m (λ k n o. let a = made_more y.no journal e in let b = h.made y k o in
      let c = (still y k n).made in omega (arith, a, b, c))
      (λ k. subst (λ (z : Task). is_over z.stage ≡ false → made_by z.no (journal ++ e ∷ []) ≡ done_at z.stage) k
      (λ o. made_more x.no journal e ∙ t.made o));
  entered = λ y m. by y m (λ k n. has_stays (is_enter y.no) journal e (h.entered y k))
      (λ k. subst (λ (z : Task). has (is_enter z.no) (journal ++ e ∷ []) ≡ true) k
      (has_stays (is_enter x.no) journal e (h.entered x hx)));
  live = λ n i en.
      let old =
      h.live n (sym (has_same (is_enter n) journal e (t.enters n)) ∙ i)
      (or_parts _ _ (sym (has_more (is_entry n) journal e) ∙ en)).0 in
      ⊎_elim
      (λ (k : old.0.no ≡ x.no). (at_stage stage x, with_itself (at_stage stage x) queue x hx refl, sym k ∙ old.2))
      (λ (ne : old.0.no ≡ x.no → ⊥). (old.0, with_has (at_stage stage x) queue old.0 old.1 ne, old.2))
      (cases_eq old.0.no x.no);
  fresh = λ n k. untouched_more n journal e (h.fresh n k) (quiet n e.event (old n k));
  once = h.once;
  below = h.below;
}
  where
    by : {P : Type 0} (y : Task) → Has (with_task (at_stage stage x) queue) y → (Has queue y → (y.no ≡ x.no → ⊥) → P) →
        (at_stage stage x ≡ y → P) → P
    by y m f g = ⊎_elim g (λ (o : Has queue y × (y.no ≡ x.no → ⊥)). f o.0 o.1) (has_with (at_stage stage x) queue y m)

    still : (y : Task) → Has queue y → (y.no ≡ x.no → ⊥) → Quiet y.no e.event
    still y k ne =
        quiet y.no e.event (λ o. ⊎_elim (λ (a : x.no ≡ y.no). ne (sym a))
        (λ (f : (z : Task) → Has queue z → z.no ≡ y.no → ⊥). f y k refl) (mine y.no o))

-- another stage with no event
pub books_quietly : (journal : List Logged) (works : List Arrival) (queue : List Task) (to_a : List Message) (x : Task)
    (stage : Stage) → Books journal works queue to_a → Has queue x →
    is_over x.stage ≡ is_over stage → is_waiting x.stage ≡ is_waiting stage → done_at x.stage ≡ done_at stage →
    Books journal works (with_task (at_stage stage x) queue) to_a
books_quietly journal works queue to_a x stage h hx o w d = record {
  known = λ y m. by y m (h.known y)
      (λ k. subst (λ (z : Task). numbered z.no works ≡ Some (arrival_for z)) k (h.known x hx));
  entry = λ y m. by y m (h.entry y)
      (λ k. subst (λ (z : Task). has (is_entry z.no) journal ≡ is_over z.stage) k (h.entry x hx ∙ o));
  begin = λ y m. by y m (h.begin y)
      (λ k. subst (λ (z : Task). is_over z.stage ≡ false → has (is_begin z.no) journal ≡ not (is_waiting z.stage)) k
      (λ i. h.begin x hx (o ∙ i) ∙ ap not w));
  made = λ y m. by y m (h.made y)
      (λ k. subst (λ (z : Task). is_over z.stage ≡ false → made_by z.no journal ≡ done_at z.stage) k
      (λ i. h.made x hx (o ∙ i) ∙ d));
  entered =
      λ y m. by y m (h.entered y) (λ k. subst (λ (z : Task). has (is_enter z.no) journal ≡ true) k (h.entered x hx));
  live = λ n i en.
      let old = h.live n i en in
      ⊎_elim
      (λ (k : old.0.no ≡ x.no). (at_stage stage x, with_itself (at_stage stage x) queue x hx refl, sym k ∙ old.2))
      (λ (ne : old.0.no ≡ x.no → ⊥). (old.0, with_has (at_stage stage x) queue old.0 old.1 ne, old.2))
      (cases_eq old.0.no x.no);
  fresh = h.fresh;
  once = h.once;
  below = h.below;
}
  where
    by : {P : Type 0} (y : Task) → Has (with_task (at_stage stage x) queue) y → (Has queue y → P) →
        (at_stage stage x ≡ y → P) → P
    by y m f g = ⊎_elim g (λ (o : Has queue y × (y.no ≡ x.no → ⊥)). f o.0) (has_with (at_stage stage x) queue y m)

-- one that has its entry leaves
pub books_removes : (journal : List Logged) (works : List Arrival) (queue : List Task) (to_a : List Message) (n : ℕ) →
    Books journal works queue to_a → has (is_entry n) journal ≡ true → Books journal works (without_task n queue) to_a
books_removes journal works queue to_a n h over = record {
  known = λ x k. h.known x (has_without n queue x k).0;
  entry = λ x k. h.entry x (has_without n queue x k).0;
  begin = λ x k. h.begin x (has_without n queue x k).0;
  made = λ x k. h.made x (has_without n queue x k).0;
  entered = λ x k. h.entered x (has_without n queue x k).0;
  live = λ m i e. let old = h.live m i e in (
    old.0,
    without_has n queue old.0 old.1
        (λ k. both_ways (has (is_entry m) journal) e
        (subst (λ j. has (is_entry j) journal ≡ true) (sym k ∙ old.2) over)),
    old.2,
  );
  fresh = h.fresh;
  once = h.once;
  below = h.below;
}

-- an event of a function
pub books_function : (journal : List Logged) (works : List Arrival) (queue : List Task) (to_a : List Message)
    (e : Logged) → Books journal works queue to_a → ((n : ℕ) → is_enter n e.event ≡ false) →
    ((y : Task) → Has queue y → IsOf e.event y.no → ⊥) → ((n : ℕ) → IsFresh n works to_a → IsOf e.event n → ⊥) →
    Books (journal ++ e ∷ []) works queue to_a
books_function journal works queue to_a e h never mine old = record {
  known = h.known;
  entry = λ x k. has_same (is_entry x.no) journal e (quiet x.no e.event (mine x k)).entry ∙ h.entry x k;
  begin = λ x k o. has_same (is_begin x.no) journal e (quiet x.no e.event (mine x k)).begin ∙ h.begin x k o;
  made = λ x k o. let m = made_more x.no journal e in let n = h.made x k o in
      let q = (quiet x.no e.event (mine x k)).made in omega (arith, m, n, q);
  entered = λ x k. has_stays (is_enter x.no) journal e (h.entered x k);
  live = λ n i en. h.live n (sym (has_same (is_enter n) journal e (never n)) ∙ i)
      (or_parts _ _ (sym (has_more (is_entry n) journal e) ∙ en)).0;
  fresh = λ n k. untouched_more n journal e (h.fresh n k) (quiet n e.event (old n k));
  once = h.once;
  below = h.below;
}
