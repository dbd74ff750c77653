-- The open functions, and the messages about commands that they hit or that are over. The predicate P says of which
-- commands a function is still to be carried out, while it is taken up.
use Rattle.std.proofs.Common.{◌≡◌, ℕ, ◌+◌, ◌⊎◌, inl, inr, Bool, true, false, not, List, [], ◌∷◌, ◌++◌, Some, length}
use Rattle.std.proofs.Common.{refl, sym, ap, ◌∙◌, subst, ⊎_elim, nat_eq, cond, eqb-true, eq-eqb, ne_eqb, append-nil}
use Rattle.std.proofs.Common.{map}
use Rattle.std.proofs.lemmas.Bool.{cases_eq, both_ways, eqb-false}
use Rattle.std.specs.Prelude.{nat_lt}
use Rattle.std.specs.List.{filter}
use Rattle.ct_tmf.specs.Reaches.{hits}
use Rattle.ct_word.specs.declared.names.Node.{Node}
use Rattle.ct_book.specs.declared.work.Command.{Command}
use Rattle.ct_book.specs.declared.work.Work.TheVariants as work
use Rattle.ct_book.specs.declared.event.Event.TheVariants as event
use Rattle.ct_book.specs.declared.event.Why.TheVariants.{By}
use Rattle.ct_book.specs.declared.event.Logged.{Logged}
use Rattle.ct_book.specs.Journals.{numbered}
use Rattle.ct_book.specs.Histories.{cut_at, cut_by}
use Rattle.ct_machine.specs.States.{Task, Stage, Waiting, Here, Granted, There, Over, Open, Message, Arrival}
use Rattle.ct_machine.specs.Events.Functions.{is_hit, without_function, with_function}
use Rattle.ct_machine.specs.Events.Ends.{noted}
use Rattle.ct_machine.specs.Events.Deliveries.{awaits_no_more}
use Rattle.ct_machine.specs.Laws.Journals.{has, is_entry, is_begin, is_enter, is_asked, comes_first}
use Rattle.ct_law.proofs.Lists.Tasks.{Has}
use Rattle.ct_law.proofs.Cells.Held.{is_active}
use Rattle.ct_law.proofs.Journals.Journal.{has_stays, has_not, cut_more, first_stays, first_has, Untouched}
use Rattle.ct_law.proofs.Journals.Growing.{numbered_front, numbered_older}
use Rattle.ct_law.proofs.Lists.Messages.{is_end, Sent, IsStop, stop_append}

-- at B, and not over
abbrev pub is_at_b : Stage → Bool
is_at_b Waiting = false
is_at_b (Here done gained) = false
is_at_b Granted = true
is_at_b (There done gained) = true
is_at_b Over = false

pub remote_active : (stage : Stage) → is_at_b stage ≡ true → is_active stage ≡ true
remote_active Waiting h = absurd (cc)
remote_active (Here d g) h = absurd (cc)
remote_active Granted h = refl
remote_active (There d g) h = refl
remote_active Over h = absurd (cc)

abbrev pub IsIn : ℕ → List ℕ → Type 0
IsIn n [] = ⊥
IsIn n (m ∷ ms) = (m ≡ n) ⊎ IsIn n ms

abbrev pub HasOpen : List Open → Open → Type 0
HasOpen [] o = ⊥
HasOpen (p ∷ ps) o = (p ≡ o) ⊎ HasOpen ps o

pub record IsAsked (journal : List Logged) (works : List Arrival) (o : Open) : Type 0 where
  pub node : Node
  pub came : numbered o.no works ≡ Some (record { node = node; work = work.Ask o.ask })
  pub asking : has (is_asked o.no) journal ≡ true
  pub entry : has (is_entry o.no) journal ≡ false
  pub cut : o.cut ≡ cut_by o.no journal

pub record Opens (P : ℕ → ℕ → Type 0) (journal : List Logged) (works : List Arrival) (queue : List Task)
    (functions : List Open) (to_a : List Message) (to_b : List Message) : Type 0 where
  pub gone : (n : ℕ) → Sent is_end n to_a → has (is_entry n) journal ≡ true
  pub begun : (n f : ℕ) → IsStop n f to_b →
      (has (is_begin n) journal ≡ true) ⊎ ((has (is_entry n) journal ≡ true) ⊎ P f n)
  pub stops : (n f : ℕ) (x : Task) → IsStop n f to_b → Has queue x → x.no ≡ n → is_at_b x.stage ≡ true →
      (o : Open) × HasOpen functions o × (o.no ≡ f) × IsIn n o.awaits × (is_hit o.ask x ≡ true)
  pub one : (o p : Open) → HasOpen functions o → HasOpen functions p → o.no ≡ p.no → o ≡ p
  pub asked : (o : Open) → HasOpen functions o → IsAsked journal works o
  pub awaits : (o : Open) (x : Task) → HasOpen functions o → Has queue x → is_active x.stage ≡ true →
      is_hit o.ask x ≡ true → IsIn x.no o.awaits ⊎ P o.no x.no
  pub behind : (o : Open) → HasOpen functions o → (n : ℕ) (node : Node) (c : Command) →
      numbered n works ≡ Some (record { node = node; work = work.Cmd c }) →
      comes_first (is_enter n) (is_asked o.no) journal ≡ true → hits o.ask c.nexus c.tag ≡ true →
      (has (is_entry n) journal ≡ true) ⊎ (IsIn n o.awaits ⊎ P o.no n)

still_begun : (P : ℕ → ℕ → Type 0) (journal : List Logged) (e : Logged) (n f : ℕ) →
    (has (is_begin n) journal ≡ true) ⊎ ((has (is_entry n) journal ≡ true) ⊎ P f n) →
    (has (is_begin n) (journal ++ e ∷ []) ≡ true) ⊎ ((has (is_entry n) (journal ++ e ∷ []) ≡ true) ⊎ P f n)
still_begun P journal e n f (inl h) = inl (has_stays (is_begin n) journal e h)
still_begun P journal e n f (inr (inl h)) = inr (inl (has_stays (is_entry n) journal e h))
still_begun P journal e n f (inr (inr h)) = inr (inr h)

still_done : {Q : Type 0} (journal : List Logged) (e : Logged) (n : ℕ) → (has (is_entry n) journal ≡ true) ⊎ Q →
    (has (is_entry n) (journal ++ e ∷ []) ≡ true) ⊎ Q
still_done journal e n (inl h) = inl (has_stays (is_entry n) journal e h)
still_done journal e n (inr h) = inr h

-- a work comes
pub opens_came : (P : ℕ → ℕ → Type 0) (journal : List Logged) (works : List Arrival) (queue : List Task)
    (functions : List Open) (to_a : List Message) (to_b : List Message) (w : Arrival) →
    Untouched (length works + 1) journal → Opens P journal works queue functions to_a to_b →
    Opens P journal (works ++ w ∷ []) queue functions to_a to_b
opens_came P journal works queue functions to_a to_b w u h = record {
  gone = h.gone;
  begun = h.begun;
  stops = h.stops;
  one = h.one;
  awaits = h.awaits;
  asked = λ o k. let a = h.asked o k in
      record {
        node = a.node;
        came = numbered_front o.no works w _ a.came;
        asking = a.asking;
        entry = a.entry;
        cut = a.cut;
      };
  behind = λ o k n node c e f i. h.behind o k n node c
      (numbered_older n works w _ e
      (λ z. both_ways (has (is_enter n) journal) (subst (λ m. has (is_enter m) journal ≡ false) (sym z) u.enter)
      (first_has (is_enter n) (is_asked o.no) journal f))) f i;
}

-- an event that closes nothing and cuts for none of the open functions
pub opens_event : (P : ℕ → ℕ → Type 0) (journal : List Logged) (works : List Arrival) (queue : List Task)
    (functions : List Open) (to_a : List Message) (to_b : List Message) (e : Logged) →
    ((o : Open) → HasOpen functions o → (is_entry o.no e.event ≡ false) × (cut_at o.no e.event ≡ [])) →
    Opens P journal works queue functions to_a to_b → Opens P (journal ++ e ∷ []) works queue functions to_a to_b
opens_event P journal works queue functions to_a to_b e ok h = record {
  gone = λ n k. has_stays (is_entry n) journal e (h.gone n k);
  begun = λ n f k. still_begun P journal e n f (h.begun n f k);
  stops = h.stops;
  one = h.one;
  asked = λ o k. let a = h.asked o k in record {
    node = a.node;
    came = a.came;
    asking = has_stays (is_asked o.no) journal e a.asking;
    entry = has_not (is_entry o.no) journal e a.entry (ok o k).0;
    cut = a.cut ∙ sym (append-nil (cut_by o.no journal)) ∙ ap (λ l. cut_by o.no journal ++ l) (sym (ok o k).1) ∙ sym
        (cut_more o.no journal e);
  };
  awaits = h.awaits;
  behind = λ o k n node c w f i. still_done journal e n
      (h.behind o k n node c w (first_stays (is_enter n) (is_asked o.no) journal e (h.asked o k).asking f) i);
}

-- the task set changes: each active command was active and stays at its side, or nothing is open and it hadn't begun
pub record WasActive (queue : List Task) (y : Task) : Type 0 where
  pub task : Task
  pub has : Has queue task
  pub no : task.no ≡ y.no
  pub command : task.command ≡ y.command
  pub active : is_active task.stage ≡ true
  pub remote : is_at_b y.stage ≡ true → is_at_b task.stage ≡ true

pub record Begins (journal : List Logged) (functions : List Open) (to_b : List Message) (y : Task) : Type 0 where
  pub closed : functions ≡ []
  pub unsent : (f : ℕ) → IsStop y.no f to_b → ⊥

pub opens_queue : (P : ℕ → ℕ → Type 0) (journal : List Logged) (works : List Arrival) (queue now : List Task)
    (functions : List Open) (to_a : List Message) (to_b : List Message) →
    ((y : Task) → Has now y → is_active y.stage ≡ true → WasActive queue y ⊎ Begins journal functions to_b y) →
    Opens P journal works queue functions to_a to_b → Opens P journal works now functions to_a to_b
opens_queue P journal works queue now functions to_a to_b from h = record {
  gone = h.gone;
  begun = h.begun;
  one = h.one;
  asked = h.asked;
  behind = h.behind;
  stops = λ n f y s k e a. ⊎_elim
      (λ (w : WasActive queue y).
      let r =
      h.stops n f w.task s w.has (w.no ∙ e) (w.remote a) in
      (r.0, r.1, r.2, r.3, subst (λ (c : Command). hits r.0.ask c.nexus c.tag ≡ true) w.command r.4))
      (λ (w : Begins journal functions to_b y). absurd (w.unsent f (subst (λ m. IsStop m f to_b) (sym e) s)))
      (from y k (remote_active y.stage a));
  awaits = λ o y ho k a i. ⊎_elim
      (λ (w : WasActive queue y). subst (λ m. IsIn m o.awaits ⊎ P o.no m) w.no
      (h.awaits o w.task ho w.has w.active
      (subst (λ (c : Command). hits o.ask c.nexus c.tag ≡ true) (sym w.command) i)))
      (λ (w : Begins journal functions to_b y). absurd (subst (λ fs. HasOpen fs o) w.closed ho))
      (from y k a);
}

-- messages
pub opens_a : (P : ℕ → ℕ → Type 0) (journal : List Logged) (works : List Arrival) (queue : List Task)
    (functions : List Open) (to_a now : List Message) (to_b : List Message) →
    ((n : ℕ) → Sent is_end n now → has (is_entry n) journal ≡ true) → Opens P journal works queue functions to_a to_b →
    Opens P journal works queue functions now to_b
opens_a P journal works queue functions to_a now to_b ok h = record {
  gone = ok;
  begun = h.begun;
  stops = h.stops;
  one = h.one;
  asked = h.asked;
  awaits = h.awaits;
  behind = h.behind;
}

pub opens_b : (P : ℕ → ℕ → Type 0) (journal : List Logged) (works : List Arrival) (queue : List Task)
    (functions : List Open) (to_a : List Message) (to_b now : List Message) →
    ((n f : ℕ) → IsStop n f now → IsStop n f to_b) → Opens P journal works queue functions to_a to_b →
    Opens P journal works queue functions to_a now
opens_b P journal works queue functions to_a to_b now ok h = record {
  gone = h.gone;
  begun = λ n f k. h.begun n f
      (ok n f k);
  stops = λ n f x k. h.stops n f x
      (ok n f k);
  one = h.one;
  asked = h.asked;
  awaits = h.awaits;
  behind = h.behind;
}

-- another predicate of what is still to be done
pub opens_less : (P Q : ℕ → ℕ → Type 0) (journal : List Logged) (works : List Arrival) (queue : List Task)
    (functions : List Open) (to_a to_b : List Message) →
    ((n f : ℕ) → IsStop n f to_b → P f n → (has (is_begin n) journal ≡ true)
    ⊎ ((has (is_entry n) journal ≡ true) ⊎ Q f n)) →
    ((o : Open) (x : Task) → HasOpen functions o → Has queue x → is_active x.stage ≡ true → is_hit o.ask x ≡ true →
    P o.no x.no → IsIn x.no o.awaits ⊎ Q o.no x.no) →
    ((o : Open) (n : ℕ) → HasOpen functions o → (node : Node) (c : Command) →
    numbered n works ≡ Some (record { node = node; work = work.Cmd c }) →
    comes_first (is_enter n) (is_asked o.no) journal ≡ true → hits o.ask c.nexus c.tag ≡ true → P o.no n →
    (has (is_entry n) journal ≡ true) ⊎ (IsIn n o.awaits ⊎ Q o.no n)) →
    Opens P journal works queue functions to_a to_b → Opens Q journal works queue functions to_a to_b
opens_less P Q journal works queue functions to_a to_b begun awaits behind h = record {
  gone = h.gone;
  begun = λ n f k. ⊎_elim inl
      (λ (r : (has (is_entry n) journal ≡ true) ⊎ P f n). ⊎_elim (λ e. inr (inl e)) (begun n f k) r) (h.begun n f k);
  stops = h.stops;
  one = h.one;
  asked = h.asked;
  awaits = λ o x ho hx a i. ⊎_elim inl (awaits o x ho hx a i) (h.awaits o x ho hx a i);
  behind = λ o ho n node c w f i. ⊎_elim inl
      (λ (r : IsIn n o.awaits ⊎ P o.no n). ⊎_elim (λ e. inr (inl e)) (behind o n ho node c w f i) r)
      (h.behind o ho n node c w f i);
}

-- the function that cut a command notes it
has_noted : (f n : ℕ) (functions : List Open) (o : Open) → HasOpen (noted f n functions) o →
    (p : Open) × HasOpen functions p × (p.no ≡ o.no) × (p.ask ≡ o.ask) × (p.awaits ≡ o.awaits)
    × (o.cut ≡ p.cut ++ cond (nat_eq f p.no) (n ∷ []) [])
has_noted f n [] o h = absurd h
has_noted f n (p ∷ ps) o (inr h) = let r = has_noted f n ps o h in (r.0, inr r.1, r.2, r.3, r.4, r.5)
has_noted f n (p ∷ ps) o (inl h) = go (nat_eq p.no f) refl h
  where
    Told : Type 0
    Told = (q : Open) × HasOpen (p ∷ ps) q × (q.no ≡ o.no) × (q.ask ≡ o.ask) × (q.awaits ≡ o.awaits)
        × (o.cut ≡ q.cut ++ cond (nat_eq f q.no) (n ∷ []) [])

    go : (t : Bool) → nat_eq p.no f ≡ t → cond t (record p { cut = p.cut ++ n ∷ [] }) p ≡ o → Told
    go true e k = (
      p,
      inl refl,
      ap (λ (z : Open). z.no) k,
      ap (λ (z : Open). z.ask) k,
      ap (λ (z : Open). z.awaits) k,
      ap (λ (z : Open). z.cut) (sym k) ∙ ap (λ t. p.cut ++ cond t (n ∷ []) [])
          (sym (eq-eqb f p.no (sym (eqb-true p.no f e)))),
    )
    go false e k = (
      p,
      inl refl,
      ap (λ (z : Open). z.no) k,
      ap (λ (z : Open). z.ask) k,
      ap (λ (z : Open). z.awaits) k,
      ap (λ (z : Open). z.cut) (sym k) ∙ sym (append-nil p.cut) ∙ ap (λ t. p.cut ++ cond t (n ∷ []) [])
          (sym (ne_eqb f p.no (λ z. eqb-false p.no f e (sym z)))),
    )

noted_has : (f n : ℕ) (functions : List Open) (p : Open) → HasOpen functions p →
    (o : Open) × HasOpen (noted f n functions) o × (o.no ≡ p.no) × (o.ask ≡ p.ask) × (o.awaits ≡ p.awaits)
noted_has f n [] p h = absurd h
noted_has f n (q ∷ qs) p (inr h) = let r = noted_has f n qs p h in (r.0, inr r.1, r.2, r.3, r.4)
noted_has f n (q ∷ qs) p (inl h) = go (nat_eq q.no f)
  where
    go : (t : Bool) → (o : Open) × ((cond t (record q { cut = q.cut ++ n ∷ [] }) q ≡ o) ⊎ HasOpen (noted f n qs) o)
        × (o.no ≡ p.no) × (o.ask ≡ p.ask) × (o.awaits ≡ p.awaits)
    go true = (
      record q { cut = q.cut ++ n ∷ [] },
      inl refl,
      ap (λ (z : Open). z.no) h,
      ap (λ (z : Open). z.ask) h,
      ap
          (λ (z : Open). z.awaits) h,
    )
    go false = (q, inl refl, ap (λ (z : Open). z.no) h, ap (λ (z : Open). z.ask) h, ap (λ (z : Open). z.awaits) h)

pub opens_cut : (P : ℕ → ℕ → Type 0) (journal : List Logged) (works : List Arrival) (queue : List Task)
    (functions : List Open) (to_a : List Message) (to_b : List Message) (n puts f : ℕ) (told : Bool) (e : Logged) →
    e.event ≡ event.Cut n puts (By f) told →
    ((o : Open) → HasOpen functions o → n ≡ o.no → ⊥) → Opens P journal works queue functions to_a to_b →
    Opens P (journal ++ e ∷ []) works queue (noted f n functions) to_a to_b
opens_cut P journal works queue functions to_a to_b n puts f told e is other h = record {
  gone = λ m k. has_stays (is_entry m) journal e (h.gone m k);
  begun = λ m g k. still_begun P journal e m g (h.begun m g k);
  stops = λ m g x s k i a. let r = h.stops m g x s k i a in let q = noted_has f n functions r.0 r.1 in (
    q.0,
    q.1,
    q.2 ∙ r.2,
    subst (IsIn m) (sym q.4) r.3,
    subst (λ z. hits z x.command.nexus x.command.tag ≡ true)
        (sym q.3) r.4,
  );
  one = λ o p ho hp k. same_open f n functions h.one o p ho hp k;
  asked = λ o k. let q = has_noted f n functions o k in let a = h.asked q.0 q.1 in record {
    node = a.node;
    came = subst (λ i. numbered i works ≡ Some (record { node = a.node; work = work.Ask o.ask })) q.2
        (a.came ∙ ap (λ z. Some (record { node = a.node; work = work.Ask z })) q.3);
    asking =
        subst (λ i. has (is_asked i) (journal ++ e ∷ []) ≡ true) q.2 (has_stays (is_asked q.0.no) journal e a.asking);
    entry = subst (λ i. has (is_entry i) (journal ++ e ∷ []) ≡ false) q.2
        (has_not (is_entry q.0.no) journal e a.entry (ap (is_entry q.0.no) is ∙ ne_eqb n q.0.no (other q.0 q.1)));
    cut = q.5 ∙ ap (λ l. l ++ cond (nat_eq f q.0.no) (n ∷ []) []) a.cut ∙ ap (λ l. cut_by q.0.no journal ++ l)
        (sym (ap (cut_at q.0.no) is)) ∙ sym (cut_more q.0.no journal e) ∙ ap (λ i. cut_by i (journal ++ e ∷ [])) q.2;
  };
  awaits = λ o x ho k a i. let q = has_noted f n functions o ho in
      subst (λ j. IsIn x.no o.awaits ⊎ P j x.no) q.2
      (subst (λ l. IsIn x.no l ⊎ P q.0.no x.no) q.4
      (h.awaits q.0 x q.1 k a (subst (λ z. hits z x.command.nexus x.command.tag ≡ true) (sym q.3) i)));
  behind = λ o k m node c w g i. let q = has_noted f n functions o k in
      subst (λ j. (has (is_entry m) (journal ++ e ∷ []) ≡ true) ⊎ (IsIn m o.awaits ⊎ P j m)) q.2
      (subst (λ l. (has (is_entry m) (journal ++ e ∷ []) ≡ true) ⊎ (IsIn m l ⊎ P q.0.no m)) q.4
      (still_done journal e m (h.behind q.0 q.1 m node c w (first_stays (is_enter m) (is_asked q.0.no) journal e (h.asked q.0 q.1).asking (subst (λ j. comes_first (is_enter m) (is_asked j) (journal ++ e ∷ []) ≡ true) (sym q.2) g)) (subst (λ z. hits z c.nexus c.tag ≡ true) (sym q.3) i))));
}
  where
    same_open : (f n : ℕ) (fs : List Open) → ((o p : Open) → HasOpen fs o → HasOpen fs p → o.no ≡ p.no → o ≡ p) →
        (o p : Open) → HasOpen (noted f n fs) o → HasOpen (noted f n fs) p → o.no ≡ p.no → o ≡ p
    same_open f n fs one o p ho hp k =
        let a = has_noted f n fs o ho in
        let b = has_noted f n fs p hp in
        let q : a.0 ≡ b.0 = one a.0 b.0 a.1 b.1 (a.2 ∙ k ∙ sym b.2) in
        let c : o.cut ≡ p.cut = a.5 ∙ ap (λ (z : Open). z.cut ++ cond (nat_eq f z.no) (n ∷ []) []) q ∙ sym b.5 in
        let g : o.ask ≡ p.ask = sym a.3 ∙ ap (λ (z : Open). z.ask) q ∙ b.3 in
        let w : o.awaits ≡ p.awaits = sym a.4 ∙ ap (λ (z : Open). z.awaits) q ∙ b.4 in
        λ i. record { no = k i; ask = g i; awaits = w i; cut = c i }

pub noted_none : (f n : ℕ) (functions : List Open) → ((o : Open) → HasOpen functions o → o.no ≡ f → ⊥) →
    noted f n functions ≡ functions
noted_none f n [] new = refl
noted_none f n (p ∷ ps) new =
    ap (λ t. cond t (record p { cut = p.cut ++ n ∷ [] }) p ∷ noted f n ps) (ne_eqb p.no f (new p (inl refl))) ∙ ap
    (λ l. p ∷ l) (noted_none f n ps (λ o k. new o (inr k)))

-- one that has its entry is awaited no more
still_in : (m n : ℕ) (ns : List ℕ) → IsIn m ns → (m ≡ n → ⊥) → IsIn m (filter (λ k. not (nat_eq k n)) ns)
still_in m n [] h ne = absurd h
still_in m n (k ∷ ks) h ne = go (nat_eq k n) refl h (λ h'. still_in m n ks h' ne)
  where
    go : (t : Bool) → nat_eq k n ≡ t → IsIn m (k ∷ ks) → (IsIn m ks → IsIn m (filter (λ k. not (nat_eq k n)) ks)) →
        IsIn m (cond (not t) (k ∷ filter (λ k. not (nat_eq k n)) ks) (filter (λ k. not (nat_eq k n)) ks))
    go true e (inl h) rec = absurd (ne (sym h ∙ eqb-true k n e))
    go true e (inr h) rec = rec h
    go false e (inl h) rec = inl h
    go false e (inr h) rec = inr (rec h)

has_no_longer : (n : ℕ) (functions : List Open) (o : Open) → HasOpen (map (awaits_no_more n) functions) o →
    (p : Open) × HasOpen functions p × (awaits_no_more n p ≡ o)
has_no_longer n [] o h = absurd h
has_no_longer n (p ∷ ps) o (inl h) = (p, inl refl, h)
has_no_longer n (p ∷ ps) o (inr h) = let r = has_no_longer n ps o h in (r.0, inr r.1, r.2)

no_longer_has : (n : ℕ) (functions : List Open) (p : Open) → HasOpen functions p →
    HasOpen (map (awaits_no_more n) functions) (awaits_no_more n p)
no_longer_has n [] p h = absurd h
no_longer_has n (q ∷ qs) p (inl h) = inl (ap (awaits_no_more n) h)
no_longer_has n (q ∷ qs) p (inr h) = inr (no_longer_has n qs p h)

pub opens_no_longer : (P : ℕ → ℕ → Type 0) (journal : List Logged) (works : List Arrival) (queue : List Task)
    (functions : List Open) (to_a : List Message) (to_b : List Message) (n : ℕ) →
    has (is_entry n) journal ≡ true → ((x : Task) → Has queue x → is_active x.stage ≡ true → x.no ≡ n → ⊥) →
    Opens P journal works queue functions to_a to_b →
    Opens P journal works queue (map (awaits_no_more n) functions) to_a to_b
opens_no_longer P journal works queue functions to_a to_b n over none h = record {
  gone = h.gone;
  begun = h.begun;
  stops = λ m f x s k i a. let r = h.stops m f x s k i a in (
    awaits_no_more n r.0,
    no_longer_has n functions r.0 r.1,
    r.2,
    still_in m n r.0.awaits r.3
        (λ e. none x k (remote_active x.stage a) (i ∙ e)),
    r.4,
  );
  one = λ o p ho hp k.
      let a = has_no_longer n functions o ho in
      let b = has_no_longer n functions p hp in
      let q : a.0 ≡ b.0 = h.one a.0 b.0 a.1 b.1 (ap (λ (z : Open). z.no) a.2 ∙ k ∙ sym (ap (λ (z : Open). z.no) b.2)) in
      sym a.2 ∙ ap (awaits_no_more n) q ∙ b.2;
  asked = λ o k. let r = has_no_longer n functions o k in let a = h.asked r.0 r.1 in
      subst (λ (z : Open). IsAsked journal works z) r.2
      (record { node = a.node; came = a.came; asking = a.asking; entry = a.entry; cut = a.cut });
  awaits = λ o x ho k a. let r = has_no_longer n functions o ho in
      subst (λ (z : Open). is_hit z.ask x ≡ true → IsIn x.no z.awaits ⊎ P z.no x.no) r.2
      (λ i. ⊎_elim (λ j. inl (still_in x.no n r.0.awaits j (none x k a))) inr (h.awaits r.0 x r.1 k a i));
  behind = λ o k m node c w. let r = has_no_longer n functions o k in
      subst (λ (z : Open). comes_first (is_enter m) (is_asked z.no) journal ≡ true → hits z.ask c.nexus c.tag ≡ true →
      (has (is_entry m) journal ≡ true) ⊎ (IsIn m z.awaits ⊎ P z.no m)) r.2
      (λ f i. ⊎_elim inl (λ (a : IsIn m r.0.awaits ⊎ P r.0.no m). ⊎_elim (λ (a : IsIn m r.0.awaits). ⊎_elim
      (λ (e : m ≡ n). inl (subst (λ j. has (is_entry j) journal ≡ true) (sym e) over))
      (λ (ne : m ≡ n → ⊥). inr (inl (still_in m n r.0.awaits a ne))) (cases_eq m n))
      (λ (b : P r.0.no m). inr (inr b)) a) (h.behind r.0 r.1 m node c w f i));
}

-- one that awaits nothing closes
pub has_without_function : (n : ℕ) (functions : List Open) (o : Open) → HasOpen (without_function n functions) o →
    HasOpen functions o × (o.no ≡ n → ⊥)
has_without_function n [] o h = absurd h
has_without_function n (p ∷ ps) o h = go (nat_eq p.no n) refl h (has_without_function n ps o)
  where
    go : (t : Bool) → nat_eq p.no n ≡ t → HasOpen (cond t (without_function n ps) (p ∷ without_function n ps)) o →
        (HasOpen (without_function n ps) o → HasOpen ps o × (o.no ≡ n → ⊥)) → HasOpen (p ∷ ps) o × (o.no ≡ n → ⊥)
    go true e h rec = let r = rec h in (inr r.0, r.1)
    go false e (inl h) rec = (inl h, λ k. eqb-false p.no n e (ap (λ (z : Open). z.no) h ∙ k))
    go false e (inr h) rec = let r = rec h in (inr r.0, r.1)

pub without_function_has : (n : ℕ) (functions : List Open) (o : Open) → HasOpen functions o → (o.no ≡ n → ⊥) →
    HasOpen (without_function n functions) o
without_function_has n [] o h ne = absurd h
without_function_has n (p ∷ ps) o h ne = go (nat_eq p.no n) refl h (λ h'. without_function_has n ps o h' ne)
  where
    go : (t : Bool) → nat_eq p.no n ≡ t → HasOpen (p ∷ ps) o → (HasOpen ps o → HasOpen (without_function n ps) o) →
        HasOpen (cond t (without_function n ps) (p ∷ without_function n ps)) o
    go true e (inl h) rec = absurd (ne (ap (λ (z : Open). z.no) (sym h) ∙ eqb-true p.no n e))
    go true e (inr h) rec = rec h
    go false e (inl h) rec = inl h
    go false e (inr h) rec = inr (rec h)

pub opens_closes : (P : ℕ → ℕ → Type 0) (journal : List Logged) (works : List Arrival) (queue : List Task)
    (functions : List Open) (to_a : List Message) (to_b : List Message) (o : Open) → HasOpen functions o →
    o.awaits ≡ [] →
    Opens P journal works queue functions to_a to_b →
    Opens P journal works queue (without_function o.no functions) to_a to_b
opens_closes P journal works queue functions to_a to_b o ho none h = record {
  gone = h.gone;
  begun = h.begun;
  stops = λ m f x s k i a. let r = h.stops m f x s k i a in (
    r.0,
    without_function_has o.no functions r.0 r.1
        (λ e. subst (IsIn m) (ap (λ (z : Open). z.awaits) (h.one r.0 o r.1 ho e) ∙ none) r.3),
    r.2,
    r.3,
    r.4,
  );
  one = λ p q hp hq. h.one p q (has_without_function o.no functions p hp).0
      (has_without_function o.no functions q hq).0;
  asked = λ p k. h.asked p (has_without_function o.no functions p k).0;
  awaits = λ p x hp. h.awaits p x (has_without_function o.no functions p hp).0;
  behind = λ p k. h.behind p (has_without_function o.no functions p k).0;
}

-- a function opens, at its place by number
pub has_with_function : (p : Open) (fs : List Open) (o : Open) → HasOpen (with_function p fs) o → HasOpen fs o ⊎ (p ≡ o)
has_with_function p [] o (inl h) = inr h
has_with_function p [] o (inr h) = absurd h
has_with_function p (q ∷ fs) o h = go (nat_lt p.no q.no) h (has_with_function p fs o)
  where
    go : (t : Bool) → HasOpen (cond t (p ∷ q ∷ fs) (q ∷ with_function p fs)) o →
        (HasOpen (with_function p fs) o → HasOpen fs o ⊎ (p ≡ o)) → HasOpen (q ∷ fs) o ⊎ (p ≡ o)
    go true (inl h) rec = inr h
    go true (inr h) rec = inl h
    go false (inl h) rec = inl (inl h)
    go false (inr h) rec = ⊎_elim (λ (r : HasOpen fs o). inl (inr r)) inr (rec h)

pub with_function_has : (p : Open) (fs : List Open) (o : Open) → HasOpen fs o → HasOpen (with_function p fs) o
with_function_has p [] o h = absurd h
with_function_has p (q ∷ fs) o h = go (nat_lt p.no q.no) h (with_function_has p fs o)
  where
    go : (t : Bool) → HasOpen (q ∷ fs) o → (HasOpen fs o → HasOpen (with_function p fs) o) →
        HasOpen (cond t (p ∷ q ∷ fs) (q ∷ with_function p fs)) o
    go true h rec = inr h
    go false (inl h) rec = inl h
    go false (inr h) rec = inr (rec h)

pub with_function_itself : (p : Open) (fs : List Open) → HasOpen (with_function p fs) p
with_function_itself p [] = inl refl
with_function_itself p (q ∷ fs) = go (nat_lt p.no q.no) (with_function_itself p fs)
  where
    go : (t : Bool) → HasOpen (with_function p fs) p → HasOpen (cond t (p ∷ q ∷ fs) (q ∷ with_function p fs)) p
    go true rec = inl refl
    go false rec = inr rec

-- the new one's stops, what it awaits, and what is still to be cut
pub record Opening (P : ℕ → ℕ → Type 0) (journal : List Logged) (works : List Arrival) (queue : List Task)
    (functions : List Open) (stops : List Message) (p : Open) : Type 0 where
  pub asked : IsAsked journal works p
  pub new : (o : Open) → HasOpen functions o → o.no ≡ p.no → ⊥
  pub unended : (n : ℕ) → Sent is_end n stops → ⊥
  pub begun : (n f : ℕ) → IsStop n f stops →
      (f ≡ p.no) × ((has (is_begin n) journal ≡ true) ⊎ ((has (is_entry n) journal ≡ true) ⊎ P f n))
  pub hit : (n f : ℕ) (x : Task) → IsStop n f stops → Has queue x → x.no ≡ n → is_at_b x.stage ≡ true →
      IsIn n p.awaits × (is_hit p.ask x ≡ true)
  pub awaits : (x : Task) → Has queue x → is_active x.stage ≡ true → is_hit p.ask x ≡ true →
      IsIn x.no p.awaits ⊎ P p.no x.no
  pub behind : (n : ℕ) (node : Node) (c : Command) →
      numbered n works ≡ Some (record { node = node; work = work.Cmd c }) →
      comes_first (is_enter n) (is_asked p.no) journal ≡ true → hits p.ask c.nexus c.tag ≡ true →
      (has (is_entry n) journal ≡ true) ⊎ (IsIn n p.awaits ⊎ P p.no n)

pub opens_opens : (P : ℕ → ℕ → Type 0) (journal : List Logged) (works : List Arrival) (queue : List Task)
    (functions : List Open) (to_a : List Message) (to_b stops : List Message) (p : Open) →
    Opening P journal works queue functions stops p →
    Opens P journal works queue functions to_a to_b →
    Opens P journal works queue (with_function p functions) to_a (to_b ++ stops)
opens_opens P journal works queue functions to_a to_b stops p n h = record {
  gone = h.gone;
  begun = λ m f k. ⊎_elim (h.begun m f) (λ (r : IsStop m f stops). (n.begun m f r).1) (stop_append m f to_b stops k);
  stops = λ m f x s k i a. ⊎_elim
      (λ (r : IsStop m f to_b). let q = h.stops m f x r k i a in
      (q.0, with_function_has p functions q.0 q.1, q.2, q.3, q.4))
      (λ (r : IsStop m f stops). let q = n.hit m f x r k i a in
      (p, with_function_itself p functions, sym (n.begun m f r).0, q.0, q.1))
      (stop_append m f to_b stops s);
  one = λ o q ho hq e. ⊎_elim
      (λ (a : HasOpen functions o). ⊎_elim (λ (b : HasOpen functions q). h.one o q a b e)
      (λ (b : p ≡ q). absurd (n.new o a (e ∙ sym (ap (λ (z : Open). z.no) b)))) (has_with_function p functions q hq))
      (λ (a : p ≡ o). ⊎_elim (λ (b : HasOpen functions q). absurd (n.new q b (sym e ∙ sym (ap (λ (z : Open). z.no) a))))
      (λ (b : p ≡ q). sym a ∙ b) (has_with_function p functions q hq))
      (has_with_function p functions o ho);
  asked = λ o k. ⊎_elim (h.asked o) (λ (e : p ≡ o). subst (IsAsked journal works) e n.asked)
      (has_with_function p functions o k);
  awaits = λ o x ho k a i. ⊎_elim (λ (b : HasOpen functions o). h.awaits o x b k a i)
      (λ (e : p ≡ o). subst (λ (z : Open). is_hit z.ask x ≡ true → IsIn x.no z.awaits ⊎ P z.no x.no) e
      (n.awaits x k a) i) (has_with_function p functions o ho);
  behind = λ o k m node c w f i. ⊎_elim (λ (b : HasOpen functions o). h.behind o b m node c w f i)
      (λ (e : p ≡ o). subst (λ (z : Open). comes_first (is_enter m) (is_asked z.no) journal ≡ true → hits z.ask c.nexus c.tag ≡ true → (has (is_entry m) journal ≡ true) ⊎ (IsIn m z.awaits ⊎ P z.no m)) e (n.behind m node c w) f i) (has_with_function p functions o k);
}
