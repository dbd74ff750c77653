-- Functions are taken up, cut, wait and close.
use Rattle.std.proofs.Common.{◌≡◌, ℕ, ◌≤◌, ◌<◌, ◌⊎◌, inl, inr, Bool, true, false, not, List, [], ◌∷◌, ◌++◌, Some, None}
use Rattle.std.proofs.Common.{length, map, refl, sym, ap, ◌∙◌, subst, ⊎_elim, arith, eqb-true, eq-eqb, ne_eqb, cond}
use Rattle.std.proofs.Common.{◌&&◌, append-nil}
use Rattle.std.proofs.lemmas.Bool.{cases_Bool, both_ways, and_parts}
use Rattle.ct_word.specs.declared.names.Node.{Node}
use Rattle.ct_tmf.specs.declared.function.Ask.{Ask}
use Rattle.ct_book.specs.declared.work.Command.{Command}
use Rattle.ct_book.specs.declared.work.Work.TheVariants as work
use Rattle.ct_book.specs.declared.event.Event.TheVariants as event
use Rattle.ct_book.specs.declared.event.Logged.{Logged}
use Rattle.ct_book.specs.Journals.{numbered, works_in}
use Rattle.ct_exec.specs.Controls.{ControlState, Disk, is_unrestricted}
use Rattle.ct_machine.specs.declared.act.Opening.{Opening}
use Rattle.ct_machine.specs.States.{Task, Stage, Waiting, Here, Granted, There, Over, Open, Arrival, State}
use Rattle.ct_machine.specs.States.{is_waiting, has_begun}
use Rattle.ct_machine.specs.Events.Functions.{works_of}
use Rattle.ct_machine.specs.Serial.{serial_disk}
use Rattle.ct_machine.specs.Laws.Journals.{has, is_entry, is_begin, is_enter, is_asked, comes_first}
use Rattle.ct_law.proofs.Lists.Tasks.{Has}
use Rattle.ct_law.proofs.Cells.Held.{Rules, Holds, is_active}
use Rattle.ct_law.proofs.Journals.Journal.{each_more, has_same, has_not, has_now, has_stays, Untouched}
use Rattle.ct_law.proofs.Journals.Growing.{works_in-none, serial-more}
use Rattle.ct_law.proofs.Lists.Messages.{is_end, Sent, IsStop}
use Rattle.ct_law.proofs.Frame.Books.{Books, IsAsk, is_over, arrival_for, books_function}
use Rattle.ct_law.proofs.Frame.Orders.{orders_event}
use Rattle.ct_law.proofs.Frame.Opens.{IsAsked, HasOpen, opens_event}
use Rattle.ct_law.proofs.Inv.{LawfulAt, Frame, Inv, told, restricted_before, serial-same, cells_quiet}
use Rattle.std.proofs.lemmas.Option.{same_Some}
use Rattle.std.specs.List.{filter, list_any}
use Rattle.ct_tmf.specs.declared.function.Outcome.TheVariants.{Complete, Succeeded, Rejected}
use Rattle.ct_tmf.specs.Reaches.{hits}
use Rattle.ct_book.specs.Histories.{cut_by, set_of, set_by}
use Rattle.ct_exec.specs.Closing.{closing_control}
use Rattle.ct_exec.specs.Executions.{refusal_of}
use Rattle.ct_machine.specs.States.{is_here}
use Rattle.ct_machine.specs.Events.Functions.{is_hit, is_awaited, awaited_by, wants_stop, stops_by, is_told, taken_up}
use Rattle.ct_machine.specs.Events.Functions.{without_function, others_cut}
use Rattle.ct_machine.specs.Events.Sends.{stop}
use Rattle.ct_machine.specs.Acts.Functions.{is_sought, outcome_of, numbers_of}
use Rattle.ct_machine.specs.Serial.{function_done}
use Rattle.ct_machine.specs.Laws.Prefix.{ClosesBehindAll}
use Rattle.ct_machine.specs.Laws.Reorders.{KeepsOrder}
use Rattle.ct_machine.specs.Laws.Journals.{IsFunctionOf}
use Rattle.ct_machine.specs.Laws.Kinds.{is_rejected}
use Rattle.ct_law.proofs.Rows.Laws.{Laws}
use Rattle.ct_law.proofs.Cells.Held.{rules_closes, closes_held}
use Rattle.ct_law.proofs.Journals.Journal.{first_has, cut_more}
use Rattle.ct_law.proofs.Journals.Growing.{numbered-map, numbered_back}
use Rattle.ct_law.proofs.Frame.Opens.{IsIn, is_at_b, opens_opens, opens_closes, has_without_function, opens_less}
use Rattle.ct_law.proofs.Events.Steps.{rules_same, holds_same}
use Rattle.ct_law.proofs.Events.Overs.{still_active}

-- an event of a function that is none of the task set

pub function_in : (P : ℕ → ℕ → Type 0) (o : Opening) (s : State) (journal : List Logged) (n : ℕ) (node : Node)
    (ask : Ask) → Frame P o s journal → numbered n s.arrivals ≡ Some (record { node = node; work = work.Ask ask }) →
    IsFunctionOf journal n ask
function_in P o s journal n node ask h came =
    ap (numbered n) (sym h.works) ∙ numbered-map (λ (a : Arrival). a.work) n s.arrivals _ came

pub not_function : (P : ℕ → ℕ → Type 0) (o : Opening) (s : State) (journal : List Logged) (n : ℕ) (node : Node)
    (ask : Ask) → Frame P o s journal → numbered n s.arrivals ≡ Some (record { node = node; work = work.Ask ask }) →
    (y : Task) → Has s.tasks y → y.no ≡ n → ⊥
not_function P o s journal n node ask h came y hy k =
    let w : Some (arrival_for y) ≡ Some (record { node = node; work = work.Ask ask }) =
    sym (h.books.known y hy) ∙ ap (λ m. numbered m s.arrivals) k ∙ came in
    let z : work.Cmd y.command ≡ work.Ask ask = ap (λ (a : Arrival). a.work) (same_Some _ _ w) in
    cc

-- a function is rejected
pub rejected_so : (P : ℕ → ℕ → Type 0) (o : Opening) (s : State) (journal : List Logged) (n : ℕ) (node : Node)
    (ask : Ask) → Inv P o s journal → Untouched n journal → (IsAsk n s.to_a → ⊥) → n ≤ length s.arrivals →
    numbered n s.arrivals ≡ Some (record { node = node; work = work.Ask ask }) →
    Inv P o s (journal ++ told (event.Closed n Rejected) ∷ [])
rejected_so P o s journal n node ask h u new within came = record {
  frame = record {
    each = each_more (LawfulAt o) [] journal e h.frame.each (record {
      once = λ m k. subst (λ i. has (is_entry i) journal ≡ false) (eqb-true n m k) u.entry;
      typed = record { work = (ask, function_in P o s journal n node ask h.frame came); by = tt; closed = u.asking };
      orderly = tt;
      reorders = λ b entered began left. refl;
      plan = tt;
      prefix = λ a m c f g i j. absurd (both_ways (has (is_asked n) journal) u.asking j);
      cells = tt;
      sound = tt;
      legal = λ r. tt;
    });
    works = h.frame.works ∙ sym (works_in-none journal e refl);
    size = h.frame.size;
    books = books_function journal s.arrivals s.tasks s.to_a e h.frame.books (λ m. refl)
        (λ y hy k. not_function P o s journal n node ask h.frame came y hy (sym k))
        (λ m k i. ⊎_elim (λ (l : length s.arrivals < m). omega (arith, l, i, within))
        (λ (a : IsAsk m s.to_a). new (subst (λ j. IsAsk j s.to_a) (sym i) a)) k);
    orders = orders_event journal s.tasks e (λ m. refl) h.frame.orders;
    opens = opens_event P journal s.arrivals s.tasks s.functions s.to_a s.to_b e
        (λ p hp. (ne_eqb n p.no (λ i. both_ways (has (is_asked n) journal) u.asking (subst (λ j. has (is_asked j) journal ≡ true) (sym i) (h.frame.opens.asked p hp).asking)), refl)) h.frame.opens;
  };
  rules = rules_same o journal e s.control s.tasks same h.rules;
  cells = cells_quiet o s s journal e h.cells refl refl refl (λ m k. sym (has_same (is_enter m) journal e refl) ∙ k);
  holds = holds_same o journal e s.blocks s.tasks same h.holds;
}
  where
    e : Logged
    e = told (event.Closed n Rejected)

    same : serial_disk o (journal ++ e ∷ []) ≡ serial_disk o journal
    same = serial-more o journal e

-- a function that awaits nothing closes
pub closes_so : (P : ℕ → ℕ → Type 0) (laws : Laws) (o : Opening) (s : State) (journal : List Logged) (p : Open) →
    ((f n : ℕ) → P f n → ⊥) → Inv P o s journal → HasOpen s.functions p → p.awaits ≡ [] →
    Inv P o (record s {
      functions = without_function p.no s.functions;
      control = closing_control p.ask (others_cut p s) s.control;
    }) (journal ++ told (event.Closed p.no (outcome_of p.ask s)) ∷ [])
closes_so P laws o s journal p idle h hp none = record {
  frame = record {
    each = each_more (LawfulAt o) [] journal e h.frame.each (record {
      once = λ m k. subst (λ i. has (is_entry i) journal ≡ false) (eqb-true p.no m k) a.entry;
      typed = record {
        work = (p.ask, in_journal);
        by = tt;
        closed = a.asking ∙ sym
            (ap not (unrejected (list_any (is_sought p.ask) s.tasks)));
      };
      orderly = tt;
      reorders = keeps;
      plan = tt;
      prefix = behind;
      cells = tt;
      sound = tt;
      legal = λ r. tt;
    });
    works = h.frame.works ∙ sym (works_in-none journal e refl);
    size = h.frame.size;
    books = books_function journal s.arrivals s.tasks s.to_a e h.frame.books (λ m. refl)
        (λ y hy k. not_function P o s journal p.no a.node p.ask h.frame a.came y hy (sym k))
        (λ m k i. both_ways (has (is_asked m) journal) (h.frame.books.fresh m k).asking
        (subst (λ j. has (is_asked j) journal ≡ true) i a.asking));
    orders = orders_event journal s.tasks e (λ m. refl) h.frame.orders;
    opens = opens_event P journal s.arrivals s.tasks (without_function p.no s.functions) s.to_a s.to_b e
        (λ q hq. (ne_eqb p.no q.no (λ k. (has_without_function p.no s.functions q hq).1 (sym k)), refl))
        (opens_closes P journal s.arrivals s.tasks s.functions s.to_a s.to_b p hp none h.frame.opens);
  };
  rules = subst (λ k. Rules o.blocks k now s.tasks) (sym next)
      (rules_closes o.blocks d s.control s.tasks now h.rules spared);
  cells = cells_quiet o s (record s {
    functions = without_function p.no s.functions;
    control = now;
  }) journal e h.cells refl refl refl (λ m k. sym (has_same (is_enter m) journal e refl) ∙ k);
  holds = λ r. subst (λ k. Holds o.blocks k s.blocks s.tasks) (sym next)
      (closes_held o.blocks d s.blocks s.tasks now (h.holds (restricted_before o journal e r)));
}
  where
    e : Logged
    e = told (event.Closed p.no (outcome_of p.ask s))

    d : Disk
    d = serial_disk o journal

    a : IsAsked journal s.arrivals p
    a = h.frame.opens.asked p hp

    now : ControlState
    now = closing_control p.ask (others_cut p s) s.control

    in_journal : IsFunctionOf journal p.no p.ask
    in_journal = function_in P o s journal p.no a.node p.ask h.frame a.came

    unrejected : (t : Bool) → is_rejected (cond t Succeeded Complete) ≡ false
    unrejected true = refl
    unrejected false = refl

    done : (t : Bool) (others : List Bool) →
        function_done (cond t Succeeded Complete) others (Some (work.Ask p.ask)) d
        ≡ record d { control = closing_control p.ask others d.control }
    done true others = refl
    done false others = refl

    others_same : set_by (Some (work.Ask p.ask)) (works_in journal) (cut_by p.no journal) ≡ others_cut p s
    others_same =
        ap (λ ws. set_of p.ask.function p.ask.nexus ws (cut_by p.no journal)) (sym h.frame.works) ∙ ap
        (λ c. set_of p.ask.function p.ask.nexus (works_of s) c) (sym a.cut)

    next : serial_disk o (journal ++ e ∷ []) ≡ record d { control = now }
    next =
        serial-more o journal e
        ∙ ap (λ w. function_done (outcome_of p.ask s)
        (set_by w (works_in journal) (cut_by p.no journal)) w d) in_journal
        ∙ done _ (set_by (Some (work.Ask p.ask)) (works_in journal) (cut_by p.no journal))
        ∙ ap (λ l. record d { control = closing_control p.ask l d.control }) others_same
        ∙ ap (λ k. record d { control = closing_control p.ask (others_cut p s) k }) (sym h.rules.control)

    nothing_in : {Q : Type 0} (m f : ℕ) → IsIn m p.awaits ⊎ P f m → Q
    nothing_in m f k = absurd (⊎_elim (λ (i : IsIn m p.awaits). subst (IsIn m) none i) (λ (i : P f m). idle f m i) k)

    -- what has begun and isn't over isn't hit, and so the modifier stays
    keeps : KeepsOrder o journal (event.Closed p.no (outcome_of p.ask s))
    keeps n entered began left =
        let live = h.frame.books.live n entered left in
        let y : Task = live.0 in
        let alive : is_over y.stage ≡ false =
        sym (h.frame.books.entry y live.1) ∙ ap (λ m. has (is_entry m) journal) live.2 ∙ left in
        let begun : has_begun y.stage ≡ true =
        sym (h.frame.books.begin y live.1 alive) ∙ ap (λ m. has (is_begin m) journal) live.2 ∙ began in
        let same : is_unrestricted now ≡ is_unrestricted s.control =
        ⊎_elim
        (λ (i : is_hit p.ask y ≡ true).
        nothing_in y.no p.no (h.frame.opens.awaits p y hp live.1 (still_active y.stage alive begun) i))
        (λ (i : is_hit p.ask y ≡ false). laws.spared_order p.ask (others_cut p s) s.control y.command i)
        (cases_Bool (is_hit p.ask y)) in
        ap (λ (k : Disk). is_unrestricted k.control) (sym (serial-more o journal e) ∙ next) ∙ same
        ∙ ap is_unrestricted h.rules.control

    behind : ClosesBehindAll journal p.no
    behind ask m c w v first asked hit =
        let k : Some (work.Ask p.ask) ≡ Some (work.Ask ask) = sym in_journal ∙ w in
        let same : p.ask ≡ ask = cc in
        let back = back_to m c v in
        ⊎_elim (λ z. z) (λ (z : IsIn m p.awaits ⊎ P p.no m). nothing_in m p.no z)
        (h.frame.opens.behind p hp m back.0 c back.1 first (subst (λ q. hits q c.nexus c.tag ≡ true) (sym same) hit))
      where
        back_to : (m : ℕ) (c : Command) → numbered m (works_in journal) ≡ Some (work.Cmd c) →
            (node : Node) × (numbered m s.arrivals ≡ Some (record { node = node; work = work.Cmd c }))
        back_to m c v = numbered_back m s.arrivals c (ap (numbered m) h.frame.works ∙ v)

    spared : (x : Task) → Has s.tasks x → is_active x.stage ≡ true → refusal_of now o.blocks x.command ≡ None
    spared x hx b = ⊎_elim
        (λ (i : is_hit p.ask x ≡ true). nothing_in x.no p.no (h.frame.opens.awaits p x hp hx b i))
        (λ (i : is_hit p.ask x ≡ false). laws.spared p.ask (others_cut p s) s.control o.blocks x.command i
        (ap (λ k. refusal_of k o.blocks x.command) h.rules.control ∙ (h.rules.allowed x hx b).0))
        (cases_Bool (is_hit p.ask x))

-- Taking up

-- a command that the function hits, and that waits or began at A when it was taken up
pub record IsDue (ask : Ask) (tasks : List Task) (n : ℕ) : Type 0 where
  pub task : Task
  pub has : Has tasks task
  pub no : task.no ≡ n
  pub hit : is_hit ask task ≡ true
  pub here : is_here task.stage ≡ true

-- what the function still has to carry out, of these numbers
abbrev pub Due : ℕ → Ask → List Task → List ℕ → ℕ → ℕ → Type 0
Due number ask tasks left f n = (f ≡ number) × IsIn n left × IsDue ask tasks n

pub numbers_has : (q : List Task) (x : Task) → Has q x → IsIn x.no (numbers_of q)
numbers_has [] x h = h
numbers_has (y ∷ ys) x (inl h) = inl (ap (λ (z : Task). z.no) h)
numbers_has (y ∷ ys) x (inr h) = inr (numbers_has ys x h)

-- what is hit and at B is awaited
awaited_has : (ask : Ask) (q : List Task) (x : Task) → Has q x → is_hit ask x ≡ true → is_here x.stage ≡ false →
    IsIn x.no (awaited_by ask q)
awaited_has ask [] x h i k = h
awaited_has ask (y ∷ ys) x h i k = go (is_awaited ask y) refl h (λ h'. awaited_has ask ys x h' i k)
  where
    awaited : is_awaited ask x ≡ true
    awaited = ap (λ t. t && not (is_here x.stage)) i ∙ ap not k

    go : (t : Bool) → is_awaited ask y ≡ t → Has (y ∷ ys) x → (Has ys x → IsIn x.no (awaited_by ask ys)) →
        IsIn x.no (map (λ (z : Task). z.no) (cond t (y ∷ filter (is_awaited ask) ys) (filter (is_awaited ask) ys)))
    go true e (inl j) rec = inl (ap (λ (z : Task). z.no) j)
    go true e (inr j) rec = inr (rec j)
    go false e (inl j) rec =
        absurd (both_ways (is_awaited ask y) e (subst (λ (z : Task). is_awaited ask z ≡ true) (sym j) awaited))
    go false e (inr j) rec = rec j

-- each stop is for a command of the task set that is hit
pub record Stopped (s : State) (ask : Ask) (by : ℕ) (tasks : List Task) (n f : ℕ) : Type 0 where
  pub by_it : f ≡ by
  pub task : Task
  pub has : Has tasks task
  pub no : task.no ≡ n
  pub hit : is_hit ask task ≡ true

stops_are : (s : State) (by : ℕ) (ask : Ask) (tasks : List Task) (n f : ℕ) → IsStop n f (stops_by s by ask tasks) →
    Stopped s ask by tasks n f
stops_are s by ask [] n f h = absurd h
stops_are s by ask (y ∷ ys) n f h = go (wants_stop s ask y) refl h (stops_are s by ask ys n f)
  where
    more : Stopped s ask by ys n f → Stopped s ask by (y ∷ ys) n f
    more r = record { by_it = r.by_it; task = r.task; has = inr r.has; no = r.no; hit = r.hit }

    go : (t : Bool) → wants_stop s ask y ≡ t →
        IsStop n f (cond t (stop y.no by (is_told s ask y) ∷ stops_by s by ask ys) (stops_by s by ask ys)) →
        (IsStop n f (stops_by s by ask ys) → Stopped s ask by ys n f) → Stopped s ask by (y ∷ ys) n f
    go true e (inl k) rec = record { by_it = sym k.2; task = y; has = inl refl; no = k.1; hit = (and_parts _ _ e).0 }
    go true e (inr k) rec = more (rec k)
    go false e k rec = more (rec k)

stops_unended : (s : State) (by : ℕ) (ask : Ask) (tasks : List Task) (n : ℕ) → Sent is_end n (stops_by s by ask tasks) →
    ⊥
stops_unended s by ask [] n h = h
stops_unended s by ask (y ∷ ys) n h = go (wants_stop s ask y) h (stops_unended s by ask ys n)
  where
    go : (t : Bool) → Sent is_end n
        (cond t (stop y.no by (is_told s ask y) ∷ stops_by s by ask ys) (stops_by s by ask ys)) →
        (Sent is_end n (stops_by s by ask ys) → ⊥) → ⊥
    go true (inl k) rec = absurd (cc)
    go true (inr k) rec = rec k
    go false k rec = rec k

remote_not_here : (stage : Stage) → is_at_b stage ≡ true → is_here stage ≡ false
remote_not_here Waiting e = absurd (cc)
remote_not_here (Here d g) e = absurd (cc)
remote_not_here Granted e = refl
remote_not_here (There d g) e = refl
remote_not_here Over e = refl

not_here_begun : (stage : Stage) → is_here stage ≡ false →
    (is_over stage ≡ true) ⊎ ((is_over stage ≡ false) × (is_waiting stage ≡ false))
not_here_begun Waiting e = absurd (cc)
not_here_begun (Here d g) e = absurd (cc)
not_here_begun Granted e = inr (refl, refl)
not_here_begun (There d g) e = inr (refl, refl)
not_here_begun Over e = inl refl

-- a function is taken up: it is open, with its stops on their way
pub asked_so : (P : ℕ → ℕ → Type 0) (o : Opening) (s : State) (journal : List Logged) (n : ℕ) (node : Node)
    (ask : Ask) → ((f m : ℕ) → P f m → ⊥) → Inv P o s journal → Untouched n journal → (IsAsk n s.to_a → ⊥) →
    n ≤ length s.arrivals →
    numbered n s.arrivals ≡ Some (record { node = node; work = work.Ask ask }) →
    Inv (Due n ask s.tasks (numbers_of s.tasks)) o (taken_up n ask s) (journal ++ told (event.Asked n) ∷ [])
asked_so P o s journal n node ask idle h u new within came = record {
  frame = record {
    each = each_more (LawfulAt o) [] journal e h.frame.each
        (record {
          once = λ m k. absurd (cc);
          typed = record { work = (ask, function_in P o s journal n node ask h.frame came); by = tt; closed = tt };
          orderly = tt;
          reorders = λ b entered began left. refl;
          plan = tt;
          prefix = tt;
          cells = tt;
          sound = tt;
          legal = λ r. tt;
        });
    works = h.frame.works ∙ sym (works_in-none journal e refl);
    size = h.frame.size;
    books = books;
    orders = orders_event journal s.tasks e (λ m. refl) h.frame.orders;
    opens = opens_opens (Due n ask s.tasks (numbers_of s.tasks))
        (journal ++ e ∷ []) s.arrivals s.tasks s.functions s.to_a s.to_b (stops_by s n ask s.tasks) p (record {
          asked = record {
            node = node;
            came = came;
            asking = has_now (is_asked n) journal e (eq-eqb n n refl);
            entry = has_not (is_entry n) journal e u.entry refl;
            cut = sym (cut_more n journal e ∙ append-nil (cut_by n journal) ∙ u.cut);
          };
          new = λ q hq k. both_ways (has (is_asked n) journal) u.asking
              (subst (λ m. has (is_asked m) journal ≡ true) k (h.frame.opens.asked q hq).asking);
          unended = λ m k. stops_unended s n ask s.tasks m k;
          begun = λ m f k. let r = stops_are s n ask s.tasks m f k in (r.by_it, stopped_begun m f r);
          hit = λ m f x k hx i remote. let r = stops_are s n ask s.tasks m f k in
              let same : r.task ≡ x = h.rules.single r.task x r.has hx (r.no ∙ sym i) in
              let hit : is_hit ask x ≡ true = subst (λ (z : Task). is_hit ask z ≡ true) same r.hit in (
                subst (λ j. IsIn j (awaited_by ask s.tasks)) i
                    (awaited_has ask s.tasks x hx hit (remote_not_here x.stage remote)),
                hit,
              );
          awaits = λ x hx a hit. due_or x hx hit;
          behind = λ m node' c w first hit. behind m node' c w first hit;
        }) (opens_less P (Due n ask s.tasks (numbers_of s.tasks))
        (journal ++ e ∷ []) s.arrivals s.tasks s.functions s.to_a s.to_b
        (λ m f k i. absurd (idle f m i)) (λ q x hq hx a i j. absurd (idle q.no x.no j))
        (λ q m hq node' c w f i j. absurd (idle q.no m j))
        (opens_event P journal s.arrivals s.tasks s.functions s.to_a s.to_b e (λ q hq. (refl, refl)) h.frame.opens));
  };
  rules = rules_same o journal e s.control s.tasks (serial-same o journal e refl) h.rules;
  cells = cells_quiet o s (taken_up n ask s) journal e h.cells refl refl refl
      (λ m k. sym (has_same (is_enter m) journal e refl) ∙ k);
  holds = holds_same o journal e s.blocks s.tasks (serial-same o journal e refl) h.holds;
}
  where
    e : Logged
    e = told (event.Asked n)

    p : Open
    p = record { no = n; ask = ask; awaits = awaited_by ask s.tasks; cut = [] }

    books : Books (journal ++ e ∷ []) s.arrivals s.tasks s.to_a
    books = books_function journal s.arrivals s.tasks s.to_a e h.frame.books (λ m. refl)
        (λ y hy k. not_function P o s journal n node ask h.frame came y hy (sym k))
        (λ m k i. ⊎_elim (λ (l : length s.arrivals < m). omega (arith, l, i, within))
        (λ (a : IsAsk m s.to_a). new (subst (λ j. IsAsk j s.to_a) (sym i) a)) k)

    due : (x : Task) → Has s.tasks x → is_hit ask x ≡ true → is_here x.stage ≡ true →
        Due n ask s.tasks (numbers_of s.tasks) n x.no
    due x hx hit here =
        (refl, numbers_has s.tasks x hx, record { task = x; has = hx; no = refl; hit = hit; here = here })

    due_or : (x : Task) → Has s.tasks x → is_hit ask x ≡ true →
        IsIn x.no (awaited_by ask s.tasks) ⊎ Due n ask s.tasks (numbers_of s.tasks) n x.no
    due_or x hx hit = ⊎_elim
        (λ (k : is_here x.stage ≡ true). inr (due x hx hit k))
        (λ (k : is_here x.stage ≡ false). inl (awaited_has ask s.tasks x hx hit k))
        (cases_Bool (is_here x.stage))

    stopped_begun : (m f : ℕ) → Stopped s ask n s.tasks m f →
        (has (is_begin m) (journal ++ e ∷ []) ≡ true)
        ⊎ ((has (is_entry m) (journal ++ e ∷ []) ≡ true) ⊎ Due n ask s.tasks (numbers_of s.tasks) f m)
    stopped_begun m f r = ⊎_elim
        (λ (k : is_here r.task.stage ≡ true). inr
        (inr (r.by_it, subst (λ j. IsIn j (numbers_of s.tasks)) r.no (numbers_has s.tasks r.task r.has), record { task = r.task; has = r.has; no = r.no; hit = r.hit; here = k })))
        (λ (k : is_here r.task.stage ≡ false). ⊎_elim
        (λ (v : is_over r.task.stage ≡ true). inr
        (inl (subst (λ j. has (is_entry j) (journal ++ e ∷ []) ≡ true) r.no (has_stays (is_entry r.task.no) journal e (h.frame.books.entry r.task r.has ∙ v)))))
        (λ (v : (is_over r.task.stage ≡ false) × (is_waiting r.task.stage ≡ false)). inl
        (subst (λ j. has (is_begin j) (journal ++ e ∷ []) ≡ true) r.no
        (has_stays (is_begin r.task.no) journal e (h.frame.books.begin r.task r.has v.0 ∙ ap not v.1))))
        (not_here_begun r.task.stage k))
        (cases_Bool (is_here r.task.stage))

    behind : (m : ℕ) (node' : Node) (c : Command) →
        numbered m s.arrivals ≡ Some (record { node = node'; work = work.Cmd c }) →
        comes_first (is_enter m) (is_asked n) (journal ++ e ∷ []) ≡ true → hits ask c.nexus c.tag ≡ true →
        (has (is_entry m) (journal ++ e ∷ []) ≡ true)
        ⊎ (IsIn m (awaited_by ask s.tasks) ⊎ Due n ask s.tasks (numbers_of s.tasks) n m)
    behind m node' c w first hit = go (has (is_entry m) (journal ++ e ∷ [])) refl
      where
        go : (t : Bool) → has (is_entry m) (journal ++ e ∷ []) ≡ t →
            (has (is_entry m) (journal ++ e ∷ []) ≡ true)
            ⊎ (IsIn m (awaited_by ask s.tasks) ⊎ Due n ask s.tasks (numbers_of s.tasks) n m)
        go true k = inl k
        go false k =
            let live = books.live m (first_has (is_enter m) (is_asked n) (journal ++ e ∷ []) first) k in
            let y : Task = live.0 in
            let q : Some (arrival_for y) ≡ Some (record { node = node'; work = work.Cmd c }) =
            sym (h.frame.books.known y live.1) ∙ ap (λ j. numbered j s.arrivals) live.2 ∙ w in
            let z : work.Cmd y.command ≡ work.Cmd c = ap (λ (a : Arrival). a.work) (same_Some _ _ q) in
            let same : y.command ≡ c = cc in
            inr (subst (λ j. IsIn j (awaited_by ask s.tasks) ⊎ Due n ask s.tasks (numbers_of s.tasks) n j) live.2
            (due_or y live.1 (subst (λ (d : Command). hits ask d.nexus d.tag ≡ true) (sym same) hit)))
