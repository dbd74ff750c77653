-- Works and messages come: what holds after every act, and of all runs.
use Rattle.std.proofs.Common.{◌≡◌, ℕ, inl, inr, Bool, true, false, List, [], ◌∷◌, ◌++◌, Option, Some, None, map, refl}
use Rattle.std.proofs.Common.{sym, ap, ◌∙◌, subst, ⊎_elim, arith, eq-eqb, cond, drop, length-append}
use Rattle.std.proofs.lemmas.Bool.{both_ways}
use Rattle.ct_word.specs.declared.names.Node.{Node}
use Rattle.ct_word.specs.declared.names.Node.TheVariants.{A, B}
use Rattle.ct_word.specs.declared.names.Room.{Room}
use Rattle.ct_book.specs.declared.work.Work.TheVariants as work
use Rattle.ct_book.specs.declared.event.Event.TheVariants as event
use Rattle.ct_book.specs.declared.event.Kind2.{Kind2}
use Rattle.ct_book.specs.declared.event.Kind2.TheVariants as kind
use Rattle.ct_book.specs.declared.event.Why.TheVariants.{By}
use Rattle.ct_book.specs.declared.event.Logged.{Logged}
use Rattle.ct_book.specs.Journals.{KeptWork, numbered, arrived}
use Rattle.ct_machine.specs.declared.act.Opening.{Opening}
use Rattle.ct_machine.specs.States.{Task, Stage, Waiting, Here, Granted, There, Over, Message, Arrival, State}
use Rattle.ct_machine.specs.States.{arrival_of, is_waiting, done_at, without_task, with_task, at_stage}
use Rattle.ct_machine.specs.States.{is_remote}
use Rattle.ct_machine.specs.Events.Sends.{message}
use Rattle.ct_machine.specs.Events.Ends.{over_at_b}
use Rattle.ct_machine.specs.Serial.{serial_disk}
use Rattle.ct_machine.specs.Laws.Journals.{has, is_entry, is_enter, is_asked}
use Rattle.ct_machine.specs.Laws.Cells.{beside}
use Rattle.ct_law.proofs.Lists.Tasks.{Has, has_with}
use Rattle.ct_law.proofs.Cells.Held.{is_active}
use Rattle.ct_law.proofs.Journals.Journal.{each_more, has_same, has_now, has_stays, quiet, Untouched, untouched_more}
use Rattle.ct_law.proofs.Journals.Growing.{works_in-none, numbered_last}
use Rattle.ct_law.proofs.Lists.Messages.{is_arrival, is_end, is_stop, Sent, IsStop, sent_other}
use Rattle.ct_law.proofs.Frame.Books.{Books, IsAsk, is_over, books_came, books_ask, books_function}
use Rattle.ct_law.proofs.Frame.Orders.{orders_event, orders_turns}
use Rattle.ct_law.proofs.Frame.Opens.{HasOpen, opens_event, opens_a, opens_b}
use Rattle.ct_law.proofs.Inv.{LawfulAt, Gained, Inv, got_at, told, serial-same, cells_quiet}
use Rattle.ct_machine.specs.declared.act.Answer.TheVariants as answer
use Rattle.ct_machine.specs.States.{task_of}
use Rattle.ct_machine.specs.Events.{after}
use Rattle.ct_machine.specs.Events.Ends.{after_cut, cut_at as cut_from}
use Rattle.ct_machine.specs.Acts.Turns.{Turn, nothing, writes, says}
use Rattle.ct_machine.specs.Acts.Answers.{Done}
use Rattle.ct_law.proofs.Lists.Tasks.{has_found}
use Rattle.ct_law.proofs.Rows.Laws.{Laws}
use Rattle.ct_law.proofs.Cells.Ends.{puts_at}
use Rattle.ct_law.proofs.Events.Entries.{over_state, tells_so}
use Rattle.ct_law.proofs.Walks.Walk.{Now, After, NoneDue, stays_so, then_so, wrote}
use Rattle.ct_machine.specs.declared.act.Act.{Act}
use Rattle.ct_machine.specs.declared.act.Act.TheVariants as act
use Rattle.ct_machine.specs.States.{opened}
use Rattle.ct_machine.specs.Runs.{replay, IsRun}
use Rattle.ct_machine.specs.Events.Arrivals.{kind_of}
use Rattle.ct_machine.specs.Events.Deliveries.{is_over as gone_at_b, awaits_no_more, after_grant as grant_to}
use Rattle.ct_machine.specs.Events.Deliveries.{begun_at_b}
use Rattle.ct_machine.specs.Events.Ends.{noted}
use Rattle.ct_law.proofs.Cells.Ends.{puts_at}
use Rattle.ct_law.proofs.Runs.{run_induction}
use Rattle.ct_exec.specs.Controls.{opening_disk}
use Rattle.std.proofs.lemmas.Option.{same_Some}
use Rattle.ct_machine.specs.Acts.Entries.{entering}
use Rattle.ct_machine.specs.Acts.Functions.{asking, closing_all, open_numbers, puts_of}
use Rattle.ct_machine.specs.Acts.Arrivals.{next_number, has_room_for, arriving_at, arriving, arriving_here}
use Rattle.ct_machine.specs.Acts.Messages.{taking_in, coming_in, coming_to_a, stopping_at, stopping, coming_to_b}
use Rattle.ct_machine.specs.Acts.Messages.{coming_to, delivering_first, messages_to, delivering}
use Rattle.ct_machine.specs.Acts.Next.{next_step, stepping_next, doing_next}
use Rattle.ct_machine.specs.Acts.{doing}
use Rattle.ct_law.proofs.Frame.Books.{books_pop, books_quietly}
use Rattle.ct_law.proofs.Frame.Opens.{is_at_b, opens_no_longer}
use Rattle.ct_law.proofs.Cells.Held.{opened_rules, opened_held, opened_size}
use Rattle.ct_law.proofs.Cells.Ends.{granted_rules, granted_held}
use Rattle.ct_law.proofs.Events.Nodes.{arriving_by, sent_if, after_arrived}
use Rattle.ct_law.proofs.Events.Steps.{rules_same, holds_same, Comes, came_with, came_so}
use Rattle.ct_law.proofs.Events.Entries.{entry_over, over_inactive, gone_so, opens_turns}
use Rattle.ct_law.proofs.Events.Overs.{by_so}
use Rattle.ct_law.proofs.Walks.Walk.{Fresh, entering_so, closing_all_so, asking_so}
use Rattle.ct_law.proofs.Events.Functions.{function_in}
use Rattle.ct_law.proofs.Acts.Sends.{in_tasks, IsFine, fine_act, fine_opened}
use Rattle.ct_law.proofs.Walks.Schedules.{Worked, worked_without, worked_with, untimed, untimed_by}
use Rattle.ct_law.proofs.Walks.Turns.{found_of, step_so}
use Rattle.std.proofs.Common.{◌≤◌, length}
use Rattle.ct_machine.specs.Laws.Timely.{due_of}

-- Arrivals

pub comes_on_its_way : (w : KeptWork) → is_arrival (kind_of w) ≡ true
comes_on_its_way (work.Cmd c) = refl
comes_on_its_way (work.Ask ask) = refl

ends_nothing : (w : KeptWork) → is_end (kind_of w) ≡ false
ends_nothing (work.Cmd c) = refl
ends_nothing (work.Ask ask) = refl

-- what holds behind a work that came
record Came_so (o : Opening) (journal : List Logged) (n : ℕ) (node : Node) (w : KeptWork) (t : Turn) : Type 0 where
  now : After NoneDue o journal t
  came : numbered n t.state.arrivals ≡ Some (record { node = node; work = w })
  fresh : is_remote node ≡ false → Fresh t.state (journal ++ t.journal) n

came : (o : Opening) (s : State) (journal : List Logged) (node : Node) (w : KeptWork) → Now NoneDue o s journal →
    Came_so o journal (next_number s) node w (writes (arrived (next_number s) node w) s)
came o s journal node w h = record {
  now = wrote NoneDue o s next journal e h.schedule state
      (came_so NoneDue o s journal n node w after_it.0 (sent_if (is_remote node) n w s.to_a) refl h.inv
      (comes (is_remote node)))
      h.schedule.worked (untimed o journal e refl);
  came = ap (λ (t : State). numbered n t.arrivals) state ∙ numbered_last n s.arrivals
      (record { node = node; work = w }) refl;
  fresh = λ k. subst (λ (t : State). Fresh t (journal ++ e ∷ []) n) (sym state) (record {
    untouched = untouched;
    unasked = subst (λ i. IsAsk n (sent_if i n w s.to_a) → ⊥) (sym k) new;
    within = let size = length-append s.arrivals (record { node = node; work = w } ∷ []) in omega (arith, size);
  });
}
  where
    n : ℕ
    n = next_number s

    e : Logged
    e = arrived n node w

    after_it : (room : Room)
        × (after s e ≡ came_with s (record { node = node; work = w }) room (sent_if (is_remote node) n w s.to_a))
    after_it = after_arrived n node w s

    next : State
    next = came_with s (record { node = node; work = w }) after_it.0 (sent_if (is_remote node) n w s.to_a)

    state : after s e ≡ next
    state = after_it.1

    untouched : Untouched n (journal ++ e ∷ [])
    untouched = untouched_more n journal e (h.inv.frame.books.fresh n (inl (omega arith))) (quiet n e.event (λ z. z))

    new : IsAsk n s.to_a → ⊥
    new a = let b = h.inv.frame.books.below n a in omega (arith, b.1)

    books : Books (journal ++ e ∷ []) (s.arrivals ++ record { node = node; work = w } ∷ []) s.tasks s.to_a
    books = books_came journal s.arrivals s.tasks s.to_a (record { node = node; work = w }) e
        (λ m z. z) h.inv.frame.books

    comes : (t : Bool) → Comes s (journal ++ e ∷ []) (sent_if t n w s.to_a) n (record { node = node; work = w })
    comes false = record { books = books; gone = λ m z. z }
    comes true = record {
      books = books_ask (journal ++ e ∷ []) (s.arrivals ++ record { node = node; work = w } ∷ []) s.tasks s.to_a
          (message (kind_of w) n) books untouched new
          (let size = length-append s.arrivals (record { node = node; work = w } ∷ []) in
          (omega arith, omega (arith, size)));
      gone = λ m z. sent_other is_end m s.to_a (message (kind_of w) n) (ends_nothing w) z;
    }

arrives_so : (laws : Laws) (o : Opening) (s : State) (journal : List Logged) (node : Node) (w : KeptWork) →
    Now NoneDue o s journal → After NoneDue o journal (arriving_at node w (next_number s) s).turn
arrives_so laws o s journal node w h =
    arriving_by (After NoneDue o journal) node w n s (λ there. (came o s journal node w h).now) (taken w)
  where
    n : ℕ
    n = next_number s

    taken : (w : KeptWork) → is_remote node ≡ false → After NoneDue o journal (arriving_here node w n s).turn
    taken (work.Cmd c) here =
        let first : Turn = writes (arrived n node (work.Cmd c)) s in
        let k = came o s journal node (work.Cmd c) h in
        then_so NoneDue o journal first (entering n c)
        (entering_so o first.state (journal ++ first.journal) n node c k.now (k.fresh here) k.came)
    taken (work.Ask ask) here =
        let first : Turn = writes (arrived n node (work.Ask ask)) s in
        let k = came o s journal node (work.Ask ask) h in
        then_so NoneDue o journal first (asking n ask)
        (asking_so laws o first.state (journal ++ first.journal) n node ask k.now (k.fresh here) k.came)

arriving_so : (laws : Laws) (o : Opening) (s : State) (journal : List Logged) (node : Node) (w : KeptWork) →
    Now NoneDue o s journal → After NoneDue o journal (arriving node w s).turn
arriving_so laws o s journal node w h = go (has_room_for w s)
  where
    go : (t : Bool) → After NoneDue o journal
        (cond {A = Done} t (arriving_at node w (next_number s) s)
        (record { turn = nothing s; answer = answer.NoRoom w })).turn
    go true = arrives_so laws o s journal node w h
    go false = stays_so NoneDue o s journal h

-- Messages

-- a message is delivered
delivered_so : (P : ℕ → ℕ → Type 0) (o : Opening) (s : State) (journal : List Logged) (node : Node) (k : Kind2)
    (n : ℕ) → Inv P o s journal → Inv P o s (journal ++ told (event.Deliver node k n) ∷ [])
delivered_so P o s journal node k n h = record {
  frame = record {
    each = each_more (LawfulAt o) [] journal e h.frame.each
        (record {
          once = λ m z. absurd (cc);
          typed = record { work = tt; by = tt; closed = tt };
          orderly = tt;
          reorders = λ a entered began left. refl;
          plan = tt;
          prefix = tt;
          cells = tt;
          sound = tt;
          legal = λ r. tt;
        });
    works = h.frame.works ∙ sym (works_in-none journal e refl);
    size = h.frame.size;
    books = books_function journal s.arrivals s.tasks s.to_a e h.frame.books (λ m. refl) (λ y hy z. z) (λ m z i. i);
    orders = orders_event journal s.tasks e (λ m. refl) h.frame.orders;
    opens = opens_event P journal s.arrivals s.tasks s.functions s.to_a s.to_b e (λ p hp. (refl, refl)) h.frame.opens;
  };
  rules = rules_same o journal e s.control s.tasks (serial-same o journal e refl) h.rules;
  cells = cells_quiet o s s journal e h.cells refl refl refl (λ m z. sym (has_same (is_enter m) journal e refl) ∙ z);
  holds = holds_same o journal e s.blocks s.tasks (serial-same o journal e refl) h.holds;
}
  where
    e : Logged
    e = told (event.Deliver node k n)

popped_a : (P : ℕ → ℕ → Type 0) (o : Opening) (s : State) (journal : List Logged) (m : Message) (ms : List Message) →
    s.to_a ≡ m ∷ ms → Inv P o s journal → Inv P o (record s { to_a = ms }) journal
popped_a P o s journal m ms e h = record {
  frame = record {
    each = h.frame.each;
    works = h.frame.works;
    size = h.frame.size;
    books = books_pop journal s.arrivals s.tasks m ms (subst (λ q. Books journal s.arrivals s.tasks q) e h.frame.books);
    orders = h.frame.orders;
    opens = opens_a P journal s.arrivals s.tasks s.functions s.to_a ms s.to_b
        (λ n k. h.frame.opens.gone n (subst (λ q. Sent is_end n q) (sym e) (inr k))) h.frame.opens;
  };
  rules = h.rules;
  cells = record { blocks = h.cells.blocks; gained = h.cells.gained; ungained = h.cells.ungained };
  holds = h.holds;
}

popped_b : (P : ℕ → ℕ → Type 0) (o : Opening) (s : State) (journal : List Logged) (m : Message) (ms : List Message) →
    s.to_b ≡ m ∷ ms → Inv P o s journal → Inv P o (record s { to_b = ms }) journal
popped_b P o s journal m ms e h = record {
  frame = record {
    each = h.frame.each;
    works = h.frame.works;
    size = h.frame.size;
    books = h.frame.books;
    orders = h.frame.orders;
    opens = opens_b P journal s.arrivals s.tasks s.functions s.to_a s.to_b ms
        (λ n f k. subst (λ q. IsStop n f q) (sym e) (inr k)) h.frame.opens;
  };
  rules = h.rules;
  cells = record { blocks = h.cells.blocks; gained = h.cells.gained; ungained = h.cells.ungained };
  holds = h.holds;
}

-- no function awaits a command that has its entry
awaited_so : (P : ℕ → ℕ → Type 0) (o : Opening) (s : State) (journal : List Logged) (n : ℕ) →
    has (is_entry n) journal ≡ true → Inv P o s journal →
    Inv P o (record s { functions = map (awaits_no_more n) s.functions }) journal
awaited_so P o s journal n over h = record {
  frame = record {
    each = h.frame.each;
    works = h.frame.works;
    size = h.frame.size;
    books = h.frame.books;
    orders = h.frame.orders;
    opens = opens_no_longer P journal s.arrivals s.tasks s.functions s.to_a s.to_b n over
        (λ x hx a k. both_ways (is_active x.stage)
        (over_inactive x.stage (entry_over P o s journal h.frame x hx (subst (λ m. has (is_entry m) journal ≡ true) (sym k) over))) a) h.frame.opens;
  };
  rules = h.rules;
  cells = record { blocks = h.cells.blocks; gained = h.cells.gained; ungained = h.cells.ungained };
  holds = h.holds;
}

-- To A

-- a message that is no end leaves only the list
pub after_a : (k : Kind2) (n : ℕ) (m : Message) (ms : List Message) (s : State) → is_end k ≡ false → s.to_a ≡ m ∷ ms →
    after s (told (event.Deliver A k n)) ≡ record s { to_a = ms }
unfolding after
after_a kind.Ask n m ms s no_end e = ap (λ l. record s { to_a = drop 1 l }) e
after_a kind.Function n m ms s no_end e = ap (λ l. record s { to_a = drop 1 l }) e
after_a kind.Finish n m ms s no_end e = absurd (cc)
after_a kind.Stopped n m ms s no_end e = absurd (cc)
after_a kind.Grant n m ms s no_end e = ap (λ l. record s { to_a = drop 1 l }) e
after_a kind.Stop n m ms s no_end e = ap (λ l. record s { to_a = drop 1 l }) e
after_a kind.Reply n m ms s no_end e = ap (λ l. record s { to_a = drop 1 l }) e
after_a kind.Response n m ms s no_end e = ap (λ l. record s { to_a = drop 1 l }) e

pub after_end : (k : Kind2) (n : ℕ) (m : Message) (ms : List Message) (s : State) → is_end k ≡ true → s.to_a ≡ m ∷ ms →
    after s (told (event.Deliver A k n)) ≡ gone_at_b n (record s { to_a = ms })
unfolding after
after_end kind.Finish n m ms s is e = ap (λ l. gone_at_b n (record s { to_a = drop 1 l })) e
after_end kind.Stopped n m ms s is e = ap (λ l. gone_at_b n (record s { to_a = drop 1 l })) e
after_end kind.Ask n m ms s is e = absurd (cc)
after_end kind.Function n m ms s is e = absurd (cc)
after_end kind.Grant n m ms s is e = absurd (cc)
after_end kind.Stop n m ms s is e = absurd (cc)
after_end kind.Reply n m ms s is e = absurd (cc)
after_end kind.Response n m ms s is e = absurd (cc)

comes_to_a : (laws : Laws) (o : Opening) (s : State) (journal : List Logged) (m : Message) (ms : List Message) →
    s.to_a ≡ m ∷ ms → Now NoneDue o s journal → After NoneDue o journal (delivering_first A (m ∷ ms) s).turn
comes_to_a laws o s journal m ms to h = then_so NoneDue o journal first (coming_to A m) (go m.kind refl)
  where
    e : Logged
    e = told (event.Deliver A m.kind m.no)

    first : Turn
    first = says (event.Deliver A m.kind m.no) s

    t : State
    t = after s e

    left : Inv NoneDue o (record s { to_a = ms }) (journal ++ e ∷ [])
    left = delivered_so NoneDue o (record s { to_a = ms }) journal A m.kind m.no
        (popped_a NoneDue o s journal m ms to h.inv)

    quietly : is_end m.kind ≡ false → Now NoneDue o t (journal ++ e ∷ [])
    quietly no_end = wrote NoneDue o s (record s { to_a = ms }) journal e h.schedule
        (after_a m.kind m.no m ms s no_end to) left h.schedule.worked (untimed o journal e refl)

    stays : is_end m.kind ≡ false → After NoneDue o (journal ++ e ∷ []) (nothing t)
    stays no_end = stays_so NoneDue o t (journal ++ e ∷ []) (quietly no_end)

    books : Books journal s.arrivals s.tasks (m ∷ ms)
    books = subst (λ q. Books journal s.arrivals s.tasks q) to h.inv.frame.books

    fresh : is_arrival m.kind ≡ true → is_end m.kind ≡ false → Fresh t (journal ++ e ∷ []) m.no
    fresh on_its_way no_end =
        subst (λ (q : State). Fresh q (journal ++ e ∷ []) m.no) (sym (after_a m.kind m.no m ms s no_end to)) (record {
          untouched =
              untouched_more m.no journal e (books.fresh m.no (inr (inl (on_its_way, refl))))
              (quiet m.no e.event (λ z. z));
          unasked = books.once.0 on_its_way;
          within = (books.below m.no (inl (on_its_way, refl))).1;
        })

    takes : is_arrival m.kind ≡ true → is_end m.kind ≡ false → (found : Option Arrival) → arrival_of m.no t ≡ found →
        After NoneDue o (journal ++ e ∷ []) (coming_in m.no found t)
    takes on_its_way no_end None f = stays no_end
    takes on_its_way no_end (Some a) f = by a.work refl
      where
        by : (w : KeptWork) → a.work ≡ w → After NoneDue o (journal ++ e ∷ []) (taking_in m.no w t)
        by (work.Cmd c) k =
            entering_so o t (journal ++ e ∷ []) m.no a.node c (quietly no_end) (fresh on_its_way no_end)
            (f ∙ ap (λ w. Some (record { node = a.node; work = w })) k)
        by (work.Ask ask) k =
            asking_so laws o t (journal ++ e ∷ []) m.no a.node ask (quietly no_end) (fresh on_its_way no_end)
            (f ∙ ap (λ w. Some (record { node = a.node; work = w })) k)

    gone : is_end m.kind ≡ true → Now NoneDue o t (journal ++ e ∷ [])
    gone is =
        let over : has (is_entry m.no) journal ≡ true =
        h.inv.frame.opens.gone m.no (subst (λ q. Sent is_end m.no q) (sym to) (inl (is, refl))) in
        let over' : has (is_entry m.no) (journal ++ e ∷ []) ≡ true = has_stays (is_entry m.no) journal e over in
        wrote NoneDue o s (gone_at_b m.no (record s { to_a = ms })) journal e h.schedule
        (after_end m.kind m.no m ms s is to)
        (awaited_so NoneDue o (record s { to_a = ms; tasks = without_task m.no s.tasks }) (journal ++ e ∷ []) m.no over'
        (gone_so NoneDue o (record s { to_a = ms }) (journal ++ e ∷ []) m.no over' left))
        (worked_without o.blocks m.no s.tasks h.schedule.worked) (untimed o journal e refl)

    closes : is_end m.kind ≡ true → After NoneDue o (journal ++ e ∷ []) (closing_all (open_numbers t) t)
    closes is = closing_all_so laws o (open_numbers t) t (journal ++ e ∷ []) (gone is)

    go : (k : Kind2) → m.kind ≡ k → After NoneDue o (journal ++ e ∷ []) (coming_to_a k m t)
    go kind.Ask k = takes (ap is_arrival k) (ap is_end k) (arrival_of m.no t) refl
    go kind.Function k = takes (ap is_arrival k) (ap is_end k) (arrival_of m.no t) refl
    go kind.Finish k = closes (ap is_end k)
    go kind.Stopped k = closes (ap is_end k)
    go kind.Grant k = stays (ap is_end k)
    go kind.Stop k = stays (ap is_end k)
    go kind.Reply k = stays (ap is_end k)
    go kind.Response k = stays (ap is_end k)

-- To B

abbrev pub is_grant_kind : Kind2 → Bool
is_grant_kind kind.Grant = true
is_grant_kind kind.Ask = false
is_grant_kind kind.Function = false
is_grant_kind kind.Finish = false
is_grant_kind kind.Stopped = false
is_grant_kind kind.Stop = false
is_grant_kind kind.Reply = false
is_grant_kind kind.Response = false

pub after_b : (k : Kind2) (n : ℕ) (m : Message) (ms : List Message) (s : State) → is_grant_kind k ≡ false →
    s.to_b ≡ m ∷ ms → after s (told (event.Deliver B k n)) ≡ record s { to_b = ms }
unfolding after
after_b kind.Grant n m ms s no_grant e = absurd (cc)
after_b kind.Ask n m ms s no_grant e = ap (λ l. record s { to_b = drop 1 l }) e
after_b kind.Function n m ms s no_grant e = ap (λ l. record s { to_b = drop 1 l }) e
after_b kind.Finish n m ms s no_grant e = ap (λ l. record s { to_b = drop 1 l }) e
after_b kind.Stopped n m ms s no_grant e = ap (λ l. record s { to_b = drop 1 l }) e
after_b kind.Stop n m ms s no_grant e = ap (λ l. record s { to_b = drop 1 l }) e
after_b kind.Reply n m ms s no_grant e = ap (λ l. record s { to_b = drop 1 l }) e
after_b kind.Response n m ms s no_grant e = ap (λ l. record s { to_b = drop 1 l }) e

-- a granted command stands there
granted_so : (P : ℕ → ℕ → Type 0) (o : Opening) (s : State) (journal : List Logged) (x : Task) → Has s.tasks x →
    x.stage ≡ Granted → Inv P o s journal → Inv P o
    (record s { tasks = with_task (at_stage (There 0 []) x) s.tasks }) journal
granted_so P o s journal x hx st h = record {
  frame = record {
    each = h.frame.each;
    works = h.frame.works;
    size = h.frame.size;
    books = books_quietly journal s.arrivals s.tasks s.to_a x (There 0 []) h.frame.books hx (ap is_over st)
        (ap is_waiting st) (ap done_at st);
    orders = orders_turns journal s.tasks x (There 0 []) hx refl h.frame.orders;
    opens = opens_turns P journal s.arrivals s.tasks s.functions s.to_a s.to_b x (There 0 []) hx
        (λ a. inl (record { task = x; has = hx; no = refl; command = refl; active = ap is_active st; remote = λ r. ap is_at_b st })) h.frame.opens;
  };
  rules = granted_rules o.blocks (serial_disk o journal) s.control s.tasks x h.rules hx st;
  cells = record {
    blocks = h.cells.blocks;
    gained = λ y hy alive. ⊎_elim
        (λ (k : at_stage (There 0 []) x ≡ y).
        subst (λ (z : Task). Gained (beside o z.no journal) None (got_at z.stage)) k
        (subst (λ (stage : Stage). Gained (beside o x.no journal) None (got_at stage)) st
        (h.cells.gained x hx (ap is_over st))))
        (λ (k : Has s.tasks y × (y.no ≡ x.no → ⊥)). h.cells.gained y k.0 alive)
        (has_with (at_stage (There 0 []) x) s.tasks y hy);
    ungained = h.cells.ungained;
  };
  holds = λ r. granted_held o.blocks (serial_disk o journal) s.blocks s.tasks x (h.holds r) h.rules.single hx st;
}

pub after_grant : (n : ℕ) (m : Message) (ms : List Message) (x : Task) (s : State) → s.to_b ≡ m ∷ ms →
    task_of n s.tasks ≡ Some x → x.stage ≡ Granted →
    after s (told (event.Deliver B kind.Grant n))
    ≡ record s { to_b = ms; tasks = with_task (at_stage (There 0 []) x) s.tasks }
unfolding after
after_grant n m ms x s e f st =
    ap (λ l. grant_to (task_of n s.tasks) (record s { to_b = drop 1 l })) e
    ∙ ap (λ found. grant_to found (record s { to_b = ms })) f
    ∙ ap (λ stage. begun_at_b stage x (record s { to_b = ms })) st

-- no command stands at its grant
pub after_no_grant : (n : ℕ) (m : Message) (ms : List Message) (s : State) → s.to_b ≡ m ∷ ms →
    ((x : Task) → task_of n s.tasks ≡ Some x → x.stage ≡ Granted → ⊥) →
    after s (told (event.Deliver B kind.Grant n)) ≡ record s { to_b = ms }
unfolding after
after_no_grant n m ms s e none =
    ap (λ l. grant_to (task_of n s.tasks) (record s { to_b = drop 1 l })) e ∙ go (task_of n s.tasks) refl
  where
    at : (x : Task) → task_of n s.tasks ≡ Some x → (stage : Stage) → x.stage ≡ stage →
        begun_at_b stage x (record s { to_b = ms }) ≡ record s { to_b = ms }
    at x f Granted st = absurd (none x f st)
    at x f Waiting st = refl
    at x f (Here d g) st = refl
    at x f (There d g) st = refl
    at x f Over st = refl

    go : (found : Option Task) → task_of n s.tasks ≡ found →
        grant_to found (record s { to_b = ms }) ≡ record s { to_b = ms }
    go None f = refl
    go (Some x) f = at x f x.stage refl

after_stopped : (x : Task) (puts by : ℕ) (told_so : Bool) (done : ℕ) (got : List ℕ) (s : State) →
    task_of x.no s.tasks ≡ Some x → x.stage ≡ There done got →
    after s (told (event.Cut x.no puts (By by) told_so)) ≡ over_at_b kind.Stopped x
    (record s { functions = noted by x.no s.functions })
unfolding after
after_stopped x puts by told_so done got s e st =
    ap (λ f. after_cut (By by) f s) e ∙ ap (λ stage. cut_from (By by) stage x s) st

comes_to_b : (laws : Laws) (o : Opening) (s : State) (journal : List Logged) (m : Message) (ms : List Message) →
    s.to_b ≡ m ∷ ms → Now NoneDue o s journal → After NoneDue o journal (delivering_first B (m ∷ ms) s).turn
comes_to_b laws o s journal m ms to h = then_so NoneDue o journal first (coming_to B m) (go m.kind refl)
  where
    e : Logged
    e = told (event.Deliver B m.kind m.no)

    first : Turn
    first = says (event.Deliver B m.kind m.no) s

    t : State
    t = after s e

    left : Inv NoneDue o (record s { to_b = ms }) (journal ++ e ∷ [])
    left = delivered_so NoneDue o (record s { to_b = ms }) journal B m.kind m.no
        (popped_b NoneDue o s journal m ms to h.inv)

    stays : Now NoneDue o t (journal ++ e ∷ []) → After NoneDue o (journal ++ e ∷ []) (nothing t)
    stays now = stays_so NoneDue o t (journal ++ e ∷ []) now

    quietly : is_grant_kind m.kind ≡ false → Now NoneDue o t (journal ++ e ∷ [])
    quietly no_grant = wrote NoneDue o s (record s { to_b = ms }) journal e h.schedule
        (after_b m.kind m.no m ms s no_grant to) left h.schedule.worked (untimed o journal e refl)

    grants : m.kind ≡ kind.Grant → Now NoneDue o t (journal ++ e ∷ [])
    grants k = found (task_of m.no s.tasks) refl
      where
        grant : (q : State) → after s (told (event.Deliver B kind.Grant m.no)) ≡ q →
            Inv NoneDue o q (journal ++ e ∷ []) → Worked o.blocks q.tasks → Now NoneDue o t (journal ++ e ∷ [])
        grant q state inv worked = wrote NoneDue o s q journal e h.schedule
            (ap (λ i. after s (told (event.Deliver B i m.no))) k ∙ state) inv worked (untimed o journal e refl)

        none : ((x : Task) → task_of m.no s.tasks ≡ Some x → x.stage ≡ Granted → ⊥) →
            Now NoneDue o t (journal ++ e ∷ [])
        none f = grant (record s { to_b = ms }) (after_no_grant m.no m ms s to f) left h.schedule.worked

        other : (x : Task) (stage : Stage) → task_of m.no s.tasks ≡ Some x → x.stage ≡ stage → (stage ≡ Granted → ⊥) →
            Now NoneDue o t (journal ++ e ∷ [])
        other x stage f st ne =
            none (λ y g i. let same : Some x ≡ Some y = sym f ∙ g in
            ne (sym st ∙ ap (λ (z : Task). z.stage) (same_Some x y same) ∙ i))

        at : (x : Task) → task_of m.no s.tasks ≡ Some x → (stage : Stage) → x.stage ≡ stage →
            Now NoneDue o t (journal ++ e ∷ [])
        at x f Granted st =
            grant (record s { to_b = ms; tasks = with_task (at_stage (There 0 []) x) s.tasks })
            (after_grant m.no m ms x s to f st)
            (granted_so NoneDue o (record s { to_b = ms }) (journal ++ e ∷ []) x (has_found m.no s.tasks x f).0 st left)
            (worked_with o.blocks s.tasks (at_stage (There 0 []) x) h.schedule.worked
            (h.schedule.worked x (has_found m.no s.tasks x f).0 (ap is_waiting st)).0 (omega arith))
        at x f Waiting st = other x Waiting f st (λ z. cc)
        at x f (Here d g) st = other x (Here d g) f st (λ z. cc)
        at x f (There d g) st = other x (There d g) f st (λ z. cc)
        at x f Over st = other x Over f st (λ z. cc)

        found : (f : Option Task) → task_of m.no s.tasks ≡ f → Now NoneDue o t (journal ++ e ∷ [])
        found None f = none (λ x g i. cc)
        found (Some x) f = at x f x.stage refl

    stops : m.kind ≡ kind.Stop → (found : Option Task) → task_of m.no t.tasks ≡ found →
        After NoneDue o (journal ++ e ∷ []) (stopping found m t)
    stops k None f = stays (quietly (ap is_grant_kind k))
    stops k (Some x) f = at x.stage refl
      where
        now : Now NoneDue o t (journal ++ e ∷ [])
        now = quietly (ap is_grant_kind k)

        state : t ≡ record s { to_b = ms }
        state = after_b m.kind m.no m ms s (ap is_grant_kind k) to

        hx : Has t.tasks x × (x.no ≡ m.no)
        hx = has_found m.no t.tasks x f

        at : (stage : Stage) → x.stage ≡ stage → After NoneDue o (journal ++ e ∷ []) (stopping_at stage x m t)
        at Waiting st = stays now
        at (Here d g) st = stays now
        at Granted st = stays now
        at Over st = stays now
        at (There d g) st =
            let was =
            h.inv.frame.opens.stops m.no m.by x
            (subst (λ q. IsStop m.no m.by q) (sym to) (inl (ap is_stop k, refl, refl)))
            (subst (λ (q : State). Has q.tasks x) state hx.0) hx.1 (ap is_at_b st) in
            let asked =
            now.inv.frame.opens.asked was.0 (subst (λ (q : State). HasOpen q.functions was.0) (sym state) was.1) in
            let l : Logged = told (event.Cut x.no (puts_of x t) (By m.by) m.told) in
            let j : List Logged = journal ++ e ∷ [] in
            let over : Inv NoneDue o (over_state t x (noted m.by x.no t.functions) t.control t.blocks) (j ++ l ∷ []) =
            subst (λ n. Inv NoneDue o (over_state t x (noted m.by x.no t.functions) t.control t.blocks)
            (j ++ told (event.Cut x.no (puts_at n x) (By m.by) m.told) ∷ [])) (sym now.inv.frame.size)
            (by_so NoneDue o t j x m.by asked.node was.0.ask m.told now.inv hx.0 (ap is_over st)
            (subst (λ n. numbered n t.arrivals ≡ Some (record { node = asked.node; work = work.Ask was.0.ask })) was.2 asked.came) was.4
            (subst (λ n. has (is_asked n) j ≡ true) was.2 asked.asking)
            (subst (λ n. has (is_entry n) j ≡ false) was.2 asked.entry)) in
            wrote NoneDue o t (over_at_b kind.Stopped x (record t { functions = noted m.by x.no t.functions }))
            j l now.schedule
            (after_stopped x (puts_of x t) m.by m.told d g t (found_of t.tasks x now.inv.rules.single hx.0) st)
            (tells_so NoneDue o t (j ++ l ∷ []) x kind.Stopped (noted m.by x.no t.functions) t.control t.blocks refl
            (has_now (is_entry x.no) j l (eq-eqb x.no x.no refl)) over)
            (worked_with o.blocks t.tasks (at_stage Over x) now.schedule.worked
            (now.schedule.worked x hx.0 (ap is_waiting st)).0 (omega arith))
            (untimed_by o j l x.no (puts_of x t) m.by m.told was.0.ask refl
            (function_in NoneDue o t j m.by asked.node was.0.ask now.inv.frame
            (subst (λ n. numbered n t.arrivals ≡ Some (record { node = asked.node; work = work.Ask was.0.ask })) was.2 asked.came)))

    go : (k : Kind2) → m.kind ≡ k → After NoneDue o (journal ++ e ∷ []) (coming_to_b k m t)
    go kind.Stop k = stops k (task_of m.no t.tasks) refl
    go kind.Grant k = stays (grants k)
    go kind.Ask k = stays (quietly (ap is_grant_kind k))
    go kind.Function k = stays (quietly (ap is_grant_kind k))
    go kind.Finish k = stays (quietly (ap is_grant_kind k))
    go kind.Stopped k = stays (quietly (ap is_grant_kind k))
    go kind.Reply k = stays (quietly (ap is_grant_kind k))
    go kind.Response k = stays (quietly (ap is_grant_kind k))

delivers_so : (laws : Laws) (o : Opening) (s : State) (journal : List Logged) (node : Node) → Now NoneDue o s journal →
    After NoneDue o journal (delivering node s).turn
delivers_so laws o s journal node h = go node (messages_to node s) refl
  where
    go : (at : Node) (ms : List Message) → messages_to at s ≡ ms →
        After NoneDue o journal (delivering_first at ms s).turn
    go at [] e = stays_so NoneDue o s journal h
    go A (m ∷ ms) e = comes_to_a laws o s journal m ms e h
    go B (m ∷ ms) e = comes_to_b laws o s journal m ms e h

-- All runs

pub acts_so : (laws : Laws) (o : Opening) (s : State) (journal : List Logged) (a : Act) (fault : Option ℕ) →
    Now NoneDue o s journal → ((n : ℕ) → in_tasks n s.tasks ≤ 1) → After NoneDue o journal (doing s a fault).turn
acts_so laws o s journal (act.Arrive node w) fault h distinct = arriving_so laws o s journal node w h
acts_so laws o s journal (act.Step number count) fault h distinct =
    step_so laws o s journal number count fault h distinct
acts_so laws o s journal (act.Deliver node) fault h distinct = delivers_so laws o s journal node h
acts_so laws o s journal (act.Next count) fault h distinct = go s.to_a s.to_b
  where
    next : (found : Option ℕ) → After NoneDue o journal (stepping_next found count fault s).turn
    next None = stays_so NoneDue o s journal h
    next (Some number) = step_so laws o s journal number count fault h distinct

    go : (to_a to_b : List Message) → After NoneDue o journal (doing_next to_a to_b count fault s).turn
    go (m ∷ ms) to_b = delivers_so laws o s journal A h
    go [] (m ∷ ms) = delivers_so laws o s journal B h
    go [] [] = next (next_step s)

opened_books : (o : Opening) → Books [] (opened o).arrivals (opened o).tasks (opened o).to_a
opened_books o = record {
  known = λ x k. absurd k;
  entry = λ x k. absurd k;
  begin = λ x k. absurd k;
  made = λ x k. absurd k;
  entered = λ x k. absurd k;
  live = λ n k. absurd (cc);
  fresh = λ n k. record { entry = refl; begin = refl; enter = refl; asking = refl; made = refl; cut = refl };
  once = tt;
  below = λ n k. absurd k;
}

pub opened_so : (o : Opening) → Now NoneDue o (opened o) []
unfolding replay serial_disk beside due_of
opened_so o = record {
  inv = record {
    frame = record {
      each = tt;
      works = refl;
      size = opened_size o.lun o.blocks;
      books = opened_books o;
      orders = record { first = λ x y hx. absurd hx; head = λ x y hx. absurd hx };
      opens = record {
        gone = λ n k. absurd k;
        begun = λ n f k. absurd k;
        stops = λ n f x k. absurd k;
        one = λ p q hp. absurd hp;
        asked = λ p hp. absurd hp;
        awaits = λ p x hp. absurd hp;
        behind = λ p hp. absurd hp;
      };
    };
    rules = opened_rules o.blocks (opening_disk o.lun o.blocks) (opened_size o.lun o.blocks);
    cells = record {
      blocks = λ n. refl;
      gained = λ x k. absurd k;
      ungained = λ n k. record { got = refl; difference = refl };
    };
    holds = λ r. opened_held o.blocks (opening_disk o.lun o.blocks);
  };
  schedule = record { at = refl; timely = tt; due = refl; worked = λ x hx. absurd hx };
}

-- what holds of every run
pub every_run : (laws : Laws) (o : Opening) (journal : List Logged) → IsRun o journal →
    Now NoneDue o (replay o journal) journal
every_run laws o journal run =
    (run_induction o (λ s es. IsFine n s × Now NoneDue o s es) (fine_opened o, opened_so o)
    (λ s es a fault allowed h. (
      fine_act laws n s a fault h.0,
      acts_so laws o s es a fault h.1 (λ m. let k = h.0.single m in omega (arith, k)),
    )) journal run).1
  where
    n : ℕ
    n = length (opened o).blocks
