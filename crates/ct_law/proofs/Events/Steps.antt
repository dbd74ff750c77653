-- Events that leave the stages of the task set, messages, and commands that come, enter, or are over.
use Rattle.std.proofs.Common.{◌≡◌, ℕ, ◌+◌, inl, Bool, true, false, ◌||◌, List, [], ◌∷◌, ◌++◌, Some, None, length, refl}
use Rattle.std.proofs.Common.{sym, ap, ◌∙◌, subst, ⊎_elim, arith}
use Rattle.std.proofs.lemmas.Bool.{both_ways}
use Rattle.std.proofs.lemmas.List.{map-append}
use Rattle.ct_word.specs.declared.names.Node.{Node}
use Rattle.ct_word.specs.declared.names.Room.{Room}
use Rattle.ct_book.specs.declared.work.Command.{Command}
use Rattle.ct_book.specs.declared.work.Work.TheVariants as work
use Rattle.ct_book.specs.declared.event.Event.TheVariants as event
use Rattle.ct_book.specs.declared.event.Kind2.{Kind2}
use Rattle.ct_book.specs.declared.event.Logged.{Logged}
use Rattle.ct_book.specs.Journals.{KeptWork, numbered, arrived}
use Rattle.ct_exec.specs.Controls.{ControlState}
use Rattle.ct_machine.specs.declared.act.Opening.{Opening}
use Rattle.ct_machine.specs.States.{Task, Message, Arrival, State, arrival_of, queued}
use Rattle.ct_machine.specs.Events.Sends.{message, to_b_if, came_remote, answered}
use Rattle.ct_machine.specs.Events.Arrivals.{new_task}
use Rattle.ct_machine.specs.Serial.{serial_disk}
use Rattle.ct_machine.specs.Laws.Standings.{standings_of}
use Rattle.ct_machine.specs.Laws.Legal.{refusal_behind}
use Rattle.ct_machine.specs.Laws.Journals.{has, is_entry, is_enter, IsCommandOf}
use Rattle.ct_machine.specs.Laws.Legal.{IsRestricted}
use Rattle.ct_machine.specs.Laws.Cells.{beside}
use Rattle.ct_law.proofs.Lists.Tasks.{Has, has_queued}
use Rattle.ct_law.proofs.Cells.Held.{Rules, Holds, is_active, rules_in, enters_held}
use Rattle.ct_law.proofs.Journals.Journal.{each_more, has_same, has_stays, has_more, quiet, Untouched, untouched_more}
use Rattle.ct_law.proofs.Journals.Growing.{numbered-map, works_in-more, works_in-none}
use Rattle.ct_law.proofs.Lists.Messages.{is_end, is_stop, Sent, stop_other}
use Rattle.ct_law.proofs.Frame.Books.{Books, IsAsk, books_in}
use Rattle.ct_law.proofs.Frame.Orders.{orders_event, orders_in}
use Rattle.ct_law.proofs.Frame.Opens.{opens_came, opens_event, opens_queue, opens_a, opens_b}
use Rattle.ct_law.proofs.Inv.{LawfulAt, Gained, Inv, got_at, told, restricted_before, serial-same, cells_event}
use Rattle.ct_law.proofs.Inv.{cells_quiet}

-- the serial disk and what holds of it are as they were
pub rules_same : (o : Opening) (journal : List Logged) (e : Logged) (control : ControlState) (tasks : List Task) →
    serial_disk o (journal ++ e ∷ []) ≡ serial_disk o journal → Rules o.blocks (serial_disk o journal) control tasks →
    Rules o.blocks (serial_disk o (journal ++ e ∷ [])) control tasks
rules_same o journal e control tasks same h = subst (λ d. Rules o.blocks d control tasks) (sym same) h

pub holds_same : (o : Opening) (journal : List Logged) (e : Logged) (blocks : List (List ℕ)) (tasks : List Task) →
    serial_disk o (journal ++ e ∷ []) ≡ serial_disk o journal →
    (IsRestricted o journal → Holds o.blocks (serial_disk o journal) blocks tasks) →
    IsRestricted o (journal ++ e ∷ []) → Holds o.blocks (serial_disk o (journal ++ e ∷ [])) blocks tasks
holds_same o journal e blocks tasks same h r =
    subst (λ d. Holds o.blocks d blocks tasks) (sym same) (h (restricted_before o journal e r))

-- a message to B that is no stop
pub tells_b : (P : ℕ → ℕ → Type 0) (o : Opening) (s : State) (journal : List Logged) (m : Message) →
    is_stop m.kind ≡ false → Inv P o s journal → Inv P o (record s { to_b = s.to_b ++ m ∷ [] }) journal
tells_b P o s journal m no_stop h = record {
  frame = record {
    each = h.frame.each;
    works = h.frame.works;
    size = h.frame.size;
    books = h.frame.books;
    orders = h.frame.orders;
    opens = opens_b P journal s.arrivals s.tasks s.functions s.to_a s.to_b (s.to_b ++ m ∷ [])
        (λ n f k. stop_other n f s.to_b m no_stop k) h.frame.opens;
  };
  rules = h.rules;
  cells = record { blocks = h.cells.blocks; gained = h.cells.gained; ungained = h.cells.ungained };
  holds = h.holds;
}

-- what came at B is answered there
pub answers : (P : ℕ → ℕ → Type 0) (o : Opening) (s : State) (journal : List Logged) (k : Kind2) (n : ℕ) →
    is_stop k ≡ false → Inv P o s journal → Inv P o (answered k n s) journal
answers P o s journal k n no_stop h = go (came_remote (arrival_of n s))
  where
    go : (t : Bool) → Inv P o (to_b_if t (message k n) s) journal
    go true = tells_b P o s journal (message k n) no_stop h
    go false = h

-- a work comes: it takes its room, and is on its way to A where it came at B
pub record Comes (s : State) (journal : List Logged) (to_a : List Message) (n : ℕ) (arrival : Arrival) : Type 0 where
  pub books : Books journal (s.arrivals ++ arrival ∷ []) s.tasks to_a
  pub gone : (m : ℕ) → Sent is_end m to_a → Sent is_end m s.to_a

abbrev pub came_with : State → Arrival → Room → List Message → State
came_with s arrival room to_a = record s { arrivals = s.arrivals ++ arrival ∷ []; room = room; to_a = to_a }

pub came_so : (P : ℕ → ℕ → Type 0) (o : Opening) (s : State) (journal : List Logged) (n : ℕ) (node : Node)
    (w : KeptWork) (room : Room) (to_a : List Message) → n ≡ length s.arrivals + 1 → Inv P o s journal →
    Comes s (journal ++ arrived n node w ∷ []) to_a n (record { node = node; work = w }) →
    Inv P o (came_with s (record { node = node; work = w }) room to_a) (journal ++ arrived n node w ∷ [])
came_so P o s journal n node w room to_a next h comes = record {
  frame = record {
    each = each_more (LawfulAt o) [] journal e h.frame.each
        (record {
          once = λ m k. absurd (cc);
          typed = record { work = tt; by = tt; closed = tt };
          orderly = tt;
          reorders = λ a entered began left. refl;
          plan = tt;
          prefix = tt;
          cells = tt;
          sound = tt;
          legal = λ r. tt;
        });
    works = map-append (λ (a : Arrival). a.work) s.arrivals (arrival ∷ []) ∙ ap (λ ws. ws ++ w ∷ []) h.frame.works ∙ sym
        (works_in-more journal e (Some w) refl);
    size = h.frame.size;
    books = comes.books;
    orders = orders_event journal s.tasks e (λ m. refl) h.frame.orders;
    opens = opens_a P (journal ++ e ∷ []) (s.arrivals ++ arrival ∷ []) s.tasks s.functions s.to_a to_a s.to_b
        (λ m k. has_stays (is_entry m) journal e (h.frame.opens.gone m (comes.gone m k)))
        (opens_came P (journal ++ e ∷ []) s.arrivals s.tasks s.functions s.to_a s.to_b arrival
        (untouched_more (length s.arrivals + 1) journal e
        (h.frame.books.fresh (length s.arrivals + 1) (inl (omega arith)))
        (quiet (length s.arrivals + 1) e.event (λ z. z)))
        (opens_event P journal s.arrivals s.tasks s.functions s.to_a s.to_b e (λ p hp. (refl, refl)) h.frame.opens));
  };
  rules = rules_same o journal e s.control s.tasks (serial-same o journal e refl) h.rules;
  cells = cells_quiet o s (came_with s arrival room to_a) journal e h.cells refl refl refl
      (λ m k. sym (has_same (is_enter m) journal e refl) ∙ k);
  holds = holds_same o journal e s.blocks s.tasks (serial-same o journal e refl) h.holds;
}
  where
    e : Logged
    e = arrived n node w

    arrival : Arrival
    arrival = record { node = node; work = w }

-- a command enters
pub enter_so : (P : ℕ → ℕ → Type 0) (o : Opening) (s : State) (journal : List Logged) (n : ℕ) (node : Node)
    (c : Command) → Inv P o s journal → Untouched n journal → (IsAsk n s.to_a → ⊥) →
    numbered n s.arrivals ≡ Some (record { node = node; work = work.Cmd c }) →
    refusal_behind (standings_of o) o journal c ≡ None →
    Inv P o (record s { tasks = queued (new_task n node c) s.tasks }) (journal ++ told (event.Enter n) ∷ [])
enter_so P o s journal n node c h u new at free = record {
  frame = record {
    each = each_more (LawfulAt o) [] journal e h.frame.each
        (record {
          once = λ m k. absurd (cc);
          typed = record { work = (c, known); by = tt; closed = tt };
          orderly = tt;
          reorders = λ a entered began left. refl;
          plan = tt;
          prefix = tt;
          cells = tt;
          sound = (c, known, free);
          legal = λ r. tt;
        });
    works = h.frame.works ∙ sym (works_in-none journal e refl);
    size = h.frame.size;
    books = books_in journal s.arrivals s.tasks s.to_a w e refl h.frame.books refl u new at;
    orders =
        orders_in journal s.tasks w e refl other
        (λ y hy. h.frame.books.entered y hy) h.rules.single u.enter h.frame.orders;
    opens = opens_queue P (journal ++ e ∷ []) s.arrivals s.tasks (queued w s.tasks) s.functions s.to_a s.to_b
        (λ y m a. ⊎_elim (λ (k : Has s.tasks y). inl (record { task = y; has = k; no = refl; command = refl; active = a; remote = λ r. r })) (λ (k : w ≡ y). absurd (both_ways (is_active y.stage) (subst (λ (z : Task). is_active z.stage ≡ false) k refl) a)) (has_queued w s.tasks y m))
        (opens_event P journal s.arrivals s.tasks s.functions s.to_a s.to_b e (λ p hp. (refl, refl)) h.frame.opens);
  };
  rules = rules_same o journal e s.control (queued w s.tasks) (serial-same o journal e refl)
      (rules_in o.blocks (serial_disk o journal) s.control s.tasks w h.rules refl other);
  cells = cells_event o s (record s { tasks = queued w s.tasks }) journal e refl refl h.cells.blocks
      (λ y m alive. ⊎_elim
      (λ (k : Has s.tasks y). h.cells.gained y k alive)
      (λ (k : w ≡ y).
      subst (λ (z : Task). Gained (beside o z.no journal) None (got_at z.stage)) k (h.cells.ungained n u.enter))
      (has_queued w s.tasks y m))
      (λ m k. h.cells.ungained m
      (or_false (has (is_enter m) journal) (is_enter m e.event) (sym (has_more (is_enter m) journal e) ∙ k)));
  holds = holds_same o journal e s.blocks (queued w s.tasks) (serial-same o journal e refl)
      (λ r. enters_held o.blocks (serial_disk o journal) s.blocks s.tasks w (h.holds r) refl);
}
  where
    e : Logged
    e = told (event.Enter n)

    w : Task
    w = new_task n node c

    known : IsCommandOf journal n c
    known = ap (numbered n) (sym h.frame.works) ∙ numbered-map (λ (a : Arrival). a.work) n s.arrivals _ at

    other : (y : Task) → Has s.tasks y → y.no ≡ n → ⊥
    other y hy k =
        both_ways (has (is_enter n) journal) u.enter
        (subst (λ m. has (is_enter m) journal ≡ true) k (h.frame.books.entered y hy))

    or_false : (a b : Bool) → (a || b) ≡ false → a ≡ false
    or_false true b k = absurd (cc)
    or_false false b k = refl
