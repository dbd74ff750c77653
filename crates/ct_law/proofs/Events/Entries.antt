-- Entries: a work is done, and its command leaves the task set at once, or when A is told.
use Rattle.std.proofs.Common.{◌≡◌, ℕ, ◌≤◌, ◌<◌, ◌⊎◌, inl, true, false, List, [], ◌∷◌, ◌++◌, Some, None, length, refl}
use Rattle.std.proofs.Common.{sym, ap, ◌∙◌, subst, ⊎_elim, arith, eqb-true, ne_eqb}
use Rattle.std.proofs.lemmas.Bool.{both_ways, or_right}
use Rattle.ct_sense.specs.declared.reply.Reply.{Reply}
use Rattle.ct_book.specs.declared.event.Event.{Event}
use Rattle.ct_book.specs.declared.event.Event.TheVariants as event
use Rattle.ct_book.specs.declared.event.Kind2.{Kind2}
use Rattle.ct_book.specs.declared.event.Logged.{Logged}
use Rattle.ct_exec.specs.Controls.{ControlState}
use Rattle.ct_machine.specs.declared.act.Opening.{Opening}
use Rattle.ct_machine.specs.States.{Task, Stage, Waiting, Here, Granted, There, Over, Open, Message, Arrival, State}
use Rattle.ct_machine.specs.States.{without_task, with_task, at_stage}
use Rattle.ct_machine.specs.Events.Sends.{message}
use Rattle.ct_machine.specs.Serial.{disk_after, serial_disk}
use Rattle.ct_machine.specs.Laws.Journals.{has, is_entry, is_enter}
use Rattle.ct_machine.specs.Laws.Legal.{IsRestricted}
use Rattle.ct_law.proofs.Lists.Tasks.{Has, has_without, has_with}
use Rattle.ct_law.proofs.Lists.Changed.{without_with}
use Rattle.ct_law.proofs.Cells.Held.{Rules, Holds, is_active, rules_removes, removes}
use Rattle.ct_law.proofs.Journals.Journal.{each_more, has_same, Untouched, IsOf}
use Rattle.ct_law.proofs.Journals.Growing.{works_in-none, serial-more}
use Rattle.ct_law.proofs.Lists.Messages.{is_arrival, is_end, sent_push}
use Rattle.ct_law.proofs.Frame.Books.{IsAsk, IsFresh, is_over, books_tell, books_turns, books_removes, books_function}
use Rattle.ct_law.proofs.Frame.Orders.{orders_event, orders_turns, orders_removes}
use Rattle.ct_law.proofs.Frame.Opens.{Opens, HasOpen, WasActive, Begins, opens_event, opens_queue, opens_a}
use Rattle.ct_law.proofs.Inv.{LawfulAt, Frame, Others, Inv, replied, is_move, restricted_before, serial-same}
use Rattle.ct_law.proofs.Inv.{cells_event, cells_quiet}
use Rattle.ct_machine.specs.Laws.Standings.{standings_of}
use Rattle.ct_machine.specs.Laws.Legal.{IsTurnedFor}
use Rattle.ct_law.proofs.Events.Steps.{rules_same, holds_same}

-- a command is refused at its arrival
pub turned_so : (P : ℕ → ℕ → Type 0) (o : Opening) (s : State) (journal : List Logged) (n : ℕ) (reply : Reply) →
    Inv P o s journal → Untouched n journal → (IsAsk n s.to_a → ⊥) → n ≤ length s.arrivals →
    IsTurnedFor (standings_of o) o journal n (Some reply) → ((y : Task) → Has s.tasks y → y.no ≡ n → ⊥) →
    ((p : Open) → HasOpen s.functions p → n ≡ p.no → ⊥) → Inv P o s (journal ++ replied (event.Turned n) reply ∷ [])
turned_so P o s journal n reply h u new within cause other closed = record {
  frame = record {
    each = each_more (LawfulAt o) [] journal e h.frame.each (record {
      once = λ m k. subst (λ i. has (is_entry i) journal ≡ false) (eqb-true n m k) u.entry;
      typed = record { work = (cause.0, cause.1); by = tt; closed = tt };
      orderly = tt;
      reorders = λ a entered began left. refl;
      plan = tt;
      prefix = tt;
      cells = tt;
      sound = cause;
      legal = λ r. cause;
    });
    works = h.frame.works ∙ sym (works_in-none journal e refl);
    size = h.frame.size;
    books = books_function journal s.arrivals s.tasks s.to_a e h.frame.books (λ m. refl) (λ y hy k. other y hy (sym k))
        (λ m k i. ⊎_elim (λ (l : length s.arrivals < m). omega (arith, l, i, within))
        (λ (a : IsAsk m s.to_a). new (subst (λ j. IsAsk j s.to_a) (sym i) a)) k);
    orders = orders_event journal s.tasks e (λ m. refl) h.frame.orders;
    opens = opens_event P journal s.arrivals s.tasks s.functions s.to_a s.to_b e
        (λ p hp. (ne_eqb n p.no (closed p hp), refl)) h.frame.opens;
  };
  rules = rules_same o journal e s.control s.tasks (serial-same o journal e refl) h.rules;
  cells = cells_quiet o s s journal e h.cells refl refl refl (λ m k. sym (has_same (is_enter m) journal e refl) ∙ k);
  holds = holds_same o journal e s.blocks s.tasks (serial-same o journal e refl) h.holds;
}
  where
    e : Logged
    e = replied (event.Turned n) reply

-- a command that has its entry leaves

pub entry_over : (P : ℕ → ℕ → Type 0) (o : Opening) (s : State) (journal : List Logged) → Frame P o s journal →
    (x : Task) → Has s.tasks x → has (is_entry x.no) journal ≡ true → is_over x.stage ≡ true
entry_over P o s journal h x hx e = sym (h.books.entry x hx) ∙ e

pub over_inactive : (stage : Stage) → is_over stage ≡ true → is_active stage ≡ false
over_inactive Waiting e = refl
over_inactive (Here d g) e = absurd (cc)
over_inactive Granted e = absurd (cc)
over_inactive (There d g) e = absurd (cc)
over_inactive Over e = refl

pub gone_so : (P : ℕ → ℕ → Type 0) (o : Opening) (s : State) (journal : List Logged) (n : ℕ) →
    has (is_entry n) journal ≡ true → Inv P o s journal → Inv P o (record s { tasks = without_task n s.tasks }) journal
gone_so P o s journal n e h = record {
  frame = record {
    each = h.frame.each;
    works = h.frame.works;
    size = h.frame.size;
    books = books_removes journal s.arrivals s.tasks s.to_a n h.frame.books e;
    orders = orders_removes journal s.tasks n h.frame.orders;
    opens = opens_queue P journal s.arrivals s.tasks (without_task n s.tasks) s.functions s.to_a s.to_b
        (λ y k a. inl (record { task = y; has = (has_without n s.tasks y k).0; no = refl; command = refl; active = a; remote = λ r. r })) h.frame.opens;
  };
  rules = rules_removes o.blocks (serial_disk o journal) s.control s.tasks n h.rules;
  cells = record {
    blocks = h.cells.blocks;
    gained = λ x k. h.cells.gained x
        (has_without n s.tasks x k).0;
    ungained = h.cells.ungained;
  };
  holds = λ r. removes o.blocks (serial_disk o journal) s.blocks s.tasks n (h.holds r)
      (λ x hx k. over_inactive x.stage
      (entry_over P o s journal h.frame x hx (subst (λ m. has (is_entry m) journal ≡ true) (sym k) e)));
}

-- news to A that a command is over
pub tells_a : (P : ℕ → ℕ → Type 0) (o : Opening) (s : State) (journal : List Logged) (m : Message) →
    is_arrival m.kind ≡ false → has (is_entry m.no) journal ≡ true → Inv P o s journal →
    Inv P o (record s { to_a = s.to_a ++ m ∷ [] }) journal
tells_a P o s journal m no_work over h = record {
  frame = record {
    each = h.frame.each;
    works = h.frame.works;
    size = h.frame.size;
    books = books_tell journal s.arrivals s.tasks s.to_a m no_work h.frame.books;
    orders = h.frame.orders;
    opens = opens_a P journal s.arrivals s.tasks s.functions s.to_a (s.to_a ++ m ∷ []) s.to_b
        (λ n k. ⊎_elim (h.frame.opens.gone n)
        (λ (w : (is_end m.kind ≡ true) × (m.no ≡ n)). subst (λ i. has (is_entry i) journal ≡ true) w.1 over)
        (sent_push is_end n s.to_a m k)) h.frame.opens;
  };
  rules = h.rules;
  cells = record { blocks = h.cells.blocks; gained = h.cells.gained; ungained = h.cells.ungained };
  holds = h.holds;
}

-- an event of a command of the task set
pub record Own (s : State) (x : Task) (e : Event) : Type 0 where
  pub enters : (n : ℕ) → is_enter n e ≡ false
  pub mine : (n : ℕ) → IsOf e n → (x.no ≡ n) ⊎ ((y : Task) → Has s.tasks y → y.no ≡ n → ⊥)
  pub old : (n : ℕ) → IsFresh n s.arrivals s.to_a → IsOf e n → ⊥

-- a command takes another stage: what was active stays so
pub opens_turns : (P : ℕ → ℕ → Type 0) (journal : List Logged) (works : List Arrival) (queue : List Task)
    (functions : List Open) (to_a to_b : List Message) (x : Task) (stage : Stage) → Has queue x →
    (is_active stage ≡ true → WasActive queue (at_stage stage x) ⊎ Begins journal functions to_b (at_stage stage x)) →
    Opens P journal works queue functions to_a to_b →
    Opens P journal works (with_task (at_stage stage x) queue) functions to_a to_b
opens_turns P journal works queue functions to_a to_b x stage hx active h =
    opens_queue P journal works queue (with_task (at_stage stage x) queue) functions to_a to_b from h
  where
    from : (y : Task) → Has (with_task (at_stage stage x) queue) y → is_active y.stage ≡ true →
        WasActive queue y ⊎ Begins journal functions to_b y
    from y m a = ⊎_elim
        (λ (k : at_stage stage x ≡ y). subst (λ (z : Task). WasActive queue z ⊎ Begins journal functions to_b z) k
        (active (subst (λ (z : Task). is_active z.stage ≡ true) (sym k) a)))
        (λ (k : Has queue y × (y.no ≡ x.no → ⊥)). inl
        (record { task = y; has = k.0; no = refl; command = refl; active = a; remote = λ r. r }))
        (has_with (at_stage stage x) queue y m)

-- a command is over
pub record Over_by (P : ℕ → ℕ → Type 0) (o : Opening) (s : State) (journal : List Logged) (x : Task) (e : Logged)
    (functions : List Open) (control : ControlState) (blocks : List (List ℕ)) : Type 0 where
  pub lawful : LawfulAt o journal e
  pub entry : is_entry x.no e.event ≡ true
  pub no_work : e.work ≡ None
  pub no_move : is_move e.event ≡ false
  pub own : Own s x e.event
  pub opens : Opens P (journal ++ e ∷ []) s.arrivals s.tasks functions s.to_a s.to_b
  pub blocks_same : blocks ≡ s.blocks
  pub rules : Rules o.blocks (disk_after journal e.event (serial_disk o journal)) control
      (with_task (at_stage Over x) s.tasks)
  pub holds : IsRestricted o journal → Holds o.blocks (disk_after journal e.event (serial_disk o journal)) blocks
      (with_task (at_stage Over x) s.tasks)

abbrev pub over_state : State → Task → List Open → ControlState → List (List ℕ) → State
over_state s x functions control blocks =
    record s { tasks = with_task (at_stage Over x) s.tasks; functions = functions; control = control; blocks = blocks }

-- where nothing else changes
abbrev pub over_alone : State → Task → State
over_alone s x = over_state s x s.functions s.control s.blocks

pub entry_so : (P : ℕ → ℕ → Type 0) (o : Opening) (s : State) (journal : List Logged) (x : Task) (e : Logged)
    (functions : List Open) (control : ControlState) (blocks : List (List ℕ)) →
    Others P o s journal x.no → Has s.tasks x → is_over x.stage ≡ false →
    Over_by P o s journal x e functions control blocks →
    Inv P o (over_state s x functions control blocks) (journal ++ e ∷ [])
entry_so P o s journal x e functions control blocks h hx alive v = record {
  frame = record {
    each = each_more (LawfulAt o) [] journal e h.frame.each v.lawful;
    works = h.frame.works ∙ sym (works_in-none journal e v.no_work);
    size = ap length v.blocks_same ∙ h.frame.size;
    books = books_turns journal s.arrivals s.tasks s.to_a x Over e h.frame.books hx
        (record {
          entry = or_right (has (is_entry x.no) journal) _ v.entry;
          begin = λ k. absurd (cc);
          made = λ k. absurd (cc);
          enters = v.own.enters;
        }) v.own.mine v.own.old;
    orders =
        orders_turns (journal ++ e ∷ []) s.tasks x Over hx refl
        (orders_event journal s.tasks e v.own.enters h.frame.orders);
    opens = opens_turns P (journal ++ e ∷ []) s.arrivals s.tasks functions s.to_a s.to_b x Over hx
        (λ a. absurd (cc)) v.opens;
  };
  rules = subst (λ d. Rules o.blocks d control (with_task (at_stage Over x) s.tasks))
      (sym (serial-more o journal e)) v.rules;
  cells = cells_event o s (over_state s x functions control blocks) journal e v.no_move v.blocks_same h.blocks
      (λ y m k. ⊎_elim
      (λ (w : at_stage Over x ≡ y). absurd
      (both_ways (is_over y.stage) k (subst (λ (z : Task). is_over z.stage ≡ true) w refl)))
      (λ (w : Has s.tasks y × (y.no ≡ x.no → ⊥)). h.gained y w.0 w.1 k)
      (has_with (at_stage Over x) s.tasks y m))
      (λ m k. h.ungained m (sym (has_same (is_enter m) journal e (v.own.enters m)) ∙ k));
  holds = λ r. subst (λ d. Holds o.blocks d blocks (with_task (at_stage Over x) s.tasks))
      (sym (serial-more o journal e)) (v.holds (restricted_before o journal e r));
}

-- from A it leaves at once
pub leaves_so : (P : ℕ → ℕ → Type 0) (o : Opening) (s : State) (journal : List Logged) (x : Task)
    (functions : List Open) (control : ControlState) (blocks : List (List ℕ)) → has (is_entry x.no) journal ≡ true →
    Inv P o (over_state s x functions control blocks) journal →
    Inv P o (record s {
      tasks = without_task x.no s.tasks;
      functions = functions;
      control = control;
      blocks = blocks;
    }) journal
leaves_so P o s journal x functions control blocks over h =
    subst (λ q. Inv P o (record s { tasks = q; functions = functions; control = control; blocks = blocks }) journal)
    (without_with x.no (at_stage Over x) s.tasks refl)
    (gone_so P o (over_state s x functions control blocks) journal x.no over h)

-- from B a message says so
pub tells_so : (P : ℕ → ℕ → Type 0) (o : Opening) (s : State) (journal : List Logged) (x : Task) (k : Kind2)
    (functions : List Open) (control : ControlState) (blocks : List (List ℕ)) → is_arrival k ≡ false →
    has (is_entry x.no) journal ≡ true →
    Inv P o (over_state s x functions control blocks) journal →
    Inv P o (record s {
      tasks = with_task (at_stage Over x) s.tasks;
      functions = functions;
      control = control;
      blocks = blocks;
      to_a = s.to_a ++ message k x.no ∷ [];
    }) journal
tells_so P o s journal x k functions control blocks no_work over h =
    tells_a P o (over_state s x functions control blocks) journal (message k x.no) no_work over h
