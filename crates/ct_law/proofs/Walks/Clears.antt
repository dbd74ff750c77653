-- Behind a PREEMPT AND ABORT: what holds while the commands that it clears are cut.
use Rattle.std.proofs.Common.{◌≡◌, ℕ, ◌⊎◌, inl, inr, Bool, true, false, ◌&&◌, List, [], ◌∷◌, ◌++◌, Some, refl, sym, ap}
use Rattle.std.proofs.Common.{◌∙◌, subst}
use Rattle.std.proofs.Common.{⊎_elim, cond, drop, eq-eqb, append-nil}
use Rattle.std.proofs.lemmas.Bool.{both_ways}
use Rattle.std.specs.List.{filter}
use Rattle.ct_word.specs.Nexuses.{contains}
use Rattle.ct_book.specs.declared.work.Command.{Command}
use Rattle.ct_book.specs.declared.event.Event.TheVariants as event
use Rattle.ct_book.specs.declared.event.Why.TheVariants.{By}
use Rattle.ct_book.specs.declared.event.Logged.{Logged}
use Rattle.ct_book.specs.Journals.{numbered}
use Rattle.ct_exec.specs.Controls.{tells_aborts}
use Rattle.ct_machine.specs.declared.act.Opening.{Opening}
use Rattle.ct_machine.specs.States.{Task, State, Waiting, Message, Open, is_waiting, is_remote, task_of, without_task}
use Rattle.ct_machine.specs.Events.{after}
use Rattle.ct_machine.specs.Events.Ends.{is_cleared, noted, stops_with}
use Rattle.ct_machine.specs.Events.Sends.{stop}
use Rattle.ct_machine.specs.Acts.Turns.{Turn, nothing, says}
use Rattle.ct_machine.specs.Acts.Entries.{member_of, members_of}
use Rattle.ct_machine.specs.Acts.Begins.{clearing, clearing_all}
use Rattle.ct_machine.specs.Acts.Functions.{numbers_of}
use Rattle.ct_machine.specs.Runs.{replay}
use Rattle.ct_machine.specs.Laws.Standings.{standings_of}
use Rattle.ct_machine.specs.Laws.Journals.{Each, has, is_entry, is_enter, IsCommandOf}
use Rattle.ct_machine.specs.Laws.Timely.{Due, is_of, numbers_among, due_of, IsTimelyAt}
use Rattle.ct_law.proofs.Lists.Tasks.{Has, has_found, has_without}
use Rattle.ct_law.proofs.Journals.Journal.{each_more, has_now, has_stays}
use Rattle.ct_law.proofs.Journals.Growing.{due-more, works_in-none}
use Rattle.ct_law.proofs.Lists.Messages.{IsStop, stop_append}
use Rattle.ct_law.proofs.Frame.Opens.{HasOpen, is_at_b, opens_less}
use Rattle.ct_law.proofs.Inv.{Inv, told}
use Rattle.ct_law.proofs.Events.Entries.{leaves_so}
use Rattle.ct_law.proofs.Events.Overs.{cleared_so}
use Rattle.ct_law.proofs.Walks.Schedules.{Worked, TimelyAt, replayed, worked_without}
use Rattle.ct_law.proofs.Walks.Walk.{Now, After, NoneDue, stays_so, then_so}
use Rattle.ct_law.proofs.Walks.Cleared.{Stands, stands_tail, stands_without, after_clearing, cleared_waits}

-- what is still to be cut, of the commands that are left
abbrev pub Struck : ℕ → List Bool → List Task → ℕ → ℕ → Type 0
Struck by cleared rest f k = (f ≡ by) × (y : Task) × Has rest y × (y.no ≡ k) × (is_cleared cleared y ≡ true)

-- another predicate of what is still to be done, while no function is open
pub inv_less : (P Q : ℕ → ℕ → Type 0) (o : Opening) (s : State) (journal : List Logged) → s.functions ≡ []
    → ((f k : ℕ) → P f k → (has (is_entry k) journal ≡ true) ⊎ Q f k) → Inv P o s journal → Inv Q o s journal
inv_less P Q o s journal closed less h = record {
  frame = record {
    each = h.frame.each;
    works = h.frame.works;
    size = h.frame.size;
    books = h.frame.books;
    orders = h.frame.orders;
    opens = opens_less P Q journal s.arrivals s.tasks s.functions s.to_a s.to_b
        (λ k f stop due. inr (less f k due))
        (λ p x hp hx a hit due. absurd (none p hp))
        (λ p k hp node c w first hit due. absurd (none p hp)) h.frame.opens;
  };
  rules = h.rules;
  cells = record { blocks = h.cells.blocks; gained = h.cells.gained; ungained = h.cells.ungained };
  holds = h.holds;
}
  where
    none : (p : Open) → HasOpen s.functions p → ⊥
    none p hp = subst (λ fs. HasOpen fs p) closed hp

-- The stops

stops_struck : (told_so : Bool) (by : ℕ) (cleared : List Bool) (tasks : List Task) (k f : ℕ)
    → IsStop k f (stops_with told_so by cleared tasks) → Struck by cleared tasks f k
stops_struck told_so by cleared [] k f h = absurd h
stops_struck told_so by cleared (y ∷ ys) k f h =
    go (is_cleared cleared y) (is_remote y.node) refl h (stops_struck told_so by cleared ys k f)
  where
    more : Struck by cleared ys f k → Struck by cleared (y ∷ ys) f k
    more r = (r.0, r.1, inr r.2, r.3, r.4)

    go : (t b : Bool) → is_cleared cleared y ≡ t
        → IsStop k f (cond (t && b) (stop y.no by told_so ∷ stops_with told_so by cleared ys)
        (stops_with told_so by cleared ys))
        → (IsStop k f (stops_with told_so by cleared ys) → Struck by cleared ys f k) → Struck by cleared (y ∷ ys) f k
    go true true e (inl h) rec = (sym h.2, y, inl refl, h.1, e)
    go true true e (inr h) rec = more (rec h)
    go true false e h rec = more (rec h)
    go false true e h rec = more (rec h)
    go false false e h rec = more (rec h)

-- stops go to B for what is cleared
pub stops_so : (o : Opening) (s : State) (journal : List Logged) (by : ℕ) (told_so : Bool) (cleared : List Bool)
    → s.functions ≡ [] → Inv NoneDue o s journal
    → Inv (Struck by cleared s.tasks) o (record s { to_b = s.to_b ++ stops_with told_so by cleared s.tasks }) journal
stops_so o s journal by told_so cleared closed h = record {
  frame = record {
    each = i.frame.each;
    works = i.frame.works;
    size = i.frame.size;
    books = i.frame.books;
    orders = i.frame.orders;
    opens = record {
      gone = i.frame.opens.gone;
      begun = λ k f r. ⊎_elim (i.frame.opens.begun k f)
          (λ (r : IsStop k f stops). inr (inr (stops_struck told_so by cleared s.tasks k f r)))
          (stop_append k f s.to_b stops r);
      stops = λ k f x r hx e remote. ⊎_elim (λ (r : IsStop k f s.to_b). i.frame.opens.stops k f x r hx e remote)
          (λ (r : IsStop k f stops). absurd (waits k f x hx e remote (stops_struck told_so by cleared s.tasks k f r)))
          (stop_append k f s.to_b stops r);
      one = i.frame.opens.one;
      asked = i.frame.opens.asked;
      awaits = i.frame.opens.awaits;
      behind = i.frame.opens.behind;
    };
  };
  rules = i.rules;
  cells = record { blocks = i.cells.blocks; gained = i.cells.gained; ungained = i.cells.ungained };
  holds = i.holds;
}
  where
    stops : List Message
    stops = stops_with told_so by cleared s.tasks

    i : Inv (Struck by cleared s.tasks) o s journal
    i = inv_less NoneDue (Struck by cleared s.tasks) o s journal closed (λ f k due. absurd due) h

    -- none of these commands is at B
    waits : (k f : ℕ) (x : Task) → Has s.tasks x → x.no ≡ k → is_at_b x.stage ≡ true → Struck by cleared s.tasks f k
        → ⊥
    waits k f x hx e remote due =
        let same : due.1 ≡ x = h.rules.single due.1 x due.2 hx (due.3 ∙ sym e) in
        let stage : x.stage ≡ Waiting =
        ap (λ (z : Task). z.stage) (sym same) ∙ cleared_waits cleared due.1 due.4 in
        both_ways (is_at_b x.stage) (ap is_at_b stage) remote

-- The cuts

-- the cuts that are due behind the end of a command
abbrev pub due_from : ℕ → Bool → List Bool → List Task → Due
due_from by told_so cleared tasks =
    record { by = by; told = told_so; left = numbers_among (filter (is_of cleared) (members_of tasks)) }

-- what holds while these commands are left to be looked at
pub record Clearing (by : ℕ) (c : Command) (told_so : Bool) (cleared : List Bool) (rest : List Task) (o : Opening)
    (s : State) (journal : List Logged) : Type 0 where
  pub inv : Inv (Struck by cleared rest) o s journal
  pub at : s ≡ replay o journal
  pub timely : Each (TimelyAt o) journal
  pub due : due_of (standings_of o) o journal ≡ due_from by told_so cleared rest
  pub worked : Worked o.blocks s.tasks
  pub stands : Stands rest s.tasks
  pub closed : s.functions ≡ []
  pub tells : (y : Task) → Has rest y → contains cleared y.command.nexus ≡ true → tells_aborts s.control ≡ told_so
  pub waits : (y : Task) → Has rest y → contains cleared y.command.nexus ≡ true → is_waiting y.stage ≡ true
  pub known : IsCommandOf journal by c
  pub entered : has (is_enter by) journal ≡ true
  pub gone : (y : Task) → Has s.tasks y → y.no ≡ by → ⊥

-- none is left
cleared_now : (by : ℕ) (c : Command) (told_so : Bool) (cleared : List Bool) (o : Opening) (s : State)
    (journal : List Logged)
    → Clearing by c told_so cleared [] o s journal → Now NoneDue o s journal
cleared_now by c told_so cleared o s journal h = record {
  inv = inv_less (Struck by cleared []) NoneDue o s journal h.closed (λ f k due. absurd due.2) h.inv;
  schedule = record { at = h.at; timely = h.timely; due = ap (λ (d : Due). d.left) h.due; worked = h.worked };
}

-- one whose nexus isn't cleared is passed by
passed : (by : ℕ) (c : Command) (told_so : Bool) (cleared : List Bool) (x : Task) (rest : List Task) (o : Opening)
    (s : State) (journal : List Logged)
    → Clearing by c told_so cleared (x ∷ rest) o s journal → contains cleared x.command.nexus ≡ false
    → Clearing by c told_so cleared rest o s journal
passed by c told_so cleared x rest o s journal h other = record {
  inv = inv_less (Struck by cleared (x ∷ rest)) (Struck by cleared rest) o s journal h.closed
      (λ f k due. ⊎_elim (λ (e : x ≡ due.1). absurd (uncleared (subst (λ z. is_cleared cleared z ≡ true) (sym e) due.4)))
      (λ (r : Has rest due.1). inr (due.0, due.1, r, due.3, due.4)) due.2) h.inv;
  at = h.at;
  timely = h.timely;
  due = h.due
      ∙ ap (λ b. record {
        by = by;
        told = told_so;
        left = numbers_among (cond b (member_of x ∷ filter (is_of cleared) (members_of rest))
            (filter (is_of cleared) (members_of rest)));
      }) other;
  worked = h.worked;
  stands = stands_tail x rest s.tasks h.stands;
  closed = h.closed;
  tells = λ y hy. h.tells y (inr hy);
  waits = λ y hy. h.waits y (inr hy);
  known = h.known;
  entered = h.entered;
  gone = h.gone;
}
  where
    uncleared : is_cleared cleared x ≡ true → ⊥
    uncleared e = go (is_waiting x.stage) (contains cleared x.command.nexus) other e
      where
        go : (w b : Bool) → b ≡ false → (w && b) ≡ true → ⊥
        go w true k e = cc
        go true false k e = cc
        go false false k e = cc

-- the next is cut
cut_next : (by : ℕ) (c : Command) (told_so : Bool) (cleared : List Bool) (x : Task) (rest : List Task) (o : Opening)
    (s : State) (journal : List Logged)
    → Clearing by c told_so cleared (x ∷ rest) o s journal → contains cleared x.command.nexus ≡ true
    → let cut = told (event.Cut x.no 0 (By by) (tells_aborts s.control)) in
    Clearing by c told_so cleared rest o (after s cut) (journal ++ cut ∷ [])
cut_next by c told_so cleared x rest o s journal h cut_it = record {
  inv = subst (λ t. Inv (Struck by cleared rest) o t journal') (sym state)
      (inv_less (Struck by cleared (x ∷ rest)) (Struck by cleared rest) o now journal' closed
      (λ f k due. ⊎_elim
      (λ (e : x ≡ due.1). inl (subst (λ m. has (is_entry m) journal' ≡ true) (ap (λ (z : Task). z.no) e ∙ due.3) over))
      (λ (r : Has rest due.1). inr (due.0, due.1, r, due.3, due.4)) due.2) left);
  at = replayed o s journal e h.at;
  timely = each_more (TimelyAt o) [] journal e h.timely
      (subst (λ (due : Due). IsTimelyAt journal due due.left e.event) (sym due) (ap (event.Cut x.no 0 (By by)) tells));
  due = due-more (standings_of o) o journal e ∙ ap (λ (d : Due). record d { left = drop 1 d.left }) due;
  worked = subst (λ (t : State). Worked o.blocks t.tasks) (sym state) (worked_without o.blocks x.no s.tasks h.worked);
  stands = subst (λ (t : State). Stands rest t.tasks) (sym state) (stands_without x rest s.tasks h.stands);
  closed = ap (λ (t : State). t.functions) state ∙ closed;
  tells = λ y hy k. ap (λ (t : State). tells_aborts t.control) state ∙ h.tells y (inr hy) k;
  waits = λ y hy. h.waits y (inr hy);
  known = ap (λ ws. numbered by ws) (works_in-none journal e refl) ∙ h.known;
  entered = has_stays (is_enter by) journal e h.entered;
  gone = λ y hy. h.gone y (has_without x.no s.tasks y (subst (λ (t : State). Has t.tasks y) state hy)).0;
}
  where
    e : Logged
    e = told (event.Cut x.no 0 (By by) (tells_aborts s.control))

    journal' : List Logged
    journal' = journal ++ e ∷ []

    found : task_of x.no s.tasks ≡ Some x
    found = h.stands.found x (inl refl)

    waits : is_cleared cleared x ≡ true
    waits = ap (λ b. b && contains cleared x.command.nexus) (h.waits x (inl refl) cut_it) ∙ cut_it

    stage : x.stage ≡ Waiting
    stage = cleared_waits cleared x waits

    tells : tells_aborts s.control ≡ told_so
    tells = h.tells x (inl refl) cut_it

    now : State
    now = record s { tasks = without_task x.no s.tasks; functions = noted by x.no s.functions }

    state : after s e ≡ now
    state = after_clearing by (tells_aborts s.control) x s found stage

    closed : noted by x.no s.functions ≡ []
    closed = ap (noted by x.no) h.closed

    over : has (is_entry x.no) journal' ≡ true
    over = has_now (is_entry x.no) journal e (eq-eqb x.no x.no refl)

    left : Inv (Struck by cleared (x ∷ rest)) o now journal'
    left = leaves_so (Struck by cleared (x ∷ rest)) o s journal' x (noted by x.no s.functions) s.control s.blocks over
        (cleared_so (Struck by cleared (x ∷ rest)) o s journal x by c (tells_aborts s.control) h.inv
        (has_found x.no s.tasks x found).0 stage h.known h.entered h.gone)

    due : due_of (standings_of o) o journal
        ≡ record { by = by; told = told_so; left = x.no ∷ numbers_among (filter (is_of cleared) (members_of rest)) }
    due = h.due
        ∙ ap (λ b. record {
          by = by;
          told = told_so;
          left = numbers_among (cond b (member_of x ∷ filter (is_of cleared) (members_of rest))
              (filter (is_of cleared) (members_of rest)));
        }) cut_it

-- one of them
clear_one : (by : ℕ) (c : Command) (told_so : Bool) (cleared : List Bool) (x : Task) (rest : List Task) (o : Opening)
    (s : State) (journal : List Logged)
    → Clearing by c told_so cleared (x ∷ rest) o s journal
    → let t = clearing by cleared (task_of x.no s.tasks) s in
    Clearing by c told_so cleared rest o t.state (journal ++ t.journal)
clear_one by c told_so cleared x rest o s journal h =
    subst (λ found. Left (clearing by cleared found s)) (sym (h.stands.found x (inl refl)))
    (go (contains cleared x.command.nexus) refl)
  where
    Left : Turn → Type 0
    Left t = Clearing by c told_so cleared rest o t.state (journal ++ t.journal)

    cut : Turn
    cut = says (event.Cut x.no 0 (By by) (tells_aborts s.control)) s

    go : (b : Bool) → contains cleared x.command.nexus ≡ b → Left (cond (is_cleared cleared x) cut (nothing s))
    go true e =
        subst (λ w. Left (cond w cut (nothing s)))
        (sym (ap (λ w. w && contains cleared x.command.nexus) (h.waits x (inl refl) e) ∙ e))
        (cut_next by c told_so cleared x rest o s journal h e)
    go false e =
        subst (λ w. Left (cond w cut (nothing s)))
        (sym (none (is_waiting x.stage) (contains cleared x.command.nexus) e))
        (subst (λ j. Clearing by c told_so cleared rest o s j) (sym (append-nil journal))
        (passed by c told_so cleared x rest o s journal h e))
      where
        none : (w b : Bool) → b ≡ false → (w && b) ≡ false
        none w true k = absurd (cc)
        none true false k = refl
        none false false k = refl

-- all of them
pub clears_so : (by : ℕ) (c : Command) (told_so : Bool) (cleared : List Bool) (rest : List Task) (o : Opening)
    (s : State) (journal : List Logged)
    → Clearing by c told_so cleared rest o s journal →
    After NoneDue o journal (clearing_all by cleared (numbers_of rest) s)
clears_so by c told_so cleared [] o s journal h =
    stays_so NoneDue o s journal (cleared_now by c told_so cleared o s journal h)
clears_so by c told_so cleared (x ∷ rest) o s journal h =
    let first : Turn = clearing by cleared (task_of x.no s.tasks) s in
    then_so NoneDue o journal first (clearing_all by cleared (numbers_of rest))
    (clears_so by c told_so cleared rest o first.state (journal ++ first.journal)
    (clear_one by c told_so cleared x rest o s journal h))
