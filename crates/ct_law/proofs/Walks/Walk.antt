-- A work enters, or a function is taken up, cuts what it hits and closes: what holds after these turns.
use Rattle.std.proofs.Common.{◌≡◌, ℕ, ◌≤◌, ◌⊎◌, inl, inr, Bool, true, false, List, [], ◌∷◌, ◌++◌, Option, Some, None}
use Rattle.std.proofs.Common.{length, refl, sym, ap, ◌∙◌, subst, ⊎_elim, nat_eq, eqb-true, eq-eqb, ne_eqb, cond, ◌&&◌}
use Rattle.std.proofs.Common.{append_assoc, append-nil}
use Rattle.std.proofs.lemmas.Bool.{both_ways, and_parts, eqb-false}
use Rattle.ct_word.specs.declared.limit.TheConstants.{MOST_FUNCTIONS}
use Rattle.ct_word.specs.declared.names.Node.{Node}
use Rattle.ct_sense.specs.declared.reply.Reply.{Reply}
use Rattle.ct_tmf.specs.declared.function.Ask.{Ask}
use Rattle.ct_book.specs.declared.work.Command.{Command}
use Rattle.ct_book.specs.declared.work.Work.TheVariants as work
use Rattle.ct_book.specs.declared.event.Event.TheVariants as event
use Rattle.ct_book.specs.declared.event.Kind2.{Kind2}
use Rattle.ct_book.specs.declared.event.Kind2.TheVariants as kind
use Rattle.ct_book.specs.declared.event.Why.TheVariants.{By}
use Rattle.ct_book.specs.declared.event.Logged.{Logged}
use Rattle.ct_book.specs.Journals.{numbered}
use Rattle.ct_exec.specs.Controls.{ControlState}
use Rattle.ct_exec.specs.Executions.{need_in}
use Rattle.ct_machine.specs.declared.act.Opening.{Opening}
use Rattle.ct_machine.specs.States.{Task, Stage, Waiting, Here, Granted, There, Over, Open, Arrival, State, arrival_of}
use Rattle.ct_machine.specs.States.{without_task, with_task, at_stage, queued}
use Rattle.ct_machine.specs.Events.Sends.{answered, came_remote, message, to_b_if}
use Rattle.ct_machine.specs.Events.Arrivals.{new_task}
use Rattle.ct_machine.specs.Serial.{serial_disk}
use Rattle.ct_machine.specs.Laws.Standings.{standings_of}
use Rattle.ct_machine.specs.Laws.Legal.{refusal_behind}
use Rattle.ct_machine.specs.Laws.Journals.{has, is_entry, is_enter, is_asked, IsCommandOf}
use Rattle.ct_law.proofs.Lists.Tasks.{Has, has_without}
use Rattle.ct_law.proofs.Journals.Journal.{has_not, has_now, has_stays, Untouched}
use Rattle.ct_law.proofs.Journals.Growing.{numbered-map}
use Rattle.ct_law.proofs.Frame.Books.{IsAsk, is_over, arrival_for}
use Rattle.ct_law.proofs.Frame.Opens.{HasOpen}
use Rattle.ct_law.proofs.Inv.{Inv, told, replied}
use Rattle.std.proofs.lemmas.Option.{same_Some}
use Rattle.std.specs.Prelude.{nat_le}
use Rattle.ct_tmf.specs.declared.function.Outcome.{Outcome}
use Rattle.ct_tmf.specs.declared.function.Outcome.TheVariants.{Rejected}
use Rattle.ct_machine.specs.States.{function_of, task_of, is_here}
use Rattle.ct_machine.specs.Events.{after}
use Rattle.ct_machine.specs.Events.Arrivals.{after_enter}
use Rattle.ct_machine.specs.Events.Functions.{is_hit, is_told, taken_up, closed, after_asked}
use Rattle.ct_machine.specs.Events.Ends.{after_cut, cut_at as cut_from, noted}
use Rattle.ct_machine.specs.Acts.Functions.{outcome_of, puts_of, cutting, numbers_of, cutting_all, closing_if, closing}
use Rattle.ct_machine.specs.Acts.Functions.{closing_all, taking_up, asking}
use Rattle.ct_machine.specs.Acts.Turns.{Turn, nothing, writes, says, followed}
use Rattle.ct_machine.specs.Entrances.{sender_of, entrance_of, refusal_at}
use Rattle.ct_machine.specs.Acts.Entries.{standing_of, turned_cause, entering_with, entering}
use Rattle.ct_law.proofs.Rows.Laws.{Laws}
use Rattle.ct_law.proofs.Cells.Held.{IsSingle}
use Rattle.ct_law.proofs.Lists.Tasks.{has_found}
use Rattle.ct_law.proofs.Frame.Opens.{IsIn, opens_less}
use Rattle.ct_law.proofs.Events.Steps.{answers, enter_so}
use Rattle.ct_law.proofs.Cells.Ends.{puts_at}
use Rattle.ct_law.proofs.Events.Entries.{turned_so, leaves_so}
use Rattle.ct_law.proofs.Events.Overs.{by_so}
use Rattle.ct_law.proofs.Events.Functions.{IsDue, Due, function_in, rejected_so, closes_so, asked_so}
use Rattle.ct_law.proofs.Walks.Schedules.{Scheduled, Worked, IsUntimed, goes_on, worked_without, worked_queued, untimed}
use Rattle.ct_law.proofs.Walks.Schedules.{untimed_by}

-- what holds of a state behind a journal
pub record Now (P : ℕ → ℕ → Type 0) (o : Opening) (s : State) (journal : List Logged) : Type 0 where
  pub inv : Inv P o s journal
  pub schedule : Scheduled o s journal

-- and of a turn behind it
abbrev pub After : (ℕ → ℕ → Type 0) → Opening → List Logged → Turn → Type 0
After P o journal t = Now P o t.state (journal ++ t.journal)

-- no function has anything left to carry out
abbrev pub NoneDue : ℕ → ℕ → Type 0
NoneDue f n = ⊥

pub stays_so : (P : ℕ → ℕ → Type 0) (o : Opening) (s : State) (journal : List Logged) → Now P o s journal →
    After P o journal (nothing s)
stays_so P o s journal h = subst (λ j. Now P o s j) (sym (append-nil journal)) h

pub then_so : (P : ℕ → ℕ → Type 0) (o : Opening) (journal : List Logged) (t : Turn) (next : State → Turn) →
    After P o (journal ++ t.journal) (next t.state) → After P o journal (followed t next)
then_so P o journal t next h =
    subst (λ j. Now P o (next t.state).state j) (append_assoc journal t.journal (next t.state).journal) h

-- one event, in the state that it leaves
pub wrote : (P : ℕ → ℕ → Type 0) (o : Opening) (s now : State) (journal : List Logged) (l : Logged) →
    Scheduled o s journal → after s l ≡ now → Inv P o now (journal ++ l ∷ []) → Worked o.blocks now.tasks →
    IsUntimed o journal l → After P o journal (writes l s)
wrote P o s now journal l h e inv worked untimed = record {
  inv = subst (λ t. Inv P o t (journal ++ l ∷ [])) (sym e) inv;
  schedule = subst (λ t. Scheduled o t (journal ++ l ∷ [])) (sym e) (goes_on o s now journal l h e worked untimed);
}

-- what came at B is answered there, and the task set stays
pub answered_tasks : (k : Kind2) (n : ℕ) (s : State) → (answered k n s).tasks ≡ s.tasks
answered_tasks k n s = go (came_remote (arrival_of n s))
  where
    go : (t : Bool) → (to_b_if t (message k n) s).tasks ≡ s.tasks
    go true = refl
    go false = refl

pub answered_still : (k : Kind2) (n : ℕ) (s : State) → s.functions ≡ [] →
    (answered k n s).functions ≡ [] × ((answered k n s).control ≡ s.control)
answered_still k n s closed = go (came_remote (arrival_of n s))
  where
    go : (t : Bool) → (to_b_if t (message k n) s).functions ≡ [] × ((to_b_if t (message k n) s).control ≡ s.control)
    go true = (closed, refl)
    go false = (closed, refl)

pub worked_answered : (n : ℕ) (k : Kind2) (number : ℕ) (s : State) → Worked n s.tasks →
    Worked n (answered k number s).tasks
worked_answered n k number s h = subst (λ q. Worked n q) (sym (answered_tasks k number s)) h

-- what a number is, that has come and of which nothing was said yet
pub record Fresh (s : State) (journal : List Logged) (n : ℕ) : Type 0 where
  pub untouched : Untouched n journal
  pub unasked : IsAsk n s.to_a → ⊥
  pub within : n ≤ length s.arrivals

fresh_other : (P : ℕ → ℕ → Type 0) (o : Opening) (s : State) (journal : List Logged) (n : ℕ) → Inv P o s journal →
    Fresh s journal n → (y : Task) → Has s.tasks y → y.no ≡ n → ⊥
fresh_other P o s journal n h f y hy k =
    both_ways (has (is_enter n) journal) f.untouched.enter
    (subst (λ m. has (is_enter m) journal ≡ true) k (h.frame.books.entered y hy))

fresh_closed : (P : ℕ → ℕ → Type 0) (o : Opening) (s : State) (journal : List Logged) (n : ℕ) → Inv P o s journal →
    Fresh s journal n → (p : Open) → HasOpen s.functions p → n ≡ p.no → ⊥
fresh_closed P o s journal n h f p hp k =
    both_ways (has (is_asked n) journal) f.untouched.asking
    (subst (λ m. has (is_asked m) journal ≡ true) (sym k) (h.frame.opens.asked p hp).asking)

-- Entering

after_turned : (n : ℕ) (reply : Reply) (s : State) → after s (replied (event.Turned n) reply) ≡ answered kind.Reply n s
unfolding after
after_turned n reply s = refl

after_entered : (n : ℕ) (node : Node) (c : Command) (s : State) →
    arrival_of n s ≡ Some (record { node = node; work = work.Cmd c }) →
    after s (told (event.Enter n)) ≡ record s { tasks = queued (new_task n node c) s.tasks }
unfolding after
after_entered n node c s e = ap (λ a. after_enter n a s) e

-- the machine's cause to refuse a command is the law's
cause_known : (o : Opening) (s : State) (journal : List Logged) (c : Command) → Now NoneDue o s journal
    → turned_cause s c ≡ refusal_behind (standings_of o) o journal c
unfolding turned_cause
cause_known o s journal c h =
    ap (λ (k : ControlState). refusal_at (entrance_of (standing_of s)) k (sender_of c)
    (need_in (length s.blocks) c)) h.inv.rules.control
    ∙ ap (λ n. refusal_at (entrance_of (standing_of s)) (serial_disk o journal).control (sender_of c)
    (need_in n c)) h.inv.frame.size
    ∙ ap (λ (t : State). refusal_at (entrance_of (standing_of t)) (serial_disk o journal).control (sender_of c)
    (need_in o.blocks c)) h.schedule.at

pub entering_so : (o : Opening) (s : State) (journal : List Logged) (n : ℕ) (node : Node) (c : Command) →
    Now NoneDue o s journal → Fresh s journal n →
    numbered n s.arrivals ≡ Some (record { node = node; work = work.Cmd c }) → After NoneDue o journal (entering n c s)
entering_so o s journal n node c h f came = go (turned_cause s c) refl
  where
    known : IsCommandOf journal n c
    known = ap (numbered n) (sym h.inv.frame.works) ∙ numbered-map (λ (a : Arrival). a.work) n s.arrivals _ came

    go : (cause : Option Reply) → turned_cause s c ≡ cause → After NoneDue o journal (entering_with cause n s)
    go None e = wrote NoneDue o s _ journal (told (event.Enter n)) h.schedule (after_entered n node c s came)
        (enter_so NoneDue o s journal n node c h.inv f.untouched f.unasked came (sym (cause_known o s journal c h) ∙ e))
        (worked_queued o.blocks s.tasks (new_task n node c) h.schedule.worked refl)
        (untimed o journal (told (event.Enter n)) refl)
    go (Some reply) e = wrote NoneDue o s _ journal (replied (event.Turned n) reply) h.schedule (after_turned n reply s)
        (answers NoneDue o s (journal ++ replied (event.Turned n) reply ∷ []) kind.Reply n refl
        (turned_so NoneDue o s journal n reply h.inv f.untouched f.unasked f.within
        (c, known, sym e ∙ cause_known o s journal c h, refl)
        (fresh_other NoneDue o s journal n h.inv f) (fresh_closed NoneDue o s journal n h.inv f)))
        (worked_answered o.blocks kind.Reply n s h.schedule.worked)
        (untimed o journal (replied (event.Turned n) reply) refl)

-- Closing

pub found_open : (n : ℕ) (fs : List Open) (p : Open) → function_of n fs ≡ Some p → HasOpen fs p × (p.no ≡ n)
found_open n [] p e = absurd (cc)
found_open n (q ∷ fs) p e = go (nat_eq q.no n) refl e (found_open n fs p)
  where
    go : (t : Bool) → nat_eq q.no n ≡ t → cond t (Some q) (function_of n fs) ≡ Some p →
        (function_of n fs ≡ Some p → HasOpen fs p × (p.no ≡ n)) → HasOpen (q ∷ fs) p × (p.no ≡ n)
    go true k e rec = let same : q ≡ p = cc in (inl same, ap (λ (z : Open). z.no) (sym same) ∙ eqb-true q.no n k)
    go false k e rec = let r = rec e in (inr r.0, r.1)

none_open : (n : ℕ) (fs : List Open) → ((p : Open) → HasOpen fs p → n ≡ p.no → ⊥) → function_of n fs ≡ None
none_open n [] f = refl
none_open n (q ∷ fs) f =
    ap (λ t. cond t (Some q) (function_of n fs)) (ne_eqb q.no n (λ k. f q (inl refl) (sym k))) ∙ none_open n fs
    (λ p hp. f p (inr hp))

after_closing : (n : ℕ) (outcome : Outcome) (found : Option Open) (s : State) → function_of n s.functions ≡ found →
    after s (told (event.Closed n outcome)) ≡ answered kind.Response n (closed found s)
unfolding after
after_closing n outcome found s e = ap (λ f. answered kind.Response n (closed f s)) e

pub closing_so : (laws : Laws) (o : Opening) (s : State) (journal : List Logged) (n : ℕ) → Now NoneDue o s journal →
    After NoneDue o journal (closing (function_of n s.functions) s)
closing_so laws o s journal n h = go (function_of n s.functions) refl
  where
    empty : (ns : List ℕ) (p : Open) → p.awaits ≡ ns → HasOpen s.functions p → function_of p.no s.functions ≡ Some p →
        After NoneDue o journal (closing_if ns p s)
    empty [] p e hp found = wrote NoneDue o s _ journal (told (event.Closed p.no (outcome_of p.ask s))) h.schedule
        (after_closing p.no (outcome_of p.ask s) (Some p) s found)
        (answers NoneDue o (closed (Some p) s)
        (journal ++ told (event.Closed p.no (outcome_of p.ask s)) ∷ []) kind.Response p.no refl
        (closes_so NoneDue laws o s journal p (λ f m k. k) h.inv hp e))
        (worked_answered o.blocks kind.Response p.no (closed (Some p) s) h.schedule.worked)
        (untimed o journal (told (event.Closed p.no (outcome_of p.ask s))) refl)
    empty (m ∷ ms) p e hp found = stays_so NoneDue o s journal h

    go : (found : Option Open) → function_of n s.functions ≡ found → After NoneDue o journal (closing found s)
    go None e = stays_so NoneDue o s journal h
    go (Some p) e =
        let r = found_open n s.functions p e in empty p.awaits p refl r.0 (ap (λ m. function_of m s.functions) r.1 ∙ e)

pub closing_all_so : (laws : Laws) (o : Opening) (ns : List ℕ) (s : State) (journal : List Logged) →
    Now NoneDue o s journal → After NoneDue o journal (closing_all ns s)
closing_all_so laws o [] s journal h = stays_so NoneDue o s journal h
closing_all_so laws o (n ∷ ns) s journal h =
    let first : Turn = closing (function_of n s.functions) s in
    then_so NoneDue o journal first (closing_all ns)
    (closing_all_so laws o ns first.state (journal ++ first.journal) (closing_so laws o s journal n h))

-- Taking up

here_alive : (stage : Stage) → is_here stage ≡ true → is_over stage ≡ false
here_alive Waiting e = refl
here_alive (Here d g) e = refl
here_alive Granted e = refl
here_alive (There d g) e = refl
here_alive Over e = absurd (cc)

-- what a cut leaves of a command that waits or is at A
after_cutting : (by puts : ℕ) (told_so : Bool) (x : Task) (s : State) → task_of x.no s.tasks ≡ Some x →
    is_here x.stage ≡ true → after s (told (event.Cut x.no puts (By by) told_so))
    ≡ record s { tasks = without_task x.no s.tasks; functions = noted by x.no s.functions }
unfolding after
after_cutting by puts told_so x s e here = ap (λ f. after_cut (By by) f s) e ∙ go x.stage here
  where
    go : (stage : Stage) → is_here stage ≡ true →
        cut_from (By by) stage x s
        ≡ record s { tasks = without_task x.no s.tasks; functions = noted by x.no s.functions }
    go Waiting k = refl
    go (Here d g) k = refl
    go Granted k = absurd (cc)
    go (There d g) k = absurd (cc)
    go Over k = absurd (cc)

-- what holds while a function cuts what it hits, of the task set at which it was taken up
record Cutting (start : List Task) (s : State) (journal : List Logged) (n : ℕ) (node : Node) (ask : Ask) : Type 0 where
  came : numbered n s.arrivals ≡ Some (record { node = node; work = work.Ask ask })
  asking : has (is_asked n) journal ≡ true
  entry : has (is_entry n) journal ≡ false
  single : IsSingle start
  subset : (y : Task) → Has s.tasks y → Has start y
  entered : (x : Task) → Has start x → has (is_enter x.no) journal ≡ true

-- one number less is left, where what is due of it is no more in the task set
less : (o : Opening) (start : List Task) (s : State) (journal : List Logged) (n : ℕ) (node : Node) (ask : Ask) (m : ℕ)
    (ms : List ℕ) → Now (Due n ask start (m ∷ ms)) o s journal → Cutting start s journal n node ask →
    (IsDue ask start m → (y : Task) → Has s.tasks y → y.no ≡ m → ⊥) → Now (Due n ask start ms) o s journal
less o start s journal n node ask m ms h c gone = record {
  inv = record {
    frame = record {
      each = h.inv.frame.each;
      works = h.inv.frame.works;
      size = h.inv.frame.size;
      books = h.inv.frame.books;
      orders = h.inv.frame.orders;
      opens = opens_less (Due n ask start (m ∷ ms))
          (Due n ask start ms) journal s.arrivals s.tasks s.functions s.to_a s.to_b
          (λ k f stop due. inr (done k f due))
          (λ p x hp hx a hit due. ⊎_elim
          (λ (i : m ≡ x.no). absurd (gone (subst (IsDue ask start) (sym i) due.2) x hx (sym i)))
          (λ (i : IsIn x.no ms). inr (due.0, i, due.2)) due.1)
          (λ p k hp node' d w first hit due. ⊎_elim inl (λ (z : Due n ask start ms p.no k). inr (inr z))
          (done k p.no due))
          h.inv.frame.opens;
    };
    rules = h.inv.rules;
    cells = h.inv.cells;
    holds = h.inv.holds;
  };
  schedule = h.schedule;
}
  where
    over : IsDue ask start m → has (is_entry m) journal ≡ true
    over due = go (has (is_entry m) journal) refl
      where
        go : (t : Bool) → has (is_entry m) journal ≡ t → has (is_entry m) journal ≡ true
        go true e = e
        go false e =
            let live =
            h.inv.frame.books.live m
            (subst (λ i. has (is_enter i) journal ≡ true) due.no (c.entered due.task due.has)) e in
            absurd (gone due live.0 live.1 live.2)

    done : (k f : ℕ) → Due n ask start (m ∷ ms) f k → (has (is_entry k) journal ≡ true) ⊎ Due n ask start ms f k
    done k f due = ⊎_elim
        (λ (i : m ≡ k). inl (subst (λ j. has (is_entry j) journal ≡ true) i (over (subst (IsDue ask start) (sym i) due.2))))
        (λ (i : IsIn k ms). inr (due.0, i, due.2)) due.1

pub none_found : (n : ℕ) (q : List Task) (x : Task) → task_of n q ≡ None → Has q x → x.no ≡ n → ⊥
none_found n [] x e h k = h
none_found n (y ∷ ys) x e h k = go (nat_eq y.no n) refl e h (λ e' h'. none_found n ys x e' h' k)
  where
    go : (t : Bool) → nat_eq y.no n ≡ t → cond t (Some y) (task_of n ys) ≡ None → Has (y ∷ ys) x →
        (task_of n ys ≡ None → Has ys x → ⊥) → ⊥
    go true b e h rec = cc
    go false b e (inl h) rec = eqb-false y.no n b (ap (λ (z : Task). z.no) h ∙ k)
    go false b e (inr h) rec = rec e h

-- the turn at a number, and what holds behind it
record Cut_on (o : Opening) (start : List Task) (journal : List Logged) (n : ℕ) (node : Node) (ask : Ask) (ms : List ℕ)
    (t : Turn) : Type 0 where
  now : After (Due n ask start ms) o journal t
  cutting : Cutting start t.state (journal ++ t.journal) n node ask

cut_stays : (o : Opening) (start : List Task) (s : State) (journal : List Logged) (n : ℕ) (node : Node) (ask : Ask)
    (ms : List ℕ) → Now (Due n ask start ms) o s journal → Cutting start s journal n node ask →
    Cut_on o start journal n node ask ms (nothing s)
cut_stays o start s journal n node ask ms h c = record {
  now = stays_so _ o s journal h;
  cutting = subst
      (λ j. Cutting start s j n node ask) (sym (append-nil journal)) c;
}

cut_one : (o : Opening) (start : List Task) (s : State) (journal : List Logged) (n : ℕ) (node : Node) (ask : Ask)
    (m : ℕ) (ms : List ℕ) (x : Task) → Now (Due n ask start (m ∷ ms)) o s journal → Cutting start s journal n node ask →
    Has s.tasks x → x.no ≡ m → task_of m s.tasks ≡ Some x → is_hit ask x ≡ true → is_here x.stage ≡ true →
    Cut_on o start journal n node ask ms (says (event.Cut x.no (puts_of x s) (By n) (is_told s ask x)) s)
cut_one o start s journal n node ask m ms x h c hx xm found hit here = record {
  now = less o start t journal' n node ask m ms now cutting
      (λ due y hy k. (has_without x.no s.tasks y (subst (λ (q : State). Has q.tasks y) state hy)).1 (k ∙ sym xm));
  cutting = cutting;
}
  where
    e : Logged
    e = told (event.Cut x.no (puts_of x s) (By n) (is_told s ask x))

    t : State
    t = after s e

    journal' : List Logged
    journal' = journal ++ e ∷ []

    alive : is_over x.stage ≡ false
    alive = here_alive x.stage here

    state : t ≡ record s { tasks = without_task x.no s.tasks; functions = noted n x.no s.functions }
    state = after_cutting n (puts_of x s) (is_told s ask x) x s (ap (λ k. task_of k s.tasks) xm ∙ found) here

    over : Inv (Due n ask start (m ∷ ms)) o
        (record s { tasks = with_task (at_stage Over x) s.tasks; functions = noted n x.no s.functions }) journal'
    over = subst (λ k. Inv (Due n ask start (m ∷ ms)) o
        (record s { tasks = with_task (at_stage Over x) s.tasks; functions = noted n x.no s.functions })
        (journal ++ told (event.Cut x.no (puts_at k x) (By n) (is_told s ask x)) ∷ [])) (sym h.inv.frame.size)
        (by_so (Due n ask start (m ∷ ms)) o s journal x n node ask
        (is_told s ask x) h.inv hx alive c.came hit c.asking c.entry)

    left : Inv (Due n ask start (m ∷ ms)) o
        (record s { tasks = without_task x.no s.tasks; functions = noted n x.no s.functions }) journal'
    left = leaves_so (Due n ask start (m ∷ ms)) o s journal' x (noted n x.no s.functions) s.control s.blocks
        (has_now (is_entry x.no) journal e (eq-eqb x.no x.no refl)) over

    now : Now (Due n ask start (m ∷ ms)) o t journal'
    now = wrote _ o s _ journal e h.schedule state left (worked_without o.blocks x.no s.tasks h.schedule.worked)
        (untimed_by o journal e x.no (puts_of x s) n (is_told s ask x) ask refl
        (function_in _ o s journal n node ask h.inv.frame c.came))

    other : x.no ≡ n → ⊥
    other k =
        let w : Some (arrival_for x) ≡ Some (record { node = node; work = work.Ask ask }) =
        sym (h.inv.frame.books.known x hx) ∙ ap (λ i. numbered i s.arrivals) k ∙ c.came in
        let z : work.Cmd x.command ≡ work.Ask ask = ap (λ (a : Arrival). a.work) (same_Some _ _ w) in
        cc

    cutting : Cutting start t journal' n node ask
    cutting = record {
      came = ap (λ (q : State). numbered n q.arrivals) state ∙ c.came;
      asking = has_stays (is_asked n) journal e c.asking;
      entry = has_not (is_entry n) journal e c.entry (ne_eqb x.no n other);
      single = c.single;
      subset = λ y hy. c.subset y (has_without x.no s.tasks y (subst (λ (q : State). Has q.tasks y) state hy)).0;
      entered = λ y hy. has_stays (is_enter y.no) journal e (c.entered y hy);
    }

cut_this : (o : Opening) (start : List Task) (s : State) (journal : List Logged) (n : ℕ) (node : Node) (ask : Ask)
    (m : ℕ) (ms : List ℕ) → Now (Due n ask start (m ∷ ms)) o s journal → Cutting start s journal n node ask →
    Cut_on o start journal n node ask ms (cutting n ask (task_of m s.tasks) s)
cut_this o start s journal n node ask m ms h c = go (task_of m s.tasks) refl
  where
    test : (x : Task) → Has s.tasks x → x.no ≡ m → task_of m s.tasks ≡ Some x → (t : Bool) →
        (is_hit ask x && is_here x.stage) ≡ t →
        Cut_on o start journal n node ask ms
        (cond t (says (event.Cut x.no (puts_of x s) (By n) (is_told s ask x)) s) (nothing s))
    test x hx xm found true e =
        let b = and_parts _ _ e in cut_one o start s journal n node ask m ms x h c hx xm found b.0 b.1
    test x hx xm found false e =
        cut_stays o start s journal n node ask ms (less o start s journal n node ask m ms h c (λ due y hy k.
        let same : due.task ≡ x = c.single due.task x due.has (c.subset x hx) (due.no ∙ sym xm) in
        let both : (is_hit ask x && is_here x.stage) ≡ true =
        subst (λ (z : Task). (is_hit ask z && is_here z.stage) ≡ true) same
        (ap (λ b. b && is_here due.task.stage) due.hit ∙ due.here) in
        both_ways _ e both)) c

    go : (found : Option Task) → task_of m s.tasks ≡ found →
        Cut_on o start journal n node ask ms (cutting n ask found s)
    go None e =
        cut_stays o start s journal n node ask ms
        (less o start s journal n node ask m ms h c (λ due y hy k. none_found m s.tasks y e hy k)) c
    go (Some x) e = let r = has_found m s.tasks x e in test x r.0 r.1 e (is_hit ask x && is_here x.stage) refl

cut_all : (o : Opening) (start : List Task) (ms : List ℕ) (s : State) (journal : List Logged) (n : ℕ) (node : Node)
    (ask : Ask) → Now (Due n ask start ms) o s journal → Cutting start s journal n node ask →
    After (Due n ask start []) o journal (cutting_all n ask ms s)
cut_all o start [] s journal n node ask h c = stays_so _ o s journal h
cut_all o start (m ∷ ms) s journal n node ask h c =
    let first : Turn = cutting n ask (task_of m s.tasks) s in
    let r = cut_this o start s journal n node ask m ms h c in
    then_so _ o journal first (cutting_all n ask ms)
    (cut_all o start ms first.state (journal ++ first.journal) n node ask r.now r.cutting)

none_due : (o : Opening) (start : List Task) (s : State) (journal : List Logged) (n : ℕ) (ask : Ask) →
    Now (Due n ask start []) o s journal → Now NoneDue o s journal
none_due o start s journal n ask h = record {
  inv = record {
    frame = record {
      each = h.inv.frame.each;
      works = h.inv.frame.works;
      size = h.inv.frame.size;
      books = h.inv.frame.books;
      orders = h.inv.frame.orders;
      opens = opens_less (Due n ask start []) NoneDue journal s.arrivals s.tasks s.functions s.to_a s.to_b
          (λ k f stop due. absurd due.1) (λ p x hp hx a hit due. absurd due.1)
          (λ p k hp node d w first hit due. absurd due.1) h.inv.frame.opens;
    };
    rules = h.inv.rules;
    cells = h.inv.cells;
    holds = h.inv.holds;
  };
  schedule = h.schedule;
}

after_taken_up : (n : ℕ) (node : Node) (ask : Ask) (s : State) →
    arrival_of n s ≡ Some (record { node = node; work = work.Ask ask }) →
    after s (told (event.Asked n)) ≡ taken_up n ask s
unfolding after
after_taken_up n node ask s e = ap (λ a. after_asked n a s) e

after_rejected : (n : ℕ) (s : State) → function_of n s.functions ≡ None →
    after s (told (event.Closed n Rejected)) ≡ answered kind.Response n s
unfolding after
after_rejected n s e = ap (λ f. answered kind.Response n (closed f s)) e

pub asking_so : (laws : Laws) (o : Opening) (s : State) (journal : List Logged) (n : ℕ) (node : Node) (ask : Ask) →
    Now NoneDue o s journal → Fresh s journal n →
    numbered n s.arrivals ≡ Some (record { node = node; work = work.Ask ask }) →
    After NoneDue o journal (asking n ask s)
asking_so laws o s journal n node ask h f came = go (nat_le MOST_FUNCTIONS (length s.functions))
  where
    e : Logged
    e = told (event.Asked n)

    start : List Task
    start = s.tasks

    first : Turn
    first = says (event.Asked n) s

    state : first.state ≡ taken_up n ask s
    state = after_taken_up n node ask s came

    asked : Now (Due n ask start (numbers_of start)) o first.state (journal ++ e ∷ [])
    asked = wrote (Due n ask start (numbers_of start)) o s _ journal e h.schedule state
        (asked_so NoneDue o s journal n node ask (λ g m k. k) h.inv f.untouched f.unasked f.within came)
        h.schedule.worked (untimed o journal e refl)

    begins : Cutting start first.state (journal ++ e ∷ []) n node ask
    begins = record {
      came = ap (λ (q : State). numbered n q.arrivals) state ∙ came;
      asking = has_now (is_asked n) journal e (eq-eqb n n refl);
      entry = has_not (is_entry n) journal e f.untouched.entry refl;
      single = h.inv.rules.single;
      subset = λ y hy. subst (λ (q : State). Has q.tasks y) state hy;
      entered = λ x hx. has_stays (is_enter x.no) journal e (h.inv.frame.books.entered x hx);
    }

    rest : State → Turn
    rest = λ asked. cutting_all n ask (numbers_of s.tasks) asked

    two : Turn
    two = followed first rest

    cut : After NoneDue o journal two
    cut = none_due o start two.state (journal ++ two.journal) n ask
        (then_so (Due n ask start []) o journal first rest
        (cut_all o start (numbers_of start) first.state (journal ++ e ∷ []) n node ask asked begins))

    go : (t : Bool) → After NoneDue o journal (cond t (says (event.Closed n Rejected) s) (taking_up n ask s))
    go true = wrote NoneDue o s _ journal (told (event.Closed n Rejected)) h.schedule
        (after_rejected n s (none_open n s.functions (fresh_closed NoneDue o s journal n h.inv f)))
        (answers NoneDue o s (journal ++ told (event.Closed n Rejected) ∷ []) kind.Response n refl
        (rejected_so NoneDue o s journal n node ask h.inv f.untouched f.unasked f.within came))
        (worked_answered o.blocks kind.Response n s h.schedule.worked)
        (untimed o journal (told (event.Closed n Rejected)) refl)
    go false =
        then_so NoneDue o journal two (λ cut. closing (function_of n cut.functions) cut)
        (closing_so laws o two.state (journal ++ two.journal) n cut)
