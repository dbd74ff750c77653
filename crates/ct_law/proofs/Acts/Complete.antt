-- Each work that came is in the task set or open, on its way, or has its entry.
use Rattle.std.proofs.Common.{◌≡◌, ℕ, zero, suc, ◌⊎◌, inl, inr, Bool, true, false, List, [], ◌∷◌, ◌++◌, Option, Some}
use Rattle.std.proofs.Common.{None, length, map, drop, refl, sym, ap, ◌∙◌, subst, ⊎_elim, nat_eq, eqb-true, eq-eqb}
use Rattle.std.proofs.Common.{cond, append_assoc, append-nil}
use Rattle.std.proofs.lemmas.Bool.{cases_eq, both_ways}
use Rattle.std.proofs.lemmas.Option.{same_Some}
use Rattle.std.specs.Prelude.{nat_le, nat_lt}
use Rattle.ct_word.specs.declared.limit.TheConstants.{MOST_FUNCTIONS}
use Rattle.ct_word.specs.declared.names.Node.{Node}
use Rattle.ct_word.specs.declared.names.Node.TheVariants.{A, B}
use Rattle.ct_sense.specs.declared.reply.Reply.{Reply}
use Rattle.ct_tmf.specs.declared.function.Ask.{Ask}
use Rattle.ct_tmf.specs.declared.function.Outcome.TheVariants.{Rejected}
use Rattle.ct_book.specs.declared.work.Command.{Command}
use Rattle.ct_book.specs.declared.work.Work.TheVariants as work
use Rattle.ct_book.specs.declared.event.Event.{Event}
use Rattle.ct_book.specs.declared.event.Event.TheVariants as event
use Rattle.ct_book.specs.declared.event.Kind2.{Kind2}
use Rattle.ct_book.specs.declared.event.Kind2.TheVariants as kind
use Rattle.ct_book.specs.declared.event.Why.{Why}
use Rattle.ct_book.specs.declared.event.Why.TheVariants.{By, Medium}
use Rattle.ct_book.specs.declared.event.Logged.{Logged}
use Rattle.ct_book.specs.Journals.{KeptWork, numbered, arrived}
use Rattle.ct_machine.specs.declared.act.Opening.{Opening}
use Rattle.ct_machine.specs.States.{Task, Stage, Waiting, Here, Granted, There, Over, Open, Message, Arrival, State}
use Rattle.ct_machine.specs.States.{opened, arrival_of, task_of, function_of}
use Rattle.ct_machine.specs.States.{is_remote}
use Rattle.ct_machine.specs.Events.Sends.{message, answered, to_b_if, came_remote}
use Rattle.ct_machine.specs.Events.{after}
use Rattle.ct_machine.specs.Events.Moves.{staged, moved_at, after_moved}
use Rattle.ct_machine.specs.Events.Ends.{ended_at, after_ended, cut_at, after_cut, noted}
use Rattle.ct_machine.specs.Events.Functions.{closed, without_function, with_function, asked_for, after_asked}
use Rattle.ct_machine.specs.Events.Functions.{awaited_by}
use Rattle.ct_machine.specs.Events.Deliveries.{awaits_no_more, after_grant, begun_at_b}
use Rattle.ct_machine.specs.Events.Arrivals.{after_enter, entered, kind_of}
use Rattle.ct_machine.specs.Acts.Turns.{Turn, nothing, writes, says, followed}
use Rattle.ct_machine.specs.Acts.Entries.{turned_cause, entering_with, entering}
use Rattle.ct_machine.specs.Acts.Functions.{numbers_of, cutting_all, closing, open_numbers, taking_up, asking}
use Rattle.ct_machine.specs.Acts.Arrivals.{next_number, arriving_at, arriving_here}
use Rattle.ct_machine.specs.Acts.Messages.{taking_in, coming_in, coming_to_a, coming_to_b, delivering_first}
use Rattle.ct_machine.specs.Acts.Messages.{messages_to}
use Rattle.ct_machine.specs.Runs.{replay, IsRun}
use Rattle.ct_machine.specs.Laws.Journals.{has, is_entry, is_enter}
use Rattle.ct_law.proofs.Inv.{told, replied}
use Rattle.ct_law.proofs.Journals.Journal.{has_stays, has_now}
use Rattle.ct_law.proofs.Journals.Growing.{numbered_older, numbered_last}
use Rattle.ct_law.proofs.Lists.Messages.{is_arrival, push_sent, push_last}
use Rattle.ct_law.proofs.Walks.Walk.{found_open}
use Rattle.ct_law.proofs.Events.Steps.{came_with}
use Rattle.ct_law.proofs.Events.Nodes.{arriving_by, sent_if, after_arrived}
use Rattle.ct_law.proofs.Walks.Comings.{comes_on_its_way, after_a, after_end}
use Rattle.ct_word.specs.declared.names.Room.{Room}
use Rattle.ct_law.proofs.Lists.Messages.{is_end}
use Rattle.ct_law.proofs.Frame.Books.{IsAsk}
use Rattle.ct_law.proofs.Runs.{is_free, Turning, Acting, acts, cuts_all, closes, closes_all, comes_to_b, run_induction}

abbrev pub IsOpenNo : ℕ → List Open → Type 0
IsOpenNo n [] = ⊥
IsOpenNo n (f ∷ fs) = (f.no ≡ n) ⊎ IsOpenNo n fs

abbrev pub IsGiven : ℕ → KeptWork → State → List Logged → Type 0
IsGiven n (work.Cmd c) s journal =
    (has (is_enter n) journal ≡ true) ⊎ ((has (is_entry n) journal ≡ true) ⊎ IsAsk n s.to_a)
IsGiven n (work.Ask ask) s journal = IsOpenNo n s.functions ⊎ ((has (is_entry n) journal ≡ true) ⊎ IsAsk n s.to_a)

abbrev pub Given : State → List Logged → Type 0
Given s journal = (n : ℕ) (a : Arrival) → numbered n s.arrivals ≡ Some a → IsGiven n a.work s journal

-- of all but one number
abbrev GivenBut : ℕ → State → List Logged → Type 0
GivenBut number s journal =
    (n : ℕ) (a : Arrival) → numbered n s.arrivals ≡ Some a → (n ≡ number → ⊥) → IsGiven n a.work s journal

-- a state has the works of another, and all that is open there or on its way
record Keeps (s t : State) : Type 0 where
  arrivals : t.arrivals ≡ s.arrivals
  asks : (n : ℕ) → IsAsk n s.to_a → IsAsk n t.to_a
  functions : (n : ℕ) → IsOpenNo n s.functions → IsOpenNo n t.functions

same : (s t : State) → t.arrivals ≡ s.arrivals → t.to_a ≡ s.to_a → t.functions ≡ s.functions → Keeps s t
same s t a b c = record {
  arrivals = a;
  asks = λ n k. subst (IsAsk n) (sym b) k;
  functions = λ n k. subst (IsOpenNo n)
      (sym c) k;
}

same_answered : (k : Kind2) (n : ℕ) (s t : State) → Keeps s t → Keeps s (answered k n t)
same_answered k n s t h = go (came_remote (arrival_of n t))
  where
    go : (b : Bool) → Keeps s (to_b_if b (message k n) t)
    go true = record { arrivals = h.arrivals; asks = h.asks; functions = h.functions }
    go false = h

open_noted : (by number : ℕ) (fs : List Open) (n : ℕ) → IsOpenNo n fs → IsOpenNo n (noted by number fs)
open_noted by number [] n k = k
open_noted by number (f ∷ fs) n (inr k) = inr (open_noted by number fs n k)
open_noted by number (f ∷ fs) n (inl k) = go (nat_eq f.no by)
  where
    go : (t : Bool) → (cond t (record f { cut = f.cut ++ number ∷ [] }) f).no ≡ n ⊎ IsOpenNo n (noted by number fs)
    go true = inl k
    go false = inl k

open_with : (p : Open) (fs : List Open) (n : ℕ) → IsOpenNo n fs → IsOpenNo n (with_function p fs)
open_with p [] n k = absurd k
open_with p (f ∷ fs) n k = go (nat_lt p.no f.no) k (open_with p fs n)
  where
    go : (t : Bool) → IsOpenNo n (f ∷ fs) → (IsOpenNo n fs → IsOpenNo n (with_function p fs)) →
        IsOpenNo n (cond t (p ∷ f ∷ fs) (f ∷ with_function p fs))
    go true k rec = inr k
    go false (inl k) rec = inl k
    go false (inr k) rec = inr (rec k)

with_itself : (p : Open) (fs : List Open) → IsOpenNo p.no (with_function p fs)
with_itself p [] = inl refl
with_itself p (f ∷ fs) = go (nat_lt p.no f.no) (with_itself p fs)
  where
    go : (t : Bool) → IsOpenNo p.no (with_function p fs) → IsOpenNo p.no (cond t (p ∷ f ∷ fs) (f ∷ with_function p fs))
    go true k = inl refl
    go false k = inr k

open_without : (number : ℕ) (fs : List Open) (n : ℕ) → (n ≡ number → ⊥) → IsOpenNo n fs →
    IsOpenNo n (without_function number fs)
open_without number [] n ne k = k
open_without number (f ∷ fs) n ne k = go (nat_eq f.no number) refl k (open_without number fs n ne)
  where
    go : (t : Bool) → nat_eq f.no number ≡ t → IsOpenNo n (f ∷ fs) →
        (IsOpenNo n fs → IsOpenNo n (without_function number fs)) →
        IsOpenNo n (cond t (without_function number fs) (f ∷ without_function number fs))
    go true e (inl k) rec = absurd (ne (sym k ∙ eqb-true f.no number e))
    go true e (inr k) rec = rec k
    go false e (inl k) rec = inl k
    go false e (inr k) rec = inr (rec k)

open_map : (number : ℕ) (fs : List Open) (n : ℕ) → IsOpenNo n fs → IsOpenNo n (map (awaits_no_more number) fs)
open_map number [] n k = k
open_map number (f ∷ fs) n (inl k) = inl k
open_map number (f ∷ fs) n (inr k) = inr (open_map number fs n k)

pushed : (s t : State) (m : Message) → t.arrivals ≡ s.arrivals → t.to_a ≡ s.to_a ++ m ∷ [] →
    ((n : ℕ) → IsOpenNo n s.functions → IsOpenNo n t.functions) → Keeps s t
pushed s t m a b c = record {
  arrivals = a;
  asks = λ n k. subst (IsAsk n) (sym b)
      (push_sent is_arrival n s.to_a m k);
  functions = c;
}

ended_keeps : (stage : Stage) (x : Task) (s : State) → Keeps s (ended_at stage x s)
ended_keeps Waiting x s = let k = same_answered kind.Reply x.no s _ (same s _ refl refl refl) in
    record { arrivals = k.arrivals; asks = k.asks; functions = k.functions }
ended_keeps (Here d g) x s = same_answered kind.Reply x.no s _ (same s _ refl refl refl)
ended_keeps Granted x s = same_answered kind.Reply x.no s _ (same s _ refl refl refl)
ended_keeps (There d g) x s = pushed s _ (message kind.Finish x.no) refl refl (λ n k. k)
ended_keeps Over x s = same_answered kind.Reply x.no s _ (same s _ refl refl refl)

noted_keeps : (by : ℕ) (x : Task) (s t : State) → t.arrivals ≡ s.arrivals → t.to_a ≡ s.to_a →
    t.functions ≡ noted by x.no s.functions → Keeps s t
noted_keeps by x s t a b c = record {
  arrivals = a;
  asks = λ n k. subst (IsAsk n) (sym b) k;
  functions = λ n k. subst
      (IsOpenNo n) (sym c) (open_noted by x.no s.functions n k);
}

cut_keeps : (why : Why) (stage : Stage) (x : Task) (s : State) → Keeps s (cut_at why stage x s)
cut_keeps (By by) Waiting x s = noted_keeps by x s _ refl refl refl
cut_keeps (By by) (Here d g) x s = noted_keeps by x s _ refl refl refl
cut_keeps (By by) Granted x s = noted_keeps by x s _ refl refl refl
cut_keeps (By by) (There d g) x s =
    pushed s _ (message kind.Stopped x.no) refl refl (λ n k. open_noted by x.no s.functions n k)
cut_keeps (By by) Over x s = noted_keeps by x s _ refl refl refl
cut_keeps Medium Waiting x s = same_answered kind.Reply x.no s _ (same s _ refl refl refl)
cut_keeps Medium (Here d g) x s = same_answered kind.Reply x.no s _ (same s _ refl refl refl)
cut_keeps Medium Granted x s = same_answered kind.Reply x.no s _ (same s _ refl refl refl)
cut_keeps Medium (There d g) x s = pushed s _ (message kind.Finish x.no) refl refl (λ n k. k)
cut_keeps Medium Over x s = same_answered kind.Reply x.no s _ (same s _ refl refl refl)

staged_keeps : (stage : Stage) (found : Option Task) (s : State) → Keeps s (staged stage found s)
staged_keeps stage None s = same s s refl refl refl
staged_keeps stage (Some x) s = same s _ refl refl refl

moved_keeps : (stage : Stage) (x : Task) (count : ℕ) (s : State) → Keeps s (moved_at stage x count s)
moved_keeps Waiting x count s = same s _ refl refl refl
moved_keeps (Here d g) x count s = same s _ refl refl refl
moved_keeps Granted x count s = same s _ refl refl refl
moved_keeps (There d g) x count s = same s _ refl refl refl
moved_keeps Over x count s = same s _ refl refl refl

asked_keeps : (n : ℕ) (w : KeptWork) (s : State) → Keeps s (asked_for n w s)
asked_keeps n (work.Cmd c) s = same s s refl refl refl
asked_keeps n (work.Ask ask) s = record {
  arrivals = refl;
  asks = λ m k. k;
  functions = λ m k. open_with
      (record { no = n; ask = ask; awaits = awaited_by ask s.tasks; cut = [] }) s.functions m k;
}

abbrev is_closing : Event → Bool
is_closing (event.Closed number outcome) = true
is_closing _ = false

-- a free event that closes nothing
free_keeps : (s : State) (l : Logged) → is_free l.event ≡ true → is_closing l.event ≡ false → Keeps s (after s l)
unfolding after
free_keeps s l e c = go l.event e c
  where
    ends : (found : Option Task) → Keeps s (after_ended found s)
    ends None = same s s refl refl refl
    ends (Some x) = ended_keeps x.stage x s

    cuts : (why : Why) (found : Option Task) → Keeps s (after_cut why found s)
    cuts why None = same s s refl refl refl
    cuts why (Some x) = cut_keeps why x.stage x s

    moves : (count : ℕ) (found : Option Task) → Keeps s (after_moved found count s)
    moves count None = same s s refl refl refl
    moves count (Some x) = moved_keeps x.stage x count s

    asks : (n : ℕ) (found : Option Arrival) → Keeps s (after_asked n found s)
    asks n None = same s s refl refl refl
    asks n (Some a) = asked_keeps n a.work s

    go : (happened : Event) → is_free happened ≡ true → is_closing happened ≡ false →
        Keeps s (after s (record l { event = happened }))
    go (event.Came number node line) e c = absurd (cc)
    go (event.Enter number) e c = absurd (cc)
    go (event.Deliver node kind number) e c = absurd (cc)
    go (event.Closed number outcome) e c = absurd (cc)
    go (event.Turned number) e c = same_answered kind.Reply number s s (same s s refl refl refl)
    go (event.Begun number) e c = staged_keeps (Here 0 []) (task_of number s.tasks) s
    go (event.Granted number) e c = let k = staged_keeps Granted (task_of number s.tasks) s in
        record { arrivals = k.arrivals; asks = k.asks; functions = k.functions }
    go (event.Moved number count) e c = moves count (task_of number s.tasks)
    go (event.Ended number) e c = ends (task_of number s.tasks)
    go (event.Cut number puts why told) e c = cuts why (task_of number s.tasks)
    go (event.Asked number) e c = asks number (arrival_of number s)

-- what was given stays so
kept : (n : ℕ) (w : KeptWork) (s t : State) (journal : List Logged) (l : Logged) → Keeps s t → IsGiven n w s journal →
    IsGiven n w t (journal ++ l ∷ [])
kept n (work.Cmd c) s t journal l k (inl h) = inl (has_stays (is_enter n) journal l h)
kept n (work.Cmd c) s t journal l k (inr (inl h)) = inr (inl (has_stays (is_entry n) journal l h))
kept n (work.Cmd c) s t journal l k (inr (inr h)) = inr (inr (k.asks n h))
kept n (work.Ask ask) s t journal l k (inl h) = inl (k.functions n h)
kept n (work.Ask ask) s t journal l k (inr (inl h)) = inr (inl (has_stays (is_entry n) journal l h))
kept n (work.Ask ask) s t journal l k (inr (inr h)) = inr (inr (k.asks n h))

-- one that has its entry now
entered_now : (n : ℕ) (w : KeptWork) (s : State) (journal : List Logged) → has (is_entry n) journal ≡ true →
    IsGiven n w s journal
entered_now n (work.Cmd c) s journal e = inr (inl e)
entered_now n (work.Ask ask) s journal e = inr (inl e)

abbrev Q : State → Turn → Type 0
Q s t = (journal : List Logged) → Given s journal → Given t.state (journal ++ t.journal)

-- a function closes: it has its entry, and the others stay open
abbrev Shut : ℕ → State → State → Type 0
Shut number s t = (t.arrivals ≡ s.arrivals) × (t.to_a ≡ s.to_a)
    × ((n : ℕ) → (n ≡ number → ⊥) → IsOpenNo n s.functions → IsOpenNo n t.functions)

shut : (number : ℕ) (s : State) (l : Logged) (happened : Event) → happened ≡ l.event →
    (is_closing happened ≡ true) × (is_entry number happened ≡ true) → Shut number s (after s l)
unfolding after
shut number s l (event.Closed n outcome) e c = ap_shut e
  where
    found : (f : Option Open) → ((g : Open) → f ≡ Some g → g.no ≡ n) →
        Shut number s (answered kind.Response n (closed f s))
    found None k = by (came_remote (arrival_of n (closed None s)))
      where
        by : (b : Bool) → Shut number s (to_b_if b (message kind.Response n) s)
        by true = (refl, refl, λ m ne h. h)
        by false = (refl, refl, λ m ne h. h)
    found (Some g) k = by (came_remote (arrival_of n (closed (Some g) s)))
      where
        less : (m : ℕ) → (m ≡ number → ⊥) → IsOpenNo m s.functions → IsOpenNo m (without_function g.no s.functions)
        less m ne h = open_without g.no s.functions m (λ i. ne (i ∙ k g refl ∙ eqb-true n number c.1)) h

        by : (b : Bool) → Shut number s (to_b_if b (message kind.Response n) (closed (Some g) s))
        by true = (refl, refl, less)
        by false = (refl, refl, less)

    ap_shut : event.Closed n outcome ≡ l.event → Shut number s (after s l)
    ap_shut i =
        subst (λ (h : Event). Shut number s (after s (record l { event = h }))) i
        (found (function_of n s.functions) (λ g h. (found_open n s.functions g h).1))
shut number s l (event.Came n node line) e c = absurd (cc)
shut number s l (event.Enter n) e c = absurd (cc)
shut number s l (event.Turned n) e c = absurd (cc)
shut number s l (event.Begun n) e c = absurd (cc)
shut number s l (event.Granted n) e c = absurd (cc)
shut number s l (event.Moved n count) e c = absurd (cc)
shut number s l (event.Ended n) e c = absurd (cc)
shut number s l (event.Cut n puts why told) e c = absurd (cc)
shut number s l (event.Asked n) e c = absurd (cc)
shut number s l (event.Deliver node kind n) e c = absurd (cc)

-- a work that was given stays so where a function closes
kept_shut : (n number : ℕ) (w : KeptWork) (s t : State) (journal : List Logged) (l : Logged) → Shut number s t →
    is_entry number l.event ≡ true → IsGiven n w s journal → IsGiven n w t (journal ++ l ∷ [])
kept_shut n number w s t journal l k e h = ⊎_elim
    (λ (i : n ≡ number). entered_now n w t (journal ++ l ∷ [])
    (subst (λ m. has (is_entry m) (journal ++ l ∷ []) ≡ true) (sym i) (has_now (is_entry number) journal l e)))
    (λ (ne : n ≡ number → ⊥). go w ne h)
    (cases_eq n number)
  where
    go : (v : KeptWork) → (n ≡ number → ⊥) → IsGiven n v s journal → IsGiven n v t (journal ++ l ∷ [])
    go (work.Cmd c) ne (inl i) = inl (has_stays (is_enter n) journal l i)
    go (work.Cmd c) ne (inr (inl i)) = inr (inl (has_stays (is_entry n) journal l i))
    go (work.Cmd c) ne (inr (inr i)) = inr (inr (subst (IsAsk n) (sym k.1) i))
    go (work.Ask ask) ne (inl i) = inl (k.2 n ne i)
    go (work.Ask ask) ne (inr (inl i)) = inr (inl (has_stays (is_entry n) journal l i))
    go (work.Ask ask) ne (inr (inr i)) = inr (inr (subst (IsAsk n) (sym k.1) i))

closed_no : (happened : Event) → is_closing happened ≡ true → (number : ℕ) × (is_entry number happened ≡ true)
closed_no (event.Closed n outcome) e = (n, eq-eqb n n refl)
closed_no (event.Came n node line) e = absurd (cc)
closed_no (event.Enter n) e = absurd (cc)
closed_no (event.Turned n) e = absurd (cc)
closed_no (event.Begun n) e = absurd (cc)
closed_no (event.Granted n) e = absurd (cc)
closed_no (event.Moved n count) e = absurd (cc)
closed_no (event.Ended n) e = absurd (cc)
closed_no (event.Cut n puts why told) e = absurd (cc)
closed_no (event.Asked n) e = absurd (cc)
closed_no (event.Deliver node kind n) e = absurd (cc)

one_given : (s : State) (l : Logged) → is_free l.event ≡ true → Q s (writes l s)
one_given s l free journal h = go (is_closing l.event) refl
  where
    go : (t : Bool) → is_closing l.event ≡ t → Given (after s l) (journal ++ l ∷ [])
    go true e n a at =
        let number = closed_no l.event e in
        let k = shut number.0 s l l.event refl (e, number.1) in
        kept_shut n number.0 a.work s (after s l) journal l k number.1 (h n a (ap (numbered n) (sym k.0) ∙ at))
    go false e n a at =
        let k = free_keeps s l free e in
        kept n a.work s (after s l) journal l k (h n a (ap (numbered n) (sym k.arrivals) ∙ at))

both_given : (s : State) (t : Turn) (next : State → Turn) → Q s t → Q t.state (next t.state) → Q s (followed t next)
both_given s t next a b journal h =
    subst (λ j. Given (next t.state).state j) (append_assoc journal t.journal (next t.state).journal)
    (b (journal ++ t.journal) (a journal h))

given_turning : Turning Q
given_turning = record {
  none = λ s journal h. subst (λ j. Given s j)
      (sym (append-nil journal)) h;
  one = one_given;
  both = both_given;
}

-- the one that came is entered or taken up

entered_keeps : (n : ℕ) (node : Node) (w : KeptWork) (s : State) → Keeps s (entered n node w s)
entered_keeps n node (work.Cmd c) s = same s _ refl refl refl
entered_keeps n node (work.Ask ask) s = same s s refl refl refl

enter_keeps : (n : ℕ) (s : State) → Keeps s (after s (told (event.Enter n)))
unfolding after
enter_keeps n s = go (arrival_of n s)
  where
    go : (found : Option Arrival) → Keeps s (after_enter n found s)
    go None = same s s refl refl refl
    go (Some a) = entered_keeps n a.node a.work s

asked_opens : (n : ℕ) (ask : Ask) (node : Node) (s : State) →
    numbered n s.arrivals ≡ Some (record { node = node; work = work.Ask ask }) →
    IsOpenNo n (after s (told (event.Asked n))).functions
unfolding after
asked_opens n ask node s came =
    subst (λ (found : Option Arrival). IsOpenNo n (after_asked n found s).functions) (sym came)
    (with_itself (record { no = n; ask = ask; awaits = awaited_by ask s.tasks; cut = [] }) s.functions)

enters_given : (n : ℕ) (c : Command) (node : Node) (s : State) (journal : List Logged) →
    numbered n s.arrivals ≡ Some (record { node = node; work = work.Cmd c }) → GivenBut n s journal →
    Given (entering n c s).state (journal ++ (entering n c s).journal)
enters_given n c node s journal came h = go (turned_cause s c)
  where
    entry : (reply : Reply) → Given (after s (replied (event.Turned n) reply))
        (journal ++ replied (event.Turned n) reply ∷ [])
    entry reply m a at = ⊎_elim
        (λ (i : m ≡ n). entered_now m a.work _ (journal ++ l ∷ [])
        (subst (λ j. has (is_entry j) (journal ++ l ∷ []) ≡ true) (sym i)
        (has_now (is_entry n) journal l (eq-eqb n n refl))))
        (λ (ne : m ≡ n → ⊥). let k = free_keeps s l refl refl in
        kept m a.work s (after s l) journal l k (h m a (ap (numbered m) (sym k.arrivals) ∙ at) ne))
        (cases_eq m n)
      where
        l : Logged
        l = replied (event.Turned n) reply

    enter : Given (after s (told (event.Enter n))) (journal ++ told (event.Enter n) ∷ [])
    enter m a at = ⊎_elim
        (λ (i : m ≡ n). command m i a (ap (numbered m) (sym k.arrivals) ∙ at))
        (λ (ne : m ≡ n → ⊥). kept m a.work s (after s l) journal l k (h m a (ap (numbered m) (sym k.arrivals) ∙ at) ne))
        (cases_eq m n)
      where
        l : Logged
        l = told (event.Enter n)

        k : Keeps s (after s l)
        k = enter_keeps n s

        now : has (is_enter n) (journal ++ l ∷ []) ≡ true
        now = has_now (is_enter n) journal l (eq-eqb n n refl)

        command : (m : ℕ) → m ≡ n → (a : Arrival) → numbered m s.arrivals ≡ Some a →
            IsGiven m a.work (after s l) (journal ++ l ∷ [])
        command m i a at =
            let z : a ≡ record { node = node; work = work.Cmd c } =
            same_Some a _ (sym at ∙ ap (λ j. numbered j s.arrivals) i ∙ came) in
            subst (λ (b : Arrival). IsGiven m b.work (after s l) (journal ++ l ∷ [])) (sym z)
            (inl (subst (λ j. has (is_enter j) (journal ++ l ∷ []) ≡ true) (sym i) now))

    go : (cause : Option Reply) → Given (entering_with cause n s).state (journal ++ (entering_with cause n s).journal)
    go (Some reply) = entry reply
    go None = enter

asks_given : (n : ℕ) (ask : Ask) (node : Node) (s : State) (journal : List Logged) →
    numbered n s.arrivals ≡ Some (record { node = node; work = work.Ask ask }) → GivenBut n s journal →
    Given (asking n ask s).state (journal ++ (asking n ask s).journal)
asks_given n ask node s journal came h = go (nat_le MOST_FUNCTIONS (length s.functions))
  where
    rejected : Given (after s (told (event.Closed n Rejected))) (journal ++ told (event.Closed n Rejected) ∷ [])
    rejected m a at = ⊎_elim
        (λ (i : m ≡ n). entered_now m a.work _ (journal ++ l ∷ [])
        (subst (λ j. has (is_entry j) (journal ++ l ∷ []) ≡ true) (sym i) entry))
        (λ (ne : m ≡ n → ⊥). kept_shut m n a.work s (after s l) journal l k (eq-eqb n n refl)
        (h m a (ap (numbered m) (sym k.0) ∙ at) ne))
        (cases_eq m n)
      where
        l : Logged
        l = told (event.Closed n Rejected)

        k : Shut n s (after s l)
        k = shut n s l l.event refl (refl, eq-eqb n n refl)

        entry : has (is_entry n) (journal ++ l ∷ []) ≡ true
        entry = has_now (is_entry n) journal l (eq-eqb n n refl)

    l : Logged
    l = told (event.Asked n)

    first : Turn
    first = says (event.Asked n) s

    k : Keeps s (after s l)
    k = free_keeps s l refl refl

    taken : Given (after s l) (journal ++ l ∷ [])
    taken m a at = ⊎_elim
        (λ (i : m ≡ n).
        let z : a ≡ record { node = node; work = work.Ask ask } =
        same_Some a _ (sym at ∙ ap (numbered m) k.arrivals ∙ ap (λ j. numbered j s.arrivals) i ∙ came) in
        subst (λ (b : Arrival). IsGiven m b.work (after s l) (journal ++ l ∷ [])) (sym z)
        (inl (subst (λ j. IsOpenNo j (after s l).functions) (sym i) (asked_opens n ask node s came))))
        (λ (ne : m ≡ n → ⊥). kept m a.work s (after s l) journal l k (h m a (ap (numbered m) (sym k.arrivals) ∙ at) ne))
        (cases_eq m n)

    cuts : State → Turn
    cuts = λ asked. cutting_all n ask (numbers_of s.tasks) asked

    two : Turn
    two = followed first cuts

    behind : Given two.state (journal ++ two.journal)
    behind =
        subst (λ j. Given two.state j) (append_assoc journal first.journal (cuts first.state).journal)
        (cuts_all Q given_turning n ask (numbers_of s.tasks) first.state (journal ++ l ∷ []) taken)

    all : Given (taking_up n ask s).state (journal ++ (taking_up n ask s).journal)
    all = subst (λ j. Given (taking_up n ask s).state j)
        (append_assoc journal two.journal (closing (function_of n two.state.functions) two.state).journal)
        (closes Q given_turning (function_of n two.state.functions) two.state (journal ++ two.journal) behind)

    go : (t : Bool) → Given (cond t (says (event.Closed n Rejected) s) (taking_up n ask s)).state
        (journal ++ (cond t (says (event.Closed n Rejected) s) (taking_up n ask s)).journal)
    go true = rejected
    go false = all

-- Works and messages come

came_keeps : (node : Node) (w : KeptWork) (s : State) (a : Arrival) (room : Room) (n : ℕ) → IsAsk n s.to_a →
    IsAsk n (came_with s a room (sent_if (is_remote node) (next_number s) w s.to_a)).to_a
came_keeps node w s a room n k = go (is_remote node)
  where
    go : (t : Bool) → IsAsk n (sent_if t (next_number s) w s.to_a)
    go false = k
    go true = push_sent is_arrival n s.to_a (message (kind_of w) (next_number s)) k

-- what was given stays so where the works, what is on its way and what is open stay
kept_with : (n : ℕ) (w : KeptWork) (s t : State) (journal : List Logged) (l : Logged) →
    (IsAsk n s.to_a → IsAsk n t.to_a) → (IsOpenNo n s.functions → IsOpenNo n t.functions) → IsGiven n w s journal →
    IsGiven n w t (journal ++ l ∷ [])
kept_with n (work.Cmd c) s t journal l f g (inl h) = inl (has_stays (is_enter n) journal l h)
kept_with n (work.Cmd c) s t journal l f g (inr (inl h)) = inr (inl (has_stays (is_entry n) journal l h))
kept_with n (work.Cmd c) s t journal l f g (inr (inr h)) = inr (inr (f h))
kept_with n (work.Ask ask) s t journal l f g (inl h) = inl (g h)
kept_with n (work.Ask ask) s t journal l f g (inr (inl h)) = inr (inl (has_stays (is_entry n) journal l h))
kept_with n (work.Ask ask) s t journal l f g (inr (inr h)) = inr (inr (f h))

-- one on its way
sent_given : (n : ℕ) (w : KeptWork) (s : State) (journal : List Logged) → IsAsk n s.to_a → IsGiven n w s journal
sent_given n (work.Cmd c) s journal k = inr (inr k)
sent_given n (work.Ask ask) s journal k = inr (inr k)

-- behind a work that came, all but this one is given, and this one too where it came at the other node
record Came_given (node : Node) (w : KeptWork) (s : State) (journal : List Logged) : Type 0 where
  but : GivenBut (next_number s) (after s (arrived (next_number s) node w))
      (journal ++ arrived (next_number s) node w ∷ [])
  came : numbered (next_number s) (after s (arrived (next_number s) node w)).arrivals ≡ Some
      (record { node = node; work = w })
  sent : is_remote node ≡ true → IsAsk (next_number s) (after s (arrived (next_number s) node w)).to_a

came_given : (node : Node) (w : KeptWork) (s : State) (journal : List Logged) → Given s journal →
    Came_given node w s journal
came_given node w s journal h = record {
  but = λ n a at ne. subst (λ (q : State). IsGiven n a.work q (journal ++ e ∷ [])) (sym state)
      (kept_with n a.work s t journal e (came_keeps node w s arrival k.0 n) (λ z. z)
      (h n a (numbered_older n s.arrivals arrival a (ap (λ (q : State). numbered n q.arrivals) (sym state) ∙ at) ne)));
  came = ap (λ (q : State). numbered (next_number s) q.arrivals) state ∙ numbered_last
      (next_number s) s.arrivals arrival refl;
  sent = λ b. subst (λ (q : State). IsAsk (next_number s) q.to_a) (sym state)
      (subst (λ i. IsAsk (next_number s) (sent_if i (next_number s) w s.to_a)) (sym b)
      (push_last is_arrival s.to_a (message (kind_of w) (next_number s)) (comes_on_its_way w)));
}
  where
    e : Logged
    e = arrived (next_number s) node w

    arrival : Arrival
    arrival = record { node = node; work = w }

    k : (room : Room) × (after s e ≡ came_with s arrival room (sent_if (is_remote node) (next_number s) w s.to_a))
    k = after_arrived (next_number s) node w s

    t : State
    t = came_with s arrival k.0 (sent_if (is_remote node) (next_number s) w s.to_a)

    state : after s e ≡ t
    state = k.1

sent_on : (s : State) (node : Node) (w : KeptWork) → is_remote node ≡ true →
    Q s (writes (arrived (next_number s) node w) s)
sent_on s node w there journal h n a at =
    let e : Logged = arrived (next_number s) node w in
    let k = came_given node w s journal h in
    ⊎_elim
    (λ (i : n ≡ next_number s). sent_given n a.work (after s e) (journal ++ e ∷ [])
    (subst (λ j. IsAsk j (after s e).to_a) (sym i) (k.sent there)))
    (λ (ne : n ≡ next_number s → ⊥). k.but n a at ne)
    (cases_eq n (next_number s))

arrives_given : (s : State) (node : Node) (w : KeptWork) → Q s (arriving_at node w (next_number s) s).turn
arrives_given s node w = arriving_by (Q s) node w n s (sent_on s node w) (taken w)
  where
    n : ℕ
    n = next_number s

    taken : (w : KeptWork) → is_remote node ≡ false → Q s (arriving_here node w n s).turn
    taken (work.Cmd c) here journal h =
        let first : Turn = writes (arrived n node (work.Cmd c)) s in
        let k = came_given node (work.Cmd c) s journal h in
        subst (λ j. Given (entering n c first.state).state j)
        (append_assoc journal first.journal (entering n c first.state).journal)
        (enters_given n c node first.state (journal ++ first.journal) k.came k.but)
    taken (work.Ask ask) here journal h =
        let first : Turn = writes (arrived n node (work.Ask ask)) s in
        let k = came_given node (work.Ask ask) s journal h in
        subst (λ j. Given (asking n ask first.state).state j)
        (append_assoc journal first.journal (asking n ask first.state).journal)
        (asks_given n ask node first.state (journal ++ first.journal) k.came k.but)

-- the first message to A is delivered
delivers_a : (s : State) (m : Message) (ms : List Message) → s.to_a ≡ m ∷ ms → Q s (delivering_first A (m ∷ ms) s).turn
delivers_a s m ms to journal h =
    subst (λ j. Given (coming_to_a m.kind m t).state j) (append_assoc journal (e ∷ []) (coming_to_a m.kind m t).journal)
    (go m.kind refl)
  where
    e : Logged
    e = told (event.Deliver A m.kind m.no)

    t : State
    t = after s e

    less : (n : ℕ) → (is_arrival m.kind ≡ true → n ≡ m.no → ⊥) → IsAsk n s.to_a → IsAsk n ms
    less n ne k =
        ⊎_elim (λ (i : (is_arrival m.kind ≡ true) × (m.no ≡ n)). absurd (ne i.0 (sym i.1))) (λ (i : IsAsk n ms). i)
        (subst (IsAsk n) to k)

    Popped : Type 0
    Popped = (t.arrivals ≡ s.arrivals) × ((n : ℕ) → IsAsk n ms → IsAsk n t.to_a)
        × ((n : ℕ) → IsOpenNo n s.functions → IsOpenNo n t.functions)

    popped : (b : Bool) → is_end m.kind ≡ b → Popped
    popped false b = let k = after_a m.kind m.no m ms s b to in (
      ap (λ (q : State). q.arrivals) k,
      λ n i. subst (λ (q : State). IsAsk n q.to_a) (sym k) i,
      λ n i. subst
          (λ (q : State). IsOpenNo n q.functions) (sym k) i,
    )
    popped true b = let k = after_end m.kind m.no m ms s b to in (
      ap (λ (q : State). q.arrivals) k,
      λ n i. subst (λ (q : State). IsAsk n q.to_a) (sym k) i,
      λ n i. subst
          (λ (q : State). IsOpenNo n q.functions) (sym k) (open_map m.no s.functions n i),
    )

    p : Popped
    p = popped (is_end m.kind) refl

    stays : (n : ℕ) (a : Arrival) → numbered n t.arrivals ≡ Some a → (is_arrival m.kind ≡ true → n ≡ m.no → ⊥) →
        IsGiven n a.work t (journal ++ e ∷ [])
    stays n a at ne =
        kept_with n a.work s t journal e (λ i. p.1 n (less n ne i)) (p.2 n) (h n a (ap (numbered n) (sym p.0) ∙ at))

    all : is_arrival m.kind ≡ false → Given t (journal ++ e ∷ [])
    all no_work n a at = stays n a at (λ i j. both_ways (is_arrival m.kind) no_work i)

    quietly : is_arrival m.kind ≡ false → Given (nothing t).state ((journal ++ e ∷ []) ++ (nothing t).journal)
    quietly no_work = given_turning.none t (journal ++ e ∷ []) (all no_work)

    takes : (found : Option Arrival) → arrival_of m.no t ≡ found →
        Given (coming_in m.no found t).state ((journal ++ e ∷ []) ++ (coming_in m.no found t).journal)
    takes None f =
        given_turning.none t (journal ++ e ∷ [])
        (λ n a at. stays n a at (λ i j. let z : Some a ≡ None = sym at ∙ ap (λ k. numbered k t.arrivals) j ∙ f in cc))
    takes (Some b) f = by b.work refl
      where
        but : GivenBut m.no t (journal ++ e ∷ [])
        but n a at ne = stays n a at (λ i j. ne j)

        by : (w : KeptWork) → b.work ≡ w → Given (taking_in m.no w t).state
            ((journal ++ e ∷ []) ++ (taking_in m.no w t).journal)
        by (work.Cmd c) k =
            enters_given m.no c b.node t (journal ++ e ∷ [])
            (f ∙ ap (λ w. Some (record { node = b.node; work = w })) k) but
        by (work.Ask ask) k =
            asks_given m.no ask b.node t (journal ++ e ∷ [])
            (f ∙ ap (λ w. Some (record { node = b.node; work = w })) k) but

    go : (k : Kind2) → m.kind ≡ k → Given (coming_to_a k m t).state ((journal ++ e ∷ []) ++ (coming_to_a k m t).journal)
    go kind.Ask k = takes (arrival_of m.no t) refl
    go kind.Function k = takes (arrival_of m.no t) refl
    go kind.Finish k = closes_all Q given_turning (open_numbers t) t (journal ++ e ∷ []) (all (ap is_arrival k))
    go kind.Stopped k = closes_all Q given_turning (open_numbers t) t (journal ++ e ∷ []) (all (ap is_arrival k))
    go kind.Grant k = quietly (ap is_arrival k)
    go kind.Stop k = quietly (ap is_arrival k)
    go kind.Reply k = quietly (ap is_arrival k)
    go kind.Response k = quietly (ap is_arrival k)

begun_keeps : (stage : Stage) (x : Task) (s : State) → Keeps s (begun_at_b stage x s)
begun_keeps Waiting x s = same s s refl refl refl
begun_keeps (Here d g) x s = same s s refl refl refl
begun_keeps Granted x s = same s _ refl refl refl
begun_keeps (There d g) x s = same s s refl refl refl
begun_keeps Over x s = same s s refl refl refl

granted_keeps : (found : Option Task) (s : State) → Keeps s (after_grant found s)
granted_keeps None s = same s s refl refl refl
granted_keeps (Some x) s = begun_keeps x.stage x s

-- a message to B leaves what is given
delivered_b : (k : Kind2) (n : ℕ) (s : State) → Keeps s (after s (told (event.Deliver B k n)))
unfolding after
delivered_b kind.Grant n s = let k = granted_keeps (task_of n s.tasks) (record s { to_b = drop 1 s.to_b }) in
    record { arrivals = k.arrivals; asks = k.asks; functions = k.functions }
delivered_b kind.Ask n s = same s _ refl refl refl
delivered_b kind.Function n s = same s _ refl refl refl
delivered_b kind.Finish n s = same s _ refl refl refl
delivered_b kind.Stopped n s = same s _ refl refl refl
delivered_b kind.Stop n s = same s _ refl refl refl
delivered_b kind.Reply n s = same s _ refl refl refl
delivered_b kind.Response n s = same s _ refl refl refl

delivers_b : (s : State) (m : Message) (ms : List Message) → Q s (delivering_first B (m ∷ ms) s).turn
delivers_b s m ms journal h =
    subst (λ j. Given (coming_to_b m.kind m t).state j) (append_assoc journal (e ∷ []) (coming_to_b m.kind m t).journal)
    (comes_to_b Q given_turning m.kind m t (journal ++ e ∷ []) all)
  where
    e : Logged
    e = told (event.Deliver B m.kind m.no)

    t : State
    t = after s e

    k : Keeps s t
    k = delivered_b m.kind m.no s

    all : Given t (journal ++ e ∷ [])
    all n a at = kept n a.work s t journal e k (h n a (ap (numbered n) (sym k.arrivals) ∙ at))

given_acting : Acting Q
given_acting = record { turning = given_turning; came = λ s node w room. arrives_given s node w; come = come }
  where
    come : (s : State) (node : Node) (m : Message) (ms : List Message) → messages_to node s ≡ m ∷ ms →
        Q s (delivering_first node (m ∷ ms) s).turn
    come s A m ms to = delivers_a s m ms to
    come s B m ms to = delivers_b s m ms

-- in every run
pub given_run : (o : Opening) (journal : List Logged) → IsRun o journal → Given (replay o journal) journal
given_run o =
    run_induction o Given (λ n a at. absurd (none_numbered n a at))
    (λ s journal a fault allowed h. acts Q given_acting s a fault journal h)
  where
    none_numbered : (n : ℕ) (a : Arrival) → numbered n (opened o).arrivals ≡ Some a → ⊥
    none_numbered zero a at = cc
    none_numbered (suc n) a at = cc
