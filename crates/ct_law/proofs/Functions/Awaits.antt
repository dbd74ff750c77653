-- An open function awaits commands of which a message is on its way.
use Rattle.std.proofs.Common.{◌≡◌, ℕ, zero, suc, ◌+◌, ◌⊎◌, inl, inr, Bool, true, false, not, ◌&&◌, ◌||◌, List, [], ◌∷◌}
use Rattle.std.proofs.Common.{◌++◌, Option, Some, None, length, map, take, drop, refl, sym, ap, ◌∙◌, subst, ⊎_elim}
use Rattle.std.proofs.Common.{nat_eq, eqb-true, eq-eqb, cond, arith, append_assoc, append-nil}
use Rattle.std.specs.Prelude.{nat_le, slice_get}
use Rattle.std.specs.List.{filter, list_any}
use Rattle.std.proofs.lemmas.Bool.{both_ways, cases_eq, and_parts, eqb-false}
use Rattle.std.proofs.lemmas.Option.{same_Some}
use Rattle.ct_word.specs.declared.limit.TheConstants.{MOST_FUNCTIONS}
use Rattle.ct_word.specs.declared.names.Node.{Node}
use Rattle.ct_word.specs.declared.names.Node.TheVariants.{A, B}
use Rattle.ct_sense.specs.declared.reply.Reply.{Reply}
use Rattle.ct_tmf.specs.declared.function.Ask.{Ask}
use Rattle.ct_tmf.specs.declared.function.Outcome.{Outcome}
use Rattle.ct_tmf.specs.declared.function.Outcome.TheVariants.{Rejected}
use Rattle.ct_plan.specs.declared.operation.BlockOp.{BlockOp}
use Rattle.ct_plan.specs.Cells.{performed}
use Rattle.ct_plan.specs.Pieces.{tried}
use Rattle.ct_book.specs.declared.work.Command.{Command}
use Rattle.ct_book.specs.declared.work.Work.TheVariants as work
use Rattle.ct_book.specs.declared.event.Event.TheVariants as event
use Rattle.ct_book.specs.declared.event.Kind2.{Kind2}
use Rattle.ct_book.specs.declared.event.Kind2.TheVariants as kind
use Rattle.ct_book.specs.declared.event.Why.{Why}
use Rattle.ct_book.specs.declared.event.Why.TheVariants.{By, Medium}
use Rattle.ct_book.specs.declared.event.Logged.{Logged}
use Rattle.ct_book.specs.Journals.{KeptWork, arrived}
use Rattle.ct_exec.specs.Controls.{tells_aborts}
use Rattle.ct_exec.specs.Executions.{execute, refusal_of, plan_in}
use Rattle.ct_machine.specs.declared.act.Act.{Act}
use Rattle.ct_machine.specs.declared.act.Act.TheVariants as act
use Rattle.ct_machine.specs.declared.act.Answer.TheVariants as answer
use Rattle.ct_machine.specs.declared.act.Opening.{Opening}
use Rattle.ct_machine.specs.States.{Stage, Waiting, Here, Granted, There, Over, Task, Open, Message, Arrival, State}
use Rattle.ct_machine.specs.States.{opened, disk_of, arrival_of, task_of, function_of, is_here, is_waiting, is_moving}
use Rattle.ct_machine.specs.States.{with_task, without_task, at_stage, queued, is_remote}
use Rattle.ct_machine.specs.Events.{after}
use Rattle.ct_machine.specs.Events.Sends.{message, stop, to_b_if, answered, came_remote}
use Rattle.ct_machine.specs.Events.Arrivals.{new_task}
use Rattle.ct_machine.specs.Events.Moves.{staged, cells_after, further, moved_at, after_moved}
use Rattle.ct_machine.specs.Events.Ends.{ended_at, after_ended, noted, cut_at, after_cut, is_cleared}
use Rattle.ct_machine.specs.Events.Functions.{is_hit, is_told, is_awaited, awaited_by, wants_stop, stops_by}
use Rattle.ct_machine.specs.Events.Functions.{with_function, taken_up, without_function, closed}
use Rattle.ct_machine.specs.Events.Deliveries.{awaits_no_more, is_over as gone_at_b}
use Rattle.ct_machine.specs.Acts.Turns.{Turn, nothing, writes, says, replies, followed}
use Rattle.ct_machine.specs.Acts.Entries.{turned_cause, entering_with, entering}
use Rattle.ct_machine.specs.Acts.Functions.{outcome_of, puts_of}
use Rattle.ct_machine.specs.Acts.Functions.{cutting, numbers_of, cutting_all, closing_if, closing, open_numbers}
use Rattle.ct_machine.specs.Acts.Functions.{closing_all, taking_up, asking}
use Rattle.ct_machine.specs.Acts.Moves.{moving_on, failing, failing_if}
use Rattle.ct_machine.specs.Acts.Moves.{moved_to, moving_from}
use Rattle.ct_machine.specs.Acts.Begins.{clearing, clearing_all, ending_at_once, is_granted, beginning_at, beginning}
use Rattle.ct_machine.specs.Acts.Answers.{Done}
use Rattle.ct_machine.specs.Acts.Arrivals.{next_number, has_room_for, arriving_at, arriving_here}
use Rattle.ct_machine.specs.Acts.Steps.{blocked_by, beginning_unless, stepping_at, is_sent, stepping}
use Rattle.ct_machine.specs.Acts.Messages.{taking_in, coming_in, coming_to_a, stopping_at, stopping, coming_to_b}
use Rattle.ct_machine.specs.Acts.Messages.{coming_to, delivering_first, messages_to, delivering}
use Rattle.ct_machine.specs.Acts.Next.{next_step, stepping_next, doing_next}
use Rattle.ct_machine.specs.Acts.{doing}
use Rattle.ct_machine.specs.Runs.{replay, IsRun}
use Rattle.ct_machine.specs.Laws.Journals.{has, is_enter, is_asked}
use Rattle.ct_law.proofs.Lists.Tasks.{Has, has_found, has_without, without_has, has_with, with_has, with_itself}
use Rattle.ct_law.proofs.Lists.Tasks.{has_queued, queued_has}
use Rattle.ct_law.proofs.Journals.Journal.{has_stays, has_now, has_not, Untouched}
use Rattle.ct_law.proofs.Lists.Messages.{is_arrival, is_end, is_grant, is_stop, Sent, append_sent}
use Rattle.ct_law.proofs.Frame.Books.{IsAsk, is_over}
use Rattle.ct_law.proofs.Frame.Opens.{IsIn, HasOpen, has_without_function, has_with_function}
use Rattle.ct_law.proofs.Inv.{told, replied}
use Rattle.ct_law.proofs.Rows.Laws.{Laws}
use Rattle.ct_law.proofs.Walks.Walk.{Now, NoneDue, found_open}
use Rattle.ct_law.proofs.Acts.Sends.{is_given, IsFine, fine_single, fine_act, fine_opened, found_none}
use Rattle.ct_law.proofs.Runs.{run_induction}
use Rattle.ct_law.proofs.Walks.Comings.{acts_so, opened_so, after_a, after_end, is_grant_kind, after_b, after_grant}
use Rattle.ct_law.proofs.Walks.Comings.{after_no_grant}
use Rattle.ct_law.proofs.Functions.Steady.{numbers, Ascending, open_in, noted_numbers, awaits_numbers}
use Rattle.ct_law.proofs.Functions.Steady.{ascending_without, ascending_with, in_open, after_entered, after_taken}
use Rattle.ct_law.proofs.Events.Nodes.{arriving_by, after_arrived, came_last}

-- Messages about a command

-- its grant, and a stop behind it
abbrev StopBehind : ℕ → List Message → Type 0
StopBehind n [] = ⊥
StopBehind n (m ∷ ms) = ((is_grant m.kind ≡ true) × (m.no ≡ n) × Sent is_stop n ms) ⊎ StopBehind n ms

stop_somewhere : (n : ℕ) (ms : List Message) → StopBehind n ms → Sent is_stop n ms
stop_somewhere n [] h = absurd h
stop_somewhere n (m ∷ ms) (inl h) = inr h.2
stop_somewhere n (m ∷ ms) (inr h) = inr (stop_somewhere n ms h)

behind_append : (n : ℕ) (ms ks : List Message) → StopBehind n ms → StopBehind n (ms ++ ks)
behind_append n [] ks h = absurd h
behind_append n (m ∷ ms) ks (inl h) = inl (h.0, h.1, append_sent is_stop n ms ks h.2)
behind_append n (m ∷ ms) ks (inr h) = inr (behind_append n ms ks h)

sent_behind : (n : ℕ) (ms ks : List Message) → Sent is_stop n ks → Sent is_stop n (ms ++ ks)
sent_behind n [] ks h = h
sent_behind n (m ∷ ms) ks h = inr (sent_behind n ms ks h)

grant_then : (n : ℕ) (ms ks : List Message) → Sent is_grant n ms → Sent is_stop n ks → StopBehind n (ms ++ ks)
grant_then n [] ks h k = absurd h
grant_then n (m ∷ ms) ks (inl h) k = inl (h.0, h.1, sent_behind n ms ks k)
grant_then n (m ∷ ms) ks (inr h) k = inr (grant_then n ms ks h k)

-- of a command for which a stop was sent: it is at B, and a stop is still on its way, or it is over
abbrev Pending : Stage → ℕ → List Message → Type 0
Pending Waiting n ms = ⊥
Pending (Here done got) n ms = ⊥
Pending Granted n ms = StopBehind n ms
Pending (There done got) n ms = Sent is_stop n ms
Pending Over n ms = Unit {0}

pending_append : (stage : Stage) (n : ℕ) (ms ks : List Message) → Pending stage n ms → Pending stage n (ms ++ ks)
pending_append Waiting n ms ks h = h
pending_append (Here d g) n ms ks h = h
pending_append Granted n ms ks h = behind_append n ms ks h
pending_append (There d g) n ms ks h = append_sent is_stop n ms ks h
pending_append Over n ms ks h = tt

abbrev is_there : Stage → Bool
is_there (There done got) = true
is_there _ = false

pending_drop : (stage : Stage) (n : ℕ) (m : Message) (ms : List Message) →
    (is_given stage ≡ true → is_grant m.kind ≡ true → m.no ≡ n → ⊥) →
    (is_there stage ≡ true → is_stop m.kind ≡ true → m.no ≡ n → ⊥) → Pending stage n (m ∷ ms) → Pending stage n ms
pending_drop Waiting n m ms f g h = h
pending_drop (Here d got) n m ms f g h = h
pending_drop Granted n m ms f g (inl h) = absurd (f refl h.0 h.1)
pending_drop Granted n m ms f g (inr h) = h
pending_drop (There d got) n m ms f g (inl h) = absurd (g refl h.0 h.1)
pending_drop (There d got) n m ms f g (inr h) = h
pending_drop Over n m ms f g h = tt

-- What holds between two events; of these functions it may be that they await nothing

record Waits (left : List ℕ) (journal : List Logged) (tasks : List Task) (functions : List Open) (stopped : List ℕ)
    (ms : List Message) : Type 0 where
  pending : (x : Task) → Has tasks x → IsIn x.no stopped → Pending x.stage x.no ms
  awaited : (p : Open) → HasOpen functions p → (n : ℕ) → IsIn n p.awaits →
      (x : Task) × Has tasks x × (x.no ≡ n) × IsIn n stopped
  entered : (x : Task) → Has tasks x → has (is_enter x.no) journal ≡ true
  known : (n : ℕ) → IsIn n stopped → has (is_enter n) journal ≡ true
  sorted : Ascending (numbers functions)
  await : (p : Open) → HasOpen functions p → p.awaits ≡ [] → IsIn p.no left

abbrev AreWaiting : List ℕ → List Logged → State → Type 0
AreWaiting left journal s = Waits left journal s.tasks s.functions s.stopped s.to_b

more : (left : List ℕ) (journal : List Logged) (l : Logged) (ts : List Task) (fs : List Open) (st : List ℕ)
    (ms : List Message) → Waits left journal ts fs st ms → Waits left (journal ++ l ∷ []) ts fs st ms
more left journal l ts fs st ms h = record {
  pending = h.pending;
  awaited = h.awaited;
  entered = λ x hx. has_stays (is_enter x.no) journal l (h.entered x hx);
  known = λ n i. has_stays (is_enter n) journal l (h.known n i);
  sorted = h.sorted;
  await = h.await;
}

pushes : (left : List ℕ) (journal : List Logged) (ts : List Task) (fs : List Open) (st : List ℕ)
    (ms ks : List Message) → Waits left journal ts fs st ms → Waits left journal ts fs st (ms ++ ks)
pushes left journal ts fs st ms ks h = record {
  pending = λ x hx i. pending_append x.stage x.no ms ks (h.pending x hx i);
  awaited = h.awaited;
  entered = h.entered;
  known = h.known;
  sorted = h.sorted;
  await = h.await;
}

turns : (left : List ℕ) (journal : List Logged) (ts : List Task) (fs : List Open) (st : List ℕ) (ms now : List Message)
    (y : Task) (stage : Stage) → Has ts y →
    (IsIn y.no st → Pending stage y.no now) →
    ((x : Task) → Has ts x → (x.no ≡ y.no → ⊥) → Pending x.stage x.no ms → Pending x.stage x.no now) →
    Waits left journal ts fs st ms → Waits left journal (with_task (at_stage stage y) ts) fs st now
turns left journal ts fs st ms now y stage hy mine others h = record {
  pending = λ x hx i. ⊎_elim
      (λ (e : at_stage stage y ≡ x). subst (λ (z : Task). Pending z.stage z.no now) e
      (mine (subst (λ k. IsIn k st) (sym (ap (λ (z : Task). z.no) e)) i)))
      (λ (r : Has ts x × (x.no ≡ y.no → ⊥)). others x r.0 r.1 (h.pending x r.0 i))
      (has_with (at_stage stage y) ts x hx);
  awaited = λ p hp n i. let a = h.awaited p hp n i in ⊎_elim
      (λ (e : a.0.no ≡ y.no). (at_stage stage y, with_itself (at_stage stage y) ts a.0 a.1 e, sym e ∙ a.2, a.3))
      (λ (ne : a.0.no ≡ y.no → ⊥). (a.0, with_has (at_stage stage y) ts a.0 a.1 ne, a.2, a.3))
      (cases_eq a.0.no y.no);
  entered = λ x hx. ⊎_elim
      (λ (e : at_stage stage y ≡ x). subst (λ k. has (is_enter k) journal ≡ true) (ap (λ (z : Task). z.no) e)
      (h.entered y hy))
      (λ (r : Has ts x × (x.no ≡ y.no → ⊥)). h.entered x r.0)
      (has_with (at_stage stage y) ts x hx);
  known = h.known;
  sorted = h.sorted;
  await = h.await;
}

goes_away : (left : List ℕ) (journal : List Logged) (ts : List Task) (fs : List Open) (st : List ℕ) (ms : List Message)
    (n : ℕ) → (IsIn n st → ⊥) → Waits left journal ts fs st ms → Waits left journal (without_task n ts) fs st ms
goes_away left journal ts fs st ms n never h = record {
  pending = λ x hx i. h.pending x (has_without n ts x hx).0 i;
  awaited = λ p hp m i. let a = h.awaited p hp m i in
      (a.0, without_has n ts a.0 a.1 (λ e. never (subst (λ k. IsIn k st) (sym a.2 ∙ e) a.3)), a.2, a.3);
  entered = λ x hx. h.entered x (has_without n ts x hx).0;
  known = h.known;
  sorted = h.sorted;
  await = h.await;
}

noted_awaits : (by n : ℕ) (fs : List Open) (p : Open) → HasOpen (noted by n fs) p →
    (q : Open) × HasOpen fs q × (q.no ≡ p.no) × (q.awaits ≡ p.awaits)
noted_awaits by n [] p h = absurd h
noted_awaits by n (f ∷ fs) p (inr h) = let r = noted_awaits by n fs p h in (r.0, inr r.1, r.2, r.3)
noted_awaits by n (f ∷ fs) p (inl h) = go (nat_eq f.no by) h
  where
    go : (t : Bool) → cond t (record f { cut = f.cut ++ n ∷ [] }) f ≡ p →
        (q : Open) × HasOpen (f ∷ fs) q × (q.no ≡ p.no) × (q.awaits ≡ p.awaits)
    go true h = (f, inl refl, ap (λ (z : Open). z.no) h, ap (λ (z : Open). z.awaits) h)
    go false h = (f, inl refl, ap (λ (z : Open). z.no) h, ap (λ (z : Open). z.awaits) h)

notes : (left : List ℕ) (journal : List Logged) (ts : List Task) (fs : List Open) (st : List ℕ) (ms : List Message)
    (by n : ℕ) → Waits left journal ts fs st ms → Waits left journal ts (noted by n fs) st ms
notes left journal ts fs st ms by n h = record {
  pending = h.pending;
  awaited = λ p hp m i. let q = noted_awaits by n fs p hp in h.awaited q.0 q.1 m (subst (IsIn m) (sym q.3) i);
  entered = h.entered;
  known = h.known;
  sorted = subst Ascending (sym (noted_numbers by n fs)) h.sorted;
  await = λ p hp e. let q = noted_awaits by n fs p hp in subst (λ k. IsIn k left) q.2 (h.await q.0 q.1 (q.3 ∙ e));
}

fewer : (left now : List ℕ) (journal : List Logged) (ts : List Task) (fs : List Open) (st : List ℕ) (ms : List Message)
    (n : ℕ) → ((m : ℕ) → (m ≡ n → ⊥) → IsIn m left → IsIn m now) → Waits left journal ts fs st ms →
    Waits now journal ts (without_function n fs) st ms
fewer left now journal ts fs st ms n less h = record {
  pending = h.pending;
  awaited = λ p hp. h.awaited p (has_without_function n fs p hp).0;
  entered = h.entered;
  known = h.known;
  sorted = ascending_without n fs h.sorted;
  await = λ p hp e. let r = has_without_function n fs p hp in less p.no r.1 (h.await p r.0 e);
}

answers : (left : List ℕ) (journal : List Logged) (k : Kind2) (n : ℕ) (s : State) → AreWaiting left journal s →
    AreWaiting left journal (answered k n s)
answers left journal k n s h = go (came_remote (arrival_of n s))
  where
    go : (t : Bool) → AreWaiting left journal (to_b_if t (message k n) s)
    go true = pushes left journal s.tasks s.functions s.stopped s.to_b (message k n ∷ []) h
    go false = h

-- Events that end commands, or have them begin and move

-- no stop was sent for one that waits or is at A
unstopped : (left : List ℕ) (journal : List Logged) (s : State) (x : Task) → is_here x.stage ≡ true → Has s.tasks x →
    AreWaiting left journal s → IsIn x.no s.stopped → ⊥
unstopped left journal s x here hx h i = go x.stage here (h.pending x hx i)
  where
    go : (stage : Stage) → is_here stage ≡ true → Pending stage x.no s.to_b → ⊥
    go Waiting e k = k
    go (Here d g) e k = k
    go Granted e k = cc
    go (There d g) e k = cc
    go Over e k = cc

-- one that can end or be cut
abbrev is_apt : Stage → Bool
is_apt Waiting = true
is_apt (Here done got) = true
is_apt (There done got) = true
is_apt Granted = false
is_apt Over = false

over : (left : List ℕ) (journal : List Logged) (s : State) (x : Task) → Has s.tasks x → AreWaiting left journal s →
    Waits left journal (with_task (at_stage Over x) s.tasks) s.functions s.stopped s.to_b
over left journal s x hx h =
    turns left journal s.tasks s.functions s.stopped s.to_b s.to_b x Over hx (λ i. tt) (λ y hy ne k. k) h

gone : (left : List ℕ) (journal : List Logged) (s : State) (x : Task) → is_here x.stage ≡ true → Has s.tasks x →
    AreWaiting left journal s → Waits left journal (without_task x.no s.tasks) s.functions s.stopped s.to_b
gone left journal s x here hx h =
    goes_away left journal s.tasks s.functions s.stopped s.to_b x.no (unstopped left journal s x here hx h) h

ends : (left : List ℕ) (journal : List Logged) (l : Logged) (n : ℕ) (s : State) → l.event ≡ event.Ended n →
    ((x : Task) → task_of n s.tasks ≡ Some x → is_apt x.stage ≡ true) → AreWaiting left journal s →
    AreWaiting left (journal ++ l ∷ []) (after s l)
unfolding after
ends left journal l n s is apt h =
    more left journal l _ _ _ _
    (subst (λ e. AreWaiting left journal (after s (record l { event = e }))) (sym is) (go (task_of n s.tasks) refl))
  where
    at : (x : Task) (stage : Stage) → x.stage ≡ stage → is_apt stage ≡ true → Has s.tasks x →
        AreWaiting left journal (ended_at stage x s)
    at x Waiting e a hx = pushes left journal _ _ _ _ _
        (answers left journal kind.Reply x.no
        (record s {
          control = (execute (disk_of s) x.command).disk.control;
          blocks = (execute (disk_of s) x.command).disk.blocks;
          tasks = without_task x.no s.tasks;
        }) (gone left journal s x (ap is_here e) hx h))
    at x (Here d g) e a hx =
        answers left journal kind.Reply x.no (record s { tasks = without_task x.no s.tasks })
        (gone left journal s x (ap is_here e) hx h)
    at x (There d g) e a hx = over left journal s x hx h
    at x Granted e a hx = absurd (cc)
    at x Over e a hx = absurd (cc)

    go : (found : Option Task) → task_of n s.tasks ≡ found → AreWaiting left journal (after_ended found s)
    go None f = h
    go (Some x) f = at x x.stage refl (apt x f) (has_found n s.tasks x f).0

cuts : (left : List ℕ) (journal : List Logged) (l : Logged) (n puts : ℕ) (why : Why) (told_so : Bool) (s : State) →
    l.event ≡ event.Cut n puts why told_so → ((x : Task) → task_of n s.tasks ≡ Some x → is_apt x.stage ≡ true) →
    AreWaiting left journal s → AreWaiting left (journal ++ l ∷ []) (after s l)
unfolding after
cuts left journal l n puts why told_so s is apt h =
    more left journal l _ _ _ _
    (subst (λ e. AreWaiting left journal (after s (record l { event = e }))) (sym is) (go why (task_of n s.tasks) refl))
  where
    at : (why : Why) (x : Task) (stage : Stage) → x.stage ≡ stage → is_apt stage ≡ true → Has s.tasks x →
        AreWaiting left journal (cut_at why stage x s)
    at (By by) x Waiting e a hx = notes left journal _ _ _ _ by x.no (gone left journal s x (ap is_here e) hx h)
    at (By by) x (Here d g) e a hx = notes left journal _ _ _ _ by x.no (gone left journal s x (ap is_here e) hx h)
    at (By by) x (There d g) e a hx = notes left journal _ _ _ _ by x.no (over left journal s x hx h)
    at (By by) x Granted e a hx = absurd (cc)
    at (By by) x Over e a hx = absurd (cc)
    at Medium x Waiting e a hx =
        answers left journal kind.Reply x.no (record s { tasks = without_task x.no s.tasks })
        (gone left journal s x (ap is_here e) hx h)
    at Medium x (Here d g) e a hx =
        answers left journal kind.Reply x.no (record s { tasks = without_task x.no s.tasks })
        (gone left journal s x (ap is_here e) hx h)
    at Medium x (There d g) e a hx = over left journal s x hx h
    at Medium x Granted e a hx = absurd (cc)
    at Medium x Over e a hx = absurd (cc)

    go : (why : Why) (found : Option Task) → task_of n s.tasks ≡ found → AreWaiting left journal (after_cut why found s)
    go why None f = h
    go why (Some x) f = at why x x.stage refl (apt x f) (has_found n s.tasks x f).0

-- all tasks with a number pass a test
abbrev AllOf : (Stage → Bool) → ℕ → State → Type 0
AllOf test n s = (x : Task) → Has s.tasks x → x.no ≡ n → test x.stage ≡ true

all_found : (test : Stage → Bool) (n : ℕ) (s : State) → AllOf test n s → (x : Task) → task_of n s.tasks ≡ Some x →
    test x.stage ≡ true
all_found test n s all x e = let r = has_found n s.tasks x e in all x r.0 r.1

moving_apt : (stage : Stage) → is_moving stage ≡ true → is_apt stage ≡ true
moving_apt Waiting e = refl
moving_apt (Here d g) e = refl
moving_apt (There d g) e = refl
moving_apt Granted e = absurd (cc)
moving_apt Over e = absurd (cc)

here_apt : (stage : Stage) → is_here stage ≡ true → is_apt stage ≡ true
here_apt Waiting e = refl
here_apt (Here d g) e = refl
here_apt (There d g) e = absurd (cc)
here_apt Granted e = absurd (cc)
here_apt Over e = absurd (cc)

waiting_here : (stage : Stage) → is_waiting stage ≡ true → is_here stage ≡ true
waiting_here Waiting e = refl
waiting_here (Here d g) e = refl
waiting_here (There d g) e = absurd (cc)
waiting_here Granted e = absurd (cc)
waiting_here Over e = absurd (cc)

-- behind a turn
record Holds (left : List ℕ) (journal : List Logged) (t : Turn) : Type 0 where
  waits : AreWaiting left (journal ++ t.journal) t.state

stays : (left : List ℕ) (s : State) (journal : List Logged) → AreWaiting left journal s → Holds left journal (nothing s)
stays left s journal h = record { waits = subst (λ j. AreWaiting left j s) (sym (append-nil journal)) h }

then : (left : List ℕ) (journal : List Logged) (t : Turn) (next : State → Turn) →
    Holds left (journal ++ t.journal) (next t.state) → Holds left journal (followed t next)
then left journal t next k = record {
  waits = subst (λ j. AreWaiting left j (next t.state).state)
      (append_assoc journal t.journal (next t.state).journal) k.waits;
}

wrote : (left : List ℕ) (s : State) (journal : List Logged) (l : Logged) →
    AreWaiting left (journal ++ l ∷ []) (after s l) → Holds left journal (writes l s)
wrote left s journal l h = record { waits = h }

-- Moves

further_moves : (stage : Stage) (done : ℕ) (got : List ℕ) → is_moving (further stage done got) ≡ true
further_moves Waiting done got = refl
further_moves (Here d g) done got = refl
further_moves Granted done got = refl
further_moves (There d g) done got = refl
further_moves Over done got = refl

further_pending : (stage : Stage) (done : ℕ) (got : List ℕ) (n : ℕ) (ms : List Message) → is_there stage ≡ true →
    Pending stage n ms → Pending (further stage done got) n ms
further_pending (There d g) done got n ms e h = h
further_pending Waiting done got n ms e h = absurd (cc)
further_pending (Here d g) done got n ms e h = absurd (cc)
further_pending Granted done got n ms e h = absurd (cc)
further_pending Over done got n ms e h = absurd (cc)

record Moving (left : List ℕ) (n : ℕ) (journal : List Logged) (t : Turn) : Type 0 where
  holds : Holds left journal t
  all : AllOf is_moving n t.state

-- the task set with a command at another stage
all_staged : (test : Stage → Bool) (s : State) (x : Task) (stage : Stage) (n : ℕ) → x.no ≡ n → test stage ≡ true →
    (y : Task) → Has (with_task (at_stage stage x) s.tasks) y → y.no ≡ n → test y.stage ≡ true
all_staged test s x stage n no_is good y hy i = ⊎_elim
    (λ (z : at_stage stage x ≡ y). subst (λ (w : Task). test w.stage ≡ true) z good)
    (λ (r : Has s.tasks y × (y.no ≡ x.no → ⊥)). absurd (r.1 (i ∙ sym no_is)))
    (has_with (at_stage stage x) s.tasks y hy)

after_move : (n count : ℕ) (s : State) (found : Option Task) → task_of n s.tasks ≡ found →
    after s (told (event.Moved n count)) ≡ after_moved found count s
unfolding after
after_move n count s found e = ap (λ f. after_moved f count s) e

moves_on : (left : List ℕ) (s : State) (journal : List Logged) (n count : ℕ) → AllOf is_moving n s →
    AreWaiting left journal s → Moving left n journal (moving_on n count s)
moves_on left s journal n zero all h = record { holds = stays left s journal h; all = all }
moves_on left s journal n (suc count) all h = go (task_of n s.tasks) refl
  where
    l : Logged
    l = told (event.Moved n (suc count))

    Goal : State → Type 0
    Goal t = AreWaiting left journal t × AllOf is_moving n t

    to : Task → ℕ → List ℕ → Stage
    to x d g = further x.stage (d + suc count) (cells_after x (suc count) d g s).got

    at : (x : Task) (stage : Stage) → x.stage ≡ stage → Has s.tasks x → x.no ≡ n → Goal (moved_at stage x (suc count) s)
    at x Waiting e hx no_is = (h, all)
    at x Granted e hx no_is = (h, all)
    at x Over e hx no_is = (h, all)
    at x (Here d g) e hx no_is = (
      turns left journal s.tasks s.functions s.stopped s.to_b s.to_b x (to x d g) hx
          (λ i. absurd (unstopped left journal s x (ap is_here e) hx h i)) (λ y hy ne k. k) h,
      all_staged is_moving s x (to x d g) n no_is
          (further_moves x.stage (d + suc count) (cells_after x (suc count) d g s).got),
    )
    at x (There d g) e hx no_is = (
      turns left journal s.tasks s.functions s.stopped s.to_b s.to_b x (to x d g) hx
          (λ i. further_pending x.stage (d + suc count) (cells_after x (suc count) d g s).got x.no s.to_b
          (ap is_there e)
          (h.pending x hx i)) (λ y hy ne k. k) h,
      all_staged is_moving s x (to x d g) n no_is
          (further_moves x.stage (d + suc count) (cells_after x (suc count) d g s).got),
    )

    done : (t : State) → Goal t → t ≡ after s l → Moving left n journal (writes l s)
    done t k e = record {
      holds = wrote left s journal l
          (subst (λ (u : State). AreWaiting left (journal ++ l ∷ []) u) e
          (more left journal l t.tasks t.functions t.stopped t.to_b k.0));
      all = subst (AllOf is_moving n) e k.1;
    }

    go : (found : Option Task) → task_of n s.tasks ≡ found → Moving left n journal (writes l s)
    go None f = done s (h, all) (sym (after_move n (suc count) s None f))
    go (Some x) f =
        done (moved_at x.stage x (suc count) s)
        (at x x.stage refl (has_found n s.tasks x f).0 (has_found n s.tasks x f).1)
        (sym (after_move n (suc count) s (Some x) f))

fails : (left : List ℕ) (s : State) (journal : List Logged) (x : Task) (plan : List BlockOp) (done : ℕ)
    (found : Option BlockOp) → AllOf is_moving x.no s → AreWaiting left journal s →
    Holds left journal (failing x plan done found s)
fails left s journal x plan done None all h = stays left s journal h
fails left s journal x plan done (Some operation) all h =
    wrote left s journal _ (cuts left journal _ x.no _ Medium false s refl
    (λ y f. moving_apt y.stage (all_found is_moving x.no s all y f)) h)

fails_if : (left : List ℕ) (s : State) (journal : List Logged) (x : Task) (plan : List BlockOp) (done : ℕ)
    (operations : List BlockOp) (fault : Option ℕ) → AllOf is_moving x.no s → AreWaiting left journal s →
    Holds left journal (failing_if x plan done operations fault s)
fails_if left s journal x plan done operations None all h = stays left s journal h
fails_if left s journal x plan done operations (Some fault) all h =
    fails left s journal x plan done (slice_get operations fault) all h

moves_to : (left : List ℕ) (s : State) (journal : List Logged) (difference : Option ℕ) (ended : Bool) (x : Task)
    (plan : List BlockOp) (done : ℕ) (got : List ℕ) (operations : List BlockOp) (fault : Option ℕ) →
    AllOf is_moving x.no s → AreWaiting left journal s →
    Holds left journal (moved_to difference ended x plan done got operations fault s)
moves_to left s journal (Some offset) ended x plan done got operations fault all h =
    wrote left s journal _ (ends left journal _ x.no s refl
    (λ y f. moving_apt y.stage (all_found is_moving x.no s all y f)) h)
moves_to left s journal None true x plan done got operations fault all h =
    wrote left s journal _ (ends left journal _ x.no s refl
    (λ y f. moving_apt y.stage (all_found is_moving x.no s all y f)) h)
moves_to left s journal None false x plan done got operations fault all h =
    fails_if left s journal x plan done operations fault all h

moves_from : (left : List ℕ) (s : State) (journal : List Logged) (x : Task) (count : ℕ) (fault : Option ℕ) (done : ℕ)
    (got : List ℕ) → AllOf is_moving x.no s → AreWaiting left journal s →
    Holds left journal (moving_from x count fault done got s)
moves_from left s journal x count fault done got all h =
    let plan = plan_in (length s.blocks) x.command in
    let operations = take count (drop done plan) in
    let progress = performed x.command.out (tried operations fault) (record { blocks = s.blocks; got = got }) in
    let done' = done + progress.made in
    let first : Turn = moving_on x.no progress.made s in
    let k = moves_on left s journal x.no progress.made all h in
    then left journal first (moved_to progress.difference
    (nat_le (length plan) done') x plan done' progress.cells.got operations fault)
    (moves_to left first.state (journal ++ first.journal) progress.difference
    (nat_le (length plan) done') x plan done' progress.cells.got operations fault k.all k.holds.waits)

-- Begins

found_again : (n : ℕ) (ts : List Task) (x : Task) → task_of n ts ≡ Some x → task_of x.no ts ≡ Some x
found_again n ts x e = ap (λ k. task_of k ts) (has_found n ts x e).1 ∙ e

clears_all : (left : List ℕ) (by : ℕ) (cleared : List Bool) (ns : List ℕ) (s : State) (journal : List Logged) →
    AreWaiting left journal s → Holds left journal (clearing_all by cleared ns s)
clears_all left by cleared [] s journal h = stays left s journal h
clears_all left by cleared (n ∷ ns) s journal h =
    let first : Turn = clearing by cleared (task_of n s.tasks) s in
    then left journal first (clearing_all by cleared ns)
    (clears_all left by cleared ns first.state (journal ++ first.journal) (one (task_of n s.tasks) refl).waits)
  where
    one : (found : Option Task) → task_of n s.tasks ≡ found → Holds left journal (clearing by cleared found s)
    one None f = stays left s journal h
    one (Some x) f = go (is_cleared cleared x) refl
      where
        l : Logged
        l = told (event.Cut x.no 0 (By by) (tells_aborts s.control))

        apt : is_cleared cleared x ≡ true → (y : Task) → task_of x.no s.tasks ≡ Some y → is_apt y.stage ≡ true
        apt e y g =
            let same : x ≡ y = same_Some x y (sym (found_again n s.tasks x f) ∙ g) in
            subst (λ (z : Task). is_apt z.stage ≡ true) same
            (here_apt x.stage (waiting_here x.stage (and_parts (is_waiting x.stage) _ e).0))

        go : (t : Bool) → is_cleared cleared x ≡ t → Holds left journal (cond t (writes l s) (nothing s))
        go true e =
            wrote left s journal l (cuts left journal l x.no 0 (By by) (tells_aborts s.control) s refl (apt e) h)
        go false e = stays left s journal h

ends_at_once : (left : List ℕ) (s : State) (journal : List Logged) (x : Task) → AllOf is_waiting x.no s →
    AreWaiting left journal s → Holds left journal (ending_at_once x s)
ends_at_once left s journal x all h =
    let execution = execute (disk_of s) x.command in
    let l : Logged = replied (event.Ended x.no) execution.reply in
    let first : Turn = replies (event.Ended x.no) execution.reply s in
    let k : AreWaiting left (journal ++ l ∷ []) first.state =
    ends left journal l x.no s refl
    (λ y f. here_apt y.stage (waiting_here y.stage (all_found is_waiting x.no s all y f))) h in
    then left journal first (λ ended. clearing_all x.no execution.cleared (numbers_of ended.tasks) ended)
    (clears_all left x.no execution.cleared (numbers_of first.state.tasks) first.state (journal ++ first.journal) k)

-- a command that waits gets a stage; no stop was sent for it
stages : (left : List ℕ) (journal : List Logged) (s : State) (n : ℕ) (stage : Stage) → AllOf is_waiting n s →
    AreWaiting left journal s → AreWaiting left journal (staged stage (task_of n s.tasks) s)
    × ((test : Stage → Bool) → test stage ≡ true → (x : Task) → task_of n s.tasks ≡ Some x →
    AllOf test n (staged stage (Some x) s))
stages left journal s n stage all h =
    (go (task_of n s.tasks) refl, λ test good x f. all_staged test s x stage n (has_found n s.tasks x f).1 good)
  where
    go : (found : Option Task) → task_of n s.tasks ≡ found → AreWaiting left journal (staged stage found s)
    go None f = h
    go (Some x) f =
        let r = has_found n s.tasks x f in
        turns left journal s.tasks s.functions s.stopped s.to_b s.to_b x stage r.0
        (λ i. absurd (unstopped left journal s x (waiting_here x.stage (all x r.0 r.1)) r.0 h i)) (λ y hy ne k. k) h

after_begun : (n : ℕ) (s : State) → after s (told (event.Begun n)) ≡ staged (Here 0 []) (task_of n s.tasks) s
unfolding after
after_begun n s = refl

after_grants : (n : ℕ) (s : State) → after s (told (event.Granted n)) ≡ record
    (staged Granted (task_of n s.tasks) s) {
      to_b = (staged Granted (task_of n s.tasks) s).to_b
          ++ message kind.Grant n ∷ [];
    }
unfolding after
after_grants n s = refl

begins_at : (left : List ℕ) (s : State) (journal : List Logged) (granted : Bool) (x : Task) (count : ℕ)
    (fault : Option ℕ) → AllOf is_waiting x.no s → task_of x.no s.tasks ≡ Some x → AreWaiting left journal s →
    Holds left journal (beginning_at granted x count fault s)
begins_at left s journal true x count fault all f h =
    wrote left s journal (told (event.Granted x.no))
    (subst (AreWaiting left (journal ++ told (event.Granted x.no) ∷ [])) (sym (after_grants x.no s))
    (more left journal _ _ _ _ _
    (pushes left journal _ _ _ _ (message kind.Grant x.no ∷ []) (stages left journal s x.no Granted all h).0)))
begins_at left s journal false x count fault all f h =
    let l : Logged = told (event.Begun x.no) in
    let first : Turn = says (event.Begun x.no) s in
    let k = stages left journal s x.no (Here 0 []) all h in
    then left journal first (moving_from x count fault 0 [])
    (moves_from left first.state (journal ++ first.journal) x count fault 0 []
    (subst (AllOf is_moving x.no) (sym (after_begun x.no s))
    (subst (λ found. AllOf is_moving x.no (staged (Here 0 []) found s)) (sym f) (k.1 is_moving refl x f)))
    (subst (AreWaiting left (journal ++ l ∷ [])) (sym (after_begun x.no s)) (more left journal l _ _ _ _ k.0)))

begins : (left : List ℕ) (s : State) (journal : List Logged) (refused : Option Reply) (plan : List BlockOp) (x : Task)
    (count : ℕ) (fault : Option ℕ) → AllOf is_waiting x.no s → task_of x.no s.tasks ≡ Some x →
    AreWaiting left journal s → Holds left journal (beginning refused plan x count fault s)
begins left s journal (Some reply) plan x count fault all f h = ends_at_once left s journal x all h
begins left s journal None [] x count fault all f h = ends_at_once left s journal x all h
begins left s journal None (operation ∷ operations) x count fault all f h =
    begins_at left s journal (is_granted s.ha x.node) x count fault all f h

steps : (left : List ℕ) (s : State) (journal : List Logged) (n count : ℕ) (fault : Option ℕ) →
    ((x y : Task) → Has s.tasks x → Has s.tasks y → x.no ≡ y.no → x ≡ y) → AreWaiting left journal s →
    Holds left journal (stepping (task_of n s.tasks) n count fault s).turn
steps left s journal n count fault single h = go (task_of n s.tasks) refl
  where
    unless : (x : Task) (blocked : Option ℕ) → AllOf is_waiting x.no s → task_of x.no s.tasks ≡ Some x →
        Holds left journal (beginning_unless blocked x count fault s).turn
    unless x (Some by) all f = stays left s journal h
    unless x None all f =
        begins left s journal (refusal_of s.control (length s.blocks) x.command)
        (plan_in (length s.blocks) x.command) x count fault all f h

    all : (test : Stage → Bool) (x : Task) → Has s.tasks x → test x.stage ≡ true → AllOf test x.no s
    all test x hx good y hy e = subst (λ (z : Task). test z.stage ≡ true) (sym (single y x hy hx e)) good

    at : (x : Task) (stage : Stage) → Has s.tasks x → task_of x.no s.tasks ≡ Some x → x.stage ≡ stage →
        Holds left journal (stepping_at stage x count fault s).turn
    at x Waiting hx f e = unless x (blocked_by s.functions s x) (all is_waiting x hx (ap is_waiting e)) f
    at x (Here d g) hx f e = moves_from left s journal x count fault d g (all is_moving x hx (ap is_moving e)) h
    at x (There d g) hx f e = moves_from left s journal x count fault d g (all is_moving x hx (ap is_moving e)) h
    at x Granted hx f e = stays left s journal h
    at x Over hx f e = stays left s journal h

    nowhere : (t : Bool) → Holds left journal
        (cond {A = Done} t (record { turn = nothing s; answer = answer.Away n })
        (record { turn = nothing s; answer = answer.Gone })).turn
    nowhere true = stays left s journal h
    nowhere false = stays left s journal h

    go : (found : Option Task) → task_of n s.tasks ≡ found → Holds left journal (stepping found n count fault s).turn
    go None e = nowhere (list_any (is_sent n) s.to_a)
    go (Some x) e = at x x.stage (has_found n s.tasks x e).0 (found_again n s.tasks x e) refl

-- Closing

ascending_one : (fs : List Open) → Ascending (numbers fs) → (p q : Open) → HasOpen fs p → HasOpen fs q → p.no ≡ q.no →
    p ≡ q
ascending_one [] a p q hp hq e = absurd hp
ascending_one (f ∷ fs) a p q (inl hp) (inl hq) e = sym hp ∙ hq
ascending_one (f ∷ fs) a p q (inl hp) (inr hq) e =
    let b = a.0 q.no (open_in fs q hq) in let c = ap (λ (z : Open). z.no) hp in absurd (omega (arith, b, c, e))
ascending_one (f ∷ fs) a p q (inr hp) (inl hq) e =
    let b = a.0 p.no (open_in fs p hp) in let c = ap (λ (z : Open). z.no) hq in absurd (omega (arith, b, c, e))
ascending_one (f ∷ fs) a p q (inr hp) (inr hq) e = ascending_one fs a.1 p q hp hq e

not_found : (n : ℕ) (fs : List Open) (p : Open) → function_of n fs ≡ None → HasOpen fs p → p.no ≡ n → ⊥
not_found n [] p e hp i = hp
not_found n (f ∷ fs) p e hp i = go (nat_eq f.no n) refl e hp (λ e' hp'. not_found n fs p e' hp' i)
  where
    go : (t : Bool) → nat_eq f.no n ≡ t → cond t (Some f) (function_of n fs) ≡ None → HasOpen (f ∷ fs) p →
        (function_of n fs ≡ None → HasOpen fs p → ⊥) → ⊥
    go true k e hp rec = cc
    go false k e (inl hp) rec = eqb-false f.no n k (ap (λ (z : Open). z.no) hp ∙ i)
    go false k e (inr hp) rec = rec e hp

fewer_left : (left now : List ℕ) (journal : List Logged) (s : State) →
    ((p : Open) → HasOpen s.functions p → p.awaits ≡ [] → IsIn p.no now) → AreWaiting left journal s →
    AreWaiting now journal s
fewer_left left now journal s f h = record {
  pending = h.pending;
  awaited = h.awaited;
  entered = h.entered;
  known = h.known;
  sorted = h.sorted;
  await = f;
}

after_closing : (n : ℕ) (outcome : Outcome) (found : Option Open) (s : State) → function_of n s.functions ≡ found →
    after s (told (event.Closed n outcome)) ≡ answered kind.Response n (closed found s)
unfolding after
after_closing n outcome found s e = ap (λ f. answered kind.Response n (closed f s)) e

closes : (n : ℕ) (ns : List ℕ) (s : State) (journal : List Logged) → AreWaiting (n ∷ ns) journal s →
    Holds ns journal (closing (function_of n s.functions) s)
closes n ns s journal h = go (function_of n s.functions) refl
  where
    in_rest : (m : ℕ) → (m ≡ n → ⊥) → IsIn m (n ∷ ns) → IsIn m ns
    in_rest m ne (inl e) = absurd (ne (sym e))
    in_rest m ne (inr i) = i

    at : (q : Open) (awaits : List ℕ) → q.awaits ≡ awaits → HasOpen s.functions q → q.no ≡ n →
        function_of q.no s.functions ≡ Some q → Holds ns journal (closing_if awaits q s)
    at q (m ∷ ms) e hq named f = stays ns s journal (fewer_left (n ∷ ns) ns journal s (λ p hp none. in_rest p.no (λ i.
        let same : p ≡ q = ascending_one s.functions h.sorted p q hp hq (i ∙ sym named) in
        let clash : [] ≡ m ∷ ms = sym none ∙ ap (λ (z : Open). z.awaits) same ∙ e in cc) (h.await p hp none)) h)
    at q [] e hq named f =
        wrote ns s journal l (subst (AreWaiting ns (journal ++ l ∷ []))
        (sym (after_closing q.no (outcome_of q.ask s) (Some q) s f))
        (more ns journal l _ _ _ _
        (answers ns journal kind.Response q.no (closed (Some q) s)
        (fewer (n ∷ ns) ns journal s.tasks s.functions s.stopped s.to_b q.no
        (λ m ne. in_rest m (λ i. ne (i ∙ sym named))) h))))
      where
        l : Logged
        l = told (event.Closed q.no (outcome_of q.ask s))

    go : (found : Option Open) → function_of n s.functions ≡ found → Holds ns journal (closing found s)
    go None e =
        stays ns s journal (fewer_left (n ∷ ns) ns journal s
        (λ p hp none. in_rest p.no (not_found n s.functions p e hp) (h.await p hp none)) h)
    go (Some q) e =
        let r = found_open n s.functions q e in at q q.awaits refl r.0 r.1 (ap (λ k. function_of k s.functions) r.1 ∙ e)

closes_all : (ns : List ℕ) (s : State) (journal : List Logged) → AreWaiting ns journal s →
    Holds [] journal (closing_all ns s)
closes_all [] s journal h = stays [] s journal h
closes_all (n ∷ ns) s journal h =
    let first : Turn = closing (function_of n s.functions) s in
    then [] journal first (closing_all ns)
    (closes_all ns first.state (journal ++ first.journal) (closes n ns s journal h).waits)

-- Taking up

cuts_all : (left : List ℕ) (n : ℕ) (ask : Ask) (ms : List ℕ) (s : State) (journal : List Logged) →
    AreWaiting left journal s → Holds left journal (cutting_all n ask ms s)
cuts_all left n ask [] s journal h = stays left s journal h
cuts_all left n ask (m ∷ ms) s journal h =
    let first : Turn = cutting n ask (task_of m s.tasks) s in
    then left journal first (cutting_all n ask ms)
    (cuts_all left n ask ms first.state (journal ++ first.journal) (one (task_of m s.tasks) refl).waits)
  where
    one : (found : Option Task) → task_of m s.tasks ≡ found → Holds left journal (cutting n ask found s)
    one None f = stays left s journal h
    one (Some x) f = go (is_hit ask x && is_here x.stage) refl
      where
        l : Logged
        l = told (event.Cut x.no (puts_of x s) (By n) (is_told s ask x))

        apt : (is_hit ask x && is_here x.stage) ≡ true → (y : Task) → task_of x.no s.tasks ≡ Some y →
            is_apt y.stage ≡ true
        apt e y g =
            let same : x ≡ y = same_Some x y (sym (found_again m s.tasks x f) ∙ g) in
            subst (λ (z : Task). is_apt z.stage ≡ true) same
            (here_apt x.stage (and_parts (is_hit ask x) (is_here x.stage) e).1)

        go : (t : Bool) → (is_hit ask x && is_here x.stage) ≡ t → Holds left journal (cond t (writes l s) (nothing s))
        go true e =
            wrote left s journal l (cuts left journal l x.no (puts_of x s) (By n) (is_told s ask x) s refl (apt e) h)
        go false e = stays left s journal h

awaited_task : (ask : Ask) (ts : List Task) (n : ℕ) → IsIn n (awaited_by ask ts) →
    (x : Task) × Has ts x × (x.no ≡ n) × (is_awaited ask x ≡ true)
awaited_task ask [] n h = absurd h
awaited_task ask (x ∷ ts) n h = go (is_awaited ask x) refl h (awaited_task ask ts n)
  where
    go : (t : Bool) → is_awaited ask x ≡ t →
        IsIn n (map (λ (task : Task). task.no) (cond t (x ∷ filter (is_awaited ask) ts) (filter (is_awaited ask) ts))) →
        (IsIn n (awaited_by ask ts) → (y : Task) × Has ts y × (y.no ≡ n) × (is_awaited ask y ≡ true)) →
        (y : Task) × Has (x ∷ ts) y × (y.no ≡ n) × (is_awaited ask y ≡ true)
    go true e (inl i) rec = (x, inl refl, i, e)
    go true e (inr i) rec = let r = rec i in (r.0, inr r.1, r.2, r.3)
    go false e i rec = let r = rec i in (r.0, inr r.1, r.2, r.3)

any_in : (n : ℕ) (ns : List ℕ) → list_any (λ number. nat_eq number n) ns ≡ true → IsIn n ns
any_in n [] e = absurd (cc)
any_in n (m ∷ ms) e = go (nat_eq m n) refl e (any_in n ms)
  where
    go : (t : Bool) → nat_eq m n ≡ t → (t || list_any (λ number. nat_eq number n) ms) ≡ true →
        (list_any (λ number. nat_eq number n) ms ≡ true → IsIn n ms) → IsIn n (m ∷ ms)
    go true k e rec = inl (eqb-true m n k)
    go false k e rec = inr (rec e)

-- a stop is sent for each that a function awaits, unless one was
stop_sent : (s : State) (by : ℕ) (ask : Ask) (ts : List Task) (x : Task) → Has ts x → wants_stop s ask x ≡ true →
    Sent is_stop x.no (stops_by s by ask ts)
stop_sent s by ask [] x h e = absurd h
stop_sent s by ask (y ∷ ts) x (inl h) e =
    subst (λ (z : Task). Sent is_stop z.no (stops_by s by ask (y ∷ ts))) h
    (go (wants_stop s ask y) (subst (λ (z : Task). wants_stop s ask z ≡ true) (sym h) e))
  where
    go : (t : Bool) → t ≡ true → Sent is_stop y.no
        (cond t (stop y.no by (is_told s ask y) ∷ stops_by s by ask ts) (stops_by s by ask ts))
    go true e = inl (refl, refl)
    go false e = absurd (cc)
stop_sent s by ask (y ∷ ts) x (inr h) e = go (wants_stop s ask y) (stop_sent s by ask ts x h e)
  where
    go : (t : Bool) → Sent is_stop x.no (stops_by s by ask ts) →
        Sent is_stop x.no (cond t (stop y.no by (is_told s ask y) ∷ stops_by s by ask ts) (stops_by s by ask ts))
    go true k = inr k
    go false k = k

in_front : (n : ℕ) (ns ks : List ℕ) → IsIn n ns → IsIn n (ns ++ ks)
in_front n [] ks h = absurd h
in_front n (m ∷ ns) ks (inl h) = inl h
in_front n (m ∷ ns) ks (inr h) = inr (in_front n ns ks h)

in_behind : (n : ℕ) (ns ks : List ℕ) → IsIn n ks → IsIn n (ns ++ ks)
in_behind n [] ks h = h
in_behind n (m ∷ ns) ks h = inr (in_behind n ns ks h)

in_either : (n : ℕ) (ns ks : List ℕ) → IsIn n (ns ++ ks) → IsIn n ns ⊎ IsIn n ks
in_either n [] ks h = inr h
in_either n (m ∷ ns) ks (inl h) = inl (inl h)
in_either n (m ∷ ns) ks (inr h) = ⊎_elim (λ (k : IsIn n ns). inl (inr k)) inr (in_either n ns ks h)

-- what is known of the task set where a function is taken up
record Sure (s : State) : Type 0 where
  single : (x y : Task) → Has s.tasks x → Has s.tasks y → x.no ≡ y.no → x ≡ y
  grants : (x : Task) → Has s.tasks x → is_given x.stage ≡ true → Sent is_grant x.no s.to_b

asked : (s : State) (journal : List Logged) (n : ℕ) (ask : Ask) (l : Logged) → (IsIn n (numbers s.functions) → ⊥) →
    Sure s → AreWaiting [] journal s → AreWaiting (n ∷ []) (journal ++ l ∷ []) (taken_up n ask s)
asked s journal n ask l new sure h =
    more (n ∷ []) journal l s.tasks (with_function p s.functions) (s.stopped ++ awaited_by ask s.tasks)
    (s.to_b ++ stops_by s n ask s.tasks) (record {
      pending = λ x hx i. ⊎_elim
          (λ (k : IsIn x.no s.stopped). pending_append x.stage x.no s.to_b (stops_by s n ask s.tasks)
          (h.pending x hx k))
          (λ (k : IsIn x.no (awaited_by ask s.tasks)).
          let r = awaited_task ask s.tasks x.no k in
          let same : r.0 ≡ x = sure.single r.0 x r.1 hx r.2 in
          now x hx (subst (λ (z : Task). is_awaited ask z ≡ true) same r.3))
          (in_either x.no s.stopped (awaited_by ask s.tasks) i);
      awaited = λ q hq m i. ⊎_elim
          (λ (k : HasOpen s.functions q). let a = h.awaited q k m i in
          (a.0, a.1, a.2, in_front m s.stopped (awaited_by ask s.tasks) a.3))
          (λ (k : p ≡ q).
          let j : IsIn m (awaited_by ask s.tasks) = subst (λ (z : Open). IsIn m z.awaits) (sym k) i in
          let r = awaited_task ask s.tasks m j in (r.0, r.1, r.2, in_behind m s.stopped (awaited_by ask s.tasks) j))
          (has_with_function p s.functions q hq);
      entered = h.entered;
      known = λ m i. ⊎_elim (h.known m)
          (λ (k : IsIn m (awaited_by ask s.tasks)). let r = awaited_task ask s.tasks m k in
          subst (λ j. has (is_enter j) journal ≡ true) r.2 (h.entered r.0 r.1))
          (in_either m s.stopped (awaited_by ask s.tasks) i);
      sorted = ascending_with p s.functions new h.sorted;
      await = λ q hq e. ⊎_elim (λ (k : HasOpen s.functions q). absurd (h.await q k e))
          (λ (k : p ≡ q). inl (ap (λ (z : Open). z.no) k)) (has_with_function p s.functions q hq);
    })
  where
    p : Open
    p = record { no = n; ask = ask; awaits = awaited_by ask s.tasks; cut = [] }

    ks : List Message
    ks = stops_by s n ask s.tasks

    sends : (x : Task) → Has s.tasks x → is_hit ask x ≡ true → is_here x.stage ≡ false →
        IsIn x.no s.stopped ⊎ Sent is_stop x.no ks
    sends x hx hit away = go (list_any (λ number. nat_eq number x.no) s.stopped) refl
      where
        go : (t : Bool) → list_any (λ number. nat_eq number x.no) s.stopped ≡ t →
            IsIn x.no s.stopped ⊎ Sent is_stop x.no ks
        go true e = inl (any_in x.no s.stopped e)
        go false e = inr (stop_sent s n ask s.tasks x hx
            (ap (λ b. b && cond (is_here x.stage) (is_remote x.node) (not (list_any (λ number. nat_eq number x.no) s.stopped))) hit ∙ ap (λ b. cond b (is_remote x.node) (not (list_any (λ number. nat_eq number x.no) s.stopped))) away ∙ ap not e))

    now : (x : Task) → Has s.tasks x → is_awaited ask x ≡ true → Pending x.stage x.no (s.to_b ++ ks)
    now x hx e = ⊎_elim
        (λ (k : IsIn x.no s.stopped). pending_append x.stage x.no s.to_b ks (h.pending x hx k))
        (λ (k : Sent is_stop x.no ks). by x.stage away (sure.grants x hx) k)
        (sends x hx both.0 away)
      where
        both : (is_hit ask x ≡ true) × (not (is_here x.stage) ≡ true)
        both = and_parts (is_hit ask x) (not (is_here x.stage)) e

        away : is_here x.stage ≡ false
        away = go (is_here x.stage) both.1
          where
            go : (t : Bool) → not t ≡ true → t ≡ false
            go true k = absurd (cc)
            go false k = refl

        by : (stage : Stage) → is_here stage ≡ false → (is_given stage ≡ true → Sent is_grant x.no s.to_b) →
            Sent is_stop x.no ks → Pending stage x.no (s.to_b ++ ks)
        by Waiting a g k = absurd (cc)
        by (Here d got) a g k = absurd (cc)
        by Granted a g k = grant_then x.no s.to_b ks (g refl) k
        by (There d got) a g k = sent_behind x.no s.to_b ks k
        by Over a g k = tt

asks : (s : State) (journal : List Logged) (n : ℕ) (node : Node) (ask : Ask) →
    arrival_of n s ≡ Some (record { node = node; work = work.Ask ask }) → (IsIn n (numbers s.functions) → ⊥) → Sure s →
    AreWaiting [] journal s → Holds [] journal (asking n ask s)
asks s journal n node ask came new sure h = go (nat_le MOST_FUNCTIONS (length s.functions))
  where
    rejected : Logged
    rejected = told (event.Closed n Rejected)

    none : function_of n s.functions ≡ None
    none = go (function_of n s.functions) refl
      where
        go : (found : Option Open) → function_of n s.functions ≡ found → found ≡ None
        go None e = refl
        go (Some q) e = let r = found_open n s.functions q e in
            absurd (new (subst (λ k. IsIn k (numbers s.functions)) r.1 (open_in s.functions q r.0)))

    l : Logged
    l = told (event.Asked n)

    first : Turn
    first = says (event.Asked n) s

    second : State → Turn
    second t = cutting_all n ask (numbers_of s.tasks) t

    taken : AreWaiting (n ∷ []) (journal ++ l ∷ []) first.state
    taken = subst (AreWaiting (n ∷ []) (journal ++ l ∷ [])) (sym (after_taken n node ask s came))
        (asked s journal n ask l new sure h)

    up : Holds [] journal (taking_up n ask s)
    up =
        let two : Turn = followed first second in
        let k : Holds (n ∷ []) journal two =
        then (n ∷ []) journal first second
        (cuts_all (n ∷ []) n ask (numbers_of s.tasks) first.state (journal ++ first.journal) taken) in
        then [] journal two (λ cut. closing (function_of n cut.functions) cut)
        (closes n [] two.state (journal ++ two.journal) k.waits)

    go : (t : Bool) → Holds [] journal (cond t (says (event.Closed n Rejected) s) (taking_up n ask s))
    go true =
        wrote [] s journal rejected
        (subst (AreWaiting [] (journal ++ rejected ∷ [])) (sym (after_closing n Rejected None s none))
        (more [] journal rejected _ _ _ _ (answers [] journal kind.Response n s h)))
    go false = up

-- Works and messages come

after_turns : (n : ℕ) (reply : Reply) (s : State) → after s (replied (event.Turned n) reply) ≡ answered kind.Reply n s
unfolding after
after_turns n reply s = refl

enters : (s : State) (journal : List Logged) (n : ℕ) (node : Node) (c : Command) →
    arrival_of n s ≡ Some (record { node = node; work = work.Cmd c }) → has (is_enter n) journal ≡ false →
    AreWaiting [] journal s → Holds [] journal (entering n c s)
enters s journal n node c came new h = go (turned_cause s c)
  where
    l : Logged
    l = told (event.Enter n)

    x : Task
    x = new_task n node c

    went : AreWaiting [] (journal ++ l ∷ []) (record s { tasks = queued x s.tasks })
    went = record {
      pending = λ y hy i. ⊎_elim
          (λ (k : Has s.tasks y). h.pending y k i)
          (λ (k : x ≡ y). absurd (both_ways (has (is_enter n) journal) new (subst (λ m. has (is_enter m) journal ≡ true) (sym (ap (λ (z : Task). z.no) k)) (h.known y.no i))))
          (has_queued x s.tasks y hy);
      awaited = λ p hp m i. let a = h.awaited p hp m i in (a.0, queued_has x s.tasks a.0 a.1, a.2, a.3);
      entered = λ y hy. ⊎_elim
          (λ (k : Has s.tasks y). has_stays (is_enter y.no) journal l (h.entered y k))
          (λ (k : x ≡ y). subst (λ m. has (is_enter m) (journal ++ l ∷ []) ≡ true) (ap (λ (z : Task). z.no) k)
          (has_now (is_enter n) journal l (eq-eqb n n refl)))
          (has_queued x s.tasks y hy);
      known = λ m i. has_stays (is_enter m) journal l (h.known m i);
      sorted = h.sorted;
      await = h.await;
    }

    go : (cause : Option Reply) → Holds [] journal (entering_with cause n s)
    go (Some reply) =
        wrote [] s journal _ (subst (AreWaiting [] (journal ++ replied (event.Turned n) reply ∷ []))
        (sym (after_turns n reply s)) (more [] journal _ _ _ _ _ (answers [] journal kind.Reply n s h)))
    go None =
        wrote [] s journal l (subst (AreWaiting [] (journal ++ l ∷ [])) (sym (after_entered n node c s came)) went)

sure : (size : ℕ) (s t : State) → t.tasks ≡ s.tasks → t.to_b ≡ s.to_b → IsFine size s → Sure t
sure size s t tasks to_b f = record {
  single = λ x y hx hy e. fine_single size s f x y (subst (λ q. Has q x) tasks hx) (subst (λ q. Has q y) tasks hy) e;
  grants = λ x hx g. subst (Sent is_grant x.no) (sym to_b) ((f.told x (subst (λ q. Has q x) tasks hx)).0 g);
}

-- nothing was said of a number yet, so no function has it
not_open : (o : Opening) (s : State) (journal : List Logged) (n : ℕ) → Now NoneDue o s journal →
    has (is_asked n) journal ≡ false → IsIn n (numbers s.functions) → ⊥
not_open o s journal n now new i = let q = in_open s.functions n i in
    both_ways (has (is_asked n) journal) new
    (subst (λ k. has (is_asked k) journal ≡ true) q.2 (now.inv.frame.opens.asked q.0 q.1).asking)

comes : (s : State) (journal : List Logged) (n : ℕ) (node : Node) (w : KeptWork) → AreWaiting [] journal s →
    AreWaiting [] (journal ++ arrived n node w ∷ []) (after s (arrived n node w))
comes s journal n node w h =
    subst (AreWaiting [] (journal ++ arrived n node w ∷ [])) (sym (after_arrived n node w s).1)
    (more [] journal (arrived n node w) s.tasks s.functions s.stopped s.to_b h)

arrives : (o : Opening) (size : ℕ) (s : State) (journal : List Logged) (node : Node) (w : KeptWork) →
    Now NoneDue o s journal → IsFine size s → AreWaiting [] journal s →
    Holds [] journal (arriving_at node w (next_number s) s).turn
arrives o size s journal node w now f h =
    arriving_by (Holds [] journal) node w n s (λ there. wrote [] s journal _ (comes s journal n node w h)) (taken w)
  where
    n : ℕ
    n = next_number s

    taken : (w : KeptWork) → is_remote node ≡ false → Holds [] journal (arriving_here node w n s).turn
    taken (work.Cmd c) here =
        let l : Logged = arrived n node (work.Cmd c) in
        let first : Turn = writes l s in
        then [] journal first (entering n c)
        (enters first.state (journal ++ first.journal) n node c (came_last s node (work.Cmd c))
        (has_not (is_enter n) journal l (now.inv.frame.books.fresh n (inl (omega arith))).enter refl)
        (comes s journal n node (work.Cmd c) h))
    taken (work.Ask ask) here =
        let l : Logged = arrived n node (work.Ask ask) in
        let first : Turn = writes l s in
        let state = (after_arrived n node (work.Ask ask) s).1 in
        then [] journal first (asking n ask)
        (asks first.state (journal ++ first.journal) n node ask (came_last s node (work.Ask ask))
        (λ i. not_open o s journal n now (now.inv.frame.books.fresh n (inl (omega arith))).asking
        (subst (λ (t : State). IsIn n (numbers t.functions)) state i))
        (sure size s first.state (ap (λ (t : State). t.tasks) state) (ap (λ (t : State). t.to_b) state) f)
        (comes s journal n node (work.Ask ask) h))

-- a command that is over at B is awaited no more
awaits_from : (n : ℕ) (fs : List Open) (p : Open) → HasOpen (map (awaits_no_more n) fs) p →
    (q : Open) × HasOpen fs q × (awaits_no_more n q ≡ p)
awaits_from n [] p h = absurd h
awaits_from n (f ∷ fs) p (inl h) = (f, inl refl, h)
awaits_from n (f ∷ fs) p (inr h) = let r = awaits_from n fs p h in (r.0, inr r.1, r.2)

in_filter : (m n : ℕ) (ns : List ℕ) → IsIn m (filter (λ k. not (nat_eq k n)) ns) → IsIn m ns × (m ≡ n → ⊥)
in_filter m n [] h = absurd h
in_filter m n (k ∷ ks) h = go (nat_eq k n) refl h (in_filter m n ks)
  where
    go : (t : Bool) → nat_eq k n ≡ t → IsIn m
        (cond (not t) (k ∷ filter (λ k. not (nat_eq k n)) ks) (filter (λ k. not (nat_eq k n)) ks)) →
        (IsIn m (filter (λ k. not (nat_eq k n)) ks) → IsIn m ks × (m ≡ n → ⊥)) → IsIn m (k ∷ ks) × (m ≡ n → ⊥)
    go true e h rec = let r = rec h in (inr r.0, r.1)
    go false e (inl h) rec = (inl h, λ i. eqb-false k n e (h ∙ i))
    go false e (inr h) rec = let r = rec h in (inr r.0, r.1)

no_longer : (journal : List Logged) (l : Logged) (n : ℕ) (s : State) → AreWaiting [] journal s →
    AreWaiting (numbers (map (awaits_no_more n) s.functions)) (journal ++ l ∷ []) (gone_at_b n s)
no_longer journal l n s h =
    more (numbers (map (awaits_no_more n) s.functions)) journal l (without_task n s.tasks)
    (map (awaits_no_more n) s.functions) s.stopped s.to_b (record {
      pending = λ x hx i. h.pending x (has_without n s.tasks x hx).0 i;
      awaited = λ p hp m i.
          let q = awaits_from n s.functions p hp in
          let j = in_filter m n q.0.awaits (subst (λ (z : Open). IsIn m z.awaits) (sym q.2) i) in
          let a = h.awaited q.0 q.1 m j.0 in
          (a.0, without_has n s.tasks a.0 a.1 (λ e. j.1 (sym a.2 ∙ e)), a.2, a.3);
      entered = λ x hx. h.entered x (has_without n s.tasks x hx).0;
      known = h.known;
      sorted = subst Ascending (sym (awaits_numbers n s.functions)) h.sorted;
      await = λ p hp e. open_in (map (awaits_no_more n) s.functions) p hp;
    })

delivers_a : (o : Opening) (size : ℕ) (s : State) (journal : List Logged) (m : Message) (ms : List Message) →
    s.to_a ≡ m ∷ ms → Now NoneDue o s journal → IsFine size s → AreWaiting [] journal s →
    Holds [] journal (delivering_first A (m ∷ ms) s).turn
delivers_a o size s journal m ms to now f h = then [] journal first (coming_to A m) (go m.kind refl)
  where
    l : Logged
    l = told (event.Deliver A m.kind m.no)

    first : Turn
    first = says (event.Deliver A m.kind m.no) s

    t : State
    t = after s l

    j : List Logged
    j = journal ++ l ∷ []

    state : is_end m.kind ≡ false → t ≡ record s { to_a = ms }
    state no_end = after_a m.kind m.no m ms s no_end to

    waits : is_end m.kind ≡ false → AreWaiting [] j t
    waits no_end =
        subst (AreWaiting [] j) (sym (state no_end)) (more [] journal l s.tasks s.functions s.stopped s.to_b h)

    still : is_end m.kind ≡ false → Holds [] j (nothing t)
    still no_end = stays [] t j (waits no_end)

    takes : is_arrival m.kind ≡ true → is_end m.kind ≡ false → (found : Option Arrival) → arrival_of m.no t ≡ found →
        Holds [] j (coming_in m.no found t)
    takes comes_in no_end None e = still no_end
    takes comes_in no_end (Some a) e = by a.work refl
      where
        fresh : Untouched m.no journal
        fresh = now.inv.frame.books.fresh m.no (inr (subst (λ q. IsAsk m.no q) (sym to) (inl (comes_in, refl))))

        by : (w : KeptWork) → a.work ≡ w → Holds [] j (taking_in m.no w t)
        by (work.Cmd c) i =
            enters t j m.no a.node c (e ∙ ap (λ w. Some (record { node = a.node; work = w })) i)
            (has_not (is_enter m.no) journal l fresh.enter refl) (waits no_end)
        by (work.Ask ask) i = asks t j m.no a.node ask (e ∙ ap (λ w. Some (record { node = a.node; work = w })) i)
            (λ k. not_open o s journal m.no now fresh.asking
            (subst (λ (u : State). IsIn m.no (numbers u.functions)) (state no_end) k))
            (sure size s t (ap (λ (u : State). u.tasks) (state no_end)) (ap (λ (u : State). u.to_b) (state no_end)) f)
            (waits no_end)

    shut : is_end m.kind ≡ true → Holds [] j (closing_all (open_numbers t) t)
    shut is =
        closes_all (open_numbers t) t j
        (subst (λ (u : State). AreWaiting (open_numbers u) j u) (sym (after_end m.kind m.no m ms s is to))
        (no_longer journal l m.no (record s { to_a = ms }) h))

    go : (i : Kind2) → m.kind ≡ i → Holds [] j (coming_to_a i m t)
    go kind.Ask e = takes (ap is_arrival e) (ap is_end e) (arrival_of m.no t) refl
    go kind.Function e = takes (ap is_arrival e) (ap is_end e) (arrival_of m.no t) refl
    go kind.Finish e = shut (ap is_end e)
    go kind.Stopped e = shut (ap is_end e)
    go kind.Grant e = still (ap is_end e)
    go kind.Stop e = still (ap is_end e)
    go kind.Reply e = still (ap is_end e)
    go kind.Response e = still (ap is_end e)

popped : (journal : List Logged) (l : Logged) (s : State) (ms : List Message) →
    ((x : Task) → Has s.tasks x → IsIn x.no s.stopped → Pending x.stage x.no s.to_b → Pending x.stage x.no ms) →
    AreWaiting [] journal s → AreWaiting [] (journal ++ l ∷ []) (record s { to_b = ms })
popped journal l s ms f h = more [] journal l s.tasks s.functions s.stopped ms (record {
  pending = λ x hx i. f x hx i (h.pending x hx i);
  awaited = h.awaited;
  entered = h.entered;
  known = h.known;
  sorted = h.sorted;
  await = h.await;
})

after_stop : (x : Task) (puts by : ℕ) (told_so : Bool) (done : ℕ) (got : List ℕ) (s : State) →
    task_of x.no s.tasks ≡ Some x → x.stage ≡ There done got →
    after s (told (event.Cut x.no puts (By by) told_so))
    ≡ record s {
      to_a = s.to_a ++ message kind.Stopped x.no ∷ [];
      tasks = with_task
          (at_stage Over x) s.tasks;
      functions = noted by x.no s.functions;
    }
unfolding after
after_stop x puts by told_so done got s e st =
    ap (λ f. after_cut (By by) f s) e ∙ ap (λ stage. cut_at (By by) stage x s) st

delivers_b : (size : ℕ) (s : State) (journal : List Logged) (m : Message) (ms : List Message) → s.to_b ≡ m ∷ ms →
    IsFine size s → AreWaiting [] journal s → Holds [] journal (delivering_first B (m ∷ ms) s).turn
delivers_b size s journal m ms to f h = then [] journal first (coming_to B m) (go m.kind refl)
  where
    l : Logged
    l = told (event.Deliver B m.kind m.no)

    first : Turn
    first = says (event.Deliver B m.kind m.no) s

    t : State
    t = after s l

    j : List Logged
    j = journal ++ l ∷ []

    single : (x y : Task) → Has s.tasks x → Has s.tasks y → x.no ≡ y.no → x ≡ y
    single = fine_single size s f

    at_first : (x : Task) → Pending x.stage x.no s.to_b → Pending x.stage x.no (m ∷ ms)
    at_first x k = subst (Pending x.stage x.no) to k

    -- the found one is of this stage, so each with its number is
    same_stage : (x y : Task) → task_of m.no s.tasks ≡ Some x → Has s.tasks y → m.no ≡ y.no → x ≡ y
    same_stage x y g hy e = let r = has_found m.no s.tasks x g in single x y r.0 hy (r.1 ∙ e)

    still : is_grant_kind m.kind ≡ false → is_grant m.kind ≡ false →
        ((x : Task) → Has s.tasks x → is_there x.stage ≡ true → is_stop m.kind ≡ true → m.no ≡ x.no → ⊥) →
        AreWaiting [] j t
    still a b c = subst (AreWaiting [] j) (sym (after_b m.kind m.no m ms s a to))
        (popped journal l s ms (λ x hx i k. pending_drop x.stage x.no m ms (λ g is e. both_ways (is_grant m.kind) b is) (c x hx) (at_first x k)) h)

    quietly : is_grant_kind m.kind ≡ false → is_grant m.kind ≡ false → is_stop m.kind ≡ false → Holds [] j (nothing t)
    quietly a b c = stays [] t j (still a b (λ x hx there is e. both_ways (is_stop m.kind) c is))

    grants : m.kind ≡ kind.Grant → (found : Option Task) → task_of m.no s.tasks ≡ found → AreWaiting [] j t
    grants k None g = none k (λ x g' st. let clash : None ≡ Some x = sym g ∙ g' in cc)
      where
        none : m.kind ≡ kind.Grant → ((x : Task) → task_of m.no s.tasks ≡ Some x → x.stage ≡ Granted → ⊥) →
            AreWaiting [] j t
        none k no_one =
            subst (AreWaiting [] j) (sym
            (ap (λ i. after s (told (event.Deliver B i m.no))) k ∙ after_no_grant m.no m ms s to no_one))
            (popped journal l s ms (λ x hx i p. pending_drop x.stage x.no m ms (λ given is e. not_here x hx e) (λ there is e. both_ways (is_stop m.kind) (ap is_stop k) is) (at_first x p)) h)
          where
            not_here : (x : Task) → Has s.tasks x → m.no ≡ x.no → ⊥
            not_here x hx e = found_none m.no s.tasks x g hx (sym e)
    grants k (Some x) g = at x.stage refl
      where
        state : (q : State) → after s (told (event.Deliver B kind.Grant m.no)) ≡ q → AreWaiting [] j q →
            AreWaiting [] j t
        state q e w = subst (AreWaiting [] j) (sym (ap (λ i. after s (told (event.Deliver B i m.no))) k ∙ e)) w

        other : (stage : Stage) → x.stage ≡ stage → is_given stage ≡ false → (stage ≡ Granted → ⊥) → AreWaiting [] j t
        other stage st no_given ne = state (record s { to_b = ms })
            (after_no_grant m.no m ms s to
            (λ y g' i. let same : x ≡ y = same_Some x y (sym g ∙ g') in
            ne (sym st ∙ ap (λ (z : Task). z.stage) same ∙ i)))
            (popped journal l s ms (λ y hy i p. pending_drop y.stage y.no m ms
            (λ given is e. both_ways (is_given x.stage) (ap is_given st ∙ no_given)
            (subst (λ (z : Task). is_given z.stage ≡ true) (sym (same_stage x y g hy e)) given))
            (λ there is e. both_ways (is_stop m.kind) (ap is_stop k) is) (at_first y p)) h)

        at : (stage : Stage) → x.stage ≡ stage → AreWaiting [] j t
        at Granted st =
            state (record s { to_b = ms; tasks = with_task (at_stage (There 0 []) x) s.tasks })
            (after_grant m.no m ms x s to g st)
            (more [] journal l _ _ _ _
            (turns [] journal s.tasks s.functions s.stopped s.to_b ms x (There 0 []) (has_found m.no s.tasks x g).0
            (λ i. behind (at_first x (h.pending x (has_found m.no s.tasks x g).0 i)))
            (λ y hy ne p. pending_drop y.stage y.no m ms (λ given is e. ne (sym e ∙ sym (has_found m.no s.tasks x g).1))
            (λ there is e. both_ways (is_stop m.kind) (ap is_stop k) is) (at_first y p)) h))
          where
            behind : Pending x.stage x.no (m ∷ ms) → Sent is_stop x.no ms
            behind p = by (subst (λ i. Pending i x.no (m ∷ ms)) st p)
              where
                by : StopBehind x.no (m ∷ ms) → Sent is_stop x.no ms
                by (inl i) = i.2
                by (inr i) = stop_somewhere x.no ms i
        at Waiting st = other Waiting st refl (λ z. cc)
        at (Here d got) st = other (Here d got) st refl (λ z. cc)
        at (There d got) st = other (There d got) st refl (λ z. cc)
        at Over st = other Over st refl (λ z. cc)

    stops : m.kind ≡ kind.Stop → (found : Option Task) → task_of m.no s.tasks ≡ found → Holds [] j (stopping found m t)
    stops k None g =
        stays [] t j (still (ap is_grant_kind k) (ap is_grant k)
        (λ x hx there is e. found_none m.no s.tasks x g hx (sym e)))
    stops k (Some x) g = at x.stage refl
      where
        state : t ≡ record s { to_b = ms }
        state = after_b m.kind m.no m ms s (ap is_grant_kind k) to

        rest : (stage : Stage) → x.stage ≡ stage → is_there stage ≡ false → Holds [] j (nothing t)
        rest stage st away = stays [] t j (still (ap is_grant_kind k) (ap is_grant k)
            (λ y hy there is e. both_ways (is_there x.stage) (ap is_there st ∙ away)
            (subst (λ (z : Task). is_there z.stage ≡ true) (sym (same_stage x y g hy e)) there)))

        at : (stage : Stage) → x.stage ≡ stage → Holds [] j (stopping_at stage x m t)
        at Waiting st = rest Waiting st refl
        at (Here d got) st = rest (Here d got) st refl
        at Granted st = rest Granted st refl
        at Over st = rest Over st refl
        at (There d got) st =
            wrote [] t j c (subst (AreWaiting [] (j ++ c ∷ [])) (sym cut)
            (more [] j c _ _ _ _ (notes [] j _ _ _ _ m.by x.no
            (more [] journal l _ _ _ _
            (turns [] journal s.tasks s.functions s.stopped s.to_b ms x Over (has_found m.no s.tasks x g).0 (λ i. tt)
            (λ y hy ne p. pending_drop y.stage y.no m ms (λ given is e. both_ways (is_grant m.kind) (ap is_grant k) is)
            (λ there is e. ne (sym e ∙ sym (has_found m.no s.tasks x g).1)) (at_first y p)) h)))))
          where
            c : Logged
            c = told (event.Cut x.no (puts_of x t) (By m.by) m.told)

            cut : after t c ≡ record s {
              to_b = ms;
              to_a = s.to_a ++ message kind.Stopped x.no ∷ [];
              tasks = with_task
                  (at_stage Over x) s.tasks;
              functions = noted m.by x.no s.functions;
            }
            cut = ap (λ (u : State). after u c) state ∙ after_stop x (puts_of x t) m.by m.told d got
                (record s { to_b = ms }) (found_again m.no s.tasks x g) st

    go : (i : Kind2) → m.kind ≡ i → Holds [] j (coming_to_b i m t)
    go kind.Stop e =
        subst (λ (found : Option Task). Holds [] j (stopping found m t))
        (sym (ap (λ (u : State). task_of m.no u.tasks) (after_b m.kind m.no m ms s (ap is_grant_kind e) to)))
        (stops e (task_of m.no s.tasks) refl)
    go kind.Grant e = stays [] t j (grants e (task_of m.no s.tasks) refl)
    go kind.Ask e = quietly (ap is_grant_kind e) (ap is_grant e) (ap is_stop e)
    go kind.Function e = quietly (ap is_grant_kind e) (ap is_grant e) (ap is_stop e)
    go kind.Finish e = quietly (ap is_grant_kind e) (ap is_grant e) (ap is_stop e)
    go kind.Stopped e = quietly (ap is_grant_kind e) (ap is_grant e) (ap is_stop e)
    go kind.Reply e = quietly (ap is_grant_kind e) (ap is_grant e) (ap is_stop e)
    go kind.Response e = quietly (ap is_grant_kind e) (ap is_grant e) (ap is_stop e)

delivers : (o : Opening) (size : ℕ) (s : State) (journal : List Logged) (node : Node) → Now NoneDue o s journal →
    IsFine size s → AreWaiting [] journal s → Holds [] journal (delivering node s).turn
delivers o size s journal node now f h = go node (messages_to node s) refl
  where
    go : (at : Node) (ms : List Message) → messages_to at s ≡ ms → Holds [] journal (delivering_first at ms s).turn
    go at [] e = stays [] s journal h
    go A (m ∷ ms) e = delivers_a o size s journal m ms e now f h
    go B (m ∷ ms) e = delivers_b size s journal m ms e f h

acts_wait : (o : Opening) (size : ℕ) (s : State) (journal : List Logged) (a : Act) (fault : Option ℕ) →
    Now NoneDue o s journal → IsFine size s → AreWaiting [] journal s → Holds [] journal (doing s a fault).turn
acts_wait o size s journal (act.Arrive node w) fault now f h = go (has_room_for w s)
  where
    go : (t : Bool) → Holds [] journal
        (cond {A = Done} t (arriving_at node w (next_number s) s)
        (record { turn = nothing s; answer = answer.NoRoom w })).turn
    go true = arrives o size s journal node w now f h
    go false = stays [] s journal h
acts_wait o size s journal (act.Step number count) fault now f h =
    steps [] s journal number count fault (fine_single size s f) h
acts_wait o size s journal (act.Deliver node) fault now f h = delivers o size s journal node now f h
acts_wait o size s journal (act.Next count) fault now f h = go s.to_a s.to_b
  where
    next : (found : Option ℕ) → Holds [] journal (stepping_next found count fault s).turn
    next None = stays [] s journal h
    next (Some number) = steps [] s journal number count fault (fine_single size s f) h

    go : (to_a to_b : List Message) → Holds [] journal (doing_next to_a to_b count fault s).turn
    go (m ∷ ms) to_b = delivers o size s journal A now f h
    go [] (m ∷ ms) = delivers o size s journal B now f h
    go [] [] = next (next_step s)

-- All runs

waits_run : (laws : Laws) (o : Opening) (journal : List Logged) → IsRun o journal →
    IsFine (length (opened o).blocks) (replay o journal) × AreWaiting [] journal (replay o journal)
waits_run laws o journal run = let all = every in (all.0, all.2)
  where
    n : ℕ
    n = length (opened o).blocks

    every : IsFine n (replay o journal) × Now NoneDue o (replay o journal) journal × AreWaiting [] journal
        (replay o journal)
    every = run_induction o (λ s es. IsFine n s × Now NoneDue o s es × AreWaiting [] es s) (
      fine_opened o,
      opened_so o,
      record {
        pending = λ x hx i. absurd hx;
        awaited = λ p hp m i. absurd hp;
        entered = λ x hx. absurd hx;
        known = λ m i. absurd i;
        sorted = tt;
        await = λ p hp e. absurd hp;
      },
    )
        (λ s es a fault allowed h. (
          fine_act laws n s a fault h.0,
          acts_so laws o s es a fault h.1 (λ m. let k = h.0.single m in omega (arith, k)),
          (acts_wait o n s es a fault h.1 h.0 h.2).waits,
        )) journal run

-- where no message is on its way, no function is open
pub none_waits : (laws : Laws) (o : Opening) (journal : List Logged) → IsRun o journal → (replay o journal).to_a ≡ [] →
    (replay o journal).to_b ≡ [] → (replay o journal).functions ≡ []
none_waits laws o journal run a b = go s.functions refl
  where
    s : State
    s = replay o journal

    all : IsFine (length (opened o).blocks) s × AreWaiting [] journal s
    all = waits_run laws o journal run

    unsent : (x : Task) → Has s.tasks x → IsIn x.no s.stopped → ⊥
    unsent x hx i = by x.stage ((all.0.told x hx).1) (subst (Pending x.stage x.no) b (all.1.pending x hx i))
      where
        by : (stage : Stage) → (is_over stage ≡ true → Sent is_end x.no s.to_a) → Pending stage x.no [] → ⊥
        by Waiting end p = p
        by (Here d g) end p = p
        by Granted end p = p
        by (There d g) end p = p
        by Over end p = subst (Sent is_end x.no) a (end refl)

    at : (p : Open) → HasOpen s.functions p → (awaits : List ℕ) → p.awaits ≡ awaits → ⊥
    at p hp [] e = all.1.await p hp e
    at p hp (n ∷ ns) e = let r = all.1.awaited p hp n (subst (IsIn n) (sym e) (inl refl)) in
        unsent r.0 r.1 (subst (λ k. IsIn k s.stopped) (sym r.2) r.3)

    go : (fs : List Open) → s.functions ≡ fs → fs ≡ []
    go [] e = refl
    go (p ∷ fs) e = absurd (at p (subst (λ q. HasOpen q p) (sym e) (inl refl)) p.awaits refl)
