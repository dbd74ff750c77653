-- What is on its way: a grant for each command that is granted, an end for each that is over, and each number once.
use Rattle.std.proofs.Common.{◌≡◌, ℕ, ◌+◌, ◌≤◌, ◌<◌, ◌⊎◌, inl, inr, Bool, true, false, ◌&&◌, List, [], ◌∷◌, ◌++◌}
use Rattle.std.proofs.Common.{Option, Some, None, length, take, drop, refl, sym, ap, ◌∙◌, subst, ⊎_elim, nat_eq, cond}
use Rattle.std.proofs.Common.{eqb-true, eq-eqb, arith, length-append}
use Rattle.std.proofs.lemmas.Bool.{both_ways, cases_lt}
use Rattle.ct_word.specs.declared.names.Node.{Node}
use Rattle.ct_word.specs.declared.names.Node.TheVariants.{A, B}
use Rattle.ct_sense.specs.declared.reply.Reply.{Reply}
use Rattle.ct_matrix.specs.Conflicts.{is_head}
use Rattle.ct_matrix.specs.Queues.{before_first}
use Rattle.ct_book.specs.declared.work.Work.TheVariants as work
use Rattle.ct_book.specs.declared.event.Event.{Event}
use Rattle.ct_book.specs.declared.event.Event.TheVariants as event
use Rattle.ct_book.specs.declared.event.Kind2.{Kind2}
use Rattle.ct_book.specs.declared.event.Kind2.TheVariants as kind
use Rattle.ct_book.specs.declared.event.Why.{Why}
use Rattle.ct_book.specs.declared.event.Why.TheVariants.{By, Medium}
use Rattle.ct_book.specs.declared.event.Logged.{Logged}
use Rattle.ct_book.specs.Journals.{KeptWork}
use Rattle.ct_plan.specs.Cells.{Cells}
use Rattle.ct_exec.specs.Controls.{tells_aborts}
use Rattle.ct_exec.specs.Executions.{Execution, execute, plan_in}
use Rattle.ct_machine.specs.declared.act.Act.{Act}
use Rattle.ct_machine.specs.declared.act.Opening.{Opening}
use Rattle.ct_machine.specs.States.{Stage, Waiting, Here, Granted, There, Over, Task, Open, Message, Arrival, State}
use Rattle.ct_machine.specs.States.{opened, disk_of, arrival_of, task_of, function_of, is_waiting, without_task}
use Rattle.ct_machine.specs.States.{with_task, at_stage, waits, queued}
use Rattle.ct_machine.specs.States.{is_remote}
use Rattle.ct_machine.specs.Events.Sends.{message, to_b_if, came_remote, answered, to_a}
use Rattle.ct_machine.specs.Events.Arrivals.{new_task, after_enter, entered, after_came, kind_of}
use Rattle.ct_machine.specs.Events.Moves.{staged, cells_after, further, moved_from, moved_at, after_moved}
use Rattle.ct_machine.specs.Events.Ends.{leaves, over_at_b, stops_with, executed_at_once, ended_at, after_ended, cut_at}
use Rattle.ct_machine.specs.Events.Ends.{after_cut}
use Rattle.ct_machine.specs.Events.Functions.{asked_for, after_asked, closed}
use Rattle.ct_machine.specs.Events.Deliveries.{came_to_a, begun_at_b, after_grant, came_to_b}
use Rattle.ct_machine.specs.Events.{after_event, after}
use Rattle.ct_machine.specs.Acts.Turns.{Turn}
use Rattle.ct_machine.specs.Acts.Entries.{turned_cause, entering_with}
use Rattle.ct_machine.specs.Acts.Messages.{taking_in, coming_in, coming_to_a, coming_to_b, delivering_first}
use Rattle.ct_machine.specs.Acts.Messages.{messages_to}
use Rattle.ct_machine.specs.Acts.Functions.{open_numbers}
use Rattle.ct_machine.specs.Acts.Arrivals.{next_number, arriving_at, arriving_here}
use Rattle.ct_machine.specs.Acts.{doing}
use Rattle.ct_law.proofs.Events.Nodes.{arriving_by, came_in, came_by}
use Rattle.ct_law.proofs.Lists.Tasks.{Has, has_found, has_without, has_with, has_queued}
use Rattle.ct_law.proofs.Lists.Messages.{is_arrival, is_end, is_grant, Sent, push_sent, push_last, append_sent}
use Rattle.ct_law.proofs.Frame.Books.{is_over}
use Rattle.ct_plan.proofs.Performing.{size_after_all}
use Rattle.ct_law.proofs.Rows.Laws.{Laws}
use Rattle.ct_law.proofs.Runs.{is_free, Turning, asks, closes_all, comes_to_b, acts}

-- Counts

abbrev pub one_if : Bool → ℕ
one_if t = cond t 1 0

-- how many commands have the number, and how many works with it are on their way
abbrev pub in_tasks : ℕ → List Task → ℕ
in_tasks n [] = 0
in_tasks n (x ∷ xs) = one_if (nat_eq x.no n) + in_tasks n xs

abbrev pub in_messages : ℕ → List Message → ℕ
in_messages n [] = 0
in_messages n (m ∷ ms) = one_if (is_arrival m.kind && nat_eq m.no n) + in_messages n ms

pub in_with : (n : ℕ) (w : Task) (q : List Task) → in_tasks n (with_task w q) ≡ in_tasks n q
in_with n w [] = refl
in_with n w (x ∷ xs) =
    ap (λ m. one_if (nat_eq m n) + in_tasks n (with_task w xs)) (go (nat_eq x.no w.no) refl) ∙ ap
    (λ r. one_if (nat_eq x.no n) + r) (in_with n w xs)
  where
    go : (t : Bool) → nat_eq x.no w.no ≡ t → (cond t w x).no ≡ x.no
    go true k = sym (eqb-true x.no w.no k)
    go false k = refl

pub in_without : (n m : ℕ) (q : List Task) → in_tasks n (without_task m q) ≤ in_tasks n q
in_without n m [] = omega arith
in_without n m (x ∷ xs) = go (nat_eq x.no m) (in_without n m xs)
  where
    go : (t : Bool) → in_tasks n (without_task m xs) ≤ in_tasks n xs →
        in_tasks n (cond t (without_task m xs) (x ∷ without_task m xs)) ≤ one_if (nat_eq x.no n) + in_tasks n xs
    go true h = omega (arith, h)
    go false h = omega (arith, h)

in_push : (n : ℕ) (w : Task) (q : List Task) → in_tasks n (q ++ w ∷ []) ≡ one_if (nat_eq w.no n) + in_tasks n q
in_push n w [] = refl
in_push n w (x ∷ xs) = let h = in_push n w xs in omega (arith, h)

in_before : (n : ℕ) (w : Task) (q : List Task) →
    in_tasks n (before_first waits w q) ≡ one_if (nat_eq w.no n) + in_tasks n q
in_before n w [] = refl
in_before n w (x ∷ xs) = go (is_waiting x.stage) (in_before n w xs)
  where
    go : (t : Bool) → in_tasks n (before_first waits w xs) ≡ one_if (nat_eq w.no n) + in_tasks n xs →
        in_tasks n (cond t (w ∷ x ∷ xs) (x ∷ before_first waits w xs)) ≡ one_if
        (nat_eq w.no n) + (one_if (nat_eq x.no n) + in_tasks n xs)
    go true h = refl
    go false h = omega (arith, h)

pub in_queued : (n : ℕ) (w : Task) (q : List Task) → in_tasks n (queued w q) ≡ one_if (nat_eq w.no n) + in_tasks n q
in_queued n w q = go (is_head w.command.attr)
  where
    go : (t : Bool) → in_tasks n (cond t (before_first waits w q) (q ++ w ∷ [])) ≡ one_if (nat_eq w.no n) + in_tasks n q
    go true = in_before n w q
    go false = in_push n w q

pub in_sent : (n : ℕ) (ms : List Message) (m : Message) →
    in_messages n (ms ++ m ∷ []) ≡ one_if (is_arrival m.kind && nat_eq m.no n) + in_messages n ms
in_sent n [] m = refl
in_sent n (k ∷ ms) m = let h = in_sent n ms m in omega (arith, h)

no_arrival : (n : ℕ) (m : Message) → is_arrival m.kind ≡ false → one_if (is_arrival m.kind && nat_eq m.no n) ≡ 0
no_arrival n m e = ap (λ t. one_if (t && nat_eq m.no n)) e

one_itself : (n : ℕ) → one_if (nat_eq n n) ≡ 1
one_itself n = ap one_if (eq-eqb n n refl)

one_other : (m n : ℕ) → (m ≡ n → ⊥) → one_if (nat_eq m n) ≡ 0
one_other m n ne = go (nat_eq m n) refl
  where
    go : (t : Bool) → nat_eq m n ≡ t → one_if t ≡ 0
    go true e = absurd (ne (eqb-true m n e))
    go false e = refl

pub has_in : (q : List Task) (x : Task) → Has q x → 1 ≤ in_tasks x.no q
has_in [] x h = absurd h
has_in (y ∷ ys) x (inl h) =
    let e : one_if (nat_eq y.no x.no) ≡ 1 = ap one_if (eq-eqb y.no x.no (ap (λ (z : Task). z.no) h)) in omega (arith, e)
has_in (y ∷ ys) x (inr h) = let k = has_in ys x h in omega (arith, k)

-- a number that stands once
pub single_in : (q : List Task) (x y : Task) → in_tasks x.no q ≤ 1 → Has q x → Has q y → x.no ≡ y.no → x ≡ y
single_in [] x y h hx hy e = absurd hx
single_in (z ∷ zs) x y h (inl hx) (inl hy) e = sym hx ∙ hy
single_in (z ∷ zs) x y h (inr hx) (inr hy) e = single_in zs x y (omega (arith, h)) hx hy e
single_in (z ∷ zs) x y h (inl hx) (inr hy) e =
    let a : one_if (nat_eq z.no x.no) ≡ 1 = ap one_if (eq-eqb z.no x.no (ap (λ (z : Task). z.no) hx)) in
    let b : 1 ≤ in_tasks x.no zs = subst (λ n. 1 ≤ in_tasks n zs) (sym e) (has_in zs y hy) in
    absurd (omega (arith, a, b, h))
single_in (z ∷ zs) x y h (inr hx) (inl hy) e =
    let a : one_if (nat_eq z.no x.no) ≡ 1 = ap one_if (eq-eqb z.no x.no (ap (λ (z : Task). z.no) hy ∙ sym e)) in
    let b : 1 ≤ in_tasks x.no zs = has_in zs x hx in
    absurd (omega (arith, a, b, h))

pub sent_in : (n : ℕ) (ms : List Message) → Sent is_arrival n ms → 1 ≤ in_messages n ms
sent_in n [] h = absurd h
sent_in n (m ∷ ms) (inr h) = let k = sent_in n ms h in omega (arith, k)
sent_in n (m ∷ ms) (inl h) =
    let e : one_if (is_arrival m.kind && nat_eq m.no n) ≡ 1 =
    ap (λ t. one_if (t && nat_eq m.no n)) h.0 ∙ ap one_if (eq-eqb m.no n h.1) in omega (arith, e)

pub found_none : (n : ℕ) (q : List Task) (x : Task) → task_of n q ≡ None → Has q x → x.no ≡ n → ⊥
found_none n [] x e h k = h
found_none n (y ∷ ys) x e h k = go (nat_eq y.no n) refl e h (λ e' h'. found_none n ys x e' h' k)
  where
    go : (t : Bool) → nat_eq y.no n ≡ t → cond t (Some y) (task_of n ys) ≡ None → Has (y ∷ ys) x →
        (task_of n ys ≡ None → Has ys x → ⊥) → ⊥
    go true a e h rec = cc
    go false a e (inl h) rec = both_ways (nat_eq y.no n) a (eq-eqb y.no n (ap (λ (z : Task). z.no) h ∙ k))
    go false a e (inr h) rec = rec e h

-- The invariant

abbrev pub is_given : Stage → Bool
is_given Granted = true
is_given Waiting = false
is_given (Here done got) = false
is_given (There done got) = false
is_given Over = false

abbrev pub Told : List Message → List Message → Task → Type 0
Told to_a to_b x =
    (is_given x.stage ≡ true → Sent is_grant x.no to_b) × (is_over x.stage ≡ true → Sent is_end x.no to_a)

pub record Fine (size : ℕ) (arrivals : List Arrival) (tasks : List Task) (to_a : List Message) (to_b : List Message)
    (blocks : List (List ℕ)) : Type 0 where
  -- each number stands once, in the task set or on its way, and none that is still to come
  pub single : (n : ℕ) → in_tasks n tasks + in_messages n to_a ≤ 1
  pub new : (n : ℕ) → length arrivals < n → in_tasks n tasks + in_messages n to_a ≡ 0
  pub told : (x : Task) → Has tasks x → Told to_a to_b x
  pub sized : length blocks ≡ size

abbrev pub IsFine : ℕ → State → Type 0
IsFine size s = Fine size s.arrivals s.tasks s.to_a s.to_b s.blocks

pub fine_single : (size : ℕ) (s : State) → IsFine size s → (x y : Task) → Has s.tasks x → Has s.tasks y → x.no ≡ y.no →
    x ≡ y
fine_single size s h x y hx hy e = let k = h.single x.no in single_in s.tasks x y (omega (arith, k)) hx hy e

fine_b : (size : ℕ) (s : State) (ms : List Message) → IsFine size s → IsFine size (record s { to_b = s.to_b ++ ms })
fine_b size s ms h = record {
  single = h.single;
  new = h.new;
  told = λ x k. (λ g. append_sent is_grant x.no s.to_b ms ((h.told x k).0 g), (h.told x k).1);
  sized = h.sized;
}

fine_a : (size : ℕ) (s : State) (m : Message) → is_arrival m.kind ≡ false → IsFine size s →
    IsFine size (record s { to_a = s.to_a ++ m ∷ [] })
fine_a size s m e h = record {
  single = λ n. let k = h.single n in let a = in_sent n s.to_a m in let b = no_arrival n m e in omega (arith, k, a, b);
  new = λ n l. let k = h.new n l in let a = in_sent n s.to_a m in let b = no_arrival n m e in omega (arith, k, a, b);
  told = λ x k. ((h.told x k).0, λ o. push_sent is_end x.no s.to_a m ((h.told x k).1 o));
  sized = h.sized;
}

fine_turns : (size : ℕ) (s : State) (w : Task) → Told s.to_a s.to_b w → IsFine size s →
    IsFine size (record s { tasks = with_task w s.tasks })
fine_turns size s w t h = record {
  single = λ n. subst (λ k. k + in_messages n s.to_a ≤ 1) (sym (in_with n w s.tasks)) (h.single n);
  new = λ n l. subst (λ k. k + in_messages n s.to_a ≡ 0) (sym (in_with n w s.tasks)) (h.new n l);
  told = λ x k. ⊎_elim (λ (e : w ≡ x). subst (Told s.to_a s.to_b) e t)
      (λ (o : Has s.tasks x × (x.no ≡ w.no → ⊥)). h.told x o.0) (has_with w s.tasks x k);
  sized = h.sized;
}

fine_leaves : (size n : ℕ) (s : State) → IsFine size s → IsFine size (leaves n s)
fine_leaves size n s h = record {
  single = λ m. let k = h.single m in let a = in_without m n s.tasks in omega (arith, k, a);
  new = λ m l. let k = h.new m l in let a = in_without m n s.tasks in omega (arith, k, a);
  told = λ x k. h.told x (has_without n s.tasks x k).0;
  sized = h.sized;
}

fine_blocks : (size : ℕ) (s : State) (blocks : List (List ℕ)) → length blocks ≡ length s.blocks → IsFine size s →
    IsFine size (record s { blocks = blocks })
fine_blocks size s blocks e h = record { single = h.single; new = h.new; told = h.told; sized = e ∙ h.sized }

fine_answered : (size : ℕ) (s : State) (k : Kind2) (n : ℕ) → IsFine size s → IsFine size (answered k n s)
fine_answered size s k n h = go (came_remote (arrival_of n s))
  where
    go : (t : Bool) → IsFine size (to_b_if t (message k n) s)
    go true = fine_b size s (message k n ∷ []) h
    go false = h

fine_over : (size : ℕ) (s : State) (k : Kind2) (x : Task) → is_end k ≡ true → is_arrival k ≡ false → IsFine size s →
    IsFine size (over_at_b k x s)
fine_over size s k x e a h =
    let sent : State = record s { to_a = s.to_a ++ message k x.no ∷ [] } in
    fine_turns size sent (at_stage Over x) (λ g. absurd (cc), λ o. push_last is_end s.to_a (message k x.no) e)
    (fine_a size s (message k x.no) a h)

-- Events that no arrival or message brings

pub fine_begun : (size : ℕ) (s : State) (found : Option Task) → IsFine size s → IsFine size (staged (Here 0 []) found s)
fine_begun size s None h = h
fine_begun size s (Some x) h = fine_turns size s (at_stage (Here 0 []) x) (λ g. absurd (cc), λ o. absurd (cc)) h

fine_granted : (size : ℕ) (s : State) (n : ℕ) (found : Option Task) → task_of n s.tasks ≡ found → IsFine size s →
    IsFine size (record (staged Granted found s) { to_b = (staged Granted found s).to_b ++ message kind.Grant n ∷ [] })
fine_granted size s n None e h = fine_b size s (message kind.Grant n ∷ []) h
fine_granted size s n (Some x) e h =
    let sent : State = record s { to_b = s.to_b ++ message kind.Grant n ∷ [] } in
    fine_turns size sent (at_stage Granted x) (
      λ g. subst (λ m. Sent is_grant m sent.to_b) (sym (has_found n s.tasks x e).1)
          (push_last is_grant s.to_b (message kind.Grant n) refl),
      λ o. absurd (cc),
    )
    (fine_b size s (message kind.Grant n ∷ []) h)

told_further : (to_a to_b : List Message) (stage : Stage) (done : ℕ) (got : List ℕ) (x : Task) →
    Told to_a to_b (at_stage (further stage done got) x)
told_further to_a to_b Waiting done got x = (λ g. absurd (cc), λ o. absurd (cc))
told_further to_a to_b (Here d g) done got x = (λ g. absurd (cc), λ o. absurd (cc))
told_further to_a to_b Granted done got x = (λ g. absurd (cc), λ o. absurd (cc))
told_further to_a to_b (There d g) done got x = (λ g. absurd (cc), λ o. absurd (cc))
told_further to_a to_b Over done got x = (λ g. absurd (cc), λ o. absurd (cc))

fine_moved : (size : ℕ) (s : State) (x : Task) (count done : ℕ) (got : List ℕ) → IsFine size s →
    IsFine size (moved_from x count done got s)
fine_moved size s x count done got h =
    let cells : Cells = cells_after x count done got s in
    let now : State = record s { blocks = cells.blocks } in
    let operations = take count (drop done (plan_in (length s.blocks) x.command)) in
    let same : length cells.blocks ≡ length s.blocks =
    size_after_all x.command.out operations (record { blocks = s.blocks; got = got }) in
    fine_turns size now (at_stage (further x.stage (done + count) cells.got) x)
    (told_further now.to_a now.to_b x.stage (done + count) cells.got x) (fine_blocks size s cells.blocks same h)

fine_moved_at : (size : ℕ) (s : State) (stage : Stage) (x : Task) (count : ℕ) → IsFine size s →
    IsFine size (moved_at stage x count s)
fine_moved_at size s (Here done got) x count h = fine_moved size s x count done got h
fine_moved_at size s (There done got) x count h = fine_moved size s x count done got h
fine_moved_at size s Waiting x count h = h
fine_moved_at size s Granted x count h = h
fine_moved_at size s Over x count h = h

fine_after_moved : (size : ℕ) (s : State) (found : Option Task) (count : ℕ) → IsFine size s →
    IsFine size (after_moved found count s)
fine_after_moved size s None count h = h
fine_after_moved size s (Some x) count h = fine_moved_at size s x.stage x count h

fine_at_once : (laws : Laws) (size : ℕ) (s : State) (x : Task) → IsFine size s → IsFine size (executed_at_once x s)
fine_at_once laws size s x h =
    let execution : Execution = execute (disk_of s) x.command in
    let now : State = record s { control = execution.disk.control; blocks = execution.disk.blocks } in
    let left : State = answered kind.Reply x.no (leaves x.no now) in
    fine_b size left (stops_with (tells_aborts s.control) x.no execution.cleared left.tasks)
    (fine_answered size (leaves x.no now) kind.Reply x.no
    (fine_leaves size x.no now (fine_blocks size s execution.disk.blocks (laws.sizes (disk_of s) x.command) h)))

fine_ended_at : (laws : Laws) (size : ℕ) (s : State) (stage : Stage) (x : Task) → IsFine size s →
    IsFine size (ended_at stage x s)
fine_ended_at laws size s Waiting x h = fine_at_once laws size s x h
fine_ended_at laws size s (There done got) x h = fine_over size s kind.Finish x refl refl h
fine_ended_at laws size s (Here done got) x h =
    fine_answered size (leaves x.no s) kind.Reply x.no (fine_leaves size x.no s h)
fine_ended_at laws size s Granted x h = fine_answered size (leaves x.no s) kind.Reply x.no (fine_leaves size x.no s h)
fine_ended_at laws size s Over x h = fine_answered size (leaves x.no s) kind.Reply x.no (fine_leaves size x.no s h)

fine_ended : (laws : Laws) (size : ℕ) (s : State) (found : Option Task) → IsFine size s →
    IsFine size (after_ended found s)
fine_ended laws size s None h = h
fine_ended laws size s (Some x) h = fine_ended_at laws size s x.stage x h

fine_cut_at : (size : ℕ) (s : State) (why : Why) (stage : Stage) (x : Task) → IsFine size s →
    IsFine size (cut_at why stage x s)
fine_cut_at size s (By by) (There done got) x h = fine_over size s kind.Stopped x refl refl h
fine_cut_at size s (By by) Waiting x h = fine_leaves size x.no s h
fine_cut_at size s (By by) (Here done got) x h = fine_leaves size x.no s h
fine_cut_at size s (By by) Granted x h = fine_leaves size x.no s h
fine_cut_at size s (By by) Over x h = fine_leaves size x.no s h
fine_cut_at size s Medium (There done got) x h = fine_over size s kind.Finish x refl refl h
fine_cut_at size s Medium Waiting x h = fine_answered size (leaves x.no s) kind.Reply x.no (fine_leaves size x.no s h)
fine_cut_at size s Medium (Here done got) x h =
    fine_answered size (leaves x.no s) kind.Reply x.no (fine_leaves size x.no s h)
fine_cut_at size s Medium Granted x h = fine_answered size (leaves x.no s) kind.Reply x.no (fine_leaves size x.no s h)
fine_cut_at size s Medium Over x h = fine_answered size (leaves x.no s) kind.Reply x.no (fine_leaves size x.no s h)

fine_cut : (size : ℕ) (s : State) (why : Why) (found : Option Task) → IsFine size s →
    IsFine size (after_cut why found s)
fine_cut size s why None h = h
fine_cut size s why (Some x) h = fine_cut_at size s why x.stage x h

fine_asked_for : (size : ℕ) (s : State) (n : ℕ) (w : KeptWork) → IsFine size s → IsFine size (asked_for n w s)
fine_asked_for size s n (work.Ask ask) h = fine_b size s _ h
fine_asked_for size s n (work.Cmd command) h = h

fine_asked : (size : ℕ) (s : State) (n : ℕ) (found : Option Arrival) → IsFine size s →
    IsFine size (after_asked n found s)
fine_asked size s n None h = h
fine_asked size s n (Some arrival) h = fine_asked_for size s n arrival.work h

fine_closed : (size : ℕ) (s : State) (found : Option Open) → IsFine size s → IsFine size (closed found s)
fine_closed size s None h = h
fine_closed size s (Some function) h = h

fine_event : (laws : Laws) (size : ℕ) (s : State) (e : Event) (came : Option KeptWork) → is_free e ≡ true →
    IsFine size s → IsFine size (after_event e came s)
fine_event laws size s (event.Came number node line) came f h = absurd (cc)
fine_event laws size s (event.Enter number) came f h = absurd (cc)
fine_event laws size s (event.Deliver node kind number) came f h = absurd (cc)
fine_event laws size s (event.Turned number) came f h = fine_answered size s kind.Reply number h
fine_event laws size s (event.Begun number) came f h = fine_begun size s (task_of number s.tasks) h
fine_event laws size s (event.Granted number) came f h = fine_granted size s number (task_of number s.tasks) refl h
fine_event laws size s (event.Moved number count) came f h = fine_after_moved size s (task_of number s.tasks) count h
fine_event laws size s (event.Ended number) came f h = fine_ended laws size s (task_of number s.tasks) h
fine_event laws size s (event.Cut number puts why told) came f h = fine_cut size s why (task_of number s.tasks) h
fine_event laws size s (event.Asked number) came f h = fine_asked size s number (arrival_of number s) h
fine_event laws size s (event.Closed number outcome) came f h =
    fine_answered size (closed (function_of number s.functions) s) kind.Response number
    (fine_closed size s (function_of number s.functions) h)

pub fine_free : (laws : Laws) (size : ℕ) (s : State) (l : Logged) → is_free l.event ≡ true → IsFine size s →
    IsFine size (after s l)
unfolding after
fine_free laws size s l f h = fine_event laws size s l.event l.work f h

-- Arrivals and messages

-- the number is neither in the task set nor on its way, and has come
pub record IsFree (n : ℕ) (arrivals : List Arrival) (tasks : List Task) (to_a : List Message) : Type 0 where
  pub none : in_tasks n tasks + in_messages n to_a ≡ 0
  pub within : n ≤ length arrivals

abbrev pub IsFineWith : ℕ → ℕ → State → Type 0
IsFineWith size n s = IsFine size s × IsFree n s.arrivals s.tasks s.to_a

abbrev pub with_arrival : State → Node → KeptWork → State
with_arrival s node w = record s { arrivals = s.arrivals ++ record { node = node; work = w } ∷ [] }

fine_arrival : (size : ℕ) (s : State) (node : Node) (w : KeptWork) → IsFine size s →
    IsFineWith size (next_number s) (with_arrival s node w)
fine_arrival size s node w h =
    let more : length (s.arrivals ++ record { node = node; work = w } ∷ []) ≡ length s.arrivals + 1 =
    length-append s.arrivals (record { node = node; work = w } ∷ []) in (
      record {
        single = h.single;
        new = λ n l. h.new n (omega (arith, l, more));
        told = h.told;
        sized = h.sized;
      },
      record { none = h.new (next_number s) (omega arith); within = omega (arith, more) },
    )

pub fine_came_here : (size : ℕ) (s : State) (node : Node) (w : KeptWork) → is_remote node ≡ false → IsFine size s →
    IsFineWith size (next_number s) (after_came (next_number s) node (Some w) s)
fine_came_here size s node w here h =
    came_by (IsFineWith size (next_number s)) (next_number s) node w s false here (go w)
  where
    go : (w : KeptWork) → IsFineWith size (next_number s) (came_in (record { node = node; work = w }) s)
    go (work.Cmd command) = fine_arrival size s node (work.Cmd command) h
    go (work.Ask ask) = fine_arrival size s node (work.Ask ask) h

fine_ask : (size : ℕ) (s : State) (m : Message) → IsFree m.no s.arrivals s.tasks s.to_a → IsFine size s →
    IsFine size (record s { to_a = s.to_a ++ m ∷ [] })
fine_ask size s m i h = record {
  single = λ n. let k = h.single n in let a = in_sent n s.to_a m in
      let c = at_most (is_arrival m.kind) (nat_eq m.no n) in fits n (nat_eq m.no n) refl (omega (arith, a, c)) k;
  new = λ n l. let k = h.new n l in let a = in_sent n s.to_a m in
      let b =
      one_other m.no n (λ e. omega (arith, i.within, e, l)) in let c = at_most (is_arrival m.kind) (nat_eq m.no n) in
      omega (arith, k, a, b, c);
  told = λ x k. ((h.told x k).0, λ o. push_sent is_end x.no s.to_a m ((h.told x k).1 o));
  sized = h.sized;
}
  where
    at_most : (t u : Bool) → one_if (t && u) ≤ one_if u
    at_most true u = omega arith
    at_most false u = omega arith

    fits : (n : ℕ) (t : Bool) → nat_eq m.no n ≡ t → in_messages n (s.to_a ++ m ∷ []) ≤ one_if t + in_messages n s.to_a →
        in_tasks n s.tasks + in_messages n s.to_a ≤ 1 → in_tasks n s.tasks + in_messages n (s.to_a ++ m ∷ []) ≤ 1
    fits n true e a k = let z : in_tasks n s.tasks + in_messages n s.to_a ≡ 0 = subst
        (λ j. in_tasks j s.tasks + in_messages j s.to_a ≡ 0) (eqb-true m.no n e) i.none in omega (arith, a, z)
    fits n false e a k = omega (arith, a, k)

pub fine_came_there : (size : ℕ) (s : State) (node : Node) (w : KeptWork) → is_remote node ≡ true → IsFine size s →
    IsFine size (after_came (next_number s) node (Some w) s)
fine_came_there size s node w there h = came_by (IsFine size) (next_number s) node w s true there (go w)
  where
    f : (w : KeptWork) → IsFineWith size (next_number s) (with_arrival s node w)
    f w = fine_arrival size s node w h

    go : (w : KeptWork) → IsFine size
        (to_a (message (kind_of w) (next_number s)) (came_in (record { node = node; work = w }) s))
    go (work.Cmd command) =
        fine_ask size (with_arrival s node (work.Cmd command)) (message kind.Ask (next_number s))
        (f (work.Cmd command)).1 (f (work.Cmd command)).0
    go (work.Ask ask) =
        fine_ask size (with_arrival s node (work.Ask ask)) (message kind.Function (next_number s)) (f (work.Ask ask)).1
        (f (work.Ask ask)).0

-- a command enters
fine_entered : (size : ℕ) (s : State) (n : ℕ) (node : Node) (w : KeptWork) → IsFineWith size n s →
    IsFine size (entered n node w s)
fine_entered size s n node (work.Ask ask) h = h.0
fine_entered size s n node (work.Cmd command) h = record {
  single = λ m. let k = h.0.single m in let a = in_queued m new s.tasks in fits m (nat_eq n m) refl a k;
  new = λ m l. let k = h.0.new m l in let a = in_queued m new s.tasks in
      let b = one_other n m (λ e. let w = h.1.within in omega (arith, w, e, l)) in omega (arith, k, a, b);
  told = λ x k. ⊎_elim (h.0.told x) (λ (e : new ≡ x). subst (Told s.to_a s.to_b) e (λ g. absurd (cc), λ o. absurd (cc)))
      (has_queued new s.tasks x k);
  sized = h.0.sized;
}
  where
    new : Task
    new = new_task n node command

    fits : (m : ℕ) (t : Bool) → nat_eq n m ≡ t → in_tasks m (queued new s.tasks) ≡ one_if t + in_tasks m s.tasks →
        in_tasks m s.tasks + in_messages m s.to_a ≤ 1 → in_tasks m (queued new s.tasks) + in_messages m s.to_a ≤ 1
    fits m true e a k = let z : in_tasks m s.tasks + in_messages m s.to_a ≡ 0 = subst
        (λ j. in_tasks j s.tasks + in_messages j s.to_a ≡ 0) (eqb-true n m e) h.1.none in omega (arith, a, z)
    fits m false e a k = omega (arith, a, k)

fine_enter : (size : ℕ) (s : State) (n : ℕ) (found : Option Arrival) → IsFineWith size n s →
    IsFine size (after_enter n found s)
fine_enter size s n None h = h.0
fine_enter size s n (Some arrival) h = fine_entered size s n arrival.node arrival.work h

pub fine_entering : (laws : Laws) (size : ℕ) (s : State) (n : ℕ) (refused : Option Reply) → IsFineWith size n s →
    IsFine size (entering_with refused n s).state
unfolding after
fine_entering laws size s n (Some reply) h = fine_answered size s kind.Reply n h.0
fine_entering laws size s n None h = fine_enter size s n (arrival_of n s) h

abbrev pub Keeps : ℕ → State → Turn → Type 0
Keeps size s t = IsFine size s → IsFine size t.state

pub fine_turning : (laws : Laws) (size : ℕ) → Turning (Keeps size)
fine_turning laws size = record {
  none = λ s h. h;
  one = λ s l e h. fine_free laws size s l e h;
  both = λ s t next a b h. b (a h);
}

fine_in : (laws : Laws) (size : ℕ) (s : State) (n : ℕ) (w : KeptWork) → IsFineWith size n s →
    IsFine size (taking_in n w s).state
fine_in laws size s n (work.Cmd command) h = fine_entering laws size s n (turned_cause s command) h
fine_in laws size s n (work.Ask ask) h = asks (Keeps size) (fine_turning laws size) n ask s h.0

fine_coming : (laws : Laws) (size : ℕ) (s : State) (n : ℕ) (found : Option Arrival) → IsFineWith size n s →
    IsFine size (coming_in n found s).state
fine_coming laws size s n None h = h.0
fine_coming laws size s n (Some arrival) h = fine_in laws size s n arrival.work h

fine_taken : (laws : Laws) (size : ℕ) (s : State) (node : Node) (w : KeptWork) → is_remote node ≡ false →
    Keeps size s (arriving_here node w (next_number s) s).turn
unfolding after
fine_taken laws size s node (work.Cmd command) here h =
    let now : State = after_came (next_number s) node (Some (work.Cmd command)) s in
    fine_entering laws size now (next_number s) (turned_cause now command)
    (fine_came_here size s node (work.Cmd command) here h)
fine_taken laws size s node (work.Ask ask) here h =
    let now : State = after_came (next_number s) node (Some (work.Ask ask)) s in
    asks (Keeps size) (fine_turning laws size) (next_number s) ask now
    (fine_came_here size s node (work.Ask ask) here h).0

fine_came : (laws : Laws) (size : ℕ) (s : State) (node : Node) (w : KeptWork) →
    Keeps size s (arriving_at node w (next_number s) s).turn
unfolding after
fine_came laws size s node w =
    arriving_by (Keeps size s) node w (next_number s) s (fine_came_there size s node w) (fine_taken laws size s node w)

-- a message is taken
pub fine_other : (size : ℕ) (arrivals : List Arrival) (tasks : List Task) (m : Message) (ms to_b : List Message)
    (blocks : List (List ℕ)) → is_end m.kind ≡ false → Fine size arrivals tasks (m ∷ ms) to_b blocks →
    Fine size arrivals tasks ms to_b blocks
fine_other size arrivals tasks m ms to_b blocks e h = record {
  single = λ n. let k = h.single n in omega (arith, k);
  new = λ n l. let k = h.new n l in omega (arith, k);
  told = λ x k. (
    (h.told x k).0,
    λ o. ⊎_elim
        (λ (p : (is_end m.kind ≡ true) × (m.no ≡ x.no)). absurd (both_ways (is_end m.kind) e p.0)) (λ q. q)
        ((h.told x k).1 o),
  );
  sized = h.sized;
}

fine_end : (size : ℕ) (arrivals : List Arrival) (tasks : List Task) (m : Message) (ms to_b : List Message)
    (blocks : List (List ℕ)) → Fine size arrivals tasks (m ∷ ms) to_b blocks →
    Fine size arrivals (without_task m.no tasks) ms to_b blocks
fine_end size arrivals tasks m ms to_b blocks h = record {
  single = λ n. let k = h.single n in let a = in_without n m.no tasks in omega (arith, k, a);
  new = λ n l. let k = h.new n l in let a = in_without n m.no tasks in omega (arith, k, a);
  told = λ x k. let w = has_without m.no tasks x k in (
    (h.told x w.0).0,
    λ o. ⊎_elim (λ (p : (is_end m.kind ≡ true) × (m.no ≡ x.no)). absurd (w.1 (sym p.1))) (λ q. q)
        ((h.told x w.0).1 o),
  );
  sized = h.sized;
}

-- an arrival is taken: its number is free
pub free_now : (size : ℕ) (arrivals : List Arrival) (tasks : List Task) (m : Message) (ms to_b : List Message)
    (blocks : List (List ℕ)) → is_arrival m.kind ≡ true → Fine size arrivals tasks (m ∷ ms) to_b blocks →
    (in_tasks m.no tasks + in_messages m.no ms ≡ 0) × (m.no ≤ length arrivals)
free_now size arrivals tasks m ms to_b blocks a h =
    let one : one_if (is_arrival m.kind && nat_eq m.no m.no) ≡ 1 =
    ap (λ t. one_if (t && nat_eq m.no m.no)) a ∙ one_itself m.no in
    let k = h.single m.no in
    (omega (arith, k, one), below (cases_lt (length arrivals) m.no))
  where
    below : (length arrivals < m.no) ⊎ (m.no ≤ length arrivals) → m.no ≤ length arrivals
    below (inl l) = let k = h.new m.no l in let one : one_if (is_arrival m.kind && nat_eq m.no m.no) ≡ 1 = ap
        (λ t. one_if (t && nat_eq m.no m.no)) a ∙ one_itself m.no in absurd (omega (arith, k, one))
    below (inr l) = l

-- a state with other messages
abbrev with_a : State → List Message → State
with_a s ms = record s { to_a = ms }

abbrev with_b : State → List Message → State
with_b s ms = record s { to_b = ms }

come_a : (laws : Laws) (size : ℕ) (s : State) (k : Kind2) (m : Message) (ms : List Message) → m.kind ≡ k →
    Fine size s.arrivals s.tasks (m ∷ ms) s.to_b s.blocks →
    IsFine size (coming_to_a k m (came_to_a k m.no (with_a s ms))).state
come_a laws size s kind.Ask m ms e h =
    let f = free_now size s.arrivals s.tasks m ms s.to_b s.blocks (ap is_arrival e) h in
    fine_coming laws size (with_a s ms) m.no (arrival_of m.no s)
    (fine_other size s.arrivals s.tasks m ms s.to_b s.blocks (ap is_end e) h, record { none = f.0; within = f.1 })
come_a laws size s kind.Function m ms e h =
    let f = free_now size s.arrivals s.tasks m ms s.to_b s.blocks (ap is_arrival e) h in
    fine_coming laws size (with_a s ms) m.no (arrival_of m.no s)
    (fine_other size s.arrivals s.tasks m ms s.to_b s.blocks (ap is_end e) h, record { none = f.0; within = f.1 })
come_a laws size s kind.Finish m ms e h = let now : State = came_to_a kind.Finish m.no (with_a s ms) in
    closes_all (Keeps size) (fine_turning laws size) (open_numbers now) now
    (fine_end size s.arrivals s.tasks m ms s.to_b s.blocks h)
come_a laws size s kind.Stopped m ms e h = let now : State = came_to_a kind.Stopped m.no (with_a s ms) in
    closes_all (Keeps size) (fine_turning laws size) (open_numbers now) now
    (fine_end size s.arrivals s.tasks m ms s.to_b s.blocks h)
come_a laws size s kind.Grant m ms e h = fine_other size s.arrivals s.tasks m ms s.to_b s.blocks (ap is_end e) h
come_a laws size s kind.Stop m ms e h = fine_other size s.arrivals s.tasks m ms s.to_b s.blocks (ap is_end e) h
come_a laws size s kind.Reply m ms e h = fine_other size s.arrivals s.tasks m ms s.to_b s.blocks (ap is_end e) h
come_a laws size s kind.Response m ms e h = fine_other size s.arrivals s.tasks m ms s.to_b s.blocks (ap is_end e) h

-- to B
pub fine_pop : (size : ℕ) (arrivals : List Arrival) (tasks : List Task) (to_a : List Message) (m : Message)
    (ms : List Message) (blocks : List (List ℕ)) → Fine size arrivals tasks to_a (m ∷ ms) blocks →
    ((x : Task) → Has tasks x → is_given x.stage ≡ true → is_grant m.kind ≡ true → m.no ≡ x.no → ⊥) →
    Fine size arrivals tasks to_a ms blocks
fine_pop size arrivals tasks to_a m ms blocks h none = record {
  single = h.single;
  new = h.new;
  told = λ x k. (
    λ g. ⊎_elim (λ (p : (is_grant m.kind ≡ true) × (m.no ≡ x.no)). absurd (none x k g p.0 p.1)) (λ q. q)
        ((h.told x k).0 g),
    (h.told x k).1,
  );
  sized = h.sized;
}

fine_grant : (size : ℕ) (s : State) (m : Message) (ms : List Message) (found : Option Task) →
    task_of m.no s.tasks ≡ found → Fine size s.arrivals s.tasks s.to_a (m ∷ ms) s.blocks →
    IsFine size (after_grant found (with_b s ms))
fine_grant size s m ms None e h =
    fine_pop size s.arrivals s.tasks s.to_a m ms s.blocks h (λ x k g i j. found_none m.no s.tasks x e k (sym j))
fine_grant size s m ms (Some t) e h = go t.stage refl
  where
    f : Has s.tasks t × (t.no ≡ m.no)
    f = has_found m.no s.tasks t e

    same : (x : Task) → Has s.tasks x → m.no ≡ x.no → t ≡ x
    same x k j = let a = h.single t.no in single_in s.tasks t x (omega (arith, a)) f.0 k (f.1 ∙ j)

    not_given : is_given t.stage ≡ false → IsFine size (with_b s ms)
    not_given n =
        fine_pop size s.arrivals s.tasks s.to_a m ms s.blocks h
        (λ x k g i j. both_ways (is_given t.stage) n
        (subst (λ (z : Task). is_given z.stage ≡ true) (sym (same x k j)) g))

    given : IsFine size (record s { tasks = with_task (at_stage (There 0 []) t) s.tasks; to_b = ms })
    given = record {
      single = λ n. subst (λ k. k + in_messages n s.to_a ≤ 1) (sym (in_with n (at_stage (There 0 []) t) s.tasks))
          (h.single n);
      new = λ n l. subst (λ k. k + in_messages n s.to_a ≡ 0) (sym (in_with n (at_stage (There 0 []) t) s.tasks))
          (h.new n l);
      told = λ x k. ⊎_elim
          (λ (w : at_stage (There 0 []) t ≡ x). subst (Told s.to_a ms) w (λ g. absurd (cc), λ o. absurd (cc)))
          (λ (o : Has s.tasks x × (x.no ≡ t.no → ⊥)). (λ g. ⊎_elim (λ (p : (is_grant m.kind ≡ true) × (m.no ≡ x.no)). absurd (o.1 (sym p.1 ∙ sym f.1))) (λ q. q) ((h.told x o.0).0 g), (h.told x o.0).1))
          (has_with (at_stage (There 0 []) t) s.tasks x k);
      sized = h.sized;
    }

    go : (stage : Stage) → t.stage ≡ stage → IsFine size (begun_at_b stage t (with_b s ms))
    go Granted i = given
    go Waiting i = not_given (ap is_given i)
    go (Here done got) i = not_given (ap is_given i)
    go (There done got) i = not_given (ap is_given i)
    go Over i = not_given (ap is_given i)

pub come_b : (size : ℕ) (s : State) (k : Kind2) (m : Message) (ms : List Message) → m.kind ≡ k →
    Fine size s.arrivals s.tasks s.to_a (m ∷ ms) s.blocks → IsFine size (came_to_b k m.no (with_b s ms))
come_b size s kind.Grant m ms e h = fine_grant size s m ms (task_of m.no s.tasks) refl h
come_b size s kind.Ask m ms e h =
    fine_pop size s.arrivals s.tasks s.to_a m ms s.blocks h (λ x k g i j. both_ways (is_grant m.kind) (ap is_grant e) i)
come_b size s kind.Function m ms e h =
    fine_pop size s.arrivals s.tasks s.to_a m ms s.blocks h (λ x k g i j. both_ways (is_grant m.kind) (ap is_grant e) i)
come_b size s kind.Finish m ms e h =
    fine_pop size s.arrivals s.tasks s.to_a m ms s.blocks h (λ x k g i j. both_ways (is_grant m.kind) (ap is_grant e) i)
come_b size s kind.Stopped m ms e h =
    fine_pop size s.arrivals s.tasks s.to_a m ms s.blocks h (λ x k g i j. both_ways (is_grant m.kind) (ap is_grant e) i)
come_b size s kind.Stop m ms e h =
    fine_pop size s.arrivals s.tasks s.to_a m ms s.blocks h (λ x k g i j. both_ways (is_grant m.kind) (ap is_grant e) i)
come_b size s kind.Reply m ms e h =
    fine_pop size s.arrivals s.tasks s.to_a m ms s.blocks h (λ x k g i j. both_ways (is_grant m.kind) (ap is_grant e) i)
come_b size s kind.Response m ms e h =
    fine_pop size s.arrivals s.tasks s.to_a m ms s.blocks h (λ x k g i j. both_ways (is_grant m.kind) (ap is_grant e) i)

fine_come : (laws : Laws) (size : ℕ) (s : State) (node : Node) (m : Message) (ms : List Message) →
    messages_to node s ≡ m ∷ ms → Keeps size s (delivering_first node (m ∷ ms) s).turn
unfolding after
fine_come laws size s A m ms e h =
    subst (λ q. IsFine size (coming_to_a m.kind m (came_to_a m.kind m.no (with_a s (drop 1 q)))).state) (sym e)
    (come_a laws size s m.kind m ms refl (subst (λ q. Fine size s.arrivals s.tasks q s.to_b s.blocks) e h))
fine_come laws size s B m ms e h =
    subst (λ q. IsFine size (coming_to_b m.kind m (came_to_b m.kind m.no (with_b s (drop 1 q)))).state) (sym e)
    (comes_to_b (Keeps size) (fine_turning laws size) m.kind m (came_to_b m.kind m.no (with_b s ms))
    (come_b size s m.kind m ms refl (subst (λ q. Fine size s.arrivals s.tasks s.to_a q s.blocks) e h)))

-- every act keeps it, and it holds at the opening
pub fine_act : (laws : Laws) (size : ℕ) (s : State) (a : Act) (fault : Option ℕ) → IsFine size s →
    IsFine size (doing s a fault).turn.state
fine_act laws size s a fault = acts (Keeps size) (record {
  turning = fine_turning laws size;
  came = λ s node w e. fine_came laws size s node w;
  come = λ s node m ms e. fine_come laws size s node m ms e;
}) s a fault

pub fine_opened : (o : Opening) → IsFine (length (opened o).blocks) (opened o)
fine_opened o = record { single = λ n. omega arith; new = λ n l. refl; told = λ x h. absurd h; sized = refl }
