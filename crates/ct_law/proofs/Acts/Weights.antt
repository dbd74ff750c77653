-- The most events that a state can still write.
use Rattle.std.proofs.Common.{◌≡◌, ℕ, zero, suc, ◌+◌, ◌-◌, ◌*◌, ◌≤◌, ◌<◌, ◌⊎◌, inl, inr, Bool, true, false, not, ◌&&◌}
use Rattle.std.proofs.Common.{◌||◌, List, [], ◌∷◌, ◌++◌, Option, Some, None, length, map, slice_get, refl, sym, ap, ◌∙◌}
use Rattle.std.proofs.Common.{subst, ⊎_elim, nat_eq, cond, eqb-true, eq-eqb, arith, length-append}
use Rattle.std.specs.Prelude.{nat_lt}
use Rattle.std.specs.List.{list_any, filter}
use Rattle.std.proofs.lemmas.Bool.{both_ways, cases_lt, or_left, or_right, and_parts, false≢true}
use Rattle.ct_tmf.specs.declared.function.Ask.{Ask}
use Rattle.ct_matrix.specs.Conflicts.{is_head}
use Rattle.ct_matrix.specs.Queues.{before_first}
use Rattle.ct_book.specs.Kept.{events_for}
use Rattle.ct_book.specs.declared.work.Work.TheVariants as work
use Rattle.ct_book.specs.declared.event.Kind2.{Kind2}
use Rattle.ct_book.specs.declared.event.Kind2.TheVariants as kind
use Rattle.ct_book.specs.declared.event.Why.TheVariants.{By, Medium}
use Rattle.ct_book.specs.Journals.{KeptWork, numbered}
use Rattle.ct_plan.specs.Cells.{Cells}
use Rattle.ct_exec.specs.Controls.{tells_aborts}
use Rattle.ct_exec.specs.Executions.{Execution, execute, plan_in}
use Rattle.ct_machine.specs.States.{Stage, Waiting, Here, Granted, There, Over, Task, Open, Message, Arrival, State}
use Rattle.ct_machine.specs.States.{disk_of, arrival_of, task_of, function_of, is_waiting, is_here, is_moving}
use Rattle.ct_machine.specs.States.{is_remote, without_task, with_task, at_stage, waits, queued}
use Rattle.ct_machine.specs.Events.Sends.{message, stop, to_b_if, came_remote, answered}
use Rattle.ct_machine.specs.Events.Arrivals.{new_task, entered}
use Rattle.ct_machine.specs.Events.Moves.{staged, cells_after, further, moved_from}
use Rattle.ct_machine.specs.Events.Ends.{leaves, over_at_b, stops_with, executed_at_once, ended_at, noted, cut_at}
use Rattle.ct_machine.specs.Events.Functions.{is_hit, is_awaited, awaited_by, is_told, wants_stop, stops_by}
use Rattle.ct_machine.specs.Events.Functions.{with_function, taken_up, without_function, closed}
use Rattle.ct_machine.specs.Events.Deliveries.{begun_at_b}
use Rattle.ct_law.proofs.Lists.Tasks.{Has, has_found}
use Rattle.ct_law.proofs.Lists.Messages.{is_arrival, Sent}
use Rattle.ct_law.proofs.Walks.Cleared.{count_cleared, stops_count}
use Rattle.ct_law.proofs.Acts.Sends.{one_if, in_tasks, sent_in, IsFine}

-- a stop can still be sent
abbrev pub unstopped : List ℕ → ℕ → ℕ
unstopped stopped n = cond (list_any (λ number. nat_eq number n) stopped) 0 1

-- what a command of so many operations can still write, with the messages that it can still cause
abbrev pub weight_at : Stage → ℕ → ℕ → ℕ
weight_at Waiting plan more = 5 + plan
weight_at (Here done got) plan more = 2 + (plan - done)
weight_at Granted plan more = 2 + plan + more
weight_at (There done got) plan more = 2 + (plan - done) + more
weight_at Over plan more = more

abbrev pub weight : ℕ → List ℕ → Task → ℕ
weight n stopped x = weight_at x.stage (length (plan_in n x.command)) (unstopped stopped x.no)

abbrev pub total : (Task → ℕ) → List Task → ℕ
total g [] = 0
total g (x ∷ xs) = g x + total g xs

-- what a work writes that is taken in
abbrev pub work_weight : ℕ → KeptWork → ℕ
work_weight n (work.Cmd command) = 6 + length (plan_in n command)
work_weight n (work.Ask ask) = 4

abbrev pub arrival_weight : ℕ → Option Arrival → ℕ
arrival_weight n None = 0
arrival_weight n (Some arrival) = work_weight n arrival.work

abbrev pub message_weight : ℕ → List Arrival → Message → ℕ
message_weight n arrivals m = 1 + cond (is_arrival m.kind) (arrival_weight n (numbered m.no arrivals)) 0

abbrev pub weigh : ℕ → List Arrival → List Message → ℕ
weigh n arrivals [] = 0
weigh n arrivals (m ∷ ms) = message_weight n arrivals m + weigh n arrivals ms

abbrev pub left_by : ℕ → (Task → ℕ) → State → ℕ
left_by n g s =
    events_for s.room + total g s.tasks + weigh n s.arrivals s.to_a + length s.to_b + 2 * length s.functions

abbrev pub left : ℕ → State → ℕ
left n s = left_by n (weight n s.stopped) s

-- Sums

pub total_fewer : (g : Task → ℕ) (n : ℕ) (q : List Task) → total g (without_task n q) ≤ total g q
total_fewer g n [] = omega arith
total_fewer g n (x ∷ xs) = go (nat_eq x.no n) (total_fewer g n xs)
  where
    go : (t : Bool) → total g (without_task n xs) ≤ total g xs →
        total g (cond t (without_task n xs) (x ∷ without_task n xs)) ≤ g x + total g xs
    go true h = omega (arith, h)
    go false h = omega (arith, h)

pub total_without : (g : Task → ℕ) (n : ℕ) (q : List Task) (x : Task) → task_of n q ≡ Some x →
    total g (without_task n q) + g x ≤ total g q
total_without g n [] x e = absurd (cc)
total_without g n (y ∷ ys) x e = go (nat_eq y.no n) e (total_fewer g n ys) (total_without g n ys x)
  where
    go : (t : Bool) → cond t (Some y) (task_of n ys) ≡ Some x → total g (without_task n ys) ≤ total g ys →
        (task_of n ys ≡ Some x → total g (without_task n ys) + g x ≤ total g ys) →
        total g (cond t (without_task n ys) (y ∷ without_task n ys)) + g x ≤ g y + total g ys
    go true e h rec = let same : y ≡ x = cc in let s = ap g same in omega (arith, h, s)
    go false e h rec = let r = rec e in omega (arith, r)

with_none : (g : Task → ℕ) (w : Task) (q : List Task) → in_tasks w.no q ≡ 0 → total g (with_task w q) ≡ total g q
with_none g w [] e = refl
with_none g w (y ∷ ys) e = go (nat_eq y.no w.no) e (with_none g w ys)
  where
    go : (t : Bool) → one_if t + in_tasks w.no ys ≡ 0 → (in_tasks w.no ys ≡ 0 → total g (with_task w ys) ≡ total g ys) →
        g (cond t w y) + total g (with_task w ys) ≡ g y + total g ys
    go true e rec = absurd (omega (arith, e))
    go false e rec = let r = rec (omega (arith, e)) in omega (arith, r)

pub total_with : (g : Task → ℕ) (w : Task) (q : List Task) (x : Task) → in_tasks w.no q ≤ 1 → task_of w.no q ≡ Some x →
    total g (with_task w q) + g x ≡ total g q + g w
total_with g w [] x h e = absurd (cc)
total_with g w (y ∷ ys) x h e = go (nat_eq y.no w.no) h e (with_none g w ys) (total_with g w ys x)
  where
    go : (t : Bool) → one_if t + in_tasks w.no ys ≤ 1 → cond t (Some y) (task_of w.no ys) ≡ Some x →
        (in_tasks w.no ys ≡ 0 → total g (with_task w ys) ≡ total g ys) →
        (in_tasks w.no ys ≤ 1 → task_of w.no ys ≡ Some x → total g (with_task w ys) + g x ≡ total g ys + g w) →
        g (cond t w y) + total g (with_task w ys) + g x ≡ g y + total g ys + g w
    go true h e none rec =
        let same : y ≡ x = cc in let s = ap g same in let r = none (omega (arith, h)) in omega (arith, r, s)
    go false h e none rec = let r = rec (omega (arith, h)) e in omega (arith, r)

pub found_with : (w : Task) (q : List Task) (x : Task) → task_of w.no q ≡ Some x → task_of w.no (with_task w q) ≡ Some w
found_with w [] x e = absurd (cc)
found_with w (y ∷ ys) x e = go (nat_eq y.no w.no) refl e (found_with w ys x)
  where
    go : (t : Bool) → nat_eq y.no w.no ≡ t → cond t (Some y) (task_of w.no ys) ≡ Some x →
        (task_of w.no ys ≡ Some x → task_of w.no (with_task w ys) ≡ Some w) →
        task_of w.no (cond t w y ∷ with_task w ys) ≡ Some w
    go true a e rec = ap (λ t. cond t (Some w) (task_of w.no (with_task w ys))) (eq-eqb w.no w.no refl)
    go false a e rec = ap (λ t. cond t (Some y) (task_of w.no (with_task w ys))) a ∙ rec e

pub found_itself : (n : ℕ) (q : List Task) (x : Task) → task_of n q ≡ Some x → task_of x.no q ≡ Some x
found_itself n q x e = ap (λ m. task_of m q) (has_found n q x e).1 ∙ e

total_push : (g : Task → ℕ) (w : Task) (q : List Task) → total g (q ++ w ∷ []) ≡ total g q + g w
total_push g w [] = omega arith
total_push g w (x ∷ xs) = let h = total_push g w xs in omega (arith, h)

total_before : (g : Task → ℕ) (w : Task) (q : List Task) → total g (before_first waits w q) ≡ total g q + g w
total_before g w [] = omega arith
total_before g w (x ∷ xs) = go (is_waiting x.stage) (total_before g w xs)
  where
    go : (t : Bool) → total g (before_first waits w xs) ≡ total g xs + g w →
        total g (cond t (w ∷ x ∷ xs) (x ∷ before_first waits w xs)) ≡ g x + total g xs + g w
    go true h = omega arith
    go false h = omega (arith, h)

pub total_queued : (g : Task → ℕ) (w : Task) (q : List Task) → total g (queued w q) ≡ total g q + g w
total_queued g w q = go (is_head w.command.attr)
  where
    go : (t : Bool) → total g (cond t (before_first waits w q) (q ++ w ∷ [])) ≡ total g q + g w
    go true = total_before g w q
    go false = total_push g w q

pub total_same : (f g : Task → ℕ) (q : List Task) → ((x : Task) → Has q x → f x ≡ g x) → total f q ≡ total g q
total_same f g [] h = refl
total_same f g (x ∷ xs) h =
    let a = h x (inl refl) in let b = total_same f g xs (λ y k. h y (inr k)) in omega (arith, a, b)

-- messages

pub weigh_push : (n : ℕ) (arrivals : List Arrival) (ms : List Message) (m : Message) →
    weigh n arrivals (ms ++ m ∷ []) ≡ weigh n arrivals ms + message_weight n arrivals m
weigh_push n arrivals [] m = omega arith
weigh_push n arrivals (k ∷ ms) m = let h = weigh_push n arrivals ms m in omega (arith, h)

numbered_kept : (k : ℕ) (xs : List Arrival) (w : Arrival) → k ≤ length xs → numbered k (xs ++ w ∷ []) ≡ numbered k xs
numbered_kept zero xs w h = refl
numbered_kept (suc k) xs w h = go xs k (omega (arith, h))
  where
    go : (xs : List Arrival) (k : ℕ) → k < length xs → slice_get (xs ++ w ∷ []) k ≡ slice_get xs k
    go [] k h = absurd (omega (arith, h))
    go (x ∷ xs) zero h = refl
    go (x ∷ xs) (suc k) h = go xs k (omega (arith, h))

weigh_kept : (n : ℕ) (arrivals : List Arrival) (w : Arrival) (ms : List Message) →
    ((k : ℕ) → Sent is_arrival k ms → k ≤ length arrivals) → weigh n (arrivals ++ w ∷ []) ms ≡ weigh n arrivals ms
weigh_kept n arrivals w [] h = refl
weigh_kept n arrivals w (m ∷ ms) h =
    let a : cond (is_arrival m.kind) (arrival_weight n (numbered m.no (arrivals ++ w ∷ []))) 0 ≡ cond (is_arrival m.kind) (arrival_weight n (numbered m.no arrivals)) 0 = go (is_arrival m.kind) refl in
    let b = weigh_kept n arrivals w ms (λ k s. h k (inr s)) in omega (arith, a, b)
  where
    go : (t : Bool) → is_arrival m.kind ≡ t →
        cond t (arrival_weight n (numbered m.no (arrivals ++ w ∷ []))) 0 ≡ cond t
        (arrival_weight n (numbered m.no arrivals)) 0
    go true e = ap (arrival_weight n) (numbered_kept m.no arrivals w (h m.no (inl (e, refl))))
    go false e = refl

pub weigh_came : (n : ℕ) (s : State) (w : Arrival) → IsFine n s →
    weigh n (s.arrivals ++ w ∷ []) s.to_a ≡ weigh n s.arrivals s.to_a
weigh_came n s w h = weigh_kept n s.arrivals w s.to_a (λ k sent. ⊎_elim
    (λ (l : length s.arrivals < k). let a = h.new k l in let b = sent_in k s.to_a sent in absurd (omega (arith, a, b)))
    (λ (l : k ≤ length s.arrivals). l) (cases_lt (length s.arrivals) k))

pub no_work : (n : ℕ) (arrivals : List Arrival) (m : Message) → is_arrival m.kind ≡ false →
    message_weight n arrivals m ≡ 1
no_work n arrivals m e = ap (λ t. 1 + cond t (arrival_weight n (numbered m.no arrivals)) 0) e

pub a_work : (n : ℕ) (arrivals : List Arrival) (m : Message) → is_arrival m.kind ≡ true →
    message_weight n arrivals m ≡ 1 + arrival_weight n (numbered m.no arrivals)
a_work n arrivals m e = ap (λ t. 1 + cond t (arrival_weight n (numbered m.no arrivals)) 0) e

-- What events cost

pub one_stop : (stopped : List ℕ) (n : ℕ) → unstopped stopped n ≤ 1
one_stop stopped n = go (list_any (λ number. nat_eq number n) stopped)
  where
    go : (t : Bool) → cond t 0 1 ≤ 1
    go true = omega arith
    go false = omega arith

pub left_answered : (n : ℕ) (s : State) (k : Kind2) (number : ℕ) → left n (answered k number s) ≤ left n s + 1
left_answered n s k number = go (came_remote (arrival_of number s))
  where
    go : (t : Bool) → left n (to_b_if t (message k number) s) ≤ left n s + 1
    go true = let a = length-append s.to_b (message k number ∷ []) in omega (arith, a)
    go false = omega arith

-- a command takes another stage
pub turned_total : (n : ℕ) (s : State) (number : ℕ) (x : Task) (stage : Stage) → IsFine n s →
    task_of number s.tasks ≡ Some x →
    total (weight n s.stopped) (with_task (at_stage stage x) s.tasks) + weight n s.stopped x ≡ total
    (weight n s.stopped) s.tasks + weight n s.stopped (at_stage stage x)
turned_total n s number x stage h f = let k = h.single x.no in
    total_with (weight n s.stopped) (at_stage stage x) s.tasks x (omega (arith, k)) (found_itself number s.tasks x f)

pub weight_is : (n : ℕ) (stopped : List ℕ) (x : Task) (stage : Stage) → x.stage ≡ stage →
    weight n stopped x ≡ weight_at stage (length (plan_in n x.command)) (unstopped stopped x.no)
weight_is n stopped x stage e = ap (λ st. weight_at st (length (plan_in n x.command)) (unstopped stopped x.no)) e

-- it leaves
pub left_leaves : (n : ℕ) (s : State) (number : ℕ) (x : Task) → task_of number s.tasks ≡ Some x →
    left n (leaves x.no s) + weight n s.stopped x ≤ left n s
left_leaves n s number x f =
    let a = total_without (weight n s.stopped) x.no s.tasks x (found_itself number s.tasks x f) in omega (arith, a)

-- it is over at B
pub left_over : (n : ℕ) (s : State) (k : Kind2) (number : ℕ) (x : Task) (done : ℕ) (got : List ℕ) →
    is_arrival k ≡ false → IsFine n s → task_of number s.tasks ≡ Some x → x.stage ≡ There done got →
    left n (over_at_b k x s) + 1 ≤ left n s
left_over n s k number x done got tells h f e =
    let a = turned_total n s number x Over h f in
    let b = weight_is n s.stopped x (There done got) e in
    let c = weigh_push n s.arrivals s.to_a (message k x.no) in
    let d = no_work n s.arrivals (message k x.no) tells in
    omega (arith, a, b, c, d)

pub left_begun : (n : ℕ) (s : State) (number : ℕ) (x : Task) → IsFine n s → task_of number s.tasks ≡ Some x →
    x.stage ≡ Waiting → left n (staged (Here 0 []) (Some x) s) + 1 ≤ left n s
left_begun n s number x h f e =
    let a = turned_total n s number x (Here 0 []) h f in
    let b = weight_is n s.stopped x Waiting e in
    omega (arith, a, b)

pub left_granted : (n : ℕ) (s : State) (number : ℕ) (m : Message) (x : Task) → IsFine n s →
    task_of number s.tasks ≡ Some x → x.stage ≡ Waiting →
    left n (record (staged Granted (Some x) s) { to_b = s.to_b ++ m ∷ [] }) + 1 ≤ left n s
left_granted n s number m x h f e =
    let a = turned_total n s number x Granted h f in
    let b = weight_is n s.stopped x Waiting e in
    let c = length-append s.to_b (m ∷ []) in
    let d = one_stop s.stopped x.no in
    omega (arith, a, b, c, d)

pub left_grant : (n : ℕ) (s : State) (ms : List Message) (number : ℕ) (x : Task) → length s.to_b ≡ suc (length ms) →
    IsFine n s → task_of number s.tasks ≡ Some x → left n (begun_at_b x.stage x (record s { to_b = ms })) + 1 ≤ left n s
left_grant n s ms number x b h f = go x.stage refl
  where
    go : (stage : Stage) → x.stage ≡ stage → left n (begun_at_b stage x (record s { to_b = ms })) + 1 ≤ left n s
    go Granted e = let a = turned_total n s number x (There 0 []) h f in let c = weight_is n s.stopped x Granted e in
        omega (arith, a, b, c)
    go Waiting e = omega (arith, b)
    go (Here done got) e = omega (arith, b)
    go (There done got) e = omega (arith, b)
    go Over e = omega (arith, b)

-- a command moves
pub left_moved : (n : ℕ) (s : State) (number : ℕ) (x : Task) (count done : ℕ) (got : List ℕ) → IsFine n s →
    task_of number s.tasks ≡ Some x → (x.stage ≡ Here done got) ⊎ (x.stage ≡ There done got) → 1 ≤ count →
    count ≤ length (plan_in n x.command) - done →
    left n (moved_from x count done got s) + 1 ≤ left n s
left_moved n s number x count done got h f e some fits =
    let cells : Cells = cells_after x count done got s in
    let a = turned_total n s number x (further x.stage (done + count) cells.got) h f in
    let p : ℕ = length (plan_in n x.command) in
    let more : ℕ = unstopped s.stopped x.no in
    let now : Stage → ℕ = λ st. weight_at (further st (done + count) cells.got) p more in
    ⊎_elim
    (λ (e : x.stage ≡ Here done got). let b = weight_is n s.stopped x (Here done got) e in
    let c : now x.stage ≡ 2 + (p - (done + count)) = ap now e in omega (arith, a, b, c))
    (λ (e : x.stage ≡ There done got). let b = weight_is n s.stopped x (There done got) e in
    let c : now x.stage ≡ 2 + (p - (done + count)) + more = ap now e in omega (arith, a, b, c)) e

-- a command ends, and each that it clears can cause a stop
pub left_at_once : (n : ℕ) (s : State) (number : ℕ) (x : Task) → task_of number s.tasks ≡ Some x → x.stage ≡ Waiting →
    left n (executed_at_once x s) + 1 ≤ left n s + count_cleared (execute (disk_of s) x.command).cleared
    (executed_at_once x s).tasks
left_at_once n s number x f e =
    let execution : Execution = execute (disk_of s) x.command in
    let now : State = record s { control = execution.disk.control; blocks = execution.disk.blocks } in
    let after_it : State = answered kind.Reply x.no (leaves x.no now) in
    let a = left_leaves n now number x f in
    let b = left_answered n (leaves x.no now) kind.Reply x.no in
    let c = stops_count (tells_aborts s.control) x.no execution.cleared after_it.tasks in
    let d = length-append after_it.to_b (stops_with (tells_aborts s.control) x.no execution.cleared after_it.tasks) in
    let w = weight_is n s.stopped x Waiting e in
    omega (arith, a, b, c, d, w)

left_replied : (n : ℕ) (s : State) (number : ℕ) (x : Task) → task_of number s.tasks ≡ Some x →
    2 ≤ weight n s.stopped x → left n (answered kind.Reply x.no (leaves x.no s)) + 1 ≤ left n s
left_replied n s number x f w = let a = left_leaves n s number x f in
    let b = left_answered n (leaves x.no s) kind.Reply x.no in omega (arith, a, b, w)

pub left_ended : (n : ℕ) (s : State) (number : ℕ) (x : Task) → IsFine n s → task_of number s.tasks ≡ Some x →
    is_moving x.stage ≡ true → left n (ended_at x.stage x s) + 1 ≤ left n s
left_ended n s number x h f can = go x.stage refl
  where
    go : (stage : Stage) → x.stage ≡ stage → left n (ended_at stage x s) + 1 ≤ left n s
    go (Here done got) e =
        left_replied n s number x f (let w = weight_is n s.stopped x (Here done got) e in omega (arith, w))
    go (There done got) e = left_over n s kind.Finish number x done got refl h f e
    go Waiting e = absurd (both_ways (is_moving x.stage) (ap is_moving e) can)
    go Granted e = absurd (both_ways (is_moving x.stage) (ap is_moving e) can)
    go Over e = absurd (both_ways (is_moving x.stage) (ap is_moving e) can)

-- a command is cut
noted_size : (by number : ℕ) (functions : List Open) → length (noted by number functions) ≡ length functions
noted_size by number [] = refl
noted_size by number (function ∷ functions) = ap suc (noted_size by number functions)

-- a command that waits is cut
pub left_cleared : (n by : ℕ) (s : State) (x : Task) → task_of x.no s.tasks ≡ Some x → x.stage ≡ Waiting →
    left n (record s { tasks = without_task x.no s.tasks; functions = noted by x.no s.functions }) + 2 ≤ left n s
left_cleared n by s x f e =
    let a = total_without (weight n s.stopped) x.no s.tasks x f in
    let b = noted_size by x.no s.functions in
    let w = weight_is n s.stopped x Waiting e in
    omega (arith, a, b, w)

pub left_failed : (n : ℕ) (s : State) (number : ℕ) (x : Task) → IsFine n s → task_of number s.tasks ≡ Some x →
    is_moving x.stage ≡ true → left n (cut_at Medium x.stage x s) + 1 ≤ left n s
left_failed n s number x h f can = go x.stage refl
  where
    go : (stage : Stage) → x.stage ≡ stage → left n (cut_at Medium stage x s) + 1 ≤ left n s
    go (Here done got) e =
        left_replied n s number x f (let w = weight_is n s.stopped x (Here done got) e in omega (arith, w))
    go (There done got) e = left_over n s kind.Finish number x done got refl h f e
    go Waiting e = absurd (both_ways (is_moving x.stage) (ap is_moving e) can)
    go Granted e = absurd (both_ways (is_moving x.stage) (ap is_moving e) can)
    go Over e = absurd (both_ways (is_moving x.stage) (ap is_moving e) can)

pub left_stopped : (n : ℕ) (s : State) (by number : ℕ) (x : Task) (done : ℕ) (got : List ℕ) → IsFine n s →
    task_of number s.tasks ≡ Some x → x.stage ≡ There done got →
    left n (cut_at (By by) (There done got) x s) + 1 ≤ left n s
left_stopped n s by number x done got h f e =
    let now : State = record s { functions = noted by x.no s.functions } in
    let a = left_over n now kind.Stopped number x done got refl h f e in
    let b = noted_size by x.no s.functions in
    omega (arith, a, b)

-- while a function is taken up, the stops of the commands that it is to cut at A have been sent
abbrev pub is_struck : Ask → Task → Bool
is_struck ask x = is_hit ask x && is_here x.stage

abbrev pub low : ℕ → List ℕ → Ask → Task → ℕ
low n stopped ask x = weight n stopped x - one_if (is_struck ask x)

abbrev pub left_low : ℕ → Ask → State → ℕ
left_low n ask s = left_by n (low n s.stopped ask) s

here_weight : (stage : Stage) (plan more : ℕ) → is_here stage ≡ true → 2 ≤ weight_at stage plan more
here_weight Waiting plan more e = omega arith
here_weight (Here done got) plan more e = omega arith
here_weight Granted plan more e = absurd (cc)
here_weight (There done got) plan more e = absurd (cc)
here_weight Over plan more e = absurd (cc)

pub left_cut : (n by : ℕ) (ask : Ask) (s : State) (number : ℕ) (x : Task) → task_of number s.tasks ≡ Some x →
    is_struck ask x ≡ true → left_low n ask (cut_at (By by) x.stage x s) + 1 ≤ left_low n ask s
left_cut n by ask s number x f e = go x.stage refl
  where
    here : is_here x.stage ≡ true
    here = (and_parts (is_hit ask x) (is_here x.stage) e).1

    now : State
    now = leaves x.no (record s { functions = noted by x.no s.functions })

    cut : left_low n ask now + 1 ≤ left_low n ask s
    cut =
        let a = total_without (low n s.stopped ask) x.no s.tasks x (found_itself number s.tasks x f) in
        let b = noted_size by x.no s.functions in
        let c : one_if (is_struck ask x) ≡ 1 = ap one_if e in
        let d = here_weight x.stage (length (plan_in n x.command)) (unstopped s.stopped x.no) here in
        omega (arith, a, b, c, d)

    go : (stage : Stage) → x.stage ≡ stage → left_low n ask (cut_at (By by) stage x s) + 1 ≤ left_low n ask s
    go Waiting k = cut
    go (Here done got) k = cut
    go Granted k = absurd (both_ways (is_here x.stage) (ap is_here k) here)
    go (There done got) k = absurd (both_ways (is_here x.stage) (ap is_here k) here)
    go Over k = absurd (both_ways (is_here x.stage) (ap is_here k) here)

-- where none is left to be cut
pub left_low-same : (n : ℕ) (ask : Ask) (s : State) → ((x : Task) → Has s.tasks x → is_struck ask x ≡ false) →
    left_low n ask s ≡ left n s
left_low-same n ask s h =
    let a =
    total_same (low n s.stopped ask) (weight n s.stopped) s.tasks
    (λ x k. let e : one_if (is_struck ask x) ≡ 0 = ap one_if (h x k) in omega (arith, e)) in
    omega (arith, a)

-- a function is taken up
abbrev has_number : ℕ → List ℕ → Bool
has_number n numbers = list_any (λ number. nat_eq number n) numbers

any_append : (n : ℕ) (xs ys : List ℕ) → has_number n (xs ++ ys) ≡ (has_number n xs || has_number n ys)
any_append n [] ys = refl
any_append n (x ∷ xs) ys = go (nat_eq x n) (any_append n xs ys)
  where
    go : (t : Bool) → has_number n (xs ++ ys) ≡ (has_number n xs || has_number n ys) →
        (t || has_number n (xs ++ ys)) ≡ ((t || has_number n xs) || has_number n ys)
    go true h = refl
    go false h = h

awaited_has : (ask : Ask) (q : List Task) (x : Task) → Has q x → is_awaited ask x ≡ true →
    has_number x.no (awaited_by ask q) ≡ true
awaited_has ask [] x h e = absurd h
awaited_has ask (y ∷ ys) x h e = go (is_awaited ask y) refl h (λ k. awaited_has ask ys x k e)
  where
    go : (t : Bool) → is_awaited ask y ≡ t → Has (y ∷ ys) x → (Has ys x → has_number x.no (awaited_by ask ys) ≡ true) →
        has_number x.no (map (λ (task : Task). task.no)
        (cond t (y ∷ filter (is_awaited ask) ys) (filter (is_awaited ask) ys))) ≡ true
    go true a (inl h) rec = or_left _ _ (eq-eqb y.no x.no (ap (λ (z : Task). z.no) h))
    go true a (inr h) rec = or_right (nat_eq y.no x.no) _ (rec h)
    go false a (inl h) rec =
        absurd (both_ways (is_awaited ask x) (subst (λ (z : Task). is_awaited ask z ≡ false) h a) e)
    go false a (inr h) rec = rec h

-- what one command pays
one_pays : (hit here b : Bool) (before later : Bool) (w w' : ℕ) → (before ≡ true → later ≡ true) →
    (hit ≡ true → here ≡ false → later ≡ true) → (here ≡ true → 2 ≤ w) → (here ≡ true → w' ≡ w) →
    (here ≡ false → w' + cond before 0 1 ≡ w + cond later 0 1) →
    (w' - one_if (hit && here)) + one_if (hit && cond here b (not before)) ≤ w
one_pays hit here b before later w w' grows sent heavy same other =
    go hit here b before later grows sent heavy same other
  where
    go : (hit here b before later : Bool) → (before ≡ true → later ≡ true) →
        (hit ≡ true → here ≡ false → later ≡ true) → (here ≡ true → 2 ≤ w) → (here ≡ true → w' ≡ w) →
        (here ≡ false → w' + cond before 0 1 ≡ w + cond later 0 1) →
        (w' - one_if (hit && here)) + one_if (hit && cond here b (not before)) ≤ w
    go true true true before later grows sent heavy same other =
        let s = same refl in let k = heavy refl in omega (arith, s, k)
    go true true false before later grows sent heavy same other = let s = same refl in omega (arith, s)
    go true false b true true grows sent heavy same other = let o = other refl in omega (arith, o)
    go true false b false true grows sent heavy same other = let o = other refl in omega (arith, o)
    go true false b before false grows sent heavy same other = absurd (false≢true (sent refl refl))
    go false true b before later grows sent heavy same other = let s = same refl in omega (arith, s)
    go false false b true true grows sent heavy same other = let o = other refl in omega (arith, o)
    go false false b false true grows sent heavy same other = let o = other refl in omega (arith, o)
    go false false b false false grows sent heavy same other = let o = other refl in omega (arith, o)
    go false false b true false grows sent heavy same other = absurd (false≢true (grows refl))

here_same : (stage : Stage) (plan a b : ℕ) → is_here stage ≡ true → weight_at stage plan a ≡ weight_at stage plan b
here_same Waiting plan a b e = refl
here_same (Here done got) plan a b e = refl
here_same Granted plan a b e = absurd (cc)
here_same (There done got) plan a b e = absurd (cc)
here_same Over plan a b e = absurd (cc)

other_same : (stage : Stage) (plan a b : ℕ) → is_here stage ≡ false →
    weight_at stage plan a + b ≡ weight_at stage plan b + a
other_same Waiting plan a b e = absurd (cc)
other_same (Here done got) plan a b e = absurd (cc)
other_same Granted plan a b e = omega arith
other_same (There done got) plan a b e = omega arith
other_same Over plan a b e = omega arith

stops_paid : (n : ℕ) (s : State) (by : ℕ) (ask : Ask) (later : List ℕ) (q : List Task) →
    ((m : ℕ) → has_number m s.stopped ≡ true → has_number m later ≡ true) →
    ((x : Task) → Has q x → is_awaited ask x ≡ true → has_number x.no later ≡ true) →
    total (low n later ask) q + length (stops_by s by ask q) ≤ total (weight n s.stopped) q
stops_paid n s by ask later [] grows sent = omega arith
stops_paid n s by ask later (x ∷ xs) grows sent =
    go (wants_stop s ask x) refl (stops_paid n s by ask later xs grows (λ y h. sent y (inr h)))
  where
    p : ℕ
    p = length (plan_in n x.command)

    one : low n later ask x + one_if (wants_stop s ask x) ≤ weight n s.stopped x
    one = one_pays (is_hit ask x) (is_here x.stage) (is_remote x.node) (has_number x.no s.stopped)
        (has_number x.no later) (weight n s.stopped x) (weight n later x)
        (grows x.no)
        (λ hit here. sent x (inl refl) (ap (λ t. t && not (is_here x.stage)) hit ∙ ap not here))
        (λ here. here_weight x.stage p (unstopped s.stopped x.no) here)
        (λ here. here_same x.stage p (unstopped later x.no) (unstopped s.stopped x.no) here)
        (λ here. other_same x.stage p (unstopped later x.no) (unstopped s.stopped x.no) here)

    go : (t : Bool) → wants_stop s ask x ≡ t →
        total (low n later ask) xs + length (stops_by s by ask xs) ≤ total (weight n s.stopped) xs →
        low n later ask x + total (low n later ask) xs + length
        (cond t (stop x.no by (is_told s ask x) ∷ stops_by s by ask xs) (stops_by s by ask xs))
        ≤ weight n s.stopped x + total (weight n s.stopped) xs
    go true e rest = let a : one_if (wants_stop s ask x) ≡ 1 = ap one_if e in omega (arith, a, one, rest)
    go false e rest = let a : one_if (wants_stop s ask x) ≡ 0 = ap one_if e in omega (arith, a, one, rest)

function_more : (new : Open) (functions : List Open) → length (with_function new functions) ≡ length functions + 1
function_more new [] = refl
function_more new (function ∷ functions) = go (nat_lt new.no function.no) (function_more new functions)
  where
    go : (t : Bool) → length (with_function new functions) ≡ length functions + 1 →
        length (cond t (new ∷ function ∷ functions) (function ∷ with_function new functions)) ≡ suc
        (length functions) + 1
    go true h = omega arith
    go false h = omega (arith, h)

pub left_taken : (n : ℕ) (s : State) (number : ℕ) (ask : Ask) → left_low n ask (taken_up number ask s) ≤ left n s + 2
left_taken n s number ask =
    let a = stops_paid n s number ask (s.stopped ++ awaited_by ask s.tasks) s.tasks
    (λ m e. any_append m s.stopped (awaited_by ask s.tasks) ∙ or_left _ _ e)
    (λ x h e. any_append x.no s.stopped (awaited_by ask s.tasks) ∙ or_right (has_number x.no s.stopped) _
    (awaited_has ask s.tasks x h e)) in
    let b = length-append s.to_b (stops_by s number ask s.tasks) in
    let c = function_more (record { no = number; ask = ask; awaits = awaited_by ask s.tasks; cut = [] }) s.functions in
    omega (arith, a, b, c)

-- a function is answered
without_size : (number : ℕ) (functions : List Open) → length (without_function number functions) ≤ length functions
without_size number [] = omega arith
without_size number (function ∷ functions) = go (nat_eq function.no number) (without_size number functions)
  where
    go : (t : Bool) → length (without_function number functions) ≤ length functions →
        length (cond t (without_function number functions) (function ∷ without_function number functions)) ≤ suc
        (length functions)
    go true h = omega (arith, h)
    go false h = omega (arith, h)

without_found : (number : ℕ) (functions : List Open) (f : Open) → function_of number functions ≡ Some f →
    (length (without_function number functions) + 1 ≤ length functions) × (f.no ≡ number)
without_found number [] f e = absurd (cc)
without_found number (function ∷ functions) f e =
    go (nat_eq function.no number) refl e (without_size number functions) (without_found number functions f)
  where
    go : (t : Bool) → nat_eq function.no number ≡ t → cond t (Some function) (function_of number functions) ≡ Some f →
        length (without_function number functions) ≤ length functions →
        (function_of number functions ≡ Some f →
        (length (without_function number functions) + 1 ≤ length functions) × (f.no ≡ number)) →
        (length (cond t (without_function number functions) (function ∷ without_function number functions)) + 1 ≤ suc
        (length functions)) × (f.no ≡ number)
    go true a e h rec = let same : function ≡ f = cc in
        (omega (arith, h), ap (λ (z : Open). z.no) (sym same) ∙ eqb-true function.no number a)
    go false a e h rec = let r = rec e in (omega (arith, r.0), r.1)

pub found_function : (number : ℕ) (functions : List Open) (f : Open) → function_of number functions ≡ Some f →
    function_of f.no functions ≡ Some f
found_function number functions f e = ap (λ m. function_of m functions) (without_found number functions f e).1 ∙ e

pub left_closed : (n : ℕ) (s : State) (number : ℕ) (f : Open) → function_of number s.functions ≡ Some f →
    left n (answered kind.Response number (closed (function_of number s.functions) s)) + 1 ≤ left n s
left_closed n s number f e =
    subst (λ found. left n (answered kind.Response number (closed found s)) + 1 ≤ left n s) (sym e)
    (let now : State = closed (Some f) s in
    let a = left_answered n now kind.Response number in
    let w = without_found f.no s.functions f (found_function number s.functions f e) in
    omega (arith, a, w.0))

pub left_rejected : (n : ℕ) (s : State) (number : ℕ) (found : Option Open) →
    left n (answered kind.Response number (closed found s)) ≤ left n s + 1
left_rejected n s number None = left_answered n s kind.Response number
left_rejected n s number (Some f) = let a = left_answered n (closed (Some f) s) kind.Response number in
    let b = without_size f.no s.functions in omega (arith, a, b)

-- a command enters
pub left_entered : (n : ℕ) (s : State) (number : ℕ) (arrival : Arrival) →
    left n (entered number arrival.node arrival.work s) + 1 ≤ left n s + work_weight n arrival.work
left_entered n s number arrival = go arrival.work
  where
    go : (w : KeptWork) → left n (entered number arrival.node w s) + 1 ≤ left n s + work_weight n w
    go (work.Cmd command) =
        let a = total_queued (weight n s.stopped) (new_task number arrival.node command) s.tasks in omega (arith, a)
    go (work.Ask ask) = omega arith
