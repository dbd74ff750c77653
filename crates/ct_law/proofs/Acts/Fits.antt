-- Every run fits the room of its opening.
use Rattle.std.proofs.Common.{◌≡◌, ℕ, zero, suc, ◌+◌, ◌-◌, ◌≤◌, ◌⊎◌, inl, inr, Bool, true, false, List, [], ◌∷◌, ◌++◌}
use Rattle.std.proofs.Common.{Option, Some, None, length, map, take, drop, refl, sym, ap, ◌∙◌, subst, ⊎_elim, cond}
use Rattle.std.proofs.Common.{arith, length-append, length-take, length-drop, leb-true}
use Rattle.std.specs.Prelude.{nat_le, nat_lt, slice_get}
use Rattle.std.specs.List.{list_any}
use Rattle.std.proofs.lemmas.List.{length-map}
use Rattle.std.proofs.lemmas.Bool.{both_ways, and_parts, ltb-true}
use Rattle.ct_word.specs.declared.limit.TheConstants.{MOST_FUNCTIONS}
use Rattle.ct_word.specs.declared.names.Node.{Node}
use Rattle.ct_word.specs.declared.names.Node.TheVariants.{A, B}
use Rattle.ct_sense.specs.declared.reply.Reply.{Reply}
use Rattle.ct_tmf.specs.declared.function.Ask.{Ask}
use Rattle.ct_tmf.specs.declared.function.Outcome.{Outcome}
use Rattle.ct_tmf.specs.declared.function.Outcome.TheVariants.{Rejected}
use Rattle.ct_plan.specs.declared.operation.BlockOp.{BlockOp}
use Rattle.ct_plan.specs.Plans.{puts_among}
use Rattle.ct_plan.specs.Cells.{Cells, Progress, performed}
use Rattle.ct_book.specs.declared.work.Command.{Command}
use Rattle.ct_book.specs.declared.work.Work.TheVariants as work
use Rattle.ct_book.specs.declared.event.Event.TheVariants as event
use Rattle.ct_book.specs.declared.event.Kind2.{Kind2}
use Rattle.ct_book.specs.declared.event.Kind2.TheVariants as kind
use Rattle.ct_book.specs.declared.event.Why.TheVariants.{By, Medium}
use Rattle.ct_book.specs.declared.event.Logged.{Logged}
use Rattle.ct_book.specs.Journals.{KeptWork, numbered}
use Rattle.ct_exec.specs.Controls.{tells_aborts}
use Rattle.ct_exec.specs.Executions.{Execution, execute, refusal_of, plan_in, reply_failed}
use Rattle.ct_book.specs.Kept.{events_for}
use Rattle.ct_machine.specs.declared.act.Act.{Act}
use Rattle.ct_machine.specs.declared.act.Act.TheVariants as act
use Rattle.ct_machine.specs.declared.act.Answer.TheVariants as answer
use Rattle.ct_machine.specs.declared.act.Opening.{Opening}
use Rattle.ct_machine.specs.States.{Stage, Waiting, Here, Granted, There, Over, Task, Open, Message, Arrival, State}
use Rattle.ct_machine.specs.States.{opened, disk_of, arrival_of, task_of, function_of, is_here, is_moving, without_task}
use Rattle.ct_machine.specs.States.{with_task, at_stage}
use Rattle.ct_machine.specs.States.{is_remote}
use Rattle.ct_machine.specs.Events.Ends.{executed_at_once, is_cleared, ended_at, after_ended, cut_at, after_cut}
use Rattle.ct_machine.specs.Events.Sends.{message, to_a}
use Rattle.ct_machine.specs.Events.Moves.{staged, cells_after, further, moved_from, moved_at, after_moved}
use Rattle.ct_machine.specs.Events.Functions.{is_hit, is_told, taken_up, asked_for, after_asked}
use Rattle.ct_machine.specs.Events.Deliveries.{awaits_no_more, came_to_a, after_grant, came_to_b}
use Rattle.ct_machine.specs.Events.Arrivals.{after_came, after_enter, kind_of}
use Rattle.ct_machine.specs.Events.{after_event, after}
use Rattle.ct_plan.specs.Pieces.{tried}
use Rattle.ct_machine.specs.Acts.Turns.{Turn, nothing, writes, says, replies, followed}
use Rattle.ct_machine.specs.Acts.Entries.{turned_cause, entering_with}
use Rattle.ct_machine.specs.Acts.Functions.{outcome_of, puts_of, cutting, numbers_of, cutting_all, closing_if, closing}
use Rattle.ct_machine.specs.Acts.Functions.{open_numbers, closing_all, taking_up, asking}
use Rattle.ct_machine.specs.Acts.Moves.{moving_on, failing, failing_if}
use Rattle.ct_machine.specs.Acts.Moves.{moved_to, moving_from}
use Rattle.ct_machine.specs.Acts.Begins.{clearing, clearing_all, ending_at_once, is_granted, beginning_at}
use Rattle.ct_machine.specs.Acts.Begins.{beginning}
use Rattle.ct_machine.specs.Acts.Answers.{Done}
use Rattle.ct_machine.specs.Acts.Arrivals.{next_number, has_room_for, arriving_at, arriving, arriving_here}
use Rattle.ct_machine.specs.Acts.Steps.{blocked_by}
use Rattle.ct_machine.specs.Acts.Steps.{beginning_unless, stepping_at, is_sent, stepping}
use Rattle.ct_machine.specs.Acts.Messages.{taking_in, coming_in, coming_to_a}
use Rattle.ct_machine.specs.Acts.Messages.{stopping_at, stopping, coming_to_b, delivering_first, messages_to}
use Rattle.ct_machine.specs.Acts.Messages.{delivering}
use Rattle.ct_machine.specs.Acts.Next.{next_step, stepping_next, doing_next}
use Rattle.ct_machine.specs.Acts.{doing}
use Rattle.ct_machine.specs.Runs.{replay, IsRun}
use Rattle.ct_law.proofs.Events.Nodes.{arriving_by, came_in, came_by, came_last}
use Rattle.ct_law.proofs.Lists.Tasks.{Has, has_found, has_without}
use Rattle.ct_plan.proofs.Performing.{made_within}
use Rattle.ct_law.proofs.Lists.Messages.{is_arrival, is_end}
use Rattle.ct_law.proofs.Rows.Laws.{Laws}
use Rattle.ct_law.proofs.Walks.Cleared.{Stands, stands_tail, stands_without, stands_whole, distinct_in, after_clearing}
use Rattle.ct_law.proofs.Walks.Cleared.{cleared_waits, count_cleared}
use Rattle.ct_law.proofs.Rows.Commands
use Rattle.ct_law.proofs.Cells.Execs.{tried_take}
use Rattle.ct_law.proofs.Journals.Growing.{numbered_last}
use Rattle.ct_law.proofs.Frame.Opens.{IsIn}
use Rattle.ct_law.proofs.Runs.{cuts, run_induction}
use Rattle.ct_law.proofs.Acts.Sends.{one_if, Fine, IsFine, Keeps, fine_free, fine_turning, fine_single, fine_other}
use Rattle.ct_law.proofs.Acts.Sends.{fine_came_here, come_b, found_none, fine_act, fine_opened}
use Rattle.ct_law.proofs.Acts.Weights.{weight, work_weight, arrival_weight, weigh, left, left_low, is_struck}
use Rattle.ct_law.proofs.Acts.Weights.{total_fewer, found_with, found_itself, weigh_push, weigh_came, a_work}
use Rattle.ct_law.proofs.Acts.Weights.{left_answered, left_begun, left_granted, left_grant, left_moved, left_ended}
use Rattle.ct_law.proofs.Acts.Weights.{left_at_once, left_cleared, left_failed, left_stopped, left_cut, left_low-same}
use Rattle.ct_law.proofs.Acts.Weights.{left_taken, left_closed, left_rejected, left_entered, found_function}

-- what a turn writes and leaves is covered by what was left, and by this much that was kept for it
abbrev Costs : ℕ → ℕ → State → Turn → Type 0
Costs n more s t = length t.journal + left n t.state ≤ left n s + more

costs_one : (n more : ℕ) (s : State) (l : Logged) → left n (after s l) + 1 ≤ left n s + more →
    Costs n more s (writes l s)
costs_one n more s l h = omega (arith, h)

costs_both : (n a b : ℕ) (s : State) (t : Turn) (next : State → Turn) → Costs n a s t →
    Costs n b t.state (next t.state) → Costs n (a + b) s (followed t next)
costs_both n a b s t next h k = let e = length-append t.journal (next t.state).journal in omega (arith, e, h, k)

-- Ends and moves

costs_ended : (n : ℕ) (s : State) (number : ℕ) (x : Task) (reply : Reply) → IsFine n s →
    task_of number s.tasks ≡ Some x → is_moving x.stage ≡ true → Costs n 0 s (replies (event.Ended number) reply s)
unfolding after
costs_ended n s number x reply h f can =
    let a : left n (after_ended (task_of number s.tasks) s) + 1 ≤ left n s =
    subst (λ o. left n (after_ended o s) + 1 ≤ left n s) (sym f) (left_ended n s number x h f can) in
    omega (arith, a)

costs_failed : (n : ℕ) (s : State) (number puts : ℕ) (told : Bool) (x : Task) (reply : Reply) → IsFine n s →
    task_of number s.tasks ≡ Some x → is_moving x.stage ≡ true →
    Costs n 0 s (replies (event.Cut number puts Medium told) reply s)
unfolding after
costs_failed n s number puts told x reply h f can =
    let a : left n (after_cut Medium (task_of number s.tasks) s) + 1 ≤ left n s =
    subst (λ o. left n (after_cut Medium o s) + 1 ≤ left n s) (sym f) (left_failed n s number x h f can) in
    omega (arith, a)

costs_failing : (n : ℕ) (s : State) (task x : Task) (plan : List BlockOp) (done : ℕ) (found : Option BlockOp) →
    IsFine n s → task_of task.no s.tasks ≡ Some x → is_moving x.stage ≡ true →
    Costs n 0 s (failing task plan done found s)
costs_failing n s task x plan done None h f can = omega arith
costs_failing n s task x plan done (Some operation) h f can =
    costs_failed n s task.no (puts_among (take done plan)) false x (reply_failed s.control operation) h f can

costs_failing_if : (n : ℕ) (s : State) (task x : Task) (plan : List BlockOp) (done : ℕ) (operations : List BlockOp)
    (fault : Option ℕ) → IsFine n s → task_of task.no s.tasks ≡ Some x → is_moving x.stage ≡ true →
    Costs n 0 s (failing_if task plan done operations fault s)
costs_failing_if n s task x plan done operations None h f can = omega arith
costs_failing_if n s task x plan done operations (Some fault) h f can =
    costs_failing n s task x plan done (slice_get operations fault) h f can

costs_moved_to : (n : ℕ) (s : State) (task x : Task) (difference : Option ℕ) (ended : Bool) (plan : List BlockOp)
    (done : ℕ) (got : List ℕ) (operations : List BlockOp) (fault : Option ℕ) → IsFine n s →
    task_of task.no s.tasks ≡ Some x → is_moving x.stage ≡ true →
    Costs n 0 s (moved_to difference ended task plan done got operations fault s)
costs_moved_to n s task x (Some offset) ended plan done got operations fault h f can =
    costs_ended n s task.no x _ h f can
costs_moved_to n s task x None true plan done got operations fault h f can = costs_ended n s task.no x _ h f can
costs_moved_to n s task x None false plan done got operations fault h f can =
    costs_failing_if n s task x plan done operations fault h f can

abbrev IsAt : Stage → ℕ → List ℕ → Type 0
IsAt stage done got = (stage ≡ Here done got) ⊎ (stage ≡ There done got)

at_moving : (stage : Stage) (done : ℕ) (got : List ℕ) → IsAt stage done got → is_moving stage ≡ true
at_moving stage done got (inl e) = ap is_moving e
at_moving stage done got (inr e) = ap is_moving e

moved_is : (s : State) (l : Logged) (number count : ℕ) (x : Task) (done : ℕ) (got : List ℕ) →
    l.event ≡ event.Moved number count → task_of number s.tasks ≡ Some x → IsAt x.stage done got →
    after s l ≡ moved_from x count done got s
unfolding after
moved_is s l number count x done got e f i =
    ap (λ v. after_event v l.work s) e ∙ ap (λ o. after_moved o count s) f ∙ ⊎_elim
    (λ (k : x.stage ≡ Here done got). ap (λ st. moved_at st x count s) k)
    (λ (k : x.stage ≡ There done got). ap (λ st. moved_at st x count s) k) i

further_moving : (stage : Stage) (done : ℕ) (got : List ℕ) → is_moving (further stage done got) ≡ true
further_moving Waiting done got = refl
further_moving (Here d g) done got = refl
further_moving Granted done got = refl
further_moving (There d g) done got = refl
further_moving Over done got = refl

costs_moving_on : (laws : Laws) (n : ℕ) (s : State) (task x : Task) (made done : ℕ) (got : List ℕ)
    (next : State → Turn) → IsFine n s → task_of task.no s.tasks ≡ Some x → IsAt x.stage done got →
    made ≤ length (plan_in n x.command) - done →
    ((t : State) (y : Task) → IsFine n t → task_of task.no t.tasks ≡ Some y → is_moving y.stage ≡ true →
    Costs n 0 t (next t)) → Costs n 0 s (followed (moving_on task.no made s) next)
costs_moving_on laws n s task x zero done got next h f i fits after_it =
    costs_both n 0 0 s (nothing s) next (omega arith) (after_it s x h f (at_moving x.stage done got i))
costs_moving_on laws n s task x (suc count) done got next h f i fits after_it =
    let l : Logged = record { event = event.Moved task.no (suc count); work = None; reply = None } in
    let is : after s l ≡ moved_from x (suc count) done got s = moved_is s l task.no (suc count) x done got refl f i in
    let cells : Cells = cells_after x (suc count) done got s in
    let y : Task = at_stage (further x.stage (done + suc count) cells.got) x in
    let same : x.no ≡ task.no = (has_found task.no s.tasks x f).1 in
    let found : task_of task.no (moved_from x (suc count) done got s).tasks ≡ Some y =
    subst (λ m. task_of m (with_task y s.tasks) ≡ Some y) same
    (found_with y s.tasks x (found_itself task.no s.tasks x f)) in
    let cost : left n (after s l) + 1 ≤ left n s =
    subst (λ u. left n u + 1 ≤ left n s) (sym is)
    (left_moved n s task.no x (suc count) done got h f i (omega arith) fits) in
    costs_both n 0 0 s (writes l s) next (costs_one n 0 s l (omega (arith, cost)))
    (after_it (after s l) y (fine_free laws n s l refl h) (subst (λ u. task_of task.no u.tasks ≡ Some y) (sym is) found)
    (further_moving x.stage (done + suc count) cells.got))

costs_moving_from : (laws : Laws) (n : ℕ) (s : State) (task x : Task) (count : ℕ) (fault : Option ℕ) (done : ℕ)
    (got : List ℕ) → IsFine n s → task_of task.no s.tasks ≡ Some x → x.command ≡ task.command → IsAt x.stage done got →
    Costs n 0 s (moving_from task count fault done got s)
costs_moving_from laws n s task x count fault done got h f same i =
    let plan : List BlockOp = plan_in (length s.blocks) task.command in
    let operations : List BlockOp = take count (drop done plan) in
    let progress : Progress =
    performed task.command.out (tried operations fault) (record { blocks = s.blocks; got = got }) in
    let some = tried_take count (drop done plan) fault in
    let a : progress.made ≤ length (tried operations fault) =
    made_within task.command.out (tried operations fault) (record { blocks = s.blocks; got = got }) in
    let b : length (tried operations fault) ≡ length (take some.0 (drop done plan)) = ap length some.1 in
    let c = length-take some.0 (drop done plan) in
    let d = length-drop done plan in
    let e : length plan ≡ length (plan_in n x.command) =
    ap (λ m. length (plan_in m task.command)) h.sized ∙ ap (λ k. length (plan_in n k)) (sym same) in
    costs_moving_on laws n s task x progress.made done got
    (moved_to progress.difference (nat_le (length plan) (done + progress.made)) task plan
    (done + progress.made) progress.cells.got operations fault) h f i (omega (arith, a, b, c, d, e))
    (λ t y fine found moving. costs_moved_to n t task y progress.difference
    (nat_le (length plan) (done + progress.made)) plan
    (done + progress.made) progress.cells.got operations fault fine found moving)

-- Begins

-- what a PREEMPT AND ABORT clears is cut, and each was left more than that

costs_clearing : (n by : ℕ) (cleared : List Bool) (x : Task) (s : State) → task_of x.no s.tasks ≡ Some x →
    (rest : List Task) → Stands (x ∷ rest) s.tasks →
    (length (clearing by cleared (task_of x.no s.tasks) s).journal + left n
    (clearing by cleared (task_of x.no s.tasks) s).state + one_if (is_cleared cleared x) ≤ left n s)
    × Stands rest (clearing by cleared (task_of x.no s.tasks) s).state.tasks
costs_clearing n by cleared x s f rest stands = subst Paid (sym f) (go (is_cleared cleared x) refl)
  where
    Paid : Option Task → Type 0
    Paid found = (length (clearing by cleared found s).journal + left n (clearing by cleared found s).state + one_if
        (is_cleared cleared x) ≤ left n s) × Stands rest (clearing by cleared found s).state.tasks

    cut : Turn
    cut = says (event.Cut x.no 0 (By by) (tells_aborts s.control)) s

    go : (t : Bool) → is_cleared cleared x ≡ t →
        (length (cond t cut (nothing s)).journal + left n (cond t cut (nothing s)).state + one_if t ≤ left n s)
        × Stands rest (cond t cut (nothing s)).state.tasks
    go true e =
        let waits : x.stage ≡ Waiting = cleared_waits cleared x e in
        let is = after_clearing by (tells_aborts s.control) x s f waits in
        let a : left n cut.state + 2 ≤ left n s =
        subst (λ u. left n u + 2 ≤ left n s) (sym is) (left_cleared n by s x f waits) in
        (omega (arith, a), subst (λ u. Stands rest u.tasks) (sym is) (stands_without x rest s.tasks stands))
    go false e = (omega arith, stands_tail x rest s.tasks stands)

costs_clears : (n by : ℕ) (cleared : List Bool) (rest : List Task) (s : State) → Stands rest s.tasks →
    length (clearing_all by cleared (numbers_of rest) s).journal + left n
    (clearing_all by cleared (numbers_of rest) s).state + count_cleared cleared rest ≤ left n s
costs_clears n by cleared [] s stands = omega arith
costs_clears n by cleared (x ∷ rest) s stands =
    let first : Turn = clearing by cleared (task_of x.no s.tasks) s in
    let one = costs_clearing n by cleared x s (stands.found x (inl refl)) rest stands in
    let others = costs_clears n by cleared rest first.state one.1 in
    let a = one.0 in
    let e = length-append first.journal (clearing_all by cleared (numbers_of rest) first.state).journal in
    omega (arith, a, others, e)

once_is : (s : State) (l : Logged) (x : Task) → l.event ≡ event.Ended x.no → task_of x.no s.tasks ≡ Some x →
    x.stage ≡ Waiting → after s l ≡ executed_at_once x s
unfolding after
once_is s l x e f w = ap (λ v. after_event v l.work s) e ∙ ap (λ o. after_ended o s) f ∙ ap (λ st. ended_at st x s) w

costs_at_once : (laws : Laws) (n : ℕ) (s : State) (x : Task) → IsFine n s → task_of x.no s.tasks ≡ Some x →
    x.stage ≡ Waiting → Costs n 0 s (ending_at_once x s)
costs_at_once laws n s x h f e =
    let execution : Execution = execute (disk_of s) x.command in
    let l : Logged = record { event = event.Ended x.no; work = None; reply = Some execution.reply } in
    let first : Turn = writes l s in
    let is : first.state ≡ executed_at_once x s = once_is s l x refl f e in
    let fine : IsFine n first.state = fine_free laws n s l refl h in
    let stands =
    stands_whole first.state.tasks (distinct_in first.state.tasks (λ m. let k = fine.single m in omega (arith, k))) in
    let a : left n first.state + 1 ≤ left n s + count_cleared execution.cleared first.state.tasks =
    subst (λ u. left n u + 1 ≤ left n s + count_cleared execution.cleared u.tasks) (sym is)
    (left_at_once n s x.no x f e) in
    let b = costs_clears n x.no execution.cleared first.state.tasks first.state stands in
    let c =
    length-append first.journal
    (clearing_all x.no execution.cleared (numbers_of first.state.tasks) first.state).journal in
    omega (arith, a, b, c)

begun_is : (s : State) (l : Logged) (x : Task) → l.event ≡ event.Begun x.no → task_of x.no s.tasks ≡ Some x →
    after s l ≡ staged (Here 0 []) (Some x) s
unfolding after
begun_is s l x e f = ap (λ v. after_event v l.work s) e ∙ ap (λ o. staged (Here 0 []) o s) f

costs_granted : (n : ℕ) (s : State) (x : Task) → IsFine n s → task_of x.no s.tasks ≡ Some x → x.stage ≡ Waiting →
    Costs n 0 s (says (event.Granted x.no) s)
unfolding after
costs_granted n s x h f e =
    let a : left n (record (staged Granted (task_of x.no s.tasks) s) { to_b = (staged Granted (task_of x.no s.tasks) s).to_b ++ message kind.Grant x.no ∷ [] }) + 1 ≤ left n s =
    subst (λ o. left n (record (staged Granted o s) { to_b = (staged Granted o s).to_b ++ message kind.Grant x.no ∷ [] }) + 1 ≤ left n s) (sym f) (left_granted n s x.no (message kind.Grant x.no) x h f e) in
    omega (arith, a)

costs_beginning_at : (laws : Laws) (n : ℕ) (s : State) (granted : Bool) (x : Task) (count : ℕ) (fault : Option ℕ) →
    IsFine n s → task_of x.no s.tasks ≡ Some x → x.stage ≡ Waiting → Costs n 0 s (beginning_at granted x count fault s)
costs_beginning_at laws n s true x count fault h f e = costs_granted n s x h f e
costs_beginning_at laws n s false x count fault h f e =
    let l : Logged = record { event = event.Begun x.no; work = None; reply = None } in
    let y : Task = at_stage (Here 0 []) x in
    let is : after s l ≡ staged (Here 0 []) (Some x) s = begun_is s l x refl f in
    let cost : left n (after s l) + 1 ≤ left n s =
    subst (λ u. left n u + 1 ≤ left n s) (sym is) (left_begun n s x.no x h f e) in
    costs_both n 0 0 s (writes l s) (moving_from x count fault 0 []) (costs_one n 0 s l (omega (arith, cost)))
    (costs_moving_from laws n (after s l) x y count fault 0 [] (fine_free laws n s l refl h)
    (subst (λ u. task_of x.no u.tasks ≡ Some y) (sym is) (found_with y s.tasks x f)) refl (inl refl))

costs_beginning : (laws : Laws) (n : ℕ) (s : State) (refused : Option Reply) (plan : List BlockOp) (x : Task)
    (count : ℕ) (fault : Option ℕ) → IsFine n s → task_of x.no s.tasks ≡ Some x → x.stage ≡ Waiting →
    Costs n 0 s (beginning refused plan x count fault s)
costs_beginning laws n s (Some reply) plan x count fault h f e = costs_at_once laws n s x h f e
costs_beginning laws n s None [] x count fault h f e = costs_at_once laws n s x h f e
costs_beginning laws n s None (operation ∷ operations) x count fault h f e =
    costs_beginning_at laws n s (is_granted s.ha x.node) x count fault h f e

costs_unless : (laws : Laws) (n : ℕ) (s : State) (blocked : Option ℕ) (x : Task) (count : ℕ) (fault : Option ℕ) →
    IsFine n s → task_of x.no s.tasks ≡ Some x → x.stage ≡ Waiting →
    Costs n 0 s (beginning_unless blocked x count fault s).turn
costs_unless laws n s (Some by) x count fault h f e = omega arith
costs_unless laws n s None x count fault h f e =
    costs_beginning laws n s (refusal_of s.control (length s.blocks) x.command)
    (plan_in (length s.blocks) x.command) x count fault h f e

costs_stepping : (laws : Laws) (n : ℕ) (s : State) (found : Option Task) (number count : ℕ) (fault : Option ℕ) →
    task_of number s.tasks ≡ found → IsFine n s → Costs n 0 s (stepping found number count fault s).turn
costs_stepping laws n s None number count fault e h = go (list_any (is_sent number) s.to_a)
  where
    go : (t : Bool) → Costs n 0 s
        (cond {A = Done} t (record { turn = nothing s; answer = answer.Away number })
        (record { turn = nothing s; answer = answer.Gone })).turn
    go true = omega arith
    go false = omega arith
costs_stepping laws n s (Some x) number count fault e h = go x.stage refl
  where
    f : task_of x.no s.tasks ≡ Some x
    f = found_itself number s.tasks x e

    go : (stage : Stage) → x.stage ≡ stage → Costs n 0 s (stepping_at stage x count fault s).turn
    go Waiting k = costs_unless laws n s (blocked_by s.functions s x) x count fault h f k
    go (Here done got) k = costs_moving_from laws n s x x count fault done got h f refl (inl k)
    go (There done got) k = costs_moving_from laws n s x x count fault done got h f refl (inr k)
    go Granted k = omega arith
    go Over k = omega arith

-- Functions

costs_closed : (n : ℕ) (s : State) (f : Open) (outcome : Outcome) → function_of f.no s.functions ≡ Some f →
    Costs n 0 s (says (event.Closed f.no outcome) s)
unfolding after
costs_closed n s f outcome e = let a = left_closed n s f.no f e in omega (arith, a)

costs_closing_if : (n : ℕ) (s : State) (awaits : List ℕ) (f : Open) → function_of f.no s.functions ≡ Some f →
    Costs n 0 s (closing_if awaits f s)
costs_closing_if n s [] f e = costs_closed n s f (outcome_of f.ask s) e
costs_closing_if n s (number ∷ numbers) f e = omega arith

costs_closing : (n : ℕ) (s : State) (number : ℕ) (found : Option Open) → function_of number s.functions ≡ found →
    Costs n 0 s (closing found s)
costs_closing n s number None e = omega arith
costs_closing n s number (Some f) e = costs_closing_if n s f.awaits f (found_function number s.functions f e)

costs_closing_all : (n : ℕ) (numbers : List ℕ) (s : State) → Costs n 0 s (closing_all numbers s)
costs_closing_all n [] s = omega arith
costs_closing_all n (number ∷ numbers) s =
    let first : Turn = closing (function_of number s.functions) s in
    costs_both n 0 0 s first (closing_all numbers) (costs_closing n s number (function_of number s.functions) refl)
    (costs_closing_all n numbers first.state)

-- while a function is taken up
abbrev Lows : ℕ → Ask → State → Turn → Type 0
Lows n ask s t = length t.journal + left_low n ask t.state ≤ left_low n ask s

cut_is : (s : State) (l : Logged) (number puts by : ℕ) (told : Bool) (x : Task) →
    l.event ≡ event.Cut number puts (By by) told → task_of number s.tasks ≡ Some x →
    after s l ≡ cut_at (By by) x.stage x s
unfolding after
cut_is s l number puts by told x e f = ap (λ v. after_event v l.work s) e ∙ ap (λ o. after_cut (By by) o s) f

abbrev a_cut : ℕ → Ask → State → Task → Logged
a_cut by ask s x = record { event = event.Cut x.no (puts_of x s) (By by) (is_told s ask x); work = None; reply = None }

lows_cutting : (n by : ℕ) (ask : Ask) (s : State) (number : ℕ) (found : Option Task) → task_of number s.tasks ≡ found →
    Lows n ask s (cutting by ask found s)
lows_cutting n by ask s number None e = omega arith
lows_cutting n by ask s number (Some x) e = go (is_struck ask x) refl
  where
    is : after s (a_cut by ask s x) ≡ cut_at (By by) x.stage x s
    is = cut_is s (a_cut by ask s x) x.no (puts_of x s) by (is_told s ask x) x refl (found_itself number s.tasks x e)

    go : (t : Bool) → is_struck ask x ≡ t → Lows n ask s (cond t (writes (a_cut by ask s x) s) (nothing s))
    go true k = let a : left_low n ask (after s (a_cut by ask s x)) + 1 ≤ left_low n ask s = subst
        (λ u. left_low n ask u + 1 ≤ left_low n ask s) (sym is) (left_cut n by ask s number x e k) in omega (arith, a)
    go false k = omega arith

lows_all : (n by : ℕ) (ask : Ask) (numbers : List ℕ) (s : State) → Lows n ask s (cutting_all by ask numbers s)
lows_all n by ask [] s = omega arith
lows_all n by ask (number ∷ numbers) s =
    let first : Turn = cutting by ask (task_of number s.tasks) s in
    let a = lows_cutting n by ask s number (task_of number s.tasks) refl in
    let b = lows_all n by ask numbers first.state in
    let e = length-append first.journal (cutting_all by ask numbers first.state).journal in
    omega (arith, a, b, e)

-- what is to be cut is cut, number by number
cut_tasks : (by : ℕ) (stage : Stage) (x y : Task) (s : State) → is_here stage ≡ true →
    Has (cut_at (By by) stage x s).tasks y → Has s.tasks y × (y.no ≡ x.no → ⊥)
cut_tasks by Waiting x y s e h = has_without x.no s.tasks y h
cut_tasks by (Here done got) x y s e h = has_without x.no s.tasks y h
cut_tasks by Granted x y s e h = absurd (cc)
cut_tasks by (There done got) x y s e h = absurd (cc)
cut_tasks by Over x y s e h = absurd (cc)

struck_one : (n by : ℕ) (ask : Ask) (s : State) (number : ℕ) (found : Option Task) → task_of number s.tasks ≡ found →
    IsFine n s → (y : Task) → Has (cutting by ask found s).state.tasks y → is_struck ask y ≡ true →
    Has s.tasks y × (y.no ≡ number → ⊥)
struck_one n by ask s number None e h y k st = (k, found_none number s.tasks y e k)
struck_one n by ask s number (Some x) e h y k st = go (is_struck ask x) refl k
  where
    f : Has s.tasks x × (x.no ≡ number)
    f = has_found number s.tasks x e

    is : after s (a_cut by ask s x) ≡ cut_at (By by) x.stage x s
    is = cut_is s (a_cut by ask s x) x.no (puts_of x s) by (is_told s ask x) x refl (found_itself number s.tasks x e)

    go : (t : Bool) → is_struck ask x ≡ t → Has (cond t (writes (a_cut by ask s x) s) (nothing s)).state.tasks y →
        Has s.tasks y × (y.no ≡ number → ⊥)
    go true a k = let w = cut_tasks by x.stage x y s (and_parts (is_hit ask x) (is_here x.stage) a).1
        (subst (λ u. Has u.tasks y) is k) in (w.0, λ j. w.1 (j ∙ sym f.1))
    go false a k = (
      k,
      λ j. both_ways (is_struck ask x) a
          (subst (λ (z : Task). is_struck ask z ≡ true) (fine_single n s h y x k f.0 (j ∙ sym f.1)) st),
    )

struck_all : (laws : Laws) (n by : ℕ) (ask : Ask) (numbers : List ℕ) (s : State) → IsFine n s →
    ((y : Task) → Has s.tasks y → is_struck ask y ≡ true → IsIn y.no numbers) → (y : Task) →
    Has (cutting_all by ask numbers s).state.tasks y → is_struck ask y ≡ false
struck_all laws n by ask [] s h all y k = go (is_struck ask y) refl
  where
    go : (t : Bool) → is_struck ask y ≡ t → is_struck ask y ≡ false
    go true e = absurd (all y k e)
    go false e = e
struck_all laws n by ask (number ∷ numbers) s h all y k =
    let first : Turn = cutting by ask (task_of number s.tasks) s in
    struck_all laws n by ask numbers first.state
    (cuts (Keeps n) (fine_turning laws n) by ask (task_of number s.tasks) s h)
    (λ z m st. let w = struck_one n by ask s number (task_of number s.tasks) refl h z m st in
    ⊎_elim (λ (e : number ≡ z.no). absurd (w.1 (sym e))) (λ (i : IsIn z.no numbers). i) (all z w.0 st))
    y k

numbers_have : (q : List Task) (y : Task) → Has q y → IsIn y.no (numbers_of q)
numbers_have [] y h = h
numbers_have (x ∷ xs) y (inl h) = inl (ap (λ (z : Task). z.no) h)
numbers_have (x ∷ xs) y (inr h) = inr (numbers_have xs y h)

asked_is : (s : State) (l : Logged) (number : ℕ) (arrival : Arrival) (ask : Ask) → l.event ≡ event.Asked number →
    arrival_of number s ≡ Some arrival → arrival.work ≡ work.Ask ask → after s l ≡ taken_up number ask s
unfolding after
asked_is s l number arrival ask e f w =
    ap (λ v. after_event v l.work s) e ∙ ap (λ o. after_asked number o s) f ∙ ap (λ v. asked_for number v s) w

costs_taking_up : (laws : Laws) (n : ℕ) (s : State) (number : ℕ) (arrival : Arrival) (ask : Ask) →
    arrival_of number s ≡ Some arrival → arrival.work ≡ work.Ask ask → IsFine n s → Costs n 3 s (taking_up number ask s)
costs_taking_up laws n s number arrival ask f w h =
    let l : Logged = record { event = event.Asked number; work = None; reply = None } in
    let is : after s l ≡ taken_up number ask s = asked_is s l number arrival ask refl f w in
    let now : State = after s l in
    let cut : Turn = cutting_all number ask (numbers_of s.tasks) now in
    let fine : IsFine n now = fine_free laws n s l refl h in
    let a : left_low n ask now ≤ left n s + 2 =
    subst (λ u. left_low n ask u ≤ left n s + 2) (sym is) (left_taken n s number ask) in
    let b = lows_all n number ask (numbers_of s.tasks) now in
    let in_now : (y : Task) → Has now.tasks y → is_struck ask y ≡ true → IsIn y.no (numbers_of s.tasks) =
    λ y k st. numbers_have s.tasks y (subst (λ u. Has u.tasks y) is k) in
    let c = left_low-same n ask cut.state (struck_all laws n number ask (numbers_of s.tasks) now fine in_now) in
    let two : Turn = followed (writes l s) (λ asked. cutting_all number ask (numbers_of s.tasks) asked) in
    costs_both n 3 0 s two (λ cut. closing (function_of number cut.functions) cut) (omega (arith, a, b, c))
    (costs_closing n two.state number (function_of number two.state.functions) refl)

costs_rejected : (n : ℕ) (s : State) (number : ℕ) → Costs n 4 s (says (event.Closed number Rejected) s)
unfolding after
costs_rejected n s number = let a = left_rejected n s number (function_of number s.functions) in omega (arith, a)

costs_asking : (laws : Laws) (n : ℕ) (s : State) (number : ℕ) (arrival : Arrival) (ask : Ask) →
    arrival_of number s ≡ Some arrival → arrival.work ≡ work.Ask ask → IsFine n s → Costs n 4 s (asking number ask s)
costs_asking laws n s number arrival ask f w h = go (nat_le MOST_FUNCTIONS (length s.functions))
  where
    go : (t : Bool) → Costs n 4 s (cond t (says (event.Closed number Rejected) s) (taking_up number ask s))
    go true = costs_rejected n s number
    go false = let a = costs_taking_up laws n s number arrival ask f w h in omega (arith, a)

-- Works that are taken in

costs_entering : (n : ℕ) (s : State) (number : ℕ) (arrival : Arrival) (command : Command) (refused : Option Reply) →
    arrival_of number s ≡ Some arrival → arrival.work ≡ work.Cmd command →
    Costs n (work_weight n (work.Cmd command)) s (entering_with refused number s)
unfolding after
costs_entering n s number arrival command (Some reply) f w =
    let a = left_answered n s kind.Reply number in omega (arith, a)
costs_entering n s number arrival command None f w =
    let a : left n (after_enter number (arrival_of number s) s) + 1 ≤ left n s + work_weight n arrival.work =
    subst (λ o. left n (after_enter number o s) + 1 ≤ left n s + work_weight n arrival.work) (sym f)
    (left_entered n s number arrival) in
    let b = ap (work_weight n) w in
    omega (arith, a, b)

costs_in : (laws : Laws) (n : ℕ) (s : State) (number : ℕ) (arrival : Arrival) (w : KeptWork) →
    arrival_of number s ≡ Some arrival → arrival.work ≡ w → IsFine n s →
    Costs n (work_weight n w) s (taking_in number w s)
costs_in laws n s number arrival (work.Cmd command) f e h =
    costs_entering n s number arrival command (turned_cause s command) f e
costs_in laws n s number arrival (work.Ask ask) f e h = costs_asking laws n s number arrival ask f e h

costs_coming : (laws : Laws) (n : ℕ) (s : State) (number : ℕ) (found : Option Arrival) → arrival_of number s ≡ found →
    IsFine n s → Costs n (arrival_weight n found) s (coming_in number found s)
costs_coming laws n s number None e h = omega arith
costs_coming laws n s number (Some arrival) e h = costs_in laws n s number arrival arrival.work e refl h

-- Messages

abbrev with_a : State → List Message → State
with_a s ms = record s { to_a = ms }

abbrev with_b : State → List Message → State
with_b s ms = record s { to_b = ms }

-- the delivery is one event more
abbrev Pays : ℕ → State → Turn → Type 0
Pays n s t = length t.journal + left n t.state + 1 ≤ left n s

pays_work : (laws : Laws) (n : ℕ) (s : State) (m : Message) (ms : List Message) → s.to_a ≡ m ∷ ms →
    is_arrival m.kind ≡ true → is_end m.kind ≡ false → IsFine n s →
    Pays n s (coming_in m.no (arrival_of m.no s) (with_a s ms))
pays_work laws n s m ms e a no_end h =
    let fine : IsFine n (with_a s ms) =
    fine_other n s.arrivals s.tasks m ms s.to_b s.blocks no_end
    (subst (λ q. Fine n s.arrivals s.tasks q s.to_b s.blocks) e h) in
    let c = costs_coming laws n (with_a s ms) m.no (arrival_of m.no s) refl fine in
    let w = a_work n s.arrivals m a in
    let t = ap (weigh n s.arrivals) e in
    omega (arith, c, w, t)

pays_end : (n : ℕ) (s : State) (m : Message) (ms : List Message) → s.to_a ≡ m ∷ ms →
    left n (record (with_a s ms) { tasks = without_task m.no s.tasks; functions = map (awaits_no_more m.no) s.functions }) + 1 ≤ left n s
pays_end n s m ms e =
    let t = ap (weigh n s.arrivals) e in
    let a = total_fewer (weight n s.stopped) m.no s.tasks in
    let b = length-map s.functions (awaits_no_more m.no) in
    omega (arith, t, a, b)

pays_other : (n : ℕ) (s : State) (m : Message) (ms : List Message) → s.to_a ≡ m ∷ ms →
    left n (with_a s ms) + 1 ≤ left n s
pays_other n s m ms e = let t = ap (weigh n s.arrivals) e in omega (arith, t)

pays_a : (laws : Laws) (n : ℕ) (s : State) (k : Kind2) (m : Message) (ms : List Message) → m.kind ≡ k →
    s.to_a ≡ m ∷ ms → IsFine n s → Pays n s (coming_to_a k m (came_to_a k m.no (with_a s ms)))
pays_a laws n s kind.Ask m ms i e h = pays_work laws n s m ms e (ap is_arrival i) (ap is_end i) h
pays_a laws n s kind.Function m ms i e h = pays_work laws n s m ms e (ap is_arrival i) (ap is_end i) h
pays_a laws n s kind.Finish m ms i e h =
    let now : State = came_to_a kind.Finish m.no (with_a s ms) in
    let a = pays_end n s m ms e in let c = costs_closing_all n (open_numbers now) now in omega (arith, a, c)
pays_a laws n s kind.Stopped m ms i e h =
    let now : State = came_to_a kind.Stopped m.no (with_a s ms) in
    let a = pays_end n s m ms e in let c = costs_closing_all n (open_numbers now) now in omega (arith, a, c)
pays_a laws n s kind.Grant m ms i e h = let a = pays_other n s m ms e in omega (arith, a)
pays_a laws n s kind.Stop m ms i e h = let a = pays_other n s m ms e in omega (arith, a)
pays_a laws n s kind.Reply m ms i e h = let a = pays_other n s m ms e in omega (arith, a)
pays_a laws n s kind.Response m ms i e h = let a = pays_other n s m ms e in omega (arith, a)

costs_stop : (n : ℕ) (s : State) (number puts by : ℕ) (told : Bool) (x : Task) (done : ℕ) (got : List ℕ) → IsFine n s →
    task_of number s.tasks ≡ Some x → x.stage ≡ There done got →
    Costs n 0 s (says (event.Cut number puts (By by) told) s)
costs_stop n s number puts by told x done got h f e =
    let l : Logged = record { event = event.Cut number puts (By by) told; work = None; reply = None } in
    let is : after s l ≡ cut_at (By by) x.stage x s = cut_is s l number puts by told x refl f in
    let a : left n (after s l) + 1 ≤ left n s =
    subst (λ u. left n u + 1 ≤ left n s) (sym (is ∙ ap (λ st. cut_at (By by) st x s) e))
    (left_stopped n s by number x done got h f e) in
    omega (arith, a)

costs_stopping : (n : ℕ) (s : State) (m : Message) (number : ℕ) (found : Option Task) → task_of number s.tasks ≡ found →
    IsFine n s → Costs n 0 s (stopping found m s)
costs_stopping n s m number None e h = omega arith
costs_stopping n s m number (Some x) e h = go x.stage refl
  where
    go : (stage : Stage) → x.stage ≡ stage → Costs n 0 s (stopping_at stage x m s)
    go (There done got) k =
        costs_stop n s x.no (puts_of x s) m.by m.told x done got h (found_itself number s.tasks x e) k
    go Waiting k = omega arith
    go (Here done got) k = omega arith
    go Granted k = omega arith
    go Over k = omega arith

pays_grant : (n : ℕ) (s : State) (ms : List Message) (number : ℕ) (found : Option Task) →
    task_of number s.tasks ≡ found → length s.to_b ≡ suc (length ms) → IsFine n s →
    left n (after_grant found (with_b s ms)) + 1 ≤ left n s
pays_grant n s ms number None e b h = omega (arith, b)
pays_grant n s ms number (Some x) e b h = left_grant n s ms number x b h e

pays_b : (laws : Laws) (n : ℕ) (s : State) (k : Kind2) (m : Message) (ms : List Message) → m.kind ≡ k →
    s.to_b ≡ m ∷ ms → IsFine n s → Pays n s (coming_to_b k m (came_to_b k m.no (with_b s ms)))
pays_b laws n s kind.Grant m ms i e h =
    let b = ap length e in let a = pays_grant n s ms m.no (task_of m.no s.tasks) refl b h in omega (arith, a)
pays_b laws n s kind.Stop m ms i e h =
    let b = ap length e in
    let fine : IsFine n (with_b s ms) =
    come_b n s kind.Stop m ms i (subst (λ q. Fine n s.arrivals s.tasks s.to_a q s.blocks) e h) in
    let c = costs_stopping n (with_b s ms) m m.no (task_of m.no s.tasks) refl fine in
    omega (arith, b, c)
pays_b laws n s kind.Ask m ms i e h = let b = ap length e in omega (arith, b)
pays_b laws n s kind.Function m ms i e h = let b = ap length e in omega (arith, b)
pays_b laws n s kind.Finish m ms i e h = let b = ap length e in omega (arith, b)
pays_b laws n s kind.Stopped m ms i e h = let b = ap length e in omega (arith, b)
pays_b laws n s kind.Reply m ms i e h = let b = ap length e in omega (arith, b)
pays_b laws n s kind.Response m ms i e h = let b = ap length e in omega (arith, b)

costs_delivered : (laws : Laws) (n : ℕ) (s : State) (node : Node) (m : Message) (ms : List Message) →
    messages_to node s ≡ m ∷ ms → IsFine n s → Costs n 0 s (delivering_first node (m ∷ ms) s).turn
unfolding after
costs_delivered laws n s A m ms e h =
    let a : Pays n s (coming_to_a m.kind m (came_to_a m.kind m.no (with_a s (drop 1 s.to_a)))) =
    subst (λ q. Pays n s (coming_to_a m.kind m (came_to_a m.kind m.no (with_a s (drop 1 q))))) (sym e)
    (pays_a laws n s m.kind m ms refl e h) in
    omega (arith, a)
costs_delivered laws n s B m ms e h =
    let a : Pays n s (coming_to_b m.kind m (came_to_b m.kind m.no (with_b s (drop 1 s.to_b)))) =
    subst (λ q. Pays n s (coming_to_b m.kind m (came_to_b m.kind m.no (with_b s (drop 1 q))))) (sym e)
    (pays_b laws n s m.kind m ms refl e h) in
    omega (arith, a)

costs_delivering : (laws : Laws) (n : ℕ) (s : State) (node : Node) → IsFine n s → Costs n 0 s (delivering node s).turn
costs_delivering laws n s node h = go (messages_to node s) refl
  where
    go : (ms : List Message) → messages_to node s ≡ ms → Costs n 0 s (delivering_first node ms s).turn
    go [] e = omega arith
    go (m ∷ ms) e = costs_delivered laws n s node m ms e h

-- Arrivals

room_left : (n : ℕ) (s : State) (node : Node) (w : KeptWork) → has_room_for w s ≡ true → IsFine n s →
    left n (came_in (record { node = node; work = w }) s) + work_weight n w + 2 ≤ left n s
room_left n s node (work.Cmd command) e h =
    let parts =
    and_parts (nat_lt 0 s.room.commands) (nat_le (length (plan_in (length s.blocks) command)) s.room.pieces) e in
    let a = ltb-true 0 s.room.commands parts.0 in
    let b = leb-true (length (plan_in (length s.blocks) command)) s.room.pieces parts.1 in
    let c : length (plan_in (length s.blocks) command) ≡ length (plan_in n command) =
    ap (λ m. length (plan_in m command)) h.sized in
    let d = weigh_came n s (record { node = node; work = work.Cmd command }) h in
    omega (arith, a, b, c, d)
room_left n s node (work.Ask ask) e h =
    let a = ltb-true 0 s.room.functions e in
    let d = weigh_came n s (record { node = node; work = work.Ask ask }) h in
    omega (arith, a, d)

room_left_here : (n : ℕ) (s : State) (node : Node) (w : KeptWork) → is_remote node ≡ false → has_room_for w s ≡ true →
    IsFine n s → left n (after_came (next_number s) node (Some w) s) + work_weight n w + 2 ≤ left n s
room_left_here n s node w here e h =
    came_by (λ t. left n t + work_weight n w + 2 ≤ left n s) (next_number s) node w s false here
    (room_left n s node w e h)

last_arrival : (s : State) (node : Node) (w : KeptWork) →
    numbered (next_number s) (s.arrivals ++ record { node = node; work = w } ∷ []) ≡ Some
    (record { node = node; work = w })
last_arrival s node w = numbered_last (next_number s) s.arrivals (record { node = node; work = w }) refl

-- what came at the other node is on its way
room_left_there : (n : ℕ) (s : State) (node : Node) (w : KeptWork) → is_remote node ≡ true → has_room_for w s ≡ true →
    IsFine n s → left n (after_came (next_number s) node (Some w) s) + 1 ≤ left n s
room_left_there n s node w there e h =
    came_by (λ t. left n t + 1 ≤ left n s) (next_number s) node w s true there (go w (room_left n s node w e h))
  where
    go : (w : KeptWork) → left n (came_in (record { node = node; work = w }) s) + work_weight n w + 2 ≤ left n s →
        left n (to_a (message (kind_of w) (next_number s)) (came_in (record { node = node; work = w }) s)) + 1
        ≤ left n s
    go (work.Cmd command) a =
        let p =
        weigh_push n (s.arrivals ++ record { node = node; work = work.Cmd command } ∷ []) s.to_a
        (message kind.Ask (next_number s)) in
        let q = ap (arrival_weight n) (last_arrival s node (work.Cmd command)) in
        omega (arith, a, p, q)
    go (work.Ask ask) a =
        let p =
        weigh_push n (s.arrivals ++ record { node = node; work = work.Ask ask } ∷ []) s.to_a
        (message kind.Function (next_number s)) in
        let q = ap (arrival_weight n) (last_arrival s node (work.Ask ask)) in
        omega (arith, a, p, q)

costs_taken : (laws : Laws) (n : ℕ) (s : State) (node : Node) (w : KeptWork) → has_room_for w s ≡ true → IsFine n s →
    is_remote node ≡ false → Costs n 0 s (arriving_here node w (next_number s) s).turn
unfolding after
costs_taken laws n s node (work.Cmd command) e h here =
    let now : State = after_came (next_number s) node (Some (work.Cmd command)) s in
    let a = room_left_here n s node (work.Cmd command) here e h in
    let c =
    costs_in laws n now (next_number s) (record { node = node; work = work.Cmd command }) (work.Cmd command)
    (came_last s node (work.Cmd command)) refl (fine_came_here n s node (work.Cmd command) here h).0 in
    omega (arith, a, c)
costs_taken laws n s node (work.Ask ask) e h here =
    let now : State = after_came (next_number s) node (Some (work.Ask ask)) s in
    let a = room_left_here n s node (work.Ask ask) here e h in
    let c =
    costs_in laws n now (next_number s) (record { node = node; work = work.Ask ask }) (work.Ask ask)
    (came_last s node (work.Ask ask)) refl (fine_came_here n s node (work.Ask ask) here h).0 in
    omega (arith, a, c)

costs_came : (laws : Laws) (n : ℕ) (s : State) (node : Node) (w : KeptWork) → has_room_for w s ≡ true → IsFine n s →
    Costs n 0 s (arriving_at node w (next_number s) s).turn
unfolding after
costs_came laws n s node w e h =
    arriving_by (Costs n 0 s) node w (next_number s) s
    (λ there. let a = room_left_there n s node w there e h in omega (arith, a)) (costs_taken laws n s node w e h)

costs_arriving : (laws : Laws) (n : ℕ) (s : State) (node : Node) (w : KeptWork) → IsFine n s →
    Costs n 0 s (arriving node w s).turn
costs_arriving laws n s node w h = go (has_room_for w s) refl
  where
    go : (t : Bool) → has_room_for w s ≡ t →
        Costs n 0 s (cond {A = Done} t (arriving_at node w (next_number s) s)
        (record { turn = nothing s; answer = answer.NoRoom w })).turn
    go true e = costs_came laws n s node w e h
    go false e = omega arith

-- Acts and runs

costs_next : (laws : Laws) (n : ℕ) (s : State) (next : Option ℕ) (count : ℕ) (fault : Option ℕ) → IsFine n s →
    Costs n 0 s (stepping_next next count fault s).turn
costs_next laws n s None count fault h = omega arith
costs_next laws n s (Some number) count fault h =
    costs_stepping laws n s (task_of number s.tasks) number count fault refl h

costs_act : (laws : Laws) (n : ℕ) (s : State) (a : Act) (fault : Option ℕ) → IsFine n s →
    Costs n 0 s (doing s a fault).turn
costs_act laws n s (act.Arrive node w) fault h = costs_arriving laws n s node w h
costs_act laws n s (act.Step number count) fault h =
    costs_stepping laws n s (task_of number s.tasks) number count fault refl h
costs_act laws n s (act.Deliver node) fault h = costs_delivering laws n s node h
costs_act laws n s (act.Next count) fault h = go s.to_a s.to_b
  where
    go : (to_a to_b : List Message) → Costs n 0 s (doing_next to_a to_b count fault s).turn
    go (m ∷ ms) to_b = costs_delivering laws n s A h
    go [] (m ∷ ms) = costs_delivering laws n s B h
    go [] [] = costs_next laws n s (next_step s) count fault h

-- what a run wrote, and what is left
pub room_run : (o : Opening) (journal : List Logged) → IsRun o journal →
    IsFine (length (opened o).blocks) (replay o journal)
    × (length journal + left (length (opened o).blocks) (replay o journal) ≤ events_for o.room)
room_run o journal run =
    run_induction o (λ s j. IsFine n s × (length j + left n s ≤ events_for o.room)) (fine_opened o, omega arith)
    (λ s j a fault allowed h.
    let c = costs_act Commands.laws n s a fault h.0 in
    let e = length-append j (doing s a fault).turn.journal in
    let k = h.1 in
    (fine_act Commands.laws n s a fault h.0, omega (arith, c, e, k))) journal run
  where
    n : ℕ
    n = length (opened o).blocks

pub fits_room : (o : Opening) (journal : List Logged) → IsRun o journal → length journal ≤ events_for o.room
fits_room o journal run = let h = (room_run o journal run).1 in omega (arith, h)
