-- A command begins, moves and ends: what holds after these turns.
use Rattle.std.proofs.Common.{◌≡◌, ℕ, zero, suc, ◌+◌, ◌≤◌, inl, inr, Bool, true, false, List, [], ◌∷◌, ◌++◌, Option}
use Rattle.std.proofs.Common.{Some, None, length, refl, sym, ap, ◌∙◌, subst, arith, eq-eqb, cond, take, drop, slice_get}
use Rattle.std.proofs.Common.{leb-true}
use Rattle.ct_sense.specs.declared.reply.Reply.{Reply}
use Rattle.ct_book.specs.declared.event.Event.TheVariants as event
use Rattle.ct_book.specs.declared.event.Kind2.TheVariants as kind
use Rattle.ct_book.specs.declared.event.Why.TheVariants.{Medium}
use Rattle.ct_book.specs.declared.event.Logged.{Logged}
use Rattle.ct_exec.specs.Controls.{is_unrestricted, tells_aborts}
use Rattle.ct_machine.specs.declared.act.Opening.{Opening}
use Rattle.ct_machine.specs.States.{Task, Stage, Waiting, Here, Granted, There, Over, Open, State, without_task}
use Rattle.ct_machine.specs.States.{with_task, at_stage}
use Rattle.ct_machine.specs.Events.Sends.{message, answered}
use Rattle.ct_machine.specs.Runs.{replay}
use Rattle.ct_machine.specs.Acts.Entries.{members_of}
use Rattle.ct_machine.specs.Laws.Standings.{standings_of}
use Rattle.ct_machine.specs.Laws.Journals.{has, is_entry}
use Rattle.ct_law.proofs.Lists.Tasks.{Has, with_itself}
use Rattle.ct_law.proofs.Journals.Journal.{has_now}
use Rattle.ct_law.proofs.Inv.{Inv, told, replied}
use Rattle.std.specs.Prelude.{nat_le}
use Rattle.std.specs.List.{list_any}
use Rattle.ct_machine.specs.declared.act.Answer.TheVariants as answer
use Rattle.ct_plan.specs.declared.operation.BlockOp.{BlockOp}
use Rattle.ct_plan.specs.Plans.{puts_among}
use Rattle.ct_plan.specs.Cells.{Progress, performed, Cells as plan_cells}
use Rattle.ct_exec.specs.Executions.{Execution, execute, refusal_of, plan_in, reply_moved, reply_failed}
use Rattle.ct_machine.specs.States.{disk_of, task_of}
use Rattle.ct_machine.specs.Events.{after}
use Rattle.ct_machine.specs.Events.Ends.{after_ended, after_cut, cut_at as cut_from, ended_at, stops_with}
use Rattle.ct_machine.specs.Events.Moves.{after_moved, moved_at, moved_from, further, staged}
use Rattle.ct_plan.specs.Pieces.{tried}
use Rattle.ct_machine.specs.Acts.Turns.{Turn, nothing, writes, replies, followed}
use Rattle.ct_machine.specs.Acts.Moves.{moving_on, failing, failing_if, moved_to}
use Rattle.ct_machine.specs.Acts.Moves.{moving_from}
use Rattle.ct_machine.specs.Acts.Begins.{clearing_all, ending_at_once, is_granted, beginning_at, beginning}
use Rattle.ct_machine.specs.Acts.Functions.{numbers_of}
use Rattle.ct_machine.specs.Acts.Steps.{blocked_by, beginning_unless, stepping_at, stepping, is_sent}
use Rattle.ct_machine.specs.Acts.Answers.{Done}
use Rattle.ct_law.proofs.Lists.Tasks.{has_found}
use Rattle.ct_law.proofs.Rows.Laws.{Laws, has_operations, IsOnce}
use Rattle.ct_law.proofs.Walks.Schedules.{Scheduled, Worked, TimelyAt, goes_on, replayed, worked_without, worked_with}
use Rattle.ct_law.proofs.Walks.Schedules.{untimed, untimed_medium, untimed_end}
use Rattle.ct_law.proofs.Acts.Sends.{in_tasks, in_without}
use Rattle.ct_law.proofs.Walks.Cleared.{distinct_in, stands_whole}
use Rattle.ct_law.proofs.Walks.Clears.{Clearing, due_from, stops_so, clears_so}
use Rattle.ct_law.proofs.Rows.Ready.{IsReady, ready_in}
use Rattle.ct_law.proofs.Cells.Held.{IsSingle}
use Rattle.ct_law.proofs.Cells.Blocks.{none_made}
use Rattle.ct_law.proofs.Cells.Execs.{later, tried_take, then_size, failed_at}
use Rattle.ct_law.proofs.Cells.Ends.{first_stage, IsAt, at_done, at_further, puts_at, comes_on, comes_to, moved_state}
use Rattle.ct_law.proofs.Cells.Ends.{moved_is}
use Rattle.ct_law.proofs.Events.Steps.{answers, tells_b}
use Rattle.ct_law.proofs.Events.Entries.{over_alone, leaves_so, tells_so}
use Rattle.ct_law.proofs.Events.Moves.{first_event, begun_so, moves_so, moved_so}
use Rattle.ct_law.proofs.Events.Overs.{ended_so, differed_so, once_ends, medium_so}
use Rattle.ct_law.proofs.Walks.Walk.{Now, After, NoneDue, stays_so, then_so, wrote, none_found, answered_tasks}
use Rattle.ct_law.proofs.Walks.Walk.{answered_still, worked_answered}
use Rattle.std.proofs.Common.{⊎_elim, not}
use Rattle.std.proofs.lemmas.Bool.{both_ways}
use Rattle.ct_word.specs.Nexuses.{contains}
use Rattle.ct_book.specs.Journals.{numbered}
use Rattle.ct_exec.specs.Controls.{Disk}
use Rattle.ct_machine.specs.States.{is_waiting, has_begun}
use Rattle.ct_machine.specs.Serial.{serial_disk}
use Rattle.ct_machine.specs.Laws.Journals.{is_enter, IsCommandOf}
use Rattle.ct_machine.specs.Laws.Timely.{due_by, due_of, IsTimelyAt}
use Rattle.ct_law.proofs.Cells.Held.{Rules}
use Rattle.ct_law.proofs.Inv.{known_in}
use Rattle.ct_law.proofs.Lists.Tasks.{has_without}
use Rattle.ct_law.proofs.Journals.Journal.{each_more, has_stays}
use Rattle.ct_law.proofs.Journals.Growing.{due-more, works_in-none}
use Rattle.ct_law.proofs.Rows.Laws.{Same}
use Rattle.ct_law.proofs.Cells.Ends.{at_active, ready_begun, once_same}
use Rattle.std.proofs.Common.{◌-◌, min}
use Rattle.std.proofs.lemmas.List.{length-take, length-drop}
use Rattle.ct_plan.proofs.Performing.{made_within}
use Rattle.ct_machine.specs.States.{done_at}

-- the command with its number is the one that stands in the task set
pub found_of : (q : List Task) (x : Task) → IsSingle q → Has q x → task_of x.no q ≡ Some x
found_of q x single hx = go (task_of x.no q) refl
  where
    go : (found : Option Task) → task_of x.no q ≡ found → task_of x.no q ≡ Some x
    go None e = absurd (none_found x.no q x e hx refl)
    go (Some y) e = let r = has_found x.no q y e in e ∙ ap Some (single y x r.0 hx r.1)

-- Where a command is over

after_ended_at : (x : Task) (reply : Reply) (s : State) → task_of x.no s.tasks ≡ Some x →
    after s (replied (event.Ended x.no) reply) ≡ ended_at x.stage x s
unfolding after
after_ended_at x reply s e = ap (λ f. after_ended f s) e

after_medium : (x : Task) (puts : ℕ) (reply : Reply) (s : State) → task_of x.no s.tasks ≡ Some x →
    after s (replied (event.Cut x.no puts Medium false) reply) ≡ cut_from Medium x.stage x s
unfolding after
after_medium x puts reply s e = ap (λ f. after_cut Medium f s) e

-- it leaves A, or A is told, as the machine says
over_so : (o : Opening) (s : State) (journal : List Logged) (x : Task) (done : ℕ) (got : List ℕ) →
    IsAt x.stage done got → has (is_entry x.no) journal ≡ true → Inv NoneDue o (over_alone s x) journal →
    Inv NoneDue o (ended_at x.stage x s) journal × Inv NoneDue o (cut_from Medium x.stage x s) journal
over_so o s journal x done got (inl e) over h =
    let left =
    answers NoneDue o (record s { tasks = without_task x.no s.tasks }) journal kind.Reply x.no refl
    (leaves_so NoneDue o s journal x s.functions s.control s.blocks over h) in (
      subst (λ st. Inv NoneDue o (ended_at st x s) journal) (sym e) left,
      subst (λ st. Inv NoneDue o (cut_from Medium st x s) journal) (sym e) left,
    )
over_so o s journal x done got (inr e) over h =
    let told_a = tells_so NoneDue o s journal x kind.Finish s.functions s.control s.blocks refl over h in (
      subst (λ st. Inv NoneDue o (ended_at st x s) journal) (sym e) told_a,
      subst (λ st. Inv NoneDue o (cut_from Medium st x s) journal) (sym e) told_a,
    )

-- what is left moves blocks
worked_over : (o : Opening) (s : State) (x : Task) (done : ℕ) (got : List ℕ) → IsAt x.stage done got → Has s.tasks x →
    Worked o.blocks s.tasks →
    Worked o.blocks (ended_at x.stage x s).tasks × Worked o.blocks (cut_from Medium x.stage x s).tasks
worked_over o s x done got (inl e) hx h =
    let left : Worked o.blocks (answered kind.Reply x.no (record s { tasks = without_task x.no s.tasks })).tasks =
    worked_answered o.blocks kind.Reply x.no (record s { tasks = without_task x.no s.tasks })
    (worked_without o.blocks x.no s.tasks h) in (
      subst (λ st. Worked o.blocks (ended_at st x s).tasks) (sym e) left,
      subst (λ st. Worked o.blocks (cut_from Medium st x s).tasks) (sym e) left,
    )
worked_over o s x done got (inr e) hx h =
    let there : Worked o.blocks (with_task (at_stage Over x) s.tasks) =
    worked_with o.blocks s.tasks (at_stage Over x) h (h x hx (ap is_waiting e)).0 (omega arith) in (
      subst (λ st. Worked o.blocks (ended_at st x s).tasks) (sym e) there,
      subst (λ st. Worked o.blocks (cut_from Medium st x s).tasks) (sym e) there,
    )

-- a command of the task set ends
ends_with : (laws : Laws) (o : Opening) (s : State) (journal : List Logged) (x : Task) (done : ℕ) (got : List ℕ)
    (reply : Reply) →
    Scheduled o s journal → Rules o.blocks (serial_disk o journal) s.control s.tasks →
    IsCommandOf journal x.no x.command → Has s.tasks x → IsAt x.stage done got →
    Inv NoneDue o (over_alone s x) (journal ++ replied (event.Ended x.no) reply ∷ []) →
    After NoneDue o journal (replies (event.Ended x.no) reply s)
ends_with laws o s journal x done got reply h rules known hx stage inv =
    let l : Logged = replied (event.Ended x.no) reply in
    let over = has_now (is_entry x.no) journal l (eq-eqb x.no x.no refl) in
    wrote NoneDue o s (ended_at x.stage x s) journal l h (after_ended_at x reply s (found_of s.tasks x rules.single hx))
    (over_so o s (journal ++ l ∷ []) x done got stage over inv).0
    (worked_over o s x done got stage hx h.worked).0
    (untimed_end o journal l x.no x.command refl known
    (λ nexus. laws.moving_clears o.blocks (serial_disk o journal) x.command nexus rules.sized
    (rules.allowed x hx (at_active x.stage done got stage)).1))

-- Moves

-- a command that stands there after operations, in a state with the same control and as many blocks
record Stood (s : State) (x : Task) (done : ℕ) (got : List ℕ) (t : State) : Type 0 where
  task : Task
  has : Has t.tasks task
  no : task.no ≡ x.no
  command : task.command ≡ x.command
  stage : IsAt task.stage done got
  control : t.control ≡ s.control
  size : length t.blocks ≡ length s.blocks

after_moving : (x : Task) (count : ℕ) (done : ℕ) (got : List ℕ) (s : State) → task_of x.no s.tasks ≡ Some x →
    IsAt x.stage done got → after s (told (event.Moved x.no count)) ≡ moved_from x count done got s
unfolding after
after_moving x count done got s e (inl k) = ap (λ f. after_moved f count s) e ∙ ap (λ st. moved_at st x count s) k
after_moving x count done got s e (inr k) = ap (λ f. after_moved f count s) e ∙ ap (λ st. moved_at st x count s) k

-- the state behind the event of some operations
after_some : (o : Opening) (s : State) (journal : List Logged) (x : Task) (k done : ℕ) (got : List ℕ) (made : ℕ) →
    Inv NoneDue o s journal → Has s.tasks x → IsAt x.stage done got → (comes_on s x k done got).made ≡ made →
    after s (told (event.Moved x.no made)) ≡ moved_state s x (comes_to s x k done got)
after_some o s journal x k done got made h hx at e =
    after_moving x made done got s (found_of s.tasks x h.rules.single hx) at
    ∙ ap (λ m. moved_from x m done got s) (sym e) ∙ moved_is x k done got s

-- as far as it comes, it makes no more operations than it has
worked_moved : (o : Opening) (s : State) (x : Task) (k done : ℕ) (got : List ℕ) → length s.blocks ≡ o.blocks →
    IsAt x.stage done got → Has s.tasks x → Worked o.blocks s.tasks →
    Worked o.blocks (moved_state s x (comes_to s x k done got)).tasks
worked_moved o s x k done got size at hx h =
    worked_with o.blocks s.tasks (at_stage stage x) h was.0
    (omega (arith, is, made, taken, dropped, before, within, plans))
  where
    p : Progress
    p = comes_to s x k done got

    stage : Stage
    stage = further x.stage p.made p.cells.got

    was : (has_operations (plan_in o.blocks x.command) ≡ true) × (done_at x.stage ≤ length (plan_in o.blocks x.command))
    was = h x hx (⊎_elim (λ (e : x.stage ≡ Here done got). ap is_waiting e)
        (λ (e : x.stage ≡ There done got). ap is_waiting e) at)

    plan : List BlockOp
    plan = plan_in (length s.blocks) x.command

    plans : length plan ≡ length (plan_in o.blocks x.command)
    plans = ap (λ n. length (plan_in n x.command)) size

    is : done_at stage ≡ done + (comes_on s x k done got).made
    is = at_done stage p.made p.cells.got (at_further x.stage done got p.made p.cells.got at)

    made : (comes_on s x k done got).made ≤ length (take k (drop done plan))
    made = made_within x.command.out (take k (drop done plan)) (record { blocks = s.blocks; got = got })

    taken : length (take k (drop done plan)) ≡ min k (length (drop done plan))
    taken = length-take k (drop done plan)

    dropped : length (drop done plan) ≡ length plan - done
    dropped = length-drop done plan

    before : done_at x.stage ≡ done
    before = at_done x.stage done got at

    within : done_at x.stage ≤ length (plan_in o.blocks x.command)
    within = was.1

-- the event of so many operations, if there were some, none of which found a difference
record Moved_on (o : Opening) (s : State) (journal : List Logged) (x : Task) (done : ℕ) (got : List ℕ)
    (t : Turn) : Type 0 where
  now : After NoneDue o journal t
  stood : Stood s x done got t.state

moved_on : (o : Opening) (s : State) (journal : List Logged) (x : Task) (k done : ℕ) (got : List ℕ) →
    Now NoneDue o s journal → Has s.tasks x → IsAt x.stage done got → (comes_on s x k done got).difference ≡ None →
    Moved_on o s journal x (comes_to s x k done got).made (comes_to s x k done got).cells.got
    (moving_on x.no (comes_on s x k done got).made s)
moved_on o s journal x k done got h hx at none = go q.made refl
  where
    q : Progress
    q = comes_on s x k done got

    p : Progress
    p = comes_to s x k done got

    here : plan_cells
    here = record { blocks = s.blocks; got = got }

    go : (made : ℕ) → q.made ≡ made → Moved_on o s journal x p.made p.cells.got (moving_on x.no made s)
    go zero e =
        let all = none_made x.command.out (take k (drop done (plan_in (length s.blocks) x.command))) here e in
        let same : p ≡ later done (performed x.command.out [] here) =
        ap (λ ops. later done (performed x.command.out ops here)) all in
        let still : done + 0 ≡ done = omega arith in
        record {
          now = stays_so NoneDue o s journal h;
          stood = record {
            task = x;
            has = hx;
            no = refl;
            command = refl;
            stage = subst (λ (r : Progress). IsAt x.stage r.made r.cells.got) (sym same)
                (subst (λ m. IsAt x.stage m got) (sym still) at);
            control = refl;
            size = refl;
          };
        }
    go (suc made) e =
        let l : Logged = told (event.Moved x.no (suc made)) in
        let now : State = moved_state s x p in
        let state : after s l ≡ now = after_some o s journal x k done got (suc made) h.inv hx at e in
        record {
          now = wrote NoneDue o s now journal l h.schedule state
              (subst (λ m. Inv NoneDue o now (journal ++ told (event.Moved x.no m) ∷ [])) e
              (moved_so NoneDue o s journal x k done got h.inv hx at none))
              (worked_moved o s x k done got h.inv.frame.size at hx h.schedule.worked) (untimed o journal l refl);
          stood = subst (λ t. Stood s x p.made p.cells.got t) (sym state) (record {
            task = at_stage (further x.stage p.made p.cells.got) x;
            has = with_itself (at_stage (further x.stage p.made p.cells.got) x) s.tasks x hx refl;
            no = refl;
            command = refl;
            stage = at_further x.stage done got p.made p.cells.got at;
            control = refl;
            size = then_size (length s.blocks) s.blocks x.command k done got;
          });
        }

-- the end of a command that found a difference
abbrev differing : Task → ℕ → State → Turn
differing x offset s = replies (event.Ended x.no) (reply_moved s.control (Some offset) []) s

-- the event of its operations, and its end
differs_so : (laws : Laws) (o : Opening) (s : State) (journal : List Logged) (x : Task) (k done : ℕ) (got : List ℕ)
    (offset : ℕ) → Now NoneDue o s journal → Has s.tasks x → IsAt x.stage done got →
    (comes_on s x k done got).difference ≡ Some offset →
    After NoneDue o journal (followed (moving_on x.no (comes_on s x k done got).made s) (differing x offset))
differs_so laws o s journal x k done got offset h hx at differs = go q.made refl
  where
    q : Progress
    q = comes_on s x k done got

    p : Progress
    p = comes_to s x k done got

    here : plan_cells
    here = record { blocks = s.blocks; got = got }

    w : Task
    w = at_stage (further x.stage p.made p.cells.got) x

    now : State
    now = moved_state s x p

    reply : Reply
    reply = reply_moved s.control (Some offset) []

    go : (made : ℕ) → q.made ≡ made → After NoneDue o journal (followed (moving_on x.no made s) (differing x offset))
    go zero e =
        let all = none_made x.command.out (take k (drop done (plan_in (length s.blocks) x.command))) here e in
        let no : None ≡ Some offset = sym (ap (λ ops. (performed x.command.out ops here).difference) all) ∙ differs in
        absurd (cc)
    go (suc made) e =
        let l : Logged = told (event.Moved x.no (suc made)) in
        let j : List Logged = journal ++ l ∷ [] in
        let state : after s l ≡ now = after_some o s journal x k done got (suc made) h.inv hx at e in
        let others = (moves_so NoneDue o s journal x k done got h.inv hx at).others in
        let rules : Rules o.blocks (serial_disk o j) now.control now.tasks =
        subst (λ m. Rules o.blocks
        (serial_disk o (journal ++ told (event.Moved x.no m) ∷ [])) now.control now.tasks) e others.rules in
        let schedule : Scheduled o now j =
        goes_on o s now journal l h.schedule state
        (worked_moved o s x k done got h.inv.frame.size at hx h.schedule.worked) (untimed o journal l refl) in
        let known : IsCommandOf j x.no x.command =
        ap (numbered x.no) (works_in-none journal l refl) ∙ known_in NoneDue o s journal x h.inv.frame hx in
        let inv : Inv NoneDue o (over_alone now w) (j ++ replied (event.Ended x.no) reply ∷ []) =
        subst (λ m. Inv NoneDue o (over_alone now w)
        ((journal ++ told (event.Moved x.no m) ∷ []) ++ replied (event.Ended x.no) reply ∷ [])) e
        (differed_so NoneDue laws o s journal x k done got offset h.inv hx at differs) in
        then_so NoneDue o journal (writes l s) (differing x offset)
        (subst (λ t. After NoneDue o j (differing x offset t)) (sym state)
        (ends_with laws o now j w p.made p.cells.got reply schedule rules known
        (with_itself w s.tasks x hx refl) (at_further x.stage done got p.made p.cells.got at) inv))

moving_begun : (stage : Stage) (done : ℕ) (got : List ℕ) → IsAt stage done got → is_waiting stage ≡ false
moving_begun stage done got (inl e) = ap is_waiting e
moving_begun stage done got (inr e) = ap is_waiting e

-- a command that made its operations and found no difference ends, or the medium fails it, or it stays
moved_to_so : (laws : Laws) (o : Opening) (s t : State) (journal : List Logged) (x : Task) (done : ℕ) (got : List ℕ)
    (operations : List BlockOp) (fault : Option ℕ) (ended : Bool) →
    Now NoneDue o t journal → length s.blocks ≡ o.blocks → Stood s x done got t →
    (ended ≡ true → length (plan_in (length s.blocks) x.command) ≤ done) →
    ((f : ℕ) (op : BlockOp) → fault ≡ Some f → slice_get operations f ≡ Some op →
    slice_get (plan_in (length s.blocks) x.command) done ≡ Some op) →
    After NoneDue o journal (moved_to None ended x (plan_in (length s.blocks) x.command) done got operations fault t)
moved_to_so laws o s t journal x done got operations fault ended h size st whole failed = go ended refl
  where
    w : Task
    w = st.task

    found : task_of w.no t.tasks ≡ Some w
    found = found_of t.tasks w h.inv.rules.single st.has

    plan : List BlockOp
    plan = plan_in (length s.blocks) x.command

    same_plan : plan ≡ plan_in o.blocks w.command
    same_plan = ap (λ k. plan_in k x.command) size ∙ ap (plan_in o.blocks) (sym st.command)

    over : ended ≡ true → After NoneDue o journal (replies (event.Ended w.no) (reply_moved t.control None got) t)
    over e =
        ends_with laws o t journal w done got (reply_moved t.control None got) h.schedule h.inv.rules
        (known_in NoneDue o t journal w h.inv.frame st.has) st.has st.stage
        (ended_so NoneDue laws o t journal w done got h.inv st.has st.stage
        (subst (λ l. length l ≤ done) same_plan (whole e))
        (subst (λ d. d ≤ length (plan_in o.blocks w.command)) (at_done w.stage done got st.stage)
        (h.schedule.worked w st.has (moving_begun w.stage done got st.stage)).1))

    cut : (op : BlockOp) → slice_get plan done ≡ Some op →
        After NoneDue o journal (replies (event.Cut w.no (puts_among (take done plan)) Medium false)
        (reply_failed t.control op) t)
    cut op e =
        let l : Logged = replied (event.Cut w.no (puts_at o.blocks w) Medium false) (reply_failed t.control op) in
        let inv =
        medium_so NoneDue o t journal w done got op h.inv st.has st.stage
        (subst (λ k. slice_get k done ≡ Some op) same_plan e) in
        let puts : puts_at o.blocks w ≡ puts_among (take done plan) =
        ap (λ d. puts_among (take d (plan_in o.blocks w.command))) (at_done w.stage done got st.stage) ∙ ap
        (λ k. puts_among (take done k)) (sym same_plan) in
        subst (λ m. After NoneDue o journal
        (replies (event.Cut w.no m Medium false) (reply_failed t.control op) t)) puts
        (wrote NoneDue o t (cut_from Medium w.stage w t) journal l h.schedule
        (after_medium w (puts_at o.blocks w) (reply_failed t.control op) t found)
        (over_so o t (journal ++ l ∷ []) w done got st.stage
        (has_now (is_entry w.no) journal l (eq-eqb w.no w.no refl)) inv).1
        (worked_over o t w done got st.stage st.has h.schedule.worked).1
        (untimed_medium o journal l w.no (puts_at o.blocks w) false refl))

    fails : (found : Option BlockOp) → ((op : BlockOp) → found ≡ Some op → slice_get plan done ≡ Some op) →
        After NoneDue o journal (failing x plan done found t)
    fails None f = stays_so NoneDue o t journal h
    fails (Some op) f = subst
        (λ m. After NoneDue o journal
        (replies (event.Cut m (puts_among (take done plan)) Medium false) (reply_failed t.control op) t)) st.no
        (cut op (f op refl))

    fails_if : (fl : Option ℕ) → fault ≡ fl → After NoneDue o journal (failing_if x plan done operations fl t)
    fails_if None e = stays_so NoneDue o t journal h
    fails_if (Some f) e = fails (slice_get operations f) (λ op k. failed f op e k)

    go : (b : Bool) → ended ≡ b → After NoneDue o journal (moved_to None b x plan done got operations fault t)
    go true e =
        subst (λ m. After NoneDue o journal (replies (event.Ended m) (reply_moved t.control None got) t)) st.no (over e)
    go false e = fails_if fault refl

pub moving_so : (laws : Laws) (o : Opening) (s : State) (journal : List Logged) (x : Task) (count : ℕ)
    (fault : Option ℕ) (done : ℕ) (got : List ℕ) → Now NoneDue o s journal → Has s.tasks x → IsAt x.stage done got →
    After NoneDue o journal (moving_from x count fault done got s)
moving_so laws o s journal x count fault done got h hx at = go progress.difference refl
  where
    plan : List BlockOp
    plan = plan_in (length s.blocks) x.command

    operations : List BlockOp
    operations = take count (drop done plan)

    cells : plan_cells
    cells = record { blocks = s.blocks; got = got }

    progress : Progress
    progress = performed x.command.out (tried operations fault) cells

    front : (k : ℕ) × (tried operations fault ≡ take k (drop done plan))
    front = tried_take count (drop done plan) fault

    first : Turn
    first = moving_on x.no progress.made s

    last : Option ℕ → State → Turn
    last difference =
        moved_to difference (nat_le (length plan) (done + progress.made)) x plan (done + progress.made)
        progress.cells.got operations fault

    -- how far it came by operations that are a front of those that are left
    OnBy : List BlockOp → Type 0
    OnBy ops =
        let q = performed x.command.out ops cells in
        q.difference ≡ None → Moved_on o s journal x (done + q.made) q.cells.got (moving_on x.no q.made s)

    EndsBy : ℕ → List BlockOp → Type 0
    EndsBy offset ops =
        let q = performed x.command.out ops cells in
        q.difference ≡ Some offset → After NoneDue o journal (followed (moving_on x.no q.made s) (differing x offset))

    -- the operation that the medium fails is the next of the plan
    IsNext : Option ℕ → ℕ → BlockOp → Type 0
    IsNext fl f op =
        let q = performed x.command.out (tried operations fl) cells in
        q.difference ≡ None → slice_get operations f ≡ Some op → slice_get plan (done + q.made) ≡ Some op

    failed : (f : ℕ) (op : BlockOp) → fault ≡ Some f → IsNext fault f op
    failed f op e = subst (λ fl. IsNext fl f op) (sym e)
        (λ none k. failed_at x.command.out plan count done f cells op k none)

    go : (difference : Option ℕ) → progress.difference ≡ difference →
        After NoneDue o journal (followed first (last difference))
    go None none =
        let moved = subst OnBy (sym front.1) (moved_on o s journal x front.0 done got h hx at) none in
        then_so NoneDue o journal first (last None)
        (moved_to_so laws o s first.state (journal ++ first.journal) x (done + progress.made) progress.cells.got
        operations fault (nat_le (length plan) (done + progress.made)) moved.now h.inv.frame.size moved.stood
        (λ e. leb-true (length plan) (done + progress.made) e) (λ f op e k. failed f op e none k))
    go (Some offset) differs =
        subst (EndsBy offset) (sym front.1) (differs_so laws o s journal x front.0 done got offset h hx at) differs

-- the operations don't depend on where the command stands
failing_alike : (x : Task) (stage : Stage) (plan : List BlockOp) (done : ℕ) (found : Option BlockOp) (s : State) →
    failing (at_stage stage x) plan done found s ≡ failing x plan done found s
failing_alike x stage plan done None s = refl
failing_alike x stage plan done (Some op) s = refl

moved_alike : (x : Task) (stage : Stage) (plan : List BlockOp) (difference : Option ℕ) (ended : Bool) (done : ℕ)
    (got : List ℕ) (operations : List BlockOp) (fault : Option ℕ) (s : State) →
    moved_to difference ended (at_stage stage x) plan done got operations fault s
    ≡ moved_to difference ended x plan done got operations fault s
moved_alike x stage plan (Some offset) ended done got operations fault s = refl
moved_alike x stage plan None true done got operations fault s = refl
moved_alike x stage plan None false done got operations None s = refl
moved_alike x stage plan None false done got operations (Some f) s =
    failing_alike x stage plan done (slice_get operations f) s

moving_alike : (x : Task) (stage : Stage) (count : ℕ) (fault : Option ℕ) (done : ℕ) (got : List ℕ) (s : State) →
    moving_from (at_stage stage x) count fault done got s ≡ moving_from x count fault done got s
moving_alike x stage count fault done got s =
    let plan = plan_in (length s.blocks) x.command in
    let operations = take count (drop done plan) in
    let progress = performed x.command.out (tried operations fault) (record { blocks = s.blocks; got = got }) in
    let first = moving_on x.no progress.made s in
    ap (λ (t : Turn). followed first (λ z. t))
    (moved_alike x stage plan progress.difference (nat_le (length plan) (done + progress.made))
    (done + progress.made) progress.cells.got operations fault first.state)

-- Begins

after_first : (x : Task) (s : State) → task_of x.no s.tasks ≡ Some x →
    after s (told (event.Begun x.no)) ≡ record s { tasks = with_task (at_stage (Here 0 []) x) s.tasks }
unfolding after
after_first x s e = ap (λ f. staged (Here 0 []) f s) e

after_granting : (x : Task) (s : State) → task_of x.no s.tasks ≡ Some x →
    after s (told (event.Granted x.no))
    ≡ record s { tasks = with_task (at_stage Granted x) s.tasks; to_b = s.to_b ++ message kind.Grant x.no ∷ [] }
unfolding after
after_granting x s e =
    ap (λ f. record (staged Granted f s) { to_b = (staged Granted f s).to_b ++ message kind.Grant x.no ∷ [] }) e

-- a command that is refused or makes no operation ends, and what it clears is cut
once_so : (laws : Laws) (o : Opening) (s : State) (journal : List Logged) (x : Task) → Now NoneDue o s journal →
    ((n : ℕ) → in_tasks n s.tasks ≤ 1) → Has s.tasks x → x.stage ≡ Waiting → s.functions ≡ [] →
    IsReady o.blocks (is_unrestricted s.control) x s.tasks →
    IsOnce (refusal_of s.control o.blocks x.command) (plan_in o.blocks x.command) →
    After NoneDue o journal (ending_at_once x s)
once_so laws o s journal x h distinct hx st closed ready is_once =
    then_so NoneDue o journal (writes l s) (λ ended. clearing_all x.no a.cleared (numbers_of ended.tasks) ended)
    (clears_so x.no x.command told_so a.cleared (after s l).tasks o (after s l) j
    (subst (λ t. Clearing x.no x.command told_so a.cleared t.tasks o t j) (sym state) clearing))
  where
    a : Execution
    a = execute (disk_of s) x.command

    l : Logged
    l = replied (event.Ended x.no) (execute (disk_of s) x.command).reply

    j : List Logged
    j = journal ++ l ∷ []

    d : Disk
    d = serial_disk o journal

    told_so : Bool
    told_so = tells_aborts d.control

    gone : State
    gone = record s { tasks = without_task x.no s.tasks; control = a.disk.control; blocks = a.disk.blocks }

    left : State
    left = answered kind.Reply x.no gone

    now : State
    now = record left { to_b = left.to_b ++ stops_with (tells_aborts s.control) x.no a.cleared left.tasks }

    tasks : left.tasks ≡ without_task x.no s.tasks
    tasks = answered_tasks kind.Reply x.no gone

    still : left.functions ≡ [] × (left.control ≡ a.disk.control)
    still = answered_still kind.Reply x.no gone closed

    state : after s l ≡ now
    state = after_ended_at x a.reply s (found_of s.tasks x h.inv.rules.single hx) ∙ ap (λ z. ended_at z x s) st

    known : IsCommandOf journal x.no x.command
    known = known_in NoneDue o s journal x h.inv.frame hx

    same : Same d s.control s.blocks x.command
    same = once_same laws o.blocks d s.control s.blocks x.command h.inv.rules.sized h.inv.frame.size h.inv.rules.control is_once

    inv : Inv NoneDue o left j
    inv = answers NoneDue o gone j kind.Reply x.no refl
        (leaves_so NoneDue o s j x s.functions a.disk.control a.disk.blocks
        (has_now (is_entry x.no) journal l (eq-eqb x.no x.no refl))
        (once_ends NoneDue laws o s journal x h.inv hx st ready is_once))

    -- a command that is left is another, which waits where it is cleared
    stays : (y : Task) → Has left.tasks y → Has s.tasks y × (y.no ≡ x.no → ⊥)
    stays y hy = has_without x.no s.tasks y (subst (λ q. Has q y) tasks hy)

    waits : (y : Task) → Has left.tasks y → contains a.cleared y.command.nexus ≡ true → is_waiting y.stage ≡ true
    waits y hy cleared = go (is_waiting y.stage) refl
      where
        other : Has s.tasks y × (y.no ≡ x.no → ⊥)
        other = stays y hy

        go : (t : Bool) → is_waiting y.stage ≡ t → is_waiting y.stage ≡ true
        go true e = e
        go false e = absurd (both_ways (contains a.cleared y.command.nexus)
            (laws.unclearing (is_unrestricted s.control) o.blocks y.command x.command (has_begun y.stage)
            (has_begun x.stage) (disk_of s) y.command.nexus
            (ready_begun laws o.blocks (is_unrestricted s.control) s.tasks x y h.inv.rules.single ready other.0 other.1
            (ap not e))
            (h.schedule.worked y other.0 e).0) cleared)

    due : due_of (standings_of o) o j ≡ due_from x.no told_so a.cleared now.tasks
    due =
        due-more (standings_of o) o journal l
        ∙ ap (λ w. due_by o journal x.no w (members_of (replay o j).tasks)) known
        ∙ ap (λ q. due_from x.no told_so (execute d x.command).cleared q)
        (ap (λ (t : State). t.tasks) (sym (replayed o s journal l h.schedule.at) ∙ state))
        ∙ ap (λ c. due_from x.no told_so c now.tasks) (sym same.cleared)

    clearing : Clearing x.no x.command told_so a.cleared now.tasks o now j
    clearing = record {
      inv = stops_so o left j x.no (tells_aborts s.control) a.cleared still.0 inv;
      at = sym state ∙ replayed o s journal l h.schedule.at;
      timely = each_more (TimelyAt o) [] journal l h.schedule.timely
          (subst (λ ns. IsTimelyAt journal (due_of (standings_of o) o journal) ns l.event) (sym h.schedule.due)
          (λ c. c));
      due = due;
      worked = subst (λ q. Worked o.blocks q) (sym tasks) (worked_without o.blocks x.no s.tasks h.schedule.worked);
      stands = stands_whole left.tasks (distinct_in left.tasks
          (λ n. subst (λ q. in_tasks n q ≤ 1) (sym tasks)
          (let k = distinct n in let w = in_without n x.no s.tasks in omega (arith, k, w))));
      closed = still.0;
      tells = λ y hy cleared.
          ap tells_aborts still.1 ∙ laws.clears_told (disk_of s) x.command y.command.nexus cleared
          ∙ ap tells_aborts h.inv.rules.control;
      waits = waits;
      known = ap (numbered x.no) (works_in-none journal l refl) ∙ known;
      entered = has_stays (is_enter x.no) journal l (h.inv.frame.books.entered x hx);
      gone = λ y hy. (stays y hy).1;
    }

begin_so : (laws : Laws) (o : Opening) (s : State) (journal : List Logged) (x : Task) (count : ℕ) (fault : Option ℕ) →
    Now NoneDue o s journal → ((n : ℕ) → in_tasks n s.tasks ≤ 1) → Has s.tasks x → x.stage ≡ Waiting →
    s.functions ≡ [] → IsReady o.blocks (is_unrestricted s.control) x s.tasks →
    After NoneDue o journal (beginning (refusal_of s.control (length s.blocks) x.command)
    (plan_in (length s.blocks) x.command) x count fault s)
begin_so laws o s journal x count fault h distinct hx st none ready =
    go (refusal_of s.control (length s.blocks) x.command) (plan_in (length s.blocks) x.command) refl refl
  where
    size : length s.blocks ≡ o.blocks
    size = h.inv.frame.size

    once : IsOnce (refusal_of s.control (length s.blocks) x.command) (plan_in (length s.blocks) x.command) →
        After NoneDue o journal (ending_at_once x s)
    once k =
        once_so laws o s journal x h distinct hx st none ready
        (subst (λ n. IsOnce (refusal_of s.control n x.command) (plan_in n x.command)) size k)

    begins : (t : Bool) → refusal_of s.control (length s.blocks) x.command ≡ None →
        has_operations (plan_in (length s.blocks) x.command) ≡ true →
        Inv NoneDue o (record s { tasks = with_task (at_stage (first_stage t) x) s.tasks })
        (journal ++ told (first_event t x.no) ∷ [])
    begins t refused moves =
        begun_so NoneDue laws o s journal x t (λ f n k. k) h.inv hx st ready none
        (ap (λ n. refusal_of s.control n x.command) (sym size) ∙ refused)
        (ap (λ n. has_operations (plan_in n x.command)) (sym size) ∙ moves)

    found : task_of x.no s.tasks ≡ Some x
    found = found_of s.tasks x h.inv.rules.single hx

    works : (stage : Stage) → has_operations (plan_in (length s.blocks) x.command) ≡ true → done_at stage ≡ 0 →
        Worked o.blocks (with_task (at_stage stage x) s.tasks)
    works stage moves none =
        worked_with o.blocks s.tasks (at_stage stage x) h.schedule.worked
        (ap (λ n. has_operations (plan_in n x.command)) (sym size) ∙ moves) (omega (arith, none))

    first : (t : Bool) → refusal_of s.control (length s.blocks) x.command ≡ None →
        has_operations (plan_in (length s.blocks) x.command) ≡ true →
        After NoneDue o journal (beginning_at t x count fault s)
    first true refused moves =
        wrote NoneDue o s _ journal (told (event.Granted x.no)) h.schedule (after_granting x s found)
        (tells_b NoneDue o (record s { tasks = with_task (at_stage Granted x) s.tasks })
        (journal ++ told (event.Granted x.no) ∷ []) (message kind.Grant x.no) refl (begins true refused moves))
        (works Granted moves refl) (untimed o journal (told (event.Granted x.no)) refl)
    first false refused moves =
        let l : Logged = told (event.Begun x.no) in
        let here : Task = at_stage (Here 0 []) x in
        let now : State = record s { tasks = with_task here s.tasks } in
        let begun : Now NoneDue o (after s l) (journal ++ l ∷ []) =
        wrote NoneDue o s now journal l h.schedule (after_first x s found) (begins false refused moves)
        (works (Here 0 []) moves refl) (untimed o journal l refl) in
        let has_here : Has (after s l).tasks here =
        subst (λ (t : State). Has t.tasks here) (sym (after_first x s found)) (with_itself here s.tasks x hx refl) in
        then_so NoneDue o journal (writes l s) (moving_from x count fault 0 [])
        (subst (λ (t : Turn). After NoneDue o (journal ++ l ∷ []) t)
        (moving_alike x (Here 0 []) count fault 0 [] (after s l))
        (moving_so laws o (after s l) (journal ++ l ∷ []) here count fault 0 [] begun has_here (inl refl)))

    go : (refused : Option Reply) (plan : List BlockOp) → refusal_of s.control (length s.blocks) x.command ≡ refused →
        plan_in (length s.blocks) x.command ≡ plan → After NoneDue o journal (beginning refused plan x count fault s)
    go (Some r) plan er ep = once (subst (λ q. IsOnce q (plan_in (length s.blocks) x.command)) (sym er) tt)
    go None [] er ep = once (subst (λ q. IsOnce q (plan_in (length s.blocks) x.command)) (sym er) ep)
    go None (op ∷ ops) er ep = first (is_granted s.ha x.node) er (ap has_operations ep)

-- Steps

pub step_so : (laws : Laws) (o : Opening) (s : State) (journal : List Logged) (number count : ℕ) (fault : Option ℕ) →
    Now NoneDue o s journal → ((n : ℕ) → in_tasks n s.tasks ≤ 1) →
    After NoneDue o journal (stepping (task_of number s.tasks) number count fault s).turn
step_so laws o s journal number count fault h distinct = go (task_of number s.tasks) refl
  where
    away : (t : Bool) → After NoneDue o journal
        (cond {A = Done} t (record { turn = nothing s; answer = answer.Away number })
        (record { turn = nothing s; answer = answer.Gone })).turn
    away true = stays_so NoneDue o s journal h
    away false = stays_so NoneDue o s journal h

    ready : (x : Task) → Has s.tasks x → x.stage ≡ Waiting → (blocked : Option ℕ) →
        blocked_by s.functions s x ≡ blocked → After NoneDue o journal (beginning_unless blocked x count fault s).turn
    ready x hx st (Some by) e = stays_so NoneDue o s journal h
    ready x hx st None e = free s.functions refl e
      where
        free : (fs : List Open) → s.functions ≡ fs → blocked_by fs s x ≡ None →
            After NoneDue o journal (beginning (refusal_of s.control (length s.blocks) x.command)
            (plan_in (length s.blocks) x.command) x count fault s)
        free [] none e =
            begin_so laws o s journal x count fault h distinct hx st none
            (subst (λ n. IsReady n (is_unrestricted s.control) x s.tasks) h.inv.frame.size (ready_in s x e))
        free (f ∷ fs) none e = absurd (cc)

    at : (x : Task) → Has s.tasks x → (stage : Stage) → x.stage ≡ stage →
        After NoneDue o journal (stepping_at stage x count fault s).turn
    at x hx Waiting st = ready x hx st (blocked_by s.functions s x) refl
    at x hx (Here done got) st = moving_so laws o s journal x count fault done got h hx (inl st)
    at x hx Granted st = stays_so NoneDue o s journal h
    at x hx (There done got) st = moving_so laws o s journal x count fault done got h hx (inr st)
    at x hx Over st = stays_so NoneDue o s journal h

    go : (found : Option Task) → task_of number s.tasks ≡ found →
        After NoneDue o journal (stepping found number count fault s).turn
    go None e = away (list_any (is_sent number) s.to_a)
    go (Some x) e = at x (has_found number s.tasks x e).0 x.stage refl
