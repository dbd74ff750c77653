-- What runs owe of functions: whom they tell, how they are answered, that nothing begins while one is open, and that of
-- those that close in one act the lower number goes first.
use Rattle.std.proofs.Common.{◌≡◌, ℕ, zero, suc, ◌+◌, ◌<◌, ◌≤◌, inl, inr, Bool, true, false, not, ◌&&◌, ◌||◌, List, []}
use Rattle.std.proofs.Common.{◌∷◌, ◌++◌, Option, Some, None, length, take, drop, refl, sym, ap, ◌∙◌, subst, ⊎_elim}
use Rattle.std.proofs.Common.{eq-eqb, cond, arith, append_assoc, append-nil, leb-true}
use Rattle.std.specs.Prelude.{nat_le, fold}
use Rattle.std.proofs.lemmas.Bool.{both_ways, leb-false}
use Rattle.std.proofs.lemmas.Option.{same_Some}
use Rattle.ct_word.specs.declared.limit.TheConstants.{MOST_FUNCTIONS}
use Rattle.ct_word.specs.declared.names.Node.{Node}
use Rattle.ct_word.specs.declared.names.Node.TheVariants.{A, B}
use Rattle.ct_word.specs.Nexuses.{is_same_nexus}
use Rattle.ct_sense.specs.declared.reply.Reply.{Reply}
use Rattle.ct_tmf.specs.declared.function.Ask.{Ask}
use Rattle.ct_tmf.specs.declared.function.Outcome.TheVariants.{Complete, Succeeded, Rejected}
use Rattle.ct_tmf.specs.Reaches.{seeks}
use Rattle.ct_plan.specs.declared.operation.BlockOp.{BlockOp}
use Rattle.ct_plan.specs.Cells.{performed}
use Rattle.ct_plan.specs.Pieces.{tried}
use Rattle.ct_book.specs.declared.work.Command.{Command}
use Rattle.ct_book.specs.declared.work.Work.TheVariants as work
use Rattle.ct_book.specs.declared.event.Event.TheVariants as event
use Rattle.ct_book.specs.declared.event.Kind2.{Kind2}
use Rattle.ct_book.specs.declared.event.Kind2.TheVariants as kind
use Rattle.ct_book.specs.declared.event.Why.TheVariants.{By}
use Rattle.ct_book.specs.declared.event.Logged.{Logged}
use Rattle.ct_book.specs.Journals.{KeptWork, numbered, arrived}
use Rattle.ct_exec.specs.Controls.{Disk, tells_aborts}
use Rattle.ct_exec.specs.Executions.{execute, refusal_of, plan_in}
use Rattle.ct_machine.specs.declared.act.Act.{Act}
use Rattle.ct_machine.specs.declared.act.Act.TheVariants as act
use Rattle.ct_machine.specs.declared.act.Answer.TheVariants as answer
use Rattle.ct_machine.specs.declared.act.Opening.{Opening}
use Rattle.ct_machine.specs.States.{Stage, Waiting, Here, Granted, There, Over, Task, Open, Message, Arrival, State}
use Rattle.ct_machine.specs.States.{opened, disk_of, arrival_of, task_of, function_of, is_here, is_waiting}
use Rattle.ct_machine.specs.States.{is_remote}
use Rattle.ct_machine.specs.Events.{after}
use Rattle.ct_machine.specs.Events.Ends.{is_cleared, cut_at, after_cut}
use Rattle.ct_machine.specs.Events.Functions.{is_hit, is_told}
use Rattle.ct_machine.specs.Acts.Turns.{Turn, nothing, writes, says, replies, followed}
use Rattle.ct_machine.specs.Entrances.{Member}
use Rattle.ct_machine.specs.Acts.Entries.{member_of, members_of, standing_of, turned_cause, entering_with, entering}
use Rattle.ct_machine.specs.Acts.Functions.{outcome_of, puts_of}
use Rattle.ct_machine.specs.Acts.Functions.{cutting, numbers_of, cutting_all, closing_if, closing, open_numbers}
use Rattle.ct_machine.specs.Acts.Functions.{closing_all, taking_up, asking}
use Rattle.ct_machine.specs.Acts.Moves.{moving_on, failing, failing_if}
use Rattle.ct_machine.specs.Acts.Moves.{moved_to, moving_from, moving}
use Rattle.ct_machine.specs.Acts.Begins.{clearing, clearing_all, ending_at_once, is_granted, beginning_at, beginning}
use Rattle.ct_machine.specs.Acts.Answers.{Done}
use Rattle.ct_machine.specs.Acts.Arrivals.{next_number, has_room_for, arriving_at, arriving_here}
use Rattle.ct_machine.specs.Acts.Steps.{blocked_by, beginning_unless, stepping_at, is_sent, stepping}
use Rattle.ct_machine.specs.Acts.Messages.{taking_in, coming_in, coming_to_a, stopping_at, stopping, coming_to_b}
use Rattle.ct_machine.specs.Acts.Messages.{coming_to, delivering_first, messages_to, delivering}
use Rattle.ct_machine.specs.Acts.Next.{next_step, stepping_next, doing_next}
use Rattle.ct_machine.specs.Acts.{doing}
use Rattle.std.specs.Prelude.{slice_get}
use Rattle.std.specs.List.{list_any}
use Rattle.ct_machine.specs.Serial.{serial_disk}
use Rattle.ct_machine.specs.Runs.{IsRun}
use Rattle.ct_machine.specs.Laws.Standings.{standings_of}
use Rattle.ct_machine.specs.Laws.Journals.{EachBehind, Each, has, is_begin, is_asked, IsCommandOf, IsFunctionOf}
use Rattle.ct_machine.specs.Laws.Functions.{told_aborts_at, IsToldAt, IsOutcomeOf, IsAnsweredAt, NoneIsOpen}
use Rattle.ct_machine.specs.Laws.Functions.{BeginsAlone, closed_by, last_closed, ClosesInOrder}
use Rattle.ct_law.proofs.Lists.Tasks.{Has, has_found}
use Rattle.ct_law.proofs.Journals.Journal.{has_stays, has_now, has_not, unstarted}
use Rattle.ct_law.proofs.Journals.Growing.{numbered-map}
use Rattle.ct_law.proofs.Lists.Messages.{is_arrival, is_stop}
use Rattle.ct_law.proofs.Frame.Books.{IsAsk, is_over}
use Rattle.ct_law.proofs.Frame.Opens.{IsIn, HasOpen}
use Rattle.ct_law.proofs.Inv.{told, replied, serial-same}
use Rattle.ct_law.proofs.Walks.Walk.{Now, NoneDue, found_open}
use Rattle.ct_law.proofs.Rows.Laws.{Laws}
use Rattle.ct_law.proofs.Runs.{run_induction}
use Rattle.ct_law.proofs.Acts.Sends.{IsFine, fine_act, fine_opened}
use Rattle.ct_law.proofs.Walks.Comings.{acts_so, opened_so}
use Rattle.ct_law.proofs.Events.Nodes.{arriving_by, after_arrived, came_last}
use Rattle.ct_law.proofs.Functions.Steady.{HasMessage, numbers, Ascending, Telling, Steady, is_plain, told_stays}
use Rattle.ct_law.proofs.Functions.Steady.{told_now, arrivals_keep, delivered_control, asked_keeps, steady_event}
use Rattle.ct_law.proofs.Functions.Steady.{steady_came, steady_entered, steady_asked}

-- what a journal owes of functions at an event
pub record HeardAt (o : Opening) (before : List Logged) (l : Logged) : Type 0 where
  pub tells : IsToldAt o before l.event
  pub answers : IsAnsweredAt (standings_of o) before l.event
  pub waits : BeginsAlone before l.event
  pub closes : ClosesInOrder before l.event

-- what holds behind a turn, and what its events owed
pub record Heard (o : Opening) (journal : List Logged) (t : Turn) : Type 0 where
  pub steady : Steady o t.state (journal ++ t.journal)
  pub each : EachBehind (HeardAt o) journal t.journal

each_append : (P : List Logged → Logged → Type 0) (before es fs : List Logged) → EachBehind P before es →
    EachBehind P (before ++ es) fs → EachBehind P before (es ++ fs)
each_append P before [] fs h k = subst (λ b. EachBehind P b fs) (append-nil before) k
each_append P before (e ∷ es) fs h k = (
  h.0,
  each_append P (before ++ e ∷ []) es fs h.1
      (subst (λ b. EachBehind P b fs) (sym (append_assoc before (e ∷ []) es)) k),
)

stays : (o : Opening) (s : State) (journal : List Logged) → Steady o s journal → Heard o journal (nothing s)
stays o s journal h = record { steady = subst (λ j. Steady o s j) (sym (append-nil journal)) h; each = tt }

then : (o : Opening) (journal : List Logged) (t : Turn) (next : State → Turn) → Heard o journal t →
    Heard o (journal ++ t.journal) (next t.state) → Heard o journal (followed t next)
then o journal t next h k = record {
  steady =
      subst (λ j. Steady o (next t.state).state j) (append_assoc journal t.journal (next t.state).journal) k.steady;
  each = each_append (HeardAt o) journal t.journal (next t.state).journal h.each k.each;
}

-- one event
wrote : (o : Opening) (s : State) (journal : List Logged) (l : Logged) → HeardAt o journal l →
    Steady o (after s l) (journal ++ l ∷ []) → Heard o journal (writes l s)
wrote o s journal l owed h = record { steady = h; each = (owed, tt) }

plainly : (o : Opening) (s : State) (journal : List Logged) (l : Logged) → l.work ≡ None → is_plain l.event ≡ true →
    HeardAt o journal l → Steady o s journal → Heard o journal (writes l s)
plainly o s journal l no_work plain owed h = wrote o s journal l owed (steady_event o s journal l no_work plain h)

-- What events leave

came_control : (n : ℕ) (node : Node) (w : KeptWork) (s : State) → (after s (arrived n node w)).control ≡ s.control
came_control n node w s = ap (λ (t : State). t.control) (after_arrived n node w s).1

-- Moves

begins_before : (o : Opening) (s : State) (journal : List Logged) (l : Logged) (n : ℕ) → l.event ≡ event.Ended n →
    has (is_begin n) journal ≡ true → HeardAt o journal l
begins_before o s journal l n is began = record {
  tells = subst (λ e. IsToldAt o journal e) (sym is) tt;
  answers = subst (λ e. IsAnsweredAt (standings_of o) journal e) (sym is) tt;
  waits = subst (λ e. BeginsAlone journal e) (sym is)
      (λ none. absurd (both_ways (has (is_begin n) journal) (unstarted n journal none) began));
  closes = subst (λ e. ClosesInOrder journal e) (sym is) tt;
}

moves_on : (o : Opening) (s : State) (journal : List Logged) (n count : ℕ) → has (is_begin n) journal ≡ true →
    Steady o s journal → Heard o journal (moving_on n count s)
    × (has (is_begin n) (journal ++ (moving_on n count s).journal) ≡ true)
moves_on o s journal n zero began h =
    (stays o s journal h, subst (λ j. has (is_begin n) j ≡ true) (sym (append-nil journal)) began)
moves_on o s journal n (suc count) began h = (
  plainly o s journal (told (event.Moved n (suc count))) refl refl
      (record { tells = tt; answers = tt; waits = tt; closes = tt }) h,
  has_stays (is_begin n) journal (told (event.Moved n (suc count))) began,
)

fails : (o : Opening) (s : State) (journal : List Logged) (x : Task) (plan : List BlockOp) (done : ℕ)
    (found : Option BlockOp) → Steady o s journal → Heard o journal (failing x plan done found s)
fails o s journal x plan done None h = stays o s journal h
fails o s journal x plan done (Some operation) h =
    plainly o s journal _ refl refl (record { tells = refl; answers = tt; waits = tt; closes = tt }) h

fails_if : (o : Opening) (s : State) (journal : List Logged) (x : Task) (plan : List BlockOp) (done : ℕ)
    (operations : List BlockOp) (fault : Option ℕ) → Steady o s journal →
    Heard o journal (failing_if x plan done operations fault s)
fails_if o s journal x plan done operations None h = stays o s journal h
fails_if o s journal x plan done operations (Some fault) h =
    fails o s journal x plan done (slice_get operations fault) h

moves_to : (o : Opening) (s : State) (journal : List Logged) (difference : Option ℕ) (ended : Bool) (x : Task)
    (plan : List BlockOp) (done : ℕ) (got : List ℕ) (operations : List BlockOp) (fault : Option ℕ) →
    has (is_begin x.no) journal ≡ true → Steady o s journal →
    Heard o journal (moved_to difference ended x plan done got operations fault s)
moves_to o s journal (Some offset) ended x plan done got operations fault began h =
    plainly o s journal _ refl refl (begins_before o s journal _ x.no refl began) h
moves_to o s journal None true x plan done got operations fault began h =
    plainly o s journal _ refl refl (begins_before o s journal _ x.no refl began) h
moves_to o s journal None false x plan done got operations fault began h =
    fails_if o s journal x plan done operations fault h

moves_from : (o : Opening) (s : State) (journal : List Logged) (x : Task) (count : ℕ) (fault : Option ℕ) (done : ℕ)
    (got : List ℕ) → has (is_begin x.no) journal ≡ true → Steady o s journal →
    Heard o journal (moving_from x count fault done got s)
moves_from o s journal x count fault done got began h =
    let plan = plan_in (length s.blocks) x.command in
    let operations = take count (drop done plan) in
    let progress = performed x.command.out (tried operations fault) (record { blocks = s.blocks; got = got }) in
    let done' = done + progress.made in
    let first : Turn = moving_on x.no progress.made s in
    let k = moves_on o s journal x.no progress.made began h in
    then o journal first (moved_to progress.difference
    (nat_le (length plan) done') x plan done' progress.cells.got operations fault) k.0
    (moves_to o first.state (journal ++ first.journal) progress.difference
    (nat_le (length plan) done') x plan done' progress.cells.got operations fault k.1 k.0.steady)

-- Begins

-- the work with this number is a command, no function
no_function : (o : Opening) (s : State) (journal : List Logged) (n : ℕ) (node : Node) (c : Command) (ask : Ask) →
    Steady o s journal → numbered n s.arrivals ≡ Some (record { node = node; work = work.Cmd c }) →
    IsFunctionOf journal n ask → ⊥
no_function o s journal n node c ask h came is =
    let k : Some (work.Cmd c) ≡ Some (work.Ask ask) =
    sym (ap (numbered n) (sym h.works) ∙ numbered-map (λ (a : Arrival). a.work) n s.arrivals _ came) ∙ is in cc

same_function : (o : Opening) (s : State) (journal : List Logged) (n : ℕ) (node : Node) (ask other : Ask) →
    Steady o s journal → numbered n s.arrivals ≡ Some (record { node = node; work = work.Ask ask }) →
    IsFunctionOf journal n other → other ≡ ask
same_function o s journal n node ask other h came is =
    let k : Some (work.Ask other) ≡ Some (work.Ask ask) =
    sym is ∙ ap (numbered n) (sym h.works) ∙ numbered-map (λ (a : Arrival). a.work) n s.arrivals _ came in cc

same_command : (o : Opening) (s : State) (journal : List Logged) (n : ℕ) (node : Node) (c other : Command) →
    Steady o s journal → numbered n s.arrivals ≡ Some (record { node = node; work = work.Cmd c }) →
    IsCommandOf journal n other → other ≡ c
same_command o s journal n node c other h came is =
    let k : Some (work.Cmd other) ≡ Some (work.Cmd c) =
    sym is ∙ ap (numbered n) (sym h.works) ∙ numbered-map (λ (a : Arrival). a.work) n s.arrivals _ came in cc

-- a cut keeps the works and the control
cut_keeps : (s : State) (l : Logged) (n puts by : ℕ) (told_so : Bool) → l.event ≡ event.Cut n puts (By by) told_so →
    ((after s l).arrivals ≡ s.arrivals) × ((after s l).control ≡ s.control)
unfolding after
cut_keeps s l n puts by told_so is =
    subst (λ e. ((after s (record l { event = e })).arrivals ≡ s.arrivals)
    × ((after s (record l { event = e })).control ≡ s.control)) (sym is) (go (task_of n s.tasks))
  where
    at : (x : Task) (stage : Stage) → ((cut_at (By by) stage x s).arrivals ≡ s.arrivals)
        × ((cut_at (By by) stage x s).control ≡ s.control)
    at x Waiting = (refl, refl)
    at x (Here d g) = (refl, refl)
    at x Granted = (refl, refl)
    at x (There d g) = (refl, refl)
    at x Over = (refl, refl)

    go : (found : Option Task) → ((after_cut (By by) found s).arrivals ≡ s.arrivals)
        × ((after_cut (By by) found s).control ≡ s.control)
    go None = (refl, refl)
    go (Some x) = at x x.stage

clears_all : (o : Opening) (by : ℕ) (node : Node) (c : Command) (cleared : List Bool) (ns : List ℕ) (s : State)
    (journal : List Logged) → numbered by s.arrivals ≡ Some (record { node = node; work = work.Cmd c }) →
    Steady o s journal → Heard o journal (clearing_all by cleared ns s)
clears_all o by node c cleared [] s journal came h = stays o s journal h
clears_all o by node c cleared (n ∷ ns) s journal came h =
    let first : Turn = clearing by cleared (task_of n s.tasks) s in
    let k = one (task_of n s.tasks) in
    then o journal first (clearing_all by cleared ns) k.0
    (clears_all o by node c cleared ns first.state (journal ++ first.journal) (ap (numbered by) k.1 ∙ came) k.0.steady)
  where
    one : (found : Option Task) → Heard o journal (clearing by cleared found s)
        × ((clearing by cleared found s).state.arrivals ≡ s.arrivals)
    one None = (stays o s journal h, refl)
    one (Some x) = go (is_cleared cleared x)
      where
        l : Logged
        l = told (event.Cut x.no 0 (By by) (tells_aborts s.control))

        go : (t : Bool) → Heard o journal (cond t (writes l s) (nothing s))
            × ((cond t (writes l s) (nothing s)).state.arrivals ≡ s.arrivals)
        go true = (
          plainly o s journal l refl refl
              (record {
                tells = λ ask other is known. absurd (no_function o s journal by node c ask h came is);
                answers = tt;
                waits = tt;
                closes = tt;
              }) h,
          (cut_keeps s l x.no 0 by (tells_aborts s.control) refl).0,
        )
        go false = (stays o s journal h, refl)

ends_at_once : (o : Opening) (s : State) (journal : List Logged) (x : Task) → NoneIsOpen journal → Has s.tasks x →
    Steady o s journal → Heard o journal (ending_at_once x s)
ends_at_once o s journal x alone hx h =
    let execution = execute (disk_of s) x.command in
    let l : Logged = replied (event.Ended x.no) execution.reply in
    let first : Turn = replies (event.Ended x.no) execution.reply s in
    let k : Heard o journal first =
    plainly o s journal l refl refl (record { tells = tt; answers = tt; waits = λ none. alone; closes = tt }) h in
    then o journal first (λ ended. clearing_all x.no execution.cleared (numbers_of ended.tasks) ended) k
    (clears_all o x.no x.node x.command execution.cleared (numbers_of first.state.tasks) first.state
    (journal ++ first.journal) (ap (numbered x.no) (arrivals_keep s l refl) ∙ h.known x hx) k.steady)

begins_at : (o : Opening) (s : State) (journal : List Logged) (granted : Bool) (x : Task) (count : ℕ)
    (fault : Option ℕ) → NoneIsOpen journal → Steady o s journal →
    Heard o journal (beginning_at granted x count fault s)
begins_at o s journal true x count fault alone h =
    plainly o s journal (told (event.Granted x.no)) refl refl
    (record { tells = tt; answers = tt; waits = λ none. alone; closes = tt }) h
begins_at o s journal false x count fault alone h =
    let l : Logged = told (event.Begun x.no) in
    let first : Turn = says (event.Begun x.no) s in
    let k : Heard o journal first =
    plainly o s journal l refl refl (record { tells = tt; answers = tt; waits = λ none. alone; closes = tt }) h in
    then o journal first (moving_from x count fault 0 []) k
    (moves_from o first.state (journal ++ first.journal) x count fault 0 []
    (has_now (is_begin x.no) journal l (eq-eqb x.no x.no refl)) k.steady)

begins : (o : Opening) (s : State) (journal : List Logged) (refused : Option Reply) (plan : List BlockOp) (x : Task)
    (count : ℕ) (fault : Option ℕ) → NoneIsOpen journal → Has s.tasks x → Steady o s journal →
    Heard o journal (beginning refused plan x count fault s)
begins o s journal (Some reply) plan x count fault alone hx h = ends_at_once o s journal x alone hx h
begins o s journal None [] x count fault alone hx h = ends_at_once o s journal x alone hx h
begins o s journal None (operation ∷ operations) x count fault alone hx h =
    begins_at o s journal (is_granted s.ha x.node) x count fault alone h

none_open : (o : Opening) (s : State) (journal : List Logged) → s.functions ≡ [] → Steady o s journal →
    NoneIsOpen journal
none_open o s journal none h by asked =
    ⊎_elim (λ k. k) (λ (k : IsIn by (numbers s.functions)). absurd (subst (λ fs. IsIn by (numbers fs)) none k))
    (h.opened by asked)

steps : (o : Opening) (s : State) (journal : List Logged) (n count : ℕ) (fault : Option ℕ) → Now NoneDue o s journal →
    Steady o s journal → Heard o journal (stepping (task_of n s.tasks) n count fault s).turn
steps o s journal n count fault now h = go (task_of n s.tasks) refl
  where
    unless : (x : Task) (blocked : Option ℕ) → Has s.tasks x → (blocked ≡ None → NoneIsOpen journal) →
        Heard o journal (beginning_unless blocked x count fault s).turn
    unless x (Some by) hx alone = stays o s journal h
    unless x None hx alone =
        begins o s journal (refusal_of s.control (length s.blocks) x.command)
        (plan_in (length s.blocks) x.command) x count fault (alone refl) hx h

    alone : (x : Task) (fs : List Open) → s.functions ≡ fs → blocked_by fs s x ≡ None → NoneIsOpen journal
    alone x [] e k = none_open o s journal e h
    alone x (f ∷ fs) e k = absurd (cc)

    began : (x : Task) → Has s.tasks x → is_over x.stage ≡ false → is_waiting x.stage ≡ false →
        has (is_begin x.no) journal ≡ true
    began x hx alive moving = now.inv.frame.books.begin x hx alive ∙ ap not moving

    at : (x : Task) (stage : Stage) → Has s.tasks x → x.stage ≡ stage →
        Heard o journal (stepping_at stage x count fault s).turn
    at x Waiting hx e = unless x (blocked_by s.functions s x) hx (alone x s.functions refl)
    at x (Here d g) hx e = moves_from o s journal x count fault d g (began x hx (ap is_over e) (ap is_waiting e)) h
    at x (There d g) hx e = moves_from o s journal x count fault d g (began x hx (ap is_over e) (ap is_waiting e)) h
    at x Granted hx e = stays o s journal h
    at x Over hx e = stays o s journal h

    nowhere : (t : Bool) → Heard o journal
        (cond {A = Done} t (record { turn = nothing s; answer = answer.Away n })
        (record { turn = nothing s; answer = answer.Gone })).turn
    nowhere true = stays o s journal h
    nowhere false = stays o s journal h

    go : (found : Option Task) → task_of n s.tasks ≡ found → Heard o journal (stepping found n count fault s).turn
    go None e = nowhere (list_any (is_sent n) s.to_a)
    go (Some x) e = at x x.stage (has_found n s.tasks x e).0 refl

-- Closing

last_now : (js : List Logged) (l : Logged) → last_closed (js ++ l ∷ []) ≡ closed_by l.event
last_now js l = go js None
  where
    go : (js : List Logged) (last : Option ℕ) →
        fold (λ (last : Option ℕ) (logged : Logged). closed_by logged.event) last (js ++ l ∷ []) ≡ closed_by l.event
    go [] last = refl
    go (j ∷ js) last = go js (closed_by j.event)

-- the function that closed last has a lower number than these
abbrev IsBelow : List Logged → List ℕ → Type 0
IsBelow journal ns = (lower : ℕ) → last_closed journal ≡ Some lower → (n : ℕ) → IsIn n ns → lower < n

below_none : (journal : List Logged) (ns : List ℕ) → last_closed journal ≡ None → IsBelow journal ns
below_none journal ns none lower e n i = let k : None ≡ Some lower = sym none ∙ e in absurd (cc)

-- the machine's outcome of a function is the law's
any_member : (test : Member → Bool) (tasks : List Task) →
    list_any test (members_of tasks) ≡ list_any (λ (x : Task). test (member_of x)) tasks
any_member test [] = refl
any_member test (x ∷ xs) = ap (λ b. test (member_of x) || b) (any_member test xs)

outcome_known : (ask : Ask) (s : State) → outcome_of ask s
    ≡ cond (list_any (λ (member : Member). seeks ask member.command.nexus member.command.tag)
    (members_of s.tasks)) Succeeded Complete
outcome_known ask s =
    ap (λ b. cond b Succeeded Complete)
    (sym (any_member (λ member. seeks ask member.command.nexus member.command.tag) s.tasks))

-- a function closes, or it awaits commands
closes : (o : Opening) (s : State) (journal : List Logged) (n : ℕ) (ns : List ℕ) → IsBelow journal (n ∷ ns) →
    ((m : ℕ) → IsIn m ns → n < m) → Steady o s journal →
    Heard o journal (closing (function_of n s.functions) s) × IsBelow
    (journal ++ (closing (function_of n s.functions) s).journal) ns
closes o s journal n ns below ascending h = go (function_of n s.functions) refl
  where
    waits : (s' : State) → Steady o s' journal → Heard o journal (nothing s') × IsBelow (journal ++ []) ns
    waits s' k = (
      stays o s' journal k,
      subst (λ j. IsBelow j ns) (sym (append-nil journal))
          (λ lower e m i. below lower e m (inr i)),
    )

    at : (p : Open) (awaits : List ℕ) → HasOpen s.functions p → p.no ≡ n →
        Heard o journal (closing_if awaits p s) × IsBelow (journal ++ (closing_if awaits p s).journal) ns
    at p (m ∷ ms) hp e = waits s h
    at p [] hp e = (
      plainly o s journal l refl refl (record {
        tells = tt;
        answers = λ ask is.
            subst (λ (t : State). IsOutcomeOf (standing_of t) (has (is_asked p.no) journal) ask
            (outcome_of p.ask s)) h.at
            (subst (λ b. IsOutcomeOf (standing_of s) b ask (outcome_of p.ask s)) (sym a.2)
            (ap (λ z. outcome_of z s) (sym (same_function o s journal p.no a.0 p.ask ask h a.1 is))
            ∙ outcome_known ask s));
        waits = tt;
        closes = λ lower last. below lower last p.no (inl (sym e));
      }) h,
      λ lower last m i. let k : Some p.no ≡ Some lower =
          sym (last_now journal l) ∙ last in subst (λ z. z < m) (sym e ∙ same_Some p.no lower k) (ascending m i),
    )
      where
        l : Logged
        l = told (event.Closed p.no (outcome_of p.ask s))

        a : (node : Node) × (numbered p.no s.arrivals ≡ Some (record { node = node; work = work.Ask p.ask }))
            × (has (is_asked p.no) journal ≡ true)
        a = h.asked p hp

    go : (found : Option Open) → function_of n s.functions ≡ found →
        Heard o journal (closing found s) × IsBelow (journal ++ (closing found s).journal) ns
    go None e = waits s h
    go (Some p) e = let r = found_open n s.functions p e in at p p.awaits r.0 r.1

closes_all : (o : Opening) (ns : List ℕ) (s : State) (journal : List Logged) → Ascending ns → IsBelow journal ns →
    Steady o s journal → Heard o journal (closing_all ns s)
closes_all o [] s journal ascending below h = stays o s journal h
closes_all o (n ∷ ns) s journal ascending below h =
    let first : Turn = closing (function_of n s.functions) s in
    let k = closes o s journal n ns below ascending.0 h in
    then o journal first (closing_all ns) k.0
    (closes_all o ns first.state (journal ++ first.journal) ascending.1 k.1 k.0.steady)

-- Taking up

-- what holds while a function cuts
record Cuts (o : Opening) (n : ℕ) (node : Node) (ask : Ask) (s : State) (journal : List Logged) : Type 0 where
  steady : Steady o s journal
  came : numbered n s.arrivals ≡ Some (record { node = node; work = work.Ask ask })
  asking : has (is_asked n) journal ≡ true
  said : tells_aborts s.control ≡ told_aborts_at o n journal
  last : last_closed journal ≡ None

cuts_one : (o : Opening) (n : ℕ) (node : Node) (ask : Ask) (m : ℕ) (s : State) (journal : List Logged) →
    Cuts o n node ask s journal →
    Heard o journal (cutting n ask (task_of m s.tasks) s) × Cuts o n node ask
    (cutting n ask (task_of m s.tasks) s).state (journal ++ (cutting n ask (task_of m s.tasks) s).journal)
cuts_one o n node ask m s journal c = go (task_of m s.tasks) refl
  where
    still : Heard o journal (nothing s) × Cuts o n node ask s (journal ++ [])
    still = (stays o s journal c.steady, subst (λ j. Cuts o n node ask s j) (sym (append-nil journal)) c)

    cut : (x : Task) → Has s.tasks x → (l : Logged) → l ≡ told (event.Cut x.no (puts_of x s) (By n) (is_told s ask x)) →
        Heard o journal (writes l s) × Cuts o n node ask (after s l) (journal ++ l ∷ [])
    cut x hx l is = (
      heard,
      record {
        steady = heard.steady;
        came = ap (numbered n) kept.0 ∙ c.came;
        asking = has_stays (is_asked n) journal l c.asking;
        said = ap tells_aborts kept.1 ∙ c.said ∙ sym (told_stays o n journal l c.asking);
        last = last_now journal l ∙ ap (λ (z : Logged). closed_by z.event) is;
      },
    )
      where
        happened : l.event ≡ event.Cut x.no (puts_of x s) (By n) (is_told s ask x)
        happened = ap (λ (z : Logged). z.event) is

        kept : ((after s l).arrivals ≡ s.arrivals) × ((after s l).control ≡ s.control)
        kept = cut_keeps s l x.no (puts_of x s) n (is_told s ask x) happened

        owed : HeardAt o journal (told (event.Cut x.no (puts_of x s) (By n) (is_told s ask x)))
        owed = record {
          tells = λ asked command is known.
              subst (λ (z : Ask). is_told s ask x
              ≡ (told_aborts_at o n journal && not (is_same_nexus z.nexus command.nexus)))
              (sym (same_function o s journal n node ask asked c.steady c.came is))
              (subst (λ (z : Command). is_told s ask x ≡ (told_aborts_at o n journal && not (is_same_nexus ask.nexus z.nexus))) (sym (same_command o s journal x.no x.node x.command command c.steady (c.steady.known x hx) known))
              (ap (λ b. b && not (is_same_nexus ask.nexus x.command.nexus)) c.said));
          answers = tt;
          waits = tt;
          closes = tt;
        }

        heard : Heard o journal (writes l s)
        heard = plainly o s journal l (ap (λ (z : Logged). z.work) is) (ap (λ (z : Logged). is_plain z.event) is)
            (subst (HeardAt o journal) (sym is) owed) c.steady

    test : (x : Task) → Has s.tasks x → (t : Bool) →
        Heard o journal (cond t (says (event.Cut x.no (puts_of x s) (By n) (is_told s ask x)) s) (nothing s)) ×
        Cuts o n node ask (cond t (says (event.Cut x.no (puts_of x s) (By n) (is_told s ask x)) s) (nothing s)).state
        (journal ++ (cond t (says (event.Cut x.no (puts_of x s) (By n) (is_told s ask x)) s) (nothing s)).journal)
    test x hx true = cut x hx (told (event.Cut x.no (puts_of x s) (By n) (is_told s ask x))) refl
    test x hx false = still

    go : (found : Option Task) → task_of m s.tasks ≡ found →
        Heard o journal (cutting n ask found s) × Cuts o n node ask (cutting n ask found s).state
        (journal ++ (cutting n ask found s).journal)
    go None e = still
    go (Some x) e = test x (has_found m s.tasks x e).0 (is_hit ask x && is_here x.stage)

cuts_all : (o : Opening) (n : ℕ) (node : Node) (ask : Ask) (ms : List ℕ) (s : State) (journal : List Logged) →
    Cuts o n node ask s journal →
    Heard o journal (cutting_all n ask ms s) × (last_closed (journal ++ (cutting_all n ask ms s).journal) ≡ None)
cuts_all o n node ask [] s journal c =
    (stays o s journal c.steady, subst (λ j. last_closed j ≡ None) (sym (append-nil journal)) c.last)
cuts_all o n node ask (m ∷ ms) s journal c =
    let first : Turn = cutting n ask (task_of m s.tasks) s in
    let k = cuts_one o n node ask m s journal c in
    let r = cuts_all o n node ask ms first.state (journal ++ first.journal) k.1 in (
      then o journal first (cutting_all n ask ms) k.0 r.0,
      subst (λ j. last_closed j ≡ None)
          (append_assoc journal first.journal (cutting_all n ask ms first.state).journal) r.1,
    )

asks : (o : Opening) (s : State) (journal : List Logged) (n : ℕ) (node : Node) (ask : Ask) →
    numbered n s.arrivals ≡ Some (record { node = node; work = work.Ask ask }) → has (is_asked n) journal ≡ false →
    s.control ≡ (serial_disk o journal).control → last_closed journal ≡ None →
    Steady o s journal → Heard o journal (asking n ask s)
asks o s journal n node ask came new control last h = go (nat_le MOST_FUNCTIONS (length s.functions)) refl
  where
    rejected : MOST_FUNCTIONS ≤ length s.functions → Heard o journal (says (event.Closed n Rejected) s)
    rejected full = plainly o s journal (told (event.Closed n Rejected)) refl refl (record {
      tells = tt;
      answers =
          λ asked is. subst (λ (t : State). IsOutcomeOf (standing_of t) (has (is_asked n) journal) asked Rejected) h.at
          (subst (λ b. IsOutcomeOf (standing_of s) b asked Rejected) (sym new) (refl, full));
      waits = tt;
      closes = λ lower e. let k : None ≡ Some lower = sym last ∙ e in absurd (cc);
    }) h

    l : Logged
    l = told (event.Asked n)

    first : Turn
    first = says (event.Asked n) s

    taken : length s.functions < MOST_FUNCTIONS → Heard o journal first
    taken room = wrote o s journal l
        (record {
          tells = tt;
          answers = subst (λ (t : State). length t.functions < MOST_FUNCTIONS) h.at room;
          waits = tt;
          closes = tt;
        }) (steady_asked o s journal n node ask came new control h)

    up : length s.functions < MOST_FUNCTIONS → Heard o journal (taking_up n ask s)
    up room =
        let a : Heard o journal first = taken room in
        let kept = asked_keeps n node ask s came in
        let second : State → Turn = λ asked. cutting_all n ask (numbers_of s.tasks) asked in
        let b = cuts_all o n node ask (numbers_of s.tasks) first.state (journal ++ l ∷ []) (record {
          steady = a.steady;
          came = ap (numbered n) kept.0 ∙ came;
          asking = has_now (is_asked n) journal l (eq-eqb n n refl);
          said = ap tells_aborts (kept.1 ∙ control) ∙ sym (told_now o n journal l new (eq-eqb n n refl));
          last = last_now journal l;
        }) in
        let two : Turn = followed first second in
        let both : Heard o journal two = then o journal first second a b.0 in
        then o journal two (λ cut. closing (function_of n cut.functions) cut) both
        (closes o two.state (journal ++ two.journal) n []
        (below_none (journal ++ two.journal) (n ∷ [])
        (subst (λ j. last_closed j ≡ None) (append_assoc journal first.journal (second first.state).journal) b.1))
        (λ m i. absurd i) both.steady).0

    go : (t : Bool) → nat_le MOST_FUNCTIONS (length s.functions) ≡ t →
        Heard o journal (cond t (says (event.Closed n Rejected) s) (taking_up n ask s))
    go true e = rejected (leb-true MOST_FUNCTIONS (length s.functions) e)
    go false e = up (leb-false MOST_FUNCTIONS (length s.functions) e)

-- Works and messages come

enters : (o : Opening) (s : State) (journal : List Logged) (n : ℕ) (node : Node) (c : Command) →
    numbered n s.arrivals ≡ Some (record { node = node; work = work.Cmd c }) → Steady o s journal →
    Heard o journal (entering n c s)
enters o s journal n node c came h = go (turned_cause s c)
  where
    go : (cause : Option Reply) → Heard o journal (entering_with cause n s)
    go (Some reply) =
        plainly o s journal (replied (event.Turned n) reply) refl refl
        (record { tells = tt; answers = tt; waits = tt; closes = tt }) h
    go None =
        wrote o s journal (told (event.Enter n)) (record { tells = tt; answers = tt; waits = tt; closes = tt })
        (steady_entered o s journal n node c came h)

comes : (o : Opening) (s : State) (journal : List Logged) (n : ℕ) (node : Node) (w : KeptWork) → Steady o s journal →
    Heard o journal (writes (arrived n node w) s)
comes o s journal n node w h =
    wrote o s journal (arrived n node w) (record { tells = tt; answers = tt; waits = tt; closes = tt })
    (steady_came o s journal n node w h)

arrives : (o : Opening) (s : State) (journal : List Logged) (node : Node) (w : KeptWork) → Now NoneDue o s journal →
    Steady o s journal → Heard o journal (arriving_at node w (next_number s) s).turn
arrives o s journal node w now h =
    arriving_by (Heard o journal) node w n s (λ there. comes o s journal n node w h) (taken w)
  where
    n : ℕ
    n = next_number s

    taken : (w : KeptWork) → is_remote node ≡ false → Heard o journal (arriving_here node w n s).turn
    taken (work.Cmd c) here =
        let first : Turn = writes (arrived n node (work.Cmd c)) s in
        let k = comes o s journal n node (work.Cmd c) h in
        then o journal first (entering n c) k
        (enters o first.state (journal ++ first.journal) n node c (came_last s node (work.Cmd c)) k.steady)
    taken (work.Ask ask) here =
        let l : Logged = arrived n node (work.Ask ask) in
        let first : Turn = writes l s in
        let k = comes o s journal n node (work.Ask ask) h in
        then o journal first (asking n ask) k
        (asks o first.state (journal ++ first.journal) n node ask (came_last s node (work.Ask ask))
        (has_not (is_asked n) journal l (now.inv.frame.books.fresh n (inl (omega arith))).asking refl)
        (came_control n node (work.Ask ask) s ∙ now.inv.rules.control ∙ ap (λ (d : Disk). d.control)
        (sym (serial-same o journal l refl)))
        (last_now journal l) k.steady)

delivers_a : (o : Opening) (s : State) (journal : List Logged) (m : Message) (ms : List Message) → s.to_a ≡ m ∷ ms →
    Now NoneDue o s journal → Steady o s journal → Heard o journal (delivering_first A (m ∷ ms) s).turn
delivers_a o s journal m ms to now h = then o journal first (coming_to A m) k (go m.kind refl)
  where
    l : Logged
    l = told (event.Deliver A m.kind m.no)

    first : Turn
    first = says (event.Deliver A m.kind m.no) s

    t : State
    t = after s l

    k : Heard o journal first
    k = plainly o s journal l refl refl (record { tells = tt; answers = tt; waits = tt; closes = tt }) h

    still : Heard o (journal ++ l ∷ []) (nothing t)
    still = stays o t (journal ++ l ∷ []) k.steady

    takes : is_arrival m.kind ≡ true → (found : Option Arrival) → arrival_of m.no t ≡ found →
        Heard o (journal ++ l ∷ []) (coming_in m.no found t)
    takes comes_in None e = still
    takes comes_in (Some a) e = by a.work refl
      where
        by : (w : KeptWork) → a.work ≡ w → Heard o (journal ++ l ∷ []) (taking_in m.no w t)
        by (work.Cmd c) i =
            enters o t (journal ++ l ∷ []) m.no a.node c
            (e ∙ ap (λ w. Some (record { node = a.node; work = w })) i) k.steady
        by (work.Ask ask) i =
            asks o t (journal ++ l ∷ []) m.no a.node ask (e ∙ ap (λ w. Some (record { node = a.node; work = w })) i)
            (has_not (is_asked m.no) journal l
            (now.inv.frame.books.fresh m.no
            (inr (subst (λ q. IsAsk m.no q) (sym to) (inl (comes_in, refl))))).asking refl)
            (delivered_control A m.kind m.no s ∙ now.inv.rules.control ∙ ap (λ (d : Disk). d.control)
            (sym (serial-same o journal l refl)))
            (last_now journal l) k.steady

    shut : Heard o (journal ++ l ∷ []) (closing_all (open_numbers t) t)
    shut = closes_all o (open_numbers t) t (journal ++ l ∷ []) k.steady.sorted
        (below_none (journal ++ l ∷ []) (open_numbers t) (last_now journal l)) k.steady

    go : (i : Kind2) → m.kind ≡ i → Heard o (journal ++ l ∷ []) (coming_to_a i m t)
    go kind.Ask e = takes (ap is_arrival e) (arrival_of m.no t) refl
    go kind.Function e = takes (ap is_arrival e) (arrival_of m.no t) refl
    go kind.Finish e = shut
    go kind.Stopped e = shut
    go kind.Grant e = still
    go kind.Stop e = still
    go kind.Reply e = still
    go kind.Response e = still

delivers_b : (o : Opening) (s : State) (journal : List Logged) (m : Message) (ms : List Message) → s.to_b ≡ m ∷ ms →
    Steady o s journal → Heard o journal (delivering_first B (m ∷ ms) s).turn
delivers_b o s journal m ms to h = then o journal first (coming_to B m) k (go m.kind refl)
  where
    l : Logged
    l = told (event.Deliver B m.kind m.no)

    first : Turn
    first = says (event.Deliver B m.kind m.no) s

    t : State
    t = after s l

    k : Heard o journal first
    k = plainly o s journal l refl refl (record { tells = tt; answers = tt; waits = tt; closes = tt }) h

    j : List Logged
    j = journal ++ l ∷ []

    still : Heard o j (nothing t)
    still = stays o t j k.steady

    -- what the stop says
    says_so : m.kind ≡ kind.Stop → (x : Task) → Has t.tasks x → x.no ≡ m.no → (ask : Ask) (command : Command) →
        IsFunctionOf j m.by ask → IsCommandOf j x.no command →
        m.told ≡ (told_aborts_at o m.by j && not (is_same_nexus ask.nexus command.nexus))
    says_so is x hx named ask command function known = ⊎_elim
        (λ (c : (node : Node) × (c : Command) × (numbered m.by s.arrivals ≡ Some (record { node = node; work = work.Cmd c }))). absurd (no_function o t j m.by c.0 c.1 ask k.steady (ap (numbered m.by) (arrivals_keep s l refl) ∙ c.2) function))
        (λ (r : Telling o journal s.arrivals m).
        subst (λ (z : Ask). m.told ≡ (told_aborts_at o m.by j && not (is_same_nexus z.nexus command.nexus)))
        (sym (same_function o t j m.by r.node r.ask ask k.steady (ap (numbered m.by) (arrivals_keep s l refl) ∙ r.by) function))
        (subst (λ (z : Command). m.told ≡ (told_aborts_at o m.by j && not (is_same_nexus r.ask.nexus z.nexus)))
        (sym (same_command o t j x.no r.other r.command command k.steady (ap (λ i. numbered i t.arrivals) named ∙ ap (numbered m.no) (arrivals_keep s l refl) ∙ r.no) known))
        (r.told ∙ ap (λ b. b && not (is_same_nexus r.ask.nexus r.command.nexus))
        (sym (told_stays o m.by journal l r.asking)))))
        (h.stops m (subst (λ q. HasMessage q m) (sym to) (inl refl)) (ap is_stop is))

    stops : m.kind ≡ kind.Stop → (found : Option Task) → task_of m.no t.tasks ≡ found → Heard o j (stopping found m t)
    stops is None e = still
    stops is (Some x) e = at x.stage
      where
        at : (stage : Stage) → Heard o j (stopping_at stage x m t)
        at Waiting = still
        at (Here d g) = still
        at Granted = still
        at Over = still
        at (There d g) = plainly o t j (told (event.Cut x.no (puts_of x t) (By m.by) m.told)) refl refl
            (record {
              tells = says_so is x (has_found m.no t.tasks x e).0 (has_found m.no t.tasks x e).1;
              answers = tt;
              waits = tt;
              closes = tt;
            }) k.steady

    go : (i : Kind2) → m.kind ≡ i → Heard o j (coming_to_b i m t)
    go kind.Stop e = stops e (task_of m.no t.tasks) refl
    go kind.Ask e = still
    go kind.Function e = still
    go kind.Finish e = still
    go kind.Stopped e = still
    go kind.Grant e = still
    go kind.Reply e = still
    go kind.Response e = still

delivers : (o : Opening) (s : State) (journal : List Logged) (node : Node) → Now NoneDue o s journal →
    Steady o s journal → Heard o journal (delivering node s).turn
delivers o s journal node now h = go node (messages_to node s) refl
  where
    go : (at : Node) (ms : List Message) → messages_to at s ≡ ms → Heard o journal (delivering_first at ms s).turn
    go at [] e = stays o s journal h
    go A (m ∷ ms) e = delivers_a o s journal m ms e now h
    go B (m ∷ ms) e = delivers_b o s journal m ms e h

acts_heard : (o : Opening) (s : State) (journal : List Logged) (a : Act) (fault : Option ℕ) → Now NoneDue o s journal →
    Steady o s journal → Heard o journal (doing s a fault).turn
acts_heard o s journal (act.Arrive node w) fault now h = go (has_room_for w s)
  where
    go : (t : Bool) → Heard o journal
        (cond {A = Done} t (arriving_at node w (next_number s) s)
        (record { turn = nothing s; answer = answer.NoRoom w })).turn
    go true = arrives o s journal node w now h
    go false = stays o s journal h
acts_heard o s journal (act.Step number count) fault now h = steps o s journal number count fault now h
acts_heard o s journal (act.Deliver node) fault now h = delivers o s journal node now h
acts_heard o s journal (act.Next count) fault now h = go s.to_a s.to_b
  where
    next : (found : Option ℕ) → Heard o journal (stepping_next found count fault s).turn
    next None = stays o s journal h
    next (Some number) = steps o s journal number count fault now h

    go : (to_a to_b : List Message) → Heard o journal (doing_next to_a to_b count fault s).turn
    go (m ∷ ms) to_b = delivers o s journal A now h
    go [] (m ∷ ms) = delivers o s journal B now h
    go [] [] = next (next_step s)

-- All runs

opened_steady : (o : Opening) → Steady o (opened o) []
opened_steady o = record {
  at = (opened_so o).schedule.at;
  works = refl;
  known = λ x hx. absurd hx;
  asked = λ p hp. absurd hp;
  opened = λ n e. absurd (cc);
  sorted = tt;
  stops = λ m i is. absurd i;
}

pub heard_runs : (laws : Laws) (o : Opening) (journal : List Logged) → IsRun o journal → Each (HeardAt o) journal
heard_runs laws o journal run =
    (run_induction o (λ s es. IsFine n s × Now NoneDue o s es × Steady o s es × Each (HeardAt o) es)
    (fine_opened o, opened_so o, opened_steady o, tt)
    (λ s es a fault allowed h.
    let heard = acts_heard o s es a fault h.1 h.2 in (
      fine_act laws n s a fault h.0,
      acts_so laws o s es a fault h.1 (λ m. let k = h.0.single m in omega (arith, k)),
      heard.steady,
      each_append (HeardAt o) [] es (doing s a fault).turn.journal h.3 heard.each,
    )) journal run).3
  where
    n : ℕ
    n = length (opened o).blocks
