-- Runs: an induction on their acts, and what holds of every turn of an act, if it holds of the small turns.
use Rattle.std.proofs.Common.{◌≡◌, ℕ, zero, suc, ◌+◌, Bool, true, false, ◌&&◌, List, [], ◌∷◌, ◌++◌, Option, Some, None}
use Rattle.std.proofs.Common.{length, take, drop, refl, sym, ap, ◌∙◌, subst, cond, arith}
use Rattle.std.specs.Prelude.{fold, nat_le, slice_get}
use Rattle.std.specs.List.{All, list_any}
use Rattle.ct_word.specs.declared.limit.TheConstants.{MOST_FUNCTIONS}
use Rattle.ct_word.specs.declared.names.Node.{Node}
use Rattle.ct_word.specs.declared.names.Node.TheVariants.{A, B}
use Rattle.ct_sense.specs.declared.reply.Reply.{Reply}
use Rattle.ct_tmf.specs.declared.function.Ask.{Ask}
use Rattle.ct_tmf.specs.declared.function.Outcome.TheVariants.{Rejected}
use Rattle.ct_plan.specs.declared.operation.BlockOp.{BlockOp}
use Rattle.ct_plan.specs.Cells.{performed}
use Rattle.ct_book.specs.declared.work.Work.TheVariants as work
use Rattle.ct_book.specs.declared.event.Event.{Event}
use Rattle.ct_book.specs.declared.event.Event.TheVariants as event
use Rattle.ct_book.specs.declared.event.Kind2.{Kind2}
use Rattle.ct_book.specs.declared.event.Kind2.TheVariants as kind
use Rattle.ct_book.specs.declared.event.Why.TheVariants.{By}
use Rattle.ct_book.specs.declared.event.Logged.{Logged}
use Rattle.ct_book.specs.Journals.{KeptWork, arrived}
use Rattle.ct_exec.specs.Controls.{tells_aborts}
use Rattle.ct_exec.specs.Executions.{execute, refusal_of, plan_in}
use Rattle.ct_machine.specs.declared.act.Act.{Act}
use Rattle.ct_machine.specs.declared.act.Act.TheVariants as act
use Rattle.ct_machine.specs.declared.act.Answer.TheVariants as answer
use Rattle.ct_machine.specs.declared.act.Opening.{Opening}
use Rattle.ct_machine.specs.States.{Stage, Waiting, Here, Granted, There, Over, Task, Open, Message, Arrival, State}
use Rattle.ct_machine.specs.States.{opened, disk_of, arrival_of, task_of, function_of, is_here}
use Rattle.ct_machine.specs.States.{is_remote}
use Rattle.ct_machine.specs.Events.{after, after_events}
use Rattle.ct_machine.specs.Events.Ends.{is_cleared}
use Rattle.ct_machine.specs.Events.Functions.{is_hit, is_told}
use Rattle.ct_plan.specs.Pieces.{tried}
use Rattle.ct_machine.specs.Acts.Turns.{Turn, nothing, writes, says, followed}
use Rattle.ct_machine.specs.Acts.Entries.{turned_cause, entering_with, entering}
use Rattle.ct_machine.specs.Acts.Functions.{puts_of, cutting, numbers_of, cutting_all, closing_if, closing}
use Rattle.ct_machine.specs.Acts.Functions.{open_numbers, closing_all, taking_up, asking}
use Rattle.ct_machine.specs.Acts.Moves.{moving_on, failing, failing_if}
use Rattle.ct_machine.specs.Acts.Moves.{moved_to, moving_from, moving}
use Rattle.ct_machine.specs.Acts.Begins.{clearing, clearing_all, ending_at_once, is_granted}
use Rattle.ct_machine.specs.Acts.Begins.{beginning_at, beginning}
use Rattle.ct_machine.specs.Acts.Answers.{Done}
use Rattle.ct_machine.specs.Acts.Arrivals.{next_number, has_room_for, arriving_at, arriving, arriving_here}
use Rattle.ct_machine.specs.Acts.Steps.{blocked_by, beginning_unless, stepping_at, is_sent, stepping}
use Rattle.ct_machine.specs.Acts.Messages.{taking_in, coming_in}
use Rattle.ct_machine.specs.Acts.Messages.{coming_to_a, stopping_at, stopping, coming_to_b, coming_to, delivering_first}
use Rattle.ct_machine.specs.Acts.Messages.{messages_to, delivering}
use Rattle.ct_machine.specs.Acts.Next.{next_step, stepping_next, doing_next}
use Rattle.ct_machine.specs.Acts.{doing, act_of}
use Rattle.ct_machine.specs.Runs.{replay, IsAllowed, Move, written, journal_of, IsRun}
use Rattle.ct_law.proofs.Journals.Growing.{replay-append}
use Rattle.ct_law.proofs.Events.Nodes.{arriving_by}

-- an event that no arrival or message brings
abbrev pub is_free : Event → Bool
is_free (event.Came number node line) = false
is_free (event.Enter number) = false
is_free (event.Deliver node kind number) = false
is_free (event.Turned number) = true
is_free (event.Begun number) = true
is_free (event.Granted number) = true
is_free (event.Moved number count) = true
is_free (event.Ended number) = true
is_free (event.Cut number puts why told) = true
is_free (event.Asked number) = true
is_free (event.Closed number outcome) = true

-- Q holds of small turns from any state, and of one turn after another
pub record Turning (Q : State → Turn → Type 0) : Type 0 where
  pub none : (s : State) → Q s (nothing s)
  pub one : (s : State) (l : Logged) → is_free l.event ≡ true → Q s (writes l s)
  pub both : (s : State) (t : Turn) (next : State → Turn) → Q s t → Q t.state (next t.state) → Q s (followed t next)

-- then it holds of these turns

pub cuts : (Q : State → Turn → Type 0) → Turning Q → (by : ℕ) (ask : Ask) (found : Option Task) (s : State) →
    Q s (cutting by ask found s)
cuts Q h by ask None s = h.none s
cuts Q h by ask (Some task) s = go (is_hit ask task && is_here task.stage)
  where
    go : (t : Bool) → Q s (cond t (says (event.Cut task.no (puts_of task s) (By by) (is_told s ask task)) s)
        (nothing s))
    go true = h.one s _ refl
    go false = h.none s

pub cuts_all : (Q : State → Turn → Type 0) → Turning Q → (by : ℕ) (ask : Ask) (numbers : List ℕ) (s : State) →
    Q s (cutting_all by ask numbers s)
cuts_all Q h by ask [] s = h.none s
cuts_all Q h by ask (number ∷ numbers) s =
    let first : Turn = cutting by ask (task_of number s.tasks) s in
    h.both s first (cutting_all by ask numbers) (cuts Q h by ask (task_of number s.tasks) s)
    (cuts_all Q h by ask numbers first.state)

closes_if : (Q : State → Turn → Type 0) → Turning Q → (awaits : List ℕ) (function : Open) (s : State) →
    Q s (closing_if awaits function s)
closes_if Q h [] function s = h.one s _ refl
closes_if Q h (number ∷ numbers) function s = h.none s

pub closes : (Q : State → Turn → Type 0) → Turning Q → (found : Option Open) (s : State) → Q s (closing found s)
closes Q h None s = h.none s
closes Q h (Some function) s = closes_if Q h function.awaits function s

pub closes_all : (Q : State → Turn → Type 0) → Turning Q → (numbers : List ℕ) (s : State) → Q s (closing_all numbers s)
closes_all Q h [] s = h.none s
closes_all Q h (number ∷ numbers) s =
    let first : Turn = closing (function_of number s.functions) s in
    h.both s first (closing_all numbers) (closes Q h (function_of number s.functions) s)
    (closes_all Q h numbers first.state)

pub takes_up : (Q : State → Turn → Type 0) → Turning Q → (number : ℕ) (ask : Ask) (s : State) →
    Q s (taking_up number ask s)
takes_up Q h number ask s =
    let first : Turn = says (event.Asked number) s in
    let second : State → Turn = λ asked. cutting_all number ask (numbers_of s.tasks) asked in
    let two : Turn = followed first second in
    h.both s two (λ cut. closing (function_of number cut.functions) cut)
    (h.both s first second (h.one s _ refl) (cuts_all Q h number ask (numbers_of s.tasks) first.state))
    (closes Q h (function_of number two.state.functions) two.state)

pub asks : (Q : State → Turn → Type 0) → Turning Q → (number : ℕ) (ask : Ask) (s : State) → Q s (asking number ask s)
asks Q h number ask s = go (nat_le MOST_FUNCTIONS (length s.functions))
  where
    go : (t : Bool) → Q s (cond t (says (event.Closed number Rejected) s) (taking_up number ask s))
    go true = h.one s _ refl
    go false = takes_up Q h number ask s

moves_on : (Q : State → Turn → Type 0) → Turning Q → (number count : ℕ) (s : State) → Q s (moving_on number count s)
moves_on Q h number zero s = h.none s
moves_on Q h number (suc count) s = h.one s _ refl

fails : (Q : State → Turn → Type 0) → Turning Q →
    (task : Task) (plan : List BlockOp) (done : ℕ) (found : Option BlockOp) (s : State) →
    Q s (failing task plan done found s)
fails Q h task plan done None s = h.none s
fails Q h task plan done (Some operation) s = h.one s _ refl

fails_if : (Q : State → Turn → Type 0) → Turning Q →
    (task : Task) (plan : List BlockOp) (done : ℕ) (operations : List BlockOp) (fault : Option ℕ) (s : State) →
    Q s (failing_if task plan done operations fault s)
fails_if Q h task plan done operations None s = h.none s
fails_if Q h task plan done operations (Some fault) s = fails Q h task plan done (slice_get operations fault) s

moves_to : (Q : State → Turn → Type 0) → Turning Q →
    (difference : Option ℕ) (ended : Bool) (task : Task) (plan : List BlockOp) (done : ℕ) (got : List ℕ)
    (operations : List BlockOp) (fault : Option ℕ) (s : State) →
    Q s (moved_to difference ended task plan done got operations fault s)
moves_to Q h (Some offset) ended task plan done got operations fault s = h.one s _ refl
moves_to Q h None true task plan done got operations fault s = h.one s _ refl
moves_to Q h None false task plan done got operations fault s = fails_if Q h task plan done operations fault s

pub moves_from : (Q : State → Turn → Type 0) → Turning Q →
    (task : Task) (count : ℕ) (fault : Option ℕ) (done : ℕ) (got : List ℕ) (s : State) →
    Q s (moving_from task count fault done got s)
moves_from Q h task count fault done got s =
    let plan = plan_in (length s.blocks) task.command in
    let operations = take count (drop done plan) in
    let progress = performed task.command.out (tried operations fault) (record { blocks = s.blocks; got = got }) in
    let done' = done + progress.made in
    let first : Turn = moving_on task.no progress.made s in
    h.both s first (moved_to progress.difference
    (nat_le (length plan) done') task plan done' progress.cells.got operations fault)
    (moves_on Q h task.no progress.made s)
    (moves_to Q h progress.difference
    (nat_le (length plan) done') task plan done' progress.cells.got operations fault first.state)

pub moves : (Q : State → Turn → Type 0) → Turning Q →
    (stage : Stage) (task : Task) (count : ℕ) (fault : Option ℕ) (s : State) → Q s (moving stage task count fault s)
moves Q h (Here done got) task count fault s = moves_from Q h task count fault done got s
moves Q h (There done got) task count fault s = moves_from Q h task count fault done got s
moves Q h Waiting task count fault s = h.none s
moves Q h Granted task count fault s = h.none s
moves Q h Over task count fault s = h.none s

clears : (Q : State → Turn → Type 0) → Turning Q → (by : ℕ) (cleared : List Bool) (found : Option Task) (s : State) →
    Q s (clearing by cleared found s)
clears Q h by cleared None s = h.none s
clears Q h by cleared (Some task) s = go (is_cleared cleared task)
  where
    go : (t : Bool) → Q s (cond t (says (event.Cut task.no 0 (By by) (tells_aborts s.control)) s) (nothing s))
    go true = h.one s _ refl
    go false = h.none s

pub clears_all : (Q : State → Turn → Type 0) → Turning Q →
    (by : ℕ) (cleared : List Bool) (numbers : List ℕ) (s : State) → Q s (clearing_all by cleared numbers s)
clears_all Q h by cleared [] s = h.none s
clears_all Q h by cleared (number ∷ numbers) s =
    let first : Turn = clearing by cleared (task_of number s.tasks) s in
    h.both s first (clearing_all by cleared numbers) (clears Q h by cleared (task_of number s.tasks) s)
    (clears_all Q h by cleared numbers first.state)

pub ends_at_once : (Q : State → Turn → Type 0) → Turning Q → (task : Task) (s : State) → Q s (ending_at_once task s)
ends_at_once Q h task s =
    let execution = execute (disk_of s) task.command in
    let ended : State = after s (record { event = event.Ended task.no; work = None; reply = Some execution.reply }) in
    h.both s _ (λ ended. clearing_all task.no execution.cleared (numbers_of ended.tasks) ended) (h.one s _ refl)
    (clears_all Q h task.no execution.cleared (numbers_of ended.tasks) ended)

begins_at : (Q : State → Turn → Type 0) → Turning Q →
    (granted : Bool) (task : Task) (count : ℕ) (fault : Option ℕ) (s : State) →
    Q s (beginning_at granted task count fault s)
begins_at Q h true task count fault s = h.one s _ refl
begins_at Q h false task count fault s =
    let first : Turn = says (event.Begun task.no) s in
    h.both s first (moving_from task count fault 0 []) (h.one s _ refl)
    (moves_from Q h task count fault 0 [] first.state)

pub begins : (Q : State → Turn → Type 0) → Turning Q →
    (refused : Option Reply) (plan : List BlockOp) (task : Task) (count : ℕ) (fault : Option ℕ) (s : State) →
    Q s (beginning refused plan task count fault s)
begins Q h (Some reply) plan task count fault s = ends_at_once Q h task s
begins Q h None [] task count fault s = ends_at_once Q h task s
begins Q h None (operation ∷ operations) task count fault s =
    begins_at Q h (is_granted s.ha task.node) task count fault s

begins_unless : (Q : State → Turn → Type 0) → Turning Q →
    (blocked : Option ℕ) (task : Task) (count : ℕ) (fault : Option ℕ) (s : State) →
    Q s (beginning_unless blocked task count fault s).turn
begins_unless Q h (Some by) task count fault s = h.none s
begins_unless Q h None task count fault s =
    begins Q h (refusal_of s.control (length s.blocks) task.command)
    (plan_in (length s.blocks) task.command) task count fault s

steps_at : (Q : State → Turn → Type 0) → Turning Q →
    (stage : Stage) (task : Task) (count : ℕ) (fault : Option ℕ) (s : State) →
    Q s (stepping_at stage task count fault s).turn
steps_at Q h Waiting task count fault s = begins_unless Q h (blocked_by s.functions s task) task count fault s
steps_at Q h (Here done got) task count fault s = moves_from Q h task count fault done got s
steps_at Q h (There done got) task count fault s = moves_from Q h task count fault done got s
steps_at Q h Granted task count fault s = h.none s
steps_at Q h Over task count fault s = h.none s

pub steps : (Q : State → Turn → Type 0) → Turning Q →
    (found : Option Task) (number count : ℕ) (fault : Option ℕ) (s : State) →
    Q s (stepping found number count fault s).turn
steps Q h None number count fault s = go (list_any (is_sent number) s.to_a)
  where
    go : (t : Bool) → Q s (cond {A = Done} t (record { turn = nothing s; answer = answer.Away number })
        (record { turn = nothing s; answer = answer.Gone })).turn
    go true = h.none s
    go false = h.none s
steps Q h (Some task) number count fault s = steps_at Q h task.stage task count fault s

pub stops : (Q : State → Turn → Type 0) → Turning Q → (found : Option Task) (m : Message) (s : State) →
    Q s (stopping found m s)
stops Q h None m s = h.none s
stops Q h (Some task) m s = go task.stage
  where
    go : (stage : Stage) → Q s (stopping_at stage task m s)
    go (There done got) = h.one s _ refl
    go Waiting = h.none s
    go (Here done got) = h.none s
    go Granted = h.none s
    go Over = h.none s

pub comes_to_b : (Q : State → Turn → Type 0) → Turning Q → (kind : Kind2) (m : Message) (s : State) →
    Q s (coming_to_b kind m s)
comes_to_b Q h kind.Stop m s = stops Q h (task_of m.no s.tasks) m s
comes_to_b Q h kind.Ask m s = h.none s
comes_to_b Q h kind.Function m s = h.none s
comes_to_b Q h kind.Finish m s = h.none s
comes_to_b Q h kind.Stopped m s = h.none s
comes_to_b Q h kind.Grant m s = h.none s
comes_to_b Q h kind.Reply m s = h.none s
comes_to_b Q h kind.Response m s = h.none s

-- of every act, if it holds of arrivals and deliveries
pub record Acting (Q : State → Turn → Type 0) : Type 0 where
  pub turning : Turning Q
  pub came : (s : State) (node : Node) (w : KeptWork) → has_room_for w s ≡ true →
      Q s (arriving_at node w (next_number s) s).turn
  pub come : (s : State) (node : Node) (m : Message) (ms : List Message) → messages_to node s ≡ m ∷ ms →
      Q s (delivering_first node (m ∷ ms) s).turn

arrives : (Q : State → Turn → Type 0) → Acting Q → (node : Node) (w : KeptWork) (s : State) →
    Q s (arriving node w s).turn
arrives Q h node w s = go (has_room_for w s) refl
  where
    go : (t : Bool) → has_room_for w s ≡ t →
        Q s (cond {A = Done} t (arriving_at node w (next_number s) s)
        (record { turn = nothing s; answer = answer.NoRoom w })).turn
    go true e = h.came s node w e
    go false e = h.turning.none s

delivers : (Q : State → Turn → Type 0) → Acting Q → (node : Node) (s : State) → Q s (delivering node s).turn
delivers Q h node s = go (messages_to node s) refl
  where
    go : (ms : List Message) → messages_to node s ≡ ms → Q s (delivering_first node ms s).turn
    go [] e = h.turning.none s
    go (m ∷ ms) e = h.come s node m ms e

steps_next : (Q : State → Turn → Type 0) → Turning Q → (next : Option ℕ) (count : ℕ) (fault : Option ℕ) (s : State) →
    Q s (stepping_next next count fault s).turn
steps_next Q h None count fault s = h.none s
steps_next Q h (Some number) count fault s = steps Q h (task_of number s.tasks) number count fault s

pub acts : (Q : State → Turn → Type 0) → Acting Q → (s : State) (a : Act) (fault : Option ℕ) →
    Q s (doing s a fault).turn
acts Q h s (act.Arrive node w) fault = arrives Q h node w s
acts Q h s (act.Step number count) fault = steps Q h.turning (task_of number s.tasks) number count fault s
acts Q h s (act.Deliver node) fault = delivers Q h node s
acts Q h s (act.Next count) fault = go s.to_a s.to_b
  where
    go : (to_a to_b : List Message) → Q s (doing_next to_a to_b count fault s).turn
    go (m ∷ ms) to_b = delivers Q h A s
    go [] (m ∷ ms) = delivers Q h B s
    go [] [] = steps_next Q h.turning (next_step s) count fault s

-- A turn's state is the state after its events

abbrev pub Leads : State → Turn → Type 0
Leads s t = t.state ≡ after_events s t.journal

events_append : (s : State) (es fs : List Logged) → after_events s (es ++ fs) ≡ after_events (after_events s es) fs
events_append s [] fs = refl
events_append s (e ∷ es) fs = events_append (after s e) es fs

leads_both : (s : State) (t : Turn) (next : State → Turn) → Leads s t → Leads t.state (next t.state) →
    Leads s (followed t next)
leads_both s t next a b =
    b ∙ ap (λ u. after_events u (next t.state).journal) a ∙ sym (events_append s t.journal (next t.state).journal)

leads : Turning Leads
leads = record { none = λ s. refl; one = λ s l e. refl; both = leads_both }

leads_entering : (number : ℕ) (refused : Option Reply) (s : State) → Leads s (entering_with refused number s)
leads_entering number (Some reply) s = refl
leads_entering number None s = refl

leads_in : (number : ℕ) (w : KeptWork) (s : State) → Leads s (taking_in number w s)
leads_in number (work.Cmd command) s = leads_entering number (turned_cause s command) s
leads_in number (work.Ask ask) s = asks Leads leads number ask s

leads_coming : (number : ℕ) (found : Option Arrival) (s : State) → Leads s (coming_in number found s)
leads_coming number None s = refl
leads_coming number (Some arrival) s = leads_in number arrival.work s

leads_a : (kind : Kind2) (m : Message) (s : State) → Leads s (coming_to_a kind m s)
leads_a kind.Ask m s = leads_coming m.no (arrival_of m.no s) s
leads_a kind.Function m s = leads_coming m.no (arrival_of m.no s) s
leads_a kind.Finish m s = closes_all Leads leads (open_numbers s) s
leads_a kind.Stopped m s = closes_all Leads leads (open_numbers s) s
leads_a kind.Grant m s = refl
leads_a kind.Stop m s = refl
leads_a kind.Reply m s = refl
leads_a kind.Response m s = refl

leads_to : (node : Node) (m : Message) (s : State) → Leads s (coming_to node m s)
leads_to A m s = leads_a m.kind m s
leads_to B m s = comes_to_b Leads leads m.kind m s

leads_came : (s : State) (node : Node) (w : KeptWork) → Leads s (arriving_at node w (next_number s) s).turn
leads_came s node w = arriving_by (Leads s) node w (next_number s) s (λ there. refl) (taken w)
  where
    taken : (w : KeptWork) → is_remote node ≡ false → Leads s (arriving_here node w (next_number s) s).turn
    taken (work.Cmd command) here =
        let first : Turn = writes (arrived (next_number s) node (work.Cmd command)) s in
        leads_both s first (entering (next_number s) command) refl
        (leads_entering (next_number s) (turned_cause first.state command) first.state)
    taken (work.Ask ask) here =
        let first : Turn = writes (arrived (next_number s) node (work.Ask ask)) s in
        leads_both s first (asking (next_number s) ask) refl (asks Leads leads (next_number s) ask first.state)

pub doing-state : (s : State) (a : Act) (fault : Option ℕ) →
    (doing s a fault).turn.state ≡ after_events s (doing s a fault).turn.journal
doing-state s a fault = acts Leads (record {
  turning = leads;
  came = λ s node w e. leads_came s node w;
  come = λ s node m ms e.
      let first : Turn = says (event.Deliver node m.kind m.no) s in
      leads_both s first (coming_to node m) refl (leads_to node m first.state);
}) s a fault

-- What holds at the opening, and what every act that can come keeps, holds of all runs

act-journal : (s : State) (a : Act) (fault : Option ℕ) → (act_of s a fault).journal ≡ (doing s a fault).turn.journal
unfolding act_of
act-journal s a fault = refl

-- the state after an act behind a journal
pub replay-act : (o : Opening) (journal : List Logged) (a : Act) (fault : Option ℕ) →
    replay o (journal ++ (doing (replay o journal) a fault).turn.journal)
    ≡ (doing (replay o journal) a fault).turn.state
replay-act o journal a fault =
    replay-append o journal (doing (replay o journal) a fault).turn.journal ∙ sym
    (doing-state (replay o journal) a fault)

opened-replay : (o : Opening) → opened o ≡ replay o []
unfolding replay
opened-replay o = refl

abbrev pub KeptBy : (o : Opening) → (State → List Logged → Type 0) → Type 0
KeptBy o P = (s : State) (journal : List Logged) (a : Act) (fault : Option ℕ) → IsAllowed o a → P s journal →
    P (doing s a fault).turn.state (journal ++ (doing s a fault).turn.journal)

run_moves : (o : Opening) (P : State → List Logged → Type 0) → KeptBy o P →
    (moves : List Move) (journal : List Logged) → All (λ (move : Move). IsAllowed o move.act) moves →
    P (replay o journal) journal →
    P (replay o (fold (written o) journal moves)) (fold (written o) journal moves)
run_moves o P keeps [] journal allowed p = p
run_moves o P keeps (move ∷ moves) journal allowed p =
    let s : State = replay o journal in
    let same : (act_of s move.act move.fault).journal ≡ (doing s move.act move.fault).turn.journal =
    act-journal s move.act move.fault in
    let q : P (replay o (journal ++ (doing s move.act move.fault).turn.journal))
    (journal ++ (doing s move.act move.fault).turn.journal) =
    subst (λ t. P t (journal ++ (doing s move.act move.fault).turn.journal))
    (sym (replay-act o journal move.act move.fault))
    (keeps s journal move.act move.fault (allowed 0 move (omega arith)) p) in
    run_moves o P keeps moves (written o journal move) (λ k d within. allowed (suc k) d (omega (arith, within)))
    (subst (λ j. P (replay o (journal ++ j)) (journal ++ j)) (sym same) q)

pub run_induction : (o : Opening) (P : State → List Logged → Type 0) → P (opened o) [] → KeptBy o P →
    (journal : List Logged) → IsRun o journal → P (replay o journal) journal
unfolding journal_of
run_induction o P first keeps journal run =
    subst (λ j. P (replay o j) j) (sym run.made_by)
    (run_moves o P keeps run.moves [] run.allowed (subst (λ s. P s []) (opened-replay o) first))
