-- An act by which something happened writes an event.
use Rattle.std.proofs.Common.{◌≡◌, ℕ, zero, suc, ◌+◌, ◌≤◌, Bool, true, false, List, [], ◌∷◌, Option, Some, None, length}
use Rattle.std.proofs.Common.{take, drop, refl, sym, ap, ◌∙◌, arith, cond}
use Rattle.std.specs.Prelude.{◌≢◌, nat_le}
use Rattle.std.specs.List.{list_any}
use Rattle.std.proofs.lemmas.Bool.{both_ways, le-leb}
use Rattle.std.proofs.lemmas.List.{length-drop}
use Rattle.ct_word.specs.declared.names.Node.{Node}
use Rattle.ct_word.specs.declared.names.Node.TheVariants.{A, B}
use Rattle.ct_sense.specs.declared.reply.Reply.{Reply}
use Rattle.ct_plan.specs.declared.operation.BlockOp.{BlockOp}
use Rattle.ct_plan.specs.Cells.{Cells, Progress, performed}
use Rattle.ct_book.specs.declared.work.Work.TheVariants as work
use Rattle.ct_book.specs.declared.event.Logged.{Logged}
use Rattle.ct_book.specs.Journals.{KeptWork}
use Rattle.ct_exec.specs.Executions.{refusal_of, plan_in}
use Rattle.ct_machine.specs.declared.act.Act.{Act}
use Rattle.ct_machine.specs.declared.act.Act.TheVariants as act
use Rattle.ct_machine.specs.declared.act.Answer.TheVariants as answer
use Rattle.ct_machine.specs.declared.act.Opening.{Opening}
use Rattle.ct_machine.specs.States.{Stage, Waiting, Here, Granted, There, Over, Task, Message, State, task_of}
use Rattle.ct_plan.specs.Pieces.{tried}
use Rattle.ct_machine.specs.Acts.Turns.{Turn, nothing, followed}
use Rattle.ct_machine.specs.Acts.Moves.{moving_on, failing_if, moved_to, moving_from}
use Rattle.ct_machine.specs.Acts.Begins.{is_granted}
use Rattle.ct_machine.specs.Acts.Begins.{beginning_at, beginning}
use Rattle.ct_machine.specs.Acts.Answers.{Done}
use Rattle.ct_machine.specs.Acts.Arrivals.{next_number, has_room_for, arriving_at, arriving, arriving_here}
use Rattle.ct_machine.specs.Acts.Steps.{blocked_by, beginning_unless, stepping_at, is_sent, stepping}
use Rattle.ct_machine.specs.Acts.Messages.{delivering_first}
use Rattle.ct_machine.specs.Acts.Messages.{messages_to, delivering}
use Rattle.ct_machine.specs.Acts.Next.{next_step, stepping_next, doing_next}
use Rattle.ct_machine.specs.Acts.{doing, act_of}
use Rattle.ct_machine.specs.Runs.{replay, IsAllowed}
use Rattle.ct_machine.specs.Laws.Live.{is_void, ActsWrite}
use Rattle.ct_law.proofs.Cells.Blocks.{none_made}
use Rattle.ct_law.proofs.Events.Nodes.{arriving_by}

-- something was written
abbrev Writes : Turn → Type 0
Writes t = t.journal ≢ []

-- of a plan that isn't done there are operations left
some_left : (count done : ℕ) (plan : List BlockOp) → 1 ≤ count → nat_le (length plan) done ≡ false →
    take count (drop done plan) ≢ []
some_left count done plan positive left e = go count (drop done plan) refl positive e
  where
    go : (k : ℕ) (rest : List BlockOp) → drop done plan ≡ rest → 1 ≤ k → take k rest ≢ []
    go zero rest r p e = omega (arith, p)
    go (suc k) [] r p e =
        both_ways (nat_le (length plan) done) left
        (le-leb (length plan) done
        (let size = length-drop done plan in let none = ap length r in omega (arith, size, none)))
    go (suc k) (op ∷ rest) r p e = cc

-- no operation was tried, though there were some: the medium fails the first
fails_first : (operations : List BlockOp) (fault : Option ℕ) (x : Task) (plan : List BlockOp) (done : ℕ) (s : State) →
    operations ≢ [] → tried operations fault ≡ [] → Writes (failing_if x plan done operations fault s)
fails_first [] fault x plan done s some none = absurd (some refl)
fails_first (op ∷ ops) None x plan done s some none = absurd (some none)
fails_first (op ∷ ops) (Some zero) x plan done s some none = λ e. cc
fails_first (op ∷ ops) (Some (suc f)) x plan done s some none = absurd (cc)

pub moving_writes : (x : Task) (count : ℕ) (fault : Option ℕ) (done : ℕ) (got : List ℕ) (s : State) →
    1 ≤ count → Writes (moving_from x count fault done got s)
moving_writes x count fault done got s positive = go progress.made refl
  where
    plan : List BlockOp
    plan = plan_in (length s.blocks) x.command

    operations : List BlockOp
    operations = take count (drop done plan)

    here : Cells
    here = record { blocks = s.blocks; got = got }

    progress : Progress
    progress = performed x.command.out (tried operations fault) here

    last : Option ℕ → Bool → State → Turn
    last difference ended t =
        moved_to difference ended x plan (done + progress.made) progress.cells.got operations fault t

    ends : (difference : Option ℕ) (t : Bool) → nat_le (length plan) (done + progress.made) ≡ t → progress.made ≡ 0 →
        Writes (last difference t s)
    ends (Some offset) t e none = λ k. cc
    ends None true e none = λ k. cc
    ends None false e none =
        let still : done + progress.made ≡ done = omega (arith, none) in
        let some = some_left count done plan positive (ap (λ m. nat_le (length plan) m) (sym still) ∙ e) in
        fails_first operations fault x plan (done + progress.made) s some
        (none_made x.command.out (tried operations fault) here none)

    -- where none was made, nothing was written yet
    go : (m : ℕ) → progress.made ≡ m →
        Writes (followed (moving_on x.no m s) (last progress.difference (nat_le (length plan) (done + progress.made))))
    go zero e = ends progress.difference (nat_le (length plan) (done + progress.made)) refl e
    go (suc m) e = λ k. cc

begin_writes : (refused : Option Reply) (plan : List BlockOp) (x : Task) (count : ℕ) (fault : Option ℕ) (s : State) →
    Writes (beginning refused plan x count fault s)
begin_writes (Some reply) plan x count fault s e = cc
begin_writes None [] x count fault s e = cc
begin_writes None (op ∷ ops) x count fault s e = go (is_granted s.ha x.node) e
  where
    go : (t : Bool) → Writes (beginning_at t x count fault s)
    go true e = cc
    go false e = cc

-- what was done and answered: nothing happened, or something was written
abbrev Tells : Done → Type 0
Tells d = is_void d.answer ≡ false → Writes d.turn

step_tells : (found : Option Task) (number count : ℕ) (fault : Option ℕ) (s : State) → 1 ≤ count →
    Tells (stepping found number count fault s)
step_tells None number count fault s positive = go (list_any (is_sent number) s.to_a)
  where
    go : (t : Bool) → Tells (cond {A = Done} t (record { turn = nothing s; answer = answer.Away number })
        (record { turn = nothing s; answer = answer.Gone }))
    go true h = absurd (cc)
    go false h = absurd (cc)
step_tells (Some x) number count fault s positive = at x.stage
  where
    begins : (blocked : Option ℕ) → Tells (beginning_unless blocked x count fault s)
    begins (Some by) h = absurd (cc)
    begins None h =
        begin_writes (refusal_of s.control (length s.blocks) x.command)
        (plan_in (length s.blocks) x.command) x count fault s

    at : (stage : Stage) → Tells (stepping_at stage x count fault s)
    at Waiting h = begins (blocked_by s.functions s x) h
    at (Here done got) h = moving_writes x count fault done got s positive
    at Granted h = absurd (cc)
    at (There done got) h = moving_writes x count fault done got s positive
    at Over h = absurd (cc)

deliver_tells : (node : Node) (s : State) → Tells (delivering node s)
deliver_tells node s = go (messages_to node s)
  where
    go : (ms : List Message) → Tells (delivering_first node ms s)
    go [] h = absurd (cc)
    go (m ∷ ms) h = λ e. cc

arrive_tells : (node : Node) (w : KeptWork) (s : State) → Tells (arriving node w s)
arrive_tells node w s = go (has_room_for w s)
  where
    taken : (w : KeptWork) → Writes (arriving_here node w (next_number s) s).turn
    taken (work.Cmd c) e = cc
    taken (work.Ask ask) e = cc

    go : (t : Bool) → Tells (cond {A = Done} t (arriving_at node w (next_number s) s)
        (record { turn = nothing s; answer = answer.NoRoom w }))
    go true h = arriving_by Writes node w (next_number s) s (λ there e. cc) (λ here. taken w)
    go false h = absurd (cc)

act_tells : (o : Opening) (s : State) (a : Act) (fault : Option ℕ) → IsAllowed o a → Tells (doing s a fault)
act_tells o s (act.Arrive node w) fault allowed = arrive_tells node w s
act_tells o s (act.Step number count) fault allowed = step_tells (task_of number s.tasks) number count fault s allowed
act_tells o s (act.Deliver node) fault allowed = deliver_tells node s
act_tells o s (act.Next count) fault allowed = go s.to_a s.to_b
  where
    next : (found : Option ℕ) → Tells (stepping_next found count fault s)
    next None h = absurd (cc)
    next (Some number) h = step_tells (task_of number s.tasks) number count fault s allowed h

    go : (to_a to_b : List Message) → Tells (doing_next to_a to_b count fault s)
    go (m ∷ ms) to_b = deliver_tells A s
    go [] (m ∷ ms) = deliver_tells B s
    go [] [] = next (next_step s)

pub acts_write : (o : Opening) (journal : List Logged) → ActsWrite o journal
unfolding act_of
acts_write o journal a fault allowed h = act_tells o (replay o journal) a fault allowed h
