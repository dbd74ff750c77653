-- `Next` does something where it isn't idle, and where it is idle all is quiet.
use Rattle.std.proofs.Common.{◌≡◌, ℕ, Bool, true, false, not, List, [], ◌∷◌, inl, inr, Option, Some, None, length, map}
use Rattle.std.proofs.Common.{refl, sym, ap, ◌∙◌, subst, cond}
use Rattle.std.specs.Prelude.{option_map, is_none}
use Rattle.std.specs.List.{find, list_any}
use Rattle.std.proofs.lemmas.Bool.{and_parts}
use Rattle.std.proofs.lemmas.Option.{same_Some}
use Rattle.ct_word.specs.declared.names.Node.{Node}
use Rattle.ct_word.specs.declared.names.Node.TheVariants.{A, B}
use Rattle.ct_matrix.specs.declared.held.HeldCommand.{HeldCommand}
use Rattle.ct_matrix.specs.Queues.{blocker_of, is_ready, number_of, next_ready_of}
use Rattle.ct_book.specs.declared.event.Logged.{Logged}
use Rattle.ct_machine.specs.declared.act.Act.TheVariants as act
use Rattle.ct_machine.specs.declared.act.Answer.{Answer}
use Rattle.ct_machine.specs.declared.act.Answer.TheVariants as answer
use Rattle.ct_machine.specs.declared.act.Opening.{Opening}
use Rattle.ct_machine.specs.States.{Stage, Waiting, Here, Granted, There, Over, Task, Message, State, opened}
use Rattle.ct_machine.specs.States.{arrival_of, task_of, is_waiting, is_moving, has_begun, held_of, task_set_of}
use Rattle.ct_machine.specs.Acts.Next.{next_step, first_moving, stepping_next, doing_next}
use Rattle.ct_machine.specs.Acts.Answers.{ends, line_by, moved_answer, first_some}
use Rattle.ct_machine.specs.Acts.Steps.{blocked_by, beginning_unless, stepping_at, stepping}
use Rattle.ct_machine.specs.Acts.Messages.{delivering_first, messages_to, delivering}
use Rattle.ct_machine.specs.Acts.{act_of}
use Rattle.ct_machine.specs.Runs.{replay, IsRun}
use Rattle.ct_machine.specs.Laws.Once.{IsQuiet}
use Rattle.ct_machine.specs.Laws.Live.{is_void}
use Rattle.ct_law.proofs.Lists.Tasks.{Has}
use Rattle.ct_law.proofs.Cells.Held.{IsSingle}
use Rattle.ct_law.proofs.Walks.Turns.{found_of}
use Rattle.ct_law.proofs.Acts.Sends.{fine_single}
use Rattle.ct_law.proofs.Rows.Commands.{laws}
use Rattle.ct_law.proofs.Functions.Awaits.{none_waits}
use Rattle.ct_law.proofs.Acts.Live.{fine_run, no_step, steps_busy, delivers_busy}

-- something was done, or there is nothing to do
abbrev IsBusy : Answer → Type 0
IsBusy said = is_void said ≡ true → said ≡ answer.Idle

found_held : (n : ℕ) (p : HeldCommand → Bool) (q : List Task) (c : HeldCommand) → find p (map (held_of n) q) ≡ Some c →
    (x : Task) × Has q x × (held_of n x ≡ c) × (p c ≡ true)
found_held n p [] c e = absurd (cc)
found_held n p (x ∷ xs) c e = go (p (held_of n x)) refl e (found_held n p xs c)
  where
    go : (t : Bool) → p (held_of n x) ≡ t → cond t (Some (held_of n x)) (find p (map (held_of n) xs)) ≡ Some c →
        (find p (map (held_of n) xs) ≡ Some c → (y : Task) × Has xs y × (held_of n y ≡ c) × (p c ≡ true)) →
        (y : Task) × Has (x ∷ xs) y × (held_of n y ≡ c) × (p c ≡ true)
    go true k e rec = let same : held_of n x ≡ c = same_Some _ _ e in
        (x, inl refl, same, subst (λ (d : HeldCommand). p d ≡ true) same k)
    go false k e rec = let r = rec e in (r.0, inr r.1, r.2, r.3)

found_moving : (q : List Task) (number : ℕ) → first_moving q ≡ Some number →
    (x : Task) × Has q x × (x.no ≡ number) × (is_moving x.stage ≡ true)
found_moving [] number e = absurd (cc)
found_moving (x ∷ xs) number e = go (is_moving x.stage) refl e (found_moving xs number)
  where
    go : (t : Bool) → is_moving x.stage ≡ t →
        option_map (λ (task : Task). task.no) (cond t (Some x) (find (λ (task : Task). is_moving task.stage) xs))
        ≡ Some number → (first_moving xs ≡ Some number →
        (y : Task) × Has xs y × (y.no ≡ number) × (is_moving y.stage ≡ true)) → (y : Task) × Has (x ∷ xs) y
        × (y.no ≡ number) × (is_moving y.stage ≡ true)
    go true k e rec = (x, inl refl, same_Some _ _ e, k)
    go false k e rec = let r = rec e in (r.0, inr r.1, r.2, r.3)

moved_busy : (number : ℕ) (s : State) (journal : List Logged) → IsBusy (moved_answer number s journal)
moved_busy number s journal h = go (list_any (λ (logged : Logged). ends number logged.event) journal) h
  where
    go : (t : Bool) → is_void (cond t (answer.Ended number (line_by (arrival_of number s))) (answer.Moved number))
        ≡ true → cond t (answer.Ended number (line_by (arrival_of number s))) (answer.Moved number) ≡ answer.Idle
    go true h = absurd (cc)
    go false h = absurd (cc)

-- a command that waits for nothing
waiting_busy : (s : State) (x : Task) (count : ℕ) (fault : Option ℕ) → blocked_by s.functions s x ≡ None →
    IsBusy (stepping_at Waiting x count fault s).answer
waiting_busy s x count fault e = go (blocked_by s.functions s x) e
  where
    go : (blocked : Option ℕ) → blocked ≡ None → IsBusy (beginning_unless blocked x count fault s).answer
    go None e = moved_busy x.no s (beginning_unless None x count fault s).turn.journal
    go (Some by) e = absurd (cc)

moving_busy : (s : State) (x : Task) (count : ℕ) (fault : Option ℕ) (stage : Stage) → is_moving stage ≡ true →
    IsBusy (stepping_at stage x count fault s).answer
moving_busy s x count fault (Here done got) e =
    moved_busy x.no s (stepping_at (Here done got) x count fault s).turn.journal
moving_busy s x count fault (There done got) e =
    moved_busy x.no s (stepping_at (There done got) x count fault s).turn.journal
moving_busy s x count fault Waiting e = absurd (cc)
moving_busy s x count fault Granted e = absurd (cc)
moving_busy s x count fault Over e = absurd (cc)

step_busy : (s : State) (x : Task) (number count : ℕ) (fault : Option ℕ) → IsSingle s.tasks → Has s.tasks x →
    x.no ≡ number → IsBusy (stepping_at x.stage x count fault s).answer →
    IsBusy (stepping (task_of number s.tasks) number count fault s).answer
step_busy s x number count fault single hx e h =
    subst (λ (found : Option Task). IsBusy (stepping found number count fault s).answer)
    (sym (ap (λ n. task_of n s.tasks) (sym e) ∙ found_of s.tasks x single hx)) h

next_ready : (s : State) (number : ℕ) → next_ready_of (task_set_of s) ≡ Some number →
    (x : Task) × Has s.tasks x × (x.no ≡ number) × (is_waiting x.stage ≡ true)
    × (blocker_of (task_set_of s) (held_of (length s.blocks) x) ≡ None)
unfolding next_ready_of
next_ready s number e = go (find (is_ready (task_set_of s)) (map (held_of (length s.blocks)) s.tasks)) refl e
  where
    waits : (stage : Stage) → not (has_begun stage) ≡ true → is_waiting stage ≡ true
    waits stage k = go (is_waiting stage) k
      where
        go : (t : Bool) → not (not t) ≡ true → t ≡ true
        go true k = refl
        go false k = absurd (cc)

    none : (o : Option ℕ) → is_none o ≡ true → o ≡ None
    none None k = refl
    none (Some x) k = absurd (cc)

    go : (found : Option HeldCommand) → find (is_ready (task_set_of s)) (map (held_of (length s.blocks)) s.tasks)
        ≡ found → number_of found ≡ Some number →
        (x : Task) × Has s.tasks x × (x.no ≡ number) × (is_waiting x.stage ≡ true)
        × (blocker_of (task_set_of s) (held_of (length s.blocks) x) ≡ None)
    go None f k = absurd (cc)
    go (Some c) f k =
        let r = found_held (length s.blocks) (is_ready (task_set_of s)) s.tasks c f in
        let ready : is_ready (task_set_of s) (held_of (length s.blocks) r.0) ≡ true =
        subst (λ (d : HeldCommand). is_ready (task_set_of s) d ≡ true) (sym r.2) r.3 in
        let b = and_parts (not (held_of (length s.blocks) r.0).held.begun) _ ready in
        (r.0, r.1, ap (λ (d : HeldCommand). d.no) r.2 ∙ same_Some _ _ k, waits r.0.stage b.0, none _ b.1)

pub next_is_busy : (o : Opening) (journal : List Logged) → IsRun o journal → (count : ℕ) (fault : Option ℕ) →
    is_void (act_of (replay o journal) (act.Next count) fault).answer ≡ true →
    (act_of (replay o journal) (act.Next count) fault).answer ≡ answer.Idle
unfolding act_of
next_is_busy o journal run count fault = go s.to_a s.to_b refl refl
  where
    s : State
    s = replay o journal

    single : IsSingle s.tasks
    single = fine_single (length (opened o).blocks) s (fine_run o journal run)

    delivers : (node : Node) (m : Message) (ms : List Message) → messages_to node s ≡ m ∷ ms →
        IsBusy (delivering node s).answer
    delivers node m ms e = subst (λ l. IsBusy (delivering_first node l s).answer) (sym e) (λ h. absurd (cc))

    ready : s.functions ≡ [] → (found : Option ℕ) → next_ready_of (task_set_of s) ≡ found →
        IsBusy (stepping_next (first_some found (first_moving s.tasks)) count fault s).answer
    ready closed (Some number) e h =
        let r = next_ready s number e in
        step_busy s r.0 number count fault single r.1 r.2 (waiting_at r.0 r.3 r.4) h
      where
        waiting_at : (x : Task) → is_waiting x.stage ≡ true →
            blocker_of (task_set_of s) (held_of (length s.blocks) x) ≡ None →
            IsBusy (stepping_at x.stage x count fault s).answer
        waiting_at x w b = by x.stage w
          where
            by : (stage : Stage) → is_waiting stage ≡ true → IsBusy (stepping_at stage x count fault s).answer
            by Waiting w = waiting_busy s x count fault (ap (λ fs. blocked_by fs s x) closed ∙ b)
            by (Here done got) w = absurd (cc)
            by Granted w = absurd (cc)
            by (There done got) w = absurd (cc)
            by Over w = absurd (cc)
    ready closed None e h = moving (first_moving s.tasks) refl h
      where
        moving : (found : Option ℕ) → first_moving s.tasks ≡ found → IsBusy (stepping_next found count fault s).answer
        moving None k h = refl
        moving (Some number) k h = let r = found_moving s.tasks number k in
            step_busy s r.0 number count fault single r.1 r.2 (moving_busy s r.0 count fault r.0.stage r.3) h

    go : (to_a to_b : List Message) → s.to_a ≡ to_a → s.to_b ≡ to_b → IsBusy (doing_next to_a to_b count fault s).answer
    go (m ∷ ms) to_b a b = delivers A m ms a
    go [] (m ∷ ms) a b = delivers B m ms b
    go [] [] a b = ready (none_waits laws o journal run a b) (next_ready_of (task_set_of s)) refl

pub idle_is_silent : (o : Opening) (journal : List Logged) (count : ℕ) (fault : Option ℕ) →
    (act_of (replay o journal) (act.Next count) fault).answer ≡ answer.Idle →
    (act_of (replay o journal) (act.Next count) fault).journal ≡ []
unfolding act_of
idle_is_silent o journal count fault = go s.to_a s.to_b refl refl
  where
    s : State
    s = replay o journal

    next : (found : Option ℕ) → (stepping_next found count fault s).answer ≡ answer.Idle →
        (stepping_next found count fault s).turn.journal ≡ []
    next None e = refl
    next (Some number) e = absurd (steps_busy (task_of number s.tasks) number count fault s e)

    go : (to_a to_b : List Message) → s.to_a ≡ to_a → s.to_b ≡ to_b →
        (doing_next to_a to_b count fault s).answer ≡ answer.Idle →
        (doing_next to_a to_b count fault s).turn.journal ≡ []
    go (m ∷ ms) to_b a b e = absurd (delivers_busy A s e)
    go [] (m ∷ ms) a b e = absurd (delivers_busy B s e)
    go [] [] a b e = next (next_step s) e

-- where `Next` is idle, all is quiet
pub idle_is_quiet : (o : Opening) (journal : List Logged) → IsRun o journal → (count : ℕ) (fault : Option ℕ) →
    (act_of (replay o journal) (act.Next count) fault).answer ≡ answer.Idle → IsQuiet (replay o journal)
unfolding act_of
idle_is_quiet o journal run count fault = go s.to_a s.to_b refl refl
  where
    s : State
    s = replay o journal

    next : s.to_a ≡ [] → s.to_b ≡ [] → (found : Option ℕ) → next_step s ≡ found →
        (stepping_next found count fault s).answer ≡ answer.Idle → IsQuiet s
    next a b None k e = record {
      tasks = no_step (length (opened o).blocks) s s.tasks refl (fine_run o journal run) a b k;
      functions = none_waits laws o journal run a b;
      to_a = a;
      to_b = b;
    }
    next a b (Some number) k e = absurd (steps_busy (task_of number s.tasks) number count fault s e)

    go : (to_a to_b : List Message) → s.to_a ≡ to_a → s.to_b ≡ to_b →
        (doing_next to_a to_b count fault s).answer ≡ answer.Idle → IsQuiet s
    go (m ∷ ms) to_b a b e = absurd (delivers_busy A s e)
    go [] (m ∷ ms) a b e = absurd (delivers_busy B s e)
    go [] [] a b e = next a b (next_step s) refl e
