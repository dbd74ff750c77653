-- Where a command is live, something can be done next.
use Rattle.std.proofs.Common.{◌≡◌, ℕ, inl, inr, Bool, true, false, not, ◌&&◌, ◌||◌, List, [], ◌∷◌, Option, Some, None}
use Rattle.std.proofs.Common.{length, map, refl, sym, ap, ◌∙◌, subst, nat_eq, cond, eq-eqb}
use Rattle.std.specs.Prelude.{◌≢◌, option_map, is_some, is_none}
use Rattle.std.specs.List.{find, list_any}
use Rattle.ct_word.specs.declared.names.Node.{Node}
use Rattle.ct_word.specs.declared.names.Node.TheVariants.{A, B}
use Rattle.ct_matrix.specs.declared.held.Held.{Held}
use Rattle.ct_matrix.specs.Conflicts.{conflicts, skips, has_to_wait, is_head, is_ordered}
use Rattle.ct_matrix.specs.declared.held.HeldCommand.{HeldCommand}
use Rattle.ct_matrix.specs.Queues.{TaskSet, first_to_wait_for, blocker_of, is_ready, number_of, next_ready_of}
use Rattle.ct_book.specs.declared.event.Logged.{Logged}
use Rattle.ct_exec.specs.Controls.{is_unrestricted}
use Rattle.ct_machine.specs.declared.act.Act.TheVariants as act
use Rattle.ct_machine.specs.declared.act.Answer.TheVariants as answer
use Rattle.ct_machine.specs.declared.act.Opening.{Opening}
use Rattle.ct_machine.specs.States.{Stage, Waiting, Here, Granted, There, Over, Task, Message, State, opened}
use Rattle.ct_machine.specs.States.{arrival_of, task_of, is_waiting, is_moving, has_begun, held_of, task_set_of}
use Rattle.ct_machine.specs.Acts.Answers.{Done, ends, line_by, moved_answer, first_some}
use Rattle.ct_machine.specs.Acts.Turns.{nothing}
use Rattle.ct_machine.specs.Acts.Steps.{blocked_by, beginning_unless, stepping_at, is_sent, stepping}
use Rattle.ct_machine.specs.Acts.Messages.{delivering_first, messages_to, delivering}
use Rattle.ct_machine.specs.Acts.Next.{first_moving, next_step, stepping_next, doing_next}
use Rattle.ct_machine.specs.Acts.{doing, act_of}
use Rattle.ct_machine.specs.Runs.{replay, IsRun}
use Rattle.ct_machine.specs.Laws.Live.{IsLive, NeverStops}
use Rattle.ct_law.proofs.Lists.Tasks.{Has}
use Rattle.ct_law.proofs.Lists.Messages.{is_end, is_grant, Sent}
use Rattle.ct_law.proofs.Frame.Books.{is_over}
use Rattle.ct_law.proofs.Rows.Commands.{laws}
use Rattle.ct_law.proofs.Runs.{run_induction}
use Rattle.ct_law.proofs.Acts.Sends.{is_given, IsFine, fine_act, fine_opened}

-- Answers that aren't Idle

moved_busy : (n : ℕ) (s : State) (journal : List Logged) → moved_answer n s journal ≢ answer.Idle
moved_busy n s journal = go (list_any (λ (logged : Logged). ends n logged.event) journal)
  where
    go : (t : Bool) → cond t (answer.Ended n (line_by (arrival_of n s))) (answer.Moved n) ≢ answer.Idle
    go true e = cc
    go false e = cc

begins_busy : (blocked : Option ℕ) (x : Task) (count : ℕ) (fault : Option ℕ) (s : State) →
    (beginning_unless blocked x count fault s).answer ≢ answer.Idle
begins_busy (Some by) x count fault s e = cc
begins_busy None x count fault s e = moved_busy x.no s (beginning_unless None x count fault s).turn.journal e

steps_busy_at : (stage : Stage) (x : Task) (count : ℕ) (fault : Option ℕ) (s : State) →
    (stepping_at stage x count fault s).answer ≢ answer.Idle
steps_busy_at Waiting x count fault s e = begins_busy (blocked_by s.functions s x) x count fault s e
steps_busy_at (Here done got) x count fault s e =
    moved_busy x.no s (stepping_at (Here done got) x count fault s).turn.journal e
steps_busy_at (There done got) x count fault s e =
    moved_busy x.no s (stepping_at (There done got) x count fault s).turn.journal e
steps_busy_at Granted x count fault s e = cc
steps_busy_at Over x count fault s e = cc

pub steps_busy : (found : Option Task) (n count : ℕ) (fault : Option ℕ) (s : State) →
    (stepping found n count fault s).answer ≢ answer.Idle
steps_busy (Some x) n count fault s e = steps_busy_at x.stage x count fault s e
steps_busy None n count fault s e = go (list_any (is_sent n) s.to_a) e
  where
    go : (t : Bool) → (cond {A = Done} t (record { turn = nothing s; answer = answer.Away n })
        (record { turn = nothing s; answer = answer.Gone })).answer ≢ answer.Idle
    go true e = cc
    go false e = cc

pub delivers_busy : (node : Node) (s : State) → (delivering node s).answer ≢ answer.Idle
delivers_busy node s = go (messages_to node s)
  where
    go : (ms : List Message) → (delivering_first node ms s).answer ≢ answer.Idle
    go [] e = cc
    go (m ∷ ms) e = cc

-- Where all wait, the first is ready

free_behind : (unrestricted : Bool) (a b : Held) → a.begun ≡ false → has_to_wait unrestricted false a b ≡ false
free_behind unrestricted a b e = go (skips a b) (is_head b.attr)
  where
    go : (t u : Bool) → cond t false
        (cond (u || true) (a.begun && conflicts unrestricted a b)
        (is_ordered b.attr || is_ordered a.attr || is_head a.attr || conflicts unrestricted a b)) ≡ false
    go true u = refl
    go false true = ap (λ k. k && conflicts unrestricted a b) e
    go false false = ap (λ k. k && conflicts unrestricted a b) e

not_waiting : (stage : Stage) → is_waiting stage ≡ true → has_begun stage ≡ false
not_waiting stage e = ap not e

first_free : (n : ℕ) (unrestricted : Bool) (x : HeldCommand) (q : List Task) →
    ((y : Task) → Has q y → is_waiting y.stage ≡ true) →
    first_to_wait_for unrestricted false x (map (held_of n) q) ≡ None
first_free n unrestricted x [] all = refl
first_free n unrestricted x (y ∷ ys) all =
    go (nat_eq y.no x.no) (has_to_wait unrestricted false (held_of n y).held x.held)
    (free_behind unrestricted (held_of n y).held x.held (not_waiting y.stage (all y (inl refl))))
    (first_free n unrestricted x ys (λ z h. all z (inr h)))
  where
    rest : Option ℕ
    rest = first_to_wait_for unrestricted false x (map (held_of n) ys)

    go : (t u : Bool) → u ≡ false → rest ≡ None → cond t rest (cond u (Some y.no) rest) ≡ None
    go true u e r = r
    go false true e r = absurd (cc)
    go false false e r = r

first_ready : (s : State) (x : Task) (q : List Task) → ((y : Task) → Has (x ∷ q) y → is_waiting y.stage ≡ true) →
    blocker_of (record {
      commands = map (held_of (length s.blocks)) (x ∷ q);
      depth = s.depth;
      unrestricted = is_unrestricted s.control;
    }) (held_of (length s.blocks) x) ≡ None
unfolding blocker_of
first_ready s x q all =
    go (nat_eq x.no x.no) (eqb x.no)
    (first_free (length s.blocks) (is_unrestricted s.control) (held_of (length s.blocks) x) q (λ y h. all y (inr h)))
  where
    rest : Bool → Option ℕ
    rest a =
        first_to_wait_for (is_unrestricted s.control) a (held_of (length s.blocks) x)
        (map (held_of (length s.blocks)) q)

    eqb : (n : ℕ) → nat_eq n n ≡ true
    eqb n = eq-eqb n n refl

    go : (t : Bool) → t ≡ true → rest false ≡ None →
        cond t (rest false) (cond
        (has_to_wait (is_unrestricted s.control) true (held_of (length s.blocks) x).held
        (held_of (length s.blocks) x).held) (Some x.no) (rest true)) ≡ None
    go true e r = r
    go false e r = absurd (cc)

ready_some : (s : State) (x : Task) (q : List Task) → s.tasks ≡ x ∷ q →
    ((y : Task) → Has (x ∷ q) y → is_waiting y.stage ≡ true) → next_ready_of (task_set_of s) ≡ Some x.no
unfolding next_ready_of
ready_some s x q e all =
    ap (λ ts. number_of (find (is_ready (set ts)) (map (held_of (length s.blocks)) ts))) e ∙ ap number_of
    (found (is_ready (set (x ∷ q)) (held_of (length s.blocks) x)) passes)
  where
    set : List Task → TaskSet
    set ts = record {
      commands = map
          (held_of (length s.blocks)) ts;
      depth = s.depth;
      unrestricted = is_unrestricted s.control;
    }

    rest : Option HeldCommand
    rest = find (is_ready (set (x ∷ q))) (map (held_of (length s.blocks)) q)

    found : (t : Bool) → t ≡ true → cond t (Some (held_of (length s.blocks) x)) rest ≡ Some
        (held_of (length s.blocks) x)
    found true e = refl
    found false e = absurd (cc)

    passes : is_ready (set (x ∷ q)) (held_of (length s.blocks) x) ≡ true
    passes =
        ap (λ t. not t && is_none (blocker_of (set (x ∷ q)) (held_of (length s.blocks) x)))
        (not_waiting x.stage (all x (inl refl))) ∙ ap is_none (first_ready s x q all)

-- Where none moves, none does

none_moves : (q : List Task) (y : Task) → first_moving q ≡ None → Has q y → is_moving y.stage ≡ false
none_moves [] y e h = absurd h
none_moves (x ∷ xs) y e h = go (is_moving x.stage) refl e h (λ e' h'. none_moves xs y e' h')
  where
    go : (t : Bool) → is_moving x.stage ≡ t →
        option_map (λ (task : Task). task.no) (cond t (Some x) (find (λ (task : Task). is_moving task.stage) xs))
        ≡ None → Has (x ∷ xs) y → (first_moving xs ≡ None → Has xs y → is_moving y.stage ≡ false) →
        is_moving y.stage ≡ false
    go true a e h rec = absurd (cc)
    go false a e (inl h) rec = subst (λ (z : Task). is_moving z.stage ≡ false) h a
    go false a e (inr h) rec = rec e h

waits : (stage : Stage) → is_moving stage ≡ false → (is_given stage ≡ true → ⊥) → (is_over stage ≡ true → ⊥) →
    is_waiting stage ≡ true
waits Waiting m g o = refl
waits (Here done got) m g o = absurd (cc)
waits (There done got) m g o = absurd (cc)
waits Granted m g o = absurd (g refl)
waits Over m g o = absurd (o refl)

both_none : (a b : Option ℕ) → first_some a b ≡ None → (a ≡ None) × (b ≡ None)
both_none (Some x) b e = absurd (cc)
both_none None b e = (refl, e)

-- a task set with no message on its way and with no next step is empty
pub no_step : (size : ℕ) (s : State) (q : List Task) → s.tasks ≡ q → IsFine size s → s.to_a ≡ [] → s.to_b ≡ [] →
    next_step s ≡ None → q ≡ []
no_step size s [] t h a b e = refl
no_step size s (x ∷ q) t h a b e =
    let none = both_none (next_ready_of (task_set_of s)) (first_moving s.tasks) e in
    let all : (y : Task) → Has (x ∷ q) y → is_waiting y.stage ≡ true = λ y k.
    let k' : Has s.tasks y = subst (λ ts. Has ts y) (sym t) k in
    waits y.stage (none_moves s.tasks y none.1 k') (λ g. subst (Sent is_grant y.no) b ((h.told y k').0 g))
    (λ o. subst (Sent is_end y.no) a ((h.told y k').1 o)) in
    let some : next_ready_of (task_set_of s) ≡ Some x.no = ready_some s x q t all in
    absurd (clash (sym none.0 ∙ some))
  where
    clash : None ≡ Some x.no → ⊥
    clash e = cc

next_busy : (size : ℕ) (s : State) (number count : ℕ) (fault : Option ℕ) → IsFine size s → IsLive s number →
    (doing s (act.Next count) fault).answer ≢ answer.Idle
next_busy size s number count fault h live = go s.to_a s.to_b refl refl
  where
    in_set : (q : List Task) → s.tasks ≡ q → s.to_a ≡ [] → q ≡ [] → ⊥
    in_set q t a e =
        let l : (is_some (task_of number s.tasks) || list_any (is_sent number) s.to_a) ≡ true = live in
        let l1 : (is_some (task_of number []) || list_any (is_sent number) s.to_a) ≡ true =
        subst (λ ts. (is_some (task_of number ts) || list_any (is_sent number) s.to_a) ≡ true) (t ∙ e) l in
        let l2 : (is_some (task_of number []) || list_any (is_sent number) []) ≡ true =
        subst (λ ms. (is_some (task_of number []) || list_any (is_sent number) ms) ≡ true) a l1 in
        cc

    step : (next : Option ℕ) → next_step s ≡ next → s.to_a ≡ [] → s.to_b ≡ [] →
        (stepping_next next count fault s).answer ≢ answer.Idle
    step None e a b k = in_set s.tasks refl a (no_step size s s.tasks refl h a b e)
    step (Some n) e a b k = steps_busy (task_of n s.tasks) n count fault s k

    go : (to_a to_b : List Message) → s.to_a ≡ to_a → s.to_b ≡ to_b →
        (doing_next to_a to_b count fault s).answer ≢ answer.Idle
    go (m ∷ ms) to_b a b k = delivers_busy A s k
    go [] (m ∷ ms) a b k = delivers_busy B s k
    go [] [] a b k = step (next_step s) refl a b k

act_answer : (s : State) (count : ℕ) (fault : Option ℕ) →
    (act_of s (act.Next count) fault).answer ≡ (doing s (act.Next count) fault).answer
unfolding act_of
act_answer s count fault = refl

-- the state that a run leads to
pub fine_run : (o : Opening) (journal : List Logged) → IsRun o journal →
    IsFine (length (opened o).blocks) (replay o journal)
fine_run o journal run =
    run_induction o (λ s j. IsFine (length (opened o).blocks) s) (fine_opened o)
    (λ s j a fault allowed h. fine_act laws (length (opened o).blocks) s a fault h) journal run

pub never_stops : (o : Opening) (journal : List Logged) → IsRun o journal → NeverStops o journal
never_stops o journal run number count fault live positive e =
    next_busy (length (opened o).blocks) (replay o journal) number count fault (fine_run o journal run) live
    (sym (act_answer (replay o journal) count fault) ∙ e)
