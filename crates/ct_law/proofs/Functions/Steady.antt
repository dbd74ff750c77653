-- What each event keeps by which functions are judged: which of them are open, in order of their numbers, and what
-- stops on their way to B say of telling initiators.
use Rattle.std.proofs.Common.{◌≡◌, ℕ, ◌<◌, ◌≤◌, ◌⊎◌, inl, inr, Bool, true, false, not, ◌&&◌, ◌||◌, List, [], ◌∷◌, ◌++◌}
use Rattle.std.proofs.Common.{Option, Some, None, map, drop, refl, sym, ap, ◌∙◌, subst, ⊎_elim, nat_eq, eqb-true}
use Rattle.std.proofs.Common.{eq-eqb, ne_eqb, cond, arith}
use Rattle.std.specs.Prelude.{nat_lt}
use Rattle.std.proofs.lemmas.Bool.{both_ways, cases_eq, ltb-true, ltb-false}
use Rattle.std.proofs.lemmas.List.{map-append}
use Rattle.ct_word.specs.declared.names.Node.{Node}
use Rattle.ct_word.specs.declared.names.Node.TheVariants.{A, B}
use Rattle.ct_word.specs.declared.names.Room.{Room}
use Rattle.ct_word.specs.Nexuses.{is_same_nexus}
use Rattle.ct_tmf.specs.declared.function.Ask.{Ask}
use Rattle.ct_book.specs.declared.work.Command.{Command}
use Rattle.ct_book.specs.declared.work.Work.TheVariants as work
use Rattle.ct_book.specs.declared.event.Event.{Event}
use Rattle.ct_book.specs.declared.event.Event.TheVariants as event
use Rattle.ct_book.specs.declared.event.Kind2.{Kind2}
use Rattle.ct_book.specs.declared.event.Kind2.TheVariants as kind
use Rattle.ct_book.specs.declared.event.Why.{Why}
use Rattle.ct_book.specs.declared.event.Why.TheVariants.{By, Medium}
use Rattle.ct_book.specs.declared.event.Logged.{Logged}
use Rattle.ct_book.specs.Journals.{KeptWork, numbered, works_in, arrived}
use Rattle.ct_machine.specs.declared.act.Opening.{Opening}
use Rattle.ct_machine.specs.States.{Task, Stage, Waiting, Here, Granted, There, Over, Open, Message, Arrival, State}
use Rattle.ct_machine.specs.States.{disk_of, arrival_of, task_of, function_of, with_task, without_task, at_stage}
use Rattle.ct_machine.specs.States.{queued}
use Rattle.ct_machine.specs.Events.Sends.{message, stop, to_b_if, answered, came_remote}
use Rattle.ct_machine.specs.Events.Ends.{stops_with, is_cleared, ended_at, after_ended, noted, cut_at, after_cut}
use Rattle.ct_machine.specs.Events.Functions.{stops_by, wants_stop, is_told, awaited_by, with_function, taken_up}
use Rattle.ct_machine.specs.Events.Functions.{after_asked, without_function, closed, works_of}
use Rattle.ct_machine.specs.Events.Arrivals.{new_task, after_enter}
use Rattle.ct_machine.specs.Events.Moves.{staged, moved_at, after_moved}
use Rattle.ct_machine.specs.Events.Deliveries.{awaits_no_more, is_over as gone_at_b, begun_at_b, after_grant}
use Rattle.ct_machine.specs.Events.{after}
use Rattle.ct_machine.specs.States.{is_remote}
use Rattle.ct_exec.specs.Controls.{tells_aborts}
use Rattle.ct_exec.specs.Executions.{execute}
use Rattle.ct_machine.specs.Serial.{serial_disk}
use Rattle.ct_machine.specs.Runs.{replay}
use Rattle.ct_machine.specs.Laws.Journals.{has, is_entry, is_asked}
use Rattle.ct_machine.specs.Laws.Functions.{until, told_aborts_at}
use Rattle.ct_law.proofs.Lists.Tasks.{Has, has_found, has_without, has_with, has_queued}
use Rattle.ct_law.proofs.Journals.Journal.{has_stays, has_now, has_same}
use Rattle.ct_law.proofs.Journals.Growing.{works_in-more, works_in-none, numbered_front}
use Rattle.ct_law.proofs.Lists.Messages.{is_stop}
use Rattle.ct_law.proofs.Frame.Books.{arrival_for}
use Rattle.ct_law.proofs.Frame.Opens.{IsIn, HasOpen, has_without_function, has_with_function}
use Rattle.ct_law.proofs.Inv.{told}
use Rattle.ct_law.proofs.Events.Steps.{came_with}
use Rattle.ct_law.proofs.Walks.Schedules.{replayed}
use Rattle.ct_law.proofs.Events.Nodes.{sent_if, after_arrived}

-- Messages

abbrev pub HasMessage : List Message → Message → Type 0
HasMessage [] m = ⊥
HasMessage (k ∷ ms) m = (k ≡ m) ⊎ HasMessage ms m

message_append : (ms ks : List Message) (m : Message) → HasMessage (ms ++ ks) m → HasMessage ms m ⊎ HasMessage ks m
message_append [] ks m h = inr h
message_append (k ∷ ms) ks m (inl h) = inl (inl h)
message_append (k ∷ ms) ks m (inr h) = ⊎_elim (λ (r : HasMessage ms m). inl (inr r)) inr (message_append ms ks m h)

message_drop : (ms : List Message) (m : Message) → HasMessage (drop 1 ms) m → HasMessage ms m
message_drop [] m h = h
message_drop (k ∷ ms) m h = inr h

-- Numbers in ascending order

abbrev pub numbers : List Open → List ℕ
numbers functions = map (λ (function : Open). function.no) functions

abbrev pub Ascending : List ℕ → Type 0
Ascending [] = Unit {0}
Ascending (n ∷ ns) = ((m : ℕ) → IsIn m ns → n < m) × Ascending ns

pub open_in : (fs : List Open) (p : Open) → HasOpen fs p → IsIn p.no (numbers fs)
open_in [] p h = absurd h
open_in (f ∷ fs) p (inl h) = inl (ap (λ (z : Open). z.no) h)
open_in (f ∷ fs) p (inr h) = inr (open_in fs p h)

pub in_open : (fs : List Open) (n : ℕ) → IsIn n (numbers fs) → (p : Open) × HasOpen fs p × (p.no ≡ n)
in_open [] n h = absurd h
in_open (f ∷ fs) n (inl h) = (f, inl refl, h)
in_open (f ∷ fs) n (inr h) = let r = in_open fs n h in (r.0, inr r.1, r.2)

pub noted_numbers : (by n : ℕ) (fs : List Open) → numbers (noted by n fs) ≡ numbers fs
noted_numbers by n [] = refl
noted_numbers by n (f ∷ fs) = go (nat_eq f.no by) ∙ ap (λ l. f.no ∷ l) (noted_numbers by n fs)
  where
    go : (t : Bool) → ((cond t (record f { cut = f.cut ++ n ∷ [] }) f).no ∷ numbers (noted by n fs)) ≡ f.no ∷ numbers
        (noted by n fs)
    go true = refl
    go false = refl

pub awaits_numbers : (n : ℕ) (fs : List Open) → numbers (map (awaits_no_more n) fs) ≡ numbers fs
awaits_numbers n [] = refl
awaits_numbers n (f ∷ fs) = ap (λ l. f.no ∷ l) (awaits_numbers n fs)

in_without : (n : ℕ) (fs : List Open) (m : ℕ) → IsIn m (numbers (without_function n fs)) → IsIn m (numbers fs)
in_without n fs m h = let r = in_open (without_function n fs) m h in
    subst (λ k. IsIn k (numbers fs)) r.2 (open_in fs r.0 (has_without_function n fs r.0 r.1).0)

without_in : (n : ℕ) (fs : List Open) (m : ℕ) → (m ≡ n → ⊥) → IsIn m (numbers fs) →
    IsIn m (numbers (without_function n fs))
without_in n [] m ne h = h
without_in n (f ∷ fs) m ne h = go (nat_eq f.no n) refl h (without_in n fs m ne)
  where
    go : (t : Bool) → nat_eq f.no n ≡ t → IsIn m (f.no ∷ numbers fs) →
        (IsIn m (numbers fs) → IsIn m (numbers (without_function n fs))) →
        IsIn m (numbers (cond t (without_function n fs) (f ∷ without_function n fs)))
    go true e (inl h) rec = absurd (ne (sym h ∙ eqb-true f.no n e))
    go true e (inr h) rec = rec h
    go false e (inl h) rec = inl h
    go false e (inr h) rec = inr (rec h)

pub ascending_without : (n : ℕ) (fs : List Open) → Ascending (numbers fs) → Ascending (numbers (without_function n fs))
ascending_without n [] h = tt
ascending_without n (f ∷ fs) h = go (nat_eq f.no n) (ascending_without n fs h.1)
  where
    go : (t : Bool) → Ascending (numbers (without_function n fs)) →
        Ascending (numbers (cond t (without_function n fs) (f ∷ without_function n fs)))
    go true rec = rec
    go false rec = (λ m i. h.0 m (in_without n fs m i), rec)

in_with : (p : Open) (fs : List Open) (m : ℕ) → IsIn m (numbers (with_function p fs)) → IsIn m (numbers fs) ⊎ (p.no ≡ m)
in_with p fs m h =
    let r = in_open (with_function p fs) m h in
    ⊎_elim (λ (k : HasOpen fs r.0). inl (subst (λ i. IsIn i (numbers fs)) r.2 (open_in fs r.0 k)))
    (λ (k : p ≡ r.0). inr (ap (λ (z : Open). z.no) k ∙ r.2))
    (has_with_function p fs r.0 r.1)

with_in : (p : Open) (fs : List Open) (m : ℕ) → IsIn m (numbers fs) → IsIn m (numbers (with_function p fs))
with_in p [] m h = absurd h
with_in p (f ∷ fs) m h = go (nat_lt p.no f.no) h (with_in p fs m)
  where
    go : (t : Bool) → IsIn m (f.no ∷ numbers fs) → (IsIn m (numbers fs) → IsIn m (numbers (with_function p fs))) →
        IsIn m (numbers (cond t (p ∷ f ∷ fs) (f ∷ with_function p fs)))
    go true h rec = inr h
    go false (inl h) rec = inl h
    go false (inr h) rec = inr (rec h)

with_in_itself : (p : Open) (fs : List Open) → IsIn p.no (numbers (with_function p fs))
with_in_itself p [] = inl refl
with_in_itself p (f ∷ fs) = go (nat_lt p.no f.no) (with_in_itself p fs)
  where
    go : (t : Bool) → IsIn p.no (numbers (with_function p fs)) →
        IsIn p.no (numbers (cond t (p ∷ f ∷ fs) (f ∷ with_function p fs)))
    go true rec = inl refl
    go false rec = inr rec

pub ascending_with : (p : Open) (fs : List Open) → (IsIn p.no (numbers fs) → ⊥) → Ascending (numbers fs) →
    Ascending (numbers (with_function p fs))
ascending_with p [] new h = (λ m i. absurd i, tt)
ascending_with p (f ∷ fs) new h = go (nat_lt p.no f.no) refl (ascending_with p fs (λ i. new (inr i)) h.1)
  where
    go : (t : Bool) → nat_lt p.no f.no ≡ t → Ascending (numbers (with_function p fs)) →
        Ascending (numbers (cond t (p ∷ f ∷ fs) (f ∷ with_function p fs)))
    go true e rec = (
      λ m i. let a =
          ltb-true p.no f.no e in ⊎_elim (λ (k : f.no ≡ m). omega (arith, a, k))
          (λ (k : IsIn m (numbers fs)). let b = h.0 m k in omega (arith, a, b)) i,
      h,
    )
    go false e rec = (
      λ m i. ⊎_elim (h.0 m)
          (λ (k : p.no ≡ m). let a = ltb-false p.no f.no e in
          ⊎_elim (λ (z : f.no ≡ p.no). absurd (new (inl z))) (λ (z : f.no ≡ p.no → ⊥). below f.no p.no m a z k)
          (cases_eq f.no p.no))
          (in_with p fs m i),
      rec,
    )
      where
        below : (a b m : ℕ) → a ≤ b → (a ≡ b → ⊥) → b ≡ m → a < m
        below a b m le ne e = omega (arith, le, ne, e)

-- What an event does to works, commands, functions and stops

abbrev pub TasksFrom : List Task → List Task → Type 0
TasksFrom before now =
    (x : Task) → Has now x → (y : Task) × Has before y × (y.no ≡ x.no) × (arrival_for y ≡ arrival_for x)

pub record FunctionsFrom (before now : List Open) : Type 0 where
  pub from : (p : Open) → HasOpen now p → (q : Open) × HasOpen before q × (q.no ≡ p.no) × (q.ask ≡ p.ask)
  pub sorted : Ascending (numbers before) → Ascending (numbers now)
  pub stay : (n : ℕ) → IsIn n (numbers before) → IsIn n (numbers now)

abbrev pub StopsFrom : State → List Message → Type 0
StopsFrom s now = (m : Message) → HasMessage now m → is_stop m.kind ≡ true →
    HasMessage s.to_b m ⊎ ((y : Task) × Has s.tasks y × (y.no ≡ m.by))

-- no work comes or enters, and no function opens
pub record Goes (e : Event) (s t : State) : Type 0 where
  pub arrivals : t.arrivals ≡ s.arrivals
  pub tasks : TasksFrom s.tasks t.tasks
  pub from : (p : Open) → HasOpen t.functions p → (q : Open) × HasOpen s.functions q × (q.no ≡ p.no) × (q.ask ≡ p.ask)
  pub sorted : Ascending (numbers s.functions) → Ascending (numbers t.functions)
  pub stay : (n : ℕ) → IsIn n (numbers s.functions) → (is_entry n e ≡ true) ⊎ IsIn n (numbers t.functions)
  pub stops : StopsFrom s t.to_b

tasks_same : (ts us : List Task) → us ≡ ts → TasksFrom ts us
tasks_same ts us e x h = (x, subst (λ q. Has q x) e h, refl, refl)

tasks_without : (n : ℕ) (ts : List Task) → TasksFrom ts (without_task n ts)
tasks_without n ts x h = (x, (has_without n ts x h).0, refl, refl)

tasks_staged : (y : Task) (stage : Stage) (ts : List Task) → Has ts y → TasksFrom ts (with_task (at_stage stage y) ts)
tasks_staged y stage ts hy x h = ⊎_elim
    (λ (e : at_stage stage y ≡ x). (y, hy, ap (λ (z : Task). z.no) e, ap arrival_for e))
    (λ (r : Has ts x × (x.no ≡ y.no → ⊥)). (x, r.0, refl, refl))
    (has_with (at_stage stage y) ts x h)

functions_same : (fs gs : List Open) → gs ≡ fs → FunctionsFrom fs gs
functions_same fs gs e = record {
  from = λ p h. (p, subst (λ l. HasOpen l p) e h, refl, refl);
  sorted = λ h. subst (λ l. Ascending (numbers l)) (sym e) h;
  stay = λ n h. subst (λ l. IsIn n (numbers l)) (sym e) h;
}

noted_from : (by n : ℕ) (fs : List Open) (p : Open) → HasOpen (noted by n fs) p →
    (q : Open) × HasOpen fs q × (q.no ≡ p.no) × (q.ask ≡ p.ask)
noted_from by n [] p h = absurd h
noted_from by n (f ∷ fs) p (inr h) = let r = noted_from by n fs p h in (r.0, inr r.1, r.2, r.3)
noted_from by n (f ∷ fs) p (inl h) = go (nat_eq f.no by) h
  where
    go : (t : Bool) → cond t (record f { cut = f.cut ++ n ∷ [] }) f ≡ p →
        (q : Open) × HasOpen (f ∷ fs) q × (q.no ≡ p.no) × (q.ask ≡ p.ask)
    go true h = (f, inl refl, ap (λ (z : Open). z.no) h, ap (λ (z : Open). z.ask) h)
    go false h = (f, inl refl, ap (λ (z : Open). z.no) h, ap (λ (z : Open). z.ask) h)

functions_noted : (by n : ℕ) (fs gs : List Open) → gs ≡ noted by n fs → FunctionsFrom fs gs
functions_noted by n fs gs e = record {
  from = λ p h. noted_from by n fs p (subst (λ l. HasOpen l p) e h);
  sorted = λ h. subst Ascending (sym same) h;
  stay = λ m h. subst (IsIn m) (sym same) h;
}
  where
    same : numbers gs ≡ numbers fs
    same = ap numbers e ∙ noted_numbers by n fs

awaits_from : (n : ℕ) (fs : List Open) (p : Open) → HasOpen (map (awaits_no_more n) fs) p →
    (q : Open) × HasOpen fs q × (q.no ≡ p.no) × (q.ask ≡ p.ask)
awaits_from n [] p h = absurd h
awaits_from n (f ∷ fs) p (inr h) = let r = awaits_from n fs p h in (r.0, inr r.1, r.2, r.3)
awaits_from n (f ∷ fs) p (inl h) = (f, inl refl, ap (λ (z : Open). z.no) h, ap (λ (z : Open). z.ask) h)

goes : (e : Event) (s t : State) → t.arrivals ≡ s.arrivals → TasksFrom s.tasks t.tasks →
    FunctionsFrom s.functions t.functions → StopsFrom s t.to_b → Goes e s t
goes e s t a b c d = record {
  arrivals = a;
  tasks = b;
  from = c.from;
  sorted = c.sorted;
  stay = λ n h. inr
      (c.stay n h);
  stops = d;
}

stops_same : (s : State) (ms : List Message) → ms ≡ s.to_b → StopsFrom s ms
stops_same s ms e m h i = inl (subst (λ l. HasMessage l m) e h)

goes_quietly : (e : Event) (s t : State) → t.arrivals ≡ s.arrivals → TasksFrom s.tasks t.tasks →
    t.functions ≡ s.functions → t.to_b ≡ s.to_b → Goes e s t
goes_quietly e s t a b c d = goes e s t a b (functions_same s.functions t.functions c) (stops_same s t.to_b d)

-- messages to B
goes_sent : (e : Event) (s t : State) (ks : List Message) →
    ((m : Message) → HasMessage ks m → is_stop m.kind ≡ true → (y : Task) × Has s.tasks y × (y.no ≡ m.by)) →
    Goes e s t → Goes e s (record t { to_b = t.to_b ++ ks })
goes_sent e s t ks f h = record {
  arrivals = h.arrivals;
  tasks = h.tasks;
  from = h.from;
  sorted = h.sorted;
  stay = h.stay;
  stops = λ m i is. ⊎_elim (λ (k : HasMessage t.to_b m). h.stops m k is) (λ (k : HasMessage ks m). inr (f m k is))
      (message_append t.to_b ks m i);
}

goes_told : (e : Event) (s t : State) (k : Message) → is_stop k.kind ≡ false → Goes e s t →
    Goes e s (record t { to_b = t.to_b ++ k ∷ [] })
goes_told e s t k no_stop h = goes_sent e s t (k ∷ []) (λ m i is. ⊎_elim
    (λ (z : k ≡ m). absurd (both_ways (is_stop m.kind) (ap (λ (q : Message). is_stop q.kind) (sym z) ∙ no_stop) is))
    (λ (z : ⊥). absurd z) i) h

goes_answered : (e : Event) (k : Kind2) (n : ℕ) (s t : State) → is_stop k ≡ false → Goes e s t →
    Goes e s (answered k n t)
goes_answered e k n s t no_stop h = go (came_remote (arrival_of n t))
  where
    go : (b : Bool) → Goes e s (to_b_if b (message k n) t)
    go true = goes_told e s t (message k n) no_stop h
    go false = h

with_stops : (told_so : Bool) (by : ℕ) (cleared : List Bool) (ts : List Task) (m : Message) →
    HasMessage (stops_with told_so by cleared ts) m → m.by ≡ by
with_stops told_so by cleared [] m h = absurd h
with_stops told_so by cleared (x ∷ ts) m h =
    go (is_cleared cleared x && is_remote x.node) h (with_stops told_so by cleared ts m)
  where
    go : (t : Bool) → HasMessage
        (cond t (stop x.no by told_so ∷ stops_with told_so by cleared ts) (stops_with told_so by cleared ts)) m →
        (HasMessage (stops_with told_so by cleared ts) m → m.by ≡ by) → m.by ≡ by
    go true (inl h) rec = ap (λ (z : Message). z.by) (sym h)
    go true (inr h) rec = rec h
    go false h rec = rec h

-- Event by event

goes_staged : (e : Event) (stage : Stage) (n : ℕ) (s : State) → Goes e s (staged stage (task_of n s.tasks) s)
goes_staged e stage n s = go (task_of n s.tasks) refl
  where
    go : (found : Option Task) → task_of n s.tasks ≡ found → Goes e s (staged stage found s)
    go None f = goes_quietly e s s refl (tasks_same s.tasks s.tasks refl) refl refl
    go (Some x) f = goes_quietly e s _ refl (tasks_staged x stage s.tasks (has_found n s.tasks x f).0) refl refl

goes_moved : (e : Event) (n count : ℕ) (s : State) → Goes e s (after_moved (task_of n s.tasks) count s)
goes_moved e n count s = go (task_of n s.tasks) refl
  where
    still : Goes e s s
    still = goes_quietly e s s refl (tasks_same s.tasks s.tasks refl) refl refl

    at : (x : Task) (stage : Stage) → Has s.tasks x → Goes e s (moved_at stage x count s)
    at x Waiting hx = still
    at x (Here d g) hx = goes_quietly e s _ refl (tasks_staged x _ s.tasks hx) refl refl
    at x Granted hx = still
    at x (There d g) hx = goes_quietly e s _ refl (tasks_staged x _ s.tasks hx) refl refl
    at x Over hx = still

    go : (found : Option Task) → task_of n s.tasks ≡ found → Goes e s (after_moved found count s)
    go None f = still
    go (Some x) f = at x x.stage (has_found n s.tasks x f).0

-- a command that ends when it would begin leaves the task set
abbrev left_by : Task → State → State
left_by x s =
    let execution = execute (disk_of s) x.command in
    answered kind.Reply x.no
    (record s { control = execution.disk.control; blocks = execution.disk.blocks; tasks = without_task x.no s.tasks })

goes_ended : (e : Event) (n : ℕ) (s : State) → Goes e s (after_ended (task_of n s.tasks) s)
goes_ended e n s = go (task_of n s.tasks) refl
  where
    gone : Task → State
    gone x = record s {
      control = (execute (disk_of s) x.command).disk.control;
      blocks = (execute (disk_of s) x.command).disk.blocks;
      tasks = without_task x.no s.tasks;
    }

    leaves : (x : Task) → Goes e s (answered kind.Reply x.no (record s { tasks = without_task x.no s.tasks }))
    leaves x = goes_answered e kind.Reply x.no s _ refl (goes_quietly e s _ refl (tasks_without x.no s.tasks) refl refl)

    at : (x : Task) (stage : Stage) → Has s.tasks x → Goes e s (ended_at stage x s)
    at x Waiting hx =
        goes_sent e s (left_by x s)
        (stops_with (tells_aborts s.control) x.no (execute (disk_of s) x.command).cleared (left_by x s).tasks)
        (λ m i is. (x, hx, sym (with_stops (tells_aborts s.control) x.no (execute (disk_of s) x.command).cleared (left_by x s).tasks m i)))
        (goes_answered e kind.Reply x.no s (gone x) refl
        (goes_quietly e s (gone x) refl (tasks_without x.no s.tasks) refl refl))
    at x (Here d g) hx = leaves x
    at x Granted hx = leaves x
    at x (There d g) hx = goes_quietly e s _ refl (tasks_staged x Over s.tasks hx) refl refl
    at x Over hx = leaves x

    go : (found : Option Task) → task_of n s.tasks ≡ found → Goes e s (after_ended found s)
    go None f = goes_quietly e s s refl (tasks_same s.tasks s.tasks refl) refl refl
    go (Some x) f = at x x.stage (has_found n s.tasks x f).0

goes_cut : (e : Event) (why : Why) (n : ℕ) (s : State) → Goes e s (after_cut why (task_of n s.tasks) s)
goes_cut e why n s = go why (task_of n s.tasks) refl
  where
    leaves : (x : Task) → Goes e s (answered kind.Reply x.no (record s { tasks = without_task x.no s.tasks }))
    leaves x = goes_answered e kind.Reply x.no s _ refl (goes_quietly e s _ refl (tasks_without x.no s.tasks) refl refl)

    here : (by : ℕ) (x : Task) → Goes e s
        (record s { functions = noted by x.no s.functions; tasks = without_task x.no s.tasks })
    here by x =
        goes e s _ refl (tasks_without x.no s.tasks) (functions_noted by x.no s.functions _ refl)
        (stops_same s s.to_b refl)

    at : (why : Why) (x : Task) (stage : Stage) → Has s.tasks x → Goes e s (cut_at why stage x s)
    at (By by) x Waiting hx = here by x
    at (By by) x (Here d g) hx = here by x
    at (By by) x Granted hx = here by x
    at (By by) x (There d g) hx =
        goes e s _ refl (tasks_staged x Over s.tasks hx) (functions_noted by x.no s.functions _ refl)
        (stops_same s s.to_b refl)
    at (By by) x Over hx = here by x
    at Medium x Waiting hx = leaves x
    at Medium x (Here d g) hx = leaves x
    at Medium x Granted hx = leaves x
    at Medium x (There d g) hx = goes_quietly e s _ refl (tasks_staged x Over s.tasks hx) refl refl
    at Medium x Over hx = leaves x

    go : (why : Why) (found : Option Task) → task_of n s.tasks ≡ found → Goes e s (after_cut why found s)
    go why None f = goes_quietly e s s refl (tasks_same s.tasks s.tasks refl) refl refl
    go why (Some x) f = at why x x.stage (has_found n s.tasks x f).0

function_named : (n : ℕ) (fs : List Open) (p : Open) → function_of n fs ≡ Some p → p.no ≡ n
function_named n [] p e = absurd (cc)
function_named n (f ∷ fs) p e = go (nat_eq f.no n) refl e (function_named n fs p)
  where
    go : (t : Bool) → nat_eq f.no n ≡ t → cond t (Some f) (function_of n fs) ≡ Some p →
        (function_of n fs ≡ Some p → p.no ≡ n) → p.no ≡ n
    go true k e rec = let same : f ≡ p = cc in ap (λ (z : Open). z.no) (sym same) ∙ eqb-true f.no n k
    go false k e rec = rec e

goes_closed : (e : Event) (n : ℕ) (s : State) → ((m : ℕ) → m ≡ n → is_entry m e ≡ true) →
    Goes e s (answered kind.Response n (closed (function_of n s.functions) s))
goes_closed e n s entry = goes_answered e kind.Response n s _ refl (go (function_of n s.functions) refl)
  where
    go : (found : Option Open) → function_of n s.functions ≡ found → Goes e s (closed found s)
    go None f = goes_quietly e s s refl (tasks_same s.tasks s.tasks refl) refl refl
    go (Some p) f = record {
      arrivals = refl;
      tasks = tasks_same s.tasks s.tasks refl;
      from = λ q h. (q, (has_without_function p.no s.functions q h).0, refl, refl);
      sorted = ascending_without p.no s.functions;
      stay = λ m h. ⊎_elim (λ (k : m ≡ n). inl (entry m k))
          (λ (k : m ≡ n → ⊥). inr (without_in p.no s.functions m (λ i. k (i ∙ function_named n s.functions p f)) h))
          (cases_eq m n);
      stops = stops_same s s.to_b refl;
    }

goes_delivered : (e : Event) (node : Node) (k : Kind2) (n : ℕ) (s : State) →
    Goes e s (after s (told (event.Deliver node k n)))
unfolding after
goes_delivered e A k n s = go k
  where
    still : Goes e s (record s { to_a = drop 1 s.to_a })
    still = goes_quietly e s _ refl (tasks_same s.tasks s.tasks refl) refl refl

    over : Goes e s (gone_at_b n (record s { to_a = drop 1 s.to_a }))
    over = goes e s _ refl (tasks_without n s.tasks)
        (record {
          from = awaits_from n s.functions;
          sorted = λ h. subst Ascending (sym (awaits_numbers n s.functions)) h;
          stay = λ m h. subst (IsIn m) (sym (awaits_numbers n s.functions)) h;
        })
        (stops_same s s.to_b refl)

    go : (k : Kind2) → Goes e s (after s (told (event.Deliver A k n)))
    go kind.Finish = over
    go kind.Stopped = over
    go kind.Ask = still
    go kind.Function = still
    go kind.Grant = still
    go kind.Stop = still
    go kind.Reply = still
    go kind.Response = still
goes_delivered e B k n s = go k
  where
    fewer : StopsFrom s (drop 1 s.to_b)
    fewer m h i = inl (message_drop s.to_b m h)

    still : Goes e s (record s { to_b = drop 1 s.to_b })
    still = goes e s _ refl (tasks_same s.tasks s.tasks refl) (functions_same s.functions s.functions refl) fewer

    begins : (x : Task) (stage : Stage) → Has s.tasks x →
        Goes e s (begun_at_b stage x (record s { to_b = drop 1 s.to_b }))
    begins x Waiting hx = still
    begins x (Here d g) hx = still
    begins x Granted hx =
        goes e s _ refl (tasks_staged x (There 0 []) s.tasks hx) (functions_same s.functions s.functions refl) fewer
    begins x (There d g) hx = still
    begins x Over hx = still

    granted : (found : Option Task) → task_of n s.tasks ≡ found →
        Goes e s (after_grant found (record s { to_b = drop 1 s.to_b }))
    granted None f = still
    granted (Some x) f = begins x x.stage (has_found n s.tasks x f).0

    go : (k : Kind2) → Goes e s (after s (told (event.Deliver B k n)))
    go kind.Grant = granted (task_of n s.tasks) refl
    go kind.Finish = still
    go kind.Stopped = still
    go kind.Ask = still
    go kind.Function = still
    go kind.Stop = still
    go kind.Reply = still
    go kind.Response = still

-- an event by which nothing comes, enters or opens
abbrev pub is_plain : Event → Bool
is_plain (event.Came number node line) = false
is_plain (event.Enter number) = false
is_plain (event.Asked number) = false
is_plain (event.Deliver node kind number) = true
is_plain (event.Turned number) = true
is_plain (event.Begun number) = true
is_plain (event.Granted number) = true
is_plain (event.Moved number count) = true
is_plain (event.Ended number) = true
is_plain (event.Cut number puts why told) = true
is_plain (event.Closed number outcome) = true

goes_event : (s : State) (l : Logged) → is_plain l.event ≡ true → Goes l.event s (after s l)
unfolding after
goes_event s l plain = go l.event plain
  where
    go : (e : Event) → is_plain e ≡ true → Goes e s (after s (record l { event = e }))
    go (event.Came number node line) p = absurd (cc)
    go (event.Enter number) p = absurd (cc)
    go (event.Asked number) p = absurd (cc)
    go (event.Deliver node k number) p = goes_delivered (event.Deliver node k number) node k number s
    go (event.Turned number) p =
        goes_answered _ kind.Reply number s s refl (goes_quietly _ s s refl (tasks_same s.tasks s.tasks refl) refl refl)
    go (event.Begun number) p = goes_staged _ (Here 0 []) number s
    go (event.Granted number) p = goes_told _ s _ (message kind.Grant number) refl (goes_staged _ Granted number s)
    go (event.Moved number count) p = goes_moved _ number count s
    go (event.Ended number) p = goes_ended _ number s
    go (event.Cut number puts why told_so) p = goes_cut _ why number s
    go (event.Closed number outcome) p = goes_closed _ number s (λ m e. eq-eqb number m (sym e))

-- What holds between two events

-- the events before the first that passes a test stay
until_more : (test : Event → Bool) (es : List Logged) (e : Logged) → has test es ≡ true →
    until test (es ++ e ∷ []) ≡ until test es
until_more test [] e h = absurd (cc)
until_more test (x ∷ es) e h = go (test x.event) h (until_more test es e)
  where
    go : (t : Bool) → (t || has test es) ≡ true → (has test es ≡ true → until test (es ++ e ∷ []) ≡ until test es) →
        cond t [] (x ∷ until test (es ++ e ∷ [])) ≡ cond t [] (x ∷ until test es)
    go true h rec = refl
    go false h rec = ap (λ l. x ∷ l) (rec h)

pub until_now : (test : Event → Bool) (es : List Logged) (e : Logged) → has test es ≡ false → test e.event ≡ true →
    until test (es ++ e ∷ []) ≡ es
until_now test [] e h now = ap (λ t. cond t [] (e ∷ [])) now
until_now test (x ∷ es) e h now = go (test x.event) h (until_now test es e)
  where
    go : (t : Bool) → (t || has test es) ≡ false →
        (has test es ≡ false → test e.event ≡ true → until test (es ++ e ∷ []) ≡ es) →
        cond t [] (x ∷ until test (es ++ e ∷ [])) ≡ x ∷ es
    go true h rec = absurd (cc)
    go false h rec = ap (λ l. x ∷ l) (rec h now)

pub told_stays : (o : Opening) (by : ℕ) (journal : List Logged) (l : Logged) → has (is_asked by) journal ≡ true →
    told_aborts_at o by (journal ++ l ∷ []) ≡ told_aborts_at o by journal
told_stays o by journal l h =
    ap (λ (es : List Logged). tells_aborts (serial_disk o es).control) (until_more (is_asked by) journal l h)

pub told_now : (o : Opening) (by : ℕ) (journal : List Logged) (l : Logged) → has (is_asked by) journal ≡ false →
    is_asked by l.event ≡ true → told_aborts_at o by (journal ++ l ∷ []) ≡ tells_aborts (serial_disk o journal).control
told_now o by journal l new now =
    ap (λ (es : List Logged). tells_aborts (serial_disk o es).control) (until_now (is_asked by) journal l new now)

abbrev pub IsCommandNo : ℕ → List Arrival → Type 0
IsCommandNo n works =
    (node : Node) × (c : Command) × (numbered n works ≡ Some (record { node = node; work = work.Cmd c }))

-- a stop by a function says whether the initiator is told, as TAS says where the function was taken up
pub record Telling (o : Opening) (journal : List Logged) (works : List Arrival) (m : Message) : Type 0 where
  pub node : Node
  pub ask : Ask
  pub other : Node
  pub command : Command
  pub by : numbered m.by works ≡ Some (record { node = node; work = work.Ask ask })
  pub no : numbered m.no works ≡ Some (record { node = other; work = work.Cmd command })
  pub asking : has (is_asked m.by) journal ≡ true
  pub told : m.told ≡ (told_aborts_at o m.by journal && not (is_same_nexus ask.nexus command.nexus))

pub record Steady (o : Opening) (s : State) (journal : List Logged) : Type 0 where
  pub at : s ≡ replay o journal
  pub works : works_of s ≡ works_in journal
  pub known : (x : Task) → Has s.tasks x → numbered x.no s.arrivals ≡ Some (arrival_for x)
  pub asked : (p : Open) → HasOpen s.functions p →
      (node : Node) × (numbered p.no s.arrivals ≡ Some (record { node = node; work = work.Ask p.ask }))
      × (has (is_asked p.no) journal ≡ true)
  pub opened : (n : ℕ) → has (is_asked n) journal ≡ true →
      (has (is_entry n) journal ≡ true) ⊎ IsIn n (numbers s.functions)
  pub sorted : Ascending (numbers s.functions)
  pub stops : (m : Message) → HasMessage s.to_b m → is_stop m.kind ≡ true →
      IsCommandNo m.by s.arrivals ⊎ Telling o journal s.arrivals m

-- after an event by which nothing comes, enters or opens
unasked : (e : Event) → is_plain e ≡ true → (n : ℕ) → is_asked n e ≡ false
unasked (event.Came number node line) p n = absurd (cc)
unasked (event.Enter number) p n = absurd (cc)
unasked (event.Asked number) p n = absurd (cc)
unasked (event.Deliver node k number) p n = refl
unasked (event.Turned number) p n = refl
unasked (event.Begun number) p n = refl
unasked (event.Granted number) p n = refl
unasked (event.Moved number count) p n = refl
unasked (event.Ended number) p n = refl
unasked (event.Cut number puts why told_so) p n = refl
unasked (event.Closed number outcome) p n = refl

-- what is known of numbers stays with works that came before
opened_stays : (journal : List Logged) (l : Logged) (fs gs : List Open) → ((n : ℕ) → is_asked n l.event ≡ false) →
    ((n : ℕ) → IsIn n (numbers fs) → (is_entry n l.event ≡ true) ⊎ IsIn n (numbers gs)) →
    ((n : ℕ) → has (is_asked n) journal ≡ true → (has (is_entry n) journal ≡ true) ⊎ IsIn n (numbers fs)) →
    (n : ℕ) → has (is_asked n) (journal ++ l ∷ []) ≡ true →
    (has (is_entry n) (journal ++ l ∷ []) ≡ true) ⊎ IsIn n (numbers gs)
opened_stays journal l fs gs none stay h n e = ⊎_elim
    (λ (k : has (is_entry n) journal ≡ true). inl (has_stays (is_entry n) journal l k))
    (λ (k : IsIn n (numbers fs)). ⊎_elim (λ (i : is_entry n l.event ≡ true). inl (has_now (is_entry n) journal l i)) inr
    (stay n k))
    (h n (sym (has_same (is_asked n) journal l (none n)) ∙ e))

telling_stays : (o : Opening) (journal : List Logged) (l : Logged) (works now : List Arrival) (m : Message) →
    ((n : ℕ) (a : Arrival) → numbered n works ≡ Some a → numbered n now ≡ Some a) →
    IsCommandNo m.by works ⊎ Telling o journal works m → IsCommandNo m.by now ⊎ Telling o (journal ++ l ∷ []) now m
telling_stays o journal l works now m old (inl h) = inl (h.0, h.1, old m.by _ h.2)
telling_stays o journal l works now m old (inr h) = inr (record {
  node = h.node;
  ask = h.ask;
  other = h.other;
  command = h.command;
  by = old m.by _ h.by;
  no = old m.no _ h.no;
  asking = has_stays (is_asked m.by) journal l h.asking;
  told = h.told ∙ ap (λ b. b && not (is_same_nexus h.ask.nexus h.command.nexus))
      (sym (told_stays o m.by journal l h.asking));
})

pub steady_event : (o : Opening) (s : State) (journal : List Logged) (l : Logged) → l.work ≡ None →
    is_plain l.event ≡ true → Steady o s journal → Steady o (after s l) (journal ++ l ∷ [])
steady_event o s journal l no_work plain h = record {
  at = replayed o s journal l h.at;
  works = ap (map (λ (a : Arrival). a.work)) g.arrivals ∙ h.works ∙ sym (works_in-none journal l no_work);
  known = λ x hx. let y = g.tasks x hx in ap (numbered x.no) g.arrivals ∙ ap (λ n. numbered n s.arrivals) (sym y.2)
      ∙ h.known y.0 y.1 ∙ ap Some y.3;
  asked = λ p hp. let q = g.from p hp in let a = h.asked q.0 q.1 in (
    a.0,
    ap (numbered p.no) g.arrivals ∙ ap (λ n. numbered n s.arrivals) (sym q.2) ∙ a.1 ∙ ap
        (λ z. Some (record { node = a.0; work = work.Ask z })) q.3,
    subst (λ n. has (is_asked n) (journal ++ l ∷ []) ≡ true) q.2 (has_stays (is_asked q.0.no) journal l a.2),
  );
  opened = opened_stays journal l s.functions (after s l).functions (unasked l.event plain) g.stay h.opened;
  sorted = g.sorted h.sorted;
  stops = λ m i is. ⊎_elim
      (λ (k : HasMessage s.to_b m). telling_stays o journal l s.arrivals (after s l).arrivals m
      (λ n a e. ap (numbered n) g.arrivals ∙ e) (h.stops m k is))
      (λ (k : (y : Task) × Has s.tasks y × (y.no ≡ m.by)). inl (
        k.0.node,
        k.0.command,
        ap (numbered m.by) g.arrivals ∙ ap (λ n. numbered n s.arrivals) (sym k.2)
            ∙ h.known k.0 k.1,
      ))
      (g.stops m i is);
}
  where
    g : Goes l.event s (after s l)
    g = goes_event s l plain

pub arrivals_keep : (s : State) (l : Logged) → is_plain l.event ≡ true → (after s l).arrivals ≡ s.arrivals
arrivals_keep s l plain = (goes_event s l plain).arrivals

-- a message that comes leaves the control
pub delivered_control : (node : Node) (k : Kind2) (n : ℕ) (s : State) →
    (after s (told (event.Deliver node k n))).control ≡ s.control
unfolding after
delivered_control A kind.Ask n s = refl
delivered_control A kind.Function n s = refl
delivered_control A kind.Finish n s = refl
delivered_control A kind.Stopped n s = refl
delivered_control A kind.Grant n s = refl
delivered_control A kind.Stop n s = refl
delivered_control A kind.Reply n s = refl
delivered_control A kind.Response n s = refl
delivered_control B kind.Ask n s = refl
delivered_control B kind.Function n s = refl
delivered_control B kind.Finish n s = refl
delivered_control B kind.Stopped n s = refl
delivered_control B kind.Stop n s = refl
delivered_control B kind.Reply n s = refl
delivered_control B kind.Response n s = refl
delivered_control B kind.Grant n s = go (task_of n s.tasks)
  where
    t : State
    t = record s { to_b = drop 1 s.to_b }

    begins : (x : Task) (stage : Stage) → (begun_at_b stage x t).control ≡ s.control
    begins x Waiting = refl
    begins x (Here d g) = refl
    begins x Granted = refl
    begins x (There d g) = refl
    begins x Over = refl

    go : (found : Option Task) → (after_grant found t).control ≡ s.control
    go None = refl
    go (Some x) = begins x x.stage

-- a work comes
pub steady_came : (o : Opening) (s : State) (journal : List Logged) (n : ℕ) (node : Node) (w : KeptWork) →
    Steady o s journal → Steady o (after s (arrived n node w)) (journal ++ arrived n node w ∷ [])
steady_came o s journal n node w h = subst (λ (t : State). Steady o t (journal ++ l ∷ [])) (sym state.1) (record {
  at = sym state.1 ∙ replayed o s journal l h.at;
  works = map-append (λ (a : Arrival). a.work) s.arrivals (arrival ∷ []) ∙ ap (λ ws. ws ++ w ∷ []) h.works ∙ sym
      (works_in-more journal l (Some w) refl);
  known = λ x hx. numbered_front x.no s.arrivals arrival _ (h.known x hx);
  asked = λ p hp. let a = h.asked p hp in
      (a.0, numbered_front p.no s.arrivals arrival _ a.1, has_stays (is_asked p.no) journal l a.2);
  opened = opened_stays journal l s.functions s.functions (λ m. refl) (λ m i. inr i) h.opened;
  sorted = h.sorted;
  stops = λ m i is. telling_stays o journal l s.arrivals (s.arrivals ++ arrival ∷ []) m
      (λ k a e. numbered_front k s.arrivals arrival a e) (h.stops m i is);
})
  where
    l : Logged
    l = arrived n node w

    arrival : Arrival
    arrival = record { node = node; work = w }

    state : (room : Room) × (after s l ≡ came_with s arrival room (sent_if (is_remote node) n w s.to_a))
    state = after_arrived n node w s

-- a command enters
pub after_entered : (n : ℕ) (node : Node) (c : Command) (s : State) →
    arrival_of n s ≡ Some (record { node = node; work = work.Cmd c }) →
    after s (told (event.Enter n)) ≡ record s { tasks = queued (new_task n node c) s.tasks }
unfolding after
after_entered n node c s e = ap (λ a. after_enter n a s) e

pub steady_entered : (o : Opening) (s : State) (journal : List Logged) (n : ℕ) (node : Node) (c : Command) →
    numbered n s.arrivals ≡ Some (record { node = node; work = work.Cmd c }) → Steady o s journal →
    Steady o (after s (told (event.Enter n))) (journal ++ told (event.Enter n) ∷ [])
steady_entered o s journal n node c came h = subst (λ (t : State). Steady o t (journal ++ l ∷ [])) (sym state) (record {
  at = sym state ∙ replayed o s journal l h.at;
  works = h.works ∙ sym (works_in-none journal l refl);
  known = λ x hx. ⊎_elim (h.known x)
      (λ (e : new_task n node c ≡ x). subst (λ (z : Task). numbered z.no s.arrivals ≡ Some (arrival_for z)) e came)
      (has_queued (new_task n node c) s.tasks x hx);
  asked = λ p hp. let a = h.asked p hp in (a.0, a.1, has_stays (is_asked p.no) journal l a.2);
  opened = opened_stays journal l s.functions s.functions (λ m. refl) (λ m i. inr i) h.opened;
  sorted = h.sorted;
  stops = λ m i is. telling_stays o journal l s.arrivals s.arrivals m (λ k a e. e) (h.stops m i is);
})
  where
    l : Logged
    l = told (event.Enter n)

    state : after s l ≡ record s { tasks = queued (new_task n node c) s.tasks }
    state = after_entered n node c s came

-- a function is taken up
pub after_taken : (n : ℕ) (node : Node) (ask : Ask) (s : State) →
    arrival_of n s ≡ Some (record { node = node; work = work.Ask ask }) →
    after s (told (event.Asked n)) ≡ taken_up n ask s
unfolding after
after_taken n node ask s e = ap (λ a. after_asked n a s) e

-- its works and its control stay
pub asked_keeps : (n : ℕ) (node : Node) (ask : Ask) (s : State) →
    arrival_of n s ≡ Some (record { node = node; work = work.Ask ask }) →
    ((after s (told (event.Asked n))).arrivals ≡ s.arrivals) × ((after s (told (event.Asked n))).control ≡ s.control)
asked_keeps n node ask s e = (
  ap (λ (t : State). t.arrivals) (after_taken n node ask s e),
  ap (λ (t : State). t.control)
      (after_taken n node ask s e),
)

pub record StopOf (s : State) (n : ℕ) (ask : Ask) (ts : List Task) (m : Message) : Type 0 where
  pub task : Task
  pub has : Has ts task
  pub no : m.no ≡ task.no
  pub by : m.by ≡ n
  pub told : m.told ≡ is_told s ask task

stop_of : (s : State) (n : ℕ) (ask : Ask) (ts : List Task) (m : Message) → HasMessage (stops_by s n ask ts) m →
    StopOf s n ask ts m
stop_of s n ask [] m h = absurd h
stop_of s n ask (x ∷ ts) m h = go (wants_stop s ask x) h (stop_of s n ask ts m)
  where
    later : StopOf s n ask ts m → StopOf s n ask (x ∷ ts) m
    later r = record { task = r.task; has = inr r.has; no = r.no; by = r.by; told = r.told }

    go : (t : Bool) → HasMessage
        (cond t (stop x.no n (is_told s ask x) ∷ stops_by s n ask ts) (stops_by s n ask ts)) m →
        (HasMessage (stops_by s n ask ts) m → StopOf s n ask ts m) → StopOf s n ask (x ∷ ts) m
    go true (inl e) rec = record {
      task = x;
      has = inl refl;
      no = ap (λ (z : Message). z.no) (sym e);
      by = ap
          (λ (z : Message). z.by) (sym e);
      told = ap (λ (z : Message). z.told) (sym e);
    }
    go true (inr h) rec = later (rec h)
    go false h rec = later (rec h)

pub steady_asked : (o : Opening) (s : State) (journal : List Logged) (n : ℕ) (node : Node) (ask : Ask) →
    numbered n s.arrivals ≡ Some (record { node = node; work = work.Ask ask }) → has (is_asked n) journal ≡ false →
    s.control ≡ (serial_disk o journal).control →
    Steady o s journal → Steady o (after s (told (event.Asked n))) (journal ++ told (event.Asked n) ∷ [])
steady_asked o s journal n node ask came new control h =
    subst (λ (t : State). Steady o t (journal ++ l ∷ [])) (sym state) (record {
      at = sym state ∙ replayed o s journal l h.at;
      works = h.works ∙ sym (works_in-none journal l refl);
      known = h.known;
      asked = λ q hq. ⊎_elim
          (λ (k : HasOpen s.functions q). let a = h.asked q k in (a.0, a.1, has_stays (is_asked q.no) journal l a.2))
          (λ (k : p ≡ q). (node, subst (λ (z : Open). numbered z.no s.arrivals ≡ Some (record { node = node; work = work.Ask z.ask })) k came, subst (λ (z : Open). has (is_asked z.no) (journal ++ l ∷ []) ≡ true) k now))
          (has_with_function p s.functions q hq);
      opened = λ m e. opens m e (cases_eq m n);
      sorted =
          ascending_with p s.functions
          (λ i. let q = in_open s.functions n i in
          both_ways (has (is_asked n) journal) new
          (subst (λ k. has (is_asked k) journal ≡ true) q.2 (h.asked q.0 q.1).2)) h.sorted;
      stops = λ m i is. ⊎_elim
          (λ (k : HasMessage s.to_b m). telling_stays o journal l s.arrivals s.arrivals m (λ k a e. e) (h.stops m k is))
          (λ (k : HasMessage (stops_by s n ask s.tasks) m). let r = stop_of s n ask s.tasks m k in inr (record {
            node = node;
            ask = ask;
            other = r.task.node;
            command = r.task.command;
            by = ap (λ i. numbered i s.arrivals) r.by ∙ came;
            no = ap (λ i. numbered i s.arrivals) r.no ∙ h.known r.task r.has;
            asking = subst (λ i. has (is_asked i) (journal ++ l ∷ []) ≡ true) (sym r.by) now;
            told = r.told ∙ ap (λ b. b && not (is_same_nexus ask.nexus r.task.command.nexus))
                (said ∙ ap (λ i. told_aborts_at o i (journal ++ l ∷ [])) (sym r.by));
          }))
          (message_append s.to_b (stops_by s n ask s.tasks) m i);
    })
  where
    l : Logged
    l = told (event.Asked n)

    p : Open
    p = record { no = n; ask = ask; awaits = awaited_by ask s.tasks; cut = [] }

    state : after s l ≡ taken_up n ask s
    state = after_taken n node ask s came

    now : has (is_asked n) (journal ++ l ∷ []) ≡ true
    now = has_now (is_asked n) journal l (eq-eqb n n refl)

    said : tells_aborts s.control ≡ told_aborts_at o n (journal ++ l ∷ [])
    said = ap tells_aborts control ∙ ap (λ (es : List Logged). tells_aborts (serial_disk o es).control)
        (sym (until_now (is_asked n) journal l new (eq-eqb n n refl)))

    opens : (m : ℕ) → has (is_asked m) (journal ++ l ∷ []) ≡ true → (m ≡ n) ⊎ (m ≡ n → ⊥) →
        (has (is_entry m) (journal ++ l ∷ []) ≡ true) ⊎ IsIn m (numbers (with_function p s.functions))
    opens m e (inl k) =
        inr (subst (λ i. IsIn i (numbers (with_function p s.functions))) (sym k) (with_in_itself p s.functions))
    opens m e (inr k) = ⊎_elim
        (λ (z : has (is_entry m) journal ≡ true). inl (has_stays (is_entry m) journal l z))
        (λ (z : IsIn m (numbers s.functions)). inr (with_in p s.functions m z))
        (h.opened m (sym (has_same (is_asked m) journal l (ne_eqb n m (λ i. k (sym i)))) ∙ e))
