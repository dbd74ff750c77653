-- Works come by arrivals alone, and take their room.
use Rattle.std.proofs.Common.{◌≡◌, ℕ, Bool, true, false, List, [], ◌∷◌, ◌++◌, Option, Some, None, length, map, take}
use Rattle.std.proofs.Common.{drop, refl, sym, ap, ◌∙◌, subst, cond, append-nil}
use Rattle.std.specs.Prelude.{fold}
use Rattle.std.proofs.lemmas.List.{map-append}
use Rattle.ct_word.specs.declared.names.Node.{Node}
use Rattle.ct_word.specs.declared.names.Node.TheVariants.{A, B}
use Rattle.ct_sense.specs.declared.reply.Reply.{Reply}
use Rattle.ct_book.specs.declared.work.Work.TheVariants as work
use Rattle.ct_book.specs.declared.event.Event.{Event}
use Rattle.ct_book.specs.declared.event.Event.TheVariants as event
use Rattle.ct_book.specs.declared.event.Kind2.{Kind2}
use Rattle.ct_book.specs.declared.event.Kind2.TheVariants as kind
use Rattle.ct_book.specs.declared.event.Why.{Why}
use Rattle.ct_book.specs.declared.event.Why.TheVariants.{By, Medium}
use Rattle.ct_book.specs.declared.event.Logged.{Logged}
use Rattle.ct_book.specs.Journals.{KeptWork, arrived, works_in}
use Rattle.ct_exec.specs.Executions.{execute, plan_in}
use Rattle.ct_machine.specs.declared.act.Act.{Act}
use Rattle.ct_machine.specs.declared.act.Act.TheVariants as act
use Rattle.ct_machine.specs.declared.act.Answer.TheVariants as answer
use Rattle.ct_machine.specs.declared.act.Opening.{Opening}
use Rattle.ct_machine.specs.States.{Stage, Waiting, Here, Granted, There, Over, Task, Open, Message, Arrival, State}
use Rattle.ct_machine.specs.States.{disk_of, arrival_of, task_of, function_of}
use Rattle.ct_machine.specs.States.{is_remote}
use Rattle.ct_machine.specs.Events.Sends.{message, to_b_if, came_remote, answered, to_a}
use Rattle.ct_machine.specs.Events.Arrivals.{entered, after_enter, kind_of}
use Rattle.ct_machine.specs.Events.Moves.{staged, moved_from, moved_at, after_moved}
use Rattle.ct_machine.specs.Events.Ends.{leaves, executed_at_once, ended_at, after_ended, cut_at, after_cut}
use Rattle.ct_machine.specs.Events.Functions.{asked_for, after_asked, works_of, closed}
use Rattle.ct_machine.specs.Events.Deliveries.{came_to_a, begun_at_b, after_grant, came_to_b, after_deliver}
use Rattle.ct_machine.specs.Events.{after_event, after}
use Rattle.ct_machine.specs.Acts.Turns.{Turn, nothing, writes, says}
use Rattle.ct_machine.specs.Acts.Entries.{turned_cause, entering_with, entering}
use Rattle.ct_machine.specs.Acts.Functions.{asking, open_numbers}
use Rattle.ct_machine.specs.Acts.Answers.{Done}
use Rattle.ct_machine.specs.Acts.Arrivals.{next_number, has_room_for, arriving_at, arriving_here}
use Rattle.ct_machine.specs.Acts.Messages.{taking_in, coming_in, coming_to_a, coming_to, delivering_first, messages_to}
use Rattle.ct_machine.specs.Acts.Messages.{delivering}
use Rattle.ct_machine.specs.Acts.Next.{next_step, stepping_next, doing_next}
use Rattle.ct_machine.specs.Acts.{doing, act_of}
use Rattle.ct_machine.specs.Runs.{replay, IsRun}
use Rattle.ct_machine.specs.Laws.Works.{brought, room_without, Brings}
use Rattle.ct_plan.proofs.Performing.{size_after_all}
use Rattle.ct_law.proofs.Events.Nodes.{arriving_by, came_in}
use Rattle.ct_law.proofs.Rows.Commands
use Rattle.ct_law.proofs.Runs.{is_free, Turning, asks, closes_all, comes_to_b, steps, replay-act}
use Rattle.ct_law.proofs.Walks.Comings.{every_run}

-- no work came, and the blocks are as many
pub record Still (before after : State) : Type 0 where
  pub arrivals : after.arrivals ≡ before.arrivals
  pub room : after.room ≡ before.room
  pub size : length after.blocks ≡ length before.blocks

same : (s : State) → Still s s
same s = record { arrivals = refl; room = refl; size = refl }

further : (s t u : State) → Still s t → Still t u → Still s u
further s t u h k = record { arrivals = k.arrivals ∙ h.arrivals; room = k.room ∙ h.room; size = k.size ∙ h.size }

-- Events

still_answered : (kind : Kind2) (number : ℕ) (s : State) → Still s (answered kind number s)
still_answered kind number s = go (came_remote (arrival_of number s))
  where
    go : (t : Bool) → Still s (to_b_if t (message kind number) s)
    go true = record { arrivals = refl; room = refl; size = refl }
    go false = same s

still_enter : (number : ℕ) (found : Option Arrival) (s : State) → Still s (after_enter number found s)
still_enter number None s = same s
still_enter number (Some arrival) s = go arrival.work
  where
    go : (w : KeptWork) → Still s (entered number arrival.node w s)
    go (work.Cmd command) = record { arrivals = refl; room = refl; size = refl }
    go (work.Ask ask) = same s

still_staged : (stage : Stage) (found : Option Task) (s : State) → Still s (staged stage found s)
still_staged stage None s = same s
still_staged stage (Some task) s = record { arrivals = refl; room = refl; size = refl }

still_moved : (found : Option Task) (count : ℕ) (s : State) → Still s (after_moved found count s)
still_moved None count s = same s
still_moved (Some task) count s = go task.stage
  where
    moves : (done : ℕ) (got : List ℕ) → Still s (moved_from task count done got s)
    moves done got = record {
      arrivals = refl;
      room = refl;
      size = size_after_all task.command.out (take count (drop done (plan_in (length s.blocks) task.command)))
          (record { blocks = s.blocks; got = got });
    }

    go : (stage : Stage) → Still s (moved_at stage task count s)
    go Waiting = same s
    go (Here done got) = moves done got
    go Granted = same s
    go (There done got) = moves done got
    go Over = same s

still_answers : (what : Kind2) (number : ℕ) (s t : State) → Still s t → Still s (answered what number t)
still_answers what number s t h = further s t (answered what number t) h (still_answered what number t)

still_leaves : (number : ℕ) (s : State) → Still s (answered kind.Reply number (leaves number s))
still_leaves number s =
    still_answers kind.Reply number s (leaves number s) (record { arrivals = refl; room = refl; size = refl })

still_executed : (task : Task) (s : State) → Still s (executed_at_once task s)
still_executed task s =
    let run = execute (disk_of s) task.command in
    let h =
    still_answers kind.Reply task.no s
    (leaves task.no (record s { control = run.disk.control; blocks = run.disk.blocks }))
    (record { arrivals = refl; room = refl; size = Commands.laws.sizes (disk_of s) task.command }) in
    record { arrivals = h.arrivals; room = h.room; size = h.size }

still_ended : (found : Option Task) (s : State) → Still s (after_ended found s)
still_ended None s = same s
still_ended (Some task) s = go task.stage
  where
    go : (stage : Stage) → Still s (ended_at stage task s)
    go Waiting = still_executed task s
    go (Here done got) = still_leaves task.no s
    go Granted = still_leaves task.no s
    go (There done got) = record { arrivals = refl; room = refl; size = refl }
    go Over = still_leaves task.no s

still_cut : (why : Why) (found : Option Task) (s : State) → Still s (after_cut why found s)
still_cut why None s = same s
still_cut why (Some task) s = go why task.stage
  where
    go : (why : Why) (stage : Stage) → Still s (cut_at why stage task s)
    go (By by) Waiting = record { arrivals = refl; room = refl; size = refl }
    go (By by) (Here done got) = record { arrivals = refl; room = refl; size = refl }
    go (By by) Granted = record { arrivals = refl; room = refl; size = refl }
    go (By by) (There done got) = record { arrivals = refl; room = refl; size = refl }
    go (By by) Over = record { arrivals = refl; room = refl; size = refl }
    go Medium Waiting = still_leaves task.no s
    go Medium (Here done got) = still_leaves task.no s
    go Medium Granted = still_leaves task.no s
    go Medium (There done got) = record { arrivals = refl; room = refl; size = refl }
    go Medium Over = still_leaves task.no s

still_asked : (number : ℕ) (found : Option Arrival) (s : State) → Still s (after_asked number found s)
still_asked number None s = same s
still_asked number (Some arrival) s = go arrival.work
  where
    go : (w : KeptWork) → Still s (asked_for number w s)
    go (work.Cmd command) = same s
    go (work.Ask ask) = record { arrivals = refl; room = refl; size = refl }

still_closed : (found : Option Open) (s : State) → Still s (closed found s)
still_closed None s = same s
still_closed (Some function) s = record { arrivals = refl; room = refl; size = refl }

still_deliver : (node : Node) (what : Kind2) (number : ℕ) (s : State) → Still s (after_deliver node what number s)
still_deliver A what number s = go what
  where
    go : (k : Kind2) → Still s (came_to_a k number (record s { to_a = drop 1 s.to_a }))
    go kind.Ask = record { arrivals = refl; room = refl; size = refl }
    go kind.Function = record { arrivals = refl; room = refl; size = refl }
    go kind.Grant = record { arrivals = refl; room = refl; size = refl }
    go kind.Stop = record { arrivals = refl; room = refl; size = refl }
    go kind.Finish = record { arrivals = refl; room = refl; size = refl }
    go kind.Stopped = record { arrivals = refl; room = refl; size = refl }
    go kind.Reply = record { arrivals = refl; room = refl; size = refl }
    go kind.Response = record { arrivals = refl; room = refl; size = refl }
still_deliver B what number s = go what
  where
    t : State
    t = record s { to_b = drop 1 s.to_b }

    begun : (task : Task) (stage : Stage) → Still s (begun_at_b stage task t)
    begun task Waiting = record { arrivals = refl; room = refl; size = refl }
    begun task (Here done got) = record { arrivals = refl; room = refl; size = refl }
    begun task Granted = record { arrivals = refl; room = refl; size = refl }
    begun task (There done got) = record { arrivals = refl; room = refl; size = refl }
    begun task Over = record { arrivals = refl; room = refl; size = refl }

    granted : (found : Option Task) → Still s (after_grant found t)
    granted None = record { arrivals = refl; room = refl; size = refl }
    granted (Some task) = begun task task.stage

    go : (k : Kind2) → Still s (came_to_b k number t)
    go kind.Ask = record { arrivals = refl; room = refl; size = refl }
    go kind.Function = record { arrivals = refl; room = refl; size = refl }
    go kind.Grant = granted (task_of number t.tasks)
    go kind.Stop = record { arrivals = refl; room = refl; size = refl }
    go kind.Finish = record { arrivals = refl; room = refl; size = refl }
    go kind.Stopped = record { arrivals = refl; room = refl; size = refl }
    go kind.Reply = record { arrivals = refl; room = refl; size = refl }
    go kind.Response = record { arrivals = refl; room = refl; size = refl }

abbrev comes : Event → Bool
comes (event.Came number node line) = true
comes _ = false

still_event : (s : State) (e : Event) (w : Option KeptWork) → comes e ≡ false → Still s (after_event e w s)
still_event s (event.Came number node line) w h = absurd (cc)
still_event s (event.Enter number) w h = still_enter number (arrival_of number s) s
still_event s (event.Turned number) w h = still_answered kind.Reply number s
still_event s (event.Begun number) w h = still_staged (Here 0 []) (task_of number s.tasks) s
still_event s (event.Granted number) w h =
    let k = still_staged Granted (task_of number s.tasks) s in
    record { arrivals = k.arrivals; room = k.room; size = k.size }
still_event s (event.Moved number count) w h = still_moved (task_of number s.tasks) count s
still_event s (event.Ended number) w h = still_ended (task_of number s.tasks) s
still_event s (event.Cut number puts why told) w h = still_cut why (task_of number s.tasks) s
still_event s (event.Asked number) w h = still_asked number (arrival_of number s) s
still_event s (event.Closed number outcome) w h =
    still_answers kind.Response number s (closed (function_of number s.functions) s)
    (still_closed (function_of number s.functions) s)
still_event s (event.Deliver node what number) w h = still_deliver node what number s

still_after : (s : State) (l : Logged) → comes l.event ≡ false → Still s (after s l)
unfolding after
still_after s l h = still_event s l.event l.work h

-- Turns

abbrev StillTurn : State → Turn → Type 0
StillTurn s t = Still s t.state

free_comes : (e : Event) → is_free e ≡ true → comes e ≡ false
free_comes (event.Came number node line) h = absurd (cc)
free_comes (event.Enter number) h = refl
free_comes (event.Turned number) h = refl
free_comes (event.Begun number) h = refl
free_comes (event.Granted number) h = refl
free_comes (event.Moved number count) h = refl
free_comes (event.Ended number) h = refl
free_comes (event.Cut number puts why told) h = refl
free_comes (event.Asked number) h = refl
free_comes (event.Closed number outcome) h = refl
free_comes (event.Deliver node what number) h = refl

stills : Turning StillTurn
stills = record {
  none = same;
  one = λ s l e. still_after s l (free_comes l.event e);
  both = λ s t next h k. further s t.state (next t.state).state h k;
}

still_entering : (number : ℕ) (refused : Option Reply) (s : State) → StillTurn s (entering_with refused number s)
still_entering number (Some reply) s = still_after s _ refl
still_entering number None s = still_after s _ refl

still_in : (number : ℕ) (w : KeptWork) (s : State) → StillTurn s (taking_in number w s)
still_in number (work.Cmd command) s = still_entering number (turned_cause s command) s
still_in number (work.Ask ask) s = asks StillTurn stills number ask s

still_coming : (number : ℕ) (found : Option Arrival) (s : State) → StillTurn s (coming_in number found s)
still_coming number None s = same s
still_coming number (Some arrival) s = still_in number arrival.work s

still_a : (what : Kind2) (m : Message) (s : State) → StillTurn s (coming_to_a what m s)
still_a kind.Ask m s = still_coming m.no (arrival_of m.no s) s
still_a kind.Function m s = still_coming m.no (arrival_of m.no s) s
still_a kind.Finish m s = closes_all StillTurn stills (open_numbers s) s
still_a kind.Stopped m s = closes_all StillTurn stills (open_numbers s) s
still_a kind.Grant m s = same s
still_a kind.Stop m s = same s
still_a kind.Reply m s = same s
still_a kind.Response m s = same s

still_to : (node : Node) (m : Message) (s : State) → StillTurn s (coming_to node m s)
still_to A m s = still_a m.kind m s
still_to B m s = comes_to_b StillTurn stills m.kind m s

still_delivering : (node : Node) (s : State) → StillTurn s (delivering node s).turn
still_delivering node s = go (messages_to node s)
  where
    go : (ms : List Message) → StillTurn s (delivering_first node ms s).turn
    go [] = same s
    go (m ∷ ms) =
        let first : Turn = says (event.Deliver node m.kind m.no) s in
        further s first.state (coming_to node m first.state).state (still_after s _ refl) (still_to node m first.state)

still_next : (next : Option ℕ) (count : ℕ) (fault : Option ℕ) (s : State) →
    StillTurn s (stepping_next next count fault s).turn
still_next None count fault s = same s
still_next (Some number) count fault s = steps StillTurn stills (task_of number s.tasks) number count fault s

-- Arrivals

-- a work came, and took its room
pub record Came (before after : State) (w : KeptWork) : Type 0 where
  pub works : works_of after ≡ works_of before ++ w ∷ []
  pub room : after.room ≡ room_without (length before.blocks) before.room w
  pub size : length after.blocks ≡ length before.blocks

came_then : (s t u : State) (w : KeptWork) → Came s t w → Still t u → Came s u w
came_then s t u w h k = record {
  works = ap (λ xs. map (λ (x : Arrival). x.work) xs) k.arrivals ∙ h.works;
  room = k.room
      ∙ h.room;
  size = k.size ∙ h.size;
}

came_first : (number : ℕ) (node : Node) (w : KeptWork) (s : State) → Came s (writes (arrived number node w) s).state w
unfolding after
came_first number node w s = go (is_remote node) w
  where
    go : (t : Bool) (w : KeptWork) →
        Came s (cond {A = State} t (to_a (message (kind_of w) number) (came_in (record { node = node; work = w }) s))
        (came_in (record { node = node; work = w }) s)) w
    go true (work.Cmd command) = record {
      works = map-append (λ (x : Arrival). x.work) s.arrivals
          (record { node = node; work = work.Cmd command } ∷ []);
      room = refl;
      size = refl;
    }
    go true (work.Ask ask) = record {
      works = map-append (λ (x : Arrival). x.work) s.arrivals
          (record { node = node; work = work.Ask ask } ∷ []);
      room = refl;
      size = refl;
    }
    go false (work.Cmd command) = record {
      works = map-append (λ (x : Arrival). x.work) s.arrivals
          (record { node = node; work = work.Cmd command } ∷ []);
      room = refl;
      size = refl;
    }
    go false (work.Ask ask) = record {
      works = map-append (λ (x : Arrival). x.work) s.arrivals
          (record { node = node; work = work.Ask ask } ∷ []);
      room = refl;
      size = refl;
    }

came_at : (node : Node) (w : KeptWork) (number : ℕ) (s : State) → Came s (arriving_at node w number s).turn.state w
came_at node w number s =
    arriving_by (λ t. Came s t.state w) node w number s (λ there. came_first number node w s) (λ here. taken w)
  where
    taken : (w : KeptWork) → Came s (arriving_here node w number s).turn.state w
    taken (work.Cmd command) =
        let first : Turn = writes (arrived number node (work.Cmd command)) s in
        came_then s first.state (entering number command first.state).state (work.Cmd command)
        (came_first number node (work.Cmd command) s)
        (still_entering number (turned_cause first.state command) first.state)
    taken (work.Ask ask) =
        let first : Turn = writes (arrived number node (work.Ask ask)) s in
        came_then s first.state (asking number ask first.state).state (work.Ask ask)
        (came_first number node (work.Ask ask) s) (asks StillTurn stills number ask first.state)

-- Acts

brings_none : (s t : State) (a : Act) → brought s a ≡ [] → Still s t → Brings s t a
brings_none s t a none h = record {
  works = ap (λ xs. map (λ (x : Arrival). x.work) xs) h.arrivals ∙ sym (append-nil (works_of s)) ∙ ap
      (λ ws. works_of s ++ ws) (sym none);
  room = h.room ∙ ap (λ ws. fold (room_without (length s.blocks)) s.room ws) (sym none);
  size = h.size;
}

brings_one : (s t : State) (a : Act) (w : KeptWork) → brought s a ≡ w ∷ [] → Came s t w → Brings s t a
brings_one s t a w one h = record {
  works = h.works ∙ ap (λ ws. works_of s ++ ws) (sym one);
  room = h.room ∙ ap (λ ws. fold (room_without (length s.blocks)) s.room ws) (sym one);
  size = h.size;
}

brings : (s : State) (a : Act) (fault : Option ℕ) → Brings s (doing s a fault).turn.state a
brings s (act.Arrive node w) fault = go (has_room_for w s) refl
  where
    go : (t : Bool) → has_room_for w s ≡ t →
        Brings s (cond {A = Done} t (arriving_at node w (next_number s) s)
        (record { turn = nothing s; answer = answer.NoRoom w })).turn.state (act.Arrive node w)
    go true e =
        brings_one s (arriving_at node w (next_number s) s).turn.state (act.Arrive node w) w
        (ap (λ t. cond t (w ∷ []) []) e) (came_at node w (next_number s) s)
    go false e = brings_none s s (act.Arrive node w) (ap (λ t. cond t (w ∷ []) []) e) (same s)
brings s (act.Step number count) fault =
    brings_none s (doing s (act.Step number count) fault).turn.state (act.Step number count) refl
    (steps StillTurn stills (task_of number s.tasks) number count fault s)
brings s (act.Deliver node) fault =
    brings_none s (doing s (act.Deliver node) fault).turn.state (act.Deliver node) refl (still_delivering node s)
brings s (act.Next count) fault =
    brings_none s (doing s (act.Next count) fault).turn.state (act.Next count) refl (go s.to_a s.to_b)
  where
    go : (to_a to_b : List Message) → StillTurn s (doing_next to_a to_b count fault s).turn
    go (m ∷ ms) to_b = still_delivering A s
    go [] (m ∷ ms) = still_delivering B s
    go [] [] = still_next (next_step s) count fault s

pub arrivals_alone : (o : Opening) (journal : List Logged) (a : Act) (fault : Option ℕ) →
    Brings (replay o journal) (replay o (journal ++ (act_of (replay o journal) a fault).journal)) a
unfolding act_of
arrivals_alone o journal a fault =
    subst (λ t. Brings (replay o journal) t a) (sym (replay-act o journal a fault)) (brings (replay o journal) a fault)

pub works_kept : (o : Opening) (journal : List Logged) → IsRun o journal →
    works_of (replay o journal) ≡ works_in journal
works_kept o journal run = (every_run Commands.laws o journal run).inv.frame.works
