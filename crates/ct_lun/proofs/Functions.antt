-- A task management function: it is taken up, cuts what it hits, one command after another, and is answered.
use Rattle.std.proofs.Common.{◌≡◌, ℕ, zero, suc, ◌+◌, ◌-◌, ◌<◌, ◌≤◌, List, [], ◌∷◌, ◌++◌, Bool, true, false, not, ◌&&◌}
use Rattle.std.proofs.Common.{if◌then◌else◌, Option, Some, None, Result, Ok, Err, length, map, take, drop, slice_set, refl, sym, ap, ◌∙◌, subst, arith}
use Rattle.std.proofs.Common.{length-append, append_assoc, nat_lt, nat_le, ltb-true, lt-ltb}
use Rattle.std.specs.List.{filter, list_any}
use Rattle.std.proofs.lemmas.Bool.{false≢true}
use Rattle.std.proofs.lemmas.Bool.Decides.{nat_tests}
use Rattle.ct_word.specs.declared.names.Node.TheVariants.{A}
use Rattle.std.proofs.lemmas.List.{append-nil, drop_all, length-map}
use Rattle.ct_word.specs.declared.names.Nexus.{Nexus}
use Rattle.ct_word.specs.Nexuses.{is_same_nexus, with_nexus, place_of}
use Rattle.ct_tmf.specs.declared.function.Ask.{Ask}
use Rattle.ct_tmf.specs.declared.function.Function.{Function}
use Rattle.ct_tmf.specs.declared.function.Function.TheVariants.{AbortTask, AbortTaskSet, ClearTaskSet, LunReset, NexusReset, QueryTask, QueryTaskSet, ClearAca}
use Rattle.ct_tmf.specs.declared.function.Outcome.{Outcome}
use Rattle.ct_tmf.specs.Reaches.{hits, seeks}
use Rattle.ct_plan.specs.declared.operation.BlockOp.{BlockOp}
use Rattle.ct_plan.specs.Plans.{puts_among}
use Rattle.ct_book.specs.declared.work.Work.TheVariants as work
use Rattle.ct_book.specs.declared.event.Event.{Event}
use Rattle.ct_book.specs.declared.event.Event.TheVariants as event
use Rattle.ct_book.specs.declared.event.Kind2.TheVariants as kind
use Rattle.ct_book.specs.declared.event.Why.TheVariants.{By}
use Rattle.ct_book.specs.declared.event.Logged.{Logged}
use Rattle.ct_book.specs.Journals.{KeptWork, BookState, numbered, has_room, with_work, arrived, with_event}
use Rattle.ct_book.specs.Histories.{with_other, others_of, set_of}
use Rattle.ct_exec.specs.Controls.{ControlState, tells_aborts}
use Rattle.ct_exec.specs.Closing.{closed_control, closing_control}
use Rattle.ct_exec.specs.Executions.{plan_in}
use Rattle.ct_machine.specs.States.{Stage, Waiting, Here, Task, Open, Arrival, State, is_here, done_at, arrival_of, task_of, function_of}
use Rattle.ct_machine.specs.Events.{after, after_event, after_events}
use Rattle.ct_machine.specs.Events.Sends.{stop, answered, came_remote}
use Rattle.ct_machine.specs.Events.Ends.{leaves, noted, cut_at}
use Rattle.ct_machine.specs.Events.Functions.{is_hit, is_awaited, awaited_by, is_told, stops_by, others_cut, without_function, closed}
use Rattle.ct_machine.specs.Acts.Turns.{Turn, nothing, says, followed}
use Rattle.ct_machine.specs.Acts.Functions.{is_sought, outcome_of, puts_of, cutting, numbers_of, cutting_all, closing, asking}
use Rattle.ct_machine.specs.declared.act.Answer.TheVariants as answer
use Rattle.ct_machine.specs.Acts.Arrivals.{has_room_for, next_number, arriving, arriving_at}
use Rattle.ct_machine.specs.Acts.Answers.{Done, unchanged, outcome_among, asked_by, asked_answer}
use Rattle.ct_lun.specs.declared.slot.Slot.{Slot}
use Rattle.ct_lun.specs.Apart.{Each}
use Rattle.ct_lun.specs.Desk.{Desk, slot_at, number_of, with_control}
use Rattle.ct_lun.specs.States.{command_in, stage_of, task_in, tasks_in, at_a, state_of}
use Rattle.ct_lun.specs.Agreement.{SlotAgrees, IsLeft, Agrees, AgreesWith}
use Rattle.ct_lun.specs.Rooms.{room_of}
use Rattle.ct_lun.specs.Calls.{Leaves, Spends, Does, told, medium_cuts}
use Rattle.ct_lun.specs.Functions.{ask_by, ask_in, open_of, while_open, cut_journal, Cuts, CutsAll, IsAnswered}
use Rattle.ct_lun.proofs.Lists.{equal_number, each_drop, map_push}
use Rattle.ct_lun.proofs.Keeps.{slot_agrees, task_found, agrees_without, agrees_control, get_map}
use Rattle.ct_lun.proofs.Effects.{left_state, came_here, after_told}
use Rattle.ct_lun.proofs.Spent.{left_spends}
use Rattle.ct_lun.proofs.Clears.{numbers_same, numbers_from, drop_removed}
use Rattle.ct_lun.proofs.Does.{medium_cuts-append, does_nothing}
use Rattle.ct_lun.proofs.Arrivals.{tasks_older, added_agrees, last_place, add_ok, add_err}

-- the event by which a function cuts the command at a place

abbrev pub cut_event : Desk → ℕ → ℕ → Ask → Event
cut_event d at number ask =
    let slot = slot_at d.slots at in
    event.Cut slot.no (puts_among (take slot.task.done slot.task.plan.operations)) (By number)
    (tells_aborts d.control && not (is_same_nexus ask.nexus slot.nexus))

-- the machine hits what the unit hits
pub hit_known : (d : Desk) (p : BookState) (at : ℕ) (ask : Ask) → Agrees d p → at < length d.slots
    → hits ask (slot_at d.slots at).nexus (slot_at d.slots at).tag ≡ is_hit ask (task_in p.works (slot_at d.slots at))
hit_known d p at ask a h =
    let sa : SlotAgrees (length d.blocks) d.pool p.works p.replies (slot_at d.slots at) = slot_agrees d p at a h in
    rw (sa.nexus, sa.tag) refl

here_stage : (slot : Slot) → is_here (stage_of slot) ≡ true
here_stage slot = go slot.begun
  where
    go : (begun : Bool) → is_here (if begun then Here slot.task.done slot.task.body.items else Waiting) ≡ true
    go true = refl
    go false = refl

-- what waits did nothing yet
done_stage : (d : Desk) (p : BookState) (at : ℕ) → Agrees d p → at < length d.slots → done_at (stage_of (slot_at d.slots at)) ≡ (slot_at d.slots at).task.done
done_stage d p at a h = go (slot_at d.slots at).begun refl
  where
    go : (begun : Bool) → (slot_at d.slots at).begun ≡ begun → done_at (stage_of (slot_at d.slots at)) ≡ (slot_at d.slots at).task.done
    go true is = rw is refl
    go false is = rw is (sym ((slot_agrees d p at a h).waits is).none)

event_known : (d : Desk) (p : BookState) (at number : ℕ) (ask : Ask) (function : Open) → Agrees d p → at < length d.slots
    → event.Cut (slot_at d.slots at).no (puts_of (task_in p.works (slot_at d.slots at)) (while_open d p function)) (By number) (is_told (while_open d p function) ask (task_in p.works (slot_at d.slots at)))
    ≡ cut_event d at number ask
event_known d p at number ask function a h =
    let slot : Slot = slot_at d.slots at in
    let sa : SlotAgrees (length d.blocks) d.pool p.works p.replies slot = slot_agrees d p at a h in
    ap (λ (done : ℕ). event.Cut slot.no (puts_among (take done (plan_in (length d.blocks) (command_in p.works slot.no)))) (By number) (tells_aborts d.control && not (is_same_nexus ask.nexus (command_in p.works slot.no).nexus))) (done_stage d p at a h)
    ∙ ap (λ (ops : List BlockOp). event.Cut slot.no (puts_among (take slot.task.done ops)) (By number) (tells_aborts d.control && not (is_same_nexus ask.nexus (command_in p.works slot.no).nexus))) (sym sa.operations)
    ∙ ap (λ (nexus : Nexus). event.Cut slot.no (puts_among (take slot.task.done slot.task.plan.operations)) (By number) (tells_aborts d.control && not (is_same_nexus ask.nexus nexus))) (sym sa.nexus)

-- the state behind a cut

noted_own : (number cut : ℕ) (ask : Ask) (before : List ℕ) → noted number cut (open_of number ask before ∷ []) ≡ open_of number ask (before ++ cut ∷ []) ∷ []
noted_own number cut ask before = rw (equal_number number) refl

cut_here : (slot : Slot) (number : ℕ) (task : Task) (s : State) → task.stage ≡ stage_of slot → cut_at (By number) task.stage task s ≡ leaves task.no (record s { functions = noted number task.no s.functions })
cut_here slot number task s is = ap (λ (stage : Stage). cut_at (By number) stage task s) is ∙ go slot.begun
  where
    go : (begun : Bool) → cut_at (By number) (if begun then Here slot.task.done slot.task.body.items else Waiting) task s ≡ leaves task.no (record s { functions = noted number task.no s.functions })
    go true = refl
    go false = refl

cut_state : (d d' : Desk) (p p' : BookState) (at number : ℕ) (ask : Ask) (before : List ℕ) → Agrees d p → at < length d.slots → Leaves d d' at → p' ≡ with_event p (cut_event d at number ask)
    → while_open d' p' (open_of number ask (before ++ (slot_at d.slots at).no ∷ [])) ≡ after_events (while_open d p (open_of number ask before)) (told (cut_event d at number ask) ∷ [])
cut_state d d' p p' at number ask before a h l book =
    let slot : Slot = slot_at d.slots at in
    let s : State = while_open d p (open_of number ask before) in
    let found : task_of slot.no (state_of d p).tasks ≡ Some (task_in p.works slot) = task_found d p at a h in
    let behind : after_event (cut_event d at number ask) None s ≡ leaves slot.no (record s { functions = open_of number ask (before ++ slot.no ∷ []) ∷ [] }) =
    rw found (cut_here slot number (task_in p.works slot) s refl ∙ ap (λ (fs : List Open). leaves slot.no (record s { functions = fs })) (noted_own number slot.no ask before)) in
    let left : state_of d' p' ≡ leaves slot.no (state_of d p) =
    subst (λ (b : BookState). state_of d' b ≡ leaves slot.no (state_of d p)) (sym book) (left_state d d' p (with_event p (cut_event d at number ask)) at a h l refl refl refl refl) in
    ap (λ (t : State). record t { functions = open_of number ask (before ++ slot.no ∷ []) ∷ [] }) left
    ∙ sym behind ∙ sym (after_told s (cut_event d at number ask))

-- a cut leaves a unit that agrees with its book
pub cut_agrees : (d d' : Desk) (p p' : BookState) (at number : ℕ) (ask : Ask) → AgreesWith d p → at < length d.slots → Leaves d d' at → p' ≡ with_event p (cut_event d at number ask) → AgreesWith d' p'
cut_agrees d d' p p' at number ask a h l book =
    rw book (record {
      base = agrees_without d d' p (with_event p (cut_event d at number ask)) at a.base h l refl (λ other apart. refl);
      left = rw l.slots (each_drop IsLeft d.slots at a.left);
    })

-- what the machine does with one command

abbrev cutting_by : Bool → ℕ → Ask → Task → State → Turn
cutting_by due number ask task s = if due then says (event.Cut task.no (puts_of task s) (By number) (is_told s ask task)) s else nothing s

cutting_found : (number : ℕ) (ask : Ask) (found : Option Task) (task : Task) (due : Bool) (s : State) → found ≡ Some task → (is_hit ask task && is_here task.stage) ≡ due → cutting number ask found s ≡ cutting_by due number ask task s
cutting_found number ask found task due s e test = ap (λ (o : Option Task). cutting number ask o s) e ∙ ap (λ (b : Bool). cutting_by b number ask task s) test

hit_here : (d : Desk) (p : BookState) (at : ℕ) (ask : Ask) (due : Bool) → Agrees d p → at < length d.slots → hits ask (slot_at d.slots at).nexus (slot_at d.slots at).tag ≡ due
    → (is_hit ask (task_in p.works (slot_at d.slots at)) && is_here (stage_of (slot_at d.slots at))) ≡ due
hit_here d p at ask true a h test = rw (sym (hit_known d p at ask a h) ∙ test, here_stage (slot_at d.slots at)) refl
hit_here d p at ask false a h test = rw (sym (hit_known d p at ask a h) ∙ test) refl

cut_turn : (d : Desk) (p : BookState) (at number : ℕ) (ask : Ask) (before : List ℕ) → Agrees d p → at < length d.slots → hits ask (slot_at d.slots at).nexus (slot_at d.slots at).tag ≡ true
    → cutting number ask (task_of (slot_at d.slots at).no (state_of d p).tasks) (while_open d p (open_of number ask before)) ≡ says (cut_event d at number ask) (while_open d p (open_of number ask before))
cut_turn d p at number ask before a h test =
    let slot : Slot = slot_at d.slots at in
    let s : State = while_open d p (open_of number ask before) in
    cutting_found number ask (task_of slot.no (state_of d p).tasks) (task_in p.works slot) true s (task_found d p at a h) (hit_here d p at ask true a h test)
    ∙ ap (λ (e : Event). says e s) (event_known d p at number ask (open_of number ask before) a h)

pass_turn : (d : Desk) (p : BookState) (at number : ℕ) (ask : Ask) (before : List ℕ) → Agrees d p → at < length d.slots → hits ask (slot_at d.slots at).nexus (slot_at d.slots at).tag ≡ false
    → cutting number ask (task_of (slot_at d.slots at).no (state_of d p).tasks) (while_open d p (open_of number ask before)) ≡ nothing (while_open d p (open_of number ask before))
pass_turn d p at number ask before a h test =
    let slot : Slot = slot_at d.slots at in
    cutting_found number ask (task_of slot.no (state_of d p).tasks) (task_in p.works slot) false (while_open d p (open_of number ask before)) (task_found d p at a h) (hit_here d p at ask false a h test)

-- one command, and then the others

after_append : (s : State) (es fs : List Logged) → after_events s (es ++ fs) ≡ after_events (after_events s es) fs
after_append s [] fs = refl
after_append s (e ∷ es) fs = after_append (after s e) es fs

-- nothing is left to do
pub cuts_end : (d : Desk) (p : BookState) (at number : ℕ) (ask : Ask) (cut : List ℕ) → AgreesWith d p → length d.slots ≤ at → Cuts d d p p number ask cut cut (map number_of (drop at d.slots))
cuts_end d p at number ask cut a past =
    rw (drop_all at d.slots past)
    (record { journal = sym (append-nil p.journal); state = refl; agrees = a; spare = omega arith; spends = omega arith; works = refl; control = refl; faults = refl })

-- the command at a place is cut, and then those behind it
pub cuts_cut : (d d1 d' : Desk) (p p1 p' : BookState) (at number : ℕ) (ask : Ask) (cut cut' : List ℕ) → AgreesWith d p → at < length d.slots
    → hits ask (slot_at d.slots at).nexus (slot_at d.slots at).tag ≡ true → 0 < p.spare → Leaves d d1 at → p1 ≡ with_event p (cut_event d at number ask)
    → Cuts d1 d' p1 p' number ask (cut ++ (slot_at d.slots at).no ∷ []) cut' (map number_of (drop at d1.slots)) → Cuts d d' p p' number ask cut cut' (map number_of (drop at d.slots))
cuts_cut d d1 d' p p1 p' at number ask cut cut' a h test room l book x =
    let slot : Slot = slot_at d.slots at in
    let s : State = while_open d p (open_of number ask cut) in
    let one : List Logged = told (cut_event d at number ask) ∷ [] in
    let behind : drop at d1.slots ≡ drop (suc at) d.slots = ap (drop at) l.slots ∙ drop_removed d.slots at in
    let numbers : List ℕ = map number_of (drop (suc at) d.slots) in
    let state : while_open d1 p1 (open_of number ask (cut ++ slot.no ∷ [])) ≡ after_events s one = cut_state d d1 p p1 at number ask cut a.base h l book in
    let rest : List Logged = cut_journal d1 p1 (open_of number ask (cut ++ slot.no ∷ [])) numbers in
    let journal : cut_journal d p (open_of number ask cut) (slot.no ∷ numbers) ≡ one ++ rest =
    ap (λ (t : Turn). (followed t (cutting_all number ask numbers)).journal) (cut_turn d p at number ask cut a.base h test)
    ∙ ap (λ (next : State). one ++ (cutting_all number ask numbers next).journal) (sym state) in
    let y : Cuts d1 d' p1 p' number ask (cut ++ slot.no ∷ []) cut' numbers = subst (λ (slots : List Slot). Cuts d1 d' p1 p' number ask (cut ++ slot.no ∷ []) cut' (map number_of slots)) behind x in
    let fell : Spends d d1 p p1 1 = left_spends d d1 p p1 at h l (rw book (record { works = refl; commands = refl; functions = refl; pieces = refl })) in
    subst (Cuts d d' p p' number ask cut cut') (sym (numbers_from d.slots at h))
    (record {
      journal = y.journal ∙ ap (λ (b : BookState). b.journal ++ rest) book ∙ append_assoc p.journal one rest ∙ ap (λ (j : List Logged). p.journal ++ j) (sym journal);
      state = y.state ∙ ap (λ (t : State). after_events t rest) state ∙ sym (after_append s one rest) ∙ ap (after_events s) (sym journal);
      agrees = y.agrees;
      spare = rw journal (omega (arith, y.spare, room, ap (λ (b : BookState). b.spare) book));
      spends = rw journal (omega (arith, y.spends, fell));
      works = y.works ∙ ap (λ (b : BookState). b.works) book;
      control = y.control ∙ l.control;
      faults = y.faults ∙ l.faults;
    })

-- the command at a place stays, and then those behind it
pub cuts_pass : (d d' : Desk) (p p' : BookState) (at number : ℕ) (ask : Ask) (cut cut' : List ℕ) → AgreesWith d p → at < length d.slots
    → hits ask (slot_at d.slots at).nexus (slot_at d.slots at).tag ≡ false
    → Cuts d d' p p' number ask cut cut' (map number_of (drop (at + 1) d.slots)) → Cuts d d' p p' number ask cut cut' (map number_of (drop at d.slots))
cuts_pass d d' p p' at number ask cut cut' a h test x =
    let slot : Slot = slot_at d.slots at in
    let next : at + 1 ≡ suc at = omega arith in
    let numbers : List ℕ = map number_of (drop (suc at) d.slots) in
    let s : State = while_open d p (open_of number ask cut) in
    let y : Cuts d d' p p' number ask cut cut' numbers = subst (λ (k : ℕ). Cuts d d' p p' number ask cut cut' (map number_of (drop k d.slots))) next x in
    let journal : cut_journal d p (open_of number ask cut) (slot.no ∷ numbers) ≡ cut_journal d p (open_of number ask cut) numbers =
    ap (λ (t : Turn). (followed t (cutting_all number ask numbers)).journal) (pass_turn d p at number ask cut a.base h test) in
    subst (Cuts d d' p p' number ask cut cut') (sym (numbers_from d.slots at h))
    (record {
      journal = y.journal ∙ ap (λ (j : List Logged). p.journal ++ j) (sym journal);
      state = y.state ∙ ap (after_events s) (sym journal);
      agrees = y.agrees;
      spare = rw journal y.spare;
      spends = rw journal y.spends;
      works = y.works;
      control = y.control;
      faults = y.faults;
    })

-- the other nexuses of which commands were cut, in whichever order they are noted

with_swapped : (set : List Bool) (a b : Nexus) → with_nexus (with_nexus set a) b ≡ with_nexus (with_nexus set b) a
with_swapped set a b = swapped set (place_of a) (place_of b)
  where
    swapped : (set : List Bool) (i j : ℕ) → slice_set (slice_set set i true) j true ≡ slice_set (slice_set set j true) i true
    swapped [] i j = refl
    swapped (x ∷ xs) zero zero = refl
    swapped (x ∷ xs) zero (suc j) = refl
    swapped (x ∷ xs) (suc i) zero = refl
    swapped (x ∷ xs) (suc i) (suc j) = ap (λ (rest : List Bool). x ∷ rest) (swapped xs i j)

other_swapped : (asker : Nexus) (a b : Option KeptWork) (set : List Bool) → with_other asker a (with_other asker b set) ≡ with_other asker b (with_other asker a set)
other_swapped asker None b set = refl
other_swapped asker (Some (work.Ask ask)) b set = refl
other_swapped asker (Some (work.Cmd c)) None set = refl
other_swapped asker (Some (work.Cmd c)) (Some (work.Ask ask)) set = refl
other_swapped asker (Some (work.Cmd c)) (Some (work.Cmd e)) set = go (is_same_nexus c.nexus asker) (is_same_nexus e.nexus asker)
  where
    go : (own own' : Bool) → (if own then (if own' then set else with_nexus set e.nexus) else with_nexus (if own' then set else with_nexus set e.nexus) c.nexus)
        ≡ (if own' then (if own then set else with_nexus set c.nexus) else with_nexus (if own then set else with_nexus set c.nexus) e.nexus)
    go true true = refl
    go true false = refl
    go false true = refl
    go false false = with_swapped set e.nexus c.nexus

pub others_more : (asker : Nexus) (works : List KeptWork) (cut : List ℕ) (number : ℕ) → others_of asker works (cut ++ number ∷ []) ≡ with_other asker (numbered number works) (others_of asker works cut)
others_more asker works [] number = refl
others_more asker works (first ∷ cut) number =
    ap (with_other asker (numbered first works)) (others_more asker works cut number)
    ∙ other_swapped asker (numbered first works) (numbered number works) (others_of asker works cut)

-- a function is taken up

awaited_none : (ask : Ask) (works : List KeptWork) (slots : List Slot) → awaited_by ask (tasks_in works slots) ≡ []
awaited_none ask works [] = refl
awaited_none ask works (x ∷ xs) = rw (here_stage x) (go (is_hit ask (task_in works x)) (awaited_none ask works xs))
  where
    go : (hit : Bool) → awaited_by ask (tasks_in works xs) ≡ []
        → map (λ (task : Task). task.no) (if hit && false then task_in works x ∷ filter (is_awaited ask) (tasks_in works xs) else filter (is_awaited ask) (tasks_in works xs)) ≡ []
    go true rest = rest
    go false rest = rest

stops_none : (s : State) (by : ℕ) (ask : Ask) (works : List KeptWork) (slots : List Slot) → stops_by s by ask (tasks_in works slots) ≡ []
stops_none s by ask works [] = refl
stops_none s by ask works (x ∷ xs) = rw (here_stage x) (go (is_hit ask (task_in works x)) (stops_none s by ask works xs))
  where
    go : (hit : Bool) → stops_by s by ask (tasks_in works xs) ≡ []
        → (if hit && false then stop x.no by (is_told s ask (task_in works x)) ∷ stops_by s by ask (tasks_in works xs) else stops_by s by ask (tasks_in works xs)) ≡ []
    go true rest = rest
    go false rest = rest

arrival_known : (works : List KeptWork) (number : ℕ) (came : KeptWork) → numbered number works ≡ Some came → numbered number (map at_a works) ≡ Some (at_a came)
arrival_known works zero came found = absurd (cc)
arrival_known works (suc before) came found = get_map at_a works before came found

asked_state : (d : Desk) (p : BookState) (number : ℕ) (ask : Ask) → numbered number p.works ≡ Some (work.Ask ask)
    → after_event (event.Asked number) None (state_of d p) ≡ while_open d p (open_of number ask [])
asked_state d p number ask came =
    rw (arrival_known p.works number (work.Ask ask) came, awaited_none ask p.works d.slots, stops_none (state_of d p) number ask p.works d.slots) refl

-- it is answered

works_same : (works : List KeptWork) → map (λ (arrival : Arrival). arrival.work) (map at_a works) ≡ works
works_same [] = refl
works_same (came ∷ works) = ap (λ (rest : List KeptWork). came ∷ rest) (works_same works)

function_found : (number : ℕ) (ask : Ask) (cut : List ℕ) → function_of number (open_of number ask cut ∷ []) ≡ Some (open_of number ask cut)
function_found number ask cut = rw (equal_number number) refl

response_here : (number : ℕ) (s : State) → came_remote (arrival_of number s) ≡ false → answered kind.Response number s ≡ s
response_here number s here = rw here refl

-- the control changes by the nexuses that the function's entry tells
closing_same : (ask : Ask) (works : List KeptWork) (cut : List ℕ) (control : ControlState) → closing_control ask (set_of ask.function ask.nexus works cut) control ≡ closing_control ask (others_of ask.nexus works cut) control
unfolding closing_control
closing_same ask works cut control = go ask.function
  where
    go : (function : Function) → closed_control function ask.nexus (set_of function ask.nexus works cut) control ≡ closed_control function ask.nexus (others_of ask.nexus works cut) control
    go (AbortTask tag) = refl
    go AbortTaskSet = refl
    go ClearTaskSet = refl
    go LunReset = refl
    go NexusReset = refl
    go (QueryTask tag) = refl
    go QueryTaskSet = refl
    go ClearAca = refl

without_own : (number : ℕ) (ask : Ask) (cut : List ℕ) → without_function number (open_of number ask cut ∷ []) ≡ []
without_own number ask cut = rw (equal_number number) refl

-- the state behind the answer
abbrev pub closed_to : Desk → BookState → Ask → List ℕ → State
closed_to d p ask cut = record (state_of d p) { control = closing_control ask (others_of ask.nexus p.works cut) d.control }

pub closed_state : (d : Desk) (p : BookState) (number : ℕ) (ask : Ask) (cut : List ℕ) (outcome : Outcome)
    → after_event (event.Closed number outcome) None (while_open d p (open_of number ask cut)) ≡ closed_to d p ask cut
closed_state d p number ask cut outcome =
    let s : State = while_open d p (open_of number ask cut) in
    ap (λ (o : Option Open). answered kind.Response number (closed o s)) (function_found number ask cut)
    ∙ ap (λ (fs : List Open). answered kind.Response number (record s { functions = fs; control = closing_control ask (others_cut (open_of number ask cut) s) s.control })) (without_own number ask cut)
    ∙ ap (λ (ws : List KeptWork). answered kind.Response number (record (state_of d p) { control = closing_control ask (set_of ask.function ask.nexus ws cut) d.control })) (works_same p.works)
    ∙ ap (λ (k : ControlState). answered kind.Response number (record (state_of d p) { control = k })) (closing_same ask p.works cut d.control)
    ∙ response_here number (closed_to d p ask cut) (came_here p.works number)

-- the outcome by the slots
pub sought_known : (d : Desk) (p : BookState) (ask : Ask) → Agrees d p → list_any (λ (slot : Slot). seeks ask slot.nexus slot.tag) d.slots ≡ list_any (is_sought ask) (state_of d p).tasks
sought_known d p ask a = go d.slots a.each
  where
    go : (slots : List Slot) → Each (SlotAgrees (length d.blocks) d.pool p.works p.replies) slots → list_any (λ (slot : Slot). seeks ask slot.nexus slot.tag) slots ≡ list_any (is_sought ask) (tasks_in p.works slots)
    go [] each = refl
    go (x ∷ xs) each = rw (each.0.nexus, each.0.tag, go xs each.1) refl

-- the whole act

cutting_one : (number : ℕ) (ask : Ask) (found : Option Task) (s : State) → length (cutting number ask found s).journal ≤ 1
cutting_one number ask None s = omega arith
cutting_one number ask (Some task) s = go (is_hit ask task && is_here task.stage)
  where
    go : (due : Bool) → length (cutting_by due number ask task s).journal ≤ 1
    go true = omega arith
    go false = omega arith

cutting_few : (number : ℕ) (ask : Ask) (numbers : List ℕ) (s : State) → length (cutting_all number ask numbers s).journal ≤ length numbers
cutting_few number ask [] s = omega arith
cutting_few number ask (first ∷ numbers) s =
    let turn : Turn = cutting number ask (task_of first s.tasks) s in
    let rest : Turn = cutting_all number ask numbers turn.state in
    omega (arith, length-append turn.journal rest.journal, cutting_one number ask (task_of first s.tasks) s, cutting_few number ask numbers turn.state)

cutting_state : (number : ℕ) (ask : Ask) (found : Option Task) (s : State) → (cutting number ask found s).state ≡ after_events s (cutting number ask found s).journal
cutting_state number ask None s = refl
cutting_state number ask (Some task) s = go (is_hit ask task && is_here task.stage)
  where
    go : (due : Bool) → (cutting_by due number ask task s).state ≡ after_events s (cutting_by due number ask task s).journal
    go true = refl
    go false = refl

cutting_all_state : (number : ℕ) (ask : Ask) (numbers : List ℕ) (s : State) → (cutting_all number ask numbers s).state ≡ after_events s (cutting_all number ask numbers s).journal
cutting_all_state number ask [] s = refl
cutting_all_state number ask (first ∷ numbers) s =
    let turn : Turn = cutting number ask (task_of first s.tasks) s in
    let rest : Turn = cutting_all number ask numbers turn.state in
    cutting_all_state number ask numbers turn.state
    ∙ ap (λ (t : State). after_events t rest.journal) (cutting_state number ask (task_of first s.tasks) s)
    ∙ sym (after_append s turn.journal rest.journal)

-- there is room for the answer
pub cuts_spare : (d d1 : Desk) (p p1 p2 : BookState) (number : ℕ) (ask : Ask) (nexuses : List Bool) → p1 ≡ with_event p (event.Asked number) → length d.slots + 2 ≤ p.spare
    → CutsAll d d1 p1 p2 number ask nexuses → 0 < p2.spare
cuts_spare d d1 p p1 p2 number ask nexuses book room x =
    let numbers : List ℕ = numbers_of (state_of d p1).tasks in
    let few = cutting_few number ask numbers (while_open d p1 (open_of number ask [])) in
    let size : length numbers ≡ length d.slots = ap length (numbers_same p1.works d.slots) ∙ length-map d.slots number_of in
    omega (arith, x.cuts.spare, few, size, room, ap (λ (b : BookState). b.spare) book)

agrees_told : (d : Desk) (p : BookState) (e : Event) → Agrees d p → Agrees d (with_event p e)
agrees_told d p e a = record {
  few = a.few;
  set = a.set;
  each = a.each;
  numbers = a.numbers;
  keys = a.keys;
  free = a.free;
  out = a.out;
  contexts = a.contexts;
}

pub asked_agrees : (d : Desk) (p p1 : BookState) (number : ℕ) → p1 ≡ with_event p (event.Asked number) → AgreesWith d p → AgreesWith d p1
asked_agrees d p p1 number book a = rw book (record { base = agrees_told d p (event.Asked number) a.base; left = a.left })

outcome_cut : (number : ℕ) (ask : Ask) (numbers : List ℕ) (s : State) (rest : List Logged) → outcome_among number ((cutting_all number ask numbers s).journal ++ rest) ≡ outcome_among number rest
outcome_cut number ask [] s rest = refl
outcome_cut number ask (first ∷ numbers) s rest =
    let found : Option Task = task_of first s.tasks in
    let turn : Turn = cutting number ask found s in
    ap (outcome_among number) (append_assoc turn.journal (cutting_all number ask numbers turn.state).journal rest)
    ∙ one found ∙ outcome_cut number ask numbers turn.state rest
  where
    one : (found : Option Task) → outcome_among number ((cutting number ask found s).journal ++ ((cutting_all number ask numbers (cutting number ask found s).state).journal ++ rest))
        ≡ outcome_among number ((cutting_all number ask numbers (cutting number ask found s).state).journal ++ rest)
    one None = refl
    one (Some task) = go (is_hit ask task && is_here task.stage)
      where
        go : (due : Bool) → outcome_among number ((cutting_by due number ask task s).journal ++ ((cutting_all number ask numbers (cutting_by due number ask task s).state).journal ++ rest))
            ≡ outcome_among number ((cutting_all number ask numbers (cutting_by due number ask task s).state).journal ++ rest)
        go true = refl
        go false = refl

outcome_own : (number : ℕ) (outcome : Outcome) → outcome_among number (told (event.Closed number outcome) ∷ []) ≡ Some outcome
outcome_own number outcome = rw (equal_number number) refl

-- what the machine writes
asking_journal : (d d1 : Desk) (p p1 p2 : BookState) (number : ℕ) (ask : Ask) (nexuses : List Bool) (outcome : Outcome) → numbered number p.works ≡ Some (work.Ask ask) → p1 ≡ with_event p (event.Asked number)
    → (x : CutsAll d d1 p1 p2 number ask nexuses) → outcome ≡ outcome_of ask (state_of d1 p2)
    → (asking number ask (state_of d p)).journal ≡ told (event.Asked number) ∷ cut_journal d p1 (open_of number ask []) (numbers_of (state_of d p1).tasks) ++ told (event.Closed number outcome) ∷ []
asking_journal d d1 p p1 p2 number ask nexuses outcome came book x said =
    let s : State = state_of d p in
    let numbers : List ℕ = numbers_of s.tasks in
    let begun : State = while_open d p1 (open_of number ask []) in
    let asked : after s (told (event.Asked number)) ≡ begun =
    after_told s (event.Asked number) ∙ asked_state d p number ask came ∙ ap (λ (b : BookState). while_open d b (open_of number ask [])) (sym book) in
    let same : numbers_of (state_of d p1).tasks ≡ numbers = ap (λ (b : BookState). numbers_of (state_of d b).tasks) book in
    let final : State = while_open d1 p2 (open_of number ask x.cut) in
    let left : (cutting_all number ask numbers begun).state ≡ final =
    cutting_all_state number ask numbers begun
    ∙ ap (λ (ns : List ℕ). after_events begun (cutting_all number ask ns begun).journal) (sym same)
    ∙ sym x.cuts.state in
    let answered_so : closing (function_of number final.functions) final ≡ says (event.Closed number outcome) final =
    ap (λ (o : Option Open). closing o final) (function_found number ask x.cut)
    ∙ ap (λ (o : Outcome). says (event.Closed number o) final) (sym said) in
    ap (λ (t : State). (told (event.Asked number) ∷ (cutting_all number ask numbers t).journal) ++ (closing (function_of number (cutting_all number ask numbers t).state.functions) (cutting_all number ask numbers t).state).journal) asked
    ∙ ap (λ (t : State). (told (event.Asked number) ∷ (cutting_all number ask numbers begun).journal) ++ (closing (function_of number t.functions) t).journal) left
    ∙ ap (λ (t : Turn). (told (event.Asked number) ∷ (cutting_all number ask numbers begun).journal) ++ t.journal) answered_so
    ∙ ap (λ (ns : List ℕ). told (event.Asked number) ∷ (cutting_all number ask ns begun).journal ++ told (event.Closed number outcome) ∷ []) (sym same)

-- no cut by a function is one of the medium

uncut_one : (number : ℕ) (ask : Ask) (found : Option Task) (s : State) → medium_cuts (cutting number ask found s).journal ≡ 0
uncut_one number ask None s = refl
uncut_one number ask (Some task) s = go (is_hit ask task && is_here task.stage)
  where
    go : (due : Bool) → medium_cuts (cutting_by due number ask task s).journal ≡ 0
    go true = refl
    go false = refl

uncut_cutting : (number : ℕ) (ask : Ask) (numbers : List ℕ) (s : State) → medium_cuts (cutting_all number ask numbers s).journal ≡ 0
uncut_cutting number ask [] s = refl
uncut_cutting number ask (first ∷ numbers) s =
    let turn : Turn = cutting number ask (task_of first s.tasks) s in
    let rest : Turn = cutting_all number ask numbers turn.state in
    omega (arith, medium_cuts-append turn.journal rest.journal, uncut_one number ask (task_of first s.tasks) s, uncut_cutting number ask numbers turn.state)

closed_room : (d : Desk) (p : BookState) (ask : Ask) (cut : List ℕ) → room_of (closed_to d p ask cut) ≡ room_of (state_of d p)
unfolding room_of
closed_room d p ask cut = refl

pub function_answered : (d d1 d' : Desk) (p p1 p2 p' : BookState) (number : ℕ) (ask : Ask) (nexuses : List Bool) (outcome : Outcome) → AgreesWith d p → numbered number p.works ≡ Some (work.Ask ask) → length d.slots + 2 ≤ p.spare
    → p1 ≡ with_event p (event.Asked number) → CutsAll d d1 p1 p2 number ask nexuses → outcome ≡ outcome_of ask (state_of d1 p2)
    → d' ≡ with_control d1 (closing_control ask nexuses d1.control) → p' ≡ with_event p2 (event.Closed number outcome) → IsAnswered d d' p p' number ask outcome
function_answered d d1 d' p p1 p2 p' number ask nexuses outcome a came room asked x said desk book =
    let s : State = state_of d p in
    let cuts : List Logged = cut_journal d p1 (open_of number ask []) (numbers_of (state_of d p1).tasks) in
    let last : List Logged = told (event.Closed number outcome) ∷ [] in
    let journal : (asking number ask s).journal ≡ told (event.Asked number) ∷ cuts ++ last = asking_journal d d1 p p1 p2 number ask nexuses outcome came asked x said in
    let spare : 0 < p2.spare = cuts_spare d d1 p p1 p2 number ask nexuses asked room x in
    let begun : after s (told (event.Asked number)) ≡ while_open d p1 (open_of number ask []) =
    after_told s (event.Asked number) ∙ asked_state d p number ask came ∙ ap (λ (b : BookState). while_open d b (open_of number ask [])) (sym asked) in
    let control : closing_control ask nexuses d1.control ≡ closing_control ask (others_of ask.nexus p2.works x.cut) d1.control =
    ap (λ (set : List Bool). closing_control ask set d1.control) (x.others ∙ ap (λ (ws : List KeptWork). others_of ask.nexus ws x.cut) (sym x.cuts.works)) in
    let behind : state_of d' p' ≡ closed_to d1 p2 ask x.cut =
    ap (λ (b : BookState). state_of d' b) book ∙ ap (λ (k : Desk). state_of k (with_event p2 (event.Closed number outcome))) desk
    ∙ ap (λ (k : ControlState). record (state_of d1 p2) { control = k }) control in
    let state : state_of d' p' ≡ after_events s (told (event.Asked number) ∷ cuts ++ last) =
    behind ∙ sym (closed_state d1 p2 number ask x.cut outcome)
    ∙ sym (after_told (while_open d1 p2 (open_of number ask x.cut)) (event.Closed number outcome))
    ∙ ap (λ (t : State). after_events t last) x.cuts.state
    ∙ sym (after_append (while_open d p1 (open_of number ask [])) cuts last)
    ∙ ap (λ (t : State). after_events t (cuts ++ last)) (sym begun) in
    let size : length (cuts ++ last) ≡ length cuts + 1 = length-append cuts last in
    let base : Agrees d' p' =
    rw (desk, book) (agrees_control d1 (with_event p2 (event.Closed number outcome)) (closing_control ask nexuses d1.control) (agrees_told d1 p2 (event.Closed number outcome) x.cuts.agrees.base)) in
    let fell : room_of (state_of d' p') ≡ room_of (state_of d1 p2) = ap room_of behind ∙ closed_room d1 p2 ask x.cut in
    let uncut : medium_cuts (cuts ++ last) ≡ 0 = omega (arith, medium_cuts-append cuts last, uncut_cutting number ask (numbers_of (state_of d p1).tasks) (while_open d p1 (open_of number ask []))) in
    let same : room_of (state_of d p1) ≡ room_of s = ap (λ (b : BookState). room_of (state_of d b)) asked in
    record {
      said =
          ap (outcome_among number) journal
          ∙ outcome_cut number ask (numbers_of (state_of d p1).tasks) (while_open d p1 (open_of number ask [])) last
          ∙ outcome_own number outcome;
      wrote = record {
        journal =
            ap (λ (b : BookState). b.journal) book ∙ ap (λ (j : List Logged). j ++ last) x.cuts.journal
            ∙ ap (λ (b : BookState). (b.journal ++ cuts) ++ last) asked
            ∙ ap (λ (j : List Logged). j ++ last) (append_assoc p.journal (told (event.Asked number) ∷ []) cuts)
            ∙ append_assoc p.journal (told (event.Asked number) ∷ cuts) last
            ∙ ap (λ (j : List Logged). p.journal ++ j) (sym journal);
        state = state ∙ ap (after_events s) (sym journal);
        agrees = base;
        spare = subst (λ (j : List Logged). p'.spare + length j ≡ p.spare) (sym journal) (omega (arith, size, x.cuts.spare, spare, room, ap (λ (b : BookState). b.spare) book, ap (λ (b : BookState). b.spare) asked));
      };
      agrees = record { base = base; left = rw desk x.cuts.agrees.left };
      uncut = ap medium_cuts journal ∙ omega (arith, uncut);
      room = subst (λ (j : List Logged). room_of (state_of d' p') + length j ≤ room_of s + 2) (sym journal) (omega (arith, size, fell, same, x.cuts.spends));
      faults = ap (λ (k : Desk). k.faults) desk ∙ x.cuts.faults;
    }

-- a function comes, and is answered

added_state : (d : Desk) (p : BookState) (ask : Ask) → Agrees d p → state_of d (with_work p A (work.Ask ask) 0) ≡ after (state_of d p) (arrived (length p.works + 1) A (work.Ask ask))
unfolding after
added_state d p ask a =
    let same : p.pieces - 0 ≡ p.pieces = omega arith in
    rw (tasks_older (length d.blocks) d.pool p.works p.replies (work.Ask ask) d.slots a.each, map_push at_a p.works (work.Ask ask), same) refl

some_room : (p : BookState) (ask : Ask) → has_room p (work.Ask ask) 0 ≡ true → 0 < p.functions
some_room p ask fits = go (nat_lt 0 p.functions) refl fits
  where
    go : (some : Bool) → nat_lt 0 p.functions ≡ some → (some && nat_le 0 p.pieces) ≡ true → 0 < p.functions
    go true is fits = ltb-true 0 p.functions is
    go false is fits = absurd (cc)

no_room : (p : BookState) (ask : Ask) → has_room p (work.Ask ask) 0 ≡ false → nat_lt 0 p.functions ≡ false
no_room p ask full = go (nat_lt 0 p.functions) refl full
  where
    enough : nat_le 0 p.pieces ≡ true
    enough = grind (arith, nat_tests)

    go : (some : Bool) → nat_lt 0 p.functions ≡ some → (some && nat_le 0 p.pieces) ≡ false → nat_lt 0 p.functions ≡ false
    go true is full = absurd (false≢true (sym full ∙ enough))
    go false is full = is

added_room : (d : Desk) (p : BookState) (ask : Ask) → Agrees d p → has_room p (work.Ask ask) 0 ≡ true → room_of (state_of d (with_work p A (work.Ask ask) 0)) + 12 ≤ room_of (state_of d p)
unfolding room_of
added_room d p ask a fits =
    let some : 0 < p.functions = some_room p ask fits in
    rw (tasks_older (length d.blocks) d.pool p.works p.replies (work.Ask ask) d.slots a.each) (omega (arith, some))

arriving_turn : (d : Desk) (p : BookState) (ask : Ask) → has_room p (work.Ask ask) 0 ≡ true → arriving A (work.Ask ask) (state_of d p) ≡ arriving_at A (work.Ask ask) (length p.works + 1) (state_of d p)
arriving_turn d p ask fits =
    let s : State = state_of d p in
    let test : has_room_for (work.Ask ask) s ≡ true = lt-ltb 0 p.functions (some_room p ask fits) in
    let number : next_number s ≡ length p.works + 1 = ap (λ (n : ℕ). n + 1) (length-map p.works at_a) in
    ap (λ (b : Bool). if b then arriving_at A (work.Ask ask) (next_number s) s else unchanged (answer.NoRoom (work.Ask ask)) s) test
    ∙ ap (λ (n : ℕ). arriving_at A (work.Ask ask) n s) number

pub asks_does : (d d' : Desk) (p p1 p' : BookState) (ask : Ask) (number : ℕ) (outcome : Outcome) → AgreesWith d p → has_room p (work.Ask ask) 0 ≡ true → number ≡ length p.works + 1 → p1 ≡ with_work p A (work.Ask ask) 0
    → 0 < p.spare → IsAnswered d d' p1 p' number ask outcome → Does d d' p p' (λ fault. arriving A (work.Ask ask) (state_of d p)) (answer.Closed number outcome)
asks_does d d' p p1 p' ask number outcome a fits next added room x =
    let s : State = state_of d p in
    let first : Logged = arrived number A (work.Ask ask) in
    let rest : List Logged = (asking number ask (state_of d p1)).journal in
    let state : state_of d p1 ≡ after s first =
    ap (λ (b : BookState). state_of d b) added ∙ added_state d p ask a.base ∙ ap (λ (n : ℕ). after s (arrived n A (work.Ask ask))) (sym next) in
    let turn : arriving A (work.Ask ask) s ≡ arriving_at A (work.Ask ask) number s =
    arriving_turn d p ask fits ∙ ap (λ (n : ℕ). arriving_at A (work.Ask ask) n s) (sym next) in
    let journal : (arriving A (work.Ask ask) s).turn.journal ≡ first ∷ rest =
    ap (λ (done : Done). done.turn.journal) turn ∙ ap (λ (t : State). first ∷ (asking number ask t).journal) (sym state) in
    let said : (arriving A (work.Ask ask) s).answer ≡ answer.Closed number outcome =
    ap (λ (done : Done). done.answer) turn
    ∙ ap (λ (t : State). asked_answer number (first ∷ (asking number ask t).journal)) (sym state)
    ∙ ap (asked_by number) x.said in
    let fell : room_of (state_of d p1) + 12 ≤ room_of s = subst (λ (b : BookState). room_of (state_of d b) + 12 ≤ room_of s) (sym added) (added_room d p ask a.base fits) in
    let less : p1.spare ≡ p.spare - 1 = ap (λ (b : BookState). b.spare) added in
    record {
      fault = None;
      journal =
          x.wrote.journal ∙ ap (λ (b : BookState). b.journal ++ rest) added
          ∙ append_assoc p.journal (arrived (length p.works + 1) A (work.Ask ask) ∷ []) rest
          ∙ ap (λ (n : ℕ). p.journal ++ arrived n A (work.Ask ask) ∷ rest) (sym next)
          ∙ ap (λ (j : List Logged). p.journal ++ j) (sym journal);
      answer = sym said;
      state = x.wrote.state ∙ ap (λ (t : State). after_events t rest) state ∙ ap (after_events s) (sym journal);
      agrees = x.agrees;
      spare = subst (λ (j : List Logged). p'.spare + length j ≡ p.spare) (sym journal) (omega (arith, x.wrote.spare, less, room));
      room = subst (λ (j : List Logged). room_of (state_of d' p') + length j ≤ room_of s) (sym journal) (omega (arith, x.room, fell));
      counted = omega (arith, x.faults);
      cuts = ap medium_cuts journal ∙ omega (arith, x.uncut);
    }

-- there is no room for it
pub unasked_does : (d : Desk) (p p1 : BookState) (ask : Ask) → AgreesWith d p → has_room p (work.Ask ask) 0 ≡ false → p1 ≡ p → Does d d p p1 (λ fault. arriving A (work.Ask ask) (state_of d p)) (answer.NoRoom (work.Ask ask))
unasked_does d p p1 ask a full kept =
    let s : State = state_of d p in
    let done : arriving A (work.Ask ask) s ≡ unchanged (answer.NoRoom (work.Ask ask)) s =
    ap (λ (b : Bool). if b then arriving_at A (work.Ask ask) (next_number s) s else unchanged (answer.NoRoom (work.Ask ask)) s) (no_room p ask full) in
    subst (λ (b : BookState). Does d d p b (λ fault. arriving A (work.Ask ask) s) (answer.NoRoom (work.Ask ask))) (sym kept)
    (does_nothing d p (λ fault. arriving A (work.Ask ask) s) (answer.NoRoom (work.Ask ask)) a
    (ap (λ (o : Done). o.turn.journal) done) (ap (λ (o : Done). o.answer) done))

-- the book noted a function under this number
pub record CameAsk (p p1 : BookState) (ask : Ask) (number : ℕ) : Type 0 where
  pub fits : has_room p (work.Ask ask) 0 ≡ true
  pub next : number ≡ length p.works + 1
  pub added : p1 ≡ with_work p A (work.Ask ask) 0
  pub came : numbered number p1.works ≡ Some (work.Ask ask)
  pub named : ask_in p1.works number ≡ ask

pub came_ask : {E : Type 0} (p p1 : BookState) (ask : Ask) (number : ℕ) (result : Result ℕ E) (other : E)
    → result ≡ (if has_room p (work.Ask ask) 0 then Ok (length p.works + 1) else Err other) → p1 ≡ (if has_room p (work.Ask ask) 0 then with_work p A (work.Ask ask) 0 else p) → result ≡ Ok number → CameAsk p p1 ask number
came_ask p p1 ask number result other answered after ok =
    let told = add_ok (has_room p (work.Ask ask) 0) result number (length p.works + 1) other answered ok in
    let added : p1 ≡ with_work p A (work.Ask ask) 0 = after ∙ ap (λ (b : Bool). if b then with_work p A (work.Ask ask) 0 else p) told.0 in
    let came : numbered number p1.works ≡ Some (work.Ask ask) =
    ap (λ (b : BookState). numbered number b.works) added ∙ ap (λ (n : ℕ). numbered n (p.works ++ work.Ask ask ∷ [])) told.1 ∙ last_place p.works (work.Ask ask) (length p.works) refl in
    record { fits = told.0; next = told.1; added = added; came = came; named = ap ask_by came }

pub came_agrees : (d : Desk) (p p1 : BookState) (ask : Ask) (number : ℕ) → AgreesWith d p → CameAsk p p1 ask number → AgreesWith d p1
came_agrees d p p1 ask number a noted = record {
  base = subst (λ (b : BookState). Agrees d b) (sym noted.added) (added_agrees d p (work.Ask ask) 0 a.base);
  left = a.left;
}

pub came_answered : (d d' : Desk) (p p1 p' : BookState) (ask : Ask) (number : ℕ) (outcome : Outcome) → AgreesWith d p → CameAsk p p1 ask number → 0 < p.spare → IsAnswered d d' p1 p' number (ask_in p1.works number) outcome
    → Does d d' p p' (λ fault. arriving A (work.Ask ask) (state_of d p)) (answer.Closed number outcome)
came_answered d d' p p1 p' ask number outcome a noted room x =
    asks_does d d' p p1 p' ask number outcome a noted.fits noted.next noted.added room
    (subst (λ (it : Ask). IsAnswered d d' p1 p' number it outcome) noted.named x)

pub came_room : (p : BookState) (ask : Ask) (number : ℕ) (p1 : BookState) → CameAsk p p1 ask number → 0 < p.functions
came_room p ask number p1 noted = some_room p ask noted.fits

pub refused_ask : (d : Desk) (p p1 : BookState) (ask : Ask) (number : ℕ) (result : Result ℕ KeptWork) (left : KeptWork) → AgreesWith d p
    → result ≡ (if has_room p (work.Ask ask) 0 then Ok number else Err (work.Ask ask)) → p1 ≡ (if has_room p (work.Ask ask) 0 then with_work p A (work.Ask ask) 0 else p) → result ≡ Err left
    → Does d d p p1 (λ fault. arriving A (work.Ask ask) (state_of d p)) (answer.NoRoom left)
refused_ask d p p1 ask number result left a answered after err =
    let told = add_err (has_room p (work.Ask ask) 0) result number (work.Ask ask) left answered err in
    let kept : p1 ≡ p = after ∙ ap (λ (b : Bool). if b then with_work p A (work.Ask ask) 0 else p) told.0 in
    subst (λ (w : KeptWork). Does d d p p1 (λ fault. arriving A (work.Ask ask) (state_of d p)) (answer.NoRoom w)) told.1 (unasked_does d p p1 ask a told.0 kept)
