-- A command comes: the book notes it, and it enters the task set or is refused.
use Rattle.std.proofs.Common.{◌≡◌, ℕ, ◌+◌, ◌-◌, ◌<◌, ◌≤◌, List, [], ◌∷◌, ◌++◌, Bool, true, false, ◌&&◌, ◌==◌, nat_le, nat_lt, inl, inr, Option, Some, None, IsNone, IsSomeAnd, is_some, Result, Ok, Err, length, sum_by, if◌then◌else◌, refl, sym, ap, ◌∙◌, subst, arith, append_assoc, append-nil, ltb-true, leb-true}
use Rattle.std.proofs.lemmas.Bool.{cases_Bool, false≢true}
use Rattle.std.proofs.lemmas.List.{length-map}
use Rattle.std.proofs.lemmas.List.Sums.{sum_by-cons}
use Rattle.ct_word.specs.declared.names.Node.TheVariants.{A}
use Rattle.ct_sense.specs.declared.reply.Reply.{Reply}
use Rattle.ct_pool.specs.Leases.{PoolState}
use Rattle.ct_plan.specs.Tasks.{IsReady}
use Rattle.ct_matrix.specs.Conflicts.{is_head}
use Rattle.ct_matrix.specs.Queues.{before_first}
use Rattle.ct_book.specs.declared.work.Command.{Command}
use Rattle.ct_book.specs.declared.work.Work.TheVariants as work
use Rattle.ct_book.specs.declared.event.Event.TheVariants as event
use Rattle.ct_book.specs.declared.event.Logged.{Logged}
use Rattle.ct_book.specs.Journals.{KeptWork, BookState, numbered, is_command, has_room, with_work, arrived}
use Rattle.ct_book.specs.Kept.{IsCommandNo, IsSound}
use Rattle.ct_book.proofs.Places.{numbered-stays, numbered-last, numbered-within}
use Rattle.ct_exec.specs.Executions.{plan_in, need_in}
use Rattle.ct_machine.specs.declared.act.Answer.{Answer}
use Rattle.ct_machine.specs.declared.act.Answer.TheVariants as answer
use Rattle.ct_machine.specs.States.{Task, State, task_set_of, waits, queued, is_waiting}
use Rattle.ct_machine.specs.Events.{after, after_events}
use Rattle.ct_machine.specs.Events.Arrivals.{new_task}
use Rattle.ct_machine.specs.Acts.Answers.{Done, unchanged}
use Rattle.ct_machine.specs.Acts.Arrivals.{has_room_for, next_number, arriving, arriving_at}
use Rattle.ct_machine.specs.Acts.Entries.{entering, entering_with, turned_cause}
use Rattle.ct_lun.specs.declared.slot.Slot.{Slot}
use Rattle.ct_lun.specs.declared.said.Entered.{Entered}
use Rattle.ct_lun.specs.declared.said.Entered.TheVariants as entered
use Rattle.ct_lun.specs.Apart.{Each}
use Rattle.ct_lun.specs.Desk.{Desk, slot_of}
use Rattle.ct_lun.specs.States.{command_in, command_by, at_a, task_in, tasks_in, state_of}
use Rattle.ct_lun.specs.Agreement.{SlotAgrees, IsFresh, Agrees, AgreesWith}
use Rattle.ct_lun.specs.Rooms.{task_room, room_of}
use Rattle.ct_lun.specs.Calls.{Wrote, medium_cuts, Does, entered_as, told, replied}
use Rattle.ct_lun.proofs.Lists.{map_push, each_step, same_number, sum_push}
use Rattle.ct_lun.proofs.Effects.{after_told, after_one, answered_here, came_here}
use Rattle.ct_lun.proofs.Enters.{cause_known, entered_state}

-- what stood under older numbers stays

older : (works : List KeptWork) (came : KeptWork) (number : ℕ) (command : Command) → numbered number works ≡ Some (work.Cmd command) → command_in (works ++ came ∷ []) number ≡ command
older works came number command found = ap command_by (numbered-stays number works (came ∷ []) (work.Cmd command) found)

slot_older : (blocks : ℕ) (pool : PoolState) (works : List KeptWork) (replies : List (Option Reply)) (came : KeptWork) (slot : Slot) → SlotAgrees blocks pool works replies slot → SlotAgrees blocks pool (works ++ came ∷ []) (replies ++ None ∷ []) slot
slot_older blocks pool works replies came slot a =
    let same : command_in (works ++ came ∷ []) slot.no ≡ command_in works slot.no = older works came slot.no (command_in works slot.no) a.command in
    record {
      command = numbered-stays slot.no works (came ∷ []) (work.Cmd (command_in works slot.no)) a.command ∙ ap (λ (c : Command). Some (work.Cmd c)) (sym same);
      reply = numbered-stays slot.no replies (None ∷ []) None a.reply;
      nexus = a.nexus ∙ ap (λ (c : Command). c.nexus) (sym same);
      tag = a.tag ∙ ap (λ (c : Command). c.tag) (sym same);
      operations = a.operations ∙ ap (plan_in blocks) (sym same);
      need = a.need ∙ ap (need_in blocks) (sym same);
      ready = subst (λ (c : Command). IsReady (length c.out) blocks pool slot.task) (sym same) a.ready;
      waits = λ w. subst (λ (c : Command). IsFresh c.cdb slot) (sym same) (a.waits w);
    }

pub tasks_older : (blocks : ℕ) (pool : PoolState) (works : List KeptWork) (replies : List (Option Reply)) (came : KeptWork) (slots : List Slot) → Each (SlotAgrees blocks pool works replies) slots → tasks_in (works ++ came ∷ []) slots ≡ tasks_in works slots
tasks_older blocks pool works replies came [] each = refl
tasks_older blocks pool works replies came (x ∷ xs) each =
    ap (λ (c : Command). record (task_in works x) { command = c } ∷ tasks_in (works ++ came ∷ []) xs) (older works came x.no (command_in works x.no) each.0.command)
    ∙ ap (λ (rest : List Task). task_in works x ∷ rest) (tasks_older blocks pool works replies came xs each.1)

-- the book notes a command

added_state : (d : Desk) (p : BookState) (command : Command) (pieces : ℕ) → Agrees d p → pieces ≡ length (plan_in (length d.blocks) command)
    → state_of d (with_work p A (work.Cmd command) pieces) ≡ after (state_of d p) (arrived (length p.works + 1) A (work.Cmd command))
unfolding after
added_state d p command pieces a same =
    rw (same, tasks_older (length d.blocks) d.pool p.works p.replies (work.Cmd command) d.slots a.each, map_push at_a p.works (work.Cmd command)) refl

pub added_agrees : (d : Desk) (p : BookState) (came : KeptWork) (pieces : ℕ) → Agrees d p → Agrees d (with_work p A came pieces)
added_agrees d p came pieces a =
    let tasks = tasks_older (length d.blocks) d.pool p.works p.replies came d.slots a.each in
    record {
      few = a.few;
      set = a.set ∙ ap (λ (ts : List Task). task_set_of (record (state_of d p) { tasks = ts })) (sym tasks);
      each = each_step (SlotAgrees (length d.blocks) d.pool p.works p.replies) (SlotAgrees (length d.blocks) d.pool (p.works ++ came ∷ []) (p.replies ++ None ∷ [])) d.slots a.each (λ y ya. slot_older (length d.blocks) d.pool p.works p.replies came y ya);
      numbers = a.numbers;
      keys = a.keys;
      free = rw tasks a.free;
      out = a.out;
      contexts = a.contexts;
    }

-- the next number is new

new_absent : (blocks : ℕ) (pool : PoolState) (works : List KeptWork) (replies : List (Option Reply)) (number : ℕ) (slots : List Slot) → length works < number → Each (SlotAgrees blocks pool works replies) slots → IsNone (slot_of number slots)
new_absent blocks pool works replies number [] large each = refl
new_absent blocks pool works replies number (x ∷ xs) large each =
    elim (cases_Bool (x.no == number)) [
      | inl here ↦ absurd (omega (arith, large, same_number x.no number here, numbered-within x.no works (work.Cmd (command_in works x.no)) each.0.command))
      | inr other ↦ rw other (new_absent blocks pool works replies number xs large each.1)
    ]

pub next_absent : (d : Desk) (p : BookState) → Agrees d p → IsNone (slot_of (length p.works + 1) d.slots)
next_absent d p a = new_absent (length d.blocks) d.pool p.works p.replies (length p.works + 1) d.slots (omega arith) a.each

pub last_place : {X : Type 0} (xs : List X) (x : X) (number : ℕ) → number ≡ length xs → numbered (number + 1) (xs ++ x ∷ []) ≡ Some x
last_place xs x number same = numbered-last (number + 1) xs x (omega (arith, same))

added_command : (p : BookState) (command : Command) (pieces : ℕ) → numbered (length p.works + 1) (with_work p A (work.Cmd command) pieces).works ≡ Some (work.Cmd command)
added_command p command pieces = last_place p.works (work.Cmd command) (length p.works) refl

pub added_number : (p : BookState) (command : Command) (pieces : ℕ) → IsCommandNo (with_work p A (work.Cmd command) pieces) (length p.works + 1)
added_number p command pieces = subst (λ (o : Option KeptWork). IsSomeAnd o (λ came. is_command came ≡ true)) (sym (added_command p command pieces)) refl

pub added_reply : (p : BookState) (command : Command) (pieces : ℕ) → IsSound p → numbered (length p.works + 1) (with_work p A (work.Cmd command) pieces).replies ≡ Some None
added_reply p command pieces sound = last_place p.replies None (length p.works) (sym sound.reply_each)

pub added_body : (p : BookState) (command : Command) (pieces : ℕ) → IsSound p → numbered (length p.works + 1) (with_work p A (work.Cmd command) pieces).untaken ≡ Some true
added_body p command pieces sound = last_place p.untaken true (length p.works) (sym sound.body_each)

-- what the book answers where there is room

pub add_ok : {E : Type 0} (room : Bool) (result : Result ℕ E) (number next : ℕ) (other : E)
    → result ≡ (if room then Ok next else Err other) → result ≡ Ok number → (room ≡ true) × (number ≡ next)
add_ok true result number next other e k = let same : Ok number ≡ Ok next = sym k ∙ e in (refl, cc)
add_ok false result number next other e k = let same : Ok number ≡ Err other = sym k ∙ e in cc

-- the book noted a command of so many operations under this number
pub record Came (d : Desk) (p p1 : BookState) (command : Command) (pieces number : ℕ) : Type 0 where
  pub counted : pieces ≡ length (plan_in (length d.blocks) command)
  pub fits : has_room p (work.Cmd command) pieces ≡ true
  pub next : number ≡ length p.works + 1
  pub added : p1 ≡ with_work p A (work.Cmd command) pieces
  pub named : command_in p1.works number ≡ command

pub came_so : {E : Type 0} (d : Desk) (p p1 : BookState) (command : Command) (pieces number : ℕ) (result : Result ℕ E)
    (other : E) → pieces ≡ length (plan_in (length d.blocks) command)
    → result ≡ (if has_room p (work.Cmd command) pieces then Ok (length p.works + 1) else Err other)
    → p1 ≡ (if has_room p (work.Cmd command) pieces then with_work p A (work.Cmd command) pieces else p)
    → result ≡ Ok number → Came d p p1 command pieces number
came_so d p p1 command pieces number result other counted answer after ok =
    let told = add_ok (has_room p (work.Cmd command) pieces) result number (length p.works + 1) other answer ok in
    let added : p1 ≡ with_work p A (work.Cmd command) pieces =
    after ∙ ap (λ (b : Bool). if b then with_work p A (work.Cmd command) pieces else p) told.0 in
    record {
      counted = counted;
      fits = told.0;
      next = told.1;
      added = added;
      named = rw (added, told.1) (ap command_by (added_command p command pieces));
    }

-- a value that is made of the disk's blocks and a command
pub made_of : {X : Type 0} (f : ℕ → Command → X) (blocks : ℕ) (named command : Command) (size : ℕ) (value : X)
    → value ≡ f size named → size ≡ blocks → named ≡ command → value ≡ f blocks command
made_of f blocks named command size value made same known = made ∙ ap (λ n. f n named) same ∙ ap (f blocks) known

-- the room that a command takes

sum_before : (g : Task → ℕ) (new : Task) (tasks : List Task) → sum_by g (before_first waits new tasks) ≡ sum_by g tasks + g new
sum_before g new [] = omega (arith, sum_by-cons g new [])
sum_before g new (t ∷ ts) =
    elim (cases_Bool (is_waiting t.stage)) [
      | inl waits ↦ rw waits (omega (arith, sum_by-cons g new (t ∷ ts)))
      | inr begun ↦ rw begun (omega (arith, sum_by-cons g t (before_first waits new ts), sum_by-cons g t ts, sum_before g new ts))
    ]

sum_queued : (g : Task → ℕ) (new : Task) (tasks : List Task) → sum_by g (queued new tasks) ≡ sum_by g tasks + g new
sum_queued g new tasks = go (is_head new.command.attr)
  where
    go : (head : Bool) → sum_by g (if head then before_first waits new tasks else tasks ++ new ∷ []) ≡ sum_by g tasks + g new
    go true = sum_before g new tasks
    go false = sum_push g tasks new

room_queued : (s : State) (new : Task) → room_of (record s { tasks = queued new s.tasks }) ≡ room_of s + task_room (length s.blocks) new
unfolding room_of
room_queued s new = omega (arith, sum_queued (task_room (length s.blocks)) new s.tasks)

-- behind an arrival, a command that enters asks for at most this much more room
entered_room : (d : Desk) (p : BookState) (number : ℕ) (command : Command) (cause : Option Reply) → IsCommandNo p number → command_in p.works number ≡ command
    → room_of (after_events (state_of d p) (entering_with cause number (state_of d p)).journal) ≤ room_of (state_of d p) + (length (plan_in (length d.blocks) command) + 4)
entered_room d p number command None is known =
    let s = state_of d p in
    let new = new_task number A (command_in p.works number) in
    let grown : room_of (after_events s (told (event.Enter number) ∷ [])) ≡ room_of s + task_room (length d.blocks) new = ap room_of (after_told s (event.Enter number) ∙ entered_state d p number is) ∙ room_queued s new in
    let new_room : task_room (length d.blocks) new ≡ length (plan_in (length d.blocks) command) + 4 = ap (λ (c : Command). length (plan_in (length d.blocks) c) + 4) known in
    omega (arith, grown, new_room)
entered_room d p number command (Some reply) is known =
    let s = state_of d p in
    let same : room_of (after_events s (replied (event.Turned number) reply ∷ [])) ≡ room_of s = ap room_of (after_one s (event.Turned number) reply ∙ answered_here number s (came_here p.works number)) in
    omega (arith, same)

entering_one : (cause : Option Reply) (number : ℕ) (s : State) → length (entering_with cause number s).journal ≡ 1
entering_one None number s = refl
entering_one (Some reply) number s = refl

entering_uncut : (cause : Option Reply) (number : ℕ) (s : State) → medium_cuts (entering_with cause number s).journal ≡ 0
entering_uncut None number s = refl
entering_uncut (Some reply) number s = refl

-- there is room for a command and its operations
pub room_parts : (p : BookState) (command : Command) (pieces : ℕ) → has_room p (work.Cmd command) pieces ≡ true → (0 < p.commands) × (pieces ≤ p.pieces)
room_parts p command pieces h = go (nat_lt 0 p.commands) (nat_le pieces p.pieces) refl refl h
  where
    go : (some enough : Bool) → nat_lt 0 p.commands ≡ some → nat_le pieces p.pieces ≡ enough → (some && enough) ≡ true → (0 < p.commands) × (pieces ≤ p.pieces)
    go true true e f k = (ltb-true 0 p.commands e, leb-true pieces p.pieces f)
    go true false e f k = absurd (false≢true k)
    go false enough e f k = absurd (false≢true k)

added_room : (d : Desk) (p : BookState) (command : Command) (pieces : ℕ) → Agrees d p → has_room p (work.Cmd command) pieces ≡ true → room_of (state_of d (with_work p A (work.Cmd command) pieces)) + (pieces + 10) ≤ room_of (state_of d p)
unfolding room_of
added_room d p command pieces a h =
    let parts = room_parts p command pieces h in
    let tasks = tasks_older (length d.blocks) d.pool p.works p.replies (work.Cmd command) d.slots a.each in
    rw tasks (omega (arith, parts.0, parts.1))

-- the machine's act
arriving_turn : (d : Desk) (p : BookState) (command : Command) (pieces : ℕ) → pieces ≡ length (plan_in (length d.blocks) command) → has_room p (work.Cmd command) pieces ≡ true
    → arriving A (work.Cmd command) (state_of d p) ≡ arriving_at A (work.Cmd command) (length p.works + 1) (state_of d p)
arriving_turn d p command pieces same h =
    let s = state_of d p in
    let test : has_room_for (work.Cmd command) s ≡ true = subst (λ (n : ℕ). (nat_lt 0 p.commands && nat_le n p.pieces) ≡ true) same h in
    let number : next_number s ≡ length p.works + 1 = ap (λ (n : ℕ). n + 1) (length-map p.works at_a) in
    ap (λ (b : Bool). if b then arriving_at A (work.Cmd command) (next_number s) s else unchanged (answer.NoRoom (work.Cmd command)) s) test
    ∙ ap (λ (n : ℕ). arriving_at A (work.Cmd command) n s) number

said_entered : (cause : Option Reply) (number : ℕ) (said : Answer) (result : Entered) → result ≡ entered_as cause → ((result ≡ entered.Queued) → said ≡ answer.Queued number) → ((result ≡ entered.Turned) → said ≡ answer.Turned number) → said ≡ (if is_some cause then answer.Turned number else answer.Queued number)
said_entered None number said result e queued turned = queued e
said_entered (Some reply) number said result e queued turned = turned e

-- what the book and the unit agree upon stays
pub came_agrees : (d : Desk) (p p1 : BookState) (command : Command) (pieces number : ℕ) → Agrees d p
    → Came d p p1 command pieces number → 0 < p.spare → Agrees d p1
came_agrees d p p1 command pieces number a noted room =
    subst (λ (b : BookState). Agrees d b) (sym noted.added) (added_agrees d p (work.Cmd command) pieces a)

pub arrive_does : (d d' : Desk) (p p1 p' : BookState) (command : Command) (pieces number : ℕ) (result : Entered)
    (said : Answer) → AgreesWith d p → Came d p p1 command pieces number → 2 ≤ p.spare
    → Wrote d d' p1 p' (entering number (command_in p1.works number) (state_of d p1)).journal → AgreesWith d' p'
    → d'.faults ≡ d.faults → result ≡ entered_as (turned_cause (state_of d p1) (command_in p1.works number))
    → ((result ≡ entered.Queued) → said ≡ answer.Queued number)
    → ((result ≡ entered.Turned) → said ≡ answer.Turned number)
    → Does d d' p p' (λ fault. arriving A (work.Cmd command) (state_of d p)) said
arrive_does d d' p p1 p' command pieces number result said a noted spare w agrees faults told_result queued turned =
    let came = work.Cmd command in
    let s = state_of d p in
    let first = length p.works + 1 in
    let first_event : Logged = arrived first A came in
    let same = noted.counted in
    let named = noted.next in
    let added = noted.added in
    let base : Agrees d p1 = came_agrees d p p1 command pieces number a.base noted (omega arith) in
    let is : IsCommandNo p1 number =
    subst (λ (b : BookState). IsCommandNo b number) (sym added)
    (subst (λ (n : ℕ). IsCommandNo (with_work p A came pieces) n) (sym named) (added_number p command pieces)) in
    let state : state_of d p1 ≡ after s first_event = ap (state_of d) added
    ∙ added_state d p command pieces a.base same in
    let turn = arriving_turn d p command pieces same noted.fits in
    let cause : turned_cause (state_of d p1) (command_in p1.works number) ≡ turned_cause s command =
    ap (turned_cause (state_of d p1)) noted.named ∙ sym (cause_known d p1 command (need_in
    (length d.blocks) command) base refl) ∙ cause_known d p command (need_in (length d.blocks) command) a.base refl in
    let second : List Logged = (entering number (command_in p1.works number) (state_of d p1)).journal in
    let journal : (arriving A came s).turn.journal ≡ first_event ∷ second =
    ap (λ (done : Done). done.turn.journal) turn
    ∙ ap (λ (n : ℕ). first_event ∷ (entering n command (after s first_event)).journal) (sym named)
    ∙ ap (λ (c : Command). first_event ∷ (entering number c (after s first_event)).journal) (sym noted.named)
    ∙ ap (λ (st : State). first_event ∷ (entering number (command_in p1.works number) st).journal) (sym state) in
    let said_so : said ≡ (arriving A came s).answer =
    said_entered (turned_cause (state_of d p1) (command_in p1.works number)) number said result told_result queued
    turned
    ∙ ap (λ (o : Option Reply). if is_some o then answer.Turned number else answer.Queued number) cause
    ∙ ap (λ (n : ℕ). if is_some (turned_cause s command) then answer.Turned n else answer.Queued n) named
    ∙ ap (λ (done : Done). done.answer) (sym turn) in
    let one : length second ≡ 1 = entering_one (turned_cause (state_of d p1) (command_in p1.works number)) number
    (state_of d p1) in
    let grown = entered_room d p1 number command (turned_cause (state_of d p1)
    (command_in p1.works number)) is noted.named in
    let new_room : room_of (state_of d' p') ≡ room_of (after_events (state_of d p1) second) = ap room_of w.state in
    let fell : room_of (state_of d p1) + (pieces + 10) ≤ room_of s = subst (λ (b : BookState). room_of
    (state_of d b) + (pieces + 10) ≤ room_of s) (sym added) (added_room d p command pieces a.base noted.fits) in
    let less : p1.spare ≡ p.spare - 1 = ap (λ (b : BookState). b.spare) added in
    record {
      fault = None;
      journal = w.journal ∙ ap (λ (b : BookState). b.journal ++ second) added
          ∙ append_assoc p.journal (first_event ∷ []) second ∙ ap (λ (j : List Logged). p.journal ++ j) (ap (λ
          (n : ℕ). arrived n A came ∷ second) refl ∙ sym journal);
      answer = said_so;
      state = w.state ∙ ap (λ (st : State). after_events st second) state ∙ ap (after_events s) (sym journal);
      agrees = agrees;
      spare = rw journal (omega (arith, w.spare, less, one));
      room = rw journal (omega (arith, new_room, grown, fell, one, same));
      counted = omega (arith, faults);
      cuts =
          let uncut = entering_uncut (turned_cause (state_of d p1) (command_in p1.works number)) number (state_of d p1) in
          rw journal (omega (arith, uncut));
    }

-- a command for which there is no room

pub add_err : {E : Type 0} (b : Bool) (result : Result ℕ E) (number : ℕ) (other left : E)
    → result ≡ (if b then Ok number else Err other) → result ≡ Err left → (b ≡ false) × (other ≡ left)
add_err true result number other left answer err = absurd (cc)
add_err false result number other left answer err = (refl, cc)

no_room : (d : Desk) (p p1 : BookState) (command : Command) (pieces : ℕ) → AgreesWith d p
    → pieces ≡ length (plan_in (length d.blocks) command) → has_room p (work.Cmd command) pieces ≡ false → p1 ≡ p
    → Does d d p p1 (λ (fault : Option ℕ). arriving A (work.Cmd command) (state_of d p))
    (answer.NoRoom (work.Cmd command))
no_room d p p1 command pieces agrees counted full kept =
    let s = state_of d p in
    let came = work.Cmd command in
    let test : has_room_for came s ≡ false =
    subst (λ (n : ℕ). (nat_lt 0 p.commands && nat_le n p.pieces) ≡ false) counted full in
    let done : arriving A came s ≡ unchanged (answer.NoRoom came) s =
    ap (λ (t : Bool). if t then arriving_at A came (next_number s) s else unchanged (answer.NoRoom came) s) test in
    subst (λ (book : BookState). Does d d p book (λ (fault : Option ℕ). arriving A came s) (answer.NoRoom came))
    (sym kept)
    (subst (λ (outcome : Done). Does d d p p (λ (fault : Option ℕ). outcome) (answer.NoRoom came)) (sym done)
    (record {
      fault = None;
      journal = sym (append-nil p.journal);
      answer = refl;
      state = refl;
      agrees = agrees;
      spare = omega arith;
      room = omega arith;
      counted = omega arith;
      cuts = refl;
    }))

pub refused_does : (d : Desk) (p p1 : BookState) (command : Command) (pieces number : ℕ)
    (result : Result ℕ KeptWork) (left : KeptWork) → AgreesWith d p
    → pieces ≡ length (plan_in (length d.blocks) command)
    → result ≡ (if has_room p (work.Cmd command) pieces then Ok number else Err (work.Cmd command))
    → p1 ≡ (if has_room p (work.Cmd command) pieces then with_work p A (work.Cmd command) pieces else p)
    → result ≡ Err left
    → Does d d p p1 (λ (fault : Option ℕ). arriving A (work.Cmd command) (state_of d p)) (answer.NoRoom left)
refused_does d p p1 command pieces number result left agrees counted answered after err =
    let told = add_err (has_room p (work.Cmd command) pieces) result number (work.Cmd command) left answered err in
    let kept : p1 ≡ p =
    after ∙ ap (λ (b : Bool). if b then with_work p A (work.Cmd command) pieces else p) told.0 in
    subst (λ (w : KeptWork). Does d d p p1 (λ (fault : Option ℕ). arriving A (work.Cmd command) (state_of d p))
    (answer.NoRoom w)) told.1 (no_room d p p1 command pieces agrees counted told.0 kept)
