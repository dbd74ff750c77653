-- A command enters the task set, or is refused at its arrival.
use Rattle.std.proofs.Common.{◌≡◌, ℕ, zero, suc, ◌+◌, ◌-◌, ◌<◌, ◌≤◌, List, [], ◌∷◌, ◌++◌, Bool, true, false, ◌||◌, ◌==◌, inl, inr, Option, Some, None, IsNone, IsSomeAnd, Result, length, map, slice_set, sum_by, if◌then◌else◌, refl, sym, ap, ◌∙◌, subst, arith, length-append}
use Rattle.std.specs.List.{list_any}
use Rattle.std.proofs.lemmas.Bool.{cases_Bool, false≢true}
use Rattle.std.proofs.lemmas.List.{length-map}
use Rattle.std.proofs.lemmas.List.Edits.{length-insert}
use Rattle.ct_word.specs.declared.names.Node.TheVariants.{A}
use Rattle.ct_word.specs.Kept.{Kept}
use Rattle.ct_cdb.specs.declared.op.Attr2.{Attr2}
use Rattle.ct_cdb.specs.declared.op.Cdb.{Cdb}
use Rattle.ct_cdb.specs.declared.op.CdbFault.{CdbFault}
use Rattle.ct_cdb.specs.Forms.{cdb_of}
use Rattle.ct_cdb.specs.Profiles.{profile_by}
use Rattle.ct_cdb.proofs.Fitting.{decoded_fits, decoded_room}
use Rattle.ct_sense.specs.declared.reply.Reply.{Reply}
use Rattle.ct_pool.specs.Leases.{PoolState, LeaseState, IsLeaseOf, Takes, blocks_at, blocks_of}
use Rattle.ct_plan.specs.declared.task.Task.{Task as PlanTask}
use Rattle.ct_plan.specs.Tasks.{IsReady}
use Rattle.ct_plan.proofs.Planned.{ready_first}
use Rattle.ct_matrix.specs.declared.held.Held.{Held}
use Rattle.ct_matrix.specs.declared.held.HeldCommand.{HeldCommand}
use Rattle.ct_matrix.specs.Conflicts.{is_head}
use Rattle.ct_matrix.specs.Queues.{TaskSet, placed, before_first, command_of}
use Rattle.ct_matrix.proofs.Places.{insert_first, first_within}
use Rattle.ct_book.specs.declared.work.Command.{Command}
use Rattle.ct_book.specs.declared.work.Work.TheVariants as work
use Rattle.ct_book.specs.declared.event.Event.TheVariants as event
use Rattle.ct_book.specs.Works.{IsReady as IsFilled, profile_in, room_for}
use Rattle.ct_book.specs.Journals.{KeptWork, BookState, numbered, is_command, with_event, with_reply, without_body}
use Rattle.ct_book.specs.Kept.{IsCommandNo, IsBodyOf}
use Rattle.ct_book.proofs.Places.{numbered-apart}
use Rattle.ct_exec.specs.Executions.{plan_in, need_in}
use Rattle.ct_machine.specs.States.{Task, Arrival, held_of, held_by, queued, free_blocks}
use Rattle.ct_machine.specs.Events.{after_event}
use Rattle.ct_machine.specs.Events.Arrivals.{after_enter, new_task}
use Rattle.ct_machine.specs.Entrances.{Member, Sender, sender_of, is_same_sender}
use Rattle.ct_machine.specs.Acts.Entries.{member_of, members_of, turned_cause, entering, entering_with}
use Rattle.ct_lun.specs.declared.slot.Slot.{Slot}
use Rattle.ct_lun.specs.Apart.{Each, Differs, IsApart}
use Rattle.ct_lun.specs.Desk.{Desk, number_of, key_of, slot_of, waits, waiting_from, placed_slot}
use Rattle.ct_lun.specs.States.{command_in, command_by, at_a, task_in, tasks_in, state_of}
use Rattle.ct_lun.specs.Agreement.{SlotAgrees, IsLeft, Agrees, AgreesWith}
use Rattle.ct_lun.specs.Overlaps.{sender_of_slot, is_sent_by, cause_by}
use Rattle.ct_lun.specs.Calls.{Wrote, told, replied}
use Rattle.ct_lun.proofs.Lists.{same_number, each_step, each_differs, each_push, each_insert, apart_push, apart_insert, map_push, map_insert, sum_push, sum_insert}
use Rattle.ct_lun.proofs.Tasks.{held_queued, slots_queued, no_task, held_none}
use Rattle.ct_lun.proofs.Keeps.{get_map, slot_stays, set_is, other_number, positive}
use Rattle.ct_lun.proofs.Effects.{came_here, answered_here, reply_kept, after_one, after_told}

-- why a command is refused

sent_same : (blocks : ℕ) (pool : PoolState) (works : List KeptWork) (replies : List (Option Reply)) (sender : Sender) (slots : List Slot) → Each (SlotAgrees blocks pool works replies) slots
    → list_any (λ (member : Member). is_same_sender sender (sender_of member.command)) (members_of (tasks_in works slots)) ≡ is_sent_by sender slots
sent_same blocks pool works replies sender [] each = refl
sent_same blocks pool works replies sender (x ∷ xs) each =
    let here : sender_of (command_in works x.no) ≡ sender_of_slot x = rw (each.0.nexus, each.0.tag) refl in
    ap (λ (by : Sender). is_same_sender sender by || list_any (λ (member : Member). is_same_sender sender (sender_of member.command)) (members_of (tasks_in works xs))) here
    ∙ ap (λ (rest : Bool). is_same_sender sender (sender_of_slot x) || rest) (sent_same blocks pool works replies sender xs each.1)

pub commands_count : (d : Desk) (p : BookState) → Agrees d p → length d.set.commands ≡ length d.slots
commands_count d p a =
    ap (λ (set : TaskSet). length set.commands) a.set ∙ length-map (tasks_in p.works d.slots) (held_of (length d.blocks)) ∙ length-map d.slots (task_in p.works)

pub tasks_count : (d : Desk) (p : BookState) → length (state_of d p).tasks ≡ length d.slots
tasks_count d p = length-map d.slots (task_in p.works)

pub free_known : (d : Desk) (p : BookState) → Agrees d p → free_blocks (state_of d p) ≡ d.pool.free
free_known d p a = omega (arith, a.free)

pub cause_known : (d : Desk) (p : BookState) (command : Command) (need : ℕ) → Agrees d p → need ≡ need_in (length d.blocks) command → cause_by d (sender_of command) need ≡ turned_cause (state_of d p) command
unfolding turned_cause
cause_known d p command need a same =
    let sent = sent_same (length d.blocks) d.pool p.works p.replies (sender_of command) d.slots a.each in
    rw (sent, free_known d p a, ← same, length-map (state_of d p).tasks member_of, tasks_count d p, commands_count d p a) refl

-- a number that no slot has

pub absent_differs : (number : ℕ) (slots : List Slot) → IsNone (slot_of number slots) → Differs number (map number_of slots)
absent_differs number [] none = tt
absent_differs number (x ∷ xs) none =
    elim (cases_Bool (x.no == number)) [
      | inl here ↦ absurd (false≢true (sym (rw here at none)))
      | inr other ↦ (other, absent_differs number xs (rw other at none))
    ]

-- refused

slot_same_pool : (blocks : ℕ) (pool : PoolState) (works : List KeptWork) (replies replies' : List (Option Reply)) (slot : Slot) → SlotAgrees blocks pool works replies slot → numbered slot.no replies' ≡ numbered slot.no replies → SlotAgrees blocks pool works replies' slot
slot_same_pool blocks pool works replies replies' slot a same = record {
  command = a.command;
  reply = same ∙ a.reply;
  nexus = a.nexus;
  tag = a.tag;
  operations = a.operations;
  need = a.need;
  ready = a.ready;
  waits = a.waits;
}

-- a number of a command names that command
pub command_known : (p : BookState) (number : ℕ) → IsCommandNo p number → numbered number p.works ≡ Some (work.Cmd (command_in p.works number))
command_known p number h = go (numbered number p.works) refl h
  where
    go : (found : Option KeptWork) → numbered number p.works ≡ found → IsSomeAnd found (λ came. is_command came ≡ true) → numbered number p.works ≡ Some (work.Cmd (command_by (numbered number p.works)))
    go None e is = absurd is
    go (Some (work.Cmd command)) e is = rw e refl
    go (Some (work.Ask ask)) e is = absurd (false≢true is)

pub turned_wrote : (d : Desk) (p p' : BookState) (number : ℕ) (reply : Reply) → Agrees d p → IsCommandNo p number → IsNone (slot_of number d.slots) → numbered number p.replies ≡ Some None → 0 < p.spare
    → p' ≡ with_event (with_reply (without_body p number) number reply) (event.Turned number) → Wrote d d p p' (replied (event.Turned number) reply ∷ [])
turned_wrote d p p' number reply a command none unanswered room book =
    let given : 0 < number = positive number p.works (work.Cmd (command_in p.works number)) (command_known p number command) in
    rw book
    (record {
      journal = ap (λ (o : Option Reply). p.journal ++ record { event = event.Turned number; work = None; reply = o } ∷ []) (reply_kept p number reply unanswered);
      state = sym (after_one (state_of d p) (event.Turned number) reply ∙ answered_here number (state_of d p) (came_here p.works number));
      agrees = record {
        few = a.few;
        set = a.set;
        each =
            each_differs (SlotAgrees (length d.blocks) d.pool p.works p.replies) (SlotAgrees (length d.blocks) d.pool p.works (slice_set p.replies (number - 1) (Some reply))) number_of number d.slots a.each (absent_differs number d.slots none)
            (λ y ya apart. slot_same_pool (length d.blocks) d.pool p.works p.replies (slice_set p.replies (number - 1) (Some reply)) y ya (numbered-apart y.no p.replies number (Some reply) given (other_number y.no number apart)));
        numbers = a.numbers;
        keys = a.keys;
        free = a.free;
        out = a.out;
        contexts = a.contexts;
      };
      spare = omega arith;
    })

-- what a task needs so that it can begin

pub entry_ready : (blocks : ℕ) (command : Command) (pool : PoolState) (task : PlanTask) → task.plan.operations ≡ plan_in blocks command → task.done ≡ 0 → IsLeaseOf pool task.lease → task.lease.count ≡ task.plan.need → room_for command.cdb ≤ task.body.room → IsReady (length command.out) blocks pool task
unfolding plan_in profile_in room_for
entry_ready blocks command pool task planned none leased need enough =
    let decoded : Result Cdb CdbFault = cdb_of command.cdb in
    ready_first (length command.out) blocks (profile_by decoded command.out blocks) pool task
    (decoded_fits decoded command.out blocks) planned none leased need
    (omega (arith, decoded_room decoded command.out blocks, enough))

-- the key of a new lease

key_differs : (blocks : ℕ) (pool pool' : PoolState) (works : List KeptWork) (replies : List (Option Reply)) (need : ℕ) (lease : LeaseState) (slot : Slot) → SlotAgrees blocks pool works replies slot → Takes pool pool' need lease → (key_of slot == lease.key) ≡ false
key_differs blocks pool pool' works replies need lease slot a t =
    elim (cases_Bool (key_of slot == lease.key)) [
      | inl here ↦
          let found : blocks_at pool lease.key ≡ Some (blocks_of pool slot.task.lease) = ap (blocks_at pool) (sym (same_number (key_of slot) lease.key here)) ∙ a.ready.leased.found in
          let none : blocks_at pool lease.key ≡ None = t.was_vacant in
          cc
      | inr other ↦ other
    ]

keys_differ : (blocks : ℕ) (pool pool' : PoolState) (works : List KeptWork) (replies : List (Option Reply)) (need : ℕ) (lease : LeaseState) (slots : List Slot) → Each (SlotAgrees blocks pool works replies) slots → Takes pool pool' need lease → Differs lease.key (map key_of slots)
keys_differ blocks pool pool' works replies need lease [] each t = tt
keys_differ blocks pool pool' works replies need lease (x ∷ xs) each t = (key_differs blocks pool pool' works replies need lease x each.0 t, keys_differ blocks pool pool' works replies need lease xs each.1 t)

-- the place of a new slot

each_placed : (P : Slot → Type 0) (attr : Attr2) (new : Slot) (slots : List Slot) → Each P slots → P new → Each P (placed_slot attr new slots)
each_placed P attr new slots each fact = go (is_head attr)
  where
    go : (head : Bool) → Each P (if head then before_first waits new slots else slots ++ new ∷ [])
    go true = rw (← insert_first waits new slots) (each_insert P slots (waiting_from slots) new each fact)
    go false = each_push P slots new each fact

apart_placed : (f : Slot → ℕ) (attr : Attr2) (new : Slot) (slots : List Slot) → IsApart (map f slots) → Differs (f new) (map f slots) → IsApart (map f (placed_slot attr new slots))
apart_placed f attr new slots apart fresh = go (is_head attr)
  where
    go : (head : Bool) → IsApart (map f (if head then before_first waits new slots else slots ++ new ∷ []))
    go true = rw (← insert_first waits new slots, map_insert f slots (waiting_from slots) new) (apart_insert (map f slots) (waiting_from slots) (f new) apart fresh)
    go false = rw (map_push f slots new) (apart_push (map f slots) (f new) apart fresh)

sum_placed : (g : Task → ℕ) (works : List KeptWork) (attr : Attr2) (new : Slot) (slots : List Slot) → sum_by g (tasks_in works (placed_slot attr new slots)) ≡ sum_by g (tasks_in works slots) + g (task_in works new)
sum_placed g works attr new slots = go (is_head attr)
  where
    go : (head : Bool) → sum_by g (tasks_in works (if head then before_first waits new slots else slots ++ new ∷ [])) ≡ sum_by g (tasks_in works slots) + g (task_in works new)
    go true = ap (λ all. sum_by g (tasks_in works all)) (sym (insert_first waits new slots)) ∙ ap (sum_by g) (map_insert (task_in works) slots (waiting_from slots) new) ∙ sum_insert g (tasks_in works slots) (waiting_from slots) (task_in works new)
    go false = ap (sum_by g) (map_push (task_in works) slots new) ∙ sum_push g (tasks_in works slots) (task_in works new)

pub length_placed : (attr : Attr2) (new : Slot) (slots : List Slot) → length (placed_slot attr new slots) ≡ length slots + 1
length_placed attr new slots = go (is_head attr)
  where
    go : (head : Bool) → length (if head then before_first waits new slots else slots ++ new ∷ []) ≡ length slots + 1
    go true = rw (← insert_first waits new slots) (length-insert slots (waiting_from slots) new (first_within waits slots))
    go false = omega (arith, length-append slots (new ∷ []))

pub numbered_map : {A B : Type 0} (f : A → B) (number : ℕ) (xs : List A) (x : A) → numbered number xs ≡ Some x → numbered number (map f xs) ≡ Some (f x)
numbered_map f zero xs x found = cc
numbered_map f (suc before) xs x found = get_map f xs before x found

-- a command enters

pub entered_state : (d : Desk) (p : BookState) (number : ℕ) → IsCommandNo p number → after_event (event.Enter number) None (state_of d p) ≡ record (state_of d p) { tasks = queued (new_task number A (command_in p.works number)) (state_of d p).tasks }
entered_state d p number command = ap (λ (found : Option Arrival). after_enter number found (state_of d p)) (numbered_map at_a number p.works (work.Cmd (command_in p.works number)) (command_known p number command))

-- what stands in a new slot
pub record IsEntry (d : Desk) (p : BookState) (number : ℕ) (slot : Slot) : Type 0 where
  pub no : slot.no ≡ number
  pub nexus : slot.nexus ≡ (command_in p.works number).nexus
  pub tag : slot.tag ≡ (command_in p.works number).tag
  pub begun : slot.begun ≡ false
  pub operations : slot.task.plan.operations ≡ plan_in (length d.blocks) (command_in p.works number)
  pub need : slot.task.plan.need ≡ need_in (length d.blocks) (command_in p.works number)
  pub done : slot.task.done ≡ 0
  pub empty : slot.task.body.items ≡ []
  pub room : room_for (command_in p.works number).cdb ≤ slot.task.body.room

pub entered_wrote : (d d' : Desk) (p p' : BookState) (number : ℕ) (slot : Slot) (held : Held) → Agrees d p → IsCommandNo p number → IsNone (slot_of number d.slots) → numbered number p.replies ≡ Some None → 0 < p.spare → IsEntry d p number slot
    → held ≡ held_by (length d.blocks) (command_in p.works number) false → Takes d.pool d'.pool slot.task.plan.need slot.task.lease
    → d' ≡ record d { set = record d.set { commands = placed (record { no = slot.no; held = held }) d.set.commands }; slots = placed_slot held.attr slot d.slots; pool = d'.pool }
    → p' ≡ with_event (without_body p number) (event.Enter number) → Wrote d d' p p' (told (event.Enter number) ∷ [])
entered_wrote d d' p p' number slot held a command none unanswered room entry holds t desk book =
    let c : Command = command_in p.works number in
    let slots : d'.slots ≡ placed_slot held.attr slot d.slots = ap (λ (x : Desk). x.slots) desk in
    let attr : held.attr ≡ (command_in p.works slot.no).attr = ap (λ (h : Held). h.attr) holds ∙ ap (λ (n : ℕ). (command_in p.works n).attr) (sym entry.no) in
    let task : task_in p.works slot ≡ new_task number A c = rw (entry.no, entry.begun) refl in
    let queue : queued (task_in p.works slot) (tasks_in p.works d.slots) ≡ tasks_in p.works (placed_slot held.attr slot d.slots) = slots_queued p.works held.attr slot d.slots attr in
    let fact : held_of (length d.blocks) (task_in p.works slot) ≡ record { no = slot.no; held = held } = ap (held_of (length d.blocks)) task ∙ ap (λ (h : Held). record { no = number; held = h }) (sym holds) ∙ ap (λ (n : ℕ). record { no = n; held = held }) (sym entry.no) in
    let commands : placed (record { no = slot.no; held = held }) d.set.commands ≡ map (held_of (length d.blocks)) (tasks_in p.works (placed_slot held.attr slot d.slots)) =
    ap (λ (x : HeldCommand). placed x d.set.commands) (sym fact) ∙ ap (λ (set : TaskSet). placed (held_of (length d.blocks) (task_in p.works slot)) set.commands) a.set
    ∙ sym (held_queued (length d.blocks) (task_in p.works slot) (tasks_in p.works d.slots)) ∙ ap (map (held_of (length d.blocks))) queue in
    let need = λ (x : Task). need_in (length d.blocks) x.command in
    let sum : sum_by need (tasks_in p.works (placed_slot held.attr slot d.slots)) ≡ sum_by need (tasks_in p.works d.slots) + need_in (length d.blocks) (command_in p.works slot.no) = sum_placed need p.works held.attr slot d.slots in
    let needs : slot.task.plan.need ≡ need_in (length d.blocks) (command_in p.works slot.no) = entry.need ∙ ap (λ (n : ℕ). need_in (length d.blocks) (command_in p.works n)) (sym entry.no) in
    let ready : IsReady (length c.out) (length d.blocks) d'.pool slot.task = entry_ready (length d.blocks) c d'.pool slot.task entry.operations entry.done t.holds t.count entry.room in
    let agreed : SlotAgrees (length d.blocks) d'.pool p.works p.replies slot = rw entry.no (record {
      command = (command_known p number command);
      reply = unanswered;
      nexus = entry.nexus;
      tag = entry.tag;
      operations = entry.operations;
      need = entry.need;
      ready = ready;
      waits = λ w. record { none = entry.done; empty = entry.empty; room = entry.room };
    }) in
    rw (desk, book)
    (record {
      journal = refl;
      state =
          ap (λ (size : ℕ). record (state_of d p) { tasks = tasks_in p.works (placed_slot held.attr slot d.slots); pool = size }) t.size
          ∙ ap (λ (ts : List Task). record (state_of d p) { tasks = ts }) (sym queue ∙ ap (λ (x : Task). queued x (tasks_in p.works d.slots)) task)
          ∙ sym (after_told (state_of d p) (event.Enter number) ∙ entered_state d p number command);
      agrees = record {
        few = a.few;
        set = set_is (record d.set { commands = placed (record { no = slot.no; held = held }) d.set.commands }) _ _ commands (ap (λ (set : TaskSet). set.unrestricted) a.set);
        each =
            each_placed (SlotAgrees (length d.blocks) d'.pool p.works p.replies) held.attr slot d.slots
            (each_step (SlotAgrees (length d.blocks) d.pool p.works p.replies) (SlotAgrees (length d.blocks) d'.pool p.works p.replies) d.slots a.each
            (λ y ya. slot_stays (length d.blocks) d.pool d'.pool p.works p.replies p.replies slot.task.lease.key y ya t.others (key_differs (length d.blocks) d.pool d'.pool p.works p.replies slot.task.plan.need slot.task.lease y ya t) refl))
            agreed;
        numbers = apart_placed number_of held.attr slot d.slots a.numbers (subst (λ (n : ℕ). Differs n (map number_of d.slots)) (sym entry.no) (absent_differs number d.slots none));
        keys = apart_placed key_of held.attr slot d.slots a.keys (keys_differ (length d.blocks) d.pool d'.pool p.works p.replies slot.task.plan.need slot.task.lease d.slots a.each t);
        free = omega (arith, sum, needs, t.free, t.size, a.free);
        out = omega (arith, t.out, a.out, length_placed held.attr slot d.slots);
        contexts = t.contexts ∙ a.contexts;
      };
      spare = omega arith;
    })

pub entry_fresh : (d : Desk) (p : BookState) (number : ℕ) → Agrees d p → IsNone (slot_of number d.slots) → IsNone (command_of number d.set.commands)
entry_fresh d p number a none =
    let absent : command_of number d.set.commands ≡ None = ap (λ (set : TaskSet). command_of number set.commands) a.set ∙ held_none (length d.blocks) number (tasks_in p.works d.slots) (no_task p.works d.slots number none) in
    rw absent refl

-- the empty list that was taken for a command
pub body_known : (p : BookState) (number : ℕ) (body : Kept ℕ) → IsCommandNo p number → IsSomeAnd (numbered number p.works) (λ came. IsBodyOf came body) → IsFilled (command_in p.works number) body
body_known p number body command ready = subst (λ (o : Option KeptWork). IsSomeAnd o (λ came. IsBodyOf came body)) (command_known p number command) ready

pub entered_left : (d d' : Desk) (p : BookState) (attr : Attr2) (slot : Slot) → AgreesWith d p → d'.slots ≡ placed_slot attr slot d.slots → slot.begun ≡ false → Each IsLeft d'.slots
entered_left d d' p attr slot a slots waits = rw slots (each_placed IsLeft attr slot d.slots a.left (λ begun. absurd (false≢true (sym waits ∙ begun))))

-- the machine's turn where nothing refuses a command, and where something does
pub enters_wrote : (d d' : Desk) (p p' : BookState) (number : ℕ) (command : Command) → turned_cause (state_of d p) command ≡ None → Wrote d d' p p' (told (event.Enter number) ∷ []) → Wrote d d' p p' (entering number command (state_of d p)).journal
enters_wrote d d' p p' number command free w = subst (λ (o : Option Reply). Wrote d d' p p' (entering_with o number (state_of d p)).journal) (sym free) w

pub turns_wrote : (d d' : Desk) (p p' : BookState) (number : ℕ) (command : Command) (reply : Reply) → turned_cause (state_of d p) command ≡ Some reply → Wrote d d' p p' (replied (event.Turned number) reply ∷ []) → Wrote d d' p p' (entering number command (state_of d p)).journal
turns_wrote d d' p p' number command reply cause w = subst (λ (o : Option Reply). Wrote d d' p p' (entering_with o number (state_of d p)).journal) (sym cause) w
