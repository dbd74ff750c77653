-- The agreement of a unit and its book stays, whatever changes.
use Rattle.std.proofs.Common.{◌≡◌, ℕ, zero, suc, ◌+◌, ◌-◌, ◌<◌, List, [], ◌∷◌, Bool, true, false, ◌==◌, Option, Some, unwrap_or, length, map, slice_get, slice_set, remove, sum_by, refl, sym, ap, ◌∙◌, arith}
use Rattle.std.proofs.lemmas.Bool.{false≢true}
use Rattle.std.proofs.lemmas.List.{length-set}
use Rattle.std.proofs.lemmas.List.Edits.{length-remove}
use Rattle.ct_sense.specs.declared.reply.Reply.{Reply}
use Rattle.ct_pool.specs.Leases.{PoolState, LeaseState, IsLeaseOf, KeepsOthers, blocks_at}
use Rattle.ct_plan.specs.declared.task.Task.{Task as PlanTask}
use Rattle.ct_plan.specs.declared.task.Piece.{Piece}
use Rattle.ct_plan.specs.Tasks.{IsReady}
use Rattle.ct_matrix.specs.declared.held.HeldCommand.{HeldCommand}
use Rattle.ct_matrix.specs.Queues.{TaskSet, command_of, without, with_begun}
use Rattle.ct_book.specs.declared.work.Work.TheVariants as work
use Rattle.ct_book.specs.Journals.{KeptWork, BookState, numbered}
use Rattle.ct_book.proofs.Places.{numbered-apart}
use Rattle.ct_exec.specs.Controls.{ControlState, is_unrestricted}
use Rattle.ct_exec.specs.Executions.{need_in}
use Rattle.ct_machine.specs.States.{Task, held_of, task_of}
use Rattle.ct_lun.specs.declared.slot.Slot.{Slot}
use Rattle.ct_lun.specs.Desk.{Desk, slot_at, number_of, key_of, with_control}
use Rattle.ct_lun.specs.States.{command_in, task_in, tasks_in, state_of}
use Rattle.ct_lun.specs.Agreement.{SlotAgrees, Agrees}
use Rattle.ct_lun.specs.Calls.{Goes, Leaves}
use Rattle.ct_lun.proofs.Lists.{equal_number, slot_read, each_at, each_set, each_remove, apart_remove, map_set, map_remove, map_same, sum_set, sum_remove}
use Rattle.ct_lun.proofs.Tasks.{task_at, held_at, held_without, without_at, begun_at, begun_stage}

-- a slot, where other things change

pub other_number : (a b : ℕ) → (a == b) ≡ false → a ≡ b → ⊥
other_number a b apart same = false≢true (sym apart ∙ ap (λ (k : ℕ). a == k) (sym same) ∙ equal_number a)

lease_stays : (pool pool' : PoolState) (key : ℕ) (lease : LeaseState) → KeepsOthers pool pool' key → (lease.key == key) ≡ false → IsLeaseOf pool lease → IsLeaseOf pool' lease
lease_stays pool pool' key lease others apart h =
    let same : blocks_at pool' lease.key ≡ blocks_at pool lease.key = others lease.key (other_number lease.key key apart) in
    record {
      found = same ∙ h.found ∙ ap (λ (b : Option (List (List ℕ))). Some (unwrap_or b [])) (sym same);
      count = ap (λ (b : Option (List (List ℕ))). length (unwrap_or b [])) same ∙ h.count;
    }

ready_stays : (out blocks : ℕ) (pool pool' : PoolState) (task : PlanTask) → IsReady out blocks pool task → IsLeaseOf pool' task.lease → IsReady out blocks pool' task
ready_stays out blocks pool pool' task h lease = record { inside = h.inside; covered = h.covered; leased = lease; need = h.need; room = h.room }

pub slot_stays : (blocks : ℕ) (pool pool' : PoolState) (works : List KeptWork) (replies replies' : List (Option Reply)) (key : ℕ) (slot : Slot) → SlotAgrees blocks pool works replies slot → KeepsOthers pool pool' key → (key_of slot == key) ≡ false
    → numbered slot.no replies' ≡ numbered slot.no replies → SlotAgrees blocks pool' works replies' slot
slot_stays blocks pool pool' works replies replies' key slot a others apart same = record {
  command = a.command;
  reply = same ∙ a.reply;
  nexus = a.nexus;
  tag = a.tag;
  operations = a.operations;
  need = a.need;
  ready = ready_stays (length (command_in works slot.no).out) blocks pool pool' slot.task a.ready (lease_stays pool pool' key slot.task.lease others apart a.ready.leased);
  waits = a.waits;
}

pub positive : (number : ℕ) (works : List KeptWork) (came : KeptWork) → numbered number works ≡ Some came → 0 < number
positive zero works came found = cc
positive (suc before) works came found = omega arith

-- the slot at a place

pub slot_agrees : (d : Desk) (p : BookState) (at : ℕ) → Agrees d p → at < length d.slots → SlotAgrees (length d.blocks) d.pool p.works p.replies (slot_at d.slots at)
slot_agrees d p at a h = each_at (SlotAgrees (length d.blocks) d.pool p.works p.replies) d.slots at (slot_at d.slots at) a.each (slot_read d.slots at h)

pub task_found : (d : Desk) (p : BookState) (at : ℕ) → Agrees d p → at < length d.slots → task_of (slot_at d.slots at).no (state_of d p).tasks ≡ Some (task_in p.works (slot_at d.slots at))
task_found d p at a h = task_at p.works d.slots at (slot_at d.slots at) a.numbers (slot_read d.slots at h)

pub held_found : (d : Desk) (p : BookState) (at : ℕ) → Agrees d p → at < length d.slots → command_of (slot_at d.slots at).no d.set.commands ≡ Some (held_of (length d.blocks) (task_in p.works (slot_at d.slots at)))
held_found d p at a h = ap (λ (s : TaskSet). command_of (slot_at d.slots at).no s.commands) a.set ∙ held_at (length d.blocks) (slot_at d.slots at).no (state_of d p).tasks (task_in p.works (slot_at d.slots at)) (task_found d p at a h)

-- the task set, of which three parts are known

pub set_is : (s : TaskSet) (commands : List HeldCommand) (unrestricted : Bool) → s.commands ≡ commands → s.unrestricted ≡ unrestricted → s ≡ record { commands = commands; depth = s.depth; unrestricted = unrestricted }
set_is s commands unrestricted h k = rw (← h, ← k) refl

pub get_map : {A B : Type 0} (f : A → B) (xs : List A) (at : ℕ) (x : A) → slice_get xs at ≡ Some x → slice_get (map f xs) at ≡ Some (f x)
get_map f [] at x read = cc
get_map f (y ∷ ys) zero x read = let same : y ≡ x = cc in ap (λ z. Some (f z)) same
get_map f (y ∷ ys) (suc at) x read = get_map f ys at x read

-- the blocks that a command needs are those of its lease
lease_need : (blocks : ℕ) (pool : PoolState) (works : List KeptWork) (replies : List (Option Reply)) (slot : Slot) → SlotAgrees blocks pool works replies slot → slot.task.lease.count ≡ need_in blocks (command_in works slot.no)
lease_need blocks pool works replies slot a = a.ready.need ∙ a.need

-- a command leaves, and what stands under other numbers stays
pub agrees_without : (d d' : Desk) (p p' : BookState) (at : ℕ) → Agrees d p → at < length d.slots → Leaves d d' at → p'.works ≡ p.works
    → ((number : ℕ) → (number == (slot_at d.slots at).no) ≡ false → numbered number p'.replies ≡ numbered number p.replies) → Agrees d' p'
agrees_without d d' p p' at a h l works replies =
    let slot = slot_at d.slots at in
    let read : slice_get d.slots at ≡ Some slot = slot_read d.slots at h in
    let sa : SlotAgrees (length d.blocks) d.pool p.works p.replies slot = slot_agrees d p at a h in
    let tasks : tasks_in p.works (remove d.slots at) ≡ remove (tasks_in p.works d.slots) at = map_remove (task_in p.works) d.slots at in
    let need = λ (task : Task). need_in (length d.blocks) task.command in
    let fell : sum_by need (remove (tasks_in p.works d.slots) at) + need_in (length d.blocks) (command_in p.works slot.no) ≡ sum_by need (tasks_in p.works d.slots) =
    sum_remove need (tasks_in p.works d.slots) at (task_in p.works slot) (get_map (task_in p.works) d.slots at slot read) in
    let count : slot.task.lease.count ≡ need_in (length d.blocks) (command_in p.works slot.no) = lease_need (length d.blocks) d.pool p.works p.replies slot sa in
    record {
      few = rw l.blocks a.few;
      set =
          set_is d'.set (map (held_of (length d'.blocks)) (tasks_in p'.works d'.slots)) (is_unrestricted d'.control)
          (rw (l.set, l.blocks, works, l.slots)
          (ap (λ (s : TaskSet). without slot.no s.commands) a.set ∙ held_without (length d.blocks) slot.no (tasks_in p.works d.slots) ∙ ap (map (held_of (length d.blocks))) (without_at p.works d.slots at slot a.numbers read)))
          (rw (l.set, l.control) (ap (λ (s : TaskSet). s.unrestricted) a.set));
      each =
          rw (l.slots, l.blocks, works)
          (each_remove (SlotAgrees (length d.blocks) d.pool p.works p.replies) (SlotAgrees (length d.blocks) d'.pool p.works p'.replies) number_of key_of d.slots at slot a.each a.numbers a.keys read
          (λ y ya no key. slot_stays (length d.blocks) d.pool d'.pool p.works p.replies p'.replies slot.task.lease.key y ya l.pool.others key (replies y.no no)));
      numbers = rw (l.slots, map_remove number_of d.slots at) (apart_remove (map number_of d.slots) at a.numbers);
      keys = rw (l.slots, map_remove key_of d.slots at) (apart_remove (map key_of d.slots) at a.keys);
      free = rw (l.slots, l.blocks, works, tasks) (omega (arith, fell, count, l.pool.free, l.pool.size, a.free));
      out = rw l.slots (omega (arith, l.pool.out, a.out, length-remove d.slots at h));
      contexts = rw l.set (l.pool.contexts ∙ a.contexts);
    }

-- the same, with its reply
pub agrees_left : (d d' : Desk) (p p' : BookState) (at : ℕ) (reply : Reply) → Agrees d p → at < length d.slots → Leaves d d' at → p'.works ≡ p.works → p'.replies ≡ slice_set p.replies ((slot_at d.slots at).no - 1) (Some reply) → Agrees d' p'
agrees_left d d' p p' at reply a h l works replies =
    let slot = slot_at d.slots at in
    let sa : SlotAgrees (length d.blocks) d.pool p.works p.replies slot = slot_agrees d p at a h in
    let given : 0 < slot.no = positive slot.no p.works (work.Cmd (command_in p.works slot.no)) sa.command in
    agrees_without d d' p p' at a h l works
    (λ number other. ap (numbered number) replies ∙ numbered-apart number p.replies slot.no (Some reply) given (other_number number slot.no other))

-- a command begins
pub agrees_begun : (d : Desk) (p p' : BookState) (at : ℕ) → Agrees d p → at < length d.slots → (slot_at d.slots at).begun ≡ false → p'.works ≡ p.works → p'.replies ≡ p.replies
    → Agrees (record d { set = record d.set { commands = with_begun (slot_at d.slots at).no d.set.commands }; slots = slice_set d.slots at (record (slot_at d.slots at) { begun = true }) }) p'
agrees_begun d p p' at a h waits works replies =
    let slot = slot_at d.slots at in
    let new : Slot = record slot { begun = true } in
    let read : slice_get d.slots at ≡ Some slot = slot_read d.slots at h in
    let sa : SlotAgrees (length d.blocks) d.pool p.works p.replies slot = slot_agrees d p at a h in
    let tasks : tasks_in p.works (slice_set d.slots at new) ≡ slice_set (tasks_in p.works d.slots) at (task_in p.works new) = map_set (task_in p.works) d.slots at new in
    let need = λ (task : Task). need_in (length d.blocks) task.command in
    let same : sum_by need (slice_set (tasks_in p.works d.slots) at (task_in p.works new)) + need_in (length d.blocks) (command_in p.works slot.no) ≡ sum_by need (tasks_in p.works d.slots) + need_in (length d.blocks) (command_in p.works slot.no) =
    sum_set need (tasks_in p.works d.slots) at (task_in p.works slot) (task_in p.works new) (get_map (task_in p.works) d.slots at slot read) in
    record {
      few = a.few;
      set =
          rw works
          (set_is (record d.set { commands = with_begun slot.no d.set.commands }) (map (held_of (length d.blocks)) (tasks_in p.works (slice_set d.slots at new))) (is_unrestricted d.control)
          (ap (λ (s : TaskSet). with_begun slot.no s.commands) a.set ∙ begun_at (length d.blocks) p.works d.slots at slot a.numbers read)
          (ap (λ (s : TaskSet). s.unrestricted) a.set));
      each =
          rw (works, replies)
          (each_set (SlotAgrees (length d.blocks) d.pool p.works p.replies) (SlotAgrees (length d.blocks) d.pool p.works p.replies) number_of key_of d.slots at slot new a.each a.numbers a.keys read (λ y ya no key. ya) (record {
            command = sa.command;
            reply = sa.reply;
            nexus = sa.nexus;
            tag = sa.tag;
            operations = sa.operations;
            need = sa.need;
            ready = sa.ready;
            waits = λ w. absurd (false≢true (sym w));
          }));
      numbers = rw (map_same number_of d.slots at slot new read refl) a.numbers;
      keys = rw (map_same key_of d.slots at slot new read refl) a.keys;
      free = rw (works, tasks) (omega (arith, same, a.free));
      out = omega (arith, a.out, length-set d.slots at new);
      contexts = a.contexts;
    }

-- a command that began goes on
pub agrees_moved : (d d' : Desk) (p p' : BookState) (at count : ℕ) (piece : Piece) → Agrees d p → at < length d.slots → (slot_at d.slots at).begun ≡ true → Goes d d' at count (command_in p.works (slot_at d.slots at).no).out piece → p'.works ≡ p.works → p'.replies ≡ p.replies
    → Agrees d' p'
agrees_moved d d' p p' at count piece a h begun g works replies =
    let slot = slot_at d.slots at in
    let new : Slot = record slot { task = g.task } in
    let read : slice_get d.slots at ≡ Some slot = slot_read d.slots at h in
    let sa : SlotAgrees (length d.blocks) d.pool p.works p.replies slot = slot_agrees d p at a h in
    let size : length d'.blocks ≡ length d.blocks = g.moved.size in
    let tasks : tasks_in p.works (slice_set d.slots at new) ≡ slice_set (tasks_in p.works d.slots) at (task_in p.works new) = map_set (task_in p.works) d.slots at new in
    let read_task : slice_get (tasks_in p.works d.slots) at ≡ Some (task_in p.works slot) = get_map (task_in p.works) d.slots at slot read in
    let need = λ (task : Task). need_in (length d.blocks) task.command in
    let same : sum_by need (slice_set (tasks_in p.works d.slots) at (task_in p.works new)) + need_in (length d.blocks) (command_in p.works slot.no) ≡ sum_by need (tasks_in p.works d.slots) + need_in (length d.blocks) (command_in p.works slot.no) =
    sum_set need (tasks_in p.works d.slots) at (task_in p.works slot) (task_in p.works new) read_task in
    let held : held_of (length d.blocks) (task_in p.works new) ≡ held_of (length d.blocks) (task_in p.works slot) =
    ap (λ (b : Bool). record { no = slot.no; held = record (held_of (length d.blocks) (task_in p.works slot)).held { begun = b } }) (begun_stage new ∙ sym (begun_stage slot)) in
    record {
      few = rw size a.few;
      set =
          set_is d'.set (map (held_of (length d'.blocks)) (tasks_in p'.works d'.slots)) (is_unrestricted d'.control)
          (rw (g.set, size, works, g.slots, tasks)
          (ap (λ (s : TaskSet). s.commands) a.set ∙ sym (map_same (held_of (length d.blocks)) (tasks_in p.works d.slots) at (task_in p.works slot) (task_in p.works new) read_task held)))
          (rw (g.set, g.control) (ap (λ (s : TaskSet). s.unrestricted) a.set));
      each =
          rw (g.slots, size, works, replies)
          (each_set (SlotAgrees (length d.blocks) d.pool p.works p.replies) (SlotAgrees (length d.blocks) d'.pool p.works p.replies) number_of key_of d.slots at slot new a.each a.numbers a.keys read
          (λ y ya no key. slot_stays (length d.blocks) d.pool d'.pool p.works p.replies p.replies slot.task.lease.key y ya g.pool.others key refl)
          (record {
            command = sa.command;
            reply = sa.reply;
            nexus = sa.nexus;
            tag = sa.tag;
            operations = ap (λ plan. plan.operations) g.moved.plan ∙ sa.operations;
            need = ap (λ plan. plan.need) g.moved.plan ∙ sa.need;
            ready = rw size at g.ready;
            waits = λ w. absurd (false≢true (sym w ∙ begun));
          }));
      numbers = rw (g.slots, map_same number_of d.slots at slot new read refl) a.numbers;
      keys = rw (g.slots, map_same key_of d.slots at slot new read (ap (λ (lease : LeaseState). lease.key) g.moved.lease)) a.keys;
      free = rw (g.slots, size, works, tasks) (omega (arith, same, a.free, g.pool.free, g.pool.size));
      out = rw g.slots (omega (arith, g.pool.out, a.out, length-set d.slots at new));
      contexts = rw g.set (g.pool.contexts ∙ a.contexts);
    }

-- the control changes
pub agrees_control : (d : Desk) (p : BookState) (control : ControlState) → Agrees d p → Agrees (with_control d control) p
agrees_control d p control a = record {
  few = a.few;
  set = set_is (with_control d control).set (map (held_of (length d.blocks)) (tasks_in p.works d.slots)) (is_unrestricted control) (ap (λ (s : TaskSet). s.commands) a.set) refl;
  each = a.each;
  numbers = a.numbers;
  keys = a.keys;
  free = a.free;
  out = a.out;
  contexts = a.contexts;
}
