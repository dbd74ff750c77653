-- A unit and its book as they are opened, and the room that is left between two calls.
use Rattle.std.proofs.Common.{◌≡◌, ℕ, ◌+◌, ◌*◌, ◌<◌, ◌≤◌, List, [], ◌∷◌, length, replicate, sum_by, refl, arith}
use Rattle.std.proofs.lemmas.List.Sums.{sum_by-cons}
use Rattle.ct_word.specs.declared.limit.TheConstants.{MOST_BLOCKS}
use Rattle.ct_word.specs.declared.names.LunNo.{LunNo}
use Rattle.ct_word.specs.declared.names.Room.{Room}
use Rattle.ct_word.specs.declared.names.Ha.TheVariants as ha
use Rattle.ct_book.specs.Journals.{KeptWork, BookState}
use Rattle.ct_book.specs.Kept.{empty_book, events_for}
use Rattle.ct_exec.specs.Executions.{plan_in}
use Rattle.ct_machine.specs.States.{opened}
use Rattle.ct_lun.specs.declared.slot.Slot.{Slot}
use Rattle.ct_lun.specs.Desk.{Desk, opened_desk}
use Rattle.ct_lun.specs.States.{task_in, tasks_in, state_of}
use Rattle.ct_lun.specs.Agreement.{AgreesWith}
use Rattle.ct_lun.specs.Rooms.{task_room, room_of}
use Rattle.ct_lun.proofs.Spent.{least_room}

pub opened_agrees : (lun : LunNo) (depth pool : ℕ) (blocks : List (List ℕ)) (faults : ℕ) (room : Room)
    → length blocks ≤ MOST_BLOCKS → AgreesWith (opened_desk lun depth pool blocks faults) (empty_book room)
opened_agrees lun depth pool blocks faults room few = record {
  base = record {
    few = few;
    set = refl;
    each = tt;
    numbers = tt;
    keys = tt;
    free = omega arith;
    out = refl;
    contexts = refl;
  };
  left = tt;
}

pub opened_state : (lun : LunNo) (depth pool count : ℕ) (blocks : List (List ℕ)) (faults : ℕ) (room : Room) → blocks ≡ replicate count (replicate 512 0)
    → state_of (opened_desk lun depth pool blocks faults) (empty_book room) ≡ opened (record { ha = ha.None; lun = lun; blocks = count; depth = depth; pool = pool; room = room })
opened_state lun depth pool count blocks faults room zeros = rw zeros refl

pub opened_room : (lun : LunNo) (depth pool : ℕ) (blocks : List (List ℕ)) (faults : ℕ) (room : Room) → room_of (state_of (opened_desk lun depth pool blocks faults) (empty_book room)) ≡ events_for room
unfolding room_of
opened_room lun depth pool blocks faults room = omega arith

least_sum : (blocks : ℕ) (works : List KeptWork) (slots : List Slot) → 3 * length slots ≤ sum_by (task_room blocks) (tasks_in works slots)
least_sum blocks works [] = omega arith
least_sum blocks works (x ∷ xs) =
    let task = task_in works x in
    omega (arith, sum_by-cons (task_room blocks) task (tasks_in works xs), least_room task.stage (length (plan_in blocks task.command)), least_sum blocks works xs)

-- where commands are in the task set there is room for the events of a step
pub step_spare : (d : Desk) (p : BookState) → room_of (state_of d p) ≤ p.spare → 0 < length d.slots → length d.slots + 2 ≤ p.spare
unfolding room_of
step_spare d p enough some = omega (arith, enough, least_sum (length d.blocks) p.works d.slots, some)

-- where a command can come there is room for the events of an arrival
pub arrive_spare : (d : Desk) (p : BookState) → room_of (state_of d p) ≤ p.spare → 0 < p.commands → 2 ≤ p.spare
unfolding room_of
arrive_spare d p enough some = omega (arith, enough, some)

-- where a function can come there is room for its events, and for the cuts of all commands
pub ask_spare : (d : Desk) (p : BookState) → room_of (state_of d p) ≤ p.spare → 0 < p.functions → length d.slots + 3 ≤ p.spare
unfolding room_of
ask_spare d p enough some = omega (arith, enough, least_sum (length d.blocks) p.works d.slots, some)
