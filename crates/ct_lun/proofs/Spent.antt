-- The room that the state asks for falls with each event.
use Rattle.std.proofs.Common.{◌≡◌, ℕ, ◌+◌, ◌-◌, ◌<◌, ◌≤◌, true, false, length, slice_set, remove, sum_by, refl, ap, arith}
use Rattle.std.proofs.lemmas.List.{length-drop}
use Rattle.ct_plan.specs.declared.task.Piece.{Piece}
use Rattle.ct_matrix.specs.Queues.{with_begun}
use Rattle.ct_book.specs.Journals.{BookState}
use Rattle.ct_exec.specs.Executions.{plan_in}
use Rattle.ct_machine.specs.States.{Stage, Waiting, Here, Granted, There, Over}
use Rattle.ct_lun.specs.declared.slot.Slot.{Slot}
use Rattle.ct_lun.specs.Desk.{Desk, slot_at}
use Rattle.ct_lun.specs.States.{command_in, task_in, tasks_in}
use Rattle.ct_lun.specs.Agreement.{Agrees}
use Rattle.ct_lun.specs.Rooms.{room_at, task_room, room_of}
use Rattle.ct_lun.specs.Calls.{Goes, Leaves, Spends}
use Rattle.ct_lun.proofs.Lists.{slot_read, map_set, map_remove, sum_set, sum_remove}
use Rattle.ct_lun.proofs.Keeps.{get_map}
use Rattle.ct_lun.proofs.Effects.{stage_begun, stage_waits}
use Rattle.ct_lun.proofs.Moves.{slot_made}

pub least_room : (stage : Stage) (operations : ℕ) → 3 ≤ room_at stage operations
least_room Waiting operations = omega arith
least_room (Here done got) operations = omega arith
least_room Granted operations = omega arith
least_room (There done got) operations = omega arith
least_room Over operations = omega arith

-- a book with the same room for works
pub record SameRoom (p p' : BookState) : Type 0 where
  pub works : p'.works ≡ p.works
  pub commands : p'.commands ≡ p.commands
  pub functions : p'.functions ≡ p.functions
  pub pieces : p'.pieces ≡ p.pieces

pub left_spends : (d d' : Desk) (p p' : BookState) (at : ℕ) → at < length d.slots → Leaves d d' at → SameRoom p p' → Spends d d' p p' 1
unfolding room_of
left_spends d d' p p' at h l same =
    let room = task_room (length d.blocks) in
    let task = task_in p.works (slot_at d.slots at) in
    let tasks : tasks_in p.works (remove d.slots at) ≡ remove (tasks_in p.works d.slots) at = map_remove (task_in p.works) d.slots at in
    let fell : sum_by room (remove (tasks_in p.works d.slots) at) + room task ≡ sum_by room (tasks_in p.works d.slots) =
    sum_remove room (tasks_in p.works d.slots) at task (get_map (task_in p.works) d.slots at (slot_at d.slots at) (slot_read d.slots at h)) in
    let least : 3 ≤ room task = least_room task.stage (length (plan_in (length d.blocks) task.command)) in
    rw (same.works, same.commands, same.functions, same.pieces, l.slots, l.blocks, tasks) (omega (arith, fell, least))

pub begun_spends : (d : Desk) (p p' : BookState) (at : ℕ) → at < length d.slots → (slot_at d.slots at).begun ≡ false → SameRoom p p'
    → Spends d (record d { set = record d.set { commands = with_begun (slot_at d.slots at).no d.set.commands }; slots = slice_set d.slots at (record (slot_at d.slots at) { begun = true }) }) p p' 1
unfolding room_of
begun_spends d p p' at h waits same =
    let slot = slot_at d.slots at in
    let new : Slot = record slot { begun = true } in
    let room = task_room (length d.blocks) in
    let operations = length (plan_in (length d.blocks) (command_in p.works slot.no)) in
    let tasks : tasks_in p.works (slice_set d.slots at new) ≡ slice_set (tasks_in p.works d.slots) at (task_in p.works new) = map_set (task_in p.works) d.slots at new in
    let fell : sum_by room (slice_set (tasks_in p.works d.slots) at (task_in p.works new)) + room (task_in p.works slot) ≡ sum_by room (tasks_in p.works d.slots) + room (task_in p.works new) =
    sum_set room (tasks_in p.works d.slots) at (task_in p.works slot) (task_in p.works new) (get_map (task_in p.works) d.slots at slot (slot_read d.slots at h)) in
    let old : room (task_in p.works slot) ≡ operations + 4 = ap (λ (stage : Stage). room_at stage operations) (stage_waits slot waits) in
    let now : room (task_in p.works new) ≡ operations - slot.task.done + 3 = refl in
    rw (same.works, same.commands, same.functions, same.pieces, tasks) (omega (arith, fell, old, now))

pub moved_spends : (d d' : Desk) (p p' : BookState) (at count : ℕ) (piece : Piece) → Agrees d p → at < length d.slots → (slot_at d.slots at).begun ≡ true → Goes d d' at count (command_in p.works (slot_at d.slots at).no).out piece → SameRoom p p' → Spends d d' p p' piece.moved
unfolding room_of
moved_spends d d' p p' at count piece a h begun g same =
    let slot = slot_at d.slots at in
    let new : Slot = record slot { task = g.task } in
    let room = task_room (length d.blocks) in
    let plan = plan_in (length d.blocks) (command_in p.works slot.no) in
    let made = slot_made d d' p at count piece a h g in
    let tasks : tasks_in p.works (slice_set d.slots at new) ≡ slice_set (tasks_in p.works d.slots) at (task_in p.works new) = map_set (task_in p.works) d.slots at new in
    let fell : sum_by room (slice_set (tasks_in p.works d.slots) at (task_in p.works new)) + room (task_in p.works slot) ≡ sum_by room (tasks_in p.works d.slots) + room (task_in p.works new) =
    sum_set room (tasks_in p.works d.slots) at (task_in p.works slot) (task_in p.works new) (get_map (task_in p.works) d.slots at slot (slot_read d.slots at h)) in
    let old : room (task_in p.works slot) ≡ length plan - slot.task.done + 3 = ap (λ (stage : Stage). room_at stage (length plan)) (stage_begun slot begun) in
    let now : room (task_in p.works new) ≡ length plan - g.task.done + 3 = ap (λ (stage : Stage). room_at stage (length plan)) (stage_begun new begun) in
    let few : piece.moved ≤ length plan - slot.task.done = omega (arith, made.few, length-drop slot.task.done plan) in
    rw (same.works, same.commands, same.functions, same.pieces, g.slots, g.moved.size, tasks) (omega (arith, fell, old, now, few, g.moved.done))
