-- A command that began goes on.
use Rattle.std.proofs.Common.{◌≡◌, ℕ, zero, suc, ◌+◌, ◌<◌, ◌≤◌, List, true, Option, length, take, drop, slice_set, refl}
use Rattle.std.proofs.Common.{sym, ap, ◌∙◌, subst, arith}
use Rattle.ct_plan.specs.declared.operation.BlockOp.{BlockOp}
use Rattle.ct_plan.specs.declared.task.Piece.{Piece}
use Rattle.ct_plan.specs.Cells.{Cells, performed, after_all}
use Rattle.ct_plan.specs.Tasks.{cells_of}
use Rattle.ct_plan.specs.Pieces.{fault_in, tried}
use Rattle.ct_book.specs.Journals.{BookState}
use Rattle.ct_exec.specs.Executions.{plan_in}
use Rattle.ct_machine.specs.States.{Stage, Here, Task, State, task_of, with_task, at_stage}
use Rattle.ct_machine.specs.Events.{after, after_events}
use Rattle.ct_machine.specs.Events.Moves.{after_moved, moved_at, cells_after}
use Rattle.ct_lun.specs.declared.slot.Slot.{Slot}
use Rattle.ct_lun.specs.Desk.{Desk, slot_at}
use Rattle.ct_lun.specs.States.{command_in, stage_of, task_in, tasks_in, state_of}
use Rattle.ct_lun.specs.Agreement.{SlotAgrees, Agrees}
use Rattle.ct_lun.specs.Calls.{Goes, Wrote, moved_journal, moved_book}
use Rattle.ct_lun.proofs.Lists.{slot_read, map_same}
use Rattle.ct_lun.proofs.Tasks.{with_at}
use Rattle.ct_lun.proofs.Keeps.{slot_agrees, task_found, agrees_moved}
use Rattle.ct_lun.proofs.Turns.{difference_of, Made, made_by, piece_progress}
use Rattle.ct_lun.proofs.Effects.{stage_begun}

-- the blocks and the data of a slot
abbrev pub slot_cells : Desk → ℕ → Cells
slot_cells d at = cells_of d.blocks (slot_at d.slots at).task

-- what the machine performs is what the piece made
pub slot_progress : (d d' : Desk) (p : BookState) (at count : ℕ) (piece : Piece) → Agrees d p → at < length d.slots
    → (g : Goes d d' at count (command_in p.works (slot_at d.slots at).no).out piece)
    → (difference : Option ℕ) → difference_of piece.end ≡ difference
    → performed (command_in p.works (slot_at d.slots at).no).out
    (tried (take count (drop (slot_at d.slots at).task.done
    (plan_in (length d.blocks) (command_in p.works (slot_at d.slots at).no)))) (fault_in piece)) (slot_cells d at)
    ≡ record {
      made = piece.moved;
      difference = difference;
      cells = record { blocks = d'.blocks; got = g.task.body.items };
    }
slot_progress d d' p at count piece a h g difference found =
    let slot = slot_at d.slots at in
    let out = (command_in p.works slot.no).out in
    let sa : SlotAgrees (length d.blocks) d.pool p.works p.replies slot = slot_agrees d p at a h in
    let asked = take count (drop slot.task.done slot.task.plan.operations) in
    ap (λ (plan : List BlockOp). performed out (tried (take count (drop slot.task.done plan)) (fault_in piece))
    (slot_cells d at)) (sym sa.operations)
    ∙ piece_progress out asked slot.task g.task d.blocks d'.blocks piece (fault_in piece) g.moved
    ∙ ap (λ (f : Option ℕ). record { made = piece.moved; difference = f; cells = cells_of d'.blocks g.task }) found

pub slot_made : (d d' : Desk) (p : BookState) (at count : ℕ) (piece : Piece) → Agrees d p → at < length d.slots
    → (g : Goes d d' at count (command_in p.works (slot_at d.slots at).no).out piece)
    → Made (command_in p.works (slot_at d.slots at).no).out
    (drop (slot_at d.slots at).task.done (plan_in (length d.blocks) (command_in p.works (slot_at d.slots at).no)))
    piece.moved (slot_cells d at) (record { blocks = d'.blocks; got = g.task.body.items })
slot_made d d' p at count piece a h g =
    let slot = slot_at d.slots at in
    let out = (command_in p.works slot.no).out in
    let sa : SlotAgrees (length d.blocks) d.pool p.works p.replies slot = slot_agrees d p at a h in
    subst (λ (plan : List BlockOp). Made out (drop slot.task.done plan) piece.moved (slot_cells d at)
    (cells_of d'.blocks g.task)) sa.operations
    (made_by out (drop slot.task.done slot.task.plan.operations) count slot.task g.task d.blocks d'.blocks piece
    (fault_in piece) g.moved)

moved_here : (task : Task) (done : ℕ) (got : List ℕ) (count : ℕ) (s : State) → task.stage ≡ Here done got
    → moved_at task.stage task count s ≡ record s { tasks = with_task (at_stage (Here (done + count) (cells_after task count done got s).got) task) s.tasks; blocks = (cells_after task count done got s).blocks }
moved_here task done got count s stage = rw stage refl

-- the machine's state behind some operations of the slot at a place
goes_state : (d d' : Desk) (p : BookState) (at count : ℕ) (piece : Piece) → Agrees d p → at < length d.slots → (g : Goes d d' at count (command_in p.works (slot_at d.slots at).no).out piece)
    → state_of d' p ≡ record (state_of d p) { tasks = tasks_in p.works (slice_set d.slots at (record (slot_at d.slots at) { task = g.task })); blocks = d'.blocks }
goes_state d d' p at count piece a h g = rw (g.set, g.pool.size, g.slots, g.control) refl

new_stage : (slot : Slot) (new : Slot) (done : ℕ) (got : List ℕ) → new.begun ≡ true → new.task.done ≡ done → new.task.body.items ≡ got → Here done got ≡ stage_of new
new_stage slot new done got begun h k = ap (λ (d : ℕ). Here d got) (sym h) ∙ ap (λ (g : List ℕ). Here new.task.done g) (sym k) ∙ sym (stage_begun new begun)

moved_effect : (d d' : Desk) (p : BookState) (at count : ℕ) (piece : Piece) → Agrees d p → at < length d.slots → (slot_at d.slots at).begun ≡ true → (g : Goes d d' at count (command_in p.works (slot_at d.slots at).no).out piece)
    → state_of d' p ≡ after_moved (task_of (slot_at d.slots at).no (state_of d p).tasks) piece.moved (state_of d p)
moved_effect d d' p at count piece a h begun g =
    let slot = slot_at d.slots at in
    let new : Slot = record slot { task = g.task } in
    let task : Task = task_in p.works slot in
    let made = slot_made d d' p at count piece a h g in
    let cells : cells_after task piece.moved slot.task.done slot.task.body.items (state_of d p) ≡ record { blocks = d'.blocks; got = g.task.body.items } = made.cells in
    let staged : at_stage (Here (slot.task.done + piece.moved) g.task.body.items) task ≡ task_in p.works new =
    ap (λ (stage : Stage). at_stage stage task) (new_stage slot new (slot.task.done + piece.moved) g.task.body.items begun g.moved.done refl) in
    goes_state d d' p at count piece a h g
    ∙ ap (λ (ts : List Task). record (state_of d p) { tasks = ts; blocks = d'.blocks }) (sym (with_at p.works d.slots at slot new a.numbers (slot_read d.slots at h) refl))
    ∙ ap (λ (t : Task). record (state_of d p) { tasks = with_task t (state_of d p).tasks; blocks = d'.blocks }) (sym staged)
    ∙ ap (λ (c : Cells). record (state_of d p) { tasks = with_task (at_stage (Here (slot.task.done + piece.moved) c.got) task) (state_of d p).tasks; blocks = c.blocks }) (sym cells)
    ∙ sym (moved_here task slot.task.done slot.task.body.items piece.moved (state_of d p) (stage_begun slot begun))
    ∙ ap (λ (found : Option Task). after_moved found piece.moved (state_of d p)) (sym (task_found d p at a h))

-- no operation was made: nothing changed
still : (d d' : Desk) (p : BookState) (at count : ℕ) (piece : Piece) → Agrees d p → at < length d.slots → (slot_at d.slots at).begun ≡ true → (g : Goes d d' at count (command_in p.works (slot_at d.slots at).no).out piece) → piece.moved ≡ 0 → state_of d' p ≡ state_of d p
still d d' p at count piece a h begun g none =
    let slot = slot_at d.slots at in
    let new : Slot = record slot { task = g.task } in
    let made = slot_made d d' p at count piece a h g in
    let cells : slot_cells d at ≡ record { blocks = d'.blocks; got = g.task.body.items } =
    ap (λ (k : ℕ). after_all (command_in p.works slot.no).out (take k (drop slot.task.done (plan_in (length d.blocks) (command_in p.works slot.no)))) (slot_cells d at)) (sym none) ∙ made.cells in
    let blocks : d'.blocks ≡ d.blocks = ap (λ (c : Cells). c.blocks) (sym cells) in
    let got : g.task.body.items ≡ slot.task.body.items = ap (λ (c : Cells). c.got) (sym cells) in
    let done : g.task.done ≡ slot.task.done = omega (arith, g.moved.done, none) in
    let stage : stage_of new ≡ stage_of slot = sym (new_stage slot new slot.task.done slot.task.body.items begun done got) ∙ sym (stage_begun slot begun) in
    goes_state d d' p at count piece a h g
    ∙ ap (λ (b : List (List ℕ)). record (state_of d p) { tasks = tasks_in p.works (slice_set d.slots at new); blocks = b }) blocks
    ∙ ap (λ (ts : List Task). record (state_of d p) { tasks = ts }) (map_same (task_in p.works) d.slots at slot new (slot_read d.slots at h) (ap (λ (st : Stage). at_stage st (task_in p.works slot)) stage))

moved_after : (number count : ℕ) (s : State) → after_events s (moved_journal number (suc count)) ≡ after_moved (task_of number s.tasks) (suc count) s
unfolding after
moved_after number count s = refl

pub moved_state : (d d' : Desk) (p : BookState) (at count : ℕ) (piece : Piece) → Agrees d p → at < length d.slots → (slot_at d.slots at).begun ≡ true → Goes d d' at count (command_in p.works (slot_at d.slots at).no).out piece
    → state_of d' p ≡ after_events (state_of d p) (moved_journal (slot_at d.slots at).no piece.moved)
moved_state d d' p at count piece a h begun g = go piece.moved refl
  where
    go : (k : ℕ) → piece.moved ≡ k → state_of d' p ≡ after_events (state_of d p) (moved_journal (slot_at d.slots at).no piece.moved)
    go zero e = still d d' p at count piece a h begun g e ∙ ap (λ (k : ℕ). after_events (state_of d p) (moved_journal (slot_at d.slots at).no k)) (sym e)
    go (suc k) e =
        moved_effect d d' p at count piece a h begun g
        ∙ ap (λ (j : ℕ). after_moved (task_of (slot_at d.slots at).no (state_of d p).tasks) j (state_of d p)) e
        ∙ sym (moved_after (slot_at d.slots at).no k (state_of d p))
        ∙ ap (λ (j : ℕ). after_events (state_of d p) (moved_journal (slot_at d.slots at).no j)) (sym e)

pub moved_few : (number count : ℕ) → length (moved_journal number count) ≤ 1
moved_few number zero = omega arith
moved_few number (suc count) = omega arith

pub moved_fewer : (number count : ℕ) → length (moved_journal number count) ≤ count
moved_fewer number zero = omega arith
moved_fewer number (suc count) = omega arith

pub moved_wrote : (d d' : Desk) (p p' : BookState) (at count : ℕ) (piece : Piece) → Agrees d p → at < length d.slots → (slot_at d.slots at).begun ≡ true → Goes d d' at count (command_in p.works (slot_at d.slots at).no).out piece → 0 < p.spare
    → p' ≡ moved_book p (slot_at d.slots at).no piece.moved → Wrote d d' p p' (moved_journal (slot_at d.slots at).no piece.moved)
moved_wrote d d' p p' at count piece a h begun g room book =
    rw book
    (record {
      journal = refl;
      state = moved_state d d' p at count piece a h begun g;
      agrees = agrees_moved d d' p (moved_book p (slot_at d.slots at).no piece.moved) at count piece a h begun g refl refl;
      spare = omega (arith, moved_few (slot_at d.slots at).no piece.moved);
    })
