-- A command that moves to its end or to a fault, and one that is over when it would begin.
use Rattle.std.proofs.Common.{◌≡◌, ℕ, ◌+◌, ◌<◌, ◌≤◌, List, [], ◌∷◌, ◌++◌, true, false, nat_le, Option, Some, None, length, take, drop, slice_get, refl, sym, ap, ◌∙◌, subst, arith, length-append}
use Rattle.std.specs.List.{list_any}
use Rattle.std.proofs.lemmas.List.{length-take, length-drop}
use Rattle.ct_sense.specs.declared.reply.Reply.{Reply}
use Rattle.ct_plan.specs.declared.operation.BlockOp.{BlockOp}
use Rattle.ct_plan.specs.declared.task.Piece.{Piece}
use Rattle.ct_plan.specs.declared.task.PieceEnd.{PieceEnd}
use Rattle.ct_plan.specs.declared.task.PieceEnd.TheVariants.{All, Miscompare, ReadFault, WriteFault}
use Rattle.ct_plan.specs.Plans.{puts_among}
use Rattle.ct_plan.specs.Cells.{Progress}
use Rattle.ct_plan.specs.Pieces.{fault_in, fault_behind, faults_at}
use Rattle.ct_plan.specs.Tasks.{cells_of}
use Rattle.ct_plan.proofs.Lists.{slice_get-drop, slice_get-take, slice_get-within}
use Rattle.ct_book.specs.declared.event.Event.{Event}
use Rattle.ct_book.specs.declared.event.Event.TheVariants as event
use Rattle.ct_book.specs.declared.event.Why.TheVariants.{Medium}
use Rattle.ct_book.specs.declared.event.Logged.{Logged}
use Rattle.ct_book.specs.Journals.{BookState}
use Rattle.ct_exec.specs.Executions.{good, reply_moved, reply_failed, plan_in}
use Rattle.ct_machine.specs.declared.act.Answer.TheVariants as answer
use Rattle.ct_machine.specs.States.{State, arrival_of}
use Rattle.ct_machine.specs.Acts.Answers.{ends, moved_answer, line_by}
use Rattle.ct_machine.specs.Acts.Moves.{moved_to, moving_on, moving_from}
use Rattle.ct_lun.specs.declared.slot.Slot.{Slot}
use Rattle.ct_lun.specs.Desk.{Desk, slot_at}
use Rattle.ct_lun.specs.States.{command_in, task_in, state_of}
use Rattle.ct_lun.specs.Agreement.{SlotAgrees, IsLeft, AgreesWith}
use Rattle.ct_lun.specs.Calls.{Goes, Leaves, Wrote, Spends, medium_cuts_at, Does, IsOver, by_end, by_medium, closed_book, moved_book, moved_journal, replied}
use Rattle.ct_lun.specs.Acts.{going}
use Rattle.ct_lun.specs.declared.said.Reached.TheVariants as reached
use Rattle.ct_lun.specs.Reached.{reached_by}
use Rattle.ct_lun.proofs.Lists.{each_drop, remove_set}
use Rattle.ct_lun.proofs.Keeps.{slot_agrees}
use Rattle.ct_lun.proofs.Turns.{difference_of, moving_at, moving_on_state, end_journal, cut_journal, moved_says}
use Rattle.ct_lun.proofs.Turns.{ended_answer, ends_ended, ends_cut}
use Rattle.ct_lun.proofs.Effects.{wrote_then, over_wrote}
use Rattle.ct_lun.proofs.Moves.{slot_progress, moved_wrote, moved_few, moved_fewer}
use Rattle.ct_lun.proofs.Spent.{left_spends, moved_spends}
use Rattle.ct_lun.proofs.Does.{medium_cuts-append, moved_uncut, does_from, unfaulted, gone_slot, gone_within, test_true, test_false, equal, at_end}

over_ends : (number : ℕ) (e : Event) (reply : Reply) → IsOver number e → list_any (λ (logged : Logged). ends number logged.event) (replied e reply ∷ []) ≡ true
over_ends number e reply by_end = ends_ended number reply []
over_ends number e reply (by_medium puts) = ends_cut number puts false reply

-- a command that went on and is over by this event
pub over_does : (d d1 d' : Desk) (p p1 p' : BookState) (at count : ℕ) (piece : Piece) (e : Event) (reply : Reply) → AgreesWith d p → at < length d.slots → (slot_at d.slots at).begun ≡ true → 2 ≤ p.spare
    → Goes d d1 at count (command_in p.works (slot_at d.slots at).no).out piece → p1 ≡ moved_book p (slot_at d.slots at).no piece.moved → IsOver (slot_at d.slots at).no e → Leaves d1 d' at → p' ≡ closed_book p1 (slot_at d.slots at).no reply e
    → (moving_from (task_in p.works (slot_at d.slots at)) count (fault_in piece) (slot_at d.slots at).task.done (slot_at d.slots at).task.body.items (state_of d p)).journal ≡ moved_journal (slot_at d.slots at).no piece.moved ++ replied e reply ∷ []
    → medium_cuts_at e ≡ faults_at (fault_in piece)
    → Does d d' p p' (going d p at count) (answer.Ended (slot_at d.slots at).no (line_by (arrival_of (slot_at d.slots at).no (state_of d p))))
over_does d d1 d' p p1 p' at count piece e reply a h begun room g book over l closed journal cuts =
    let slot = slot_at d.slots at in
    let out = (command_in p.works slot.no).out in
    let h1 : at < length d1.slots = gone_within d d1 at count out piece h g in
    let gone : slot_at d1.slots at ≡ record slot { task = g.task } = gone_slot d d1 at count out piece h g in
    let number : (slot_at d1.slots at).no ≡ slot.no = ap (λ (s : Slot). s.no) gone in
    let begun1 : (slot_at d1.slots at).begun ≡ true = ap (λ (s : Slot). s.begun) gone ∙ begun in
    let first : Wrote d d1 p p1 (moved_journal slot.no piece.moved) = moved_wrote d d1 p p1 at count piece a.base h begun g (omega arith) book in
    let second : Wrote d1 d' p1 p' (replied e reply ∷ []) =
    over_wrote d1 d' p1 p' at reply e first.agrees h1 begun1 (subst (λ (n : ℕ). IsOver n e) (sym number) over) (omega (arith, first.spare, moved_few slot.no piece.moved)) l (subst (λ (n : ℕ). p' ≡ closed_book p1 n reply e) (sym number) closed) in
    let spent : Spends d d1 p p1 piece.moved = moved_spends d d1 p p1 at count piece a.base h begun g (rw book (record { works = refl; commands = refl; functions = refl; pieces = refl })) in
    let left_over : Spends d1 d' p1 p' 1 = left_spends d1 d' p1 p' at h1 l (rw closed (record { works = refl; commands = refl; functions = refl; pieces = refl })) in
    let ended : list_any (λ (logged : Logged). ends slot.no logged.event) (moved_journal slot.no piece.moved ++ replied e reply ∷ []) ≡ true = moved_says slot.no piece.moved (replied e reply ∷ []) ∙ over_ends slot.no e reply over in
    does_from d d' p p' (going d p at count) (fault_in piece) (moved_journal slot.no piece.moved ++ replied e reply ∷ []) (answer.Ended slot.no (line_by (arrival_of slot.no (state_of d p))))
    (wrote_then d d1 d' p p1 p' (moved_journal slot.no piece.moved) (replied e reply ∷ []) first second)
    (omega (arith, spent, left_over, moved_fewer slot.no piece.moved, length-append (moved_journal slot.no piece.moved) (replied e reply ∷ [])))
    (rw (l.slots, g.slots, remove_set d.slots at (record slot { task = g.task })) (each_drop IsLeft d.slots at a.left))
    journal
    (ap (moved_answer slot.no (state_of d p)) journal ∙ ended_answer slot.no (state_of d p) (moved_journal slot.no piece.moved ++ replied e reply ∷ []) ended)
    (omega (arith, g.counted, l.faults))
    (omega (arith, medium_cuts-append (moved_journal slot.no piece.moved) (replied e reply ∷ []), moved_uncut slot.no piece.moved, cuts))

-- it ends
pub end_does : (d d1 d' : Desk) (p p1 p' : BookState) (at count : ℕ) (piece : Piece) (reply : Reply) → AgreesWith d p → at < length d.slots → (slot_at d.slots at).begun ≡ true → 2 ≤ p.spare
    → (g : Goes d d1 at count (command_in p.works (slot_at d.slots at).no).out piece) → p1 ≡ moved_book p (slot_at d.slots at).no piece.moved → Leaves d1 d' at → reply ≡ good (slot_at d1.slots at).task.body.items
    → p' ≡ closed_book p1 (slot_at d.slots at).no reply (event.Ended (slot_at d.slots at).no) → piece.end ≡ Some All
    → Does d d' p p' (going d p at count) (answer.Ended (slot_at d.slots at).no (line_by (arrival_of (slot_at d.slots at).no (state_of d p))))
end_does d d1 d' p p1 p' at count piece reply a h begun room g book l told closed ended =
    let slot = slot_at d.slots at in
    let out = (command_in p.works slot.no).out in
    let plan = plan_in (length d.blocks) (command_in p.works slot.no) in
    let sa : SlotAgrees (length d.blocks) d.pool p.works p.replies slot = slot_agrees d p at a.base h in
    let whole : g.task.done ≡ length g.task.plan.operations = equal g.task.done (length g.task.plan.operations) (at_end out _ slot.task g.task d.blocks d1.blocks piece g.moved ended) in
    let size : length g.task.plan.operations ≡ length plan = ap (λ pl. length pl.operations) g.moved.plan ∙ ap (λ (ops : List BlockOp). length ops) sa.operations in
    let test : nat_le (length plan) (slot.task.done + piece.moved) ≡ true = test_true (length plan) (slot.task.done + piece.moved) (omega (arith, whole, size, g.moved.done)) in
    let far : Progress = record { made = piece.moved; difference = None; cells = cells_of d1.blocks g.task } in
    let body : reply ≡ good g.task.body.items = told ∙ ap (λ (s : Slot). good s.task.body.items) (gone_slot d d1 at count out piece h g) in
    over_does d d1 d' p p1 p' at count piece (event.Ended slot.no) reply a h begun room g book by_end l closed
    (moving_at (task_in p.works slot) count (fault_in piece) slot.task.done slot.task.body.items (state_of d p) far
    (slot_progress d d1 p at count piece a.base h g None (ap difference_of ended))
    ∙ ap (λ (j : List Logged). moved_journal slot.no piece.moved ++ j)
    (end_journal (task_in p.works slot) plan (slot.task.done + piece.moved) g.task.body.items (take count (drop slot.task.done plan)) (fault_in piece) (moving_on slot.no piece.moved (state_of d p)).state test
    ∙ ap (λ (r : Reply). replied (event.Ended slot.no) r ∷ []) (sym body)))
    (sym (ap faults_at (unfaulted piece (Some All) ended refl)))

-- it finds a difference
pub differs_does : (d d1 d' : Desk) (p p1 p' : BookState) (at count : ℕ) (piece : Piece) (offset : ℕ) (reply : Reply)
    → AgreesWith d p → at < length d.slots → (slot_at d.slots at).begun ≡ true → 2 ≤ p.spare
    → Goes d d1 at count (command_in p.works (slot_at d.slots at).no).out piece
    → p1 ≡ moved_book p (slot_at d.slots at).no piece.moved → Leaves d1 d' at
    → reply ≡ reply_moved d1.control (Some offset) []
    → p' ≡ closed_book p1 (slot_at d.slots at).no reply (event.Ended (slot_at d.slots at).no)
    → piece.end ≡ Some (Miscompare offset)
    → Does d d' p p' (going d p at count)
    (answer.Ended (slot_at d.slots at).no (line_by (arrival_of (slot_at d.slots at).no (state_of d p))))
differs_does d d1 d' p p1 p' at count piece offset reply a h begun room g book l why closed ended =
    let slot = slot_at d.slots at in
    let moved : State = (moving_on slot.no piece.moved (state_of d p)).state in
    let far : Progress = record { made = piece.moved; difference = Some offset; cells = cells_of d1.blocks g.task } in
    let after : moved ≡ state_of d1 p1 =
    moving_on_state slot.no piece.moved (state_of d p)
    ∙ sym (moved_wrote d d1 p p1 at count piece a.base h begun g (omega arith) book).state in
    let told : reply_moved moved.control (Some offset) [] ≡ reply =
    ap (λ (s : State). reply_moved s.control (Some offset) []) after ∙ sym why in
    over_does d d1 d' p p1 p' at count piece (event.Ended slot.no) reply a h begun room g book by_end l closed
    (moving_at (task_in p.works slot) count (fault_in piece) slot.task.done slot.task.body.items (state_of d p) far
    (slot_progress d d1 p at count piece a.base h g (Some offset) (ap difference_of ended))
    ∙ ap (λ (r : Reply). moved_journal slot.no piece.moved ++ replied (event.Ended slot.no) r ∷ []) told)
    (sym (ap faults_at (unfaulted piece (Some (Miscompare offset)) ended refl)))

-- a piece that ended in a fault found no difference
fault_even : (moved : ℕ) (end : Option PieceEnd) → fault_behind moved end ≡ Some moved → difference_of end ≡ None
fault_even moved None fault = refl
fault_even moved (Some All) fault = refl
fault_even moved (Some (Miscompare offset)) fault = absurd (cc)
fault_even moved (Some (ReadFault lba)) fault = refl
fault_even moved (Some (WriteFault lba)) fault = refl

-- the medium fails it
pub cut_does : (d d1 d' : Desk) (p p1 p' : BookState) (at count : ℕ) (piece : Piece) (operation : BlockOp) (reply : Reply) (puts : ℕ) → AgreesWith d p → at < length d.slots → (slot_at d.slots at).begun ≡ true → 2 ≤ p.spare
    → (g : Goes d d1 at count (command_in p.works (slot_at d.slots at).no).out piece) → p1 ≡ moved_book p (slot_at d.slots at).no piece.moved → Leaves d1 d' at → fault_in piece ≡ Some piece.moved
    → slice_get (slot_at d1.slots at).task.plan.operations (slot_at d1.slots at).task.done ≡ Some operation → reply ≡ reply_failed d1.control operation → puts ≡ puts_among (take (slot_at d1.slots at).task.done (slot_at d1.slots at).task.plan.operations)
    → p' ≡ closed_book p1 (slot_at d.slots at).no reply (event.Cut (slot_at d.slots at).no puts Medium false)
    → Does d d' p p' (going d p at count) (answer.Ended (slot_at d.slots at).no (line_by (arrival_of (slot_at d.slots at).no (state_of d p))))
cut_does d d1 d' p p1 p' at count piece operation reply puts a h begun room g book l fault next why counted closed =
    let slot = slot_at d.slots at in
    let out = (command_in p.works slot.no).out in
    let plan = plan_in (length d.blocks) (command_in p.works slot.no) in
    let sa : SlotAgrees (length d.blocks) d.pool p.works p.replies slot = slot_agrees d p at a.base h in
    let gone : slot_at d1.slots at ≡ record slot { task = g.task } = gone_slot d d1 at count out piece h g in
    let planned : (slot_at d1.slots at).task.plan.operations ≡ plan = ap (λ (s : Slot). s.task.plan.operations) gone ∙ ap (λ pl. pl.operations) g.moved.plan ∙ sa.operations in
    let done : (slot_at d1.slots at).task.done ≡ slot.task.done + piece.moved = ap (λ (s : Slot). s.task.done) gone ∙ g.moved.done in
    let far : Progress = record { made = piece.moved; difference = None; cells = cells_of d1.blocks g.task } in
    let operations = take count (drop slot.task.done plan) in
    let within : piece.moved < length operations = subst (λ (ops : List BlockOp). piece.moved < length (take count (drop slot.task.done ops))) sa.operations (rw fault at g.moved.within) in
    let few : piece.moved < count = omega (arith, within, length-take count (drop slot.task.done plan)) in
    let at_plan : slice_get plan (slot.task.done + piece.moved) ≡ Some operation = rw (planned, done) at next in
    let found : slice_get operations piece.moved ≡ Some operation = slice_get-take count (drop slot.task.done plan) piece.moved few ∙ slice_get-drop slot.task.done plan piece.moved ∙ at_plan in
    let test : nat_le (length plan) (slot.task.done + piece.moved) ≡ false = test_false (length plan) (slot.task.done + piece.moved) (slice_get-within plan (slot.task.done + piece.moved) operation at_plan) in
    let after : (moving_on slot.no piece.moved (state_of d p)).state ≡ state_of d1 p1 = moving_on_state slot.no piece.moved (state_of d p) ∙ sym (moved_wrote d d1 p p1 at count piece a.base h begun g (omega arith) book).state in
    let told_why : reply_failed (moving_on slot.no piece.moved (state_of d p)).state.control operation ≡ reply = ap (λ (s : State). reply_failed s.control operation) after ∙ sym why in
    let told_puts : puts_among (take (slot.task.done + piece.moved) plan) ≡ puts = sym (rw (done, planned) at counted) in
    over_does d d1 d' p p1 p' at count piece (event.Cut slot.no puts Medium false) reply a h begun room g book (by_medium puts) l closed
    (moving_at (task_in p.works slot) count (fault_in piece) slot.task.done slot.task.body.items (state_of d p) far
    (slot_progress d d1 p at count piece a.base h g None (fault_even piece.moved piece.end fault))
    ∙ ap (λ (f : Option ℕ). moved_journal slot.no piece.moved ++ (moved_to None (nat_le (length plan) (slot.task.done + piece.moved)) (task_in p.works slot) plan (slot.task.done + piece.moved) g.task.body.items operations f (moving_on slot.no piece.moved (state_of d p)).state).journal) fault
    ∙ ap (λ (j : List Logged). moved_journal slot.no piece.moved ++ j)
    (cut_journal (task_in p.works slot) plan (slot.task.done + piece.moved) g.task.body.items operations piece.moved operation (moving_on slot.no piece.moved (state_of d p)).state test found
    ∙ ap (λ (n : ℕ). replied (event.Cut slot.no n Medium false) (reply_failed (moving_on slot.no piece.moved (state_of d p)).state.control operation) ∷ []) told_puts
    ∙ ap (λ (r : Reply). replied (event.Cut slot.no puts Medium false) r ∷ []) told_why))
    (sym (ap faults_at fault))

-- how far a piece came

pub reached_part : (end : Option PieceEnd) → reached_by end ≡ reached.Part → end ≡ None
reached_part None e = refl
reached_part (Some All) e = cc
reached_part (Some (Miscompare offset)) e = cc
reached_part (Some (ReadFault lba)) e = cc
reached_part (Some (WriteFault lba)) e = cc

pub reached_end : (end : Option PieceEnd) → reached_by end ≡ reached.End → end ≡ Some All
reached_end None e = cc
reached_end (Some All) e = refl
reached_end (Some (Miscompare offset)) e = cc
reached_end (Some (ReadFault lba)) e = cc
reached_end (Some (WriteFault lba)) e = cc

pub reached_differs : (end : Option PieceEnd) (offset : ℕ)
    → reached_by end ≡ reached.Differs offset → end ≡ Some (Miscompare offset)
reached_differs None offset e = cc
reached_differs (Some All) offset e = cc
reached_differs (Some (Miscompare other)) offset e = cc
reached_differs (Some (ReadFault lba)) offset e = cc
reached_differs (Some (WriteFault lba)) offset e = cc

fault_known : (moved : ℕ) (end : Option PieceEnd) → reached_by end ≡ reached.Fault → fault_behind moved end ≡ Some moved
fault_known moved None e = cc
fault_known moved (Some All) e = cc
fault_known moved (Some (Miscompare offset)) e = cc
fault_known moved (Some (ReadFault lba)) e = refl
fault_known moved (Some (WriteFault lba)) e = refl

pub reached_fault : (piece : Piece) → reached_by piece.end ≡ reached.Fault → fault_in piece ≡ Some piece.moved
reached_fault piece e = fault_known piece.moved piece.end e

-- the medium failed an operation, so operations are left
pub fault_left : (d d1 : Desk) (at count : ℕ) (out : List ℕ) (piece : Piece) → at < length d.slots → Goes d d1 at count out piece → fault_in piece ≡ Some piece.moved → (slot_at d1.slots at).task.done < length (slot_at d1.slots at).task.plan.operations
fault_left d d1 at count out piece h g fault =
    let slot = slot_at d.slots at in
    let within : piece.moved < length (take count (drop slot.task.done slot.task.plan.operations)) = rw fault at g.moved.within in
    let size : length g.task.plan.operations ≡ length slot.task.plan.operations = ap (λ pl. length pl.operations) g.moved.plan in
    rw (gone_slot d d1 at count out piece h g) (omega (arith, within, length-take count (drop slot.task.done slot.task.plan.operations), length-drop slot.task.done slot.task.plan.operations, size, g.moved.done))
