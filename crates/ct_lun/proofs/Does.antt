-- What the calls of a unit do, composed of their events.
use Rattle.std.proofs.Common.{◌≡◌, ℕ, zero, suc, ◌+◌, ◌<◌, ◌≤◌, List, [], ◌∷◌, ◌++◌, Bool, true, false, nat_le, ◌==◌, Option, Some, None, length, take, drop, if◌then◌else◌, refl, sym, ap, ◌∙◌, subst, arith, length-append}
use Rattle.std.specs.List.{list_any}
use Rattle.std.proofs.lemmas.Bool.Decides.{nat_tests}
use Rattle.std.proofs.lemmas.List.{append-nil, get_or-set_same, length-set, length-drop}
use Rattle.ct_plan.specs.declared.operation.BlockOp.{BlockOp}
use Rattle.ct_plan.specs.declared.task.Task.{Task as PlanTask}
use Rattle.ct_plan.specs.declared.task.Piece.{Piece}
use Rattle.ct_plan.specs.declared.task.PieceEnd.{PieceEnd}
use Rattle.ct_plan.specs.declared.task.PieceEnd.TheVariants.{All}
use Rattle.ct_plan.specs.Cells.{Progress, performed}
use Rattle.ct_plan.specs.Pieces.{Advances, fault_in, fault_behind, faults_at, tried, unfailed_end, end_of}
use Rattle.ct_plan.specs.Tasks.{cells_of}
use Rattle.ct_book.specs.declared.event.Event.TheVariants as event
use Rattle.ct_book.specs.declared.event.Why.TheVariants.{Medium}
use Rattle.ct_book.specs.declared.event.Logged.{Logged}
use Rattle.ct_book.specs.Journals.{BookState}
use Rattle.ct_exec.specs.Executions.{plan_in}
use Rattle.ct_machine.specs.declared.act.Answer.{Answer}
use Rattle.ct_machine.specs.declared.act.Answer.TheVariants as answer
use Rattle.ct_machine.specs.Events.{after_events}
use Rattle.ct_machine.specs.Acts.Answers.{Done, ends, moved_answer}
use Rattle.ct_machine.specs.Acts.Moves.{moving_on, moving_from}
use Rattle.ct_lun.specs.declared.slot.Slot.{Slot}
use Rattle.ct_lun.specs.Apart.{Each}
use Rattle.ct_lun.specs.Desk.{Desk, slot_at, blank}
use Rattle.ct_lun.specs.States.{command_in, task_in, state_of}
use Rattle.ct_lun.specs.Agreement.{SlotAgrees, IsLeft, Agrees, AgreesWith}
use Rattle.ct_lun.specs.Acts.{going}
use Rattle.ct_lun.specs.Calls.{Goes, Wrote, Spends, medium_cuts, Does, IsOver, by_end, by_medium, moved_book, moved_journal}
use Rattle.ct_lun.proofs.Lists.{slot_read, each_at, each_put}
use Rattle.ct_lun.proofs.Keeps.{slot_agrees}
use Rattle.ct_lun.proofs.Turns.{difference_of, difference_kept, moving_at, part_journal, part_answer}
use Rattle.ct_lun.proofs.Effects.{wrote_then}
use Rattle.ct_lun.proofs.Moves.{slot_cells, slot_progress, slot_made, moved_wrote, moved_fewer}
use Rattle.ct_lun.proofs.Spent.{moved_spends}

-- cuts of journals, one behind another

pub medium_cuts-append : (es fs : List Logged) → medium_cuts (es ++ fs) ≡ medium_cuts es + medium_cuts fs
medium_cuts-append [] fs = omega arith
medium_cuts-append (e ∷ es) fs = let rest = medium_cuts-append es fs in omega (arith, rest)

pub moved_uncut : (number count : ℕ) → medium_cuts (moved_journal number count) ≡ 0
moved_uncut number zero = refl
moved_uncut number (suc count) = refl

-- what a call wrote, as what the machine does
pub does_from : (d d' : Desk) (p p' : BookState) (outcome : Option ℕ → Done) (fault : Option ℕ) (es : List Logged) (said : Answer) → Wrote d d' p p' es → Spends d d' p p' (length es) → Each IsLeft d'.slots
    → (outcome fault).turn.journal ≡ es → (outcome fault).answer ≡ said → d'.faults ≡ d.faults + faults_at fault → medium_cuts es ≡ faults_at fault → Does d d' p p' outcome said
does_from d d' p p' outcome fault es said w spends left journal answered counted cuts = record {
  fault = fault;
  journal = w.journal ∙ ap (λ (j : List Logged). p.journal ++ j) (sym journal);
  answer = sym answered;
  state = w.state ∙ ap (λ (j : List Logged). after_events (state_of d p) j) (sym journal);
  agrees = record { base = w.agrees; left = left };
  spare = rw journal w.spare;
  room = rw journal spends;
  counted = counted;
  cuts = ap medium_cuts journal ∙ cuts;
}

-- nothing was done
pub does_nothing : (d : Desk) (p : BookState) (outcome : Option ℕ → Done) (said : Answer) → AgreesWith d p → (outcome None).turn.journal ≡ [] → (outcome None).answer ≡ said → Does d d p p outcome said
does_nothing d p outcome said a journal answered =
    does_from d d p p outcome None [] said (record { journal = sym (append-nil p.journal); state = refl; agrees = a.base; spare = omega arith }) (omega arith) a.left journal answered (omega arith) refl

-- the same, where the machine does the same
pub does_same : (d d' : Desk) (p p' : BookState) (outcome outcome' : Option ℕ → Done) (said : Answer) → ((fault : Option ℕ) → outcome fault ≡ outcome' fault) → Does d d' p p' outcome said → Does d d' p p' outcome' said
does_same d d' p p' outcome outcome' said same x = record {
  fault = x.fault;
  journal = x.journal ∙ ap (λ (o : Done). p.journal ++ o.turn.journal) (same x.fault);
  answer = x.answer ∙ ap (λ (o : Done). o.answer) (same x.fault);
  state = x.state ∙ ap (λ (o : Done). after_events (state_of d p) o.turn.journal) (same x.fault);
  agrees = x.agrees;
  spare = rw (← same x.fault) x.spare;
  room = rw (← same x.fault) x.room;
  counted = x.counted;
  cuts = sym (ap (λ (o : Done). medium_cuts o.turn.journal) (same x.fault)) ∙ x.cuts;
}

-- some events, and then what the machine does
pub does_then : (d d1 d' : Desk) (p p1 p' : BookState) (es : List Logged) (outcome outcome' : Option ℕ → Done) (said said' : Answer) → Wrote d d1 p p1 es → Spends d d1 p p1 (length es) → Does d1 d' p1 p' outcome said → d1.faults ≡ d.faults → medium_cuts es ≡ 0
    → ((fault : Option ℕ) → (outcome' fault).turn.journal ≡ es ++ (outcome fault).turn.journal) → ((fault : Option ℕ) → (outcome fault).answer ≡ said → (outcome' fault).answer ≡ said') → Does d d' p p' outcome' said'
does_then d d1 d' p p1 p' es outcome outcome' said said' w spends x same uncut journal answered =
    let second : Wrote d1 d' p1 p' (outcome x.fault).turn.journal = record { journal = x.journal; state = x.state; agrees = x.agrees.base; spare = x.spare } in
    does_from d d' p p' outcome' x.fault (es ++ (outcome x.fault).turn.journal) said' (wrote_then d d1 d' p p1 p' es (outcome x.fault).turn.journal w second)
    (omega (arith, spends, x.room, length-append es (outcome x.fault).turn.journal))
    x.agrees.left (journal x.fault) (answered x.fault (sym x.answer)) (omega (arith, x.counted, same))
    (omega (arith, medium_cuts-append es (outcome x.fault).turn.journal, uncut, x.cuts))

-- how a piece ended

pub unfaulted : (piece : Piece) (end : Option PieceEnd) → piece.end ≡ end → fault_behind piece.moved end ≡ None → fault_in piece ≡ None
unfaulted piece end e none = ap (fault_behind piece.moved) e ∙ none

-- the slot at the place where a piece was made
pub gone_slot : (d d' : Desk) (at count : ℕ) (out : List ℕ) (piece : Piece) → at < length d.slots → (g : Goes d d' at count out piece) → slot_at d'.slots at ≡ record (slot_at d.slots at) { task = g.task }
gone_slot d d' at count out piece h g = ap (λ (slots : List Slot). slot_at slots at) g.slots ∙ get_or-set_same d.slots at (record (slot_at d.slots at) { task = g.task }) blank h

pub gone_within : (d d' : Desk) (at count : ℕ) (out : List ℕ) (piece : Piece) → at < length d.slots → Goes d d' at count out piece → at < length d'.slots
gone_within d d' at count out piece h g = rw g.slots (omega (arith, length-set d.slots at (record (slot_at d.slots at) { task = g.task })))

pub test_false : (a b : ℕ) → b < a → nat_le a b ≡ false
test_false a b h = grind (arith, nat_tests)

pub test_true : (a b : ℕ) → a ≡ b → nat_le a b ≡ true
test_true a b h = grind (arith, nat_tests)

pub unequal : (a b : ℕ) → (a == b) ≡ false → a ≤ b → a < b
unequal a b h k = grind (arith, nat_tests)

pub equal : (a b : ℕ) → (a == b) ≡ true → a ≡ b
equal a b h = grind (arith, nat_tests)

-- the operations that are done are operations of the plan
pub done_within : (d d' : Desk) (p : BookState) (at count : ℕ) (piece : Piece) → Agrees d p → at < length d.slots → (slot_at d.slots at).task.done ≤ length (plan_in (length d.blocks) (command_in p.works (slot_at d.slots at).no))
    → Goes d d' at count (command_in p.works (slot_at d.slots at).no).out piece → (slot_at d.slots at).task.done + piece.moved ≤ length (plan_in (length d.blocks) (command_in p.works (slot_at d.slots at).no))
done_within d d' p at count piece a h few g =
    let made = slot_made d d' p at count piece a h g in
    omega (arith, made.few, length-drop (slot_at d.slots at).task.done (plan_in (length d.blocks) (command_in p.works (slot_at d.slots at).no)))

-- a piece that neither the plan's end nor a fault ended
if_none : (test : Bool) (end : PieceEnd) → None ≡ (if test then Some end else None) → test ≡ false
if_none true end e = cc
if_none false end e = refl

if_some : (test : Bool) (end other : PieceEnd) → Some other ≡ (if test then Some end else None) → test ≡ true
if_some true end other e = refl
if_some false end other e = cc

-- the end of a piece that neither a fault nor a difference ended
unfailed : (out : List ℕ) (ops : List BlockOp) (old new : PlanTask) (before after' : List (List ℕ)) (piece : Piece)
    → Advances out ops old new before after' piece (fault_in piece)
    → (end : Option PieceEnd) → piece.end ≡ end → fault_behind piece.moved end ≡ None → difference_of end ≡ None
    → end ≡ unfailed_end new
unfailed out ops old new before after' piece a end e none even =
    let far : Progress = performed out (tried ops (fault_in piece)) (cells_of before old) in
    let difference : far.difference ≡ None =
    sym (difference_kept new ops (fault_in piece) far.difference) ∙ ap difference_of (sym a.end ∙ e) ∙ even in
    sym e ∙ a.end ∙ ap (λ (f : Option ℕ). end_of new ops f far.difference) (unfaulted piece end e none)
    ∙ ap (end_of new ops None) difference

pub still_left : (out : List ℕ) (ops : List BlockOp) (old new : PlanTask) (before after' : List (List ℕ))
    → (piece : Piece) → Advances out ops old new before after' piece (fault_in piece) → piece.end ≡ None
    → (new.done == length new.plan.operations) ≡ false
still_left out ops old new before after' piece a e =
    if_none (new.done == length new.plan.operations) All
    (unfailed out ops old new before after' piece a None e refl refl)

pub at_end : (out : List ℕ) (ops : List BlockOp) (old new : PlanTask) (before after' : List (List ℕ))
    → (piece : Piece) → Advances out ops old new before after' piece (fault_in piece) → piece.end ≡ Some All
    → (new.done == length new.plan.operations) ≡ true
at_end out ops old new before after' piece a e =
    if_some (new.done == length new.plan.operations) All All
    (unfailed out ops old new before after' piece a (Some All) e refl refl)

pub each_left : (d : Desk) (p : BookState) (at : ℕ) → AgreesWith d p → at < length d.slots → (slot_at d.slots at).begun ≡ true → (slot_at d.slots at).task.done < length (slot_at d.slots at).task.plan.operations
each_left d p at a h begun = each_at IsLeft d.slots at (slot_at d.slots at) a.left (slot_read d.slots at h) begun

moved_quiet : (number count : ℕ) → list_any (λ (logged : Logged). ends number logged.event) (moved_journal number count) ≡ false
moved_quiet number zero = refl
moved_quiet number (suc count) = refl

-- it goes on
pub part_does : (d d' : Desk) (p p' : BookState) (at count : ℕ) (piece : Piece) → AgreesWith d p → at < length d.slots → (slot_at d.slots at).begun ≡ true → 0 < p.spare → Goes d d' at count (command_in p.works (slot_at d.slots at).no).out piece
    → p' ≡ moved_book p (slot_at d.slots at).no piece.moved → piece.end ≡ None → Does d d' p p' (going d p at count) (answer.Moved (slot_at d.slots at).no)
part_does d d' p p' at count piece a h begun room g book ended =
    let slot = slot_at d.slots at in
    let plan = plan_in (length d.blocks) (command_in p.works slot.no) in
    let task = task_in p.works slot in
    let sa : SlotAgrees (length d.blocks) d.pool p.works p.replies slot = slot_agrees d p at a.base h in
    let none : fault_in piece ≡ None = unfaulted piece None ended refl in
    let was : slot.task.done < length slot.task.plan.operations = each_left d p at a h begun in
    let few : slot.task.done + piece.moved ≤ length plan = done_within d d' p at count piece a.base h (subst (λ (ops : List BlockOp). slot.task.done ≤ length ops) sa.operations (omega (arith, was))) g in
    let size : length g.task.plan.operations ≡ length plan = ap (λ pl. length pl.operations) g.moved.plan ∙ ap (λ (ops : List BlockOp). length ops) sa.operations in
    let unended : (g.task.done == length g.task.plan.operations) ≡ false = still_left (command_in p.works slot.no).out _ slot.task g.task d.blocks d'.blocks piece g.moved ended in
    let left : g.task.done < length g.task.plan.operations = unequal g.task.done (length g.task.plan.operations) unended (omega (arith, few, size, g.moved.done)) in
    let test : nat_le (length plan) (slot.task.done + piece.moved) ≡ false = test_false (length plan) (slot.task.done + piece.moved) (omega (arith, left, size, g.moved.done)) in
    let far : Progress = record { made = piece.moved; difference = None; cells = cells_of d'.blocks g.task } in
    let asked : List BlockOp = take count (drop slot.task.done plan) in
    let progress = subst (λ (f : Option ℕ). performed task.command.out (tried asked f) (slot_cells d at) ≡ far) none
    (slot_progress d d' p at count piece a.base h g None (ap difference_of ended)) in
    let journal : (moving_from task count None slot.task.done slot.task.body.items (state_of d p)).journal ≡ moved_journal slot.no piece.moved =
    moving_at task count None slot.task.done slot.task.body.items (state_of d p) far progress
    ∙ ap (λ (j : List Logged). moved_journal slot.no piece.moved ++ j) (part_journal task plan (slot.task.done + piece.moved) g.task.body.items (take count (drop slot.task.done plan)) (moving_on slot.no piece.moved (state_of d p)).state test)
    ∙ append-nil (moved_journal slot.no piece.moved) in
    let quiet : list_any (λ (logged : Logged). ends slot.no logged.event) (moved_journal slot.no piece.moved) ≡ false = moved_quiet slot.no piece.moved in
    does_from d d' p p' (going d p at count) None (moved_journal slot.no piece.moved) (answer.Moved slot.no)
    (moved_wrote d d' p p' at count piece a.base h begun g room book)
    (omega (arith, moved_fewer slot.no piece.moved, moved_spends d d' p p' at count piece a.base h begun g (rw book (record { works = refl; commands = refl; functions = refl; pieces = refl }))))
    (rw g.slots (each_put IsLeft d.slots at (record slot { task = g.task }) a.left (λ b. left)))
    journal
    (ap (moved_answer slot.no (state_of d p)) journal ∙ part_answer slot.no (state_of d p) (moved_journal slot.no piece.moved) quiet)
    (omega (arith, g.counted, ap faults_at none)) (moved_uncut slot.no piece.moved)

-- the command at the place is over by an event that names it
pub gone_end : (d d' : Desk) (at count : ℕ) (out : List ℕ) (piece : Piece) (number : ℕ) → at < length d.slots → Goes d d' at count out piece → number ≡ (slot_at d.slots at).no → IsOver (slot_at d'.slots at).no (event.Ended number)
gone_end d d' at count out piece number h g same =
    subst (λ (n : ℕ). IsOver (slot_at d'.slots at).no (event.Ended n)) (ap (λ (s : Slot). s.no) (gone_slot d d' at count out piece h g) ∙ sym same) by_end

pub gone_cut : (d d' : Desk) (at count : ℕ) (out : List ℕ) (piece : Piece) (number puts : ℕ) → at < length d.slots → Goes d d' at count out piece → number ≡ (slot_at d.slots at).no → IsOver (slot_at d'.slots at).no (event.Cut number puts Medium false)
gone_cut d d' at count out piece number puts h g same =
    subst (λ (n : ℕ). IsOver (slot_at d'.slots at).no (event.Cut n puts Medium false)) (ap (λ (s : Slot). s.no) (gone_slot d d' at count out piece h g) ∙ sym same) (by_medium puts)
