use Rattle.std.proofs.Common.{◌≡◌, ℕ, true, slice_set, sym, ap, ◌∙◌, subst, arith, length}
use Rattle.ct_book.specs.Journals.{BookState}
use Rattle.ct_machine.specs.Acts.Functions.{numbers_of}
use Rattle.ct_lun.specs.declared.slot.Slot.{Slot}
use Rattle.ct_lun.specs.Desk.{Desk, slot_at}
use Rattle.ct_lun.specs.States.{state_of}
use Rattle.ct_lun.specs.Calls.{Clears, Does, said}
use Rattle.ct_lun.specs.Acts.{going}
use Rattle.ct_lun.proofs.Begins.{at_once_agrees, at_once_room, at_once_named, at_once_does, begin_does, unplanned, planned, begun_slot}
use Rattle.ct_lun.proofs.unit.Lun.begin_unrefused.Goals as goal

pub clear-requires-clause-agrees : goal.clear-requires-clause-agrees
clear-requires-clause-agrees g c =
    at_once_agrees c.args.self.now c.end_at_once-cleared.new.self c.args.book.now c.end_at_once-cleared.new.book c.args.at c.end_at_once-cleared.result c.requires.agrees c.requires.within c.requires.waits (omega arith) c.end_at_once-cleared.ensures

pub clear-requires-clause-reason : goal.clear-requires-clause-reason
clear-requires-clause-reason g c =
    rw c.slot-then-length-eq0.ensures (at_once_named c.args.self.now c.end_at_once-cleared.new.self c.args.book.now c.end_at_once-cleared.new.book c.args.at c.end_at_once-cleared.result c.requires.agrees.base c.requires.within c.end_at_once-cleared.ensures)

pub clear-requires-clause-room : goal.clear-requires-clause-room
clear-requires-clause-room g c =
    at_once_room c.args.self.now c.end_at_once-cleared.new.self c.args.book.now c.end_at_once-cleared.new.book c.args.at c.end_at_once-cleared.result c.requires.within (omega arith) c.end_at_once-cleared.ensures

pub returns-then-length-eq0 : goal.returns-then-length-eq0
returns-then-length-eq0 g c =
    let old : Desk = c.args.self.now in
    let mid : Desk = c.end_at_once-cleared.new.self in
    let book : BookState = c.end_at_once-cleared.new.book in
    let none : length (slot_at old.slots c.args.at).task.plan.operations ≡ 0 = ap (λ (s : Slot). length s.task.plan.operations) (sym c.slot.ensures) ∙ sym c.length.ensures ∙ c.if-length-eq0.true in
    let named : c.slot-then-length-eq0.result.now.no ≡ (slot_at old.slots c.args.at).no = ap (λ (s : Slot). s.no) c.slot-then-length-eq0.ensures in
    at_once_does old mid c.clear.new.self c.args.book.now book c.clear.new.book c.args.at c.args.blocks c.end_at_once-cleared.result c.requires.agrees c.requires.within c.requires.waits (omega arith) c.requires.unrefused
    (unplanned old c.args.book.now c.args.at c.requires.agrees.base c.requires.within none) c.end_at_once-cleared.ensures
    (subst (λ (n : ℕ). Clears mid c.clear.new.self book c.clear.new.book n c.end_at_once-cleared.result (numbers_of (state_of mid book).tasks)) named c.clear.ensures)

pub returns : goal.returns
returns g c =
    let old : Desk = c.args.self.now in
    let mid : Desk = c.start.new.self in
    let at : ℕ = c.args.at in
    let slots : mid.slots ≡ slice_set old.slots at (record (slot_at old.slots at) { begun = true }) = ap (λ (d : Desk). d.slots) c.start.ensures.after in
    let some : length (slot_at old.slots at).task.plan.operations ≡ 0 → ⊥ = λ e. c.if-length-eq0.false (c.length.ensures ∙ ap (λ (s : Slot). length s.task.plan.operations) c.slot.ensures ∙ e) in
    let number : (slot_at mid.slots at).no ≡ (slot_at old.slots at).no = ap (λ (s : Slot). s.no) (begun_slot old mid at c.requires.within slots) in
    begin_does old mid c.move_on.new.self c.args.book.now c.start.new.book c.move_on.new.book at c.args.blocks c.move_on.result c.requires.agrees c.requires.within c.requires.waits c.requires.unrefused
    (planned old c.args.book.now at c.requires.agrees.base c.requires.within some) slots (ap (λ (d : Desk). d.faults) c.start.ensures.after) c.start.ensures.wrote c.start.ensures.works c.start.ensures.spends
    (subst (λ (n : ℕ). Does mid c.move_on.new.self c.start.new.book c.move_on.new.book (going mid c.start.new.book at c.args.blocks) (said n (state_of mid c.start.new.book) c.move_on.result)) number c.move_on.ensures)
