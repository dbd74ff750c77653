use Rattle.std.proofs.Common.{◌≡◌, false, sym, ap, ◌∙◌}
use Rattle.ct_lun.specs.declared.slot.Slot.{Slot}
use Rattle.ct_lun.specs.Desk.{slot_at}
use Rattle.ct_lun.specs.States.{state_of}
use Rattle.ct_lun.specs.Calls.{said}
use Rattle.ct_lun.specs.Acts.{beginning_by, stepping_by}
use Rattle.ct_lun.proofs.Books.{waits_held}
use Rattle.ct_lun.proofs.Does.{does_same}
use Rattle.ct_lun.proofs.Steps.{step_waits, blocked_does, blocker_known}
use Rattle.ct_lun.proofs.unit.Lun.step_at.Goals as goal

pub blocker-requires-clause-waits : goal.blocker-requires-clause-waits
blocker-requires-clause-waits g c =
    waits_held c.args.self.now c.args.book.now c.args.at c.requires.agrees.base c.requires.within (ap (λ (s : Slot). s.begun) (sym c.slot.ensures) ∙ c.if-slot.false)

pub returns-in-Some : goal.returns-in-Some
returns-in-Some g c =
    blocked_does c.args.self.now c.args.book.now c.args.at c.args.blocks c.in-Some.by c.requires.agrees (ap (λ (s : Slot). s.begun) (sym c.slot.ensures) ∙ c.if-slot.false)
    (blocker_known c.args.self.now c.args.book.now c.args.at c.blocker.result c.requires.agrees.base c.requires.within c.blocker.ensures ∙ c.in-Some.is)

pub returns : goal.returns
returns g c =
    let waits : (slot_at c.args.self.now.slots c.args.at).begun ≡ false = ap (λ (s : Slot). s.begun) (sym c.slot.ensures) ∙ c.if-slot.false in
    let free = blocker_known c.args.self.now c.args.book.now c.args.at c.blocker.result c.requires.agrees.base c.requires.within c.blocker.ensures ∙ c.in_default.is in
    does_same c.args.self.now c.begin.new.self c.args.book.now c.begin.new.book (beginning_by c.args.self.now c.args.book.now c.args.at c.args.blocks) (stepping_by c.args.self.now c.args.book.now c.args.at c.args.blocks)
    (said (slot_at c.args.self.now.slots c.args.at).no (state_of c.args.self.now c.args.book.now) c.begin.result) (λ fault. step_waits c.args.self.now c.args.book.now c.args.at c.args.blocks fault waits free) c.begin.ensures
