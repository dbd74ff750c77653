use Rattle.std.proofs.Common.{◌≡◌, ℕ, Some, sym, ap, ◌∙◌, subst, arith, length}
use Rattle.ct_book.specs.declared.work.Command.{Command}
use Rattle.ct_book.specs.declared.event.Event.TheVariants as event
use Rattle.ct_exec.specs.Executions.{refusal_of, refused_control}
use Rattle.ct_exec.specs.Refusals.{refused_reply}
use Rattle.ct_lun.specs.declared.slot.Slot.{Slot}
use Rattle.ct_lun.specs.Desk.{Desk, slot_at, with_control}
use Rattle.ct_lun.specs.States.{command_in}
use Rattle.ct_lun.specs.Calls.{Leaves, by_end, closed_book}
use Rattle.ct_lun.proofs.Begins.{refused_does}
use Rattle.ct_lun.proofs.unit.Lun.begin.Goals as goal

pub finish-requires-clause-kind : goal.finish-requires-clause-kind
finish-requires-clause-kind g c = rw (c.in-Some.ensures.refused, c.slot.ensures) by_end

pub returns-in-Some : goal.returns-in-Some
returns-in-Some g c =
    let old : Desk = c.args.self.now in
    let mid : Desk = c.check.new.self in
    let at : ℕ = c.args.at in
    let named : c.slot.result.now.no ≡ (slot_at old.slots at).no = ap (λ (s : Slot). s.no) c.slot.ensures in
    let command : c.command.result.now ≡ command_in c.args.book.now.works (slot_at old.slots at).no = c.command.ensures.command ∙ ap (command_in c.args.book.now.works) named in
    let changed : mid ≡ with_control old (refused_control old.control (command_in c.args.book.now.works (slot_at old.slots at).no)) =
    c.in-Some.ensures.refused ∙ ap (λ (x : Command). with_control old (refused_control old.control x)) command in
    let answered : refusal_of old.control (length old.blocks) (command_in c.args.book.now.works (slot_at old.slots at).no) ≡ Some (refused_reply c.in-Some.refusal) =
    ap (refusal_of old.control (length old.blocks)) (sym command) ∙ c.in-Some.ensures.answer in
    let number : (slot_at mid.slots at).no ≡ (slot_at old.slots at).no = ap (λ (d : Desk). (slot_at d.slots at).no) changed in
    refused_does old c.finish.new.self c.args.book.now c.finish.new.book at c.args.blocks c.in-Some.refusal c.requires.agrees c.requires.within c.requires.waits (omega arith) answered
    (subst (λ (d : Desk). Leaves d c.finish.new.self at) changed c.finish.ensures.leaves)
    (c.finish.ensures.book ∙ ap (λ (n : ℕ). closed_book c.args.book.now n (refused_reply c.in-Some.refusal) (event.Ended c.slot.result.now.no)) number
    ∙ ap (λ (n : ℕ). closed_book c.args.book.now (slot_at old.slots at).no (refused_reply c.in-Some.refusal) (event.Ended n)) named)
