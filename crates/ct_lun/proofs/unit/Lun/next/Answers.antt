use Rattle.std.proofs.Common.{◌≡◌, Some, sym, ◌∙◌}
use Rattle.ct_machine.specs.Acts.Next.{next_step}
use Rattle.ct_lun.specs.States.{state_of}
use Rattle.ct_lun.specs.Calls.{said}
use Rattle.ct_lun.specs.Acts.{step_of, next_of}
use Rattle.ct_lun.proofs.Does.{does_same}
use Rattle.ct_lun.proofs.Steps.{next_known, next_named, idle_does}
use Rattle.ct_lun.proofs.unit.Lun.next.Goals as goal

pub returns-in-Some : goal.returns-in-Some
returns-in-Some g c =
    let next : next_step (state_of c.args.self.now c.args.book.now) ≡ Some c.in-Some.no = sym (next_known c.args.self.now c.args.book.now c.requires.agrees.base) ∙ sym c.next_no.ensures ∙ c.in-Some.is in
    does_same c.args.self.now c.step.new.self c.args.book.now c.step.new.book (step_of c.args.self.now c.args.book.now c.in-Some.no c.args.blocks) (next_of c.args.self.now c.args.book.now c.args.blocks)
    (said c.in-Some.no (state_of c.args.self.now c.args.book.now) c.step.result) (λ fault. next_named c.args.self.now c.args.book.now c.in-Some.no c.args.blocks fault next) c.step.ensures

pub returns-in-None : goal.returns-in-None
returns-in-None g c =
    idle_does c.args.self.now c.args.book.now c.args.blocks c.requires.agrees (sym (next_known c.args.self.now c.args.book.now c.requires.agrees.base) ∙ sym c.next_no.ensures ∙ c.in-None.is)
