use Rattle.std.proofs.Common.{◌≡◌, ◌<◌, ℕ, length, subst}
use Rattle.ct_lun.specs.Desk.{slot_at}
use Rattle.ct_lun.specs.States.{state_of}
use Rattle.ct_lun.specs.Calls.{Does, said}
use Rattle.ct_lun.specs.Acts.{step_of, stepping_by}
use Rattle.ct_lun.proofs.Does.{does_same}
use Rattle.ct_lun.proofs.Steps.{step_named, gone_does}
use Rattle.ct_lun.proofs.unit.Lun.step.Goals as goal

pub returns-in-Some : goal.returns-in-Some
returns-in-Some g c =
    let within : c.in-Some.at < length c.args.self.now.slots = c.in-Some.ensures.within in
    let named : (slot_at c.args.self.now.slots c.in-Some.at).no ≡ c.args.no = c.in-Some.ensures.named in
    let done = subst (λ (n : ℕ). Does c.args.self.now c.step_at.new.self c.args.book.now c.step_at.new.book (stepping_by c.args.self.now c.args.book.now c.in-Some.at c.args.blocks) (said n (state_of c.args.self.now c.args.book.now) c.step_at.result)) named c.step_at.ensures in
    does_same c.args.self.now c.step_at.new.self c.args.book.now c.step_at.new.book (stepping_by c.args.self.now c.args.book.now c.in-Some.at c.args.blocks) (step_of c.args.self.now c.args.book.now c.args.no c.args.blocks)
    (said c.args.no (state_of c.args.self.now c.args.book.now) c.step_at.result) (λ fault. step_named c.args.self.now c.args.book.now c.in-Some.at c.args.no c.args.blocks fault c.requires.agrees.base within named) done

pub returns-in-None : goal.returns-in-None
returns-in-None g c = gone_does c.args.self.now c.args.book.now c.args.no c.args.blocks c.requires.agrees c.in-None.ensures.none
