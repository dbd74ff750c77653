use Rattle.ct_machine.specs.declared.act.Act.TheVariants as act
use Rattle.ct_lun.specs.States.{state_of}
use Rattle.ct_lun.specs.Calls.{said}
use Rattle.ct_lun.proofs.Opens.{step_spare}
use Rattle.ct_pair.proofs.Acted.{is_pair, did_step, works_step, acted_step}
use Rattle.ct_pair.proofs.pair.Pair.step.Goals as goal

pub step-step-requires-clause-room : goal.step-step-requires-clause-room
step-step-requires-clause-room g c = step_spare c.self.inside.lun c.self.inside.book c.self.invariant.room

pub invariant_of-self : goal.invariant_of-self
invariant_of-self g c =
    let d = c.self.inside.lun in
    let p = c.self.inside.book in
    is_pair c.self.inside.opening d c.step-step.new.self p c.step-step.new.book (act.Step c.args.no c.args.blocks) _ c.self.invariant c.requires
    (did_step c.self.inside.opening d c.step-step.new.self p c.step-step.new.book c.args.no c.args.blocks (said c.args.no (state_of d p) c.step-step.result) c.self.invariant c.step-step.ensures)

pub returns : goal.returns
returns g c =
    let d = c.self.inside.lun in
    let p = c.self.inside.book in
    let answered = c.said.ensures (state_of d p) (works_step c.self.inside.lun c.step-step.new.self c.self.inside.book c.step-step.new.book c.args.no c.args.blocks (said c.args.no (state_of c.self.inside.lun c.self.inside.book) c.step-step.result) c.step-step.ensures) in
    rw (← c.self.view_is, answered)
    (acted_step c.self.inside.opening d c.step-step.new.self p c.step-step.new.book c.args.no c.args.blocks (said c.args.no (state_of d p) c.step-step.result) c.self.invariant c.step-step.ensures)
