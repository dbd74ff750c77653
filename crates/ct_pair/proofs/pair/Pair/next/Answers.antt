use Rattle.ct_machine.specs.declared.act.Act.TheVariants as act
use Rattle.ct_lun.specs.States.{state_of}
use Rattle.ct_lun.specs.Calls.{said_next}
use Rattle.ct_lun.proofs.Opens.{step_spare}
use Rattle.ct_pair.proofs.Acted.{is_pair, did_next, works_next, acted_next}
use Rattle.ct_pair.proofs.pair.Pair.next.Goals as goal

pub next-step-requires-clause-room : goal.next-step-requires-clause-room
next-step-requires-clause-room g c = step_spare c.self.inside.lun c.self.inside.book c.self.invariant.room

pub invariant_of-self : goal.invariant_of-self
invariant_of-self g c =
    let d = c.self.inside.lun in
    let p = c.self.inside.book in
    is_pair c.self.inside.opening d c.next-step.new.self p c.next-step.new.book (act.Next c.args.blocks) _ c.self.invariant c.requires
    (did_next c.self.inside.opening d c.next-step.new.self p c.next-step.new.book c.args.blocks (said_next (state_of d p) c.next-step.result) c.self.invariant c.next-step.ensures)

pub returns : goal.returns
returns g c =
    let d = c.self.inside.lun in
    let p = c.self.inside.book in
    let answered = c.said_next.ensures (state_of d p) (works_next c.self.inside.lun c.next-step.new.self c.self.inside.book c.next-step.new.book c.args.blocks (said_next (state_of c.self.inside.lun c.self.inside.book) c.next-step.result) c.next-step.ensures) in
    rw (← c.self.view_is, answered)
    (acted_next c.self.inside.opening d c.next-step.new.self p c.next-step.new.book c.args.blocks (said_next (state_of d p) c.next-step.result) c.self.invariant c.next-step.ensures)
