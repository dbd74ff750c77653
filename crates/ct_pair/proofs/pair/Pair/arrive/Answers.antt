use Rattle.std.proofs.Common.{sym, subst}
use Rattle.ct_book.specs.declared.work.Work.TheVariants as work
use Rattle.ct_machine.specs.declared.act.Act.TheVariants as act
use Rattle.ct_machine.specs.Runs.{IsAtNode}
use Rattle.ct_lun.proofs.Opens.{arrive_spare, ask_spare}
use Rattle.ct_pair.proofs.Acted.{is_pair, did_come, acted_come}
use Rattle.ct_pair.proofs.pair.Pair.arrive.Goals as goal

pub arrive-requires-clause-room : goal.arrive-requires-clause-room
arrive-requires-clause-room g c = arrive_spare c.self.inside.lun c.self.inside.book c.self.invariant.room

pub ask-requires-clause-room : goal.ask-requires-clause-room
ask-requires-clause-room g c = ask_spare c.self.inside.lun c.self.inside.book c.self.invariant.room

pub invariant_of-self : goal.invariant_of-self
invariant_of-self g c =
    let o = c.self.inside.opening in
    let d = c.self.inside.lun in
    let p = c.self.inside.book in
    let at_node : IsAtNode o c.args.node = subst (λ v. IsAtNode v.opening c.args.node) (sym c.self.view_is) c.requires in
    is_pair o d c.arrive.new.self p c.arrive.new.book (act.Arrive c.args.node (work.Cmd c.in-Cmd.cmd)) _ c.self.invariant at_node
    (did_come o d c.arrive.new.self p c.arrive.new.book c.args.node (work.Cmd c.in-Cmd.cmd) c.arrive.result at_node c.self.invariant c.arrive.ensures)

pub invariant_of-self-in-Ask : goal.invariant_of-self-in-Ask
invariant_of-self-in-Ask g c =
    let o = c.self.inside.opening in
    let d = c.self.inside.lun in
    let p = c.self.inside.book in
    let at_node : IsAtNode o c.args.node = subst (λ v. IsAtNode v.opening c.args.node) (sym c.self.view_is) c.requires in
    is_pair o d c.ask.new.self p c.ask.new.book (act.Arrive c.args.node (work.Ask c.in-Ask.ask)) _ c.self.invariant at_node
    (did_come o d c.ask.new.self p c.ask.new.book c.args.node (work.Ask c.in-Ask.ask) c.ask.result at_node c.self.invariant c.ask.ensures)

pub returns-in-Cmd : goal.returns-in-Cmd
returns-in-Cmd g c =
    let o = c.self.inside.opening in
    let d = c.self.inside.lun in
    let p = c.self.inside.book in
    let at_node : IsAtNode o c.args.node = subst (λ v. IsAtNode v.opening c.args.node) (sym c.self.view_is) c.requires in
    rw (← c.self.view_is, c.in-Cmd.is)
    (acted_come o d c.arrive.new.self p c.arrive.new.book c.args.node (work.Cmd c.in-Cmd.cmd) c.arrive.result at_node c.self.invariant c.arrive.ensures)

pub returns-in-Ask : goal.returns-in-Ask
returns-in-Ask g c =
    let o = c.self.inside.opening in
    let d = c.self.inside.lun in
    let p = c.self.inside.book in
    let at_node : IsAtNode o c.args.node = subst (λ v. IsAtNode v.opening c.args.node) (sym c.self.view_is) c.requires in
    rw (← c.self.view_is, c.in-Ask.is)
    (acted_come o d c.ask.new.self p c.ask.new.book c.args.node (work.Ask c.in-Ask.ask) c.ask.result at_node c.self.invariant c.ask.ensures)
