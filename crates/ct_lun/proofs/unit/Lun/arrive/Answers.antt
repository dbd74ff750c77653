use Rattle.std.proofs.Common.{◌≡◌, ◌≤◌, ◌+◌, ℕ, false, Some, None, IsNone, length, refl, sym, ap, ◌∙◌, subst, arith}
use Rattle.ct_word.specs.declared.names.Node.TheVariants.{A}
use Rattle.ct_book.specs.declared.work.Work.TheVariants as work
use Rattle.ct_book.specs.Journals.{BookState, numbered, with_work}
use Rattle.ct_exec.specs.Executions.{plan_in, need_in}
use Rattle.ct_machine.specs.States.{held_by}
use Rattle.ct_machine.specs.declared.act.Answer.TheVariants as answer
use Rattle.ct_lun.specs.Desk.{slot_of}
use Rattle.ct_lun.specs.States.{command_in}
use Rattle.ct_lun.proofs.Arrivals.{made_of, came_so, came_agrees, room_parts, next_absent, added_reply, arrive_does, refused_does}
use Rattle.ct_lun.proofs.unit.Lun.arrive.Goals as goal

pub enter-requires-clause-agrees : goal.enter-requires-clause-agrees
enter-requires-clause-agrees g c =
    let blocks : ℕ = length c.args.self.now.blocks in
    let counted : c.length.result ≡ length (plan_in blocks c.args.cmd) =
    c.length.ensures
    ∙ ap length (made_of plan_in blocks c.command.result.now c.args.cmd c.blocks-2.result _
    c.prepare-prepared.ensures.operations c.blocks-2.ensures c.command.ensures) in
    let came = came_so c.args.self.now c.args.book.now c.add.new.self c.args.cmd c.length.result c.in-Ok.no c.add.result
    (work.Cmd c.args.cmd) counted c.add.ensures.answer c.add.ensures.after c.in-Ok.is in
    let spare : 2 ≤ c.args.book.now.spare =
    c.requires.room (room_parts c.args.book.now c.args.cmd c.length.result came.fits).0 in
    record {
      base = came_agrees c.args.self.now c.args.book.now c.add.new.self c.args.cmd c.length.result c.in-Ok.no
          c.requires.agrees.base came (omega (arith, spare));
      left = c.requires.agrees.left;
    }

pub enter-requires-clause-operations : goal.enter-requires-clause-operations
enter-requires-clause-operations g c =
    let blocks : ℕ = length c.args.self.now.blocks in
    let counted : c.length.result ≡ length (plan_in blocks c.args.cmd) =
    c.length.ensures
    ∙ ap length (made_of plan_in blocks c.command.result.now c.args.cmd c.blocks-2.result _
    c.prepare-prepared.ensures.operations c.blocks-2.ensures c.command.ensures) in
    let came = came_so c.args.self.now c.args.book.now c.add.new.self c.args.cmd c.length.result c.in-Ok.no c.add.result
    (work.Cmd c.args.cmd) counted c.add.ensures.answer c.add.ensures.after c.in-Ok.is in
    made_of plan_in blocks c.command.result.now (command_in c.add.new.self.works c.in-Ok.no) c.blocks-2.result _
    c.prepare-prepared.ensures.operations c.blocks-2.ensures (c.command.ensures ∙ sym came.named)

pub enter-requires-clause-need : goal.enter-requires-clause-need
enter-requires-clause-need g c =
    let blocks : ℕ = length c.args.self.now.blocks in
    let counted : c.length.result ≡ length (plan_in blocks c.args.cmd) =
    c.length.ensures
    ∙ ap length (made_of plan_in blocks c.command.result.now c.args.cmd c.blocks-2.result _
    c.prepare-prepared.ensures.operations c.blocks-2.ensures c.command.ensures) in
    let came = came_so c.args.self.now c.args.book.now c.add.new.self c.args.cmd c.length.result c.in-Ok.no c.add.result
    (work.Cmd c.args.cmd) counted c.add.ensures.answer c.add.ensures.after c.in-Ok.is in
    made_of need_in blocks c.command.result.now (command_in c.add.new.self.works c.in-Ok.no) c.blocks-2.result _
    c.prepare-prepared.ensures.need c.blocks-2.ensures (c.command.ensures ∙ sym came.named)

pub enter-requires-clause-held : goal.enter-requires-clause-held
enter-requires-clause-held g c =
    let blocks : ℕ = length c.args.self.now.blocks in
    let counted : c.length.result ≡ length (plan_in blocks c.args.cmd) =
    c.length.ensures
    ∙ ap length (made_of plan_in blocks c.command.result.now c.args.cmd c.blocks-2.result _
    c.prepare-prepared.ensures.operations c.blocks-2.ensures c.command.ensures) in
    let came = came_so c.args.self.now c.args.book.now c.add.new.self c.args.cmd c.length.result c.in-Ok.no c.add.result
    (work.Cmd c.args.cmd) counted c.add.ensures.answer c.add.ensures.after c.in-Ok.is in
    made_of (λ size x. held_by size x false) blocks c.command.result.now (command_in c.add.new.self.works c.in-Ok.no) c.blocks-2.result _
    c.prepare-prepared.ensures.held c.blocks-2.ensures (c.command.ensures ∙ sym came.named)

pub enter-requires-clause-fresh : goal.enter-requires-clause-fresh
enter-requires-clause-fresh g c =
    let blocks : ℕ = length c.args.self.now.blocks in
    let counted : c.length.result ≡ length (plan_in blocks c.args.cmd) =
    c.length.ensures
    ∙ ap length (made_of plan_in blocks c.command.result.now c.args.cmd c.blocks-2.result _
    c.prepare-prepared.ensures.operations c.blocks-2.ensures c.command.ensures) in
    let came = came_so c.args.self.now c.args.book.now c.add.new.self c.args.cmd c.length.result c.in-Ok.no c.add.result
    (work.Cmd c.args.cmd) counted c.add.ensures.answer c.add.ensures.after c.in-Ok.is in
    subst (λ (n : ℕ). IsNone (slot_of n c.args.self.now.slots)) (sym came.next)
    (next_absent c.args.self.now c.args.book.now c.requires.agrees.base)

pub enter-requires-clause-unanswered : goal.enter-requires-clause-unanswered
enter-requires-clause-unanswered g c =
    let blocks : ℕ = length c.args.self.now.blocks in
    let counted : c.length.result ≡ length (plan_in blocks c.args.cmd) =
    c.length.ensures
    ∙ ap length (made_of plan_in blocks c.command.result.now c.args.cmd c.blocks-2.result _
    c.prepare-prepared.ensures.operations c.blocks-2.ensures c.command.ensures) in
    let came = came_so c.args.self.now c.args.book.now c.add.new.self c.args.cmd c.length.result c.in-Ok.no c.add.result
    (work.Cmd c.args.cmd) counted c.add.ensures.answer c.add.ensures.after c.in-Ok.is in
    let noted : BookState = with_work c.args.book.now A (work.Cmd c.args.cmd) c.length.result in
    subst (λ (b : BookState). numbered c.in-Ok.no b.replies ≡ Some None) (sym came.added)
    (subst (λ (n : ℕ). numbered n noted.replies ≡ Some None) (sym came.next)
    (added_reply c.args.book.now c.args.cmd c.length.result c.len-events.ensures.sound))

pub returns-in-Queued : goal.returns-in-Queued
returns-in-Queued g c =
    let blocks : ℕ = length c.args.self.now.blocks in
    let counted : c.length.result ≡ length (plan_in blocks c.args.cmd) =
    c.length.ensures
    ∙ ap length (made_of plan_in blocks c.command.result.now c.args.cmd c.blocks-2.result _
    c.prepare-prepared.ensures.operations c.blocks-2.ensures c.command.ensures) in
    let came = came_so c.args.self.now c.args.book.now c.add.new.self c.args.cmd c.length.result c.in-Ok.no c.add.result
    (work.Cmd c.args.cmd) counted c.add.ensures.answer c.add.ensures.after c.in-Ok.is in
    let spare : 2 ≤ c.args.book.now.spare =
    c.requires.room (room_parts c.args.book.now c.args.cmd c.length.result came.fits).0 in
    arrive_does c.args.self.now c.enter.new.self c.args.book.now c.add.new.self c.enter.new.book c.args.cmd
    c.length.result c.in-Ok.no c.enter.result (answer.Queued c.in-Ok.no) c.requires.agrees came spare
    c.enter.ensures.wrote c.enter.ensures.agrees c.enter.ensures.faults c.enter.ensures.answer (λ e. refl)
    (λ e. cc (c.in-Queued.is))

pub returns-in-Turned : goal.returns-in-Turned
returns-in-Turned g c =
    let blocks : ℕ = length c.args.self.now.blocks in
    let counted : c.length.result ≡ length (plan_in blocks c.args.cmd) =
    c.length.ensures
    ∙ ap length (made_of plan_in blocks c.command.result.now c.args.cmd c.blocks-2.result _
    c.prepare-prepared.ensures.operations c.blocks-2.ensures c.command.ensures) in
    let came = came_so c.args.self.now c.args.book.now c.add.new.self c.args.cmd c.length.result c.in-Ok.no c.add.result
    (work.Cmd c.args.cmd) counted c.add.ensures.answer c.add.ensures.after c.in-Ok.is in
    let spare : 2 ≤ c.args.book.now.spare =
    c.requires.room (room_parts c.args.book.now c.args.cmd c.length.result came.fits).0 in
    arrive_does c.args.self.now c.enter.new.self c.args.book.now c.add.new.self c.enter.new.book c.args.cmd
    c.length.result c.in-Ok.no c.enter.result (answer.Turned c.in-Ok.no) c.requires.agrees came spare
    c.enter.ensures.wrote c.enter.ensures.agrees c.enter.ensures.faults c.enter.ensures.answer (λ e. cc (c.in-Turned.is))
    (λ e. refl)

pub returns-in-Err : goal.returns-in-Err
returns-in-Err g c =
    let blocks : ℕ = length c.args.self.now.blocks in
    let counted : c.length.result ≡ length (plan_in blocks c.args.cmd) =
    c.length.ensures
    ∙ ap length (made_of plan_in blocks c.command.result.now c.args.cmd c.blocks-2.result _
    c.prepare-prepared.ensures.operations c.blocks-2.ensures c.command.ensures) in
    refused_does c.args.self.now c.args.book.now c.add.new.self c.args.cmd c.length.result
    (length c.args.book.now.works + 1) c.add.result c.in-Err.work c.requires.agrees counted c.add.ensures.answer
    c.add.ensures.after c.in-Err.is
