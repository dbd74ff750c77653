use Rattle.std.proofs.Common.{◌≡◌, ℕ, [], ◌∷◌, Some, None, false, length, refl, sym, ap, ◌∙◌, subst}
use Rattle.ct_pool.specs.Leases.{PoolState, Takes}
use Rattle.ct_matrix.specs.declared.held.Held.{Held}
use Rattle.ct_matrix.specs.Queues.{placed}
use Rattle.ct_book.specs.declared.work.Command.{Command}
use Rattle.ct_book.specs.declared.event.Event.TheVariants as event
use Rattle.ct_book.specs.Works.{IsReady as IsFilled}
use Rattle.ct_book.specs.Journals.{BookState, with_event, without_body}
use Rattle.ct_exec.specs.Executions.{need_in}
use Rattle.ct_exec.specs.Refusals.{refused_reply}
use Rattle.ct_machine.specs.States.{held_by}
use Rattle.ct_machine.specs.Acts.Entries.{turned_cause}
use Rattle.ct_lun.specs.declared.slot.Slot.{Slot}
use Rattle.ct_lun.specs.Desk.{Desk, placed_slot}
use Rattle.ct_lun.specs.States.{command_in, state_of}
use Rattle.ct_lun.specs.Calls.{Wrote, entered_as, told}
use Rattle.ct_lun.proofs.Enters.{cause_known, entry_fresh, body_known, entered_left, entered_wrote, enters_wrote, turned_wrote, turns_wrote, IsEntry}
use Rattle.ct_lun.proofs.unit.Lun.enter.Goals as goal

pub put_in-requires-clause-fresh : goal.put_in-requires-clause-fresh
put_in-requires-clause-fresh g c = rw c.in-Ok.ensures.after (entry_fresh c.args.self.now c.args.book.now c.args.no c.requires.agrees.base c.requires.fresh)

pub returns-in-Ok-clause-answer : goal.returns-in-Ok-clause-answer
returns-in-Ok-clause-answer g c =
    let old : Desk = c.args.self.now in
    let book : BookState = c.args.book.now in
    let number : ℕ = c.args.no in
    let command : Command = c.command-command.result.now in
    let named : command ≡ command_in book.works number = c.command-command.ensures.command in
    let need : c.need.result ≡ need_in (length old.blocks) command =
    c.need.ensures ∙ c.requires.need ∙ ap (need_in (length old.blocks)) (sym named) in
    let free : turned_cause (state_of old book) (command_in book.works number) ≡ None =
    ap (turned_cause (state_of old book)) (sym named) ∙ sym (cause_known old book command c.need.result c.requires.agrees.base need) ∙ c.in-Ok.ensures.free in
    ap entered_as (sym free)

pub returns-in-Ok-clause-wrote : goal.returns-in-Ok-clause-wrote
returns-in-Ok-clause-wrote g c =
    let old : Desk = c.args.self.now in
    let book : BookState = c.args.book.now in
    let number : ℕ = c.args.no in
    let command : Command = c.command-command.result.now in
    let named : command ≡ command_in book.works number = c.command-command.ensures.command in
    let need : c.need.result ≡ need_in (length old.blocks) command =
    c.need.ensures ∙ c.requires.need ∙ ap (need_in (length old.blocks)) (sym named) in
    let free : turned_cause (state_of old book) (command_in book.works number) ≡ None =
    ap (turned_cause (state_of old book)) (sym named) ∙ sym (cause_known old book command c.need.result c.requires.agrees.base need) ∙ c.in-Ok.ensures.free in
    let mid : Desk = c.admit.new.self in
    let new : Desk = c.put_in.new.self in
    let held : Held = c.args.prepared.held in
    let slot : Slot =
    record {
      no = number;
      nexus = command.nexus;
      tag = command.tag;
      begun = false;
      task =
          record { plan = c.args.prepared.plan; lease = c.in-Ok.lease; body = c.take_body-body.result; done = 0 };
    } in
    let filled : IsFilled (command_in book.works number) c.take_body-body.result = body_known book number c.take_body-body.result c.requires.command c.take_body-body.ensures.ready in
    let holds : held ≡ held_by (length old.blocks) (command_in book.works number) false = c.requires.held in
    let entry : IsEntry old book number slot = record {
      no = refl;
      nexus = ap (λ (x : Command). x.nexus) named;
      tag = ap (λ (x : Command). x.tag) named;
      begun = refl;
      operations = c.requires.operations;
      need = c.requires.need;
      done = refl;
      empty = filled.empty;
      room = filled.room;
    } in
    let pool : new.pool ≡ mid.pool = ap (λ (d : Desk). d.pool) c.put_in.ensures in
    let takes : Takes old.pool new.pool c.args.prepared.plan.need c.in-Ok.lease =
    subst (λ (x : PoolState). Takes old.pool x c.args.prepared.plan.need c.in-Ok.lease) (sym pool)
    (subst (λ (k : ℕ). Takes old.pool mid.pool k c.in-Ok.lease) c.need.ensures c.in-Ok.ensures.takes) in
    let desk : new ≡ record old { set = record old.set { commands = placed (record { no = number; held = held }) old.set.commands }; slots = placed_slot held.attr slot old.slots; pool = new.pool } =
    c.put_in.ensures
    ∙ ap (λ (d : Desk). record d { set = record d.set { commands = placed (record { no = number; held = held }) d.set.commands }; slots = placed_slot held.attr slot d.slots }) c.in-Ok.ensures.after
    ∙ ap (λ (x : PoolState). record old { set = record old.set { commands = placed (record { no = number; held = held }) old.set.commands }; slots = placed_slot held.attr slot old.slots; pool = x }) (sym pool) in
    let noted : c.push.new.self ≡ with_event (without_body book number) (event.Enter number) = c.push.ensures ∙ ap (λ (b : BookState). with_event b (event.Enter number)) c.take_body-body.ensures.after in
    let wrote : Wrote old new book c.push.new.self (told (event.Enter number) ∷ []) =
    entered_wrote old new book c.push.new.self number slot held c.requires.agrees.base c.requires.command c.requires.fresh c.requires.unanswered c.requires.room entry holds takes desk noted in
    enters_wrote old new book c.push.new.self number (command_in book.works number) free wrote

pub returns-in-Ok-clause-agrees : goal.returns-in-Ok-clause-agrees
returns-in-Ok-clause-agrees g c =
    let old : Desk = c.args.self.now in
    let book : BookState = c.args.book.now in
    let number : ℕ = c.args.no in
    let command : Command = c.command-command.result.now in
    let named : command ≡ command_in book.works number = c.command-command.ensures.command in
    let need : c.need.result ≡ need_in (length old.blocks) command =
    c.need.ensures ∙ c.requires.need ∙ ap (need_in (length old.blocks)) (sym named) in
    let mid : Desk = c.admit.new.self in
    let new : Desk = c.put_in.new.self in
    let held : Held = c.args.prepared.held in
    let slot : Slot =
    record {
      no = number;
      nexus = command.nexus;
      tag = command.tag;
      begun = false;
      task =
          record { plan = c.args.prepared.plan; lease = c.in-Ok.lease; body = c.take_body-body.result; done = 0 };
    } in
    let filled : IsFilled (command_in book.works number) c.take_body-body.result = body_known book number c.take_body-body.result c.requires.command c.take_body-body.ensures.ready in
    let holds : held ≡ held_by (length old.blocks) (command_in book.works number) false = c.requires.held in
    let entry : IsEntry old book number slot = record {
      no = refl;
      nexus = ap (λ (x : Command). x.nexus) named;
      tag = ap (λ (x : Command). x.tag) named;
      begun = refl;
      operations = c.requires.operations;
      need = c.requires.need;
      done = refl;
      empty = filled.empty;
      room = filled.room;
    } in
    let pool : new.pool ≡ mid.pool = ap (λ (d : Desk). d.pool) c.put_in.ensures in
    let takes : Takes old.pool new.pool c.args.prepared.plan.need c.in-Ok.lease =
    subst (λ (x : PoolState). Takes old.pool x c.args.prepared.plan.need c.in-Ok.lease) (sym pool)
    (subst (λ (k : ℕ). Takes old.pool mid.pool k c.in-Ok.lease) c.need.ensures c.in-Ok.ensures.takes) in
    let desk : new ≡ record old { set = record old.set { commands = placed (record { no = number; held = held }) old.set.commands }; slots = placed_slot held.attr slot old.slots; pool = new.pool } =
    c.put_in.ensures
    ∙ ap (λ (d : Desk). record d { set = record d.set { commands = placed (record { no = number; held = held }) d.set.commands }; slots = placed_slot held.attr slot d.slots }) c.in-Ok.ensures.after
    ∙ ap (λ (x : PoolState). record old { set = record old.set { commands = placed (record { no = number; held = held }) old.set.commands }; slots = placed_slot held.attr slot old.slots; pool = x }) (sym pool) in
    let noted : c.push.new.self ≡ with_event (without_body book number) (event.Enter number) = c.push.ensures ∙ ap (λ (b : BookState). with_event b (event.Enter number)) c.take_body-body.ensures.after in
    let wrote : Wrote old new book c.push.new.self (told (event.Enter number) ∷ []) =
    entered_wrote old new book c.push.new.self number slot held c.requires.agrees.base c.requires.command c.requires.fresh c.requires.unanswered c.requires.room entry holds takes desk noted in
    record { base = wrote.agrees; left = entered_left old new book held.attr slot c.requires.agrees (ap (λ (d : Desk). d.slots) desk) refl }

pub returns-in-Err-clause-answer : goal.returns-in-Err-clause-answer
returns-in-Err-clause-answer g c =
    let old : Desk = c.args.self.now in
    let book : BookState = c.args.book.now in
    let number : ℕ = c.args.no in
    let command : Command = c.command-command.result.now in
    let named : command ≡ command_in book.works number = c.command-command.ensures.command in
    let need : c.need.result ≡ need_in (length old.blocks) command =
    c.need.ensures ∙ c.requires.need ∙ ap (need_in (length old.blocks)) (sym named) in
    let cause : turned_cause (state_of old book) (command_in book.works number) ≡ Some (refused_reply c.in-Err.refusal) =
    ap (turned_cause (state_of old book)) (sym named) ∙ sym (cause_known old book command c.need.result c.requires.agrees.base need) ∙ c.in-Err.ensures.cause in
    ap entered_as (sym cause)

pub returns-in-Err-clause-wrote : goal.returns-in-Err-clause-wrote
returns-in-Err-clause-wrote g c =
    let old : Desk = c.args.self.now in
    let book : BookState = c.args.book.now in
    let number : ℕ = c.args.no in
    let command : Command = c.command-command.result.now in
    let named : command ≡ command_in book.works number = c.command-command.ensures.command in
    let need : c.need.result ≡ need_in (length old.blocks) command =
    c.need.ensures ∙ c.requires.need ∙ ap (need_in (length old.blocks)) (sym named) in
    let cause : turned_cause (state_of old book) (command_in book.works number) ≡ Some (refused_reply c.in-Err.refusal) =
    ap (turned_cause (state_of old book)) (sym named) ∙ sym (cause_known old book command c.need.result c.requires.agrees.base need) ∙ c.in-Err.ensures.cause in
    rw c.in-Err.ensures.unchanged
    (turns_wrote old old book c.turn_away.new.book number (command_in book.works number) (refused_reply c.in-Err.refusal) cause
    (turned_wrote old book c.turn_away.new.book number (refused_reply c.in-Err.refusal) c.requires.agrees.base c.requires.command c.requires.fresh c.requires.unanswered c.requires.room c.turn_away.ensures))

pub returns-in-Err-clause-agrees : goal.returns-in-Err-clause-agrees
returns-in-Err-clause-agrees g c =
    rw c.in-Err.ensures.unchanged
    (record {
      base = (turned_wrote c.args.self.now c.args.book.now c.turn_away.new.book c.args.no (refused_reply c.in-Err.refusal) c.requires.agrees.base c.requires.command c.requires.fresh c.requires.unanswered c.requires.room c.turn_away.ensures).agrees;
      left = c.requires.agrees.left;
    })
