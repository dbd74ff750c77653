use Rattle.std.proofs.Common.{◌≡◌, ℕ, List, Option, Some, refl, sym, ap, ◌∙◌, subst, arith}
use Rattle.std.proofs.Common.{slice_get, get_or, IfSome, false}
use Rattle.std.proofs.lemmas.Option.{slice_get-get_or}
use Rattle.ct_sense.specs.declared.reply.Reply.{Reply}
use Rattle.ct_plan.specs.declared.operation.BlockOp.{BlockOp}
use Rattle.ct_plan.specs.declared.operation.BlockOp.TheVariants as operations
use Rattle.ct_plan.specs.declared.task.Task.{Task as PlanTask}
use Rattle.ct_plan.specs.declared.task.Piece.{Piece}
use Rattle.ct_plan.specs.Pieces.{fault_in}
use Rattle.ct_book.specs.declared.event.Event.TheVariants as event
use Rattle.ct_book.specs.declared.event.Why.TheVariants.{Medium}
use Rattle.ct_book.specs.Journals.{BookState}
use Rattle.ct_exec.specs.Executions.{good, reply_failed}
use Rattle.ct_exec.specs.Refusals.{refused_reply}
use Rattle.ct_lun.specs.declared.slot.Slot.{Slot}
use Rattle.ct_lun.specs.Desk.{Desk, slot_at}
use Rattle.ct_lun.specs.States.{command_in}
use Rattle.ct_lun.specs.Calls.{Goes, closed_book}
use Rattle.ct_lun.proofs.Does.{gone_slot, gone_within, gone_end, gone_cut, part_does}
use Rattle.ct_lun.proofs.Moves.{moved_wrote}
use Rattle.ct_lun.proofs.Overs.{reached_part, reached_end, reached_differs, reached_fault, fault_left, end_does}
use Rattle.ct_lun.proofs.Overs.{differs_does, cut_does}
use Rattle.ct_lun.proofs.unit.Lun.move_on.Goals as goal

pub finish-requires-clause-agrees : goal.finish-requires-clause-agrees
finish-requires-clause-agrees g c =
    (moved_wrote c.args.self.now c.work-piece.new.self c.args.book.now c.work-piece.new.book c.args.at c.args.blocks c.work-piece.result c.requires.agrees.base c.requires.within c.requires.begun c.work-piece.ensures.goes (omega arith) c.work-piece.ensures.book).agrees

pub finish-requires-in-Differs-clause-agrees : goal.finish-requires-in-Differs-clause-agrees
finish-requires-in-Differs-clause-agrees g c =
    (moved_wrote c.args.self.now c.work-piece.new.self c.args.book.now c.work-piece.new.book c.args.at c.args.blocks
    c.work-piece.result c.requires.agrees.base c.requires.within c.requires.begun c.work-piece.ensures.goes
    (omega arith) c.work-piece.ensures.book).agrees

pub finish-requires-in-Fault-clause-agrees : goal.finish-requires-in-Fault-clause-agrees
finish-requires-in-Fault-clause-agrees g c =
    (moved_wrote c.args.self.now c.work-piece.new.self c.args.book.now c.work-piece.new.book c.args.at c.args.blocks c.work-piece.result c.requires.agrees.base c.requires.within c.requires.begun c.work-piece.ensures.goes (omega arith) c.work-piece.ensures.book).agrees

pub finish-requires-clause-kind : goal.finish-requires-clause-kind
finish-requires-clause-kind g c =
    gone_end c.args.self.now c.work-piece.new.self c.args.at c.args.blocks _ c.work-piece.result c.slot.result.now.no c.requires.within c.work-piece.ensures.goes (ap (λ (s : Slot). s.no) c.slot.ensures)

pub finish-requires-in-Differs-clause-kind : goal.finish-requires-in-Differs-clause-kind
finish-requires-in-Differs-clause-kind g c =
    gone_end c.args.self.now c.work-piece.new.self c.args.at c.args.blocks _ c.work-piece.result c.slot.result.now.no
    c.requires.within c.work-piece.ensures.goes (ap (λ (s : Slot). s.no) c.slot.ensures)

pub finish-requires-in-Fault-clause-kind : goal.finish-requires-in-Fault-clause-kind
finish-requires-in-Fault-clause-kind g c =
    gone_cut c.args.self.now c.work-piece.new.self c.args.at c.args.blocks _ c.work-piece.result c.slot.result.now.no c.fault-puts.result.1 c.requires.within c.work-piece.ensures.goes (ap (λ (s : Slot). s.no) c.slot.ensures)

pub fault-puts-requires : goal.fault-puts-requires
fault-puts-requires g c =
    let fault : fault_in c.work-piece.result ≡ Some c.work-piece.result.moved = reached_fault c.work-piece.result (sym c.how_far.ensures ∙ c.in-Fault.is) in
    record {
      within = gone_within c.args.self.now c.work-piece.new.self c.args.at c.args.blocks _ c.work-piece.result c.requires.within c.work-piece.ensures.goes;
      left = fault_left c.args.self.now c.work-piece.new.self c.args.at c.args.blocks _ c.work-piece.result c.requires.within c.work-piece.ensures.goes fault;
    }

pub returns-in-Part : goal.returns-in-Part
returns-in-Part g c =
    part_does c.args.self.now c.work-piece.new.self c.args.book.now c.work-piece.new.book c.args.at c.args.blocks c.work-piece.result c.requires.agrees c.requires.within c.requires.begun (omega arith) c.work-piece.ensures.goes c.work-piece.ensures.book
    (reached_part c.work-piece.result.end (sym c.how_far.ensures ∙ c.in-Part.is))

pub returns-in-End : goal.returns-in-End
returns-in-End g c =
    let old : Desk = c.args.self.now in
    let mid : Desk = c.work-piece.new.self in
    let at : ℕ = c.args.at in
    let piece : Piece = c.work-piece.result in
    let goes : Goes old mid at c.args.blocks (command_in c.args.book.now.works (slot_at old.slots at).no).out piece = c.work-piece.ensures.goes in
    let number : (slot_at mid.slots at).no ≡ (slot_at old.slots at).no = ap (λ (s : Slot). s.no) (gone_slot old mid at c.args.blocks (command_in c.args.book.now.works (slot_at old.slots at).no).out piece c.requires.within goes) in
    let named : c.slot.result.now.no ≡ (slot_at old.slots at).no = ap (λ (s : Slot). s.no) c.slot.ensures in
    let reply : Reply = good (slot_at mid.slots at).task.body.items in
    let closed : c.finish.new.book ≡ closed_book c.work-piece.new.book (slot_at old.slots at).no reply (event.Ended (slot_at old.slots at).no) =
    c.finish.ensures.book ∙ ap (λ (n : ℕ). closed_book c.work-piece.new.book n reply (event.Ended c.slot.result.now.no)) number ∙ ap (λ (n : ℕ). closed_book c.work-piece.new.book (slot_at old.slots at).no reply (event.Ended n)) named in
    end_does old mid c.finish.new.self c.args.book.now c.work-piece.new.book c.finish.new.book at c.args.blocks piece reply c.requires.agrees c.requires.within c.requires.begun c.requires.room goes c.work-piece.ensures.book c.finish.ensures.leaves refl closed
    (reached_end piece.end (sym c.how_far.ensures ∙ c.in-End.is))

pub returns-in-Differs : goal.returns-in-Differs
returns-in-Differs g c =
    let old : Desk = c.args.self.now in
    let mid : Desk = c.work-piece.new.self in
    let at : ℕ = c.args.at in
    let piece : Piece = c.work-piece.result in
    let own : ℕ = (slot_at old.slots at).no in
    let out : List ℕ = (command_in c.args.book.now.works own).out in
    let goes : Goes old mid at c.args.blocks out piece = c.work-piece.ensures.goes in
    let book : BookState = c.work-piece.new.book in
    let number : (slot_at mid.slots at).no ≡ own =
    ap (λ (s : Slot). s.no) (gone_slot old mid at c.args.blocks out piece c.requires.within goes) in
    let named : c.slot.result.now.no ≡ own = ap (λ (s : Slot). s.no) c.slot.ensures in
    let reply : Reply = refused_reply c.difference-why.result in
    let closed : c.finish-in-Differs.new.book ≡ closed_book book own reply (event.Ended own) =
    c.finish-in-Differs.ensures.book
    ∙ ap (λ (n : ℕ). closed_book book n reply (event.Ended c.slot.result.now.no)) number
    ∙ ap (λ (n : ℕ). closed_book book own reply (event.Ended n)) named in
    differs_does old mid c.finish-in-Differs.new.self c.args.book.now book c.finish-in-Differs.new.book at c.args.blocks
    piece c.in-Differs.offset reply c.requires.agrees c.requires.within c.requires.begun c.requires.room goes
    c.work-piece.ensures.book c.finish-in-Differs.ensures.leaves c.difference-why.ensures closed
    (reached_differs piece.end c.in-Differs.offset (sym c.how_far.ensures ∙ c.in-Differs.is))

pub returns-in-Fault : goal.returns-in-Fault
returns-in-Fault g c =
    let old : Desk = c.args.self.now in
    let mid : Desk = c.work-piece.new.self in
    let at : ℕ = c.args.at in
    let piece : Piece = c.work-piece.result in
    let goes : Goes old mid at c.args.blocks (command_in c.args.book.now.works (slot_at old.slots at).no).out piece = c.work-piece.ensures.goes in
    let number : (slot_at mid.slots at).no ≡ (slot_at old.slots at).no = ap (λ (s : Slot). s.no) (gone_slot old mid at c.args.blocks (command_in c.args.book.now.works (slot_at old.slots at).no).out piece c.requires.within goes) in
    let named : c.slot.result.now.no ≡ (slot_at old.slots at).no = ap (λ (s : Slot). s.no) c.slot.ensures in
    let fault : fault_in piece ≡ Some piece.moved = reached_fault piece (sym c.how_far.ensures ∙ c.in-Fault.is) in
    let task : PlanTask = (slot_at mid.slots at).task in
    let operation : BlockOp = get_or task.plan.operations task.done (operations.Get 0) in
    let next : slice_get task.plan.operations task.done ≡ Some operation = slice_get-get_or task.plan.operations task.done (operations.Get 0) (fault_left old mid at c.args.blocks _ piece c.requires.within goes fault) in
    let reply : Reply = refused_reply c.fault-puts.result.0 in
    let why : reply ≡ reply_failed mid.control operation = subst (λ (o : Option BlockOp). IfSome o (λ op. reply ≡ reply_failed mid.control op)) next c.fault-puts.ensures.why in
    let closed : c.finish-in-Fault.new.book ≡ closed_book c.work-piece.new.book (slot_at old.slots at).no reply (event.Cut (slot_at old.slots at).no c.fault-puts.result.1 Medium false) =
    c.finish-in-Fault.ensures.book ∙ ap (λ (n : ℕ). closed_book c.work-piece.new.book n reply (event.Cut c.slot.result.now.no c.fault-puts.result.1 Medium false)) number
    ∙ ap (λ (n : ℕ). closed_book c.work-piece.new.book (slot_at old.slots at).no reply (event.Cut n c.fault-puts.result.1 Medium false)) named in
    cut_does old mid c.finish-in-Fault.new.self c.args.book.now c.work-piece.new.book c.finish-in-Fault.new.book at c.args.blocks piece operation reply c.fault-puts.result.1 c.requires.agrees c.requires.within c.requires.begun c.requires.room goes c.work-piece.ensures.book
    c.finish-in-Fault.ensures.leaves fault next why c.fault-puts.ensures.puts closed
