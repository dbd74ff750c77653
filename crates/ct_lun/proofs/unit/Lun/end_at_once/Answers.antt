use Rattle.std.proofs.Common.{sym, subst}
use Rattle.ct_lun.specs.Desk.{Desk, with_control}
use Rattle.ct_lun.specs.Calls.{by_end, Leaves}
use Rattle.ct_lun.proofs.Books.{is_held}
use Rattle.ct_lun.proofs.Effects.{leaves_control}
use Rattle.ct_lun.proofs.unit.Lun.end_at_once.Goals as goal

pub take_out-body-requires-clause-held : goal.take_out-body-requires-clause-held
take_out-body-requires-clause-held g c = is_held c.args.self.now c.args.book.now c.args.at c.requires.agrees c.requires.within

pub close-requires-clause-kind : goal.close-requires-clause-kind
close-requires-clause-kind g c = by_end

pub returns : goal.returns
returns g c =
    let old : Desk = c.args.self.now in
    let out : Desk = c.take_out-body.new.self in
    let new : Desk = c.instant-reply.new.self in
    let leaves : Leaves old out c.args.at = c.take_out-body.ensures.leaves in
    record {
      reply = c.instant-reply.result.reply;
      leaves = subst (λ (d : Desk). Leaves (with_control old new.control) d c.args.at) (sym c.instant-reply.ensures.after) (leaves_control old out c.args.at new.control leaves);
      execution = rw (leaves.control, leaves.blocks, c.command.ensures.command, c.slot.ensures) at c.instant-reply.ensures.done;
      kept = rw c.slot.ensures at c.close.ensures;
    }
