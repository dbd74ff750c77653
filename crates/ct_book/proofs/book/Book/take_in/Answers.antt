use Rattle.std.proofs.Common.{refl, ◌≡◌, ◌+◌, ◌<◌, ◌-◌, length, arith, ap, true}
use Rattle.std.proofs.lemmas.Grind.{common_steps}
use Rattle.std.proofs.lemmas.List.{map-append}
use Rattle.ct_book.specs.Journals.{has_room}
use Rattle.ct_book.specs.Kept.{IsKept}
use Rattle.ct_book.specs.contracts.book.Book.{the_view}
use Rattle.ct_book.proofs.Pages.{journal-add, has-room, with-work, kept-push, fresh-last}
use Rattle.ct_book.proofs.book.Book.take_in.Goals as goal

pub invariant_of-self : goal.invariant_of-self
invariant_of-self c =
    let i = c.self.inside in
    let inv = c.self.invariant in
    let has = journal-add i.works.items i.replies.items i.events.items c.args.work c.args.node (record { in_order = inv.in_order; come = inv.come; settled = inv.settled }) in
    let can : has_room (the_view i) c.args.work c.args.pieces ≡ true = rw c.self.view_is c.requires.room in
    let room = has-room (the_view i) c.args.work c.args.pieces can in
    let spare : 0 < i.events.room = rw (← c.self.view_is) at c.requires.spare in
    let kept : IsKept c.args.work c.split-work.result.1 = c.split-work.ensures.kept in
    rw (c.write.ensures, c.push.ensures, c.push-2.ensures, c.push-3.ensures, c.commands_left-self-inside.ensures, c.functions_left-self-inside.ensures, c.line_of-line.ensures, c.new-no.ensures, c.len.ensures, c.split-work.ensures.work) (record {
      in_order = rw has.0 has.1.in_order;
      come = rw has.0 has.1.come;
      settled = rw has.0 has.1.settled;
      kept = kept-push _ _ _ _ inv.body_each inv.kept kept;
      reply_each = grind (arith, common_steps, inv.reply_each);
      body_each = grind (arith, common_steps, inv.body_each);
      work_room = omega (arith, room.some, inv.work_room);
      reply_room = ap (λ n. n - 1) inv.reply_room;
      body_room = ap (λ n. n - 1) inv.body_room;
      few_works = grind (arith, common_steps, inv.few_works, room.some, inv.work_room);
      few_events = grind (arith, common_steps, inv.few_events);
    })

pub returns-clause-after : goal.returns-clause-after
returns-clause-after c =
    let i = c.self.inside in
    let inv = c.self.invariant in
    let has = journal-add i.works.items i.replies.items i.events.items c.args.work c.args.node (record { in_order = inv.in_order; come = inv.come; settled = inv.settled }) in
    rw (← c.self.view_is, with-work (the_view i) c.args.node c.args.work c.args.pieces, c.write.ensures, c.push.ensures, c.push-2.ensures, c.push-3.ensures, c.commands_left-self-inside.ensures, c.functions_left-self-inside.ensures, c.line_of-line.ensures, c.new-no.ensures, c.len.ensures, c.split-work.ensures.work, has.0, map-append, c.split-work.ensures.body)

pub returns-clause-fresh : goal.returns-clause-fresh
returns-clause-fresh c =
    let i = c.self.inside in
    let inv = c.self.invariant in
    let number : c.new-no.result ≡ length i.works.items + 1 = rw (c.new-no.ensures, c.len.ensures) refl in
    let last = fresh-last i.works.items i.bodies.items i.replies.items c.args.work c.split-work.result.1 c.new-no.result inv.body_each inv.reply_each number c.split-work.ensures.body in
    rw (c.push.ensures, c.push-2.ensures, c.push-3.ensures, c.split-work.ensures.work) (record { work = last.0; reply = last.1; body = last.2 })
