use Rattle.std.proofs.Common.{◌<◌, arith}
use Rattle.std.proofs.lemmas.Grind.{common_steps}
use Rattle.std.proofs.lemmas.List.{map-append}
use Rattle.ct_book.specs.Kept.{CanBePushed}
use Rattle.ct_book.specs.contracts.book.Book.{the_view}
use Rattle.ct_book.proofs.Pages.{journal-push, told}
use Rattle.ct_book.proofs.book.Book.push.Goals as goal

pub invariant_of-self : goal.invariant_of-self
invariant_of-self c =
    let i = c.self.inside in
    let may : CanBePushed (the_view i) c.args.event = rw (← c.self.view_is) at c.requires.settled in
    let inv = c.self.invariant in
    let room : 0 < i.events.room = rw (← c.self.view_is) at c.requires.room in
    let has = journal-push (the_view i) i.events.items c.args.event may (record { in_order = inv.in_order; come = inv.come; settled = inv.settled }) in
    rw c.write.ensures (record {
      in_order = has.in_order;
      come = has.come;
      settled = has.settled;
      kept = inv.kept;
      reply_each = inv.reply_each;
      body_each = inv.body_each;
      work_room = inv.work_room;
      reply_room = inv.reply_room;
      body_room = inv.body_room;
      few_works = inv.few_works;
      few_events = grind (arith, common_steps, inv.few_events);
    })

pub returns : goal.returns
returns c =
    let i = c.self.inside in
    let may : CanBePushed (the_view i) c.args.event = rw (← c.self.view_is) at c.requires.settled in
    rw (← c.self.view_is, c.write.ensures, map-append, told (the_view i) c.args.event may)
