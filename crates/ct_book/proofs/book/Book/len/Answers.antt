use Rattle.std.proofs.Common.{arith}
use Rattle.std.proofs.lemmas.Grind.{common_steps}
use Rattle.ct_book.proofs.Pages.{nexus-at}
use Rattle.ct_book.proofs.book.Book.len.Goals as goal

pub returns-clause-sound : goal.returns-clause-sound
returns-clause-sound c =
    let i = c.self.inside in
    let inv = c.self.invariant in
    rw (← c.self.view_is) (record {
      in_order = inv.in_order;
      come = inv.come;
      settled = inv.settled;
      nexuses = λ number. nexus-at i.works.items i.bodies.items number inv.body_each inv.kept;
      reply_each = inv.reply_each;
      body_each = grind (arith, common_steps, inv.body_each);
      few_works = grind (arith, inv.few_works, inv.work_room);
      few_events = grind (arith, common_steps, inv.few_events);
    })
