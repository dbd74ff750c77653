use Rattle.std.proofs.Common.{◌≡◌, arith, None}
use Rattle.std.proofs.lemmas.Grind.{common_steps}
use Rattle.ct_book.specs.Journals.{reply_in}
use Rattle.ct_book.specs.Kept.{IsCommandNo}
use Rattle.ct_book.specs.contracts.book.Book.{the_view}
use Rattle.ct_book.proofs.Pages.{given, journal-answer}
use Rattle.ct_book.proofs.book.Book.answer.Goals as goal

pub invariant_of-self : goal.invariant_of-self
invariant_of-self c =
    let i = c.self.inside in
    let inv = c.self.invariant in
    let command : IsCommandNo (the_view i) c.args.no = rw (← c.self.view_is) at c.requires.command in
    let without : reply_in i.replies.items c.args.no ≡ None = rw (← c.self.view_is) at c.requires.without in
    let same = journal-answer i.works.items i.replies.items i.events.items c.args.no c.args.reply (record { in_order = inv.in_order; come = inv.come; settled = inv.settled }) (given c.args.no i.works.items _ command) without in
    rw (c.set.ensures, c.number.ensures) (record {
      in_order = rw same inv.in_order;
      come = rw same inv.come;
      settled = rw same inv.settled;
      kept = inv.kept;
      reply_each = grind (arith, common_steps, inv.reply_each);
      body_each = inv.body_each;
      work_room = inv.work_room;
      reply_room = inv.reply_room;
      body_room = inv.body_room;
      few_works = inv.few_works;
      few_events = inv.few_events;
    })

pub returns : goal.returns
returns c =
    let i = c.self.inside in
    let inv = c.self.invariant in
    let command : IsCommandNo (the_view i) c.args.no = rw (← c.self.view_is) at c.requires.command in
    let without : reply_in i.replies.items c.args.no ≡ None = rw (← c.self.view_is) at c.requires.without in
    let same = journal-answer i.works.items i.replies.items i.events.items c.args.no c.args.reply (record { in_order = inv.in_order; come = inv.come; settled = inv.settled }) (given c.args.no i.works.items _ command) without in
    rw (← c.self.view_is, c.set.ensures, c.number.ensures, same)
