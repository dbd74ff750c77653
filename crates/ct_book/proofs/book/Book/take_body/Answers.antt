use Rattle.std.proofs.Common.{◌≡◌, ◌-◌, ◌∙◌, ap, arith, slice_get, false, map, is_some, Some, true}
use Rattle.std.proofs.lemmas.Grind.{common_steps}
use Rattle.std.proofs.lemmas.List.{map-set}
use Rattle.ct_book.specs.Journals.{numbered}
use Rattle.ct_book.proofs.Pages.{untaken, body-of, kept-take}
use Rattle.ct_book.proofs.book.Book.take_body.Goals as goal

pub unreachable-requires : goal.unreachable-requires
unreachable-requires c =
    let i = c.self.inside in
    let stands : numbered c.args.no (map is_some i.bodies.items) ≡ Some true = rw (← c.self.view_is) at c.requires in
    let item : slice_get i.bodies.items (c.args.no - 1) ≡ Some c.replace.result = rw c.number.ensures at c.replace.ensures.item in
    let some : is_some c.replace.result ≡ true = (untaken i.bodies.items c.args.no stands).2 c.replace.result item in
    let none : is_some c.replace.result ≡ false = ap is_some c.in-None.is in
    absurd cc

pub invariant_of-self : goal.invariant_of-self
invariant_of-self c =
    let inv = c.self.invariant in
    rw c.replace.ensures.rest (record {
      in_order = inv.in_order;
      come = inv.come;
      settled = inv.settled;
      kept = kept-take _ _ _ inv.body_each inv.kept;
      reply_each = inv.reply_each;
      body_each = grind (arith, common_steps, inv.body_each);
      work_room = inv.work_room;
      reply_room = inv.reply_room;
      body_room = inv.body_room;
      few_works = inv.few_works;
      few_events = inv.few_events;
    })

pub returns-clause-ready : goal.returns-clause-ready
returns-clause-ready c =
    let i = c.self.inside in
    let stands : numbered c.args.no (map is_some i.bodies.items) ≡ Some true = rw (← c.self.view_is) at c.requires in
    let item : slice_get i.bodies.items (c.args.no - 1) ≡ Some c.replace.result = rw c.number.ensures at c.replace.ensures.item in
    let body : slice_get i.bodies.items (c.args.no - 1) ≡ Some (Some c.in-Some.body) = item ∙ ap Some c.in-Some.is in
    let given = (untaken i.bodies.items c.args.no stands).0 in
    rw (← c.self.view_is) (body-of i.works.items i.bodies.items c.args.no c.in-Some.body c.self.invariant.body_each c.self.invariant.kept body given)

pub returns-clause-after : goal.returns-clause-after
returns-clause-after c = rw (← c.self.view_is, c.replace.ensures.rest, c.number.ensures, map-set)
