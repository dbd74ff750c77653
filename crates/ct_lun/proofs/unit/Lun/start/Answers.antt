use Rattle.std.proofs.Common.{refl}
use Rattle.ct_book.specs.declared.event.Event.TheVariants as event
use Rattle.ct_book.specs.Journals.{with_event}
use Rattle.ct_lun.specs.Desk.{slot_at}
use Rattle.ct_lun.proofs.Books.{waits_held}
use Rattle.ct_lun.proofs.Effects.{begun_wrote}
use Rattle.ct_lun.proofs.Spent.{begun_spends}
use Rattle.ct_lun.proofs.unit.Lun.start.Goals as goal

pub set_begun-requires-clause-waits : goal.set_begun-requires-clause-waits
set_begun-requires-clause-waits g c = waits_held c.args.self.now c.args.book.now c.args.at c.requires.agrees c.requires.within c.requires.waits

pub returns-clause-wrote : goal.returns-clause-wrote
returns-clause-wrote g c = rw (c.set_begun.ensures, c.push.ensures, c.slot.ensures) (begun_wrote c.args.self.now c.args.book.now c.args.at c.requires.agrees c.requires.within c.requires.waits c.requires.room)

pub returns-clause-spends : goal.returns-clause-spends
returns-clause-spends g c =
    rw (c.set_begun.ensures, c.push.ensures)
    (begun_spends c.args.self.now c.args.book.now (with_event c.args.book.now (event.Begun (slot_at c.args.self.now.slots c.args.at).no)) c.args.at c.requires.within c.requires.waits (record { works = refl; commands = refl; functions = refl; pieces = refl }))
