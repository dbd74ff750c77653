use Rattle.ct_lun.proofs.Books.{is_held}
use Rattle.ct_lun.proofs.unit.Lun.cut.Goals as goal

pub take_out-requires-clause-held : goal.take_out-requires-clause-held
take_out-requires-clause-held g c = is_held c.args.self.now c.args.book.now c.args.at c.requires.agrees c.requires.within
