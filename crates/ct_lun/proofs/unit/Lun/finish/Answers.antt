use Rattle.ct_lun.proofs.Books.{is_held}
use Rattle.ct_lun.proofs.unit.Lun.finish.Goals as goal

pub take_out-body-requires-clause-held : goal.take_out-body-requires-clause-held
take_out-body-requires-clause-held g c = is_held c.args.self.now c.args.book.now c.args.at c.requires.agrees c.requires.within
