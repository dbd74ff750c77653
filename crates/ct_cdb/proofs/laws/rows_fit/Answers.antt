use Rattle.ct_cdb.proofs.Fitting.{row_fits, decoded_fits, decoded_room, decoded_reports}
use Rattle.ct_cdb.proofs.laws.rows_fit.Goals as goal

pub returns : goal.returns
returns c = record { fits = row_fits; undecoded = decoded_fits; room = decoded_room; reports = decoded_reports }
