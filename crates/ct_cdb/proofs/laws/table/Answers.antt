use Rattle.ct_cdb.proofs.Rows.{empty, bad_operation, bad_length, bad_field, accepted}
use Rattle.ct_cdb.proofs.laws.table.Goals as goal

pub returns : goal.returns
returns c = record { empty = empty; bad_operation = bad_operation; bad_length = bad_length; bad_field = bad_field; accepted = accepted }
