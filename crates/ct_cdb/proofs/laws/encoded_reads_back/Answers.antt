use Rattle.ct_cdb.proofs.ReadBack.{cdb_again}
use Rattle.ct_cdb.proofs.laws.encoded_reads_back.Goals as goal

pub returns : goal.returns
returns c = cdb_again
