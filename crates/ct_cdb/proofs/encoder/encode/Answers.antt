use Rattle.std.proofs.Common.{◌≡◌, ◌++◌, List, ℕ, length, take, drop, ap, ◌∙◌, subst}
use Rattle.std.proofs.Math.Seq.{take-append_seam}
use Rattle.ct_cdb.specs.Encoding.{IsWritten, bytes_of_cdb}
use Rattle.ct_cdb.proofs.ReadBack.{cdb_again}
use Rattle.ct_cdb.proofs.Written.{written-take, written-drop}
use Rattle.ct_cdb.proofs.encoder.encode.Goals as goal

pub returns-clause-size : goal.returns-clause-size
returns-clause-size c = c.put.ensures.size_is

pub returns-clause-form : goal.returns-clause-form
returns-clause-form c = written-take c.put.ensures

pub returns-clause-reads_back : goal.returns-clause-reads_back
returns-clause-reads_back c = rw (written-take c.put.ensures) (cdb_again c.args.cdb.now c.requires)

pub returns-clause-rest : goal.returns-clause-rest
returns-clause-rest c = written-drop c.put.ensures
