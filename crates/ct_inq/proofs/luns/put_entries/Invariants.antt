use Rattle.ct_inq.proofs.Entries.{ArePut}
use Rattle.ct_inq.proofs.luns.put_entries.Given as goal

abbrev pub invariant-loop-number : goal.invariant-loop-number
invariant-loop-number l = ArePut l.visible l.number l.end l.list
