use Rattle.std.proofs.Common.{◌≡◌, ◌+◌, ◌-◌, nat_eq, drop}
use Rattle.ct_report.specs.Runs.{alone}
use Rattle.ct_report.proofs.byte_print.alone_ahead.Given as goal

-- all bytes so far stand alone
abbrev pub invariant-loop-place : goal.invariant-loop-place
invariant-loop-place l = alone nat_eq l.bytes ≡ alone nat_eq (drop (l.place - 1) l.bytes) + (l.place - 1)
