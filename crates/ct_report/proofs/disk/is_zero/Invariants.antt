use Rattle.std.proofs.Common.{◌≡◌, ◌==◌, take}
use Rattle.ct_report.specs.DiskText.{is_zero}
use Rattle.ct_report.proofs.disk.is_zero.Given as goal

-- no bit is set so far where all bytes so far are zeros
abbrev pub invariant-loop-byte : goal.invariant-loop-byte
invariant-loop-byte l = (l.bits == 0) ≡ is_zero (take l.byte-index l.bytes)
