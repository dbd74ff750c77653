use Rattle.std.proofs.Common.{◌≡◌, ◌++◌, length}
use Rattle.ct_report.specs.ByteText.{dotted_text}
use Rattle.ct_report.proofs.byte_print.push_dotted.Given as goal

-- the text so far and the rest in print are the bytes in print
abbrev pub invariant-loop-rest : goal.invariant-loop-rest
invariant-loop-rest l = l.text.items ++ dotted_text l.rest ≡ l.fn.text.items ++ dotted_text l.bytes

abbrev pub decreases-loop-rest : goal.decreases-loop-rest
decreases-loop-rest l = length l.rest
