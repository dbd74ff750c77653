use Rattle.std.proofs.Common.{◌≡◌, ◌++◌, drop}
use Rattle.hex.specs.Hex.{encode_lower}
use Rattle.ct_report.proofs.answer.push_digits.Given as goal

-- the text so far and the digits of the bytes that are left are all digits
abbrev pub invariant-loop-byte : goal.invariant-loop-byte
invariant-loop-byte l = l.text.items ++ encode_lower (drop l.byte-index l.bytes) ≡ l.fn.text.items ++ encode_lower l.bytes
