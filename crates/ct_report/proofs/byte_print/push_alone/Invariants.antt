use Rattle.std.proofs.Common.{◌≡◌, ◌++◌, drop, length}
use Rattle.std.specs.List.{flat_map}
use Rattle.ct_report.specs.ByteText.{alone_text}
use Rattle.ct_report.proofs.byte_print.push_alone.Given as goal

-- the text so far and the rest in print are the bytes in print
abbrev pub invariant-loop-chunk : goal.invariant-loop-chunk
invariant-loop-chunk l = l.text.items ++ flat_map alone_text l.rest ≡ l.fn.text.items ++ flat_map alone_text l.bytes

abbrev pub decreases-loop-chunk : goal.decreases-loop-chunk
decreases-loop-chunk l = length l.rest

abbrev pub invariant-loop-byte : goal.invariant-loop-byte
invariant-loop-byte l = l.text.items ++ flat_map alone_text
    (drop l.byte-index l.byte-items) ≡ l.fn.text.items ++ flat_map alone_text l.bytes
