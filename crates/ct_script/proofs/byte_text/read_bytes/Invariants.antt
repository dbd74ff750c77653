use Rattle.std.proofs.Common.{◌≡◌, ◌≤◌, Some, length, take}
use Rattle.std.specs.Prelude.{option_map}
use Rattle.ct_script.specs.ByteText.{bytes_of_text, joined}
use Rattle.ct_script.specs.Reading.{bytes_of_rest, rest_size}
use Rattle.ct_script.proofs.byte_text.read_bytes.Given as goal

-- the bytes so far and those of the rest are those of the text
abbrev pub invariant-loop-rest : goal.invariant-loop-rest
invariant-loop-rest l = record {
  within : length l.bytes.items ≤ l.most;
  all : option_map (take l.most) (joined (Some l.bytes.items) (bytes_of_rest l.rest)) ≡ option_map (take l.most)
      (bytes_of_text l.text);
}

abbrev pub decreases-loop-rest : goal.decreases-loop-rest
decreases-loop-rest l = rest_size l.rest
