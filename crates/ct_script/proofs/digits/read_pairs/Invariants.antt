use Rattle.std.proofs.Common.{◌≡◌, ◌*◌, take, drop}
use Rattle.hex.specs.Hex.{decode_pairs}
use Rattle.hex.proofs.Pairs.{prepend}
use Rattle.ct_script.proofs.digits.read_pairs.Given as goal

-- the bytes so far and those of the pairs that are left are those of all pairs
abbrev pub invariant-loop-place : goal.invariant-loop-place
invariant-loop-place l = decode_pairs 0 l.pairs ≡ prepend (take l.place l.into) (decode_pairs (2 * l.place) (drop
    (2 * l.place) l.pairs))
