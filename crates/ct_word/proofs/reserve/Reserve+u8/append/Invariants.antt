use Rattle.std.proofs.Common.{◌≡◌, ◌++◌, ◌-◌, ◌≤◌, take, length, vec_len}
use Rattle.std.specs.Vec.{vec_capacity}
use Rattle.ct_word.proofs.reserve.Reserve+u8.append.Given as goal

abbrev pub invariant-loop-byte : goal.invariant-loop-byte
invariant-loop-byte l =
    (l.self-inside.list.items ≡ l.fn.self.items ++ take l.byte-index l.bytes)
    × (vec_capacity l.self-inside.list - vec_len l.self-inside.list ≡ l.fn.self.room - l.byte-index)
    × (length l.bytes ≤ l.fn.self.room)
