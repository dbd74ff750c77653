-- Bytes written at the beginning of a list, and what stays behind them.
use Rattle.std.proofs.Common.{◌≡◌, ◌++◌, List, ℕ, length, take, drop}
use Rattle.std.proofs.Math.Seq.{take-append_seam, drop-append_seam}
use Rattle.ct_cdb.specs.Encoding.{IsWritten}

pub written-take : {bytes : List ℕ} {size : ℕ} {old new : List ℕ} → IsWritten bytes size old new
    → take size new ≡ bytes
written-take {bytes} {size} {old} {new} h = rw (h.new_is, h.size_is) (take-append_seam bytes (drop (length bytes) old))

pub written-drop : {bytes : List ℕ} {size : ℕ} {old new : List ℕ} → IsWritten bytes size old new
    → drop size new ≡ drop size old
written-drop {bytes} {size} {old} {new} h = rw (h.new_is, h.size_is) (drop-append_seam bytes (drop (length bytes) old))
