use Rattle.std.proofs.Common.{◌≡◌, length, map, take}
use Rattle.ct_report.specs.ByteText.{alone_text}
use Rattle.ct_report.proofs.byte_print.alone_texts.Given as goal

-- the texts so far are those of the bytes so far
abbrev pub invariant-loop-place : goal.invariant-loop-place
invariant-loop-place l = record {
  long : length l.texts ≡ 8;
  so_far : take l.place l.texts ≡ map alone_text (take l.place l.bytes);
}
