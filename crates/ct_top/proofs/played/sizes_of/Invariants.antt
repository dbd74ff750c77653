use Rattle.std.proofs.Common.{◌≡◌, drop}
use Rattle.ct_top.specs.Commands.{declared_sizes}
use Rattle.ct_top.proofs.played.sizes_of.Given as goal

-- the lines before declare none
abbrev pub invariant-loop-line : goal.invariant-loop-line
invariant-loop-line l = declared_sizes (drop l.line-index l.lines) ≡ declared_sizes l.lines
