use Rattle.std.proofs.Common.{◌≡◌, drop}
use Rattle.ct_script.specs.Rules.{declared_blocks}
use Rattle.ct_top.proofs.served.declared_blocks.Given as goal

-- the lines before declare none
abbrev pub invariant-loop-line : goal.invariant-loop-line
invariant-loop-line l = declared_blocks (drop l.line-index l.lines) ≡ declared_blocks l.lines
