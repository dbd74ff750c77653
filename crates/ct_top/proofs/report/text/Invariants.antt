use Rattle.std.proofs.Common.{◌≡◌, ◌++◌, drop}
use Rattle.std.specs.Prelude.{codes}
use Rattle.ct_top.specs.Report.{units_text}
use Rattle.ct_top.proofs.report.text.Given as goal

-- the text so far and the units that are left are the whole text
abbrev pub invariant-loop-end : goal.invariant-loop-end
invariant-loop-end l = l.text.items ++ units_text (drop l.end-index l.ends) ≡ codes "report 1\n" ++ units_text l.ends
