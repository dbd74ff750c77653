-- The report of what was played.
use Rattle.std.specs.Prelude.{ℕ, List, [], ◌∷◌, ◌++◌, codes}
use Rattle.ct_report.specs.UnitText.{unit_text}
use Rattle.ct_top.specs.declared.report.UnitEnd.{UnitEnd}

-- the text of each logical unit, in order
abbrev pub units_text : List UnitEnd → List ℕ
units_text [] = []
units_text (end ∷ ends) = unit_text end.lun end.book.journal end.disk ++ units_text ends

unfoldable pub report_text : List UnitEnd → List ℕ
report_text ends = codes "report 1\n" ++ units_text ends ++ codes "done\n"
