-- How far a command came by some operations.
use Rattle.std.specs.Prelude.{Option, None, Some}
use Rattle.ct_plan.specs.declared.task.PieceEnd.{PieceEnd}
use Rattle.ct_plan.specs.declared.task.PieceEnd.TheVariants.{All, Miscompare, ReadFault, WriteFault}
use Rattle.ct_lun.specs.declared.said.Reached.{Reached}
use Rattle.ct_lun.specs.declared.said.Reached.TheVariants as reached

abbrev pub reached_by : Option PieceEnd → Reached
reached_by None = reached.Part
reached_by (Some All) = reached.End
reached_by (Some (Miscompare offset)) = reached.Differs offset
reached_by (Some (ReadFault lba)) = reached.Fault
reached_by (Some (WriteFault lba)) = reached.Fault
