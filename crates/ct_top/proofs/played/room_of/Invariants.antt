use Rattle.std.proofs.Common.{◌≡◌, ◌+◌, drop}
use Rattle.std.specs.Prelude.{sum_by, count_by}
use Rattle.ct_script.specs.Rules.{is_command, is_task}
use Rattle.ct_top.specs.Commands.{pieces_in}
use Rattle.ct_top.proofs.Ranges.{Few}
use Rattle.ct_top.proofs.played.room_of.Given as goal

-- what was counted so far and what is left are what all lines take, which is bounded
abbrev pub invariant-loop-line : goal.invariant-loop-line
invariant-loop-line l = record {
  commands : l.commands + count_by is_command (drop l.line-index l.lines) ≡ count_by is_command l.lines;
  functions : l.functions + count_by is_task (drop l.line-index l.lines) ≡ count_by is_task l.lines;
  pieces : l.pieces + sum_by (pieces_in l.blocks) (drop l.line-index l.lines) ≡ sum_by (pieces_in l.blocks) l.lines;
  few : Few l.blocks l.lines;
}
