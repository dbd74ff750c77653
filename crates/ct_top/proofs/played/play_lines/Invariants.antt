use Rattle.std.proofs.Common.{◌≡◌}
use Rattle.ct_script.specs.Rules.{AreInRange}
use Rattle.ct_top.specs.Played.{Point, point_of, ByLines}
use Rattle.ct_top.proofs.played.play_lines.Given as goal

-- what the lines that are left do from here on, all lines do from the start on
abbrev pub invariant-loop-line : goal.invariant-loop-line
invariant-loop-line g l = record {
  opening : l.pair.opening ≡ l.fn.pair.opening;
  in_range : AreInRange l.line-iterator.rest.items;
  done : (end : Point) → ByLines l.fn.pair.opening l.line-iterator.rest.items (point_of l.pair) end → ByLines l.fn.pair.opening l.fn.lines.items (point_of l.fn.pair) end;
}
