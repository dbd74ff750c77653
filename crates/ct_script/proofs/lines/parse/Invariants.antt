use Rattle.std.proofs.Common.{◌≡◌, ◌≤◌, ◌+◌, length}
use Rattle.ct_word.specs.declared.limit.TheConstants.{MOST_LINES}
use Rattle.ct_script.specs.Scripts.{lines_from, script_of}
use Rattle.ct_script.proofs.lines.parse.Given as goal

-- what the rest of the text makes of the lines so far is what the whole text says
abbrev pub invariant-loop-text : goal.invariant-loop-text
invariant-loop-text l = record {
  same : lines_from l.draft l.no l.texts ≡ script_of l.bytes;
  few : l.no ≤ MOST_LINES + 1;
  number : l.no ≡ length l.draft + 1;
}

abbrev pub decreases-loop-text : goal.decreases-loop-text
decreases-loop-text l = length l.texts
