use Rattle.ct_script.proofs.Saying.{line_says}
use Rattle.ct_script.proofs.lines.parse.Goals as goal

pub push-requires-clause-faultless : goal.push-requires-clause-faultless
push-requires-clause-faultless c = (
  c.in-Some.text.now,
  line_says c.loop-text.draft c.loop-text.no c.in-Some.text.now c.in_ok-line.line c.loop-text.invariant.number c.in_ok-line.ensures.line,
)
