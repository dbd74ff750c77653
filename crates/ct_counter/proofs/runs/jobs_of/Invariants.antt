use Rattle.std.proofs.Common.{◌≡◌, All}
use Rattle.ct_counter.proofs.runs.jobs_of.Given as goal

abbrev pub invariant-loop-number : goal.invariant-loop-number
invariant-loop-number l = All (λ j. j.turn ≡ 0) l.jobs.items
