use Rattle.std.proofs.Common.{◌≡◌, All, length}
use Rattle.ct_work.specs.Jobs.{IsPaired, IsAllowed}
use Rattle.ct_work.proofs.Rows.{GrownSo}
use Rattle.ct_work.proofs.lanes.run_jobs.Given as goal

abbrev pub invariant-loop-job : goal.invariant-loop-job
invariant-loop-job g l = record {
  paired : IsPaired l.turns.items l.seats.items;
  same : length l.seats.items ≡ length l.initial.seats.items;
  grown : GrownSo l.initial.seats.items l.seats.items l.initial.jobs.items l.jobs.items;
  allowed : All (λ j. IsAllowed g.M.Machine.allows l.seats.items j.turn j.act) l.jobs.items;
}

abbrev pub decreases-loop-job : goal.decreases-loop-job
decreases-loop-job g l = length l.jobs.items
