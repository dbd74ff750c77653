use Rattle.std.proofs.Common.{◌≡◌}
use Rattle.ct_work.specs.Jobs.{IsPaired}
use Rattle.ct_work.specs.Phases.{GrownBy}
use Rattle.ct_work.proofs.workers.pass.Given as goal

abbrev pub invariant-loop-index : goal.invariant-loop-index
invariant-loop-index g l = record {
  paired : IsPaired l.turns.items l.seats.items;
  grown : GrownBy (λ a. a ≡ g.M.Machine.next_act 8) l.initial.seats.items l.seats.items;
}
