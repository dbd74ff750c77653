use Rattle.std.proofs.Common.{◌≡◌, ◌+◌, ◌≤◌, All}
use Rattle.ct_work.specs.Jobs.{IsPaired, IsAllowed}
use Rattle.ct_counter.specs.Runs.{allows_all}
use Rattle.ct_counter.proofs.runs.lanes_of.Given as goal

abbrev pub invariant-loop-lane : goal.invariant-loop-lane
invariant-loop-lane l = record {
  turn : l.seat.turn ≡ l.initial.seat.turn;
  parts : l.initial.seat.parts ≤ l.seat.parts + l.lane;
  paired : All (λ x. IsPaired l.turns.items x.seats.items) l.lanes.items;
  allowed : All (λ x. All (λ j. IsAllowed allows_all x.seats.items j.turn j.act) x.jobs.items) l.lanes.items;
}
