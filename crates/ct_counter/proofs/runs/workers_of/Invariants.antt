use Rattle.std.proofs.Common.{◌≡◌, ◌+◌, ◌≤◌, All}
use Rattle.ct_work.specs.Jobs.{IsPaired}
use Rattle.ct_counter.proofs.runs.workers_of.Given as goal

abbrev pub invariant-loop : goal.invariant-loop
invariant-loop l = record {
  turn : l.seat.turn ≡ l.initial.seat.turn;
  parts : l.initial.seat.parts ≤ l.seat.parts + l.counter;
  paired : All (λ w. IsPaired l.turns.items w.seats.items) l.workers.items;
}
