-- The counter allows every act.
use Rattle.std.proofs.Common.{◌≡◌, ℕ, List, length, Option, Some, None, IfSome, All, arith}
use Rattle.ct_turn.specs.Seats.{SeatView}
use Rattle.ct_work.specs.declared.job.Job.{Job}
use Rattle.ct_work.specs.Jobs.{IsAllowed}
use Rattle.ct_counter.specs.declared.counter.Act.{Act}
use Rattle.ct_counter.specs.Runs.{allows_all}

anything : (x : Option ℕ) → IfSome x (λ o. Unit {0})
anything None = tt
anything (Some o) = tt

pub all_allowed : {M E B : Type 0} (seats : List (SeatView ℕ E Act B)) (jobs : List (Job M ℕ Act B E)) → length seats ≡ 1 → All (λ j. j.turn ≡ 0) jobs → All (λ j. IsAllowed allows_all seats j.turn j.act) jobs
all_allowed seats jobs one all k d h = (let e = all k d h in omega arith, λ other. anything _)
