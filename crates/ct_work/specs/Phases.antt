-- Lanes and workers before and after a phase.
use Rattle.std.specs.Prelude.{◌≡◌, ℕ, ◌<◌, List, [], All, length, slice_index_or}
use Rattle.ct_turn.specs.Seats.{SeatView}
use Rattle.ct_work.specs.declared.job.Lane.{Lane}
use Rattle.ct_work.specs.declared.job.Worker.{Worker}
use Rattle.ct_work.specs.Grown.{Grown}
use Rattle.ct_work.specs.Jobs.{GrownAll}

-- each seat made some acts, each of which meets p, and no other
pub record GrownBy {O A B E : Type 0} (p : A → Type 0) (old new : List (SeatView O E A B)) : Type 0 where
  pub same : length new ≡ length old
  pub each : (i : ℕ) (d : SeatView O E A B) → i < length old → (acts : List A) × Grown (slice_index_or old i d) acts (slice_index_or new i d) × All p acts

module _ {M O A B E : Type 0} where
  pub record LaneDone (old new : Lane M O A B E) : Type 0 where
    pub none_left : new.jobs.items ≡ []
    pub grown : GrownAll old.seats.items old.jobs.items new.seats.items

  pub record LanesDone (old new : List (Lane M O A B E)) : Type 0 where
    pub same : length new ≡ length old
    pub each : (i : ℕ) (d : Lane M O A B E) → i < length old → LaneDone (slice_index_or old i d) (slice_index_or new i d)

  pub record WorkerDone (next : A) (old new : Worker M O A B E) : Type 0 where
    pub grown : GrownBy (λ a. a ≡ next) old.seats.items new.seats.items

  pub record WorkersDone (next : A) (old new : List (Worker M O A B E)) : Type 0 where
    pub same : length new ≡ length old
    pub each : (i : ℕ) (d : Worker M O A B E) → i < length old → WorkerDone next (slice_index_or old i d) (slice_index_or new i d)
