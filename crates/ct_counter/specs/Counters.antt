-- The steps of the counter.
use Rattle.std.specs.Prelude.{◌≡◌, ℕ, List, [], ◌∷◌, Option, Some, None, Bool, true, false}
use Rattle.ct_counter.specs.declared.counter.Event.{Event}
use Rattle.ct_counter.specs.declared.counter.Event.TheVariants as event
use Rattle.ct_counter.specs.declared.counter.Act.{Act}
use Rattle.ct_counter.specs.declared.counter.Act.TheVariants.{Come, Next}
use Rattle.ct_counter.specs.declared.counter.Answer.{Answer}
use Rattle.ct_counter.specs.declared.counter.Answer.TheVariants.{Queued, Ended, Idle}

-- the events that an act with this answer adds
abbrev pub events_of : Act → Answer → List Event
events_of (Come lane line) Queued = event.Came lane line ∷ []
events_of Next (Ended line) = event.Ended line ∷ []
events_of _ _ = []

abbrev pub Steps : ℕ → List Event → Act → Answer → List Event → Type 0
Steps opening journal act answer added = added ≡ events_of act answer

abbrev pub next_act : ℕ → Act
next_act blocks = Next

abbrev pub is_idle : Answer → Bool
is_idle Idle = true
is_idle _ = false

abbrev pub line_of : Answer → Option ℕ
line_of (Ended line) = Some line
line_of _ = None
