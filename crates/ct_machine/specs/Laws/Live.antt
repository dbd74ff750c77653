-- That a unit goes on, and when it rests.
use Rattle.std.specs.Prelude.{◌≡◌, ◌≢◌, ℕ, ◌-◌, ◌≤◌, List, [], Bool, true, false, ◌||◌, Option, is_some}
use Rattle.std.specs.List.{list_any}
use Rattle.ct_book.specs.declared.event.Logged.{Logged}
use Rattle.ct_machine.specs.declared.act.Act.{Act}
use Rattle.ct_machine.specs.declared.act.Act.TheVariants as act
use Rattle.ct_machine.specs.declared.act.Answer.{Answer}
use Rattle.ct_machine.specs.declared.act.Answer.TheVariants as answer
use Rattle.ct_machine.specs.declared.act.Opening.{Opening}
use Rattle.ct_machine.specs.States.{State, task_of}
use Rattle.ct_machine.specs.Acts.{act_of}
use Rattle.ct_machine.specs.Acts.Steps.{is_sent}
use Rattle.ct_machine.specs.Runs.{replay, IsAllowed}
use Rattle.ct_machine.specs.Laws.Journals.{has, is_entry, work_in}
use Rattle.ct_machine.specs.Laws.Once.{IsQuiet}

-- an answer by which nothing happened
abbrev pub is_void : Answer → Bool
is_void (answer.NoRoom came) = true
is_void (answer.Blocked number) = true
is_void (answer.Away number) = true
is_void answer.Gone = true
is_void answer.Nothing = true
is_void answer.Idle = true
is_void _ = false

-- `Next` does something, or nothing can be done next; it is never answered Blocked, Away, Gone or Nothing
abbrev pub NextDoesSomething : Opening → List Logged → Type 0
NextDoesSomething o journal =
    (count : ℕ) (fault : Option ℕ) → is_void (act_of (replay o journal) (act.Next count) fault).answer ≡ true →
    (act_of (replay o journal) (act.Next count) fault).answer ≡ answer.Idle

-- where nothing can be done next, nothing is live, no function is open, no message is on its way, and each work has its
-- entry
abbrev pub RestsQuietly : Opening → List Logged → Type 0
RestsQuietly o journal =
    (count : ℕ) (fault : Option ℕ) → (act_of (replay o journal) (act.Next count) fault).answer ≡ answer.Idle →
    IsQuiet (replay o journal) × ((number : ℕ) → is_some (work_in number journal) ≡ true → has (is_entry number) journal ≡ true)

-- a command is live that is in the task set, or on its way to A
abbrev pub IsLive : State → ℕ → Type 0
IsLive s number = (is_some (task_of number s.tasks) || list_any (is_sent number) s.to_a) ≡ true

-- in a state with a live command some act moves
abbrev pub NeverStops : Opening → List Logged → Type 0
NeverStops o journal =
    (number count : ℕ) (fault : Option ℕ) → IsLive (replay o journal) number → 1 ≤ count →
    (act_of (replay o journal) (act.Next count) fault).answer ≢ answer.Idle

-- an act by which something happened writes an event
abbrev pub ActsWrite : Opening → List Logged → Type 0
ActsWrite o journal =
    (done : Act) (fault : Option ℕ) → IsAllowed o done → is_void (act_of (replay o journal) done fault).answer ≡ false →
    (act_of (replay o journal) done fault).journal ≢ []
