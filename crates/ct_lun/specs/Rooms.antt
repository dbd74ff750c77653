-- Room for events, as a number that falls with each act by as many events as it writes.
use Rattle.std.specs.Prelude.{ℕ, ◌+◌, ◌-◌, length}
use Rattle.std.specs.List.{sum_by}
use Rattle.ct_book.specs.Kept.{events_for}
use Rattle.ct_exec.specs.Executions.{plan_in}
use Rattle.ct_machine.specs.States.{Stage, Waiting, Here, Task, State}

-- the most events that a command of the task set can still cause, and more
abbrev pub room_at : Stage → ℕ → ℕ
room_at Waiting operations = operations + 4
room_at (Here done got) operations = operations - done + 3
room_at _ operations = operations + 4

abbrev pub task_room : ℕ → Task → ℕ
task_room blocks task = room_at task.stage (length (plan_in blocks task.command))

-- the room that a state asks for
unfoldable pub room_of : State → ℕ
room_of s = events_for s.room + sum_by (task_room (length s.blocks)) s.tasks
