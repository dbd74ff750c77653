-- A command begins at A, is granted to B, and makes the next block operations of its plan.
use Rattle.std.specs.Prelude.{ℕ, ◌+◌, ◌-◌, List, length, take, drop, Option, None, Some}
use Rattle.ct_plan.specs.Cells.{Cells, after_all}
use Rattle.ct_book.specs.declared.event.Kind2.TheVariants as kind
use Rattle.ct_exec.specs.Executions.{plan_in}
use Rattle.ct_machine.specs.States.{Stage, Here, Granted, There, Task, State, task_of, with_task, at_stage}
use Rattle.ct_machine.specs.Events.Sends.{message, to_b}

abbrev pub staged : Stage → Option Task → State → State
staged stage None s = s
staged stage (Some task) s = record s { tasks = with_task (at_stage stage task) s.tasks }

abbrev pub after_granted : ℕ → State → State
after_granted number s = to_b (message kind.Grant number) (staged Granted (task_of number s.tasks) s)

-- a command moves: the next operations of its plan

abbrev pub cells_after : Task → ℕ → ℕ → List ℕ → State → Cells
cells_after task count done got s =
    after_all task.command.out (take count (drop done (plan_in (length s.blocks) task.command))) (record { blocks = s.blocks; got = got })

abbrev pub further : Stage → ℕ → List ℕ → Stage
further (There done got) done' got' = There done' got'
further _ done' got' = Here done' got'

abbrev pub moved_from : Task → ℕ → ℕ → List ℕ → State → State
moved_from task count done got s =
    let cells = cells_after task count done got s in
    record s { tasks = with_task (at_stage (further task.stage (done + count) cells.got) task) s.tasks; blocks = cells.blocks }

abbrev pub moved_at : Stage → Task → ℕ → State → State
moved_at (Here done got) task count s = moved_from task count done got s
moved_at (There done got) task count s = moved_from task count done got s
moved_at _ task count s = s

abbrev pub after_moved : Option Task → ℕ → State → State
after_moved None count s = s
after_moved (Some task) count s = moved_at task.stage task count s
