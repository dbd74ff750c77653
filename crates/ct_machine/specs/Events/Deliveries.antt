-- A message comes.
use Rattle.std.specs.Prelude.{ℕ, ◌-◌, [], drop, map, not, ◌==◌, Option, None, Some}
use Rattle.std.specs.List.{filter}
use Rattle.ct_word.specs.declared.names.Node.{Node}
use Rattle.ct_word.specs.declared.names.Node.TheVariants.{A, B}
use Rattle.ct_book.specs.declared.event.Kind2.{Kind2}
use Rattle.ct_book.specs.declared.event.Kind2.TheVariants as kind
use Rattle.ct_machine.specs.States.{Stage, Granted, There, Task, Open, State, task_of, without_task, with_task, at_stage}
use Rattle.ct_machine.specs.Events.Sends.{to_a, to_b}

abbrev pub awaits_no_more : ℕ → Open → Open
awaits_no_more number function = record function { awaits = filter (λ awaited. not (awaited == number)) function.awaits }

-- a command that is over at B leaves the task set, and no function awaits it
abbrev pub is_over : ℕ → State → State
is_over number s = record s { tasks = without_task number s.tasks; functions = map (awaits_no_more number) s.functions }

abbrev pub came_to_a : Kind2 → ℕ → State → State
came_to_a kind.Finish number s = is_over number s
came_to_a kind.Stopped number s = is_over number s
came_to_a _ number s = s

-- a granted command begins at B
abbrev pub begun_at_b : Stage → Task → State → State
begun_at_b Granted task s = record s { tasks = with_task (at_stage (There 0 []) task) s.tasks }
begun_at_b _ task s = s

abbrev pub after_grant : Option Task → State → State
after_grant None s = s
after_grant (Some task) s = begun_at_b task.stage task s

abbrev pub came_to_b : Kind2 → ℕ → State → State
came_to_b kind.Grant number s = after_grant (task_of number s.tasks) s
came_to_b _ number s = s

abbrev pub after_deliver : Node → Kind2 → ℕ → State → State
after_deliver A kind number s = came_to_a kind number (record s { to_a = drop 1 s.to_a })
after_deliver B kind number s = came_to_b kind number (record s { to_b = drop 1 s.to_b })
