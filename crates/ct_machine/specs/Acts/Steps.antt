-- A command is stepped.
use Rattle.std.specs.Prelude.{ℕ, List, [], ◌∷◌, length, Bool, true, false, ◌&&◌, ◌==◌, if◌then◌else◌, Option, None, Some}
use Rattle.std.specs.List.{list_any}
use Rattle.ct_tmf.specs.declared.function.Ask.{Ask}
use Rattle.ct_matrix.specs.Queues.{blocker_of}
use Rattle.ct_book.specs.declared.event.Kind2.{Kind2}
use Rattle.ct_book.specs.declared.event.Kind2.TheVariants as kind
use Rattle.ct_exec.specs.Executions.{refusal_of, plan_in}
use Rattle.ct_machine.specs.declared.act.Answer.TheVariants as answer
use Rattle.ct_machine.specs.States.{Stage, Waiting, Here, Granted, There, Over, Task, Open, Message, State, held_of, task_set_of}
use Rattle.ct_machine.specs.Acts.Turns.{Turn}
use Rattle.ct_machine.specs.Acts.Moves.{moving}
use Rattle.ct_machine.specs.Acts.Begins.{beginning}
use Rattle.ct_machine.specs.Acts.Answers.{Done, unchanged, moved_answer}

-- for what a waiting command has to wait: for an open function, or for a command
abbrev pub blocked_by : List Open → State → Task → Option ℕ
blocked_by [] s task = blocker_of (task_set_of s) (held_of (length s.blocks) task)
blocked_by (function ∷ functions) s task = Some function.no

abbrev pub moved : Task → State → Turn → Done
moved task s turn = record { turn = turn; answer = moved_answer task.no s turn.journal }

abbrev pub beginning_unless : Option ℕ → Task → ℕ → Option ℕ → State → Done
beginning_unless (Some by) task count fault s = unchanged (answer.Blocked by) s
beginning_unless None task count fault s =
    moved task s (beginning (refusal_of s.control (length s.blocks) task.command) (plan_in (length s.blocks) task.command) task count fault s)

abbrev pub stepping_at : Stage → Task → ℕ → Option ℕ → State → Done
stepping_at Waiting task count fault s = beginning_unless (blocked_by s.functions s task) task count fault s
stepping_at (Here done got) task count fault s = moved task s (moving (Here done got) task count fault s)
stepping_at (There done got) task count fault s = moved task s (moving (There done got) task count fault s)
stepping_at Granted task count fault s = unchanged (answer.Away task.no) s
stepping_at Over task count fault s = unchanged (answer.Away task.no) s

abbrev pub is_ask : Kind2 → Bool
is_ask kind.Ask = true
is_ask _ = false

abbrev pub is_sent : ℕ → Message → Bool
is_sent number message = is_ask message.kind && (message.no == number)

-- no command of the task set has the number: it is on its way to A, or not live
abbrev pub stepping_none : ℕ → State → Done
stepping_none number s =
    if list_any (is_sent number) s.to_a then unchanged (answer.Away number) s
    else unchanged answer.Gone s

abbrev pub stepping : Option Task → ℕ → ℕ → Option ℕ → State → Done
stepping None number count fault s = stepping_none number s
stepping (Some task) number count fault s = stepping_at task.stage task count fault s
