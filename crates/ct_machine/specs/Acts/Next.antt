-- What can be done next: a delivery, a step of the first command that is ready, or else of the first that can move.
use Rattle.std.specs.Prelude.{ℕ, List, [], ◌∷◌, Option, None, Some, option_map}
use Rattle.std.specs.List.{find}
use Rattle.ct_word.specs.declared.names.Node.TheVariants.{A, B}
use Rattle.ct_matrix.specs.Queues.{next_ready_of}
use Rattle.ct_machine.specs.declared.act.Answer.TheVariants as answer
use Rattle.ct_machine.specs.States.{Task, Message, State, task_of, is_moving, task_set_of}
use Rattle.ct_machine.specs.Acts.Answers.{Done, unchanged, first_some}
use Rattle.ct_machine.specs.Acts.Steps.{stepping}
use Rattle.ct_machine.specs.Acts.Messages.{delivering}

abbrev pub first_moving : List Task → Option ℕ
first_moving tasks = option_map (λ (task : Task). task.no) (find (λ (task : Task). is_moving task.stage) tasks)

abbrev pub next_step : State → Option ℕ
next_step s = first_some (next_ready_of (task_set_of s)) (first_moving s.tasks)

abbrev pub stepping_next : Option ℕ → ℕ → Option ℕ → State → Done
stepping_next None count fault s = unchanged answer.Idle s
stepping_next (Some number) count fault s = stepping (task_of number s.tasks) number count fault s

abbrev pub doing_next : List Message → List Message → ℕ → Option ℕ → State → Done
doing_next (message ∷ messages) to_b count fault s = delivering A s
doing_next [] (message ∷ messages) count fault s = delivering B s
doing_next [] [] count fault s = stepping_next (next_step s) count fault s
