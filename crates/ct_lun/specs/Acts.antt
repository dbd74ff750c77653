-- What the machine does, at the slots of a unit.
use Rattle.std.specs.Prelude.{ℕ, length, Option}
use Rattle.ct_book.specs.Journals.{BookState}
use Rattle.ct_exec.specs.Executions.{refusal_of, plan_in}
use Rattle.ct_machine.specs.States.{task_of}
use Rattle.ct_machine.specs.Acts.Answers.{Done}
use Rattle.ct_machine.specs.Acts.Steps.{moved, stepping, stepping_at}
use Rattle.ct_machine.specs.Acts.Moves.{moving_from}
use Rattle.ct_machine.specs.Acts.Begins.{beginning}
use Rattle.ct_machine.specs.Acts.Next.{stepping_next, next_step}
use Rattle.ct_lun.specs.Desk.{Desk, slot_at}
use Rattle.ct_lun.specs.States.{task_in, state_of}

-- the command at a place, which began, goes on
abbrev pub going : Desk → BookState → ℕ → ℕ → Option ℕ → Done
going d p at count fault =
    let slot = slot_at d.slots at in
    moved (task_in p.works slot) (state_of d p) (moving_from (task_in p.works slot) count fault slot.task.done slot.task.body.items (state_of d p))

-- the command at a place, for which nothing makes it wait, begins
abbrev pub beginning_by : Desk → BookState → ℕ → ℕ → Option ℕ → Done
beginning_by d p at count fault =
    let task = task_in p.works (slot_at d.slots at) in
    moved task (state_of d p) (beginning (refusal_of d.control (length d.blocks) task.command) (plan_in (length d.blocks) task.command) task count fault (state_of d p))

-- a step of the command at a place, of one with a number, and of the one that comes next
abbrev pub stepping_by : Desk → BookState → ℕ → ℕ → Option ℕ → Done
stepping_by d p at count fault =
    let task = task_in p.works (slot_at d.slots at) in
    stepping_at task.stage task count fault (state_of d p)

abbrev pub step_of : Desk → BookState → ℕ → ℕ → Option ℕ → Done
step_of d p number count fault = stepping (task_of number (state_of d p).tasks) number count fault (state_of d p)

abbrev pub next_of : Desk → BookState → ℕ → Option ℕ → Done
next_of d p count fault = stepping_next (next_step (state_of d p)) count fault (state_of d p)
