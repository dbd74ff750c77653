-- CLEAR TASK SET cuts another nexus's commands, and ABORT TASK SET and I_T NEXUS RESET the asker's.
use Rattle.std.proofs.Common.{◌≡◌, List, [], ◌∷◌, ◌++◌, false, refl}
use Rattle.ct_word.specs.declared.names.Ha.TheVariants as ha
use Rattle.ct_word.specs.declared.names.Node.TheVariants.{A}
use Rattle.ct_tmf.specs.declared.function.Function.TheVariants.{AbortTaskSet, ClearTaskSet, NexusReset}
use Rattle.ct_tmf.specs.declared.function.Outcome.TheVariants.{Complete}
use Rattle.ct_book.specs.declared.event.Event.TheVariants as event
use Rattle.ct_book.specs.declared.event.Why.TheVariants.{By}
use Rattle.ct_machine.specs.declared.act.Answer.TheVariants as answer
use Rattle.ct_machine.specs.declared.act.Opening.{Opening}
use Rattle.ct_machine.specs.Runs.{Move}
use Rattle.ct_machine.proofs.Samples.Parts.{machine, unit_of, write, read, asks, step, next, shown, filled}

abbrev unit : Opening
unit = unit_of ha.None 16

abbrev clear_task_set_script : List Move
clear_task_set_script = write 8 A 1 3 0 4 0x44 ∷ read 9 A 0 1 8 1 ∷ step 3 1 ∷ asks 11 A 0 ClearTaskSet ∷ next ∷ []

clear_task_set : shown unit clear_task_set_script 2 ≡ record {
  events =
      event.Came 3 A 8 ∷ event.Enter 3 ∷ event.Came 4 A 9 ∷ event.Enter 4 ∷ event.Begun 3 ∷ event.Moved 3 1
      ∷ event.Came 5 A 11 ∷ event.Asked 5 ∷ event.Cut 3 1 (By 5) false ∷ event.Cut 4 0 (By 5) false
      ∷ event.Closed 5 Complete ∷ [];
  replies = [];
  answers =
      answer.Queued 3 ∷ answer.Queued 4 ∷ answer.Moved 3 ∷ answer.Closed 5 Complete ∷ answer.Idle ∷ [];
  blocks = filled 0x44 1 ++ filled 0 1;
  serial = filled 0x44 1 ++ filled 0 1;
}
unfolding machine
clear_task_set = refl

abbrev abort_task_set_script : List Move
abort_task_set_script =
    write 8 A 1 3 0 4 0x44 ∷ read 9 A 0 1 8 1 ∷ step 3 1 ∷ asks 11 A 0 AbortTaskSet ∷ asks 12 A 1 NexusReset
    ∷ next ∷ []

abort_task_set : shown unit abort_task_set_script 2 ≡ record {
  events =
      event.Came 3 A 8 ∷ event.Enter 3 ∷ event.Came 4 A 9 ∷ event.Enter 4 ∷ event.Begun 3 ∷ event.Moved 3 1
      ∷ event.Came 5 A 11 ∷ event.Asked 5 ∷ event.Cut 4 0 (By 5) false ∷ event.Closed 5 Complete
      ∷ event.Came 6 A 12 ∷ event.Asked 6 ∷ event.Cut 3 1 (By 6) false ∷ event.Closed 6 Complete ∷ [];
  replies = [];
  answers =
      answer.Queued 3 ∷ answer.Queued 4 ∷ answer.Moved 3 ∷ answer.Closed 5 Complete ∷ answer.Closed 6 Complete
      ∷ answer.Idle ∷ [];
  blocks = filled 0x44 1 ++ filled 0 1;
  serial = filled 0x44 1 ++ filled 0 1;
}
unfolding machine
abort_task_set = refl
