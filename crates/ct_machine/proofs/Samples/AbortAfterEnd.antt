-- Functions about a command that ended, and about one that waits.
use Rattle.std.proofs.Common.{◌≡◌, List, [], ◌∷◌, false, refl}
use Rattle.ct_word.specs.declared.names.Ha.TheVariants as ha
use Rattle.ct_word.specs.declared.names.Node.TheVariants.{A}
use Rattle.ct_tmf.specs.declared.function.Function.TheVariants.{AbortTask, QueryTask}
use Rattle.ct_tmf.specs.declared.function.Outcome.TheVariants.{Complete}
use Rattle.ct_book.specs.declared.event.Event.TheVariants as event
use Rattle.ct_book.specs.declared.event.Why.TheVariants.{By}
use Rattle.ct_machine.specs.declared.act.Answer.TheVariants as answer
use Rattle.ct_machine.specs.declared.act.Opening.{Opening}
use Rattle.ct_machine.specs.Runs.{Move}
use Rattle.ct_machine.proofs.Samples.Parts.{machine, unit_of, no_read, asks, next, shown, good, filled}

abbrev unit : Opening
unit = unit_of ha.None 16

abbrev abort_after_end_script : List Move
abort_after_end_script =
    no_read 8 A 0 1 ∷ next ∷ next ∷ asks 10 A 0 (AbortTask (record { 0 = 1 }))
    ∷ asks 11 A 0 (QueryTask (record { 0 = 1 })) ∷ next ∷ []

abort_after_end : shown unit abort_after_end_script 2 ≡ record {
  events =
      event.Came 3 A 8 ∷ event.Enter 3 ∷ event.Ended 3 ∷ event.Came 4 A 10 ∷ event.Asked 4
      ∷ event.Closed 4 Complete ∷ event.Came 5 A 11 ∷ event.Asked 5 ∷ event.Closed 5 Complete ∷ [];
  replies = good [] ∷ [];
  answers =
      answer.Queued 3 ∷ answer.Ended 3 8 ∷ answer.Idle ∷ answer.Closed 4 Complete ∷ answer.Closed 5 Complete
      ∷ answer.Idle ∷ [];
  blocks = filled 0 2;
  serial = filled 0 2;
}
unfolding machine
abort_after_end = refl

abbrev abort_before_end_script : List Move
abort_before_end_script =
    no_read 8 A 0 1 ∷ asks 9 A 0 (AbortTask (record { 0 = 1 })) ∷ asks 10 A 0 (QueryTask (record { 0 = 1 }))
    ∷ next ∷ []

abort_before_end : shown unit abort_before_end_script 2 ≡ record {
  events =
      event.Came 3 A 8 ∷ event.Enter 3 ∷ event.Came 4 A 9 ∷ event.Asked 4 ∷ event.Cut 3 0 (By 4) false
      ∷ event.Closed 4 Complete ∷ event.Came 5 A 10 ∷ event.Asked 5 ∷ event.Closed 5 Complete ∷ [];
  replies = [];
  answers = answer.Queued 3 ∷ answer.Closed 4 Complete ∷ answer.Closed 5 Complete ∷ answer.Idle ∷ [];
  blocks = filled 0 2;
  serial = filled 0 2;
}
unfolding machine
abort_before_end = refl
