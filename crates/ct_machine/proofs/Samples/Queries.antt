-- Queries find a live command of the asker, or none.
use Rattle.std.proofs.Common.{◌≡◌, List, [], ◌∷◌, refl}
use Rattle.ct_word.specs.declared.names.Ha.TheVariants as ha
use Rattle.ct_word.specs.declared.names.Node.TheVariants.{A}
use Rattle.ct_tmf.specs.declared.function.Function.TheVariants.{QueryTask, QueryTaskSet}
use Rattle.ct_tmf.specs.declared.function.Outcome.TheVariants.{Complete, Succeeded}
use Rattle.ct_book.specs.declared.event.Event.TheVariants as event
use Rattle.ct_machine.specs.declared.act.Answer.TheVariants as answer
use Rattle.ct_machine.specs.declared.act.Opening.{Opening}
use Rattle.ct_machine.specs.Runs.{Move}
use Rattle.ct_machine.proofs.Samples.Parts.{machine, unit_of, no_read, asks, next, shown, good, filled}

abbrev unit : Opening
unit = unit_of ha.None 16

abbrev queries_script : List Move
queries_script =
    no_read 8 A 0 1 ∷ asks 9 A 0 (QueryTask (record { 0 = 1 })) ∷ asks 10 A 0 (QueryTask (record { 0 = 2 }))
    ∷ asks 11 A 1 (QueryTask (record { 0 = 1 })) ∷ asks 12 A 0 QueryTaskSet ∷ next ∷ next ∷ []

queries : shown unit queries_script 2 ≡ record {
  events =
      event.Came 3 A 8 ∷ event.Enter 3 ∷ event.Came 4 A 9 ∷ event.Asked 4 ∷ event.Closed 4 Succeeded
      ∷ event.Came 5 A 10 ∷ event.Asked 5 ∷ event.Closed 5 Complete ∷ event.Came 6 A 11 ∷ event.Asked 6
      ∷ event.Closed 6 Complete ∷ event.Came 7 A 12 ∷ event.Asked 7 ∷ event.Closed 7 Succeeded ∷ event.Ended 3
      ∷ [];
  replies = good [] ∷ [];
  answers =
      answer.Queued 3 ∷ answer.Closed 4 Succeeded ∷ answer.Closed 5 Complete ∷ answer.Closed 6 Complete
      ∷ answer.Closed 7 Succeeded ∷ answer.Ended 3 8 ∷ answer.Idle ∷ [];
  blocks = filled 0 2;
  serial = filled 0 2;
}
unfolding machine
queries = refl
