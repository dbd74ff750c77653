-- Where TAS is 1, a command that another nexus aborts is told so, and one that its own nexus aborts isn't.
use Rattle.std.proofs.Common.{◌≡◌, List, [], ◌∷◌, true, false, refl}
use Rattle.ct_word.specs.declared.names.Ha.TheVariants as ha
use Rattle.ct_word.specs.declared.names.Node.TheVariants.{A}
use Rattle.ct_tmf.specs.declared.function.Function.TheVariants.{ClearTaskSet}
use Rattle.ct_tmf.specs.declared.function.Outcome.TheVariants.{Complete}
use Rattle.ct_book.specs.declared.event.Event.TheVariants as event
use Rattle.ct_book.specs.declared.event.Why.TheVariants.{By}
use Rattle.ct_machine.specs.declared.act.Answer.TheVariants as answer
use Rattle.ct_machine.specs.declared.act.Opening.{Opening}
use Rattle.ct_machine.specs.Runs.{Move}
use Rattle.ct_machine.proofs.Samples.Parts.{machine, unit_of, sets_tas, read, asks, next, shown, good, filled}

abbrev unit : Opening
unit = unit_of ha.None 16

abbrev told_cuts_script : List Move
told_cuts_script = sets_tas 8 ∷ next ∷ read 9 A 0 1 0 2 ∷ read 10 A 1 2 2 2 ∷ asks 11 A 0 ClearTaskSet ∷ next ∷ []

told_cuts : shown unit told_cuts_script 1 ≡ record {
  events =
      event.Came 3 A 8 ∷ event.Enter 3 ∷ event.Ended 3 ∷ event.Came 4 A 9 ∷ event.Enter 4 ∷ event.Came 5 A 10
      ∷ event.Enter 5 ∷ event.Came 6 A 11 ∷ event.Asked 6 ∷ event.Cut 4 0 (By 6) false ∷ event.Cut 5 0 (By 6) true
      ∷ event.Closed 6 Complete ∷ [];
  replies = good [] ∷ [];
  answers =
      answer.Queued 3 ∷ answer.Ended 3 8 ∷ answer.Queued 4 ∷ answer.Queued 5 ∷ answer.Closed 6 Complete
      ∷ answer.Idle ∷ [];
  blocks = filled 0 1;
  serial = filled 0 1;
}
unfolding machine
told_cuts = refl
