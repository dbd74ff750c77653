-- A reset meets a write that ended at node B.
use Rattle.std.proofs.Common.{◌≡◌, List, [], ◌∷◌, ◌++◌, None, refl}
use Rattle.ct_word.specs.declared.names.Ha.TheVariants as ha
use Rattle.ct_word.specs.declared.names.Node.TheVariants.{A, B}
use Rattle.ct_tmf.specs.declared.function.Function.TheVariants.{LunReset}
use Rattle.ct_tmf.specs.declared.function.Outcome.TheVariants.{Complete}
use Rattle.ct_book.specs.declared.event.Event.TheVariants as event
use Rattle.ct_book.specs.declared.event.Kind2.TheVariants as kind
use Rattle.ct_machine.specs.declared.act.Answer.TheVariants as answer
use Rattle.ct_machine.specs.declared.act.Opening.{Opening}
use Rattle.ct_machine.specs.Runs.{Move}
use Rattle.ct_machine.proofs.Samples.Parts.{machine, unit_of, write, no_read, asks, step, deliver, next, shown, good, check, filled}

abbrev unit : Opening
unit = unit_of ha.Serialise 16

abbrev reset_after_finish_script : List Move
reset_after_finish_script =
    write 10 B 1 2 0 6 0x77 ∷ deliver A ∷ step 3 1 ∷ deliver B ∷ step 3 6 ∷ asks 15 A 0 LunReset ∷ deliver B
    ∷ deliver A ∷ no_read 18 A 0 2 ∷ next ∷ next ∷ []

reset_after_finish : shown unit reset_after_finish_script 7 ≡ record {
  events =
      event.Came 3 B 10 ∷ event.Deliver A kind.Ask 3 ∷ event.Enter 3 ∷ event.Granted 3
      ∷ event.Deliver B kind.Grant 3 ∷ event.Moved 3 6 ∷ event.Ended 3 ∷ event.Came 4 A 15 ∷ event.Asked 4
      ∷ event.Deliver B kind.Stop 3 ∷ event.Deliver A kind.Finish 3 ∷ event.Closed 4 Complete
      ∷ event.Came 5 A 18 ∷ event.Enter 5 ∷ event.Ended 5 ∷ [];
  replies = good [] ∷ check 6 0x29 0 None ∷ [];
  answers =
      answer.Sent 3 ∷ answer.Delivered kind.Ask 3 ∷ answer.Moved 3 ∷ answer.Delivered kind.Grant 3
      ∷ answer.Ended 3 10 ∷ answer.Open 4 ∷ answer.Delivered kind.Stop 3 ∷ answer.Delivered kind.Finish 3
      ∷ answer.Queued 5 ∷ answer.Ended 5 18 ∷ answer.Idle ∷ [];
  blocks = filled 0x77 6 ++ filled 0 1;
  serial = filled 0x77 6 ++ filled 0 1;
}
unfolding machine
reset_after_finish = refl
