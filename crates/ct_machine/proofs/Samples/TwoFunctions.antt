-- Two functions await one command at node B. The one with the lower number comes from B, and is taken up second; both
-- close in one act, the lower number first. Meanwhile nothing begins.
use Rattle.std.proofs.Common.{◌≡◌, List, [], ◌∷◌, ◌++◌, None, false, refl}
use Rattle.ct_word.specs.declared.names.Ha.TheVariants as ha
use Rattle.ct_word.specs.declared.names.Node.TheVariants.{A, B}
use Rattle.ct_tmf.specs.declared.function.Function.TheVariants.{LunReset}
use Rattle.ct_tmf.specs.declared.function.Outcome.TheVariants.{Complete}
use Rattle.ct_book.specs.declared.event.Event.TheVariants as event
use Rattle.ct_book.specs.declared.event.Kind2.TheVariants as kind
use Rattle.ct_book.specs.declared.event.Why.TheVariants.{By}
use Rattle.ct_machine.specs.declared.act.Answer.TheVariants as answer
use Rattle.ct_machine.specs.declared.act.Opening.{Opening}
use Rattle.ct_machine.specs.Runs.{Move}
use Rattle.ct_machine.proofs.Samples.Parts.{machine, unit_of, write, no_read, asks, step, deliver, next, shown, check, filled}

abbrev unit : Opening
unit = unit_of ha.Serialise 16

abbrev two_functions_script : List Move
two_functions_script =
    write 10 B 1 2 0 6 0x77 ∷ deliver A ∷ step 3 1 ∷ deliver B ∷ step 3 2 ∷ asks 15 B 1 LunReset ∷ asks 16 A 0 LunReset
    ∷ deliver A ∷ no_read 18 A 0 2 ∷ step 6 1 ∷ deliver B ∷ step 6 1 ∷ deliver A ∷ next ∷ next ∷ next ∷ []

two_functions : shown unit two_functions_script 3 ≡ record {
  events =
      event.Came 3 B 10 ∷ event.Deliver A kind.Ask 3 ∷ event.Enter 3 ∷ event.Granted 3
      ∷ event.Deliver B kind.Grant 3 ∷ event.Moved 3 2 ∷ event.Came 4 B 15 ∷ event.Came 5 A 16 ∷ event.Asked 5
      ∷ event.Deliver A kind.Function 4 ∷ event.Asked 4 ∷ event.Came 6 A 18 ∷ event.Enter 6
      ∷ event.Deliver B kind.Stop 3 ∷ event.Cut 3 2 (By 5) false ∷ event.Deliver A kind.Stopped 3
      ∷ event.Closed 4 Complete ∷ event.Closed 5 Complete ∷ event.Deliver B kind.Response 4 ∷ event.Ended 6 ∷ [];
  replies = check 6 0x29 0 None ∷ [];
  answers =
      answer.Sent 3 ∷ answer.Delivered kind.Ask 3 ∷ answer.Moved 3 ∷ answer.Delivered kind.Grant 3
      ∷ answer.Moved 3 ∷ answer.Sent 4 ∷ answer.Open 5 ∷ answer.Delivered kind.Function 4 ∷ answer.Queued 6
      ∷ answer.Blocked 4 ∷ answer.Delivered kind.Stop 3 ∷ answer.Blocked 4 ∷ answer.Delivered kind.Stopped 3
      ∷ answer.Delivered kind.Response 4 ∷ answer.Ended 6 18 ∷ answer.Idle ∷ [];
  blocks = filled 0x77 2 ++ filled 0 1;
  serial = filled 0x77 2 ++ filled 0 1;
}
unfolding machine
two_functions = refl
