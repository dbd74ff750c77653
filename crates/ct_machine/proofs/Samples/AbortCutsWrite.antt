-- ABORT TASK cuts a write in the middle.
use Rattle.std.proofs.Common.{◌≡◌, List, [], ◌∷◌, ◌++◌, false, refl}
use Rattle.ct_word.specs.declared.names.Ha.TheVariants as ha
use Rattle.ct_word.specs.declared.names.Node.TheVariants.{A}
use Rattle.ct_tmf.specs.declared.function.Function.TheVariants.{AbortTask}
use Rattle.ct_tmf.specs.declared.function.Outcome.TheVariants.{Complete}
use Rattle.ct_book.specs.declared.event.Event.TheVariants as event
use Rattle.ct_book.specs.declared.event.Why.TheVariants.{By}
use Rattle.ct_machine.specs.declared.act.Answer.TheVariants as answer
use Rattle.ct_machine.specs.declared.act.Opening.{Opening}
use Rattle.ct_machine.specs.Runs.{Move}
use Rattle.ct_machine.proofs.Samples.Parts.{machine, unit_of, write, read, asks, step, next, shown, good, bytes, filled}

abbrev unit : Opening
unit = unit_of ha.None 32

abbrev abort_cuts_write_script : List Move
abort_cuts_write_script =
    write 8 A 0 1 0 8 0x33 ∷ step 3 5 ∷ asks 10 A 0 (AbortTask (record { 0 = 1 })) ∷ read 11 A 0 2 0 8 ∷ next
    ∷ step 3 1 ∷ next ∷ []

abort_cuts_write : shown unit abort_cuts_write_script 6 ≡ record {
  events =
      event.Came 3 A 8 ∷ event.Enter 3 ∷ event.Begun 3 ∷ event.Moved 3 5 ∷ event.Came 4 A 10 ∷ event.Asked 4
      ∷ event.Cut 3 5 (By 4) false ∷ event.Closed 4 Complete ∷ event.Came 5 A 11 ∷ event.Enter 5
      ∷ event.Begun 5 ∷ event.Moved 5 8 ∷ event.Ended 5 ∷ [];
  replies = good (bytes 0x33 5 ++ bytes 0 3) ∷ [];
  answers =
      answer.Queued 3 ∷ answer.Moved 3 ∷ answer.Closed 4 Complete ∷ answer.Queued 5 ∷ answer.Ended 5 11
      ∷ answer.Gone ∷ answer.Idle ∷ [];
  blocks = filled 0x33 5 ++ filled 0 1;
  serial = filled 0x33 5 ++ filled 0 1;
}
unfolding machine
abort_cuts_write = refl
