-- BUSY where the pool has too few blocks, TASK SET FULL where the task set holds all it can.
use Rattle.std.proofs.Common.{◌≡◌, List, [], ◌∷◌, refl}
use Rattle.ct_word.specs.declared.names.Ha.TheVariants as ha
use Rattle.ct_word.specs.declared.names.Node.TheVariants.{A}
use Rattle.ct_sense.specs.declared.reply.Status.TheVariants.{Busy, TaskSetFull}
use Rattle.ct_book.specs.declared.event.Event.TheVariants as event
use Rattle.ct_machine.specs.declared.act.Answer.TheVariants as answer
use Rattle.ct_machine.specs.declared.act.Opening.{Opening}
use Rattle.ct_machine.specs.Runs.{Move}
use Rattle.ct_machine.proofs.Samples.Parts.{machine, unit_of, read, no_read, next, shown, good, with_status, bytes, filled}

abbrev unit : Opening
unit = record (unit_of ha.None 16) { depth = 2; pool = 4 }

abbrev busy_and_full_script : List Move
busy_and_full_script =
    read 8 A 0 1 0 4 ∷ read 9 A 0 2 0 1 ∷ no_read 10 A 0 3 ∷ no_read 11 A 0 4 ∷ next ∷ next ∷ next
    ∷ read 13 A 0 5 0 5 ∷ next ∷ []

busy_and_full : shown unit busy_and_full_script 2 ≡ record {
  events =
      event.Came 3 A 8 ∷ event.Enter 3 ∷ event.Came 4 A 9 ∷ event.Turned 4 ∷ event.Came 5 A 10 ∷ event.Enter 5
      ∷ event.Came 6 A 11 ∷ event.Turned 6 ∷ event.Begun 3 ∷ event.Moved 3 4 ∷ event.Ended 3 ∷ event.Ended 5
      ∷ event.Came 7 A 13 ∷ event.Turned 7 ∷ [];
  replies = with_status Busy ∷ with_status TaskSetFull ∷ good (bytes 0 4) ∷ good [] ∷ with_status Busy ∷ [];
  answers =
      answer.Queued 3 ∷ answer.Turned 4 ∷ answer.Queued 5 ∷ answer.Turned 6 ∷ answer.Ended 3 8
      ∷ answer.Ended 5 10 ∷ answer.Idle ∷ answer.Turned 7 ∷ answer.Idle ∷ [];
  blocks = filled 0 2;
  serial = filled 0 2;
}
unfolding machine
busy_and_full = refl
