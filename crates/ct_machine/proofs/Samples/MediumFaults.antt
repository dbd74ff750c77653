-- The medium fails an operation.
use Rattle.std.proofs.Common.{◌≡◌, List, [], ◌∷◌, ◌++◌, false, Some, refl}
use Rattle.ct_word.specs.declared.names.Ha.TheVariants as ha
use Rattle.ct_word.specs.declared.names.Node.TheVariants.{A, B}
use Rattle.ct_book.specs.declared.event.Event.TheVariants as event
use Rattle.ct_book.specs.declared.event.Kind2.TheVariants as kind
use Rattle.ct_book.specs.declared.event.Why.TheVariants.{Medium}
use Rattle.ct_machine.specs.declared.act.Answer.TheVariants as answer
use Rattle.ct_machine.specs.declared.act.Opening.{Opening}
use Rattle.ct_machine.specs.Runs.{Move}
use Rattle.ct_machine.proofs.Samples.Parts.{machine, unit_of, write, read, step, failing_step, deliver, next, shown, good, check, filled}

abbrev unit : Opening
unit = unit_of ha.Serialise 16

abbrev write_fails_script : List Move
write_fails_script = write 8 A 0 1 0 4 0xbb ∷ failing_step 3 65536 2 ∷ next ∷ []

write_fails : shown unit write_fails_script 3 ≡ record {
  events =
      event.Came 3 A 8 ∷ event.Enter 3 ∷ event.Begun 3 ∷ event.Moved 3 2 ∷ event.Cut 3 2 Medium false ∷ [];
  replies = check 3 0x0c 0 (Some 2) ∷ [];
  answers = answer.Queued 3 ∷ answer.Ended 3 8 ∷ answer.Idle ∷ [];
  blocks = filled 0xbb 2 ++ filled 0 1;
  serial = filled 0xbb 2 ++ filled 0 1;
}
unfolding machine
write_fails = refl

abbrev write_fails_later_script : List Move
write_fails_later_script = write 8 A 0 1 3 6 0xbb ∷ step 3 3 ∷ failing_step 3 2 1 ∷ next ∷ []

write_fails_later : shown unit write_fails_later_script 8 ≡ record {
  events =
      event.Came 3 A 8 ∷ event.Enter 3 ∷ event.Begun 3 ∷ event.Moved 3 3 ∷ event.Moved 3 1
      ∷ event.Cut 3 4 Medium false ∷ [];
  replies = check 3 0x0c 0 (Some 7) ∷ [];
  answers = answer.Queued 3 ∷ answer.Moved 3 ∷ answer.Ended 3 8 ∷ answer.Idle ∷ [];
  blocks = filled 0 3 ++ filled 0xbb 4 ++ filled 0 1;
  serial = filled 0 3 ++ filled 0xbb 4 ++ filled 0 1;
}
unfolding machine
write_fails_later = refl

abbrev first_fails_script : List Move
first_fails_script = write 8 A 0 1 3 6 0xbb ∷ failing_step 3 2 0 ∷ next ∷ []

first_fails : shown unit first_fails_script 4 ≡ record {
  events = event.Came 3 A 8 ∷ event.Enter 3 ∷ event.Begun 3 ∷ event.Cut 3 0 Medium false ∷ [];
  replies = check 3 0x0c 0 (Some 3) ∷ [];
  answers = answer.Queued 3 ∷ answer.Ended 3 8 ∷ answer.Idle ∷ [];
  blocks = filled 0 4;
  serial = filled 0 4;
}
unfolding machine
first_fails = refl

abbrev read_fails_script : List Move
read_fails_script = write 8 A 0 1 0 4 0xbb ∷ next ∷ read 9 A 0 1 2 4 ∷ failing_step 4 4 1 ∷ next ∷ []

read_fails : shown unit read_fails_script 5 ≡ record {
  events =
      event.Came 3 A 8 ∷ event.Enter 3 ∷ event.Begun 3 ∷ event.Moved 3 4 ∷ event.Ended 3 ∷ event.Came 4 A 9
      ∷ event.Enter 4 ∷ event.Begun 4 ∷ event.Moved 4 1 ∷ event.Cut 4 0 Medium false ∷ [];
  replies = good [] ∷ check 3 0x11 0 (Some 3) ∷ [];
  answers = answer.Queued 3 ∷ answer.Ended 3 8 ∷ answer.Queued 4 ∷ answer.Ended 4 9 ∷ answer.Idle ∷ [];
  blocks = filled 0xbb 4 ++ filled 0 1;
  serial = filled 0xbb 4 ++ filled 0 1;
}
unfolding machine
read_fails = refl

abbrev no_operation_fails_script : List Move
no_operation_fails_script = write 8 A 0 1 0 4 0xbb ∷ failing_step 3 2 2 ∷ failing_step 3 2 2 ∷ next ∷ []

no_operation_fails : shown unit no_operation_fails_script 5 ≡ record {
  events =
      event.Came 3 A 8 ∷ event.Enter 3 ∷ event.Begun 3 ∷ event.Moved 3 2 ∷ event.Moved 3 2 ∷ event.Ended 3
      ∷ [];
  replies = good [] ∷ [];
  answers = answer.Queued 3 ∷ answer.Moved 3 ∷ answer.Ended 3 8 ∷ answer.Idle ∷ [];
  blocks = filled 0xbb 4 ++ filled 0 1;
  serial = filled 0xbb 4 ++ filled 0 1;
}
unfolding machine
no_operation_fails = refl

abbrev fails_at_b_script : List Move
fails_at_b_script =
    write 10 B 1 2 0 6 0x77 ∷ deliver A ∷ step 3 1 ∷ deliver B ∷ failing_step 3 6 1 ∷ step 3 1 ∷ next ∷ next
    ∷ []

fails_at_b : shown unit fails_at_b_script 2 ≡ record {
  events =
      event.Came 3 B 10 ∷ event.Deliver A kind.Ask 3 ∷ event.Enter 3 ∷ event.Granted 3
      ∷ event.Deliver B kind.Grant 3 ∷ event.Moved 3 1 ∷ event.Cut 3 1 Medium false
      ∷ event.Deliver A kind.Finish 3 ∷ [];
  replies = check 3 0x0c 0 (Some 1) ∷ [];
  answers =
      answer.Sent 3 ∷ answer.Delivered kind.Ask 3 ∷ answer.Moved 3 ∷ answer.Delivered kind.Grant 3
      ∷ answer.Ended 3 10 ∷ answer.Away 3 ∷ answer.Delivered kind.Finish 3 ∷ answer.Idle ∷ [];
  blocks = filled 0x77 1 ++ filled 0 1;
  serial = filled 0x77 1 ++ filled 0 1;
}
unfolding machine
fails_at_b = refl
