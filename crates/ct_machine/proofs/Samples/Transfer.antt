-- In the mode of transfer a command of node B runs at A.
use Rattle.std.proofs.Common.{◌≡◌, List, [], ◌∷◌, ◌++◌, refl}
use Rattle.ct_word.specs.declared.names.Ha.TheVariants as ha
use Rattle.ct_word.specs.declared.names.Node.TheVariants.{A, B}
use Rattle.ct_book.specs.declared.event.Event.TheVariants as event
use Rattle.ct_book.specs.declared.event.Kind2.TheVariants as kind
use Rattle.ct_machine.specs.declared.act.Answer.TheVariants as answer
use Rattle.ct_machine.specs.declared.act.Opening.{Opening}
use Rattle.ct_machine.specs.Runs.{Move}
use Rattle.ct_machine.proofs.Samples.Parts.{machine, unit_of, write, read, step, deliver, next, shown, good, bytes, filled}

abbrev unit : Opening
unit = unit_of ha.Transfer 16

abbrev transfer_script : List Move
transfer_script =
    write 10 A 0 2 0 1 0x88 ∷ next ∷ next ∷ read 12 B 1 2 0 1 ∷ deliver B ∷ deliver A ∷ step 4 1 ∷ deliver B
    ∷ next ∷ []

transfer : shown unit transfer_script 2 ≡ record {
  events =
      event.Came 3 A 10 ∷ event.Enter 3 ∷ event.Begun 3 ∷ event.Moved 3 1 ∷ event.Ended 3 ∷ event.Came 4 B 12
      ∷ event.Deliver A kind.Ask 4 ∷ event.Enter 4 ∷ event.Begun 4 ∷ event.Moved 4 1 ∷ event.Ended 4
      ∷ event.Deliver B kind.Reply 4 ∷ [];
  replies = good [] ∷ good (bytes 0x88 1) ∷ [];
  answers =
      answer.Queued 3 ∷ answer.Ended 3 10 ∷ answer.Idle ∷ answer.Sent 4 ∷ answer.Nothing
      ∷ answer.Delivered kind.Ask 4 ∷ answer.Ended 4 12 ∷ answer.Delivered kind.Reply 4 ∷ answer.Idle ∷ [];
  blocks = filled 0x88 1 ++ filled 0 1;
  serial = filled 0x88 1 ++ filled 0 1;
}
unfolding machine
transfer = refl
