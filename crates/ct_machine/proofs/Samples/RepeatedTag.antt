-- A command with the tag of a live one of its nexus is refused.
use Rattle.std.proofs.Common.{◌≡◌, List, [], ◌∷◌, None, refl}
use Rattle.ct_word.specs.declared.names.Ha.TheVariants as ha
use Rattle.ct_word.specs.declared.names.Node.TheVariants.{A}
use Rattle.ct_book.specs.declared.event.Event.TheVariants as event
use Rattle.ct_machine.specs.declared.act.Answer.TheVariants as answer
use Rattle.ct_machine.specs.declared.act.Opening.{Opening}
use Rattle.ct_machine.specs.Runs.{Move}
use Rattle.ct_machine.proofs.Samples.Parts.{machine, unit_of, no_read, next, shown, good, check, filled}

abbrev unit : Opening
unit = unit_of ha.None 16

abbrev repeated_tag_script : List Move
repeated_tag_script = no_read 8 A 0 1 ∷ no_read 9 A 0 1 ∷ next ∷ next ∷ no_read 11 A 0 1 ∷ next ∷ next ∷ []

repeated_tag : shown unit repeated_tag_script 2 ≡ record {
  events =
      event.Came 3 A 8 ∷ event.Enter 3 ∷ event.Came 4 A 9 ∷ event.Turned 4 ∷ event.Ended 3 ∷ event.Came 5 A 11
      ∷ event.Enter 5 ∷ event.Ended 5 ∷ [];
  replies = check 0xb 0x4e 0 None ∷ good [] ∷ good [] ∷ [];
  answers =
      answer.Queued 3 ∷ answer.Turned 4 ∷ answer.Ended 3 8 ∷ answer.Idle ∷ answer.Queued 5 ∷ answer.Ended 5 11
      ∷ answer.Idle ∷ [];
  blocks = filled 0 2;
  serial = filled 0 2;
}
unfolding machine
repeated_tag = refl
