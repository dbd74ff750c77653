-- A read that overlaps a begun write waits, and one that doesn't passes.
use Rattle.std.proofs.Common.{◌≡◌, List, [], ◌∷◌, ◌++◌, refl}
use Rattle.ct_word.specs.declared.names.Ha.TheVariants as ha
use Rattle.ct_word.specs.declared.names.Node.TheVariants.{A}
use Rattle.ct_book.specs.declared.event.Event.TheVariants as event
use Rattle.ct_machine.specs.declared.act.Answer.TheVariants as answer
use Rattle.ct_machine.specs.declared.act.Opening.{Opening}
use Rattle.ct_machine.specs.Runs.{Move}
use Rattle.ct_machine.proofs.Samples.Parts.{machine, unit_of, write, read, step, next, shown, good, bytes, filled}

abbrev unit : Opening
unit = unit_of ha.None 32

abbrev overlap_waits_script : List Move
overlap_waits_script =
    write 8 A 0 1 0 8 0x11 ∷ read 9 A 1 1 4 8 ∷ read 10 A 1 2 8 8 ∷ step 3 3 ∷ step 4 8 ∷ step 5 8 ∷ next
    ∷ next ∷ next ∷ []

overlap_waits : shown unit overlap_waits_script 9 ≡ record {
  events =
      event.Came 3 A 8 ∷ event.Enter 3 ∷ event.Came 4 A 9 ∷ event.Enter 4 ∷ event.Came 5 A 10 ∷ event.Enter 5
      ∷ event.Begun 3 ∷ event.Moved 3 3 ∷ event.Begun 5 ∷ event.Moved 5 8 ∷ event.Ended 5 ∷ event.Moved 3 5
      ∷ event.Ended 3 ∷ event.Begun 4 ∷ event.Moved 4 8 ∷ event.Ended 4 ∷ [];
  replies = good (bytes 0 8) ∷ good [] ∷ good (bytes 0x11 4 ++ bytes 0 4) ∷ [];
  answers =
      answer.Queued 3 ∷ answer.Queued 4 ∷ answer.Queued 5 ∷ answer.Moved 3 ∷ answer.Blocked 3
      ∷ answer.Ended 5 10 ∷ answer.Ended 3 8 ∷ answer.Ended 4 9 ∷ answer.Idle ∷ [];
  blocks = filled 0x11 8 ++ filled 0 1;
  serial = filled 0x11 8 ++ filled 0 1;
}
unfolding machine
overlap_waits = refl
