-- HEAD OF QUEUE commands go before those that wait, and wait for those that began and conflict.
use Rattle.std.proofs.Common.{◌≡◌, List, [], ◌∷◌, ◌++◌, take, refl}
use Rattle.ct_word.specs.declared.names.Ha.TheVariants as ha
use Rattle.ct_word.specs.declared.names.Node.TheVariants.{A}
use Rattle.ct_cdb.specs.declared.op.Attr2.TheVariants.{Ordered, Head}
use Rattle.ct_book.specs.declared.event.Event.TheVariants as event
use Rattle.ct_machine.specs.declared.act.Answer.TheVariants as answer
use Rattle.ct_machine.specs.declared.act.Opening.{Opening}
use Rattle.ct_machine.specs.Runs.{Move}
use Rattle.ct_machine.proofs.Samples.Parts.{machine, unit_of, command, comes, write10, read10, read, step, next, answers_behind, shown, queue_of, played, good, bytes, filled}

abbrev unit : Opening
unit = unit_of ha.None 40

abbrev head_of_queue_script : List Move
head_of_queue_script =
    read 8 A 0 1 0 8 ∷ comes A (command 9 A 0 2 Ordered (read10 0x10 8) []) ∷ read 10 A 0 3 0x20 8 ∷ step 3 2
    ∷ comes A (command 12 A 1 1 Head (write10 4 1) (bytes 0x22 1))
    ∷ comes A (command 13 A 1 2 Head (read10 8 1) []) ∷ next ∷ next ∷ next ∷ next ∷ next ∷ next ∷ []

head_of_queue : shown unit head_of_queue_script 6 ≡ record {
  events =
      event.Came 3 A 8 ∷ event.Enter 3 ∷ event.Came 4 A 9 ∷ event.Enter 4 ∷ event.Came 5 A 10 ∷ event.Enter 5
      ∷ event.Begun 3 ∷ event.Moved 3 2 ∷ event.Came 6 A 12 ∷ event.Enter 6 ∷ event.Came 7 A 13 ∷ event.Enter 7
      ∷ event.Begun 7 ∷ event.Moved 7 1 ∷ event.Ended 7 ∷ event.Moved 3 6 ∷ event.Ended 3 ∷ event.Begun 6
      ∷ event.Moved 6 1 ∷ event.Ended 6 ∷ event.Begun 4 ∷ event.Moved 4 8 ∷ event.Ended 4 ∷ event.Begun 5
      ∷ event.Moved 5 8 ∷ event.Ended 5 ∷ [];
  replies = good (bytes 0 1) ∷ good (bytes 0 8) ∷ good [] ∷ good (bytes 0 8) ∷ good (bytes 0 8) ∷ [];
  answers =
      answer.Queued 3 ∷ answer.Queued 4 ∷ answer.Queued 5 ∷ answer.Moved 3 ∷ answer.Queued 6 ∷ answer.Queued 7
      ∷ answer.Ended 7 13 ∷ answer.Ended 3 8 ∷ answer.Ended 6 12 ∷ answer.Ended 4 9 ∷ answer.Ended 5 10
      ∷ answer.Idle ∷ [];
  blocks = filled 0 4 ++ filled 0x22 1 ++ filled 0 1;
  serial = filled 0 4 ++ filled 0x22 1 ++ filled 0 1;
}
unfolding machine
head_of_queue = refl

head_of_queue-order : queue_of unit (take 6 head_of_queue_script) ≡ 3 ∷ 7 ∷ 6 ∷ 4 ∷ 5 ∷ []
unfolding machine
head_of_queue-order = refl

-- the write waits for the begun read, an ORDERED read waits for that one too, and all behind it wait
head_of_queue-waiting : answers_behind unit (played unit (take 6 head_of_queue_script)) (step 6 1 ∷ step 4 1 ∷ step 5 1 ∷ []) ≡
    answer.Blocked 3 ∷ answer.Blocked 3 ∷ answer.Blocked 7 ∷ []
unfolding machine
head_of_queue-waiting = refl
