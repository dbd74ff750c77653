-- PREEMPT AND ABORT cuts what the removed nexus has in the task set, in queue order, and nothing else.
use Rattle.std.proofs.Common.{◌≡◌, List, [], ◌∷◌, true, false, None, refl}
use Rattle.ct_word.specs.declared.names.Ha.TheVariants as ha
use Rattle.ct_word.specs.declared.names.Node.TheVariants.{A}
use Rattle.ct_sense.specs.declared.reply.Status.TheVariants.{ReservationConflict}
use Rattle.ct_book.specs.declared.event.Event.TheVariants as event
use Rattle.ct_book.specs.declared.event.Why.TheVariants.{By}
use Rattle.ct_machine.specs.declared.act.Answer.TheVariants as answer
use Rattle.ct_machine.specs.declared.act.Opening.{Opening}
use Rattle.ct_machine.specs.Runs.{Move}
use Rattle.ct_machine.proofs.Samples.Parts.{machine, unit_of, preempted, aborts, sets_tas, write, read, no_read, next}
use Rattle.ct_machine.proofs.Samples.Parts.{shown, good, check, with_status, filled}

abbrev unit : Opening
unit = unit_of ha.None 16

-- the next command of the other initiator waits for PREEMPT AND ABORT, as the ones behind it do
abbrev preempt_and_abort_script : List Move
preempt_and_abort_script =
    preempted (aborts 14 ∷ read 15 A 1 2 0 1 ∷ no_read 16 A 0 4 ∷ read 17 A 1 3 1 1 ∷ next ∷ next ∷ next ∷ [])

preempt_and_abort : shown unit preempt_and_abort_script 1 ≡ record {
  events =
      event.Came 3 A 8 ∷ event.Enter 3 ∷ event.Came 4 A 9 ∷ event.Enter 4 ∷ event.Came 5 A 10 ∷ event.Enter 5
      ∷ event.Ended 3 ∷ event.Ended 4 ∷ event.Ended 5 ∷ event.Came 6 A 14 ∷ event.Enter 6 ∷ event.Came 7 A 15
      ∷ event.Enter 7 ∷ event.Came 8 A 16 ∷ event.Enter 8 ∷ event.Came 9 A 17 ∷ event.Enter 9 ∷ event.Ended 6
      ∷ event.Cut 7 0 (By 6) false ∷ event.Cut 9 0 (By 6) false ∷ event.Ended 8 ∷ [];
  replies = good [] ∷ good [] ∷ good [] ∷ good [] ∷ good [] ∷ [];
  answers =
      answer.Queued 3 ∷ answer.Queued 4 ∷ answer.Queued 5 ∷ answer.Ended 3 8 ∷ answer.Ended 4 9
      ∷ answer.Ended 5 10 ∷ answer.Queued 6 ∷ answer.Queued 7 ∷ answer.Queued 8 ∷ answer.Queued 9
      ∷ answer.Ended 6 14 ∷ answer.Ended 8 16 ∷ answer.Idle ∷ [];
  blocks = filled 0 1;
  serial = filled 0 1;
}
unfolding machine
preempt_and_abort = refl

-- with TAS 1 the initiators are told; behind it a write of the removed nexus conflicts with the reservation, once its
-- unit attentions are taken
abbrev told_script : List Move
told_script =
    preempted (sets_tas 14 ∷ next ∷ aborts 16 ∷ read 17 A 1 2 0 1 ∷ next ∷ no_read 19 A 1 3 ∷ next ∷ no_read 21 A 1 4
    ∷ next ∷ write 23 A 1 5 0 1 0x11 ∷ next ∷ [])

told : shown unit told_script 1 ≡ record {
  events =
      event.Came 3 A 8 ∷ event.Enter 3 ∷ event.Came 4 A 9 ∷ event.Enter 4 ∷ event.Came 5 A 10 ∷ event.Enter 5
      ∷ event.Ended 3 ∷ event.Ended 4 ∷ event.Ended 5 ∷ event.Came 6 A 14 ∷ event.Enter 6 ∷ event.Ended 6
      ∷ event.Came 7 A 16 ∷ event.Enter 7 ∷ event.Came 8 A 17 ∷ event.Enter 8 ∷ event.Ended 7
      ∷ event.Cut 8 0 (By 7) true ∷ event.Came 9 A 19 ∷ event.Enter 9 ∷ event.Ended 9 ∷ event.Came 10 A 21
      ∷ event.Enter 10 ∷ event.Ended 10 ∷ event.Came 11 A 23 ∷ event.Enter 11 ∷ event.Ended 11 ∷ [];
  replies =
      good [] ∷ good [] ∷ good [] ∷ good [] ∷ good [] ∷ check 6 0x2a 1 None ∷ check 6 0x2a 5 None
      ∷ with_status ReservationConflict ∷ [];
  answers =
      answer.Queued 3 ∷ answer.Queued 4 ∷ answer.Queued 5 ∷ answer.Ended 3 8 ∷ answer.Ended 4 9
      ∷ answer.Ended 5 10 ∷ answer.Queued 6 ∷ answer.Ended 6 14 ∷ answer.Queued 7 ∷ answer.Queued 8
      ∷ answer.Ended 7 16 ∷ answer.Queued 9 ∷ answer.Ended 9 19 ∷ answer.Queued 10 ∷ answer.Ended 10 21
      ∷ answer.Queued 11 ∷ answer.Ended 11 23 ∷ [];
  blocks = filled 0 1;
  serial = filled 0 1;
}
unfolding machine
told = refl
