-- Stops to node B: of a command that waits at A, of one whose grant is on its way, and a function of B.
use Rattle.std.proofs.Common.{◌≡◌, List, [], ◌∷◌, false, None, refl}
use Rattle.ct_word.specs.declared.names.Ha.TheVariants as ha
use Rattle.ct_word.specs.declared.names.Node.TheVariants.{A, B}
use Rattle.ct_tmf.specs.declared.function.Function.TheVariants.{AbortTask, ClearTaskSet}
use Rattle.ct_tmf.specs.declared.function.Outcome.TheVariants.{Complete}
use Rattle.ct_book.specs.declared.event.Event.TheVariants as event
use Rattle.ct_book.specs.declared.event.Kind2.TheVariants as kind
use Rattle.ct_book.specs.declared.event.Why.TheVariants.{By}
use Rattle.ct_machine.specs.declared.act.Answer.TheVariants as answer
use Rattle.ct_machine.specs.declared.act.Opening.{Opening}
use Rattle.ct_machine.specs.Runs.{Move}
use Rattle.ct_machine.proofs.Samples.Parts.{machine, unit_of, write, asks, step, deliver, next, shown, check, filled}

abbrev unit : Opening
unit = unit_of ha.Serialise 16

abbrev stops_waiting_script : List Move
stops_waiting_script = write 10 B 1 2 0 2 0x77 ∷ deliver A ∷ asks 12 A 1 ClearTaskSet ∷ deliver B ∷ next ∷ []

stops_waiting : shown unit stops_waiting_script 1 ≡ record {
  events =
      event.Came 3 B 10 ∷ event.Deliver A kind.Ask 3 ∷ event.Enter 3 ∷ event.Came 4 A 12 ∷ event.Asked 4
      ∷ event.Cut 3 0 (By 4) false ∷ event.Closed 4 Complete ∷ event.Deliver B kind.Stop 3 ∷ [];
  replies = [];
  answers =
      answer.Sent 3 ∷ answer.Delivered kind.Ask 3 ∷ answer.Closed 4 Complete ∷ answer.Delivered kind.Stop 3
      ∷ answer.Idle ∷ [];
  blocks = filled 0 1;
  serial = filled 0 1;
}
unfolding machine
stops_waiting = refl

abbrev stops_on_the_way_script : List Move
stops_on_the_way_script =
    write 10 B 1 2 0 2 0x77 ∷ deliver A ∷ step 3 1 ∷ asks 13 B 1 (AbortTask (record { 0 = 2 })) ∷ deliver A
    ∷ deliver B ∷ deliver B ∷ deliver A ∷ deliver B ∷ next ∷ []

stops_on_the_way : shown unit stops_on_the_way_script 1 ≡ record {
  events =
      event.Came 3 B 10 ∷ event.Deliver A kind.Ask 3 ∷ event.Enter 3 ∷ event.Granted 3 ∷ event.Came 4 B 13
      ∷ event.Deliver A kind.Function 4 ∷ event.Asked 4 ∷ event.Deliver B kind.Grant 3
      ∷ event.Deliver B kind.Stop 3 ∷ event.Cut 3 0 (By 4) false ∷ event.Deliver A kind.Stopped 3
      ∷ event.Closed 4 Complete ∷ event.Deliver B kind.Response 4 ∷ [];
  replies = [];
  answers =
      answer.Sent 3 ∷ answer.Delivered kind.Ask 3 ∷ answer.Moved 3 ∷ answer.Sent 4
      ∷ answer.Delivered kind.Function 4 ∷ answer.Delivered kind.Grant 3 ∷ answer.Delivered kind.Stop 3
      ∷ answer.Delivered kind.Stopped 3 ∷ answer.Delivered kind.Response 4 ∷ answer.Idle ∷ [];
  blocks = filled 0 1;
  serial = filled 0 1;
}
unfolding machine
stops_on_the_way = refl

abbrev turned_at_b_script : List Move
turned_at_b_script = write 10 B 1 2 0 2 0x77 ∷ write 11 B 1 2 2 2 0x78 ∷ next ∷ next ∷ next ∷ next ∷ []

turned_at_b : shown unit turned_at_b_script 1 ≡ record {
  events =
      event.Came 3 B 10 ∷ event.Came 4 B 11 ∷ event.Deliver A kind.Ask 3 ∷ event.Enter 3
      ∷ event.Deliver A kind.Ask 4 ∷ event.Turned 4 ∷ event.Deliver B kind.Reply 4 ∷ event.Granted 3 ∷ [];
  replies = check 0xb 0x4e 0 None ∷ [];
  answers =
      answer.Sent 3 ∷ answer.Sent 4 ∷ answer.Delivered kind.Ask 3 ∷ answer.Delivered kind.Ask 4
      ∷ answer.Delivered kind.Reply 4 ∷ answer.Moved 3 ∷ [];
  blocks = filled 0 1;
  serial = filled 0 1;
}
unfolding machine
turned_at_b = refl
