-- A pair with room for one command, no function and no block operation.
use Rattle.std.proofs.Common.{◌≡◌, List, [], ◌∷◌, refl}
use Rattle.ct_word.specs.declared.names.Ha.TheVariants as ha
use Rattle.ct_word.specs.declared.names.Node.TheVariants.{A}
use Rattle.ct_cdb.specs.declared.op.Attr2.TheVariants.{Simple}
use Rattle.ct_tmf.specs.declared.function.Function.TheVariants.{LunReset}
use Rattle.ct_book.specs.declared.event.Event.TheVariants as event
use Rattle.ct_book.specs.Journals.{KeptWork}
use Rattle.ct_machine.specs.declared.act.Answer.TheVariants as answer
use Rattle.ct_machine.specs.declared.act.Opening.{Opening}
use Rattle.ct_machine.specs.Runs.{Move}
use Rattle.ct_machine.proofs.Samples.Parts.{machine, unit_of, command, function, comes, read10, read, step, next, shown, good, filled}

abbrev unit : Opening
unit = record (unit_of ha.None 16) { room = record { commands = 3; functions = 0; pieces = 0 } }

abbrev first : KeptWork
first = command 8 A 0 1 Simple (read10 0 0) []

abbrev second : KeptWork
second = command 9 A 0 2 Simple (read10 0 0) []

abbrev asked : KeptWork
asked = function 10 A 0 LunReset

abbrev small_room_script : List Move
small_room_script = comes A first ∷ comes A second ∷ comes A asked ∷ step 4 1 ∷ step 3 1 ∷ next ∷ []

small_room : shown unit small_room_script 1 ≡ record {
  events = event.Came 3 A 8 ∷ event.Enter 3 ∷ event.Ended 3 ∷ [];
  replies = good [] ∷ [];
  answers =
      answer.Queued 3 ∷ answer.NoRoom second ∷ answer.NoRoom asked ∷ answer.Gone ∷ answer.Ended 3 8
      ∷ answer.Idle ∷ [];
  blocks = filled 0 1;
  serial = filled 0 1;
}
unfolding machine
small_room = refl

abbrev no_pieces_script : List Move
no_pieces_script = read 8 A 0 1 0 1 ∷ []

no_pieces : shown unit no_pieces_script 1 ≡ record {
  events = [];
  replies = [];
  answers = answer.NoRoom (command 8 A 0 1 Simple (read10 0 1) []) ∷ [];
  blocks = filled 0 1;
  serial = filled 0 1;
}
unfolding machine
no_pieces = refl
