-- Of 65 resets that meet a granted write the last is rejected.
use Rattle.std.proofs.Common.{◌≡◌, ℕ, zero, suc, ◌+◌, List, [], ◌∷◌, ◌++◌, false, refl}
use Rattle.ct_word.specs.declared.names.Ha.TheVariants as ha
use Rattle.ct_word.specs.declared.names.Node.TheVariants.{A, B}
use Rattle.ct_tmf.specs.declared.function.Function.TheVariants.{LunReset}
use Rattle.ct_tmf.specs.declared.function.Outcome.TheVariants.{Complete, Rejected}
use Rattle.ct_book.specs.declared.event.Event.TheVariants as event
use Rattle.ct_book.specs.declared.event.Kind2.TheVariants as kind
use Rattle.ct_book.specs.declared.event.Why.TheVariants.{By}
use Rattle.ct_machine.specs.declared.act.Answer.TheVariants as answer
use Rattle.ct_machine.specs.declared.act.Opening.{Opening}
use Rattle.ct_machine.specs.Runs.{Move}
use Rattle.ct_machine.proofs.Samples.Parts.{machine, unit_of, write, asks, step, deliver, next, shown, filled}

abbrev unit : Opening
unit = record (unit_of ha.Serialise 16) { room = record { commands = 3; functions = 65; pieces = 6 } }

-- so many works, by number or line from the first on, each in some way
abbrev each_from : {A : Type 0} → ℕ → ℕ → (ℕ → List A) → List A
each_from first zero parts = []
each_from first (suc count) parts = parts first ++ each_from (first + 1) count parts

abbrev script : List Move
script =
    write 10 B 1 2 0 6 0x77 ∷ deliver A ∷ step 3 1 ∷ deliver B ∷ step 3 2
    ∷ each_from 15 65 (λ line. asks line A 0 LunReset ∷ []) ++ next ∷ next ∷ next ∷ []

sixty_five_resets : shown unit script 3 ≡ record {
  events =
      event.Came 3 B 10 ∷ event.Deliver A kind.Ask 3 ∷ event.Enter 3 ∷ event.Granted 3 ∷ event.Deliver B kind.Grant 3 ∷ event.Moved 3 2
      ∷ each_from 4 64 (λ number. event.Came number A (number + 11) ∷ event.Asked number ∷ [])
      ++ event.Came 68 A 79 ∷ event.Closed 68 Rejected
      ∷ event.Deliver B kind.Stop 3 ∷ event.Cut 3 2 (By 4) false ∷ event.Deliver A kind.Stopped 3
      ∷ each_from 4 64 (λ number. event.Closed number Complete ∷ []);
  replies = [];
  answers =
      answer.Sent 3 ∷ answer.Delivered kind.Ask 3 ∷ answer.Moved 3 ∷ answer.Delivered kind.Grant 3 ∷ answer.Moved 3
      ∷ each_from 4 64 (λ number. answer.Open number ∷ [])
      ++ answer.Closed 68 Rejected ∷ answer.Delivered kind.Stop 3 ∷ answer.Delivered kind.Stopped 3 ∷ answer.Idle ∷ [];
  blocks = filled 0x77 2 ++ filled 0 1;
  serial = filled 0x77 2 ++ filled 0 1;
}
unfolding machine
sixty_five_resets = refl
