-- For which command a waiting one waits.
use Rattle.std.proofs.Common.{◌≡◌, ℕ, List, [], ◌∷◌, ◌++◌, Bool, true, false, ◌==◌, inl, inr, Option, Some, IsNone, if◌then◌else◌, refl, sym, ◌∙◌, arith}
use Rattle.std.specs.List.{find}
use Rattle.std.specs.Option.{option_or}
use Rattle.std.proofs.lemmas.Bool.{cases_Bool, false≢true}
use Rattle.std.proofs.lemmas.Bool.Decides.{nat_tests}
use Rattle.ct_matrix.specs.declared.held.HeldCommand.{HeldCommand}
use Rattle.ct_matrix.specs.Conflicts.{has_to_wait}
use Rattle.ct_matrix.specs.Queues.{TaskSet, Stands, command_of, blocker_of, first_to_wait_for, first_waited_for, number_of}

pub when-true : {A : Type 0} (test : Bool) (x y : A) → test ≡ true → (if test then x else y) ≡ x
when-true true x y h = refl
when-true false x y h = absurd (false≢true h)

pub when-false : {A : Type 0} (test : Bool) (x y : A) → test ≡ false → (if test then x else y) ≡ y
when-false true x y h = absurd (false≢true (sym h))
when-false false x y h = refl

-- no command has a number that none has of the first and the rest
apart : (number : ℕ) (c : HeldCommand) (cs : List HeldCommand) → IsNone (command_of number (c ∷ cs)) → ((c.no == number) ≡ false) × IsNone (command_of number cs)
apart number c cs absent =
    elim (cases_Bool (c.no == number)) [
      | inl here ↦ absurd (false≢true (sym (rw here at absent)))
      | inr other ↦ (other, rw other at absent)
    ]

-- among commands of other numbers, a step of the search
step : (unrestricted ahead : Bool) (waiting c : HeldCommand) (cs : List HeldCommand) → (c.no == waiting.no) ≡ false
    → first_to_wait_for unrestricted ahead waiting (c ∷ cs) ≡ (if has_to_wait unrestricted ahead c.held waiting.held then Some c.no else first_to_wait_for unrestricted ahead waiting cs)
step unrestricted ahead waiting c cs other =
    when-false (c.no == waiting.no) (first_to_wait_for unrestricted false waiting cs)
    (if has_to_wait unrestricted ahead c.held waiting.held then Some c.no else first_to_wait_for unrestricted ahead waiting cs) other

found_behind : (waits : Bool) (c : HeldCommand) (answer : Option ℕ) (rest : Option HeldCommand) → answer ≡ number_of rest → (if waits then Some c.no else answer) ≡ number_of (if waits then Some c else rest)
found_behind true c answer rest same = refl
found_behind false c answer rest same = same

found_among : (waits : Bool) (c : HeldCommand) (answer : Option ℕ) (rest : Option HeldCommand) (other : Option ℕ) → answer ≡ option_or (number_of rest) other
    → (if waits then Some c.no else answer) ≡ option_or (number_of (if waits then Some c else rest)) other
found_among true c answer rest other same = refl
found_among false c answer rest other same = same

behind_is : (unrestricted : Bool) (waiting : HeldCommand) (behind : List HeldCommand) → IsNone (command_of waiting.no behind)
    → first_to_wait_for unrestricted false waiting behind ≡ first_waited_for unrestricted false waiting behind
behind_is unrestricted waiting [] absent = refl
behind_is unrestricted waiting (c ∷ cs) absent =
    let parts = apart waiting.no c cs absent in
    step unrestricted false waiting c cs parts.0
    ∙ found_behind (has_to_wait unrestricted false c.held waiting.held) c (first_to_wait_for unrestricted false waiting cs)
    (find (λ (command : HeldCommand). has_to_wait unrestricted false command.held waiting.held) cs) (behind_is unrestricted waiting cs parts.1)

among : (unrestricted : Bool) (waiting : HeldCommand) (ahead behind : List HeldCommand) → IsNone (command_of waiting.no ahead) → IsNone (command_of waiting.no behind)
    → first_to_wait_for unrestricted true waiting (ahead ++ waiting ∷ behind) ≡ option_or (first_waited_for unrestricted true waiting ahead) (first_waited_for unrestricted false waiting behind)
among unrestricted waiting [] behind no_ahead no_behind =
    when-true (waiting.no == waiting.no) (first_to_wait_for unrestricted false waiting behind)
    (if has_to_wait unrestricted true waiting.held waiting.held then Some waiting.no else first_to_wait_for unrestricted true waiting behind) same
    ∙ behind_is unrestricted waiting behind no_behind
  where
    same : (waiting.no == waiting.no) ≡ true
    same = grind (arith, nat_tests)
among unrestricted waiting (c ∷ cs) behind no_ahead no_behind =
    let parts = apart waiting.no c cs no_ahead in
    step unrestricted true waiting c (cs ++ waiting ∷ behind) parts.0
    ∙ found_among (has_to_wait unrestricted true c.held waiting.held) c (first_to_wait_for unrestricted true waiting (cs ++ waiting ∷ behind))
    (find (λ (command : HeldCommand). has_to_wait unrestricted true command.held waiting.held) cs) (first_waited_for unrestricted false waiting behind)
    (among unrestricted waiting cs behind parts.1 no_behind)

pub blocker_is : (set : TaskSet) (ahead : List HeldCommand) (waiting : HeldCommand) (behind : List HeldCommand) → Stands set ahead waiting behind
    → blocker_of set waiting ≡ option_or (first_waited_for set.unrestricted true waiting ahead) (first_waited_for set.unrestricted false waiting behind)
unfolding blocker_of
blocker_is set ahead waiting behind stands = rw stands.order (among set.unrestricted waiting ahead behind stands.once_ahead stands.once_behind)
