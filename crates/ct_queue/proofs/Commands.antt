-- Searches in a list of commands, and what stays true of it.
use Rattle.std.proofs.Common.{◌≡◌, ℕ, suc, ◌+◌, ◌-◌, ◌<◌, ◌≤◌, List, [], ◌∷◌, ◌++◌, true, false, not, ◌==◌, inl, inr, Option, Some, None, IsNone, IsSome, IsSomeAnd, length, get_or, slice_get, slice_set, insert, remove, refl, sym, ap, ◌∙◌, subst, arith, length-append}
use Rattle.std.proofs.lemmas.Bool.{cases_Bool, false≢true}
use Rattle.std.proofs.lemmas.Bool.Decides.{nat_tests}
use Rattle.std.proofs.lemmas.List.Folds.{find_at}
use Rattle.std.proofs.lemmas.List.{length-set}
use Rattle.std.proofs.lemmas.List.Edits.{length-insert, length-remove}
use Rattle.std.proofs.lemmas.List.Sums.{prefix_len-le-length}
use Rattle.std.proofs.lemmas.Option.{slice_get-get_or}
use Rattle.ct_word.specs.Kept.{Kept}
use Rattle.ct_matrix.specs.declared.held.HeldCommand.{HeldCommand}
use Rattle.ct_matrix.specs.Queues.{command_of, without, with_begun, waits_yet, before_first, after_of, first_of, number_of}
use Rattle.ct_matrix.proofs.Places.{insert_first, first_within}
use Rattle.ct_queue.specs.Sound.{IsSingle, IsSound, place_of, waiting_from}

pub same_number : (a b : ℕ) → (a == b) ≡ true → a ≡ b
same_number a b h = grind (arith, nat_tests)

pub place_within : (number : ℕ) (commands : List HeldCommand) → IsSome (command_of number commands) → place_of number commands < length commands
place_within number [] found = absurd (false≢true found)
place_within number (c ∷ cs) found =
    elim (cases_Bool (c.no == number)) [
      | inl here ↦ rw here (omega arith)
      | inr other ↦ let later : place_of number cs < length cs = place_within number cs (rw other at found) in rw other (omega arith)
    ]

pub place_bound : (number : ℕ) (commands : List HeldCommand) → place_of number commands ≤ length commands
place_bound number commands = prefix_len-le-length (λ (command : HeldCommand). not (command.no == number)) commands

-- the command that is read at the place of a number
pub item_read : (number at : ℕ) (commands : List HeldCommand) (item : HeldCommand) → at ≡ place_of number commands → at < length commands → item ≡ get_or commands at item → command_of number commands ≡ Some item
item_read number at commands item place within read =
    find_at (λ (command : HeldCommand). command.no == number) commands ∙ ap (slice_get commands) (sym place) ∙ slice_get-get_or commands at item within ∙ ap Some (sym read)

pub waiting_held : (o : Option HeldCommand) → IsSomeAnd o (λ c. c.held.begun ≡ false) → IsSome o
waiting_held None h = absurd h
waiting_held (Some c) h = refl

pub waits_found : (o : Option HeldCommand) (c : HeldCommand) → o ≡ Some c → IsSomeAnd o (λ c. c.held.begun ≡ false) → c.held.begun ≡ false
waits_found o c is waits = subst (λ (it : Option HeldCommand). IsSomeAnd it (λ c. c.held.begun ≡ false)) is waits

pub place_item : (number : ℕ) (commands : List HeldCommand) → slice_get commands (place_of number commands) ≡ command_of number commands
place_item number commands = sym (find_at (λ (command : HeldCommand). command.no == number) commands)

absent_without : (number : ℕ) (commands : List HeldCommand) → IsNone (command_of number commands) → without number commands ≡ commands
absent_without number [] absent = refl
absent_without number (c ∷ cs) absent =
    elim (cases_Bool (c.no == number)) [
      | inl here ↦ absurd (false≢true (sym (rw here at absent)))
      | inr other ↦ rw other (ap (λ (rest : List HeldCommand). c ∷ rest) (absent_without number cs (rw other at absent)))
    ]

pub absent_begun : (number : ℕ) (commands : List HeldCommand) → IsNone (command_of number commands) → with_begun number commands ≡ commands
absent_begun number [] absent = refl
absent_begun number (c ∷ cs) absent =
    elim (cases_Bool (c.no == number)) [
      | inl here ↦ absurd (false≢true (sym (rw here at absent)))
      | inr other ↦ rw other (ap (λ (rest : List HeldCommand). c ∷ rest) (absent_begun number cs (rw other at absent)))
    ]

pub place-here : (number : ℕ) (c : HeldCommand) (cs : List HeldCommand) → (c.no == number) ≡ true → place_of number (c ∷ cs) ≡ 0
place-here number c cs here = rw here refl

pub place-other : (number : ℕ) (c : HeldCommand) (cs : List HeldCommand) → (c.no == number) ≡ false → place_of number (c ∷ cs) ≡ suc (place_of number cs)
place-other number c cs other = rw other (omega arith)

-- a number that stands once stands no more behind its place
pub absent_behind : (number : ℕ) (c : HeldCommand) (cs : List HeldCommand) → IsSingle (c ∷ cs) → (c.no == number) ≡ true → IsNone (command_of number cs)
absent_behind number c cs single here = subst (λ (n : ℕ). IsNone (command_of n cs)) (same_number c.no number here) single.0

-- the command at the place of a number is the only one that leaves
pub remove-place : (number : ℕ) (commands : List HeldCommand) → IsSingle commands → remove commands (place_of number commands) ≡ without number commands
remove-place number [] single = refl
remove-place number (c ∷ cs) single =
    elim (cases_Bool (c.no == number)) [
      | inl here ↦ rw (place-here number c cs here, here) (sym (absent_without number cs (absent_behind number c cs single here)))
      | inr other ↦ rw (place-other number c cs other, other) (ap (λ (rest : List HeldCommand). c ∷ rest) (remove-place number cs single.1))
    ]

-- .. and the only one that begins
pub set-place : (number : ℕ) (commands : List HeldCommand) (found : HeldCommand) → IsSingle commands → slice_get commands (place_of number commands) ≡ Some found
    → slice_set commands (place_of number commands) (record found { held = record found.held { begun = true } }) ≡ with_begun number commands
set-place number [] found single at = refl
set-place number (c ∷ cs) found single at =
    elim (cases_Bool (c.no == number)) [
      | inl here ↦
          let is_found : Some c ≡ Some found = ap (slice_get (c ∷ cs)) (sym (place-here number c cs here)) ∙ at in
          let same : c ≡ found = cc in
          rw (place-here number c cs here, here, absent_begun number cs (absent_behind number c cs single here))
          (ap (λ (it : HeldCommand). record it { held = record it.held { begun = true } } ∷ cs) (sym same))
      | inr other ↦
          let later : slice_get cs (place_of number cs) ≡ Some found = ap (slice_get (c ∷ cs)) (sym (place-other number c cs other)) ∙ at in
          rw (place-other number c cs other, other) (ap (λ (rest : List HeldCommand). c ∷ rest) (set-place number cs found single.1 later))
    ]

pub before-begun : (new c : HeldCommand) (cs : List HeldCommand) → c.held.begun ≡ true → before_first waits_yet new (c ∷ cs) ≡ c ∷ before_first waits_yet new cs
before-begun new c cs begun = rw begun refl

pub before-waits : (new c : HeldCommand) (cs : List HeldCommand) → c.held.begun ≡ false → before_first waits_yet new (c ∷ cs) ≡ new ∷ c ∷ cs
before-waits new c cs waits = rw waits refl

-- a number is absent exactly where no command has it
absent-cons : (number : ℕ) (c : HeldCommand) (cs : List HeldCommand) → (c.no == number) ≡ false → IsNone (command_of number cs) → IsNone (command_of number (c ∷ cs))
absent-cons number c cs other absent = rw other absent

pub other_than_absent : (number : ℕ) (c : HeldCommand) (cs : List HeldCommand) → IsNone (command_of number (c ∷ cs)) → ((c.no == number) ≡ false) × IsNone (command_of number cs)
other_than_absent number c cs absent =
    elim (cases_Bool (c.no == number)) [
      | inl here ↦ absurd (false≢true (sym (rw here at absent)))
      | inr other ↦ (other, rw other at absent)
    ]

pub turned : (a b : ℕ) → (a == b) ≡ false → (b == a) ≡ false
turned a b h = grind (arith, nat_tests)

absent-push : (number : ℕ) (commands : List HeldCommand) (new : HeldCommand) → IsNone (command_of number commands) → (new.no == number) ≡ false → IsNone (command_of number (commands ++ new ∷ []))
absent-push number [] new absent other = rw other refl
absent-push number (c ∷ cs) new absent other =
    let parts = other_than_absent number c cs absent in
    absent-cons number c (cs ++ new ∷ []) parts.0 (absent-push number cs new parts.1 other)

pub single-push : (commands : List HeldCommand) (new : HeldCommand) → IsSingle commands → IsNone (command_of new.no commands) → IsSingle (commands ++ new ∷ [])
single-push [] new single fresh = (refl, tt)
single-push (c ∷ cs) new single fresh =
    let parts = other_than_absent new.no c cs fresh in
    (absent-push c.no cs new single.0 (turned c.no new.no parts.0), single-push cs new single.1 parts.1)

absent-before_first : (number : ℕ) (new : HeldCommand) (commands : List HeldCommand) → IsNone (command_of number commands) → (new.no == number) ≡ false → IsNone (command_of number (before_first waits_yet new commands))
absent-before_first number new [] absent other = rw other refl
absent-before_first number new (c ∷ cs) absent other =
    let parts = other_than_absent number c cs absent in
    elim (cases_Bool c.held.begun) [
      | inl begun ↦ rw (before-begun new c cs begun) (absent-cons number c (before_first waits_yet new cs) parts.0 (absent-before_first number new cs parts.1 other))
      | inr waits ↦ rw (before-waits new c cs waits) (absent-cons number new (c ∷ cs) other absent)
    ]

pub single-before_first : (new : HeldCommand) (commands : List HeldCommand) → IsSingle commands → IsNone (command_of new.no commands) → IsSingle (before_first waits_yet new commands)
single-before_first new [] single fresh = (refl, tt)
single-before_first new (c ∷ cs) single fresh =
    let parts = other_than_absent new.no c cs fresh in
    elim (cases_Bool c.held.begun) [
      | inl begun ↦ rw (before-begun new c cs begun) (absent-before_first c.no new cs single.0 (turned c.no new.no parts.0), single-before_first new cs single.1 parts.1)
      | inr waits ↦ rw (before-waits new c cs waits) (fresh, single)
    ]

absent-without : (number leaving : ℕ) (commands : List HeldCommand) → IsNone (command_of number commands) → IsNone (command_of number (without leaving commands))
absent-without number leaving [] absent = refl
absent-without number leaving (c ∷ cs) absent =
    let parts = other_than_absent number c cs absent in
    elim (cases_Bool (c.no == leaving)) [
      | inl leaves ↦ rw leaves (absent-without number leaving cs parts.1)
      | inr stays ↦ rw stays (absent-cons number c (without leaving cs) parts.0 (absent-without number leaving cs parts.1))
    ]

pub single-without : (leaving : ℕ) (commands : List HeldCommand) → IsSingle commands → IsSingle (without leaving commands)
single-without leaving [] single = tt
single-without leaving (c ∷ cs) single =
    elim (cases_Bool (c.no == leaving)) [
      | inl leaves ↦ rw leaves (single-without leaving cs single.1)
      | inr stays ↦ rw stays (absent-without c.no leaving cs single.0, single-without leaving cs single.1)
    ]

absent-with_begun : (number beginning : ℕ) (commands : List HeldCommand) → IsNone (command_of number commands) → IsNone (command_of number (with_begun beginning commands))
absent-with_begun number beginning [] absent = refl
absent-with_begun number beginning (c ∷ cs) absent =
    let parts = other_than_absent number c cs absent in
    elim (cases_Bool (c.no == beginning)) [
      | inl begins ↦ rw begins (absent-cons number (record c { held = record c.held { begun = true } }) (with_begun beginning cs) parts.0 (absent-with_begun number beginning cs parts.1))
      | inr stays ↦ rw stays (absent-cons number c (with_begun beginning cs) parts.0 (absent-with_begun number beginning cs parts.1))
    ]

pub single-with_begun : (beginning : ℕ) (commands : List HeldCommand) → IsSingle commands → IsSingle (with_begun beginning commands)
single-with_begun beginning [] single = tt
single-with_begun beginning (c ∷ cs) single =
    elim (cases_Bool (c.no == beginning)) [
      | inl begins ↦ rw begins (absent-with_begun c.no beginning cs single.0, single-with_begun beginning cs single.1)
      | inr stays ↦ rw stays (absent-with_begun c.no beginning cs single.0, single-with_begun beginning cs single.1)
    ]

-- the command behind the one with a number stands at the next place
pub after-place : (number : ℕ) (commands : List HeldCommand) → number_of (slice_get commands (place_of number commands + 1)) ≡ after_of number commands
after-place number commands = ap (λ (at : ℕ). number_of (slice_get commands at)) next ∙ go number commands
  where
    next : place_of number commands + 1 ≡ suc (place_of number commands)
    next = omega arith

    start : (cs : List HeldCommand) → number_of (slice_get cs 0) ≡ first_of cs
    start [] = refl
    start (c ∷ cs) = refl

    go : (number : ℕ) (commands : List HeldCommand) → number_of (slice_get commands (suc (place_of number commands))) ≡ after_of number commands
    go number [] = refl
    go number (c ∷ cs) =
        elim (cases_Bool (c.no == number)) [
          | inl here ↦ rw (place-here number c cs here, here) (start cs)
          | inr other ↦ rw (place-other number c cs other, other) (go number cs)
        ]

-- what each change of the list leaves true
pub sound-entered : (kept : Kept HeldCommand) (depth : ℕ) (new : HeldCommand) → IsSound kept depth → 0 < kept.room → IsNone (command_of new.no kept.items) → IsSound (record { items = kept.items ++ new ∷ []; room = kept.room - 1 }) depth
sound-entered kept depth new sound room fresh = record {
  few = sound.few;
  room = omega (arith, sound.room, length-append kept.items (new ∷ []));
  single = single-push kept.items new sound.single fresh;
}

pub sound-inserted : (kept : Kept HeldCommand) (depth at : ℕ) (new : HeldCommand) → IsSound kept depth → 0 < kept.room → at ≡ waiting_from kept.items → IsNone (command_of new.no kept.items)
    → IsSound (record { items = insert kept.items at new; room = kept.room - 1 }) depth
sound-inserted kept depth at new sound room place fresh = record {
  few = sound.few;
  room = omega (arith, sound.room, length-insert kept.items at new (subst (λ (n : ℕ). n ≤ length kept.items) (sym place) (first_within waits_yet kept.items)));
  single = rw (place, insert_first waits_yet new kept.items) (single-before_first new kept.items sound.single fresh);
}

pub sound-left : (kept : Kept HeldCommand) (depth at number : ℕ) → IsSound kept depth → at ≡ place_of number kept.items → at < length kept.items → IsSound (record { items = remove kept.items at; room = kept.room + 1 }) depth
sound-left kept depth at number sound place within = record {
  few = sound.few;
  room = omega (arith, sound.room, length-remove kept.items at within);
  single = rw (place, remove-place number kept.items sound.single) (single-without number kept.items sound.single);
}

pub sound-begun : (kept : Kept HeldCommand) (depth at number : ℕ) (found : HeldCommand) → IsSound kept depth → at ≡ place_of number kept.items → slice_get kept.items at ≡ Some found
    → IsSound (record { items = slice_set kept.items at (record found { held = record found.held { begun = true } }); room = kept.room }) depth
sound-begun kept depth at number found sound place item = record {
  few = sound.few;
  room = omega (arith, sound.room, length-set kept.items at (record found { held = record found.held { begun = true } }));
  single = rw (place, set-place number kept.items found sound.single (rw place at item)) (single-with_begun number kept.items sound.single);
}
