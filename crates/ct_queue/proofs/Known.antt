-- For which command each waits, while it is found anew: what a change doesn't touch is still right.
use Rattle.std.proofs.Common.{◌≡◌, ℕ, zero, suc, ◌+◌, ◌<◌, List, [], ◌∷◌, ◌++◌, Bool, true, false, not, ◌&&◌, ◌||◌, ◌==◌, inl, inr, Option, Some, None, IsNone, IsSome, IsSomeAnd, IfSome, is_none, is_some, length, map, option_map, slice_get, slice_set, insert, remove, if◌then◌else◌, refl, sym, ap, ◌∙◌, subst, arith}
use Rattle.std.specs.List.{find, list_any, position_or_len}
use Rattle.std.specs.Option.{option_map_or}
use Rattle.std.proofs.lemmas.Bool.{cases_Bool, false≢true}
use Rattle.std.proofs.lemmas.List.{map-append, length-map}
use Rattle.std.proofs.lemmas.Option.{slice_get-map}
use Rattle.ct_matrix.proofs.Blocking.{when-true, when-false}
use Rattle.ct_matrix.proofs.Places.{insert_first}
use Rattle.std.proofs.lemmas.Bool.Decides.{nat_tests}
use Rattle.ct_cdb.specs.declared.op.Attr2.TheVariants.{Head}
use Rattle.ct_matrix.specs.declared.held.Held.{Held}
use Rattle.ct_matrix.specs.declared.held.HeldCommand.{HeldCommand}
use Rattle.ct_matrix.specs.Conflicts.{has_to_wait, skips, conflicts, is_head, is_ordered}
use Rattle.ct_matrix.specs.Queues.{TaskSet, blocker_of, is_ready, number_of, command_of, without, with_begun, waits_yet, before_first, first_to_wait_for}
use Rattle.ct_queue.specs.declared.known_command.KnownCommand.{KnownCommand}
use Rattle.ct_queue.specs.declared.known_command.Change.{Change}
use Rattle.ct_queue.specs.declared.known_command.Change.TheVariants as change
use Rattle.ct_queue.proofs.Commands.{same_number, set-place, place_item, remove-place, other_than_absent, turned, before-begun, before-waits, absent_behind, absent_begun, place-here, place-other}
use Rattle.ct_queue.specs.Sound.{IsSingle, place_of, waiting_from}
use Rattle.ct_queue.specs.KnownCommands.{is_blocked_by, may_touch, known_in, touches, is_touched, IsRight, waits_in, is_ready_in, has_begun_in, has_number, number_in}

-- the first so many are those among all, the others as they were
abbrev pub known_up_to : ℕ → Bool → List HeldCommand → List HeldCommand → List KnownCommand → List KnownCommand
known_up_to zero unrestricted all commands kept = kept
known_up_to (suc n) unrestricted all [] kept = kept
known_up_to (suc n) unrestricted all (command ∷ commands) [] = []
known_up_to (suc n) unrestricted all (command ∷ commands) (first ∷ others) = known_in unrestricted all command ∷ known_up_to n unrestricted all commands others

pub known_all : (what : Change) (u : Bool) (all commands : List HeldCommand) (kept : List KnownCommand) → IsRight what u all commands kept → known_up_to (length commands) u all commands kept ≡ map (known_in u all) commands
known_all what u all [] [] right = refl
known_all what u all [] (k ∷ ks) right = absurd right
known_all what u all (c ∷ cs) [] right = absurd right
known_all what u all (c ∷ cs) (k ∷ ks) right = ap (λ (rest : List KnownCommand). known_in u all c ∷ rest) (known_all what u all cs ks right.1)

pub known-length : (n : ℕ) (u : Bool) (all commands : List HeldCommand) (kept : List KnownCommand) → length (known_up_to n u all commands kept) ≡ length kept
known-length zero u all cs ks = refl
known-length (suc n) u all [] ks = refl
known-length (suc n) u all (c ∷ cs) [] = refl
known-length (suc n) u all (c ∷ cs) (k ∷ ks) = ap suc (known-length n u all cs ks)

pub right-length : (what : Change) (u : Bool) (all commands : List HeldCommand) (kept : List KnownCommand) → IsRight what u all commands kept → length kept ≡ length commands
right-length what u all [] [] right = refl
right-length what u all [] (k ∷ ks) right = absurd right
right-length what u all (c ∷ cs) [] right = absurd right
right-length what u all (c ∷ cs) (k ∷ ks) right = ap suc (right-length what u all cs ks right.1)

-- a turn that finds anew, and one that keeps
pub known_set : (n : ℕ) (u : Bool) (all commands : List HeldCommand) (kept : List KnownCommand) (command : HeldCommand) → length kept ≡ length commands → slice_get commands n ≡ Some command
    → slice_set (known_up_to n u all commands kept) n (known_in u all command) ≡ known_up_to (suc n) u all commands kept
known_set zero u all (c ∷ cs) (k ∷ ks) command same at = ap (λ (it : HeldCommand). known_in u all it ∷ ks) (sym (some_same at))
  where
    some_same : Some c ≡ Some command → c ≡ command
    some_same h = cc
known_set zero u all [] kept command same at = absurd (none_some at)
  where
    none_some : None ≡ Some command → ⊥
    none_some h = cc
known_set (suc n) u all [] kept command same at = absurd (none_some at)
  where
    none_some : None ≡ Some command → ⊥
    none_some h = cc
known_set zero u all (c ∷ cs) [] command same at = absurd (omega (arith, same))
known_set (suc n) u all (c ∷ cs) [] command same at = absurd (omega (arith, same))
known_set (suc n) u all (c ∷ cs) (k ∷ ks) command same at = ap (λ (rest : List KnownCommand). known_in u all c ∷ rest) (known_set n u all cs ks command (omega (arith, same)) at)

pub known_kept : (n : ℕ) (what : Change) (u : Bool) (all commands : List HeldCommand) (kept : List KnownCommand) (command : HeldCommand) (it : KnownCommand) → IsRight what u all commands kept
    → slice_get commands n ≡ Some command → slice_get kept n ≡ Some it → is_touched what u command it ≡ false → known_up_to n u all commands kept ≡ known_up_to (suc n) u all commands kept
known_kept n what u all [] [] command it right at has untouched = absurd (none_some at)
  where
    none_some : None ≡ Some command → ⊥
    none_some h = cc
known_kept n what u all [] (k ∷ ks) command it right at has untouched = absurd right
known_kept n what u all (c ∷ cs) [] command it right at has untouched = absurd right
known_kept zero what u all (c ∷ cs) (k ∷ ks) command it right at has untouched =
    let command_is : c ≡ command = cc in
    let it_is : k ≡ it = cc in
    ap (λ (first : KnownCommand). first ∷ ks) (right.0 (rw (command_is, it_is) untouched))
known_kept (suc n) what u all (c ∷ cs) (k ∷ ks) command it right at has untouched = ap (λ (rest : List KnownCommand). known_in u all c ∷ rest) (known_kept n what u all cs ks command it right.1 at has untouched)

-- where what is kept can't be touched, its command isn't
unmay : (what : Change) (u begun : Bool) (c : HeldCommand) (kept : KnownCommand) → may_touch what kept ≡ false → (not begun && touches what u c kept) ≡ false
unmay change.Order u begun c kept un = absurd (false≢true (sym un))
unmay (change.Entered entered) u begun c kept un = absurd (false≢true (sym un))
unmay (change.Begun new) u true c kept un = refl
unmay (change.Begun new) u false c kept un = rw un refl
unmay (change.Left left) u true c kept un = refl
unmay (change.Left left) u false c kept un = un

pub known_passed : (n : ℕ) (what : Change) (u : Bool) (all commands : List HeldCommand) (kept : List KnownCommand) (it : KnownCommand) → IsRight what u all commands kept
    → n < length commands → slice_get kept n ≡ Some it → may_touch what it ≡ false → known_up_to n u all commands kept ≡ known_up_to (suc n) u all commands kept
known_passed n what u all [] kept it right within has un = absurd (omega (arith, within))
known_passed n what u all (c ∷ cs) [] it right within has un = absurd right
known_passed zero what u all (c ∷ cs) (k ∷ ks) it right within has un =
    let it_is : k ≡ it = cc in
    ap (λ (first : KnownCommand). first ∷ ks) (right.0 (subst (λ (kept : KnownCommand). is_touched what u c kept ≡ false) (sym it_is) (unmay what u c.held.begun c it un)))
known_passed (suc n) what u all (c ∷ cs) (k ∷ ks) it right within has un = ap (λ (rest : List KnownCommand). known_in u all c ∷ rest) (known_passed n what u all cs ks it right.1 (omega (arith, within)) has un)

pub known_at : (n : ℕ) (u : Bool) (all commands : List HeldCommand) (kept : List KnownCommand) → slice_get (known_up_to n u all commands kept) n ≡ slice_get kept n
known_at zero u all cs ks = refl
known_at (suc n) u all [] ks = refl
known_at (suc n) u all (c ∷ cs) [] = refl
known_at (suc n) u all (c ∷ cs) (k ∷ ks) = known_at n u all cs ks

-- a command that a change doesn't touch waits for the same as before
abbrev pub IsStill : Change → Bool → List HeldCommand → Bool → List HeldCommand → HeldCommand → Type 0
IsStill what before all_before u all c =
    c.held.begun ≡ false → touches what u c (known_in before all_before c) ≡ false → first_to_wait_for before true c all_before ≡ first_to_wait_for u true c all

abbrev known_of : ℕ → Bool → Option ℕ → KnownCommand
known_of number begun blocker = record { no = number; begun = begun; blocker = blocker }

-- what is kept of a command that has begun, and of one that waits
kept_begun : (number : ℕ) (begun : Bool) (blocker : Option ℕ) → begun ≡ true → known_of number begun (if begun then None else blocker) ≡ known_of number true None
kept_begun number true blocker h = refl
kept_begun number false blocker h = absurd (false≢true h)

kept_waits : (number : ℕ) (begun : Bool) (blocker : Option ℕ) → begun ≡ false → known_of number begun (if begun then None else blocker) ≡ known_of number false blocker
kept_waits number true blocker h = absurd (false≢true (sym h))
kept_waits number false blocker h = refl

pub touched_waits : (begun touched : Bool) → begun ≡ false → touched ≡ (not begun && touched)
touched_waits true touched h = absurd (false≢true (sym h))
touched_waits false touched h = refl

untouched_waits : (begun touched : Bool) → begun ≡ false → (not begun && touched) ≡ false → touched ≡ false
untouched_waits true touched h untouched = absurd (false≢true (sym h))
untouched_waits false touched h untouched = untouched

stands_still : (what : Change) (before : Bool) (all_before : List HeldCommand) (u : Bool) (all : List HeldCommand) (c : HeldCommand) → IsStill what before all_before u all c
    → is_touched what u c (known_in before all_before c) ≡ false → known_in before all_before c ≡ known_in u all c
stands_still what before all_before u all c still untouched =
    elim (cases_Bool c.held.begun) [
      | inl begun ↦ kept_begun c.no c.held.begun (first_to_wait_for before true c all_before) begun ∙ sym (kept_begun c.no c.held.begun (first_to_wait_for u true c all) begun)
      | inr waits ↦
          kept_waits c.no c.held.begun (first_to_wait_for before true c all_before) waits
          ∙ ap (λ (blocker : Option ℕ). known_of c.no false blocker) (still waits (untouched_waits c.held.begun (touches what u c (known_in before all_before c)) waits untouched))
          ∙ sym (kept_waits c.no c.held.begun (first_to_wait_for u true c all) waits)
    ]

-- no command of these waits for another than before
abbrev pub AreStill : Change → Bool → List HeldCommand → Bool → List HeldCommand → List HeldCommand → Type 0
AreStill what before all_before u all [] = Unit {0}
AreStill what before all_before u all (c ∷ cs) = IsStill what before all_before u all c × AreStill what before all_before u all cs

blocker_waits : (u : Bool) (all : List HeldCommand) (c : HeldCommand) → c.held.begun ≡ false → (known_in u all c).blocker ≡ first_to_wait_for u true c all
blocker_waits u all c waits = ap (λ (kept : KnownCommand). kept.blocker) (kept_waits c.no c.held.begun (first_to_wait_for u true c all) waits)

pub right_all : (what : Change) (before : Bool) (all_before : List HeldCommand) (u : Bool) (all commands : List HeldCommand) → AreStill what before all_before u all commands
    → IsRight what u all commands (map (known_in before all_before) commands)
right_all what before all_before u all [] still = tt
right_all what before all_before u all (c ∷ cs) still = (stands_still what before all_before u all c still.0, right_all what before all_before u all cs still.1)

-- a step of the search for what a command waits for
pub at_itself : (u a : Bool) (w c : HeldCommand) (cs : List HeldCommand) → (c.no == w.no) ≡ true → first_to_wait_for u a w (c ∷ cs) ≡ first_to_wait_for u false w cs
at_itself u a w c cs here = when-true (c.no == w.no) (first_to_wait_for u false w cs) (if has_to_wait u a c.held w.held then Some c.no else first_to_wait_for u a w cs) here

at_other : (u a : Bool) (w c : HeldCommand) (cs : List HeldCommand) → (c.no == w.no) ≡ false → first_to_wait_for u a w (c ∷ cs) ≡ (if has_to_wait u a c.held w.held then Some c.no else first_to_wait_for u a w cs)
at_other u a w c cs other = when-false (c.no == w.no) (first_to_wait_for u false w cs) (if has_to_wait u a c.held w.held then Some c.no else first_to_wait_for u a w cs) other

pub at_blocker : (u a : Bool) (w c : HeldCommand) (cs : List HeldCommand) → (c.no == w.no) ≡ false → has_to_wait u a c.held w.held ≡ true → first_to_wait_for u a w (c ∷ cs) ≡ Some c.no
at_blocker u a w c cs other waits = at_other u a w c cs other ∙ when-true (has_to_wait u a c.held w.held) (Some c.no) (first_to_wait_for u a w cs) waits

pub at_free : (u a : Bool) (w c : HeldCommand) (cs : List HeldCommand) → (c.no == w.no) ≡ false → has_to_wait u a c.held w.held ≡ false → first_to_wait_for u a w (c ∷ cs) ≡ first_to_wait_for u a w cs
at_free u a w c cs other free = at_other u a w c cs other ∙ when-false (has_to_wait u a c.held w.held) (Some c.no) (first_to_wait_for u a w cs) free

-- two numbers
number_apart : (a b n : ℕ) → (a == b) ≡ true → (b == n) ≡ false → (a == n) ≡ false
number_apart a b n same other = grind (arith, nat_tests)

without-stays : (leaving : ℕ) (c : HeldCommand) (cs : List HeldCommand) → (c.no == leaving) ≡ false → without leaving (c ∷ cs) ≡ c ∷ without leaving cs
without-stays leaving c cs stays = when-false (c.no == leaving) (without leaving cs) (c ∷ without leaving cs) stays

without-leaves : (leaving : ℕ) (c : HeldCommand) (cs : List HeldCommand) → (c.no == leaving) ≡ true → without leaving (c ∷ cs) ≡ without leaving cs
without-leaves leaving c cs leaves = when-true (c.no == leaving) (without leaving cs) (c ∷ without leaving cs) leaves

-- a HEAD OF QUEUE command waits for none where none has begun
head_free : (skip ahead begun conflict rest : Bool) → begun ≡ false → (if skip then false else if true || not ahead then begun && conflict else rest) ≡ false
head_free true ahead begun conflict rest h = refl
head_free false ahead true conflict rest h = absurd (false≢true (sym h))
head_free false ahead false conflict rest h = refl

head_waits_not : (u ahead : Bool) (a b : Held) → b.attr ≡ Head → a.begun ≡ false → has_to_wait u ahead a b ≡ false
unfolding skips conflicts
head_waits_not u ahead a b head waits = rw head (head_free (skips a b) ahead a.begun (conflicts u a b) (is_ordered b.attr || is_ordered a.attr || is_head a.attr || conflicts u a b) waits)

none_or : (a b : Bool) → (a || b) ≡ false → (a ≡ false) × (b ≡ false)
none_or true b h = absurd (false≢true (sym h))
none_or false b h = (refl, h)

pub head_waits_for_none : (u a : Bool) (w : HeldCommand) (cs : List HeldCommand) → w.held.attr ≡ Head → list_any (λ (c : HeldCommand). c.held.begun) cs ≡ false → first_to_wait_for u a w cs ≡ None
head_waits_for_none u a w [] head none = refl
head_waits_for_none u a w (c ∷ cs) head none =
    let parts = none_or c.held.begun (list_any (λ (c : HeldCommand). c.held.begun) cs) none in
    elim (cases_Bool (c.no == w.no)) [
      | inl itself ↦ at_itself u a w c cs itself ∙ head_waits_for_none u false w cs head parts.1
      | inr apart ↦ at_free u a w c cs apart (head_waits_not u a c.held w.held head parts.0) ∙ head_waits_for_none u a w cs head parts.1
    ]

-- a command that leaves
abbrev is_that : ℕ → Option ℕ → Bool
is_that number found = option_map_or (λ blocker. blocker == number) found false

left_waits : (u a : Bool) (w : HeldCommand) (leaving : ℕ) (cs : List HeldCommand) → (w.no == leaving) ≡ false → is_that leaving (first_to_wait_for u a w cs) ≡ false
    → first_to_wait_for u a w cs ≡ first_to_wait_for u a w (without leaving cs)
left_waits u a w leaving [] other untouched = refl
left_waits u a w leaving (c ∷ cs) other untouched =
    elim (cases_Bool (c.no == w.no)) [
      | inl here ↦
          at_itself u a w c cs here
          ∙ left_waits u false w leaving cs other (ap (is_that leaving) (sym (at_itself u a w c cs here)) ∙ untouched)
          ∙ sym (at_itself u a w c (without leaving cs) here)
          ∙ ap (first_to_wait_for u a w) (sym (without-stays leaving c cs (number_apart c.no w.no leaving here other)))
      | inr apart ↦ elim (cases_Bool (has_to_wait u a c.held w.held)) [
        | inl waits ↦
            let stays : (c.no == leaving) ≡ false = ap (is_that leaving) (sym (at_blocker u a w c cs apart waits)) ∙ untouched in
            at_blocker u a w c cs apart waits ∙ sym (at_blocker u a w c (without leaving cs) apart waits) ∙ ap (first_to_wait_for u a w) (sym (without-stays leaving c cs stays))
        | inr free ↦
            let later : first_to_wait_for u a w cs ≡ first_to_wait_for u a w (without leaving cs) = left_waits u a w leaving cs other (ap (is_that leaving) (sym (at_free u a w c cs apart free)) ∙ untouched) in
            elim (cases_Bool (c.no == leaving)) [
              | inl leaves ↦ at_free u a w c cs apart free ∙ later ∙ ap (first_to_wait_for u a w) (sym (without-leaves leaving c cs leaves))
              | inr stays ↦ at_free u a w c cs apart free ∙ later ∙ sym (at_free u a w c (without leaving cs) apart free) ∙ ap (first_to_wait_for u a w) (sym (without-stays leaving c cs stays))
            ]
      ]
    ]

still_left : (u : Bool) (leaving : ℕ) (all cs : List HeldCommand) → AreStill (change.Left leaving) u all u (without leaving all) (without leaving cs)
still_left u leaving all [] = tt
still_left u leaving all (c ∷ cs) =
    elim (cases_Bool (c.no == leaving)) [
      | inl leaves ↦ subst (AreStill (change.Left leaving) u all u (without leaving all)) (sym (without-leaves leaving c cs leaves)) (still_left u leaving all cs)
      | inr stays ↦ subst (AreStill (change.Left leaving) u all u (without leaving all)) (sym (without-stays leaving c cs stays))
          (λ waits untouched. left_waits u true c leaving all stays (ap (is_that leaving) (sym (blocker_waits u all c waits)) ∙ untouched), still_left u leaving all cs)
    ]

-- one that hasn't begun makes none ahead of it wait
behind_free : (skip head begun conflict rest : Bool) → begun ≡ false → (if skip then false else if head || true then begun && conflict else rest) ≡ false
behind_free true head begun conflict rest h = refl
behind_free false true true conflict rest h = absurd (false≢true (sym h))
behind_free false true false conflict rest h = refl
behind_free false false true conflict rest h = absurd (false≢true (sym h))
behind_free false false false conflict rest h = refl

free_behind : (u : Bool) (a b : Held) → a.begun ≡ false → has_to_wait u false a b ≡ false
free_behind u a b waits = behind_free (skips a b) (is_head b.attr) a.begun (conflicts u a b) (is_ordered b.attr || is_ordered a.attr || is_head a.attr || conflicts u a b) waits

-- ahead or behind
free_either : (u a : Bool) (new w : Held) → new.begun ≡ false → has_to_wait u true new w ≡ false → has_to_wait u a new w ≡ false
free_either u true new w waits free = free
free_either u false new w waits free = free_behind u new w waits

-- a command that enters last
entered_behind : (u : Bool) (w new : HeldCommand) (cs : List HeldCommand) → new.held.begun ≡ false → first_to_wait_for u false w cs ≡ first_to_wait_for u false w (cs ++ new ∷ [])
entered_behind u w new [] waits =
    elim (cases_Bool (new.no == w.no)) [
      | inl here ↦ sym (at_itself u false w new [] here)
      | inr apart ↦ sym (at_free u false w new [] apart (free_behind u new.held w.held waits))
    ]
entered_behind u w new (c ∷ cs) waits =
    elim (cases_Bool (c.no == w.no)) [
      | inl here ↦ at_itself u false w c cs here ∙ entered_behind u w new cs waits ∙ sym (at_itself u false w c (cs ++ new ∷ []) here)
      | inr apart ↦
          at_other u false w c cs apart
          ∙ ap (λ (rest : Option ℕ). if has_to_wait u false c.held w.held then Some c.no else rest) (entered_behind u w new cs waits)
          ∙ sym (at_other u false w c (cs ++ new ∷ []) apart)
    ]

entered_last : (u : Bool) (w new : HeldCommand) (cs : List HeldCommand) → new.held.begun ≡ false → IsSome (command_of w.no cs) → first_to_wait_for u true w cs ≡ first_to_wait_for u true w (cs ++ new ∷ [])
entered_last u w new [] waits found = absurd (false≢true found)
entered_last u w new (c ∷ cs) waits found =
    elim (cases_Bool (c.no == w.no)) [
      | inl here ↦ at_itself u true w c cs here ∙ entered_behind u w new cs waits ∙ sym (at_itself u true w c (cs ++ new ∷ []) here)
      | inr apart ↦
          let later : IsSome (command_of w.no cs) = rw apart at found in
          at_other u true w c cs apart
          ∙ ap (λ (rest : Option ℕ). if has_to_wait u true c.held w.held then Some c.no else rest) (entered_last u w new cs waits later)
          ∙ sym (at_other u true w c (cs ++ new ∷ []) apart)
    ]

abbrev AreFound : List HeldCommand → List HeldCommand → Type 0
AreFound all [] = Unit {0}
AreFound all (c ∷ cs) = IsSome (command_of c.no all) × AreFound all cs

found_behind : (number : ℕ) (first : HeldCommand) (all : List HeldCommand) → IsSome (command_of number all) → IsSome (command_of number (first ∷ all))
found_behind number first all found =
    elim (cases_Bool (first.no == number)) [
      | inl here ↦ rw here refl
      | inr other ↦ rw other found
    ]

found_more : (first : HeldCommand) (all cs : List HeldCommand) → AreFound all cs → AreFound (first ∷ all) cs
found_more first all [] found = tt
found_more first all (c ∷ cs) found = (found_behind c.no first all found.0, found_more first all cs found.1)

found_all : (cs : List HeldCommand) → AreFound cs cs
found_all [] = tt
found_all (c ∷ cs) = (first_found, found_more c cs cs (found_all cs))
  where
    same : (c.no == c.no) ≡ true
    same = grind (arith, nat_tests)

    first_found : IsSome (command_of c.no (c ∷ cs))
    first_found = rw same refl

same_last : (u : Bool) (new : HeldCommand) (all cs : List HeldCommand) → new.held.begun ≡ false → AreFound all cs → map (known_in u all) cs ≡ map (known_in u (all ++ new ∷ [])) cs
same_last u new all [] waits found = refl
same_last u new all (c ∷ cs) waits found =
    ap (λ (blocker : Option ℕ). known_of c.no c.held.begun (if c.held.begun then None else blocker) ∷ map (known_in u all) cs) (entered_last u c new all waits found.0)
    ∙ ap (λ (rest : List KnownCommand). known_in u (all ++ new ∷ []) c ∷ rest) (same_last u new all cs waits found.1)

pub kept_last : (u : Bool) (new : HeldCommand) (all : List HeldCommand) → new.held.begun ≡ false
    → map (known_in u all) all ++ known_in u (all ++ new ∷ []) new ∷ [] ≡ map (known_in u (all ++ new ∷ [])) (all ++ new ∷ [])
kept_last u new all waits =
    ap (λ (rest : List KnownCommand). rest ++ known_in u (all ++ new ∷ []) new ∷ []) (same_last u new all all waits (found_all all))
    ∙ sym (map-append (known_in u (all ++ new ∷ [])) all (new ∷ []))

-- a HEAD OF QUEUE command that enters
kept-begun : (new kept : KnownCommand) (others : List KnownCommand) → kept.begun ≡ true → before_first waits_in new (kept ∷ others) ≡ kept ∷ before_first waits_in new others
kept-begun new kept others begun = rw begun refl

kept-waits : (new kept : KnownCommand) (others : List KnownCommand) → kept.begun ≡ false → before_first waits_in new (kept ∷ others) ≡ new ∷ kept ∷ others
kept-waits new kept others waits = rw waits refl

entered_head : (u a : Bool) (w new : HeldCommand) (cs : List HeldCommand) → new.held.begun ≡ false → (new.no == w.no) ≡ false → has_to_wait u true new.held w.held ≡ false
    → first_to_wait_for u a w cs ≡ first_to_wait_for u a w (before_first waits_yet new cs)
entered_head u a w new [] waits other free = sym (at_free u a w new [] other (free_either u a new.held w.held waits free))
entered_head u a w new (c ∷ cs) waits other free =
    elim (cases_Bool c.held.begun) [
      | inl begun ↦ elim (cases_Bool (c.no == w.no)) [
        | inl here ↦
            at_itself u a w c cs here ∙ entered_head u false w new cs waits other free ∙ sym (at_itself u a w c (before_first waits_yet new cs) here)
            ∙ ap (first_to_wait_for u a w) (sym (before-begun new c cs begun))
        | inr apart ↦
            at_other u a w c cs apart
            ∙ ap (λ (rest : Option ℕ). if has_to_wait u a c.held w.held then Some c.no else rest) (entered_head u a w new cs waits other free)
            ∙ sym (at_other u a w c (before_first waits_yet new cs) apart)
            ∙ ap (first_to_wait_for u a w) (sym (before-begun new c cs begun))
      ]
      | inr still ↦ sym (at_free u a w new (c ∷ cs) other (free_either u a new.held w.held waits free)) ∙ ap (first_to_wait_for u a w) (sym (before-waits new c cs still))
    ]

-- what touches a command that waits for another, which stands ahead of it or behind it
abbrev pub TouchesBy : Bool → Bool → Held → Change → Type 0
TouchesBy u ahead other what = (c : HeldCommand) (kept : KnownCommand) → touches what u c kept ≡ has_to_wait u ahead other c.held

still_entered : (u : Bool) (what : Change) (new : HeldCommand) (all cs : List HeldCommand) → TouchesBy u true new.held what → new.held.begun ≡ false → IsNone (command_of new.no cs)
    → AreStill what u all u (before_first waits_yet new all) cs
still_entered u what new all [] sees waits fresh = tt
still_entered u what new all (c ∷ cs) sees waits fresh =
    let parts = other_than_absent new.no c cs fresh in
    (λ yet untouched. entered_head u true c new all waits (turned c.no new.no parts.0) (sym (sees c (known_in u all c)) ∙ untouched), still_entered u what new all cs sees waits parts.1)

right_before : (what : Change) (before : Bool) (all_before : List HeldCommand) (u : Bool) (all : List HeldCommand) (new : HeldCommand) (cs : List HeldCommand) → AreStill what before all_before u all cs
    → IsRight what u all (before_first waits_yet new cs) (before_first waits_in (known_in u all new) (map (known_in before all_before) cs))
right_before what before all_before u all new [] still = ((λ untouched. refl), tt)
right_before what before all_before u all new (c ∷ cs) still =
    elim (cases_Bool c.held.begun) [
      | inl begun ↦
          subst (λ (items : List HeldCommand). IsRight what u all items (before_first waits_in (known_in u all new) (map (known_in before all_before) (c ∷ cs)))) (sym (before-begun new c cs begun))
          (subst (IsRight what u all (c ∷ before_first waits_yet new cs)) (sym (kept-begun (known_in u all new) (known_in before all_before c) (map (known_in before all_before) cs) begun))
          (stands_still what before all_before u all c still.0, right_before what before all_before u all new cs still.1))
      | inr waits ↦
          subst (λ (items : List HeldCommand). IsRight what u all items (before_first waits_in (known_in u all new) (map (known_in before all_before) (c ∷ cs)))) (sym (before-waits new c cs waits))
          (subst (IsRight what u all (new ∷ c ∷ cs)) (sym (kept-waits (known_in u all new) (known_in before all_before c) (map (known_in before all_before) cs) waits))
          ((λ untouched. refl), right_all what before all_before u all (c ∷ cs) still))
    ]

-- a command that begins
verdict : (skip head ahead begun conflict rest : Bool) → begun ≡ false → (if skip then false else if head || true then true && conflict else rest) ≡ false
    → (if skip then false else if head || not ahead then begun && conflict else rest) ≡ (if skip then false else if head || not ahead then true && conflict else rest)
verdict true head ahead begun conflict rest h free = refl
verdict false head ahead true conflict rest h free = absurd (false≢true (sym h))
verdict false true ahead false conflict rest h free = sym free
verdict false false true false conflict rest h free = refl
verdict false false false false conflict rest h free = sym free

same_verdict : (u ahead : Bool) (a b : Held) → a.begun ≡ false → has_to_wait u false (record a { begun = true }) b ≡ false → has_to_wait u ahead a b ≡ has_to_wait u ahead (record a { begun = true }) b
unfolding skips conflicts
same_verdict u ahead a b waits free = verdict (skips a b) (is_head b.attr) ahead a.begun (conflicts u a b) (is_ordered b.attr || is_ordered a.attr || is_head a.attr || conflicts u a b) waits free

abbrev pub begun_of : HeldCommand → HeldCommand
begun_of c = record c { held = record c.held { begun = true } }

with_begun-first : (n : ℕ) (c : HeldCommand) (cs : List HeldCommand) → (c.no == n) ≡ true → with_begun n (c ∷ cs) ≡ begun_of c ∷ with_begun n cs
with_begun-first n c cs this = ap (λ (first : HeldCommand). first ∷ with_begun n cs) (when-true (c.no == n) (begun_of c) c this)

with_begun-this : (n : ℕ) (c : HeldCommand) (cs : List HeldCommand) → IsSingle (c ∷ cs) → (c.no == n) ≡ true → with_begun n (c ∷ cs) ≡ begun_of c ∷ cs
with_begun-this n c cs single this =
    ap (λ (first : HeldCommand). first ∷ with_begun n cs) (when-true (c.no == n) (begun_of c) c this)
    ∙ ap (λ (rest : List HeldCommand). begun_of c ∷ rest) (absent_begun n cs (absent_behind n c cs single this))

with_begun-other : (n : ℕ) (c : HeldCommand) (cs : List HeldCommand) → (c.no == n) ≡ false → with_begun n (c ∷ cs) ≡ c ∷ with_begun n cs
with_begun-other n c cs other = ap (λ (first : HeldCommand). first ∷ with_begun n cs) (when-false (c.no == n) (begun_of c) c other)

begun_waits : (u a : Bool) (w found : HeldCommand) (n : ℕ) (cs : List HeldCommand) → IsSingle cs → command_of n cs ≡ Some found → found.held.begun ≡ false → (w.no == n) ≡ false
    → has_to_wait u false (begun_of found).held w.held ≡ false → first_to_wait_for u a w cs ≡ first_to_wait_for u a w (with_begun n cs)
begun_waits u a w found n [] single at waits apart free = refl
begun_waits u a w found n (c ∷ cs) single at waits apart free =
    elim (cases_Bool (c.no == n)) [
      | inl this ↦
          let is : c ≡ found = some_same (sym (when-true (c.no == n) (Some c) (command_of n cs) this) ∙ at) in
          let other : (c.no == w.no) ≡ false = other_number c.no w.no n this apart in
          let same : has_to_wait u a c.held w.held ≡ has_to_wait u a (begun_of c).held w.held =
          same_verdict u a c.held w.held (ap (λ (it : HeldCommand). it.held.begun) is ∙ waits) (ap (λ (it : HeldCommand). has_to_wait u false (begun_of it).held w.held) is ∙ free) in
          at_other u a w c cs other ∙ ap (λ (test : Bool). if test then Some c.no else first_to_wait_for u a w cs) same ∙ sym (at_other u a w (begun_of c) cs other)
          ∙ ap (first_to_wait_for u a w) (sym (with_begun-this n c cs single this))
      | inr more ↦
          let later : command_of n cs ≡ Some found = sym (when-false (c.no == n) (Some c) (command_of n cs) more) ∙ at in
          elim (cases_Bool (c.no == w.no)) [
            | inl here ↦
                at_itself u a w c cs here ∙ begun_waits u false w found n cs single.1 later waits apart free ∙ sym (at_itself u a w c (with_begun n cs) here)
                ∙ ap (first_to_wait_for u a w) (sym (with_begun-other n c cs more))
            | inr other ↦
                at_other u a w c cs other
                ∙ ap (λ (rest : Option ℕ). if has_to_wait u a c.held w.held then Some c.no else rest) (begun_waits u a w found n cs single.1 later waits apart free)
                ∙ sym (at_other u a w c (with_begun n cs) other)
                ∙ ap (first_to_wait_for u a w) (sym (with_begun-other n c cs more))
          ]
    ]
  where
    some_same : Some c ≡ Some found → c ≡ found
    some_same h = cc

    other_number : (a b n : ℕ) → (a == n) ≡ true → (b == n) ≡ false → (a == b) ≡ false
    other_number a b n this apart = grind (arith, nat_tests)

-- the list in which a command begins
-- its beginning leaves what already waits for it first
still_waits_if : (skip head ahead begun conflict rest : Bool) → (if skip then false else if head || not ahead then begun && conflict else rest) ≡ true
    → (if skip then false else if head || not ahead then true && conflict else rest) ≡ true
still_waits_if true head ahead begun conflict rest h = absurd (false≢true h)
still_waits_if false true ahead true conflict rest h = h
still_waits_if false true ahead false conflict rest h = absurd (false≢true h)
still_waits_if false false true begun conflict rest h = h
still_waits_if false false false true conflict rest h = h
still_waits_if false false false false conflict rest h = absurd (false≢true h)

still_waits : (u ahead : Bool) (a b : Held) → has_to_wait u ahead a b ≡ true → has_to_wait u ahead (record a { begun = true }) b ≡ true
unfolding skips conflicts
still_waits u ahead a b waits = still_waits_if (skips a b) (is_head b.attr) ahead a.begun (conflicts u a b) (is_ordered b.attr || is_ordered a.attr || is_head a.attr || conflicts u a b) waits

same_some : (a b : ℕ) → Some a ≡ Some b → a ≡ b
same_some a b h = cc

equal_test : (a b : ℕ) → a ≡ b → (a == b) ≡ true
equal_test a b same = grind (arith, nat_tests)

begun_blocker : (u a : Bool) (w : HeldCommand) (n : ℕ) (cs : List HeldCommand) → first_to_wait_for u a w cs ≡ Some n → first_to_wait_for u a w (with_begun n cs) ≡ Some n
begun_blocker u a w n [] is = absurd (cc)
begun_blocker u a w n (c ∷ cs) is =
    elim (cases_Bool (c.no == w.no)) [
      | inl itself ↦
          let later : first_to_wait_for u false w (with_begun n cs) ≡ Some n = begun_blocker u false w n cs (sym (at_itself u a w c cs itself) ∙ is) in
          elim (cases_Bool (c.no == n)) [
            | inl this ↦ ap (first_to_wait_for u a w) (with_begun-first n c cs this) ∙ at_itself u a w (begun_of c) (with_begun n cs) itself ∙ later
            | inr other ↦ ap (first_to_wait_for u a w) (with_begun-other n c cs other) ∙ at_itself u a w c (with_begun n cs) itself ∙ later
          ]
      | inr apart ↦ elim (cases_Bool (has_to_wait u a c.held w.held)) [
        | inl waits ↦
            let named : c.no ≡ n = same_some c.no n (sym (at_blocker u a w c cs apart waits) ∙ is) in
            ap (first_to_wait_for u a w) (with_begun-first n c cs (equal_test c.no n named))
            ∙ at_blocker u a w (begun_of c) (with_begun n cs) apart (still_waits u a c.held w.held waits) ∙ ap Some named
        | inr free ↦
            let later : first_to_wait_for u a w (with_begun n cs) ≡ Some n = begun_blocker u a w n cs (sym (at_free u a w c cs apart free) ∙ is) in
            elim (cases_Bool (c.no == n)) [
              | inl this ↦
                  ap (first_to_wait_for u a w) (with_begun-first n c cs this)
                  ∙ elim (cases_Bool (has_to_wait u a (begun_of c).held w.held)) [
                    | inl waits ↦ at_blocker u a w (begun_of c) (with_begun n cs) apart waits ∙ ap Some (same_number c.no n this)
                    | inr still ↦ at_free u a w (begun_of c) (with_begun n cs) apart still ∙ later
                  ]
              | inr other ↦ ap (first_to_wait_for u a w) (with_begun-other n c cs other) ∙ at_free u a w c (with_begun n cs) apart free ∙ later
            ]
      ]
    ]

blocked_is : (n : ℕ) (blocker : Option ℕ) → option_map_or (λ b. b == n) blocker false ≡ true → blocker ≡ Some n
blocked_is n None is = absurd (false≢true is)
blocked_is n (Some b) is = ap Some (same_number b n is)

-- what touches a command that waits for one that begins
abbrev pub TouchesBegun : Bool → ℕ → Held → Change → Type 0
TouchesBegun u n other what =
    (c : HeldCommand) (kept : KnownCommand) → touches what u c kept ≡ (not (is_blocked_by n kept) && has_to_wait u false other c.held)

-- what is found under a number has it
pub found_number : (n : ℕ) (cs : List HeldCommand) (found : HeldCommand) → command_of n cs ≡ Some found → found.no ≡ n
found_number n [] found is = absurd (cc)
found_number n (c ∷ cs) found is =
    elim (cases_Bool (c.no == n)) [
      | inl this ↦ let same : Some c ≡ Some found = sym (when-true (c.no == n) (Some c) (command_of n cs) this) ∙ is in ap (λ (o : Option HeldCommand). number_or o c.no) (sym same) ∙ same_number c.no n this
      | inr more ↦ found_number n cs found (sym (when-false (c.no == n) (Some c) (command_of n cs) more) ∙ is)
    ]
  where
    number_or : Option HeldCommand → ℕ → ℕ
    number_or None other = other
    number_or (Some it) other = it.no

record Begins (u : Bool) (what : Change) (n : ℕ) (all : List HeldCommand) (found : HeldCommand) : Type 0 where
  single : IsSingle all
  at : command_of n all ≡ Some found
  waits : found.held.begun ≡ false
  sees : TouchesBegun u n (begun_of found).held what

still_begun : (u : Bool) (what : Change) (n : ℕ) (all : List HeldCommand) (found c : HeldCommand) → Begins u what n all found → (c.no == n) ≡ false → IsStill what u all u (with_begun n all) c
still_begun u what n all found c begins apart yet untouched = go (is_blocked_by n (known_in u all c)) refl
  where
    seen : (not (is_blocked_by n (known_in u all c)) && has_to_wait u false (begun_of found).held c.held) ≡ false
    seen = sym (begins.sees c (known_in u all c)) ∙ untouched

    go : (blocked : Bool) → is_blocked_by n (known_in u all c) ≡ blocked → first_to_wait_for u true c all ≡ first_to_wait_for u true c (with_begun n all)
    go true is =
        let blocker : first_to_wait_for u true c all ≡ Some n = sym (blocker_waits u all c yet) ∙ blocked_is n (known_in u all c).blocker is in
        blocker ∙ sym (begun_blocker u true c n all blocker)
    go false is =
        begun_waits u true c found n all begins.single begins.at begins.waits apart
        (sym (ap (λ (b : Bool). not b && has_to_wait u false (begun_of found).held c.held) is) ∙ seen)

still_absent : (u : Bool) (what : Change) (n : ℕ) (all : List HeldCommand) (found : HeldCommand) (cs : List HeldCommand) → Begins u what n all found → IsNone (command_of n cs)
    → AreStill what u all u (with_begun n all) cs
still_absent u what n all found [] begins absent = tt
still_absent u what n all found (c ∷ cs) begins absent =
    let parts = other_than_absent n c cs absent in
    (still_begun u what n all found c begins parts.0, still_absent u what n all found cs begins parts.1)

right_begun : (u : Bool) (what : Change) (n : ℕ) (all : List HeldCommand) (found : HeldCommand) (cs : List HeldCommand) → Begins u what n all found → IsSingle cs → command_of n cs ≡ Some found
    → IsRight what u (with_begun n all) (with_begun n cs) (slice_set (map (known_in u all) cs) (place_of n cs) (known_in u (with_begun n all) (begun_of found)))
right_begun u what n all found [] begins single at = absurd (none_some at)
  where
    none_some : None ≡ Some found → ⊥
    none_some h = cc
right_begun u what n all found (c ∷ cs) begins single at =
    elim (cases_Bool (c.no == n)) [
      | inl this ↦
          let is : c ≡ found = some_same (sym (when-true (c.no == n) (Some c) (command_of n cs) this) ∙ at) in
          subst (λ (items : List HeldCommand). IsRight what u (with_begun n all) items (slice_set (map (known_in u all) (c ∷ cs)) (place_of n (c ∷ cs)) (known_in u (with_begun n all) (begun_of found))))
          (sym (with_begun-this n c cs single this))
          (subst (λ (place : ℕ). IsRight what u (with_begun n all) (begun_of c ∷ cs) (slice_set (map (known_in u all) (c ∷ cs)) place (known_in u (with_begun n all) (begun_of found))))
          (sym (place-here n c cs this)) (
            (λ untouched. ap (λ (it : HeldCommand). known_in u (with_begun n all) (begun_of it)) (sym is)),
            right_all what u all u (with_begun n all) cs (still_absent u what n all found cs begins (absent_behind n c cs single this)),
          ))
      | inr more ↦
          let later : command_of n cs ≡ Some found = sym (when-false (c.no == n) (Some c) (command_of n cs) more) ∙ at in
          subst (λ (items : List HeldCommand). IsRight what u (with_begun n all) items (slice_set (map (known_in u all) (c ∷ cs)) (place_of n (c ∷ cs)) (known_in u (with_begun n all) (begun_of found))))
          (sym (with_begun-other n c cs more))
          (subst (λ (place : ℕ). IsRight what u (with_begun n all) (c ∷ with_begun n cs) (slice_set (map (known_in u all) (c ∷ cs)) place (known_in u (with_begun n all) (begun_of found))))
          (sym (place-other n c cs more))
          (stands_still what u all u (with_begun n all) c (still_begun u what n all found c begins more), right_begun u what n all found cs begins single.1 later))
    ]
  where
    some_same : Some c ≡ Some found → c ≡ found
    some_same h = cc

-- reordering changes
still_order : (before : Bool) (all : List HeldCommand) (u : Bool) (cs : List HeldCommand) → AreStill change.Order before all u all cs
still_order before all u [] = tt
still_order before all u (c ∷ cs) = ((λ waits untouched. absurd (false≢true (sym untouched))), still_order before all u cs)

pub right_order : (before u : Bool) (all : List HeldCommand) → IsRight change.Order u all all (map (known_in before all) all)
right_order before u all = right_all change.Order before all u all all (still_order before all u all)

pub right_left : (u : Bool) (leaving : ℕ) (all : List HeldCommand) → IsRight (change.Left leaving) u (without leaving all) (without leaving all) (map (known_in u all) (without leaving all))
right_left u leaving all = right_all (change.Left leaving) u all u (without leaving all) (without leaving all) (still_left u leaving all all)

pub right_entered : (u : Bool) (what : Change) (new : HeldCommand) (all : List HeldCommand) → TouchesBy u true new.held what → new.held.begun ≡ false → IsNone (command_of new.no all)
    → IsRight what u (before_first waits_yet new all) (before_first waits_yet new all) (before_first waits_in (known_in u (before_first waits_yet new all) new) (map (known_in u all) all))
right_entered u what new all sees waits fresh = right_before what u all u (before_first waits_yet new all) new all (still_entered u what new all all sees waits fresh)

pub right_beginning : (u : Bool) (what : Change) (n : ℕ) (all : List HeldCommand) (found : HeldCommand) → IsSingle all → command_of n all ≡ Some found → found.held.begun ≡ false → TouchesBegun u n (begun_of found).held what
    → IsRight what u (with_begun n all) (with_begun n all) (slice_set (map (known_in u all) all) (place_of n all) (known_in u (with_begun n all) (begun_of found)))
right_beginning u what n all found single at waits sees = right_begun u what n all found all (record { single = single; at = at; waits = waits; sees = sees }) single at

-- what is read of a queue is read of what is kept beside it
pub place_kept : (f : HeldCommand → KnownCommand) (test : KnownCommand → Bool) (cs : List HeldCommand) → position_or_len test (map f cs) ≡ position_or_len (λ c. test (f c)) cs
place_kept f test [] = refl
place_kept f test (c ∷ cs) =
    elim (cases_Bool (test (f c))) [
      | inl here ↦ rw here refl
      | inr other ↦ rw other (ap (λ (n : ℕ). 1 + n) (place_kept f test cs))
    ]

pub found_kept : (f : HeldCommand → KnownCommand) (test : KnownCommand → Bool) (cs : List HeldCommand) → find test (map f cs) ≡ option_map f (find (λ c. test (f c)) cs)
found_kept f test [] = refl
found_kept f test (c ∷ cs) =
    elim (cases_Bool (test (f c))) [
      | inl here ↦ rw here refl
      | inr other ↦ rw other (found_kept f test cs)
    ]

pub left_kept : (f : HeldCommand → KnownCommand) (at : ℕ) (cs : List HeldCommand) → at < length cs → remove (map f cs) at ≡ map f (remove cs at)
left_kept f at [] within = absurd (omega (arith, within))
left_kept f zero (c ∷ cs) within = refl
left_kept f (suc at) (c ∷ cs) within = ap (λ (rest : List KnownCommand). f c ∷ rest) (left_kept f at cs (omega (arith, within)))

ready_same : (begun : Bool) (blocker : Option ℕ) → (not begun && is_none (if begun then None else blocker)) ≡ (not begun && is_none blocker)
ready_same true blocker = refl
ready_same false blocker = refl

ready_alike : (set : TaskSet) (c : HeldCommand) → is_ready_in (known_in set.unrestricted set.commands c) ≡ is_ready set c
unfolding blocker_of
ready_alike set c = ready_same c.held.begun (first_to_wait_for set.unrestricted true c set.commands)

pub ready_kept : (set : TaskSet) (cs : List HeldCommand) → number_in (find is_ready_in (map (known_in set.unrestricted set.commands) cs)) ≡ number_of (find (is_ready set) cs)
ready_kept set [] = refl
ready_kept set (c ∷ cs) = go (is_ready_in (known_in set.unrestricted set.commands c)) (is_ready set c) (ready_alike set c) (ready_kept set cs)
  where
    go : (kept told : Bool) → kept ≡ told → number_in (find is_ready_in (map (known_in set.unrestricted set.commands) cs)) ≡ number_of (find (is_ready set) cs)
        → number_in (if kept then Some (known_in set.unrestricted set.commands c) else find is_ready_in (map (known_in set.unrestricted set.commands) cs)) ≡ number_of (if told then Some c else find (is_ready set) cs)
    go true true same later = refl
    go true false same later = absurd (false≢true (sym same))
    go false true same later = absurd (false≢true same)
    go false false same later = later

pub begun_kept : (u : Bool) (all cs : List HeldCommand) → number_in (find has_begun_in (map (known_in u all) cs)) ≡ number_of (find (λ command. command.held.begun) cs)
begun_kept u all [] = refl
begun_kept u all (c ∷ cs) =
    elim (cases_Bool c.held.begun) [
      | inl begun ↦ rw begun refl
      | inr waits ↦ rw waits (begun_kept u all cs)
    ]

pub held_kept : (u : Bool) (n : ℕ) (all cs : List HeldCommand) → find (has_number n) (map (known_in u all) cs) ≡ option_map (known_in u all) (command_of n cs)
held_kept u n all cs = found_kept (known_in u all) (has_number n) cs

-- the same of one command
pub is_held : (f : HeldCommand → KnownCommand) (found : Option HeldCommand) → is_some (option_map f found) ≡ is_some found
is_held f None = refl
is_held f (Some c) = refl

pub waits_alike : (u : Bool) (all : List HeldCommand) (found : Option HeldCommand) (kept : KnownCommand) → option_map (known_in u all) found ≡ Some kept → not kept.begun ≡ option_map_or waits_yet found false
waits_alike u all None kept is = absurd (none_some is)
  where
    none_some : None ≡ Some kept → ⊥
    none_some h = cc
waits_alike u all (Some c) kept is = ap (λ (it : KnownCommand). not it.begun) (sym (some_same is))
  where
    some_same : Some (known_in u all c) ≡ Some kept → known_in u all c ≡ kept
    some_same h = cc

pub absent_alike : (u : Bool) (all : List HeldCommand) (found : Option HeldCommand) → option_map (known_in u all) found ≡ None → found ≡ None
absent_alike u all None is = refl
absent_alike u all (Some c) is = absurd (some_none is)
  where
    some_none : Some (known_in u all c) ≡ None → ⊥
    some_none h = cc

pub blocker_alike : (set : TaskSet) (found : Option HeldCommand) (kept : KnownCommand) → option_map (known_in set.unrestricted set.commands) found ≡ Some kept → IsSomeAnd found (λ c. c.held.begun ≡ false)
    → IfSome found (λ c. kept.blocker ≡ blocker_of set c)
unfolding blocker_of
blocker_alike set None kept is waits = tt
blocker_alike set (Some c) kept is waits = ap (λ (it : KnownCommand). it.blocker) (sym (some_same is)) ∙ blocker_waits set.unrestricted set.commands c waits
  where
    some_same : Some (known_in set.unrestricted set.commands c) ≡ Some kept → known_in set.unrestricted set.commands c ≡ kept
    some_same h = cc

-- where a number stands in what is kept
pub placed_alike : (u : Bool) (n : ℕ) (all cs : List HeldCommand) (kept : List KnownCommand) → kept ≡ map (known_in u all) cs → position_or_len (has_number n) kept ≡ place_of n cs
placed_alike u n all cs kept is = ap (position_or_len (has_number n)) is ∙ place_kept (known_in u all) (has_number n) cs

pub waiting_alike : (u : Bool) (all cs : List HeldCommand) (kept : List KnownCommand) → kept ≡ map (known_in u all) cs → position_or_len waits_in kept ≡ waiting_from cs
waiting_alike u all cs kept is = ap (position_or_len waits_in) is ∙ place_kept (known_in u all) waits_in cs

pub length_alike : (u : Bool) (all cs : List HeldCommand) (kept : List KnownCommand) → kept ≡ map (known_in u all) cs → length kept ≡ length cs
length_alike u all cs kept is = ap length is ∙ length-map cs (known_in u all)

pub right_inserted : (u : Bool) (what : Change) (new entered : HeldCommand) (all : List HeldCommand) (kept : List KnownCommand) (at : ℕ) → kept ≡ map (known_in u all) all → at ≡ waiting_from all → entered ≡ new
    → TouchesBy u true new.held what → new.held.begun ≡ false → IsNone (command_of new.no all) → IsRight what u (insert all at new) (insert all at new) (insert kept at (known_in u (insert all at new) entered))
right_inserted u what new entered all kept at is place same sees waits fresh =
    rw (is, place, same, insert_first waits_yet new all)
    (subst (IsRight what u (before_first waits_yet new all) (before_first waits_yet new all)) (sym inserted) (right_entered u what new all sees waits fresh))
  where
    inserted : insert (map (known_in u all) all) (waiting_from all) (known_in u (before_first waits_yet new all) new) ≡ before_first waits_in (known_in u (before_first waits_yet new all) new) (map (known_in u all) all)
    inserted =
        ap (λ (n : ℕ). insert (map (known_in u all) all) n (known_in u (before_first waits_yet new all) new)) (sym (place_kept (known_in u all) waits_in all))
        ∙ insert_first waits_in (known_in u (before_first waits_yet new all) new) (map (known_in u all) all)

pub right_set : (u : Bool) (what : Change) (n : ℕ) (found entered : HeldCommand) (all : List HeldCommand) (kept : List KnownCommand) (at : ℕ) → kept ≡ map (known_in u all) all → at ≡ place_of n all → IsSingle all
    → command_of n all ≡ Some found → found.held.begun ≡ false → entered ≡ begun_of found → TouchesBegun u n (begun_of found).held what
    → IsRight what u (slice_set all at (begun_of found)) (slice_set all at (begun_of found)) (slice_set kept at (known_in u (slice_set all at (begun_of found)) entered))
right_set u what n found entered all kept at is place single has waits same sees =
    rw (is, place, same, set-place n all found single (place_item n all ∙ has)) (right_beginning u what n all found single has waits sees)

pub right_removed : (u : Bool) (n : ℕ) (all : List HeldCommand) (kept : List KnownCommand) (at : ℕ) → kept ≡ map (known_in u all) all → at ≡ place_of n all → at < length all → IsSingle all
    → IsRight (change.Left n) u (remove all at) (remove all at) (remove kept at)
right_removed u n all kept at is place within single =
    rw (is, left_kept (known_in u all) at all within, place, remove-place n all single) (right_left u n all)

pub number_alike : (u : Bool) (all cs : List HeldCommand) (at : ℕ) → number_in (slice_get (map (known_in u all) cs) at) ≡ number_of (slice_get cs at)
number_alike u all cs at = ap number_in (slice_get-map (known_in u all) cs at) ∙ go (slice_get cs at)
  where
    go : (found : Option HeldCommand) → number_in (option_map (known_in u all) found) ≡ number_of found
    go None = refl
    go (Some c) = refl

pub absent_waits : (found : Option HeldCommand) → found ≡ None → IsSomeAnd found (λ c. c.held.begun ≡ false) → ⊥
absent_waits None is waits = waits
absent_waits (Some c) is waits = some_none is
  where
    some_none : Some c ≡ None → ⊥
    some_none h = cc
