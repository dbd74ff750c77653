-- The history of a journal, event by event.
use Rattle.std.proofs.Common.{◌≡◌, ℕ, zero, suc, ◌+◌, ◌<◌, ◌≤◌, ◌==◌, Bool, true, false, List, [], ◌∷◌, ◌++◌, length, take, drop, slice_get, Option, Some, None, refl, sym, ◌∙◌, ap, subst, arith, add-one, append_assoc}
use Rattle.std.specs.Prelude.{if◌then◌else◌}
use Rattle.std.proofs.lemmas.Option.{same_Some}
use Rattle.std.proofs.lemmas.List.{append-nil}
use Rattle.std.proofs.lemmas.List.Elements.{filter_map-append}
use Rattle.ct_word.specs.declared.names.Nexus.{Nexus}
use Rattle.ct_sense.specs.declared.reply.Reply.{Reply}
use Rattle.ct_tmf.specs.declared.function.Function.{Function}
use Rattle.ct_tmf.specs.declared.function.Function.TheVariants.{AbortTask, AbortTaskSet, ClearTaskSet, LunReset, NexusReset, QueryTask, QueryTaskSet, ClearAca}
use Rattle.ct_tmf.specs.declared.function.Outcome.{Outcome}
use Rattle.ct_book.specs.declared.work.Work.TheVariants as work
use Rattle.ct_book.specs.declared.event.Event.{Event}
use Rattle.ct_book.specs.declared.event.Event.TheVariants.{Came, Enter, Turned, Begun, Granted, Moved, Ended, Cut, Asked, Closed, Deliver}
use Rattle.ct_book.specs.declared.event.Why.TheVariants.{By, Medium}
use Rattle.ct_book.specs.declared.event.Logged.{Logged}
use Rattle.ct_book.specs.Journals.{KeptWork, numbered, works_in}
use Rattle.ct_book.specs.Histories.{cut_at, cut_by, with_other, with_cut, others_of, set_of, set_by, entries_at, history_behind, history_of}
use Rattle.ct_book.specs.Kept.{IsSettled, IsSettledFrom}
use Rattle.ct_book.proofs.Places.{numbered-left}
use Rattle.ct_book.proofs.Pages.{works-cons}

pub take-more : {X : Type 0} (xs : List X) (i : ℕ) (x : X) → slice_get xs i ≡ Some x → take (i + 1) xs ≡ take i xs ++ x ∷ []
take-more xs i x h = rw add-one (more xs i h) where
  more : (xs : List _) (i : ℕ) → slice_get xs i ≡ Some x → take (suc i) xs ≡ take i xs ++ x ∷ []
  more [] i h = absurd cc
  more (y ∷ ys) zero h = ap (λ z. z ∷ []) (same_Some _ _ h)
  more (y ∷ ys) (suc i) h = ap (λ l. y ∷ l) (more ys i h)

pub parts : {X : Type 0} (xs : List X) (i : ℕ) (x : X) → slice_get xs i ≡ Some x → xs ≡ take i xs ++ x ∷ drop (suc i) xs
parts [] i x h = absurd cc
parts (y ∷ ys) zero x h = ap (λ z. z ∷ ys) (same_Some _ _ h)
parts (y ∷ ys) (suc i) x h = ap (λ l. y ∷ l) (parts ys i x h)

-- what is behind a place, of a front
pub drop-front : {X : Type 0} (xs : List X) (front i : ℕ) (x : X) → i < front → slice_get xs i ≡ Some x → drop i (take front xs) ≡ x ∷ drop (i + 1) (take front xs)
drop-front xs front i x l h = rw add-one (more xs front i l h) where
  more : (xs : List _) (front i : ℕ) → i < front → slice_get xs i ≡ Some x → drop i (take front xs) ≡ x ∷ drop (suc i) (take front xs)
  more [] front i l h = absurd cc
  more (y ∷ ys) zero i l h = absurd (omega arith)
  more (y ∷ ys) (suc front) zero l h = ap (λ z. z ∷ take front ys) (same_Some _ _ h)
  more (y ∷ ys) (suc front) (suc i) l h = more ys front i (omega arith) h

-- the walk over what a work cut takes one more event
pub others-cut : (by : ℕ) (asker : Nexus) (works : List KeptWork) (event : Event) (numbers : List ℕ) → others_of asker works (cut_at by event ++ numbers) ≡ with_cut by asker works event (others_of asker works numbers)
others-cut by asker works (Cut number puts (By cutter) told) numbers = at (cutter == by) where
  at : (same : Bool) → others_of asker works ((if same then number ∷ [] else []) ++ numbers) ≡ (if same then with_other asker (numbered number works) (others_of asker works numbers) else others_of asker works numbers)
  at true = refl
  at false = refl
others-cut by asker works (Cut number puts Medium told) numbers = refl
others-cut by asker works (Came number node line) numbers = refl
others-cut by asker works (Enter number) numbers = refl
others-cut by asker works (Turned number) numbers = refl
others-cut by asker works (Begun number) numbers = refl
others-cut by asker works (Granted number) numbers = refl
others-cut by asker works (Moved number count) numbers = refl
others-cut by asker works (Ended number) numbers = refl
others-cut by asker works (Asked number) numbers = refl
others-cut by asker works (Closed number outcome) numbers = refl
others-cut by asker works (Deliver node kind number) numbers = refl

-- the numbers are of the first works
abbrev pub AreUpTo : ℕ → List ℕ → Type 0
AreUpTo count [] = Unit {0}
AreUpTo count (number ∷ numbers) = (number ≤ count) × AreUpTo count numbers

up-to-append : (count : ℕ) (xs ys : List ℕ) → AreUpTo count xs → AreUpTo count ys → AreUpTo count (xs ++ ys)
up-to-append count [] ys h k = k
up-to-append count (x ∷ xs) ys h k = (h.0, up-to-append count xs ys h.1 k)

up-to-more : (count more : ℕ) (xs : List ℕ) → count ≤ more → AreUpTo count xs → AreUpTo more xs
up-to-more count more [] l h = tt
up-to-more count more (x ∷ xs) l h = (omega (arith, h.0), up-to-more count more xs l h.1)

cut_up_to : (by came : ℕ) (event : Event) (reply : Option Reply) → IsSettled came event reply → AreUpTo came (cut_at by event)
cut_up_to by came (Cut number puts (By cutter) told) reply h = at (cutter == by) where
  at : (same : Bool) → AreUpTo came (if same then number ∷ [] else [])
  at true = (h.1, tt)
  at false = tt
cut_up_to by came (Cut number puts Medium told) reply h = tt
cut_up_to by came (Came number node line) reply h = tt
cut_up_to by came (Enter number) reply h = tt
cut_up_to by came (Turned number) reply h = tt
cut_up_to by came (Begun number) reply h = tt
cut_up_to by came (Granted number) reply h = tt
cut_up_to by came (Moved number count) reply h = tt
cut_up_to by came (Ended number) reply h = tt
cut_up_to by came (Asked number) reply h = tt
cut_up_to by came (Closed number outcome) reply h = tt
cut_up_to by came (Deliver node kind number) reply h = tt

cuts_up_to : (by came so_far : ℕ) (journal : List Logged) → so_far ≡ length (works_in journal) + came → IsSettledFrom came journal → AreUpTo so_far (cut_by by journal)
cuts_up_to by came so_far [] e h = tt
cuts_up_to by came so_far (logged ∷ journal) e h =
    let count = works-cons logged journal in
    up-to-append so_far (cut_at by logged.event) (cut_by by journal)
    (up-to-more came so_far (cut_at by logged.event) (omega arith) (cut_up_to by came logged.event logged.reply h.0))
    (cuts_up_to by (length (works_in (logged ∷ [])) + came) so_far journal (omega arith) h.1)

settled_split : (came so_far : ℕ) (before : List Logged) (logged : Logged) (after : List Logged) → so_far ≡ length (works_in before) + came → IsSettledFrom came (before ++ logged ∷ after) → IsSettledFrom came before × IsSettled so_far logged.event logged.reply
settled_split came so_far [] logged after e h =
    let P : ℕ → Type 0 = λ n. IsSettled n logged.event logged.reply in
    let same : came ≡ so_far = omega arith in
    (tt, subst P same h.0)
settled_split came so_far (first ∷ before) logged after e h =
    let count = works-cons first before in
    let rest = settled_split (length (works_in (first ∷ [])) + came) so_far before logged after (omega arith) h.1 in
    ((h.0, rest.0), rest.1)

-- later works change no set
others_left : (asker : Nexus) (works more : List KeptWork) (numbers : List ℕ) → AreUpTo (length works) numbers → others_of asker (works ++ more) numbers ≡ others_of asker works numbers
others_left asker works more [] h = refl
others_left asker works more (number ∷ numbers) h =
    ap (λ o. with_other asker o (others_of asker (works ++ more) numbers)) (numbered-left number works more h.0) ∙ ap (with_other asker (numbered number works)) (others_left asker works more numbers h.1)

set_left : (function : Function) (asker : Nexus) (works more : List KeptWork) (numbers : List ℕ) → AreUpTo (length works) numbers → set_of function asker (works ++ more) numbers ≡ set_of function asker works numbers
set_left ClearTaskSet asker works more numbers h = others_left asker works more numbers h
set_left (AbortTask tag) asker works more numbers h = refl
set_left AbortTaskSet asker works more numbers h = refl
set_left LunReset asker works more numbers h = refl
set_left NexusReset asker works more numbers h = refl
set_left (QueryTask tag) asker works more numbers h = refl
set_left QueryTaskSet asker works more numbers h = refl
set_left ClearAca asker works more numbers h = refl

set_by_left : (o : Option KeptWork) (works more : List KeptWork) (numbers : List ℕ) → AreUpTo (length works) numbers → set_by o (works ++ more) numbers ≡ set_by o works numbers
set_by_left None works more numbers h = refl
set_by_left (Some (work.Cmd command)) works more numbers h = refl
set_by_left (Some (work.Ask ask)) works more numbers h = set_left ask.function ask.nexus works more numbers h

-- the set of a function that was closed, by all works or by those that had come
pub closed-set : (works : List KeptWork) (journal : List Logged) (place number : ℕ) (outcome : Outcome) (logged : Logged) → works ≡ works_in journal → IsSettledFrom 0 journal → slice_get journal place ≡ Some logged → logged.event ≡ Closed number outcome
    → set_by (numbered number works) works (cut_by number (take place journal)) ≡ set_by (numbered number (works_in (take place journal))) (works_in (take place journal)) (cut_by number (take place journal))
closed-set works journal place number outcome logged come settled at is =
    let before = take place journal in
    let after = drop (suc place) journal in
    let whole : journal ≡ before ++ logged ∷ after = parts journal place logged at in
    let front = works_in before in
    let more = works_in (logged ∷ after) in
    let all : works ≡ front ++ more = come ∙ ap works_in whole ∙ filter_map-append (λ (l : Logged). l.work) before (logged ∷ after) in
    let P : List Logged → Type 0 = IsSettledFrom 0 in
    let split = settled_split 0 (length front) before logged after (omega arith) (subst P whole settled) in
    let Q : Event → Type 0 = λ e. IsSettled (length front) e logged.reply in
    let within : number ≤ length front = (subst Q is split.1).1 in
    let cuts = cuts_up_to number 0 (length front) before (omega arith) split.0 in
    ap (λ w. set_by (numbered number w) w (cut_by number before)) all
    ∙ ap (λ o. set_by o (front ++ more) (cut_by number before)) (numbered-left number front more within)
    ∙ set_by_left (numbered number front) front more (cut_by number before) cuts

behind_push : (before journal : List Logged) (logged : Logged) → history_behind before (journal ++ logged ∷ []) ≡ history_behind before journal ++ entries_at (before ++ journal) logged.event
behind_push before [] logged = append-nil (entries_at before logged.event) ∙ ap (λ l. entries_at l logged.event) (sym (append-nil before))
behind_push before (first ∷ journal) logged =
    ap (λ l. entries_at before first.event ++ l) (behind_push (before ++ first ∷ []) journal logged ∙ ap (λ l. history_behind (before ++ first ∷ []) journal ++ entries_at l logged.event) (append_assoc before (first ∷ []) journal))
    ∙ sym (append_assoc (entries_at before first.event) (history_behind (before ++ first ∷ []) journal) (entries_at (before ++ first ∷ journal) logged.event))

-- the history of one more event
pub history-more : (journal : List Logged) (place : ℕ) (logged : Logged) → slice_get journal place ≡ Some logged → history_of (take (place + 1) journal) ≡ history_of (take place journal) ++ entries_at (take place journal) logged.event
unfolding history_of
history-more journal place logged at = ap (history_behind []) (take-more journal place logged at) ∙ behind_push [] (take place journal) logged

pub history-none : history_of [] ≡ []
unfolding history_of
history-none = refl
