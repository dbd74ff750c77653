-- The journal of a book as its works, replies and events change.
use Rattle.std.proofs.Common.{◌≡◌, inl, inr, ℕ, zero, suc, ◌+◌, ◌-◌, ◌<◌, ◌≤◌, Bool, true, false, List, [], ◌∷◌, ◌++◌}
use Rattle.std.proofs.Common.{length, map, slice_get, slice_set, Option, Some, None, is_some, IsSome, IfSome, refl, sym}
use Rattle.std.proofs.Common.{◌∙◌, ap, subst, arith, sub-one}
use Rattle.std.specs.Prelude.{option_and_then, option_map, IsSomeAnd, if◌then◌else◌}
use Rattle.std.specs.List.{cons_option}
use Rattle.std.proofs.lemmas.Option.{same_Some, none-some, slice_get_within, slice_get_cases, slice_get-map}
use Rattle.std.proofs.lemmas.List.{map-append, length-append, length-map, append-nil}
use Rattle.std.proofs.lemmas.List.Elements.{filter_map-append}
use Rattle.std.proofs.lemmas.Bool.Decides.{nat_tests}
use Rattle.ct_word.specs.Kept.{Kept}
use Rattle.ct_sense.specs.declared.reply.Reply.{Reply}
use Rattle.ct_word.specs.declared.names.Node.{Node}
use Rattle.ct_book.specs.declared.work.Work.TheVariants as work
use Rattle.ct_book.specs.declared.event.Event.{Event}
use Rattle.ct_book.specs.declared.event.Event.TheVariants.{Came, Enter, Turned, Begun, Granted, Moved, Ended, Cut}
use Rattle.ct_book.specs.declared.event.Event.TheVariants.{Asked, Closed, Deliver}
use Rattle.ct_book.specs.declared.event.Logged.{Logged}
use Rattle.ct_book.specs.Journals.{KeptWork, BookState, told_in, reply_of, is_command, line_of, has_room, with_work}
use Rattle.ct_book.specs.Journals.{arrived, numbered, works_in, reply_in, reply_at, IsInOrder, IsNumberedFrom}
use Rattle.ct_book.specs.Facts.{About, NewWork, AnyWork, ACommand, AFunction, facts_of}
use Rattle.ct_book.specs.Kept.{CanBePushed, IsAbout, StandsIf, IsAmongIf, work_at, logged_with, logged_all, IsSettled}
use Rattle.ct_book.specs.Kept.{IsSettledFrom, IsKept, IsBodyOf, AreKept, HasNexus}
use Rattle.ct_book.proofs.Places.{get-push, get-write, numbered-within, numbered-stays, numbered-last, numbered-apart}

-- how many works a journal has, by its first event and the others
pub works-cons : (logged : Logged) (journal : List Logged) → length (works_in (logged ∷ journal)) ≡ length (works_in journal) + length (works_in (logged ∷ []))
works-cons logged journal =
    ap length (filter_map-append (λ (l : Logged). l.work) (logged ∷ []) journal) ∙ length-append (works_in (logged ∷ [])) (works_in journal) ∙ omega arith

pub works-push : (journal : List Logged) (logged : Logged) → works_in (journal ++ logged ∷ []) ≡ works_in journal ++ works_in (logged ∷ [])
works-push journal logged = filter_map-append (λ (l : Logged). l.work) journal (logged ∷ [])

-- one more event
pub numbered-push : (came : ℕ) (journal : List Logged) (logged : Logged) (next : ℕ) → next ≡ suc (length (works_in journal) + came) → IsNumberedFrom came journal → IsInOrder next logged.event logged.work → IsNumberedFrom came (journal ++ logged ∷ [])
numbered-push came [] logged next e all one =
    let P : ℕ → Type 0 = λ n. IsInOrder n logged.event logged.work in
    let same : next ≡ suc came = omega arith in
    (subst P same one, tt)
numbered-push came (first ∷ journal) logged next e all one =
    let count = works-cons first journal in
    (all.0, numbered-push (length (works_in (first ∷ [])) + came) journal logged next (omega arith) all.1 one)

pub settled-push : (came : ℕ) (journal : List Logged) (logged : Logged) (so_far : ℕ) → so_far ≡ length (works_in journal) + came → IsSettledFrom came journal → IsSettled so_far logged.event logged.reply → IsSettledFrom came (journal ++ logged ∷ [])
settled-push came [] logged so_far e all one =
    let P : ℕ → Type 0 = λ n. IsSettled n logged.event logged.reply in
    let same : so_far ≡ came = omega arith in
    (subst P same one, tt)
settled-push came (first ∷ journal) logged so_far e all one =
    let count = works-cons first journal in
    (all.0, settled-push (length (works_in (first ∷ [])) + came) journal logged so_far (omega arith) all.1 one)

-- the works or the replies of a book became others, but those that stood are the same
pub record Keeps {T : Type 0} (look : ℕ → Option T) (look' : ℕ → Option T) : Type 0 where
  pub stays : (number : ℕ) (item : T) → look number ≡ Some item → look' number ≡ Some item

is_the_same : {T : Type 0} (look look' : ℕ → Option T) (number : ℕ) → Keeps look look' → IsSome (look number) → look' number ≡ look number
is_the_same look look' number keeps h = by_cases (look number) refl h where
  by_cases : (o : Option _) → look number ≡ o → IsSome o → look' number ≡ look number
  by_cases None e h = absurd cc
  by_cases (Some item) e h = keeps.stays number item e ∙ sym e

stands : (next number : ℕ) (node : Node) (line : ℕ) (o : Option KeptWork) → IsInOrder next (Came number node line) o → IsSome o
stands next number node line None h = absurd h
stands next number node line (Some came) h = refl

pub same-work : (works works' : List KeptWork) (next : ℕ) (event : Event) → Keeps (λ n. numbered n works) (λ n. numbered n works') → IsInOrder next event (work_at works event) → work_at works' event ≡ work_at works event
same-work works works' next (Came number node line) keeps h =
    is_the_same (λ n. numbered n works) (λ n. numbered n works') number keeps (stands next number node line (numbered number works) h)
same-work works works' next (Enter number) keeps h = refl
same-work works works' next (Turned number) keeps h = refl
same-work works works' next (Begun number) keeps h = refl
same-work works works' next (Granted number) keeps h = refl
same-work works works' next (Moved number count) keeps h = refl
same-work works works' next (Ended number) keeps h = refl
same-work works works' next (Cut number puts why told) keeps h = refl
same-work works works' next (Asked number) keeps h = refl
same-work works works' next (Closed number outcome) keeps h = refl
same-work works works' next (Deliver node kind number) keeps h = refl

pub same-reply : (replies replies' : List (Option Reply)) (came : ℕ) (event : Event) → Keeps (reply_in replies) (reply_in replies') → IsSettled came event (reply_at replies event) → reply_at replies' event ≡ reply_at replies event
same-reply replies replies' came event keeps h = go (facts_of event).has_reply h.0 where
  number : ℕ
  number = (facts_of event).no

  go : (told : Bool) → StandsIf told (if told then reply_in replies number else None) → (if told then reply_in replies' number else None) ≡ (if told then reply_in replies number else None)
  go true stands = is_the_same (reply_in replies) (reply_in replies') number keeps stands
  go false stands = refl

-- the journal stays the same where what stood stays
pub same-journal : (works works' : List KeptWork) (replies replies' : List (Option Reply)) (came came' : ℕ) (events : List Event) → Keeps (λ n. numbered n works) (λ n. numbered n works') → Keeps (reply_in replies) (reply_in replies') → IsNumberedFrom came (logged_all works replies events) → IsSettledFrom came' (logged_all works replies events) → logged_all works' replies' events ≡ logged_all works replies events
same-journal works works' replies replies' came came' [] kw kr n s = refl
same-journal works works' replies replies' came came' (event ∷ events) kw kr n s =
    let w = same-work works works' (suc came) event kw n.0 in
    let r = same-reply replies replies' came' event kr s.0 in
    let rest = same-journal works works' replies replies' (length (works_in (logged_with works replies event ∷ [])) + came) (length (works_in (logged_with works replies event ∷ [])) + came') events kw kr n.1 s.1 in
    let first : logged_with works' replies' event ≡ logged_with works replies event = rw (w, r) in
    ap (λ l. l ∷ logged_all works' replies' events) first ∙ ap (λ l. logged_with works replies event ∷ l) rest

pub keeps-same : {T : Type 0} (look : ℕ → Option T) → Keeps look look
keeps-same look = record { stays = λ number item h. h }

-- an event that can be written is no arrival
not_came : (book : BookState) (event : Event) → CanBePushed book event → work_at book.works event ≡ None
not_came book (Came number node line) h = absurd h.0
not_came book (Enter number) h = refl
not_came book (Turned number) h = refl
not_came book (Begun number) h = refl
not_came book (Granted number) h = refl
not_came book (Moved number count) h = refl
not_came book (Ended number) h = refl
not_came book (Cut number puts why told) h = refl
not_came book (Asked number) h = refl
not_came book (Closed number outcome) h = refl
not_came book (Deliver node kind number) h = refl

pub told : (book : BookState) (event : Event) → CanBePushed book event → logged_with book.works book.replies event ≡ told_in book event
told book event h = ap (λ (o : Option KeptWork). logged_as o) (not_came book event h) where
  logged_as : Option KeptWork → Logged
  logged_as o = record { event = event; work = o; reply = reply_at book.replies event }

in_order : (next : ℕ) (book : BookState) (event : Event) → CanBePushed book event → IsInOrder next event (work_at book.works event)
in_order next book (Came number node line) h = absurd h.0
in_order next book (Enter number) h = tt
in_order next book (Turned number) h = tt
in_order next book (Begun number) h = tt
in_order next book (Granted number) h = tt
in_order next book (Moved number count) h = tt
in_order next book (Ended number) h = tt
in_order next book (Cut number puts why told) h = tt
in_order next book (Asked number) h = tt
in_order next book (Closed number outcome) h = tt
in_order next book (Deliver node kind number) h = tt

within : (number : ℕ) (works : List KeptWork) (P : KeptWork → Type 0) → IsSomeAnd (numbered number works) P → number ≤ length works
within number works P h = by_cases (numbered number works) refl h where
  by_cases : (o : Option KeptWork) → numbered number works ≡ o → IsSomeAnd o P → number ≤ length works
  by_cases None e h = absurd h
  by_cases (Some came) e h = numbered-within number works came e

among : (book : BookState) (about : About) (number : ℕ) → IsAbout book about number → number ≤ length book.works
among book NewWork number h = absurd h
among book AnyWork number h = within number book.works (λ came. Unit {0}) (some_and (numbered number book.works) h) where
  some_and : (o : Option KeptWork) → IsSome o → IsSomeAnd o (λ came. Unit {0})
  some_and None h = absurd cc
  some_and (Some came) h = tt
among book ACommand number h = within number book.works (λ came. is_command came ≡ true) h
among book AFunction number h = within number book.works (λ came. is_command came ≡ false) h

settled : (book : BookState) (event : Event) → CanBePushed book event → IsSettled (length book.works) event (reply_at book.replies event)
settled book event h = (stands (facts_of event).has_reply h.2, is_among (facts_of event).is_entry) where
  number : ℕ
  number = (facts_of event).no

  stands : (told : Bool) → StandsIf told (reply_of book number) → StandsIf told (if told then reply_in book.replies number else None)
  stands true h = h
  stands false h = tt

  is_among : (entry : Bool) → IsAmongIf entry number (length book.works)
  is_among true = among book (facts_of event).about number h.0
  is_among false = tt

-- what a book keeps of its journal, at other events
pub record HasJournal (works : List KeptWork) (journal : List Logged) : Type 0 where
  pub in_order : IsNumberedFrom 0 journal
  pub come : works ≡ works_in journal
  pub settled : IsSettledFrom 0 journal

pub journal-push : (book : BookState) (events : List Event) (event : Event) → CanBePushed book event → HasJournal book.works (logged_all book.works book.replies events) → HasJournal book.works (logged_all book.works book.replies (events ++ event ∷ []))
journal-push book events event h has =
    let journal = logged_all book.works book.replies events in
    let last = logged_with book.works book.replies event in
    let count : length book.works ≡ length (works_in journal) = ap length has.come in
    let none : works_in (last ∷ []) ≡ [] = ap (λ o. cons_option o []) (not_came book event h) in
    rw (map-append (logged_with book.works book.replies) events (event ∷ [])) (record {
      in_order = numbered-push 0 journal last (suc (length book.works)) (omega arith) has.in_order (in_order (suc (length book.works)) book event h);
      come = has.come ∙ sym (works-push journal last ∙ ap (λ l. works_in journal ++ l) none ∙ append-nil (works_in journal));
      settled = settled-push 0 journal last (length book.works) (omega arith) has.settled (settled book event h);
    })

-- room for a work, and what an arrival leaves of it
pub record HasRoom (book : BookState) (came : KeptWork) (pieces : ℕ) : Type 0 where
  pub command : is_command came ≡ true → 0 < book.commands
  pub function : is_command came ≡ false → 0 < book.functions
  pub some : (if is_command came then book.commands - 1 else book.commands) + (if is_command came then book.functions else book.functions - 1) + 1 ≡ book.commands + book.functions
  pub enough : pieces ≤ book.pieces

pub has-room : (book : BookState) (came : KeptWork) (pieces : ℕ) → has_room book came pieces ≡ true → HasRoom book came pieces
has-room book (work.Cmd command) pieces h =
    let both : (0 < book.commands) × (pieces ≤ book.pieces) = grind (arith, nat_tests) in
    record { command = λ _. both.0; function = λ e. absurd cc; some = omega (arith, both.0); enough = both.1 }
has-room book (work.Ask ask) pieces h =
    let both : (0 < book.functions) × (pieces ≤ book.pieces) = grind (arith, nat_tests) in
    record { command = λ e. absurd cc; function = λ _. both.0; some = omega (arith, both.0); enough = both.1 }

-- the book after an arrival, field by field
pub with-work : (book : BookState) (node : Node) (came : KeptWork) (pieces : ℕ) → with_work book node came pieces ≡ record {
  journal = book.journal ++ arrived (length book.works + 1) node came ∷ [];
  works = book.works ++ came ∷ [];
  replies = book.replies ++ None ∷ [];
  untaken = book.untaken ++ is_command came ∷ [];
  commands = if is_command came then book.commands - 1 else book.commands;
  functions = if is_command came then book.functions else book.functions - 1;
  pieces = book.pieces - pieces;
  spare = book.spare - 1;
}
with-work book node (work.Cmd command) pieces = refl
with-work book node (work.Ask ask) pieces = refl

reply-stays : (replies : List (Option Reply)) (number : ℕ) (reply : Reply) → reply_in replies number ≡ Some reply → reply_in (replies ++ None ∷ []) number ≡ Some reply
reply-stays replies number reply h = by_cases (numbered number replies) refl h where
  by_cases : (o : Option (Option Reply)) → numbered number replies ≡ o → option_and_then (λ reply. reply) o ≡ Some reply → reply_in (replies ++ None ∷ []) number ≡ Some reply
  by_cases None e h = absurd cc
  by_cases (Some kept) e h = ap (option_and_then (λ reply. reply)) (numbered-stays number replies (None ∷ []) kept e) ∙ h

-- an arrival, whose work takes the next number
pub journal-add : (works : List KeptWork) (replies : List (Option Reply)) (events : List Event) (came : KeptWork) (node : Node) → HasJournal works (logged_all works replies events)
    → (logged_all (works ++ came ∷ []) (replies ++ None ∷ []) (events ++ Came (length works + 1) node (line_of came) ∷ []) ≡ logged_all works replies events ++ arrived (length works + 1) node came ∷ [])
    × HasJournal (works ++ came ∷ []) (logged_all works replies events ++ arrived (length works + 1) node came ∷ [])
journal-add works replies events came node has =
    let works' = works ++ came ∷ [] in
    let replies' : List (Option Reply) = replies ++ None ∷ [] in
    let journal = logged_all works replies events in
    let event = Came (length works + 1) node (line_of came) in
    let last = arrived (length works + 1) node came in
    let kept_works : Keeps (λ n. numbered n works) (λ n. numbered n works') = record { stays = λ number item h. numbered-stays number works (came ∷ []) item h } in
    let kept_replies : Keeps (reply_in replies) (reply_in replies') = record { stays = λ number reply h. reply-stays replies number reply h } in
    let same = same-journal works works' replies replies' 0 0 events kept_works kept_replies has.in_order has.settled in
    let found : numbered (length works + 1) works' ≡ Some came = numbered-last (length works + 1) works came (omega arith) in
    let as_last : logged_with works' replies' event ≡ last = rw found in
    let count : length works ≡ length (works_in journal) = ap length has.come in (
      map-append (logged_with works' replies') events (event ∷ []) ∙ ap (λ l. logged_all works' replies' events ++ l ∷ []) as_last ∙ ap (λ l. l ++ last ∷ []) same,
      record {
        in_order = numbered-push 0 journal last (length works + 1) (omega arith) has.in_order (refl, refl);
        come = ap (λ l. l ++ came ∷ []) has.come ∙ sym (works-push journal last);
        settled = settled-push 0 journal last (length works) (omega arith) has.settled (tt, tt);
      },
    )

pub kept-push : (works : List KeptWork) (bodies : List (Option (Kept ℕ))) (came : KeptWork) (body : Option (Kept ℕ)) → length bodies ≡ length works → AreKept works bodies → IsKept came body → AreKept (works ++ came ∷ []) (bodies ++ body ∷ [])
kept-push works bodies came body n all one i d b hw hb =
    elim (get-push works came i d hw) [
      | inl old_w ↦ elim (get-push bodies body i b hb) [
        | inl old_b ↦ all i d b old_w old_b
        | inr w ↦ absurd (omega (arith, slice_get_within works i d old_w))
      ]
      | inr new_w ↦ elim (get-push bodies body i b hb) [
        | inl old_b ↦ absurd (omega (arith, slice_get_within bodies i b old_b))
        | inr new_b ↦
            let P : KeptWork → Type 0 = λ x. IsKept x b in
            let Q : Option (Kept ℕ) → Type 0 = λ x. IsKept came x in
            subst P new_w.1 (subst Q new_b.1 one)
      ]
    ]

-- a reply, where none stood
pub given : (number : ℕ) (works : List KeptWork) (P : KeptWork → Type 0) → IsSomeAnd (numbered number works) P → 0 < number
given zero works P h = absurd h
given (suc before) works P h = omega arith

pub journal-answer : (works : List KeptWork) (replies : List (Option Reply)) (events : List Event) (number : ℕ) (reply : Reply) → HasJournal works (logged_all works replies events) → 0 < number → reply_in replies number ≡ None → logged_all works (slice_set replies (number - 1) (Some reply)) events ≡ logged_all works replies events
journal-answer works replies events number reply has one without =
    same-journal works works replies (slice_set replies (number - 1) (Some reply)) 0 0 events (keeps-same (λ n. numbered n works)) (record {
      stays = λ other item h.
          let apart : other ≡ number → ⊥ = λ e. let same : reply_in replies other ≡ reply_in replies number = ap (reply_in replies) e in absurd (none-some item (sym without ∙ sym same ∙ h)) in
          ap (option_and_then (λ reply. reply)) (numbered-apart other replies number (Some reply) one apart) ∙ h;
    }) has.in_order has.settled

body_at : (works : List KeptWork) (bodies : List (Option (Kept ℕ))) (i : ℕ) (came : KeptWork) → length bodies ≡ length works → slice_get works i ≡ Some came → (body : Option (Kept ℕ)) × (slice_get bodies i ≡ Some body)
body_at works bodies i came n h =
    let within = slice_get_within works i came h in
    elim (slice_get_cases bodies i).1 [ inl found ↦ (found.0, found.2) | inr past ↦ absurd (omega (arith, past.0)) ]

-- a body that was taken
nexus_of : (came : KeptWork) (body : Option (Kept ℕ)) → IsKept came body → HasNexus came
nexus_of came None kept = kept
nexus_of (work.Cmd command) (Some body) kept = kept.nexus
nexus_of (work.Ask ask) (Some body) kept = tt

pub kept-take : (works : List KeptWork) (bodies : List (Option (Kept ℕ))) (k : ℕ) → length bodies ≡ length works → AreKept works bodies → AreKept works (slice_set bodies k None)
kept-take works bodies k n all i d b hw hb =
    elim (get-write bodies k None i b hb) [
      | inl old ↦ all i d b hw old
      | inr w ↦
          let was = body_at works bodies i d n hw in
          let P : Option (Kept ℕ) → Type 0 = λ x. IsKept d x in
          subst P w.1 (nexus_of d was.0 (all i d was.0 hw was.1))
    ]

pub nexus-place : (works : List KeptWork) (bodies : List (Option (Kept ℕ))) (place : ℕ) → length bodies ≡ length works → AreKept works bodies → IfSome (slice_get works place) HasNexus
nexus-place works bodies place n all = by_cases (slice_get works place) refl where
  by_cases : (o : Option KeptWork) → slice_get works place ≡ o → IfSome o HasNexus
  by_cases None e = tt
  by_cases (Some came) e = let was = body_at works bodies place came n e in nexus_of came was.0 (all place came was.0 e was.1)

pub nexus-at : (works : List KeptWork) (bodies : List (Option (Kept ℕ))) (number : ℕ) → length bodies ≡ length works → AreKept works bodies → IfSome (numbered number works) HasNexus
nexus-at works bodies zero n all = tt
nexus-at works bodies (suc before) n all = nexus-place works bodies before n all

-- the body under a number whose list wasn't taken
pub body-of : (works : List KeptWork) (bodies : List (Option (Kept ℕ))) (number : ℕ) (body : Kept ℕ) → length bodies ≡ length works → AreKept works bodies → slice_get bodies (number - 1) ≡ Some (Some body) → 0 < number → IsSomeAnd (numbered number works) (λ came. IsBodyOf came body)
body-of works bodies zero body n all h one = absurd (omega arith)
body-of works bodies (suc before) body n all h one = by_cases (slice_get works before) refl where
  at : slice_get bodies before ≡ Some (Some body)
  at = rw sub-one at h

  by_cases : (o : Option KeptWork) → slice_get works before ≡ o → IsSomeAnd o (λ came. IsBodyOf came body)
  by_cases None e =
      let within : before < length bodies = slice_get_within bodies before (Some body) at in
      elim (slice_get_cases works before).1 [ inl found ↦ absurd (none-some found.0 (sym e ∙ found.2)) | inr past ↦ absurd (omega (arith, past.0)) ]
  by_cases (Some came) e = all before came (Some body) e at

pub untaken : (bodies : List (Option (Kept ℕ))) (number : ℕ) → numbered number (map is_some bodies) ≡ Some true → (0 < number) × (number - 1 < length bodies) × ((body : Option (Kept ℕ)) → slice_get bodies (number - 1) ≡ Some body → is_some body ≡ true)
untaken bodies zero h = absurd cc
untaken bodies (suc before) h =
    let e : slice_get (map is_some bodies) before ≡ option_map is_some (slice_get bodies before) = slice_get-map is_some bodies before in
    let within : before < length (map (λ (b : Option (Kept ℕ)). is_some b) bodies) = slice_get_within (map is_some bodies) before true h in (
      omega arith,
      omega (arith, within, length-map bodies (λ (b : Option (Kept ℕ)). is_some b)),
      λ body found.
          let at : slice_get bodies before ≡ Some body = rw sub-one at found in
          same_Some _ _ (ap (option_map is_some) (sym at) ∙ sym e ∙ h),
    )

-- the place of an arrival
pub fresh-last : (works : List KeptWork) (bodies : List (Option (Kept ℕ))) (replies : List (Option Reply)) (came : KeptWork) (body : Option (Kept ℕ)) (number : ℕ) → length bodies ≡ length works → length replies ≡ length works → number ≡ length works + 1 → is_some body ≡ is_command came
    → (numbered number (works ++ came ∷ []) ≡ Some came) × (reply_in (replies ++ None ∷ []) number ≡ None) × (numbered number (map is_some (bodies ++ body ∷ [])) ≡ Some (is_command came))
fresh-last works bodies replies came body number n m e same =
    let size = length-map bodies (λ (b : Option (Kept ℕ)). is_some b) in (
      numbered-last number works came (omega arith),
      ap (option_and_then (λ reply. reply)) (numbered-last number replies None (omega arith)),
      rw map-append (numbered-last number (map is_some bodies) (is_some body) (omega arith) ∙ ap Some same),
    )
