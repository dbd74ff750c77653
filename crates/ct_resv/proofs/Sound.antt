-- Every action keeps registrants few and apart, and the holder registered.
use Rattle.std.proofs.Common.{◌≡◌, ◌≤◌, ◌+◌, ℕ, List, [], ◌∷◌, ◌++◌, length, map, nat_le, Bool, true, false, not, ◌&&◌, ◌||◌, ◌==◌, if◌then◌else◌, Option, None, Some, refl, sym, ap, ◌∙◌, subst, arith, length-append}
use Rattle.std.specs.List.{filter}
use Rattle.std.proofs.lemmas.Bool.Decides.{nat_tests}
use Rattle.std.proofs.lemmas.List.{length-map}
use Rattle.std.proofs.lemmas.List.Folds.{list_any-append}
use Rattle.std.proofs.lemmas.List.Sums.{length-filter, count_by-le-length}
use Rattle.ct_word.specs.Nexuses.{is_same_nexus}
use Rattle.ct_word.specs.declared.names.Nexus.{Nexus}
use Rattle.ct_cdb.specs.declared.choices.ReserveOut.{ReserveOut}
use Rattle.ct_param.specs.declared.resv.ResvList.{ResvList}
use Rattle.ct_resv.specs.declared.registrants.Registrant.{Registrant}
use Rattle.ct_resv.specs.declared.registrants.Named.{Named}
use Rattle.ct_resv.specs.declared.registrants.Named.TheVariants as named
use Rattle.ct_resv.specs.declared.reservations.Reservation.{Reservation}
use Rattle.ct_resv.specs.declared.reservations.Reservations.{Reservations}
use Rattle.ct_resv.specs.Registering.{is_own, is_other, is_registered, has_key, others_of, is_held_by_all}
use Rattle.ct_resv.specs.Changes.{Outcome, added, with_key, ends_without, reservation_without}
use Rattle.ct_resv.specs.Changes.{is_named, is_left, left_of}
use Rattle.ct_resv.specs.Actions.{after_out}
use Rattle.ct_resv.specs.Soundness.{are_apart, is_held, IsSound}
use Rattle.ct_resv.proofs.Sameness.{same_is_equal, differ_swapped, none_kept, stays_registered, some_registrant}
use Rattle.ct_resv.proofs.Walk.{StandsWithout, Each, chosen, each_action}

and_parts : (a b : Bool) → (a && b) ≡ true → (a ≡ true) × (b ≡ true)
and_parts true b e = (refl, e)
and_parts false b e = cc

or_parts : (a b : Bool) → (a || b) ≡ false → (a ≡ false) × (b ≡ false)
or_parts true b e = cc
or_parts false b e = (refl, e)

not_true : (a : Bool) → not a ≡ true → a ≡ false
not_true true e = cc
not_true false e = refl

and_false : (a : Bool) → (a && false) ≡ false
and_false true = refl
and_false false = refl

-- registrants that are apart stay so when some go
apart_kept_by : (keep : Registrant → Bool) (x : Registrant) (xs : List Registrant) (v : Bool) → keep x ≡ v → is_registered x.nexus xs ≡ false
    → are_apart (filter keep xs) ≡ true → are_apart (filter keep (x ∷ xs)) ≡ true
apart_kept_by keep x xs true kept new rest = rw (kept, none_kept (is_own x.nexus) keep xs new, rest) refl
apart_kept_by keep x xs false kept new rest = rw kept rest

apart_kept : (keep : Registrant → Bool) (xs : List Registrant) → are_apart xs ≡ true → are_apart (filter keep xs) ≡ true
apart_kept keep [] apart = refl
apart_kept keep (x ∷ xs) apart =
    let parts = and_parts (not (is_registered x.nexus xs)) (are_apart xs) apart in
    apart_kept_by keep x xs (keep x) refl (not_true (is_registered x.nexus xs) parts.0) (apart_kept keep xs parts.1)

few_kept : (keep : Registrant → Bool) (xs : List Registrant) → length xs ≤ 64 → length (filter keep xs) ≤ 64
few_kept keep xs few = omega (arith, length-filter keep xs, count_by-le-length keep xs)

-- a nexus that isn't registered joins them
apart_added : (xs : List Registrant) (last : Registrant) → are_apart xs ≡ true → is_registered last.nexus xs ≡ false → are_apart (xs ++ last ∷ []) ≡ true
apart_added [] last apart new = refl
apart_added (x ∷ xs) last apart new =
    let parts = and_parts (not (is_registered x.nexus xs)) (are_apart xs) apart in
    let others = or_parts (is_own last.nexus x) (is_registered last.nexus xs) new in
    let differs : is_same_nexus last.nexus x.nexus ≡ false = differ_swapped x.nexus last.nexus others.0 in
    let here : is_registered x.nexus xs ≡ false = not_true (is_registered x.nexus xs) parts.0 in
    let none : is_registered x.nexus (xs ++ last ∷ []) ≡ false = list_any-append (is_own x.nexus) xs (last ∷ []) ∙ rw (here, differs) refl in
    rw (none, apart_added xs last parts.1 others.1) refl

-- another key leaves the nexuses
nexus_kept_by : (nexus : Nexus) (key : ℕ) (x : Registrant) (v : Bool) → (if v then record x { key = key } else x).nexus ≡ x.nexus
nexus_kept_by nexus key x true = refl
nexus_kept_by nexus key x false = refl

nexus_kept : (nexus : Nexus) (key : ℕ) (x : Registrant) → (with_key nexus key x).nexus ≡ x.nexus
nexus_kept nexus key x = nexus_kept_by nexus key x (is_own nexus x)

registered_rekeyed : (who nexus : Nexus) (key : ℕ) (xs : List Registrant) → is_registered who (map (with_key nexus key) xs) ≡ is_registered who xs
registered_rekeyed who nexus key [] = refl
registered_rekeyed who nexus key (x ∷ xs) =
    ap (λ (n : Nexus). is_same_nexus n who || is_registered who (map (with_key nexus key) xs)) (nexus_kept nexus key x)
    ∙ ap (λ (rest : Bool). is_own who x || rest) (registered_rekeyed who nexus key xs)

apart_rekeyed : (nexus : Nexus) (key : ℕ) (xs : List Registrant) → are_apart xs ≡ true → are_apart (map (with_key nexus key) xs) ≡ true
apart_rekeyed nexus key [] apart = refl
apart_rekeyed nexus key (x ∷ xs) apart =
    let parts = and_parts (not (is_registered x.nexus xs)) (are_apart xs) apart in
    let none : is_registered (with_key nexus key x).nexus (map (with_key nexus key) xs) ≡ false =
    ap (λ (n : Nexus). is_registered n (map (with_key nexus key) xs)) (nexus_kept nexus key x)
    ∙ registered_rekeyed x.nexus nexus key xs
    ∙ not_true (is_registered x.nexus xs) parts.0 in
    rw (none, apart_rekeyed nexus key xs parts.1) refl

-- where everyone who was registered is so, a reservation stays held
held_more_by : (all : Bool) (holder : Nexus) (xs ys : List Registrant) → (is_registered holder xs ≡ true → is_registered holder ys ≡ true)
    → (not (length xs == 0) ≡ true → not (length ys == 0) ≡ true)
    → (if all then not (length xs == 0) else is_registered holder xs) ≡ true
    → (if all then not (length ys == 0) else is_registered holder ys) ≡ true
held_more_by true holder xs ys registered some held = some held
held_more_by false holder xs ys registered some held = registered held

held_more : (xs ys : List Registrant) → ((holder : Nexus) → is_registered holder xs ≡ true → is_registered holder ys ≡ true)
    → (not (length xs == 0) ≡ true → not (length ys == 0) ≡ true) → (reservation : Option Reservation) → is_held xs reservation ≡ true
    → is_held ys reservation ≡ true
held_more xs ys registered some None held = refl
held_more xs ys registered some (Some reservation) held =
    held_more_by (is_held_by_all reservation.kind) reservation.holder xs ys (registered reservation.holder) some held

-- a nexus that is registered holds what it reserves
held_by_one : (all : Bool) (holder : Nexus) (xs : List Registrant) → is_registered holder xs ≡ true
    → (if all then not (length xs == 0) else is_registered holder xs) ≡ true
held_by_one true holder xs registered = some_registrant holder xs registered
held_by_one false holder xs registered = registered

-- one that unregisters takes its reservation along
other_stays : (holder nexus : Nexus) (xs : List Registrant) → is_same_nexus holder nexus ≡ false → is_registered holder xs ≡ true → is_registered holder (others_of nexus xs) ≡ true
other_stays holder nexus xs differ registered =
    stays_registered holder (is_other nexus) xs
    (λ r own. let differs : is_same_nexus r.nexus nexus ≡ false = subst (λ (n : Nexus). is_same_nexus n nexus ≡ false) (sym (same_is_equal r.nexus holder own)) differ in rw differs refl)
    ∙ registered

held_without_by : (all : Bool) (holder nexus : Nexus) (xs : List Registrant)
    → (if all then length (others_of nexus xs) == 0 else is_same_nexus holder nexus) ≡ false
    → (if all then not (length xs == 0) else is_registered holder xs) ≡ true
    → (if all then not (length (others_of nexus xs) == 0) else is_registered holder (others_of nexus xs)) ≡ true
held_without_by true holder nexus xs stands held = rw stands refl
held_without_by false holder nexus xs stands held = other_stays holder nexus xs stands held

held_unless : (test : Bool) (xs : List Registrant) (reservation : Reservation) → (test ≡ false → is_held xs (Some reservation) ≡ true)
    → is_held xs (if test then None else Some reservation) ≡ true
held_unless true xs reservation held = refl
held_unless false xs reservation held = held refl

held_without : (nexus : Nexus) (xs : List Registrant) (reservation : Option Reservation) → is_held xs reservation ≡ true
    → is_held (others_of nexus xs) (reservation_without nexus (others_of nexus xs) reservation) ≡ true
held_without nexus xs None held = refl
held_without nexus xs (Some reservation) held =
    held_unless (ends_without nexus (others_of nexus xs) reservation) (others_of nexus xs) reservation
    (λ stands. held_without_by (is_held_by_all reservation.kind) reservation.holder nexus xs stands held)

-- one that preempts stays
asker_stays : (nexus : Nexus) (who : Named) (xs : List Registrant) → is_registered nexus xs ≡ true → is_registered nexus (left_of nexus who xs) ≡ true
asker_stays nexus who xs registered =
    stays_registered nexus (is_left nexus who) xs (λ r own. rw (own, and_false (is_named who r)) refl) ∙ registered

-- so does a holder of another key
holder_stays_by : (nexus holder : Nexus) (key : ℕ) (x : Registrant) (xs : List Registrant) (v w : Bool) → is_own holder x ≡ v → is_left nexus (named.Key key) x ≡ w
    → is_registered holder (x ∷ xs) ≡ true → has_key holder key (x ∷ xs) ≡ false
    → (is_registered holder xs ≡ true → has_key holder key xs ≡ false → is_registered holder (left_of nexus (named.Key key) xs) ≡ true)
    → is_registered holder (left_of nexus (named.Key key) (x ∷ xs)) ≡ true
holder_stays_by nexus holder key x xs true w own left registered other rest =
    let differs : (x.key == key) ≡ false = rw own at other in rw differs (rw own refl)
holder_stays_by nexus holder key x xs false true own left registered other rest =
    rw left (rw own (rest (rw own at registered) (rw own at other)))
holder_stays_by nexus holder key x xs false false own left registered other rest =
    rw left (rest (rw own at registered) (rw own at other))

holder_stays : (nexus holder : Nexus) (key : ℕ) (xs : List Registrant) → is_registered holder xs ≡ true → has_key holder key xs ≡ false
    → is_registered holder (left_of nexus (named.Key key) xs) ≡ true
holder_stays nexus holder key [] registered other = cc
holder_stays nexus holder key (x ∷ xs) registered other =
    holder_stays_by nexus holder key x xs (is_own holder x) (is_left nexus (named.Key key) x) refl refl registered other (holder_stays nexus holder key xs)

held_removed_by : (all : Bool) (nexus holder : Nexus) (key : ℕ) (xs : List Registrant) → is_registered nexus xs ≡ true
    → (not all && has_key holder key xs) ≡ false → (if all then not (length xs == 0) else is_registered holder xs) ≡ true
    → (if all then not (length (left_of nexus (named.Key key) xs) == 0) else is_registered holder (left_of nexus (named.Key key) xs)) ≡ true
held_removed_by true nexus holder key xs here stands held = some_registrant nexus (left_of nexus (named.Key key) xs) (asker_stays nexus (named.Key key) xs here)
held_removed_by false nexus holder key xs here stands held = holder_stays nexus holder key xs held stands

held_removed : (nexus : Nexus) (key : ℕ) (state : Reservations) (reservation : Option Reservation) → is_registered nexus state.registrants ≡ true
    → StandsWithout key state reservation → is_held state.registrants reservation ≡ true
    → is_held (left_of nexus (named.Key key) state.registrants) reservation ≡ true
held_removed nexus key state None here stands held = refl
held_removed nexus key state (Some reservation) here stands held =
    held_removed_by (is_held_by_all reservation.kind) nexus reservation.holder key state.registrants here stands held

abbrev AfterIsSound : Outcome → Type 0
AfterIsSound outcome = IsSound outcome.after

added_sound : (state : Reservations) (nexus : Nexus) (key : ℕ) → IsSound state → is_registered nexus state.registrants ≡ false → AfterIsSound (added nexus key state)
added_sound state nexus key sound new =
    let last : Registrant = record { nexus = nexus; key = key } in
    chosen AfterIsSound (nat_le 64 (length state.registrants)) _ _ (λ _. sound)
    (λ room.
    record {
      few = let short : length state.registrants + 1 ≤ 64 = grind (arith, nat_tests, room) in omega (arith, length-append state.registrants (last ∷ []));
      once = apart_added state.registrants last sound.once new;
      held = held_more state.registrants (state.registrants ++ last ∷ [])
          (λ holder registered. list_any-append (is_own holder) state.registrants (last ∷ []) ∙ rw registered refl)
          (λ some. let size : length (state.registrants ++ last ∷ []) ≡ length state.registrants + 1 = length-append state.registrants (last ∷ []) in rw size (grind (arith, nat_tests)))
          state.reservation sound.held;
    })

each_sound : (state : Reservations) (nexus : Nexus) → IsSound state → Each AfterIsSound state nexus
each_sound state nexus sound = record {
  refused_is = λ fault. sound;
  unchanged_is = sound;
  added_is = λ key new. added_sound state nexus key sound new;
  rekeyed_is = λ key. record {
    few = rw (length-map state.registrants (with_key nexus key)) sound.few;
    once = apart_rekeyed nexus key state.registrants sound.once;
    held = held_more state.registrants (map (with_key nexus key) state.registrants)
        (λ holder registered. registered_rekeyed holder nexus key state.registrants ∙ registered)
        (λ some. rw (length-map state.registrants (with_key nexus key)) some)
        state.reservation sound.held;
  };
  unregistered_is = record {
    few = few_kept (is_other nexus) state.registrants sound.few;
    once = apart_kept (is_other nexus) state.registrants sound.once;
    held = held_without nexus state.registrants state.reservation sound.held;
  };
  reserved_is = λ kind here. record {
    few = sound.few;
    once = sound.once;
    held = held_by_one (is_held_by_all kind) nexus state.registrants here;
  };
  released_is = λ kind. record { few = sound.few; once = sound.once; held = refl };
  cleared_is = record { few = omega arith; once = refl; held = refl };
  removed_is = λ key here stands. record {
    few = few_kept (is_left nexus (named.Key key)) state.registrants sound.few;
    once = apart_kept (is_left nexus (named.Key key)) state.registrants sound.once;
    held = held_removed nexus key state state.reservation here stands sound.held;
  };
  preempted_is = λ old kind who here. record {
    few = few_kept (is_left nexus who) state.registrants sound.few;
    once = apart_kept (is_left nexus who) state.registrants sound.once;
    held = held_by_one (is_held_by_all kind) nexus (left_of nexus who state.registrants) (asker_stays nexus who state.registrants here);
  };
}

pub action_sound : (state : Reservations) (nexus : Nexus) (asked : ReserveOut) (keys : ResvList) → IsSound state → IsSound (after_out state nexus asked keys).after
action_sound state nexus asked keys sound = each_action AfterIsSound state nexus asked keys (each_sound state nexus sound)
