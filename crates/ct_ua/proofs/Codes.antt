-- Sets of codes, and the first of them.
use Rattle.std.proofs.Common.{◌≡◌, List, [], ◌∷◌, Bool, true, false, Option, None, Some, IfSome, IfNone, if◌then◌else◌, refl, sym, ap, ◌∙◌}
use Rattle.ct_word.specs.declared.names.Code.{Code}
use Rattle.ct_word.specs.declared.names.Code.TheVariants as code
use Rattle.ct_ua.specs.declared.code_set.CodeSet.{CodeSet}
use Rattle.ct_ua.specs.CodeSets.{has_code, put_code, with_code, no_codes, told_in_order, first_among, first_of, IsFirst}

-- what was put is there
pub has-put : (set : CodeSet) (code : Code) (is_in : Bool) → has_code (put_code set code is_in) code ≡ is_in
has-put set code.Reset is_in = refl
has-put set code.PowerOn is_in = refl
has-put set code.NexusLoss is_in = refl
has-put set code.ModeChanged is_in = refl
has-put set code.ReservationsPreempted is_in = refl
has-put set code.ReservationsReleased is_in = refl
has-put set code.RegistrationsPreempted is_in = refl
has-put set code.AccessStateChanged is_in = refl
has-put set code.CommandsCleared is_in = refl

-- what is there already changes nothing
pub put-same : (set : CodeSet) (code : Code) (is_in : Bool) → has_code set code ≡ is_in → put_code set code is_in ≡ set
put-same set code.Reset is_in e = ap (λ b. put_code set code.Reset b) (sym e)
put-same set code.PowerOn is_in e = ap (λ b. put_code set code.PowerOn b) (sym e)
put-same set code.NexusLoss is_in e = ap (λ b. put_code set code.NexusLoss b) (sym e)
put-same set code.ModeChanged is_in e = ap (λ b. put_code set code.ModeChanged b) (sym e)
put-same set code.ReservationsPreempted is_in e = ap (λ b. put_code set code.ReservationsPreempted b) (sym e)
put-same set code.ReservationsReleased is_in e = ap (λ b. put_code set code.ReservationsReleased b) (sym e)
put-same set code.RegistrationsPreempted is_in e = ap (λ b. put_code set code.RegistrationsPreempted b) (sym e)
put-same set code.AccessStateChanged is_in e = ap (λ b. put_code set code.AccessStateChanged b) (sym e)
put-same set code.CommandsCleared is_in e = ap (λ b. put_code set code.CommandsCleared b) (sym e)

first_among_by : (answer : Bool) (code : Code) (codes : List Code) (set : CodeSet) (first : Code)
    → has_code set code ≡ answer → (if answer then Some code else first_among codes set) ≡ Some first
    → (first_among codes set ≡ Some first → IsFirst codes set first) → IsFirst (code ∷ codes) set first
first_among_by true code codes set first is e more =
    let same : code ≡ first = cc in
    record {
      before = [];
      after = codes;
      order = ap (λ c. c ∷ codes) same;
      is_in = ap (has_code set) (sym same) ∙ is;
      none_before = refl;
    }
first_among_by false code codes set first is e more =
    let rest : IsFirst codes set first = more e in
    record {
      before = code ∷ rest.before;
      after = rest.after;
      order = ap (λ (l : List Code). code ∷ l) rest.order;
      is_in = rest.is_in;
      none_before = rw (is, rest.none_before) refl;
    }

first_among_is : (codes : List Code) (set : CodeSet) (first : Code) → first_among codes set ≡ Some first → IsFirst codes set first
first_among_is [] set first e = cc
first_among_is (code ∷ codes) set first e =
    first_among_by (has_code set code) code codes set first refl e (λ more. first_among_is codes set first more)

-- the first code of a set, by the order of codes
pub first_is : (set : CodeSet) (first : Code) → first_of set ≡ Some first → IsFirst told_in_order set first
first_is set first e = first_among_is told_in_order set first e

-- a set without a first code is empty
none_of : (a b c d e f g h i : Bool) → first_of (record { reset = a; power_on = b; nexus_loss = c; mode_changed = d; reservations_preempted = e; reservations_released = f; registrations_preempted = g; access_state_changed = h; commands_cleared = i }) ≡ None → record { reset = a; power_on = b; nexus_loss = c; mode_changed = d; reservations_preempted = e; reservations_released = f; registrations_preempted = g; access_state_changed = h; commands_cleared = i } ≡ no_codes
none_of true b c d e f g h i none = cc
none_of false true c d e f g h i none = cc
none_of false false true d e f g h i none = cc
none_of false false false true e f g h i none = cc
none_of false false false false true f g h i none = cc
none_of false false false false false true g h i none = cc
none_of false false false false false false true h i none = cc
none_of false false false false false false false true i none = cc
none_of false false false false false false false false true none = cc
none_of false false false false false false false false false none = refl

pub none_is : (set : CodeSet) → first_of set ≡ None → set ≡ no_codes
none_is set none =
    none_of set.reset set.power_on set.nexus_loss set.mode_changed set.reservations_preempted set.reservations_released set.registrations_preempted set.access_state_changed set.commands_cleared none

-- a code alone is the first
pub first_alone : (code : Code) → first_of (with_code no_codes code) ≡ Some code
first_alone code.Reset = refl
first_alone code.PowerOn = refl
first_alone code.NexusLoss = refl
first_alone code.ModeChanged = refl
first_alone code.ReservationsPreempted = refl
first_alone code.ReservationsReleased = refl
first_alone code.RegistrationsPreempted = refl
first_alone code.AccessStateChanged = refl
first_alone code.CommandsCleared = refl

told : (set : CodeSet) (first : Option Code) → first_of set ≡ first
    → IfSome first (λ code. IsFirst told_in_order set code) × IfNone first (set ≡ no_codes)
told set None none = (tt, none_is set none)
told set (Some first) some = (first_is set first some, tt)

pub first_or_none : (set : CodeSet) → IfSome (first_of set) (λ first. IsFirst told_in_order set first) × IfNone (first_of set) (set ≡ no_codes)
first_or_none set = told set (first_of set) refl
