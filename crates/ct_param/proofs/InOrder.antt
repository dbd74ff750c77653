-- Descriptors in order are apart.
use Rattle.std.proofs.Common.{◌≡◌, List, [], ◌∷◌, true, refl, arith}
use Rattle.std.specs.List.{list_all}
use Rattle.std.proofs.lemmas.Bool.Decides.{nat_tests}
use Rattle.ct_param.specs.declared.unmap.UnmapDescriptor.{UnmapDescriptor}
use Rattle.ct_param.specs.UnmapLists.{is_apart, are_apart, ends_before, are_in_order}
use Rattle.ct_param.proofs.Sharing.{both}

ends_before-apart : (a b : UnmapDescriptor) → ends_before a b ≡ true → is_apart a b ≡ true
ends_before-apart a b before = grind (arith, nat_tests)

ends_before-next : (a b c : UnmapDescriptor) → ends_before a b ≡ true → ends_before b c ≡ true → ends_before a c ≡ true
ends_before-next a b c first second = grind (arith, nat_tests)

apart_from_later : (d first : UnmapDescriptor) (list : List UnmapDescriptor) → ends_before d first ≡ true → are_in_order (first ∷ list) ≡ true → list_all (is_apart d) (first ∷ list) ≡ true
apart_from_later d first [] before order = rw (ends_before-apart d first before) refl
apart_from_later d first (second ∷ list) before order =
    let own = both (ends_before first second) (are_in_order (second ∷ list)) order in
    rw (ends_before-apart d first before, apart_from_later d second list (ends_before-next d first second before own.0) own.1) refl

pub in_order_apart : (list : List UnmapDescriptor) → are_in_order list ≡ true → are_apart list ≡ true
in_order_apart [] order = refl
in_order_apart (d ∷ []) order = refl
in_order_apart (d ∷ first ∷ list) order =
    let own = both (ends_before d first) (are_in_order (first ∷ list)) order in
    rw (apart_from_later d first list own.0 own.1, in_order_apart (first ∷ list) own.1) refl
