-- Descriptors of which no two share a block.
use Rattle.std.proofs.Common.{◌≡◌, ◌≤◌, ◌<◌, ◌+◌, ℕ, zero, suc, min, max, List, [], ◌∷◌, Bool, true, false, ◌&&◌, slice_get, Some, ◌↔◌, refl, subst, arith}
use Rattle.std.specs.List.{list_all}
use Rattle.std.proofs.lemmas.Bool.Decides.{nat_tests}
use Rattle.ct_param.specs.declared.unmap.UnmapDescriptor.{UnmapDescriptor}
use Rattle.ct_param.specs.UnmapLists.{is_apart, are_apart, HasBlock, ShareNoBlock}

apart_shares : (a b : UnmapDescriptor) (block : ℕ) → is_apart a b ≡ true → HasBlock a block → HasBlock b block → ⊥
apart_shares a b block apart in_a in_b =
    let ordered : min (a.lba + a.count) (b.lba + b.count) ≤ max a.lba b.lba = grind (arith, nat_tests) in
    omega (arith, in_a.0, in_a.1, in_b.0, in_b.1)

apart_by : (answer : Bool) (a b : UnmapDescriptor) → is_apart a b ≡ answer → ((block : ℕ) → HasBlock a block → HasBlock b block → ⊥) → is_apart a b ≡ true
apart_by true a b is none = is
apart_by false a b is none =
    let shared : max a.lba b.lba < min (a.lba + a.count) (b.lba + b.count) = grind (arith, nat_tests) in
    absurd (none (max a.lba b.lba) (omega arith, omega arith) (omega arith, omega arith))

pub both : (a b : Bool) → (a && b) ≡ true → (a ≡ true) × (b ≡ true)
both true true e = (refl, refl)
both true false e = cc
both false b e = cc

all_at : (test : UnmapDescriptor → Bool) (list : List UnmapDescriptor) (place : ℕ) (one : UnmapDescriptor) → list_all test list ≡ true → slice_get list place ≡ Some one → test one ≡ true
all_at test [] place one all at = cc
all_at test (first ∷ list) zero one all at =
    let same : first ≡ one = cc in
    let own = both (test first) (list_all test list) all in
    subst (λ (d : UnmapDescriptor). test d ≡ true) same own.0
all_at test (first ∷ list) (suc place) one all at = all_at test list place one (both (test first) (list_all test list) all).1 at

all_from : (test : UnmapDescriptor → Bool) (list : List UnmapDescriptor) → ((place : ℕ) (one : UnmapDescriptor) → slice_get list place ≡ Some one → test one ≡ true) → list_all test list ≡ true
all_from test [] each = refl
all_from test (first ∷ list) each = rw (each zero first refl, all_from test list (λ place one at. each (suc place) one at)) refl

shares_none : (list : List UnmapDescriptor) → are_apart list ≡ true → ShareNoBlock list
shares_none [] apart first second block a b before at_a at_b in_a in_b = cc
shares_none (d ∷ list) apart first zero block a b before at_a at_b in_a in_b = absurd (omega arith)
shares_none (d ∷ list) apart zero (suc second) block a b before at_a at_b in_a in_b =
    let same : d ≡ a = cc in
    let own = both (list_all (is_apart d) list) (are_apart list) apart in
    apart_shares a b block (subst (λ (e : UnmapDescriptor). is_apart e b ≡ true) same (all_at (is_apart d) list second b own.0 at_b)) in_a in_b
shares_none (d ∷ list) apart (suc first) (suc second) block a b before at_a at_b in_a in_b =
    shares_none list (both (list_all (is_apart d) list) (are_apart list) apart).1 first second block a b (omega arith) at_a at_b in_a in_b

apart_from : (list : List UnmapDescriptor) → ShareNoBlock list → are_apart list ≡ true
apart_from [] share = refl
apart_from (d ∷ list) share =
    let own : list_all (is_apart d) list ≡ true =
    all_from (is_apart d) list (λ place one at. apart_by (is_apart d one) d one refl (λ block in_a in_b. share zero (suc place) block d one (omega arith) refl at in_a in_b)) in
    let others : are_apart list ≡ true =
    apart_from list (λ first second block a b before at_a at_b in_a in_b. share (suc first) (suc second) block a b (omega arith) at_a at_b in_a in_b) in
    rw (own, others) refl

pub apart_exactly : (list : List UnmapDescriptor) → (are_apart list ≡ true) ↔ ShareNoBlock list
apart_exactly list = (shares_none list, apart_from list)
