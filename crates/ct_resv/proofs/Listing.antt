-- Lists that PERSISTENT RESERVE IN returns, registrant by registrant, and how many bytes they have.
use Rattle.std.proofs.Common.{◌≡◌, ◌≤◌, ◌<◌, ◌+◌, ◌*◌, ℕ, List, [], ◌∷◌, ◌++◌, length, take, get_or, Bool, true, false, Option, None, Some, refl, ap, ◌∙◌, append-nil, length-append, arith}
use Rattle.std.specs.List.{flat_map}
use Rattle.std.proofs.lemmas.List.{take_more, length-take}
use Rattle.std.proofs.lemmas.Grind.{flat_map-append}
use Rattle.ct_word.specs.declared.names.Nexus.{Nexus}
use Rattle.ct_cdb.specs.declared.choices.ReservationType.{ReservationType}
use Rattle.ct_resv.specs.declared.registrants.Registrant.{Registrant}
use Rattle.ct_resv.specs.declared.reservations.Reservation.{Reservation}
use Rattle.ct_resv.specs.declared.reservations.Reservations.{Reservations}
use Rattle.ct_resv.specs.Registering.{is_holder}
use Rattle.ct_resv.specs.Reports.{key_entry, keys_listed, holding, holding_of, status_entry}

-- one more registrant is listed
pub listed_more : (entry : Registrant → List ℕ) (xs : List Registrant) (i : ℕ) (d : Registrant) → i < length xs → flat_map entry (take (i + 1) xs) ≡ flat_map entry (take i xs) ++ entry (get_or xs i d)
listed_more entry xs i d within =
    ap (flat_map entry) (take_more xs i d within)
    ∙ flat_map-append entry (take i xs) (get_or xs i d ∷ [])
    ∙ ap (λ last. flat_map entry (take i xs) ++ last) (append-nil (entry (get_or xs i d)))

-- entries of so many bytes each
length-listed : (entry : Registrant → List ℕ) (size : ℕ) → ((r : Registrant) → length (entry r) ≡ size) → (xs : List Registrant) → length (flat_map entry xs) ≡ size * length xs
length-listed entry size sized [] = omega arith
length-listed entry size sized (x ∷ xs) =
    let rest : length (flat_map entry xs) ≡ size * length xs = length-listed entry size sized xs in
    let first : length (entry x) ≡ size = sized x in
    length-append (entry x) (flat_map entry xs) ∙ grind (arith, rest, first)

pub length-keys : (xs : List Registrant) → length (keys_listed xs) ≡ 8 * length xs
length-keys xs = length-listed key_entry 8 (λ r. refl) xs

length-holding : (holds : Bool) (kind : ReservationType) → length (holding holds kind) ≡ 2
length-holding true kind = refl
length-holding false kind = refl

length-holding_of : (nexus : Nexus) (registrants : List Registrant) (reservation : Option Reservation) → length (holding_of nexus registrants reservation) ≡ 2
length-holding_of nexus registrants None = refl
length-holding_of nexus registrants (Some reservation) = length-holding (is_holder nexus registrants reservation) reservation.kind

length-status : (state : Reservations) (r : Registrant) → length (status_entry state r) ≡ 48
length-status state r = let two : length (holding_of r.nexus state.registrants state.reservation) ≡ 2 = length-holding_of r.nexus state.registrants state.reservation in simp length-append (omega arith)

pub length-statuses : (state : Reservations) (xs : List Registrant) → length (flat_map (status_entry state) xs) ≡ 48 * length xs
length-statuses state xs = length-listed (status_entry state) 48 (length-status state) xs

-- room for one more
pub key_fits : (xs : List Registrant) (i : ℕ) → i < length xs → length xs ≤ 64 → length (keys_listed (take i xs)) + 8 ≤ 3080
key_fits xs i within few = omega (arith, length-keys (take i xs), length-take i xs)

pub status_fits : (state : Reservations) (xs : List Registrant) (i : ℕ) → i < length xs → length xs ≤ 64 → length (flat_map (status_entry state) (take i xs)) + 48 ≤ 3080
status_fits state xs i within few = omega (arith, length-statuses state (take i xs), length-take i xs)

-- room for all
pub keys_fit : (xs : List Registrant) → length xs ≤ 64 → length (keys_listed xs) ≤ 3072
keys_fit xs few = omega (arith, length-keys xs)

pub statuses_fit : (state : Reservations) (xs : List Registrant) → length xs ≤ 64 → length (flat_map (status_entry state) xs) ≤ 3072
statuses_fit state xs few = omega (arith, length-statuses state xs)

pub ruleset listing = (listed_more, key_fits, status_fits, keys_fit, statuses_fit)
