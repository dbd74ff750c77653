-- What PERSISTENT RESERVE IN returns (SPC-4, 6.15): PRGENERATION and ADDITIONAL LENGTH in four bytes each, and a list;
-- but of REPORT CAPABILITIES. Bytes that no line names are 0.
use Rattle.std.specs.Prelude.{ℕ, ◌+◌, ◌*◌, List, [], ◌∷◌, ◌++◌, length, replicate, take, Bool, true, false}
use Rattle.std.specs.Prelude.{if◌then◌else◌, Option, None, Some, unwrap_or}
use Rattle.std.specs.List.{flat_map}
use Rattle.ct_word.specs.Fields.{bytes_of}
use Rattle.ct_word.specs.declared.names.Nexus.{Nexus}
use Rattle.ct_cdb.specs.declared.choices.ReservationType.{ReservationType}
use Rattle.ct_cdb.specs.declared.choices.ReserveIn.{ReserveIn}
use Rattle.ct_cdb.specs.declared.choices.ReserveIn.TheVariants as action
use Rattle.ct_cdb.specs.Choices.{code_of_type}
use Rattle.ct_resv.specs.declared.registrants.Registrant.{Registrant}
use Rattle.ct_resv.specs.declared.reservations.Reservation.{Reservation}
use Rattle.ct_resv.specs.declared.reservations.Reservations.{Reservations}
use Rattle.ct_resv.specs.Registering.{key_of, is_held_by_all, is_holder}

abbrev pub headed : ℕ → List ℕ → List ℕ
headed generation listed = bytes_of 4 generation ++ bytes_of 4 (length listed) ++ listed

-- READ KEYS: the key of each registrant, in eight bytes
abbrev pub key_entry : Registrant → List ℕ
key_entry registrant = bytes_of 8 registrant.key

abbrev pub keys_listed : List Registrant → List ℕ
keys_listed registrants = flat_map key_entry registrants

-- READ RESERVATION: the key of the holder, 0 where every registrant holds it, in eight bytes; five zeros; SCOPE and
-- TYPE; two zeros. Nothing where nothing is reserved
abbrev pub key_reported : List Registrant → Reservation → ℕ
key_reported registrants reservation =
    if is_held_by_all reservation.kind then 0 else unwrap_or (key_of reservation.holder registrants) 0

abbrev pub reservation_listed : List Registrant → Option Reservation → List ℕ
reservation_listed registrants None = []
reservation_listed registrants (Some reservation) =
    bytes_of 8 (key_reported registrants reservation) ++ replicate 5 0
    ++ code_of_type reservation.kind ∷ replicate 2 0

-- REPORT CAPABILITIES: the length, 8; no option, but TMV, bit 7 of byte 3: the types follow, each as a bit
abbrev pub capabilities : List ℕ
capabilities = 0x00 ∷ 0x08 ∷ 0x00 ∷ 0x80 ∷ 0xea ∷ 0x01 ∷ 0x00 ∷ 0x00 ∷ []

-- READ FULL STATUS: of each registrant 48 bytes. R_HOLDER, and SCOPE and TYPE, are 0 of one that holds nothing
abbrev pub holding : Bool → ReservationType → List ℕ
holding true kind = 0x01 ∷ code_of_type kind ∷ []
holding false kind = replicate 2 0

abbrev pub holding_of : Nexus → List Registrant → Option Reservation → List ℕ
holding_of nexus registrants None = replicate 2 0
holding_of nexus registrants (Some reservation) =
    holding (is_holder nexus registrants reservation) reservation.kind

-- TransportID, 24 bytes: the first is 0Fh, and the twelfth the initiator's number
abbrev pub transport_id : ℕ → List ℕ
transport_id initiator = 0x0f ∷ replicate 10 0 ++ initiator ∷ replicate 12 0

-- the key; four zeros; R_HOLDER, SCOPE and TYPE; four zeros; RELATIVE TARGET PORT IDENTIFIER, the port's number and 1;
-- the length of TransportID in four bytes; TransportID
abbrev pub status_entry : Reservations → Registrant → List ℕ
status_entry state registrant =
    bytes_of 8 registrant.key ++ replicate 4 0 ++ holding_of registrant.nexus state.registrants state.reservation
    ++ replicate 4 0 ++ bytes_of 2 (registrant.nexus.port + 1) ++ bytes_of 4 24
    ++ transport_id registrant.nexus.init

abbrev pub statuses_listed : Reservations → List ℕ
statuses_listed state = flat_map (status_entry state) state.registrants

-- all that there is to say
unfoldable pub whole_reserve_in_data : Reservations → ReserveIn → List ℕ
whole_reserve_in_data state action.ReadKeys = headed state.generation (keys_listed state.registrants)
whole_reserve_in_data state action.ReadReservation =
    headed state.generation (reservation_listed state.registrants state.reservation)
whole_reserve_in_data state action.ReportCapabilities = capabilities
whole_reserve_in_data state action.ReadFullStatus = headed state.generation (statuses_listed state)

-- the data-in: cut to ALLOCATION LENGTH; no field changes by that
unfoldable pub reserve_in_data : Reservations → ReserveIn → ℕ → List ℕ
reserve_in_data state asked allocation = take allocation (whole_reserve_in_data state asked)

-- how many bytes there are to say
abbrev pub reservation_length : Option Reservation → ℕ
reservation_length None = 0
reservation_length (Some reservation) = 16

abbrev pub listed_length : Reservations → ReserveIn → ℕ
listed_length state action.ReadKeys = 8 + 8 * length state.registrants
listed_length state action.ReadReservation = 8 + reservation_length state.reservation
listed_length state action.ReportCapabilities = 8
listed_length state action.ReadFullStatus = 8 + 48 * length state.registrants
