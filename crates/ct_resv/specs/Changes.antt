-- How PERSISTENT RESERVE OUT ends, and the changes that its service actions make (SPC-4, 5.12 and 6.16).
use Rattle.std.specs.Prelude.{ℕ, ◌+◌, ◌%◌, ◌^◌, List, [], ◌∷◌, ◌++◌, length, map, filter, nat_le, Bool, true, not}
use Rattle.std.specs.Prelude.{◌==◌, ◌&&◌, ◌||◌, if◌then◌else◌, Option, None, Some, Result, Ok, Err}
use Rattle.ct_word.specs.Nexuses.{no_nexuses, is_same_nexus}
use Rattle.ct_word.specs.declared.limit.TheConstants.{MOST_REGISTRANTS}
use Rattle.ct_word.specs.declared.names.Nexus.{Nexus}
use Rattle.ct_cdb.specs.declared.choices.ReservationType.{ReservationType}
use Rattle.ct_cdb.specs.Choices.{code_of_type}
use Rattle.ct_resv.specs.declared.fault.ResvFault.{ResvFault}
use Rattle.ct_resv.specs.declared.fault.ResvFault.TheVariants.{Full}
use Rattle.ct_resv.specs.declared.done.Done.{Done}
use Rattle.ct_resv.specs.declared.registrants.Named.{Named}
use Rattle.ct_resv.specs.declared.registrants.Named.TheVariants as named
use Rattle.ct_resv.specs.declared.registrants.Registrant.{Registrant}
use Rattle.ct_resv.specs.declared.reservations.Reservation.{Reservation}
use Rattle.ct_resv.specs.declared.reservations.Reservations.{Reservations}
use Rattle.ct_resv.specs.Registering.{is_own, is_other, nexuses_of, others_of, is_held_by_all, is_registrants_only}

-- the answer, and the state behind it
pub record Outcome : Type 0 where
  pub answer : Result Done ResvFault
  pub after : Reservations

-- no nexus is told of anything
abbrev pub nobody : Done
nobody = record { removed = no_nexuses; released = no_nexuses; preempted = no_nexuses }

-- an action is refused, and nothing changes
abbrev pub refused : ResvFault → Reservations → Outcome
refused fault state = record { answer = Err fault; after = state }

-- an action is accepted, and nothing changes
abbrev pub unchanged : Reservations → Outcome
unchanged state = record { answer = Ok nobody; after = state }

-- the next PRGENERATION, a number of 32 bits that wraps
abbrev pub next_generation : Reservations → ℕ
next_generation state = (state.generation + 1) % 2 ^ 32

-- a nexus is registered, as the last one; a logical unit has room for 64
abbrev pub added : Nexus → ℕ → Reservations → Outcome
added nexus key state =
    if nat_le MOST_REGISTRANTS (length state.registrants) then refused Full state
    else record {
      answer = Ok nobody;
      after = record state {
        generation = next_generation state;
        registrants = state.registrants ++ record { nexus = nexus; key = key } ∷ [];
      };
    }

-- a registrant gets another key
abbrev pub with_key : Nexus → ℕ → Registrant → Registrant
with_key nexus key registrant = if is_own nexus registrant then record registrant { key = key } else registrant

abbrev pub rekeyed : Nexus → ℕ → Reservations → Outcome
rekeyed nexus key state = record {
  answer = Ok nobody;
  after = record state {
    generation = next_generation state;
    registrants = map (with_key nexus key) state.registrants;
  };
}

-- unregistering a nexus ends a reservation that it holds, under all registrants where no registrant is left
abbrev pub ends_without : Nexus → List Registrant → Reservation → Bool
ends_without nexus left reservation =
    if is_held_by_all reservation.kind then length left == 0 else is_same_nexus reservation.holder nexus

abbrev pub reservation_without : Nexus → List Registrant → Option Reservation → Option Reservation
reservation_without nexus left None = None
reservation_without nexus left (Some reservation) =
    if ends_without nexus left reservation then None else Some reservation

-- under registrants only the others are told that the reservation is released
abbrev pub released_without : Nexus → List Registrant → Option Reservation → List Bool
released_without nexus left None = no_nexuses
released_without nexus left (Some reservation) =
    if is_registrants_only reservation.kind && ends_without nexus left reservation then nexuses_of left else no_nexuses

abbrev pub unregistered : Nexus → Reservations → Outcome
unregistered nexus state =
    let left = others_of nexus state.registrants in
    record {
      answer = Ok (record nobody { released = released_without nexus left state.reservation });
      after = record {
        generation = next_generation state;
        registrants = left;
        reservation = reservation_without nexus left state.reservation;
      };
    }

-- a nexus reserves the logical unit
abbrev pub reserved : Nexus → ReservationType → Reservations → Outcome
reserved nexus kind state = record {
  answer = Ok nobody;
  after = record state { reservation = Some (record { kind = kind; holder = nexus }) };
}

-- a nexus releases its reservation: where others had access as registrants, they are told
abbrev pub is_told_of_release : ReservationType → Bool
is_told_of_release kind = is_registrants_only kind || is_held_by_all kind

abbrev pub released : Nexus → ReservationType → Reservations → Outcome
released nexus kind state = record {
  answer = Ok (record nobody {
    released = if is_told_of_release kind then nexuses_of (others_of nexus state.registrants) else no_nexuses;
  });
  after = record state { reservation = None };
}

-- a nexus clears reservation and registrants: the others are told that the reservation is preempted
abbrev pub cleared : Nexus → Reservations → Outcome
cleared nexus state = record {
  answer = Ok (record nobody { preempted = nexuses_of (others_of nexus state.registrants) });
  after = record { generation = next_generation state; registrants = []; reservation = None };
}

-- the registrants that are named: those with a key, or all
abbrev pub is_named : Named → Registrant → Bool
is_named (named.Key key) registrant = registrant.key == key
is_named named.Everyone registrant = true

-- a nexus removes the other registrants that are named, who are told that their registrations are preempted. It keeps
-- its own registration
abbrev pub is_removed : Nexus → Named → Registrant → Bool
is_removed nexus who registrant = is_named who registrant && is_other nexus registrant

abbrev pub is_left : Nexus → Named → Registrant → Bool
is_left nexus who registrant = not (is_removed nexus who registrant)

abbrev pub removed_of : Nexus → Named → List Registrant → List Registrant
removed_of nexus who registrants = filter (is_removed nexus who) registrants

abbrev pub left_of : Nexus → Named → List Registrant → List Registrant
left_of nexus who registrants = filter (is_left nexus who) registrants

-- the reservation stays
abbrev pub removed : Nexus → Named → Reservations → Outcome
removed nexus who state = record {
  answer = Ok (record nobody { removed = nexuses_of (removed_of nexus who state.registrants) });
  after = record state {
    generation = next_generation state;
    registrants = left_of nexus who state.registrants;
  };
}

-- or the nexus reserves in place of the holder. Where the type changes, the registrants that are left are told that the
-- old reservation is released
abbrev pub is_same_type : ReservationType → ReservationType → Bool
is_same_type a b = code_of_type a == code_of_type b

abbrev pub preempted : Nexus → ReservationType → ReservationType → Named → Reservations → Outcome
preempted nexus old kind who state =
    let left = left_of nexus who state.registrants in
    record {
      answer = Ok (record nobody {
        removed = nexuses_of (removed_of nexus who state.registrants);
        released = if is_same_type old kind then no_nexuses else nexuses_of (others_of nexus left);
      });
      after = record {
        generation = next_generation state;
        registrants = left;
        reservation = Some (record { kind = kind; holder = nexus });
      };
    }
