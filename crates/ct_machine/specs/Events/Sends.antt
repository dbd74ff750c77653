-- Messages that an event sends.
use Rattle.std.specs.Prelude.{ℕ, ◌+◌, ◌-◌, [], ◌∷◌, ◌++◌, Bool, true, false, if◌then◌else◌, Option, None, Some}
use Rattle.ct_book.specs.declared.event.Kind2.{Kind2}
use Rattle.ct_book.specs.declared.event.Kind2.TheVariants as kind
use Rattle.ct_machine.specs.States.{Message, Arrival, State, arrival_of, is_remote}

abbrev pub message : Kind2 → ℕ → Message
message kind number = record { kind = kind; no = number; by = number; told = false }

abbrev pub stop : ℕ → ℕ → Bool → Message
stop number by told = record { kind = kind.Stop; no = number; by = by; told = told }

abbrev pub to_a : Message → State → State
to_a sent s = record s { to_a = s.to_a ++ sent ∷ [] }

abbrev pub to_b : Message → State → State
to_b sent s = record s { to_b = s.to_b ++ sent ∷ [] }

-- what came at the other node is answered there, by a message to B
abbrev pub to_b_if : Bool → Message → State → State
to_b_if true sent s = to_b sent s
to_b_if false sent s = s

abbrev pub came_remote : Option Arrival → Bool
came_remote (Some arrival) = is_remote arrival.node
came_remote None = false

abbrev pub answered : Kind2 → ℕ → State → State
answered kind number s = to_b_if (came_remote (arrival_of number s)) (message kind number) s
