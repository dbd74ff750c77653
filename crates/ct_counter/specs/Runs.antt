-- What the runs of a counter ask of their turn.
use Rattle.std.specs.Prelude.{◌≡◌, ℕ, List, length, slice_index_or}
use Rattle.ct_turn.specs.Seats.{TableId}
use Rattle.ct_counter.specs.declared.counter.Act.{Act}

-- there is one turn, this one
abbrev pub IsOnly : List TableId → TableId → Type 0
IsOnly turns turn = (length turns ≡ 1) × (slice_index_or turns 0 turn ≡ turn)

abbrev pub allows_all : ℕ → Act → Type 0
allows_all opening act = Unit {0}
