-- ALLOCATION LENGTH of a CDB (SPC-4): the most bytes of data-in that the host takes.
use Rattle.std.specs.Prelude.{ℕ, List, take}

-- the data that are transferred: the rest is left out, and no field changes by that
abbrev pub cut : ℕ → List ℕ → List ℕ
cut allocation whole = take allocation whole
