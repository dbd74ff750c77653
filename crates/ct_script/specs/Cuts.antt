-- Cutting bytes at each place where a byte stands.
use Rattle.std.specs.Prelude.{ℕ, List, [], ◌==◌, Option, Some, None}
use Rattle.std.specs.List.{slice_split}
use Rattle.std.specs.Borrow.{Bor}

-- the parts of what is left behind a cut
abbrev pub parts_of_rest : ℕ → Option (Bor (List ℕ)) → List (List ℕ)
parts_of_rest at None = []
parts_of_rest at (Some rest) = slice_split (λ b. b == at) rest.now
