-- At most two items.
use Rattle.std.specs.Prelude.{List, [], ◌∷◌, Option, None, Some}

-- the items that there are, in order; where the first isn't there, there is none
abbrev pub few_items : {T : Type 0} → Option T → Option T → List T
few_items None second = []
few_items (Some first) None = first ∷ []
few_items (Some first) (Some second) = first ∷ second ∷ []
