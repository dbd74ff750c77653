use Rattle.std.proofs.Common.{◌≡◌, ◌++◌, map, take, drop}
use Rattle.ct_resv.specs.Changes.{with_key}
use Rattle.ct_resv.proofs.registrants.Registrants.set_key.Given as goal

abbrev pub invariant-loop-place : goal.invariant-loop-place
invariant-loop-place l = (l.self-inside.list ≡ map (with_key l.nexus l.key) (take l.place l.initial.self-inside.list) ++ drop l.place l.initial.self-inside.list) × (l.self-inside.count ≡ l.initial.self-inside.count)
