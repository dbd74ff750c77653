use Rattle.std.proofs.Common.{◌≡◌, ◌++◌, map, take, drop}
use Rattle.ct_ua.specs.CodeSets.{with_code}
use Rattle.ct_ua.proofs.attentions.Attentions.raise_for_all.Given as goal

abbrev pub invariant-loop-place : goal.invariant-loop-place
invariant-loop-place l =
    l.self-inside.sets ≡ map (λ codes. with_code codes l.c) (take l.place l.initial.self-inside.sets) ++ drop l.place l.initial.self-inside.sets
