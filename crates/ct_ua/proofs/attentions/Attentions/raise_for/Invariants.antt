use Rattle.std.proofs.Common.{◌≡◌, take}
use Rattle.ct_ua.specs.Attentions.{after_raise_for}
use Rattle.ct_ua.proofs.attentions.Attentions.raise_for.Given as goal

abbrev pub invariant-loop-place : goal.invariant-loop-place
invariant-loop-place l = l.self-inside.sets ≡ after_raise_for l.initial.self-inside.sets (take l.place l.set) l.c
