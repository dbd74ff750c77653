-- What was taken is what the source gave.
use Rattle.std.proofs.Common.{◌≡◌, ◌+◌, ◌-◌, ◌<◌, ◌≤◌, vec_len}
use Rattle.std.specs.Io.KnownBytes.{Consumes}
use Rattle.ct_io.proofs.whole.take_all.Given as goal

abbrev pub invariant-loop-taken : goal.invariant-loop-taken
invariant-loop-taken g l = record {
  place : 0 < vec_len l.piece;
  within : vec_len l.taken ≤ l.limit;
  given : Consumes (g.S.Source.left l.initial.source) (g.S.Source.left l.source) l.taken.items;
  unfailed : g.S.Source.faults l.source ≡ g.S.Source.faults l.initial.source;
  few : g.S.Source.reads l.source ≤ g.S.Source.reads l.initial.source + vec_len l.taken;
}

abbrev pub decreases-loop-taken : goal.decreases-loop-taken
decreases-loop-taken g l = l.limit - vec_len l.taken
