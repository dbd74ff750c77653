use Rattle.std.proofs.Common.{◌≡◌, ◌++◌, drop}
use Rattle.std.specs.Vec.Iter.{into_iter_items}
use Rattle.ctltarget.proofs.program.behind_first.Given as goal

-- the words that were kept, and those that are left
abbrev pub invariant-loop-word : goal.invariant-loop-word
invariant-loop-word l = l.kept.items ++ into_iter_items l.word-iterator ≡ drop 1 (into_iter_items l.fn.words)
