use Rattle.std.proofs.Common.{◌≡◌, ℕ, ◌+◌, ◌-◌, ◌<◌, ◌≤◌, min, List, [], ◌++◌, length, take, drop, ap, sym, ◌∙◌, arith, rules}
use Rattle.std.proofs.lemmas.List.{take_at, take-append-drop, drop-drop, take_rest, length-take-le, length-drop}
use Rattle.std.proofs.Math.ListN.{drop_of_length-le}
use Rattle.ct_io.specs.Memory.{SourceState}
use Rattle.ct_io.proofs.mem_source.MemSourceSource.read.Goals as goal

-- `count` of the bytes that were left now stand at the front of the place that was read into
split : (count : ℕ) (left rest after : List ℕ) → count ≤ length left → after ≡ take count left ++ rest → left ≡ take count after ++ drop count left
split count left rest after within filled =
    let front : take count after ≡ take count left = ap (take count) filled ∙ take_at (take count left) rest count (length-take-le count left within) in
    sym (ap (λ xs. xs ++ drop count left) front ∙ take-append-drop count left)

-- a read of `count` bytes of those that are left, `from`
reads : (at count most : ℕ) (items from old after : List ℕ) → from ≡ drop at items → 1 ≤ most → 0 < length old
    → count ≡ min most (min (length from) (length old)) → after ≡ take count from ++ drop count old
    → (drop at items ≡ take count after ++ drop (at + count) items) × (count ≡ 0 → 0 < length after → drop (at + count) items ≡ [])
reads at count most items from old after same some place counted filled = (
  sym same ∙ split count from (drop count old) after (omega arith) filled ∙ ap (λ rest. take count after ++ rest) (ap (drop count) same ∙ drop-drop count at items),
  λ none _. drop_of_length-le items {i = at + count} (omega (arith, length-drop at items, ap length same)),
)

pub returns-clause-bytes : goal.returns-clause-bytes
returns-clause-bytes c =
    let all = c.deref.result.now in
    let from : List ℕ = take (length all - c.self.inside.at) (drop c.self.inside.at all) in
    let same : from ≡ drop c.self.inside.at c.self.inside.bytes.items = take_rest all c.self.inside.at ∙ ap (drop c.self.inside.at) c.deref.ensures.value in
    let split = reads c.self.inside.at c.copy_up_to-count.result c.self.inside.most c.self.inside.bytes.items from c.args.into.now c.copy_up_to-count.new.to same (search rules) (search rules) (search rules) (search rules) in
    (ap (λ (state : SourceState). state.left) (sym c.self.view_is) ∙ split.0, split.1)
