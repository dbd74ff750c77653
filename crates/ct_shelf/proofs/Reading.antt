-- A walk over items, by their places.
use Rattle.std.proofs.Common.{◌≡◌, ℕ, zero, suc, ◌+◌, List, [], ◌∷◌, Some, None, slice_get, drop, ap, ◌∙◌, arith}

pub drop_item : {T : Type 0} (items : List T) (at : ℕ) (item : T) → slice_get items at ≡ Some item → drop at items ≡ item ∷ drop (at + 1) items
drop_item {T} items at item is = go items at is ∙ ap (λ (n : ℕ). item ∷ drop n items) next
  where
    next : suc at ≡ at + 1
    next = omega arith

    same : (a b : T) → Some a ≡ Some b → a ≡ b
    same a b h = cc

    absent : None ≡ Some item → ⊥
    absent h = cc

    go : (items : List T) (at : ℕ) → slice_get items at ≡ Some item → drop at items ≡ item ∷ drop (suc at) items
    go [] at is = absurd (absent is)
    go (first ∷ rest) zero is = ap (λ (it : T). it ∷ rest) (same first item is)
    go (first ∷ rest) (suc at) is = go rest at is
