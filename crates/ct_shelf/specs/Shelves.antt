-- What a shelf keeps of its slots and of the order of keys.
use Rattle.std.specs.Prelude.{◌≢◌, ℕ, ◌+◌, ◌≤◌, List, [], ◌∷◌, Option, IsSome}
use Rattle.slab.specs.Slab.{Slab, get, slab_len}
use Rattle.ct_word.specs.Kept.{Kept}

-- no key of these is this one
abbrev pub Lacks : ℕ → List ℕ → Type 0
Lacks key [] = Unit {0}
Lacks key (other ∷ others) = (other ≢ key) × Lacks key others

-- each of these keys has an item, and stands once
abbrev pub AreKeys : {T : Type 0} → (ℕ → Option T) → List ℕ → Type 0
AreKeys held [] = Unit {0}
AreKeys held (key ∷ keys) = IsSome (held key) × Lacks key keys × AreKeys held keys

-- the order has keys of items, and the slots take as many more as it does
pub record IsSound {T : Type 0} (slots : Slab T) (order : Kept ℕ) : Type 0 where
  pub keys : AreKeys (get slots) order.items
  pub fits : slab_len slots + order.room ≤ slots.capacity
