-- What a shelf keeps and shows where an item comes, goes or changes.
use Rattle.std.proofs.Common.{◌≡◌, ℕ, zero, suc, ◌+◌, ◌-◌, ◌<◌, ◌≤◌, List, [], ◌∷◌, Option, Some, None, IsSome, is_some, cond, length, slice_get, slice_index_or, insert, remove, filter_map, refl, ap, arith}
use Rattle.std.proofs.lemmas.List.Sums.{sum_by-set}
use Rattle.slab.specs.Slab.{Slab, get, slab_len, Updates, with_value}
use Rattle.slab.proofs.SlabLemmas.{Updates-set}
use Rattle.ct_word.specs.Kept.{Kept}
use Rattle.ct_word.specs.Lends.{with_item}
use Rattle.ct_shelf.specs.Shelves.{IsSound}
use Rattle.ct_shelf.proofs.Keys.{length-held, held_at, is_held, keys-insert, items-insert, keys-remove, items-remove, keys-set, items-set}

-- what contracts see
abbrev pub shown : {T : Type 0} → Slab T → Kept ℕ → Kept T
shown slots order = record { items = filter_map (get slots) order.items; room = order.room }

module _ {T : Type 0} (slots : Slab T) (order : Kept ℕ) (sound : IsSound slots order) where
  pub shown-length : length (shown slots order).items ≡ length order.items
  shown-length = length-held (get slots) order.items sound.keys

  pub item_at : (at key : ℕ) → slice_get order.items at ≡ Some key → slice_get (shown slots order).items at ≡ get slots key
  item_at at key is = held_at (get slots) order.items at key sound.keys is

  pub has_item : (at key : ℕ) → slice_get order.items at ≡ Some key → IsSome (get slots key)
  has_item at key is = is_held (get slots) order.items at key sound.keys is

  module _ (slots' : Slab T) (at key : ℕ) where
    module _ (item : T) (vacant : get slots key ≡ None) (updates : Updates slots slots' key (Some item)) (within : at ≤ length order.items) where
      pub sound-inserted : 0 < order.room → slab_len slots' ≡ slab_len slots + 1 → slots'.capacity ≡ slots.capacity → IsSound slots' (record { items = insert order.items at key; room = order.room - 1 })
      sound-inserted room len capacity = record {
        keys = keys-insert (get slots) (get slots') key updates.others item order.items at sound.keys vacant updates.changed within;
        fits = omega (arith, sound.fits, room, len, capacity);
      }

      pub shown-inserted : shown slots' (record { items = insert order.items at key; room = order.room - 1 }) ≡ record { items = insert (shown slots order).items at item; room = order.room - 1 }
      shown-inserted =
          ap (λ (items : List T). record { items = items; room = order.room - 1 }) (items-insert (get slots) (get slots') key updates.others item order.items at sound.keys vacant updates.changed within)

    module _ (found : slice_get order.items at ≡ Some key) (updates : Updates slots slots' key None) where
      pub sound-removed : slab_len slots' + 1 ≡ slab_len slots → slots'.capacity ≡ slots.capacity → IsSound slots' (record { items = remove order.items at; room = order.room + 1 })
      sound-removed len capacity = record {
        keys = keys-remove (get slots) (get slots') key updates.others order.items at sound.keys found;
        fits = omega (arith, sound.fits, len, capacity);
      }

      pub shown-removed : shown slots' (record { items = remove order.items at; room = order.room + 1 }) ≡ record { items = remove (shown slots order).items at; room = order.room + 1 }
      shown-removed =
          ap (λ (items : List T). record { items = items; room = order.room + 1 }) (items-remove (get slots) (get slots') key updates.others order.items at sound.keys found)

  module _ (at key : ℕ) (item : T) (found : slice_get order.items at ≡ Some key) (old : T) (held : get slots key ≡ Some old) where
    -- one where the slot has an item
    abbrev one_in : Option T → ℕ
    one_in slot = cond (is_some slot) 1 0

    within_slots : (slots : List (Option T)) (key : ℕ) → slice_index_or slots key None ≡ Some old → key < length slots
    within_slots [] key is = absurd (cc)
    within_slots (slot ∷ rest) zero is = omega arith
    within_slots (slot ∷ rest) (suc key) is = omega (arith, within_slots rest key is)

    updates : Updates slots (with_value slots key item) key (Some item)
    updates = Updates-set slots (with_value slots key item) key (Some item) (within_slots slots.slots key held) refl

    same_len : slab_len (with_value slots key item) ≡ slab_len slots
    same_len = omega (arith, sum_by-set one_in slots.slots key (Some item) None (within_slots slots.slots key held), ap one_in held)

    pub sound-set : IsSound (with_value slots key item) order
    sound-set = record {
      keys = keys-set (get slots) (get (with_value slots key item)) key updates.others item order.items at sound.keys updates.changed found;
      fits = omega (arith, sound.fits, same_len);
    }

    pub shown-set : shown (with_value slots key item) order ≡ with_item (shown slots order) at item
    shown-set =
        ap (λ (items : List T). record { items = items; room = order.room })
        (items-set (get slots) (get (with_value slots key item)) key updates.others item order.items at sound.keys updates.changed found)
