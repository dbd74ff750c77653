-- What a lease taken, written or given back leaves of a pool.
use Rattle.std.proofs.Common.{◌≡◌, ◌≢◌, ℕ, ◌+◌, ◌-◌, ◌<◌, List, [], ◌∷◌, ◌++◌, length, get_or, set, Option, Some, None, is_some, cond, unwrap_or, refl, sym, ap, ◌∙◌, subst, inl, inr, arith, length-append}
use Rattle.std.specs.List.{All}
use Rattle.std.proofs.lemmas.Bool.{cases_eq}
use Rattle.std.proofs.lemmas.List.{length-set}
use Rattle.std.proofs.lemmas.List.Elements.{All-pop, All-push}
use Rattle.std.proofs.lemmas.List.Sums.{sum_by-set}
use Rattle.slab.specs.Slab.{Slab, get, slab_len, Updates, with_value}
use Rattle.slab.proofs.SlabLemmas.{Updates-set}
use Rattle.ct_word.specs.Kept.{Kept}
use Rattle.ct_pool.specs.Leases.{LeaseState, Takes, Gives, blocks_of, blocks_out, with_block}
use Rattle.ct_pool.specs.Sound.{Blocks, leases_of, IsWhole, Moves, HasRoom, IsSpare, IsSound, state_of}
use Rattle.ct_pool.proofs.Slots.{seen, get_or-leases_of, count_by-leases_of, leases_of-set, key_within, blocks_out-more, blocks_out-less, blocks_out-write}

length-none : (blocks : List (List ℕ)) → length blocks ≡ 0 → blocks ≡ []
length-none [] none = refl
length-none (block ∷ rest) none = absurd (omega (arith, none))

-- one more block moved
pub moves_more : (from to from' to' from'' to'' : Blocks) (count : ℕ) (block : List ℕ) → Moves from to from' to' count → from'.items ≡ from''.items ++ block ∷ [] → from''.room ≡ from'.room + 1
    → to'' ≡ record { items = to'.items ++ block ∷ []; room = to'.room - 1 } → 0 < to'.room → length block ≡ 512 → Moves from to from'' to'' (count + 1)
moves_more from to from' to' from'' to'' count block moves popped popped_room pushed room whole = record {
  left = omega (arith, moves.left, ap length popped, length-append from''.items (block ∷ []));
  left_room = omega (arith, moves.left_room, popped_room);
  moved = omega (arith, moves.moved, ap (λ (blocks : Blocks). length blocks.items) pushed, length-append to'.items (block ∷ []));
  moved_room = omega (arith, moves.moved_room, ap (λ (blocks : Blocks). blocks.room) pushed);
  whole = λ before. subst (All IsWhole) (sym (ap (λ (blocks : Blocks). blocks.items) pushed)) (All-push IsWhole to'.items block (moves.whole before) whole);
}

-- what the keys hold, from what the slots hold
others_seen : (old new : Slab Blocks) (key : ℕ) (slot : Option Blocks) → Updates old new key slot → (other : ℕ) → other ≢ key → get_or (leases_of new.slots) other None ≡ get_or (leases_of old.slots) other None
others_seen old new key slot updates other differs =
    get_or-leases_of new.slots other ∙ ap seen (updates.others other differs) ∙ sym (get_or-leases_of old.slots other)

-- what a take does
pub record TakeSteps (count key : ℕ) (free free' : Blocks) (slots slots' : Slab Blocks) (spare spare' : Kept Blocks) (fresh filled : Blocks) : Type 0 where
  pub popped : spare.items ≡ spare'.items ++ fresh ∷ []
  pub popped_room : spare'.room ≡ spare.room + 1
  pub moved : Moves free fresh free' filled count
  pub vacant : get slots key ≡ None
  pub updates : Updates slots slots' key (Some filled)
  pub len : slab_len slots' ≡ slab_len slots + 1
  pub capacity : slots'.capacity ≡ slots.capacity

module _ (size contexts count key : ℕ) (free free' : Blocks) (slots slots' : Slab Blocks) (spare spare' : Kept Blocks) (fresh filled : Blocks)
    (sound : IsSound size contexts free slots spare) (steps : TakeSteps count key free free' slots slots' spare spare' fresh filled) where
  spares : All (IsSpare size) spare'.items × IsSpare size fresh
  spares = All-pop (IsSpare size) spare.items spare'.items (Some fresh) steps.popped sound.spares

  full : length filled.items ≡ count
  full = omega (arith, steps.moved.moved, ap length spares.1.empty)

  sized : (other : ℕ) → HasRoom size (get slots' other)
  sized other =
      elim (cases_eq other key) [
        | inl same ↦ subst (HasRoom size) (sym (ap (get slots') same ∙ steps.updates.changed)) (omega (arith, full, steps.moved.moved_room, spares.1.room))
        | inr differs ↦ subst (HasRoom size) (sym (steps.updates.others other differs)) (sound.sized other)
      ]

  found : get_or (leases_of slots'.slots) key None ≡ Some filled.items
  found = get_or-leases_of slots'.slots key ∙ ap seen steps.updates.changed

  was_vacant : get_or (leases_of slots.slots) key None ≡ None
  was_vacant = get_or-leases_of slots.slots key ∙ ap seen steps.vacant

  others : (other : ℕ) → other ≢ key → get_or (leases_of slots'.slots) other None ≡ get_or (leases_of slots.slots) other None
  others = others_seen slots slots' key (Some filled) steps.updates

  out_more : blocks_out (leases_of slots'.slots) ≡ blocks_out (leases_of slots.slots) + length filled.items
  out_more = blocks_out-more (leases_of slots.slots) (leases_of slots'.slots) key filled.items was_vacant found others

  one_less : length spare.items ≡ length spare'.items + 1
  one_less = ap length steps.popped ∙ length-append spare'.items (fresh ∷ [])

  pub sound-after_take : IsSound size contexts free' slots' spare'
  sound-after_take = record {
    small = sound.small;
    few = sound.few;
    free_size = omega (arith, sound.free_size, steps.moved.left, steps.moved.left_room);
    conserved = omega (arith, out_more, full, sound.conserved, steps.moved.left_room);
    sized = sized;
    spares = spares.0;
    spare_size = omega (arith, sound.spare_size, one_less, steps.popped_room);
    out = omega (arith, sound.out, steps.len, steps.popped_room);
    capacity = omega (arith, sound.capacity, steps.capacity);
  }

  blocks : blocks_of (state_of size contexts free' slots') (record { key = key; count = count }) ≡ filled.items
  blocks = ap (λ (slot : Option (List (List ℕ))). unwrap_or slot []) found

  pub takes : Takes (state_of size contexts free slots) (state_of size contexts free' slots') count (record { key = key; count = count })
  takes = record {
    count = refl;
    was_vacant = was_vacant;
    holds = record { found = found ∙ ap Some (sym blocks); count = ap length blocks ∙ full };
    whole = subst (All IsWhole) (sym blocks) (steps.moved.whole (subst (All IsWhole) (sym spares.1.empty) (λ k d within. absurd (omega (arith, within)))));
    others = others;
    free = steps.moved.left;
    out = count_by-leases_of slots'.slots ∙ steps.len ∙ ap (λ n. n + 1) (sym (count_by-leases_of slots.slots));
    size = refl;
    contexts = refl;
  }

-- what a give does
pub record GiveSteps (count key : ℕ) (free free' : Blocks) (slots slots' : Slab Blocks) (spare spare' : Kept Blocks) (filled fresh : Blocks) : Type 0 where
  pub found : get slots key ≡ Some filled
  pub whole : length filled.items ≡ count
  pub updates : Updates slots slots' key None
  pub written : slots'.slots ≡ set slots.slots key None
  pub len : slab_len slots' + 1 ≡ slab_len slots
  pub capacity : slots'.capacity ≡ slots.capacity
  pub moved : Moves filled free fresh free' count
  pub pushed : spare'.items ≡ spare.items ++ fresh ∷ []
  pub pushed_room : spare'.room + 1 ≡ spare.room

module _ (size contexts : ℕ) (lease : LeaseState) (free free' : Blocks) (slots slots' : Slab Blocks) (spare spare' : Kept Blocks) (filled fresh : Blocks)
    (sound : IsSound size contexts free slots spare) (steps : GiveSteps lease.count lease.key free free' slots slots' spare spare' filled fresh) where
  given_room : length filled.items + filled.room ≡ size
  given_room = subst (HasRoom size) steps.found (sound.sized lease.key)

  emptied : length fresh.items ≡ 0
  emptied = omega (arith, steps.moved.left, steps.whole)

  left_sized : (other : ℕ) → HasRoom size (get slots' other)
  left_sized other =
      elim (cases_eq other lease.key) [
        | inl same ↦ subst (HasRoom size) (sym (ap (get slots') same ∙ steps.updates.changed)) tt
        | inr differs ↦ subst (HasRoom size) (sym (steps.updates.others other differs)) (sound.sized other)
      ]

  was_found : get_or (leases_of slots.slots) lease.key None ≡ Some filled.items
  was_found = get_or-leases_of slots.slots lease.key ∙ ap seen steps.found

  out_less : blocks_out (leases_of slots'.slots) + length filled.items ≡ blocks_out (leases_of slots.slots)
  out_less =
      ap (λ leases. blocks_out leases + length filled.items) (ap leases_of steps.written ∙ leases_of-set slots.slots lease.key None)
      ∙ blocks_out-less (leases_of slots.slots) lease.key filled.items was_found

  spare_again : IsSpare size fresh
  spare_again = record { empty = length-none fresh.items emptied; room = omega (arith, steps.moved.left_room, steps.whole, given_room) }

  one_more : length spare'.items ≡ length spare.items + 1
  one_more = ap length steps.pushed ∙ length-append spare.items (fresh ∷ [])

  pub sound-after_give : IsSound size contexts free' slots' spare'
  sound-after_give = record {
    small = sound.small;
    few = sound.few;
    free_size = omega (arith, sound.free_size, steps.moved.moved, steps.moved.moved_room);
    conserved = omega (arith, out_less, steps.whole, sound.conserved, steps.moved.moved_room);
    sized = left_sized;
    spares = subst (All (IsSpare size)) (sym steps.pushed) (All-push (IsSpare size) spare.items fresh sound.spares spare_again);
    spare_size = omega (arith, sound.spare_size, one_more, steps.pushed_room);
    out = omega (arith, sound.out, steps.len, steps.pushed_room);
    capacity = omega (arith, sound.capacity, steps.capacity);
  }

  pub gives : Gives (state_of size contexts free slots) (state_of size contexts free' slots') lease
  gives = record {
    vacant = get_or-leases_of slots'.slots lease.key ∙ ap seen steps.updates.changed;
    others = others_seen slots slots' lease.key None steps.updates;
    free = steps.moved.moved;
    out = ap (λ n. n + 1) (count_by-leases_of slots'.slots) ∙ steps.len ∙ sym (count_by-leases_of slots.slots);
    size = refl;
    contexts = refl;
  }

-- one where the slot has a lease
abbrev one_in : Option Blocks → ℕ
one_in slot = cond (is_some slot) 1 0

-- the same list with another block at a place
abbrev pub with_place : Blocks → ℕ → List ℕ → Blocks
with_place blocks place block = record blocks { items = set blocks.items place block }

module _ (size contexts : ℕ) (lease : LeaseState) (free : Blocks) (slots : Slab Blocks) (blocks : Blocks)
    (found : get slots lease.key ≡ Some blocks) (place : ℕ) (block : List ℕ) where
  shown : get_or (leases_of slots.slots) lease.key None ≡ Some blocks.items
  shown = get_or-leases_of slots.slots lease.key ∙ ap seen found

  pub blocks_found : blocks_of (state_of size contexts free slots) lease ≡ blocks.items
  blocks_found = ap (λ (slot : Option (List (List ℕ))). unwrap_or slot []) shown

  written_slots : leases_of (set slots.slots lease.key (Some (with_place blocks place block))) ≡ set (leases_of slots.slots) lease.key (Some (set blocks.items place block))
  written_slots = leases_of-set slots.slots lease.key (Some (with_place blocks place block))

  pub state-after_write : state_of size contexts free (with_value slots lease.key (with_place blocks place block)) ≡ with_block (state_of size contexts free slots) lease place block
  state-after_write =
      ap (λ (leases : List (Option (List (List ℕ)))). record (state_of size contexts free slots) { leases = leases })
      (written_slots ∙ ap (λ (bs : List (List ℕ)). set (leases_of slots.slots) lease.key (Some (set bs place block))) (sym blocks_found))

  module _ (spare : Kept Blocks) (sound : IsSound size contexts free slots spare) where
    written : Updates slots (with_value slots lease.key (with_place blocks place block)) lease.key (Some (with_place blocks place block))
    written = Updates-set slots (with_value slots lease.key (with_place blocks place block)) lease.key (Some (with_place blocks place block)) (key_within slots.slots lease.key blocks found) refl

    written_sized : (other : ℕ) → HasRoom size (get (with_value slots lease.key (with_place blocks place block)) other)
    written_sized other =
        elim (cases_eq other lease.key) [
          | inl same ↦
              let before : length blocks.items + blocks.room ≡ size = subst (HasRoom size) found (sound.sized lease.key) in
              subst (HasRoom size) (sym (ap (get (with_value slots lease.key (with_place blocks place block))) same ∙ written.changed)) (omega (arith, before, length-set blocks.items place block))
          | inr differs ↦ subst (HasRoom size) (sym (written.others other differs)) (sound.sized other)
        ]

    same_out : slab_len (with_value slots lease.key (with_place blocks place block)) ≡ slab_len slots
    same_out =
        omega (arith, sum_by-set one_in slots.slots lease.key (Some (with_place blocks place block)) None (key_within slots.slots lease.key blocks found), ap one_in found)

    pub sound-after_write : IsSound size contexts free (with_value slots lease.key (with_place blocks place block)) spare
    sound-after_write = record {
      small = sound.small;
      few = sound.few;
      free_size = sound.free_size;
      conserved = ap blocks_out written_slots ∙ blocks_out-write (leases_of slots.slots) lease.key blocks.items (set blocks.items place block) shown (length-set blocks.items place block) ∙ sound.conserved;
      sized = written_sized;
      spares = sound.spares;
      spare_size = sound.spare_size;
      out = same_out ∙ sound.out;
      capacity = sound.capacity;
    }
