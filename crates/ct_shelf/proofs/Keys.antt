-- What is read of slots by an order of keys, where one slot changes.
use Rattle.std.proofs.Common.{◌≡◌, ◌≢◌, ℕ, zero, suc, ◌<◌, ◌≤◌, List, [], ◌∷◌, Option, Some, None, IsSome, length, slice_get, slice_set, insert, remove, filter_map, refl, sym, ap, ◌∙◌, subst, arith}
use Rattle.std.specs.List.{cons_option}
use Rattle.std.proofs.lemmas.Bool.{false≢true}
use Rattle.ct_shelf.specs.Shelves.{Lacks, AreKeys}

module _ {T : Type 0} where
  -- what an item in front leaves of a change behind it
  cons-length : (o : Option T) (xs : List T) → IsSome o → length (cons_option o xs) ≡ suc (length xs)
  cons-length None xs is = absurd (false≢true is)
  cons-length (Some x) xs is = refl

  cons-get : (o : Option T) (xs : List T) (at : ℕ) → IsSome o → slice_get (cons_option o xs) (suc at) ≡ slice_get xs at
  cons-get None xs at is = absurd (false≢true is)
  cons-get (Some x) xs at is = refl

  cons-first : (o : Option T) (xs : List T) → IsSome o → slice_get (cons_option o xs) 0 ≡ o
  cons-first None xs is = absurd (false≢true is)
  cons-first (Some x) xs is = refl

  cons-insert : (o : Option T) (xs : List T) (at : ℕ) (new : T) → IsSome o → cons_option o (insert xs at new) ≡ insert (cons_option o xs) (suc at) new
  cons-insert None xs at new is = absurd (false≢true is)
  cons-insert (Some x) xs at new is = refl

  cons-remove : (o : Option T) (xs : List T) (at : ℕ) → IsSome o → cons_option o (remove xs at) ≡ remove (cons_option o xs) (suc at)
  cons-remove None xs at is = absurd (false≢true is)
  cons-remove (Some x) xs at is = refl

  cons-gone : (o : Option T) (xs : List T) → IsSome o → xs ≡ remove (cons_option o xs) 0
  cons-gone None xs is = absurd (false≢true is)
  cons-gone (Some x) xs is = refl

  cons-set : (o : Option T) (xs : List T) (at : ℕ) (new : T) → IsSome o → cons_option o (slice_set xs at new) ≡ slice_set (cons_option o xs) (suc at) new
  cons-set None xs at new is = absurd (false≢true is)
  cons-set (Some x) xs at new is = refl

  cons-changed : (o : Option T) (xs : List T) (new : T) → IsSome o → new ∷ xs ≡ slice_set (cons_option o xs) 0 new
  cons-changed None xs new is = absurd (false≢true is)
  cons-changed (Some x) xs new is = refl

  some_none : (o : Option T) → IsSome o → o ≡ None → ⊥
  some_none None is none = false≢true is
  some_none (Some x) is none = cc

  some_is : (o : Option T) (x : T) → o ≡ Some x → IsSome o
  some_is None x is = cc
  some_is (Some y) x is = refl

key_absent : (at : ℕ) → None ≡ Some at → ⊥
key_absent at is = cc

key_same : (a b : ℕ) → Some a ≡ Some b → a ≡ b
key_same a b is = cc

lacks-insert : (key new : ℕ) (keys : List ℕ) (at : ℕ) → at ≤ length keys → Lacks key keys → new ≢ key → Lacks key (insert keys at new)
lacks-insert key new keys zero within lacks other = (other, lacks)
lacks-insert key new [] (suc at) within lacks other = absurd (omega (arith, within))
lacks-insert key new (k ∷ ks) (suc at) within lacks other = (lacks.0, lacks-insert key new ks at (omega (arith, within)) lacks.1 other)

lacks-remove : (key : ℕ) (keys : List ℕ) (at : ℕ) → at < length keys → Lacks key keys → Lacks key (remove keys at)
lacks-remove key [] at within lacks = absurd (omega (arith, within))
lacks-remove key (k ∷ ks) zero within lacks = lacks.1
lacks-remove key (k ∷ ks) (suc at) within lacks = (lacks.0, lacks-remove key ks at (omega (arith, within)) lacks.1)

lacks_at : (key found : ℕ) (keys : List ℕ) (at : ℕ) → Lacks key keys → slice_get keys at ≡ Some found → found ≢ key
lacks_at key found [] at lacks is = absurd (key_absent found is)
lacks_at key found (k ∷ ks) zero lacks is = λ same. lacks.0 (key_same k found is ∙ same)
lacks_at key found (k ∷ ks) (suc at) lacks is = lacks_at key found ks at lacks.1 is

module _ {T : Type 0} (f : ℕ → Option T) where
  pub length-held : (keys : List ℕ) → AreKeys f keys → length (filter_map f keys) ≡ length keys
  length-held [] held = refl
  length-held (k ∷ ks) held = cons-length (f k) (filter_map f ks) held.0 ∙ ap suc (length-held ks held.2)

  pub held_at : (keys : List ℕ) (at key : ℕ) → AreKeys f keys → slice_get keys at ≡ Some key → slice_get (filter_map f keys) at ≡ f key
  held_at [] at key held is = absurd (key_absent key is)
  held_at (k ∷ ks) zero key held is = cons-first (f k) (filter_map f ks) held.0 ∙ ap f (key_same k key is)
  held_at (k ∷ ks) (suc at) key held is = cons-get (f k) (filter_map f ks) at held.0 ∙ held_at ks at key held.2 is

  pub is_held : (keys : List ℕ) (at key : ℕ) → AreKeys f keys → slice_get keys at ≡ Some key → IsSome (f key)
  is_held [] at key held is = absurd (key_absent key is)
  is_held (k ∷ ks) zero key held is = subst (λ (n : ℕ). IsSome (f n)) (key_same k key is) held.0
  is_held (k ∷ ks) (suc at) key held is = is_held ks at key held.2 is

  -- a key without an item is none of them
  is_none_of : (key : ℕ) (keys : List ℕ) → AreKeys f keys → f key ≡ None → Lacks key keys
  is_none_of key [] held none = tt
  is_none_of key (k ∷ ks) held none = ((λ same. some_none (f k) held.0 (ap f same ∙ none)), is_none_of key ks held.2 none)

  module _ (g : ℕ → Option T) (key : ℕ) (others : (other : ℕ) → other ≢ key → g other ≡ f other) where
    items-other : (keys : List ℕ) → Lacks key keys → filter_map g keys ≡ filter_map f keys
    items-other [] lacks = refl
    items-other (k ∷ ks) lacks = ap (λ (o : Option T). cons_option o (filter_map g ks)) (others k lacks.0) ∙ ap (cons_option (f k)) (items-other ks lacks.1)

    keys-other : (keys : List ℕ) → AreKeys f keys → Lacks key keys → AreKeys g keys
    keys-other [] held lacks = tt
    keys-other (k ∷ ks) held lacks = (subst IsSome (sym (others k lacks.0)) held.0, held.1, keys-other ks held.2 lacks.1)

    -- an item comes under a new key
    pub keys-insert : (item : T) (keys : List ℕ) (at : ℕ) → AreKeys f keys → f key ≡ None → g key ≡ Some item → at ≤ length keys → AreKeys g (insert keys at key)
    keys-insert item keys zero held none new within = (some_is (g key) item new, is_none_of key keys held none, keys-other keys held (is_none_of key keys held none))
    keys-insert item [] (suc at) held none new within = absurd (omega (arith, within))
    keys-insert item (k ∷ ks) (suc at) held none new within =
        let differs = is_none_of key (k ∷ ks) held none in (
          subst IsSome (sym (others k differs.0)) held.0,
          lacks-insert k key ks at (omega (arith, within)) held.1 (λ same. differs.0 (sym same)),
          keys-insert item ks at held.2 none new (omega (arith, within)),
        )

    pub items-insert : (item : T) (keys : List ℕ) (at : ℕ) → AreKeys f keys → f key ≡ None → g key ≡ Some item → at ≤ length keys → filter_map g (insert keys at key) ≡ insert (filter_map f keys) at item
    items-insert item keys zero held none new within =
        ap (λ (o : Option T). cons_option o (filter_map g keys)) new ∙ ap (λ (rest : List T). item ∷ rest) (items-other keys (is_none_of key keys held none))
    items-insert item [] (suc at) held none new within = absurd (omega (arith, within))
    items-insert item (k ∷ ks) (suc at) held none new within =
        let differs = is_none_of key (k ∷ ks) held none in
        ap (λ (o : Option T). cons_option o (filter_map g (insert ks at key))) (others k differs.0)
        ∙ ap (cons_option (f k)) (items-insert item ks at held.2 none new (omega (arith, within))) ∙ cons-insert (f k) (filter_map f ks) at item held.0

    -- the item at a place goes
    pub keys-remove : (keys : List ℕ) (at : ℕ) → AreKeys f keys → slice_get keys at ≡ Some key → AreKeys g (remove keys at)
    keys-remove [] at held is = absurd (key_absent key is)
    keys-remove (k ∷ ks) zero held is = keys-other ks held.2 (subst (λ (n : ℕ). Lacks n ks) (key_same k key is) held.1)
    keys-remove (k ∷ ks) (suc at) held is = (
      subst IsSome (sym (others k (λ same. lacks_at k key ks at held.1 is (sym same)))) held.0,
      lacks-remove k ks at (within_at ks at is) held.1,
      keys-remove ks at held.2 is,
    )
      where
        within_at : (ks : List ℕ) (at : ℕ) → slice_get ks at ≡ Some key → at < length ks
        within_at [] at is = absurd (key_absent key is)
        within_at (k ∷ ks) zero is = omega arith
        within_at (k ∷ ks) (suc at) is = omega (arith, within_at ks at is)

    pub items-remove : (keys : List ℕ) (at : ℕ) → AreKeys f keys → slice_get keys at ≡ Some key → filter_map g (remove keys at) ≡ remove (filter_map f keys) at
    items-remove [] at held is = absurd (key_absent key is)
    items-remove (k ∷ ks) zero held is =
        items-other ks (subst (λ (n : ℕ). Lacks n ks) (key_same k key is) held.1) ∙ cons-gone (f k) (filter_map f ks) held.0
    items-remove (k ∷ ks) (suc at) held is =
        ap (λ (o : Option T). cons_option o (filter_map g (remove ks at))) (others k (λ same. lacks_at k key ks at held.1 is (sym same)))
        ∙ ap (cons_option (f k)) (items-remove ks at held.2 is) ∙ cons-remove (f k) (filter_map f ks) at held.0

    -- another item comes in the place of one
    pub keys-set : (item : T) (keys : List ℕ) (at : ℕ) → AreKeys f keys → g key ≡ Some item → slice_get keys at ≡ Some key → AreKeys g keys
    keys-set item [] at held new is = absurd (key_absent key is)
    keys-set item (k ∷ ks) zero held new is =
        let same = key_same k key is in
        (some_is (g k) item (ap g same ∙ new), held.1, keys-other ks held.2 (subst (λ (n : ℕ). Lacks n ks) same held.1))
    keys-set item (k ∷ ks) (suc at) held new is =
        (subst IsSome (sym (others k (λ same. lacks_at k key ks at held.1 is (sym same)))) held.0, held.1, keys-set item ks at held.2 new is)

    pub items-set : (item : T) (keys : List ℕ) (at : ℕ) → AreKeys f keys → g key ≡ Some item → slice_get keys at ≡ Some key → filter_map g keys ≡ slice_set (filter_map f keys) at item
    items-set item [] at held new is = absurd (key_absent key is)
    items-set item (k ∷ ks) zero held new is =
        let same = key_same k key is in
        ap (λ (o : Option T). cons_option o (filter_map g ks)) (ap g same ∙ new)
        ∙ ap (λ (rest : List T). item ∷ rest) (items-other ks (subst (λ (n : ℕ). Lacks n ks) same held.1)) ∙ cons-changed (f k) (filter_map f ks) item held.0
    items-set item (k ∷ ks) (suc at) held new is =
        ap (λ (o : Option T). cons_option o (filter_map g ks)) (others k (λ same. lacks_at k key ks at held.1 is (sym same)))
        ∙ ap (cons_option (f k)) (items-set item ks at held.2 new is) ∙ cons-set (f k) (filter_map f ks) at item held.0
