-- What a write leaves of a medium in memory.
use Rattle.std.proofs.Common.{◌≡◌, ◌≢◌, ℕ, zero, suc, ◌+◌, ◌-◌, ◌<◌, ◌==◌, ◌^◌, List, [], ◌∷◌, ◌++◌, length, replicate}
use Rattle.std.proofs.Common.{get_or, set, cond, refl, sym, ap, ◌∙◌, inl, inr, arith, length-append}
use Rattle.std.proofs.lemmas.Bool.{cases_eq}
use Rattle.std.proofs.lemmas.Bool.Decides.{nat_tests}
use Rattle.std.proofs.lemmas.List.{length-set, length-map, length-replicate, get_or-set_same, get_or-set_other}
use Rattle.std.proofs.lemmas.List.{get_or-map, get_or_append_left, get_or_push, same_lists}
use Rattle.std.proofs.lemmas.List.Sums.{sum_by-set}
use Rattle.std.proofs.lemmas.List.Folds.{sum_by-replicate}
use Rattle.std.proofs.lemmas.Grind.{get_or_default_zero}
use Rattle.ct_word.specs.Kept.{Kept}
use Rattle.ct_medium.specs.Places.{place_of, blocks_at, unwritten, IsPlaced}

-- an LBA's block is the one at its place
pub block_at : (places : List ℕ) (list : List (List ℕ)) (lba : ℕ) → lba < length places
    → get_or (blocks_at places list) lba [] ≡ get_or list (place_of places lba) []
block_at places list lba within = get_or-map (λ place. get_or list place []) places lba 0 [] within

-- one where the place is 0
abbrev none_at : ℕ → ℕ
none_at place = cond (place == 0) 1 0

none_at_some : (place : ℕ) → 0 < place → none_at place ≡ 0
none_at_some place some = grind (arith, nat_tests)

-- a medium on which nothing was written
abbrev pub no_places : ℕ → List ℕ
no_places blocks = replicate blocks 0

place_zero : (blocks lba : ℕ) → place_of (no_places blocks) lba ≡ 0
place_zero zero lba = refl
place_zero (suc blocks) zero = refl
place_zero (suc blocks) (suc lba) = place_zero blocks lba

pub all_equal : (blocks : ℕ) (block : List ℕ) → blocks_at (no_places blocks) (block ∷ []) ≡ replicate blocks block
all_equal zero block = refl
all_equal (suc blocks) block = ap (λ l. block ∷ l) (all_equal blocks block)

all_unwritten : (blocks : ℕ) → unwritten (no_places blocks) ≡ blocks
all_unwritten blocks = omega (arith, sum_by-replicate none_at blocks 0)

pub placed_at_open : (blocks : ℕ) (list : Kept (List ℕ)) → blocks < 2 ^ 32 → list.items ≡ replicate 512 0 ∷ []
    → list.room ≡ blocks → IsPlaced (no_places blocks) list
placed_at_open blocks list few items room = record {
  few = omega (arith, few, length-replicate {A = ℕ} blocks 0);
  zeros = ap (λ (l : List (List ℕ)). get_or l 0 []) items;
  inside = λ lba. omega (arith, place_zero blocks lba, ap length items);
  apart = λ a b some same. absurd (some (place_zero blocks a));
  size = omega (arith, length-replicate {A = ℕ} blocks 0, all_unwritten blocks, ap length items);
  room = omega (arith, all_unwritten blocks, room);
}

-- one LBA has another block, and every other LBA has what it had
block_written : (places places' : List ℕ) (list list' : List (List ℕ)) (lba : ℕ) (block : List ℕ) → lba < length places
    → length places' ≡ length places → get_or list' (place_of places' lba) [] ≡ block
    → ((other : ℕ) → other ≢ lba → other < length places
    → get_or list' (place_of places' other) [] ≡ get_or list (place_of places other) [])
    → blocks_at places' list' ≡ set (blocks_at places list) lba block
block_written places places' list list' lba block within size changed others = same_lists _ _ sizes at
  where
    before : List (List ℕ)
    before = blocks_at places list

    known : length before ≡ length places
    known = length-map {A = ℕ} places (λ place. get_or list place [])

    known' : length (blocks_at places' list') ≡ length places
    known' = length-map {A = ℕ} places' (λ place. get_or list' place []) ∙ size

    sizes : length (blocks_at places' list') ≡ length (set before lba block)
    sizes = known' ∙ sym known ∙ sym (length-set before lba block)

    at : (k : ℕ) (d : List ℕ) → k < length (blocks_at places' list')
        → get_or (blocks_at places' list') k d ≡ get_or (set before lba block) k d
    at k d inside =
        let k_in : k < length places = omega (arith, known', inside) in
        let k_in' : k < length places' = omega (arith, size, k_in) in
        let found : get_or (blocks_at places' list') k d ≡ get_or list' (place_of places' k) [] =
        get_or-map (λ place. get_or list' place []) places' k 0 d k_in' in
        elim (cases_eq k lba) [
          | inl same ↦ found ∙ ap (λ n. get_or list' (place_of places' n) []) same ∙ changed
              ∙ sym (get_or-set_same before lba block d (omega (arith, known, within)))
              ∙ ap (λ n. get_or (set before lba block) n d) (sym same)
          | inr differs ↦ found ∙ others k differs k_in
              ∙ sym (get_or-map (λ place. get_or list place []) places k 0 d k_in)
              ∙ sym (get_or-set_other before lba k block d differs)
        ]

-- an LBA of the medium is one that has a place
pub has_place : (before : List (List ℕ)) (places : List ℕ) (list : List (List ℕ)) (lba : ℕ)
    → blocks_at places list ≡ before → lba < length before → lba < length places
has_place before places list lba view within =
    omega (arith, ap length view, length-map {A = ℕ} places (λ place. get_or list place []))

pub at_place : (places : List ℕ) (lba place : ℕ) → lba < length places → place ≡ get_or places lba place
    → place_of places lba ≡ place
at_place places lba place within found = sym (get_or_default_zero places lba place within) ∙ sym found

-- the first write of an LBA
module _ (places : List ℕ) (list list' : Kept (List ℕ)) (lba : ℕ) (block : List ℕ) (placed : IsPlaced places list)
    (within : lba < length places) (first : place_of places lba ≡ 0) where
  abbrev next : ℕ
  next = length list.items

  some : 0 < next
  some = omega (arith, placed.inside lba, first)

  fewer : unwritten (set places lba next) + 1 ≡ unwritten places
  fewer = omega (arith, sum_by-set none_at places lba next 0 within, ap none_at first, none_at_some next some)

  module _ (pushed : list' ≡ record { items = list.items ++ block ∷ []; room = list.room - 1 }) where
    items : list'.items ≡ list.items ++ block ∷ []
    items = ap (λ (l : Kept (List ℕ)). l.items) pushed

    long : length list'.items ≡ next + 1
    long = ap length items ∙ length-append list.items (block ∷ [])

    own : place_of (set places lba next) lba ≡ next
    own = get_or-set_same places lba next 0 within

    others : (other : ℕ) → other ≢ lba → place_of (set places lba next) other ≡ place_of places other
    others other differs = get_or-set_other places lba other next 0 differs

    kept : (place : ℕ) → place < next → get_or list'.items place [] ≡ get_or list.items place []
    kept place below = ap (λ l. get_or l place []) items ∙ get_or_append_left list.items (block ∷ []) [] place below

    at_lba : (other : ℕ) → other ≡ lba → place_of (set places lba next) other ≡ next
    at_lba other same = ap (place_of (set places lba next)) same ∙ own

    inside : (other : ℕ) → place_of (set places lba next) other < length list'.items
    inside other =
        elim (cases_eq other lba) [
          | inl same ↦ omega (arith, long, at_lba other same)
          | inr differs ↦ omega (arith, long, others other differs, placed.inside other)
        ]

    apart : (a b : ℕ) → place_of (set places lba next) a ≢ 0
        → place_of (set places lba next) a ≡ place_of (set places lba next) b → a ≡ b
    apart a b there same =
        elim (cases_eq a lba) [
          | inl x ↦ elim (cases_eq b lba) [
            | inl y ↦ x ∙ sym y
            | inr y ↦ absurd (omega (arith, at_lba a x, others b y, same, placed.inside b))
          ]
          | inr x ↦ elim (cases_eq b lba) [
            | inl y ↦ absurd (omega (arith, at_lba b y, others a x, same, placed.inside a))
            | inr y ↦ placed.apart a b (λ z. there (others a x ∙ z)) (sym (others a x) ∙ same ∙ others b y)
          ]
        ]

    pub placed_after_push : IsPlaced (set places lba (length list.items)) list'
    placed_after_push = record {
      few = omega (arith, placed.few, length-set places lba next);
      zeros = kept 0 some ∙ placed.zeros;
      inside = inside;
      apart = apart;
      size = omega (arith, placed.size, long, fewer, length-set places lba next);
      room = omega (arith, placed.room, fewer, ap (λ (l : Kept (List ℕ)). l.room) pushed);
    }

    pub blocks_after_push : blocks_at (set places lba (length list.items)) list'.items
        ≡ set (blocks_at places list.items) lba block
    blocks_after_push = block_written places (set places lba next) list.items list'.items lba block within
        (length-set places lba next)
        (ap (λ place. get_or list'.items place []) own ∙ ap (λ l. get_or l next []) items
        ∙ get_or_push list.items block [] next refl)
        (λ other differs _. ap (λ place. get_or list'.items place []) (others other differs)
        ∙ kept (place_of places other) (placed.inside other))

-- a later write of an LBA
module _ (places : List ℕ) (list list' : Kept (List ℕ)) (lba : ℕ) (block : List ℕ) (placed : IsPlaced places list)
    (within : lba < length places) (later : place_of places lba ≢ 0)
    (written : list' ≡ record list { items = set list.items (place_of places lba) block }) where
  set_items : list'.items ≡ set list.items (place_of places lba) block
  set_items = ap (λ (l : Kept (List ℕ)). l.items) written

  set_kept : (place : ℕ) → place ≢ place_of places lba → get_or list'.items place [] ≡ get_or list.items place []
  set_kept place differs = ap (λ l. get_or l place []) set_items
      ∙ get_or-set_other list.items (place_of places lba) place block [] differs

  pub blocks_after_set : blocks_at places list'.items ≡ set (blocks_at places list.items) lba block
  blocks_after_set = block_written places places list.items list'.items lba block within refl
      (ap (λ l. get_or l (place_of places lba) []) set_items
      ∙ get_or-set_same list.items (place_of places lba) block [] (placed.inside lba))
      (λ other differs _. set_kept (place_of places other)
      (λ same. differs (sym (placed.apart lba other later (sym same)))))
