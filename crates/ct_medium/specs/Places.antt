-- A medium in memory: for each LBA the place of its block in a list.
use Rattle.std.specs.Prelude.{◌≡◌, ◌≢◌, ℕ, ◌+◌, ◌<◌, ◌≤◌, ◌^◌, ◌==◌, List, [], length, map, replicate, count_by}
use Rattle.std.specs.Prelude.{slice_index_or}
use Rattle.ct_word.specs.Kept.{Kept}

-- the place of an LBA's block
abbrev pub place_of : List ℕ → ℕ → ℕ
place_of places lba = slice_index_or places lba 0

-- the block of each LBA
abbrev pub blocks_at : List ℕ → List (List ℕ) → List (List ℕ)
blocks_at places list = map (λ place. slice_index_or list place []) places

-- how many LBAs share place 0: those that were never written
abbrev pub unwritten : List ℕ → ℕ
unwritten places = count_by (λ place. place == 0) places

-- what a medium in memory keeps: at place 0 there is a block of zeros, every other place is one LBA's alone, and there
-- is room for the blocks to come
pub record IsPlaced (places : List ℕ) (list : Kept (List ℕ)) : Type 0 where
  pub few : length places < 2 ^ 32
  pub zeros : slice_index_or list.items 0 [] ≡ replicate 512 0
  pub inside : (lba : ℕ) → place_of places lba < length list.items
  pub apart : (a b : ℕ) → place_of places a ≢ 0 → place_of places a ≡ place_of places b → a ≡ b
  pub size : length list.items + unwritten places ≡ length places + 1
  pub room : unwritten places ≤ list.room
