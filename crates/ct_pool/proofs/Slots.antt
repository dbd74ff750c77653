-- Lemmas on the slots of leases.
use Rattle.std.proofs.Common.{◌≡◌, ◌≢◌, ℕ, zero, suc, ◌+◌, ◌<◌, List, [], ◌∷◌, length, get_or, set, Option, Some, None, is_some, cond, count_by, option_map, refl, ap, arith}
use Rattle.std.proofs.lemmas.List.Sums.{sum_by-cons, sum_by-set}
use Rattle.std.proofs.lemmas.List.{map-set}
use Rattle.ct_pool.specs.Leases.{count_in, blocks_out}
use Rattle.ct_pool.specs.Sound.{Blocks, leases_of}

-- what a slot shows of a lease
abbrev pub seen : Option Blocks → Option (List (List ℕ))
seen slot = option_map (λ blocks. blocks.items) slot

pub get_or-leases_of : (slots : List (Option Blocks)) (key : ℕ) → get_or (leases_of slots) key None ≡ seen (get_or slots key None)
get_or-leases_of [] key = refl
get_or-leases_of (slot ∷ rest) zero = refl
get_or-leases_of (slot ∷ rest) (suc key) = get_or-leases_of rest key

pub count_by-leases_of : (slots : List (Option Blocks)) → count_by is_some (leases_of slots) ≡ count_by is_some slots
count_by-leases_of [] = refl
count_by-leases_of (None ∷ rest) =
    omega (arith, count_by-leases_of rest, sum_by-cons (λ (o : Option Blocks). cond (is_some o) 1 0) None rest, sum_by-cons (λ (o : Option (List (List ℕ))). cond (is_some o) 1 0) None (leases_of rest))
count_by-leases_of (Some blocks ∷ rest) =
    omega (arith, count_by-leases_of rest, sum_by-cons (λ (o : Option Blocks). cond (is_some o) 1 0) (Some blocks) rest, sum_by-cons (λ (o : Option (List (List ℕ))). cond (is_some o) 1 0) (Some blocks.items) (leases_of rest))

pub leases_of-set : (slots : List (Option Blocks)) (key : ℕ) (slot : Option Blocks) → leases_of (set slots key slot) ≡ set (leases_of slots) key (seen slot)
leases_of-set slots key slot = map-set seen slots key slot

pub blocks_out-cons : (slot : Option (List (List ℕ))) (rest : List (Option (List (List ℕ)))) → blocks_out (slot ∷ rest) ≡ count_in slot + blocks_out rest
blocks_out-cons slot rest = sum_by-cons count_in slot rest

-- where each key holds the same, the blocks are as many
pub blocks_out-same : (old new : List (Option (List (List ℕ)))) → ((key : ℕ) → get_or new key None ≡ get_or old key None) → blocks_out new ≡ blocks_out old
blocks_out-same [] [] same = refl
blocks_out-same [] (n ∷ new) same =
    omega (arith, blocks_out-same [] new (λ key. same (suc key)), blocks_out-cons n new, ap count_in (same 0))
blocks_out-same (o ∷ old) [] same =
    omega (arith, blocks_out-same old [] (λ key. same (suc key)), blocks_out-cons o old, ap count_in (same 0))
blocks_out-same (o ∷ old) (n ∷ new) same =
    omega (arith, blocks_out-same old new (λ key. same (suc key)), blocks_out-cons o old, blocks_out-cons n new, ap count_in (same 0))

-- where one more key holds blocks, these are added
pub blocks_out-more : (old new : List (Option (List (List ℕ)))) (key : ℕ) (blocks : List (List ℕ)) → get_or old key None ≡ None → get_or new key None ≡ Some blocks
    → ((other : ℕ) → other ≢ key → get_or new other None ≡ get_or old other None) → blocks_out new ≡ blocks_out old + length blocks
blocks_out-more old [] key blocks vacant found others = absurd (cc)
blocks_out-more [] (n ∷ new) zero blocks vacant found others =
    let later : (k : ℕ) → get_or new k None ≡ get_or {A = Option (List (List ℕ))} [] k None = λ k. others (suc k) (λ e. absurd (omega (arith, e))) in
    omega (arith, blocks_out-same [] new later, blocks_out-cons n new, ap count_in found)
blocks_out-more [] (n ∷ new) (suc key) blocks vacant found others =
    let later : (k : ℕ) → k ≢ key → get_or new k None ≡ get_or {A = Option (List (List ℕ))} [] k None = λ k differs. others (suc k) (λ e. differs (omega (arith, e))) in
    omega (arith, blocks_out-more [] new key blocks refl found later, blocks_out-cons n new, ap count_in (others 0 (λ e. absurd (omega (arith, e)))))
blocks_out-more (o ∷ old) (n ∷ new) zero blocks vacant found others =
    let later : (k : ℕ) → get_or new k None ≡ get_or old k None = λ k. others (suc k) (λ e. absurd (omega (arith, e))) in
    omega (arith, blocks_out-same old new later, blocks_out-cons o old, blocks_out-cons n new, ap count_in found, ap count_in vacant)
blocks_out-more (o ∷ old) (n ∷ new) (suc key) blocks vacant found others =
    let later : (k : ℕ) → k ≢ key → get_or new k None ≡ get_or old k None = λ k differs. others (suc k) (λ e. differs (omega (arith, e))) in
    omega (arith, blocks_out-more old new key blocks vacant found later, blocks_out-cons o old, blocks_out-cons n new, ap count_in (others 0 (λ e. absurd (omega (arith, e)))))

-- a key that holds blocks is within the list
pub found-within : (leases : List (Option (List (List ℕ)))) (key : ℕ) (blocks : List (List ℕ)) → get_or leases key None ≡ Some blocks → key < length leases
found-within [] key blocks found = absurd (cc)
found-within (slot ∷ rest) zero blocks found = omega arith
found-within (slot ∷ rest) (suc key) blocks found = omega (arith, found-within rest key blocks found)

-- so is a key with a value
pub key_within : (slots : List (Option Blocks)) (key : ℕ) (blocks : Blocks) → get_or slots key None ≡ Some blocks → key < length slots
key_within [] key blocks found = absurd (cc)
key_within (slot ∷ rest) zero blocks found = omega arith
key_within (slot ∷ rest) (suc key) blocks found = omega (arith, key_within rest key blocks found)

-- what is left where a key is emptied
pub blocks_out-less : (leases : List (Option (List (List ℕ)))) (key : ℕ) (blocks : List (List ℕ)) → get_or leases key None ≡ Some blocks → blocks_out (set leases key None) + length blocks ≡ blocks_out leases
blocks_out-less leases key blocks found =
    omega (arith, sum_by-set count_in leases key None None (found-within leases key blocks found), ap count_in found)

-- as many where a key gets as many
pub blocks_out-write : (leases : List (Option (List (List ℕ)))) (key : ℕ) (before after : List (List ℕ)) → get_or leases key None ≡ Some before → length after ≡ length before → blocks_out (set leases key (Some after)) ≡ blocks_out leases
blocks_out-write leases key before after found same =
    omega (arith, sum_by-set count_in leases key (Some after) None (found-within leases key before found), ap count_in found)
