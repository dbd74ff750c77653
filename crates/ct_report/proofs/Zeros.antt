-- Blocks of zeros.
use Rattle.std.proofs.Common.{◌≡◌, ℕ, zero, suc, ◌+◌, ◌<◌, ◌≤◌, ◌==◌, ◌&&◌, Bool, true, false, bit_or, List, [], ◌∷◌}
use Rattle.std.proofs.Common.{◌++◌, length, take, drop, get_or, refl, sym, ap, ◌∙◌, arith, bytes_eq}
use Rattle.std.proofs.lemmas.List.{drop_more}
use Rattle.std.specs.Int.Bits.{or_zero_l}
use Rattle.std.proofs.lemmas.Nat.{le_or_l}
use Rattle.std.proofs.lemmas.List.Folds.{list_all_more}
use Rattle.std.proofs.lemmas.Bool.Decides.{nat_tests}
use Rattle.std.proofs.lemmas.Slice.Eq.{bytes_eq-Decides}
use Rattle.ct_report.specs.DiskText.{is_zero, block_runs_text}
use Rattle.ct_report.specs.Runs.{Run, with_front, runs_of}

or_is_zero : (a b : ℕ) → (bit_or a b == 0) ≡ ((a == 0) && (b == 0))
or_is_zero zero b = rw or_zero_l refl
or_is_zero (suc a) b =
    let some : suc a ≤ bit_or (suc a) b = le_or_l (suc a) b in
    grind (arith, nat_tests)

-- no bit is set in the bytes so far, and none in one more
pub zero_more : (bytes : List ℕ) (bits i : ℕ) → i < length bytes → (bits == 0) ≡ is_zero (take i bytes)
    → (bit_or bits (get_or bytes i 0) == 0) ≡ is_zero (take (i + 1) bytes)
zero_more bytes bits i within so_far = or_is_zero bits (get_or bytes i 0)
    ∙ ap (λ t. t && (get_or bytes i 0 == 0)) so_far ∙ sym (list_all_more (λ byte. byte == 0) bytes i 0 within)

-- a block of zeros has no line, and none that begins with it
zeros_text : (first : ℕ) (block : List ℕ) (runs : List (Run (List ℕ))) → is_zero block ≡ true
    → block_runs_text first (with_front bytes_eq block runs) ≡ block_runs_text (first + 1) runs
zeros_text first block [] blank = rw blank refl
zeros_text first block (run ∷ runs) blank = by_test (bytes_eq run.item block) refl
  where
    by_test : (t : Bool) → bytes_eq run.item block ≡ t → block_runs_text first (with_front bytes_eq block
        (run ∷ runs)) ≡ block_runs_text (first + 1) (run ∷ runs)
    by_test true e =
        let same : run.item ≡ block = (bytes_eq-Decides run.item block).0 e in
        let blank_too : is_zero run.item ≡ true = ap is_zero same ∙ blank in
        let count : first + (run.count + 1) ≡ first + 1 + run.count = omega arith in
        rw (e, blank, blank_too) (ap (λ n. block_runs_text n runs) count)
    by_test false e = rw (e, blank) refl

pub zero_block_text : (text : List ℕ) (blocks : List (List ℕ)) (first : ℕ) → first < length blocks
    → is_zero (get_or blocks first []) ≡ true
    → text ++ block_runs_text (first + 1) (runs_of bytes_eq (drop (first + 1) blocks)) ≡ text ++ block_runs_text first
    (runs_of bytes_eq (drop first blocks))
zero_block_text text blocks first within blank =
    ap (λ l. text ++ l)
    (sym (zeros_text first (get_or blocks first []) (runs_of bytes_eq (drop (first + 1) blocks)) blank)
    ∙ sym (ap (λ all. block_runs_text first (runs_of bytes_eq all)) (drop_more blocks first [] within)))
