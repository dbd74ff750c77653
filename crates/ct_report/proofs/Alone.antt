-- Bytes that differ from the one behind them.
use Rattle.std.proofs.Common.{◌≡◌, ℕ, suc, ◌+◌, ◌-◌, ◌<◌, ◌≤◌, Bool, true, false, nat_eq, List, [], ◌∷◌, ◌++◌, length}
use Rattle.std.proofs.Common.{map, take, drop, get_or, slice_set, refl, sym, ap, ◌∙◌, arith, append_assoc}
use Rattle.std.specs.List.{flat_map}
use Rattle.std.proofs.lemmas.List.{append-nil, take_more, take_more_set, take_all, take-append-drop, drop_more}
use Rattle.std.proofs.lemmas.List.{drop_all, map-append}
use Rattle.std.proofs.lemmas.List.Folds.{flat_map-map}
use Rattle.std.proofs.lemmas.Grind.{flat_map-append}
use Rattle.ct_report.specs.ByteText.{run_text, before_dots, dotted_text, alone_text}
use Rattle.ct_report.specs.Runs.{runs_of, alone}
use Rattle.ct_report.proofs.Running.{run_of, byte_runs_first}

one_alone : (byte : ℕ) (rest : List ℕ) → run_text (run_of byte 1) ++ 46 ∷ rest ≡ alone_text byte ++ rest
one_alone byte rest = simp (append_assoc, append-nil)

differs : (x y : ℕ) (ys : List ℕ) → nat_eq y x ≡ false → runs_of nat_eq (x ∷ y ∷ ys) ≡ run_of x 1 ∷ runs_of nat_eq
    (y ∷ ys)
differs x y ys e = rw byte_runs_first (rw e refl)

further : (x y : ℕ) (ys : List ℕ) → nat_eq y x ≡ false → flat_map alone_text (take (alone nat_eq (y ∷ ys))
    (y ∷ ys)) ++ dotted_text (drop (alone nat_eq (y ∷ ys)) (y ∷ ys)) ≡ dotted_text (y ∷ ys) →
    flat_map alone_text (take (alone nat_eq (x ∷ y ∷ ys)) (x ∷ y ∷ ys)) ++ dotted_text (drop (alone nat_eq
    (x ∷ y ∷ ys)) (x ∷ y ∷ ys)) ≡ dotted_text (x ∷ y ∷ ys)
further x y ys e rest =
    let n = alone nat_eq (y ∷ ys) in
    let runs : dotted_text (x ∷ y ∷ ys) ≡ alone_text x ++ dotted_text (y ∷ ys) = ap before_dots (differs x y ys e)
    ∙ one_alone x (dotted_text (y ∷ ys)) in
    let front : flat_map alone_text (take (suc n) (x ∷ y ∷ ys)) ++ dotted_text (drop (suc n)
    (x ∷ y ∷ ys)) ≡ alone_text x ++ dotted_text (y ∷ ys) =
    append_assoc (alone_text x) (flat_map alone_text (take n (y ∷ ys))) (dotted_text (drop n (y ∷ ys)))
    ∙ ap (λ l. alone_text x ++ l) rest in
    let count : alone nat_eq (x ∷ y ∷ ys) ≡ suc n = rw e (omega arith) in
    ap (λ k. flat_map alone_text (take k (x ∷ y ∷ ys)) ++ dotted_text (drop k (x ∷ y ∷ ys))) count ∙ front ∙ sym runs

-- bytes that stand alone, and the rest behind them
pub alone_rest : (bytes : List ℕ) → flat_map alone_text (take (alone nat_eq bytes) bytes) ++ dotted_text (drop
    (alone nat_eq bytes) bytes) ≡ dotted_text bytes
alone_rest [] = refl
alone_rest (x ∷ []) = simp (append_assoc, append-nil)
alone_rest (x ∷ y ∷ ys) = by_test (nat_eq y x) refl (alone_rest (y ∷ ys))
  where
    by_test : (t : Bool) → nat_eq y x ≡ t → flat_map alone_text (take (alone nat_eq (y ∷ ys)) (y ∷ ys)) ++ dotted_text
        (drop (alone nat_eq (y ∷ ys)) (y ∷ ys)) ≡ dotted_text (y ∷ ys)
        → flat_map alone_text (take (alone nat_eq (x ∷ y ∷ ys)) (x ∷ y ∷ ys)) ++ dotted_text (drop (alone nat_eq
        (x ∷ y ∷ ys)) (x ∷ y ∷ ys)) ≡ dotted_text (x ∷ y ∷ ys)
    by_test true e rest = rw e refl
    by_test false e rest = further x y ys e rest

-- bytes that stand alone are added, and the first run behind them
pub dotted_step : (all text more new rest singles others left : List ℕ) (n : ℕ) → text ++ dotted_text rest ≡ all
    → n ≡ alone nat_eq rest → singles ≡ take n rest → others ≡ drop n rest
    → more ≡ text ++ flat_map alone_text singles → new ++ dotted_text left ≡ more ++ dotted_text others
    → new ++ dotted_text left ≡ all
dotted_step all text more new rest singles others left n so_far count front back added first =
    let split : flat_map alone_text singles ++ dotted_text others ≡ dotted_text rest =
    ap (λ l. flat_map alone_text l ++ dotted_text others) (front ∙ ap (λ k. take k rest) count)
    ∙ ap (λ l. flat_map alone_text (take (alone nat_eq rest) rest) ++ dotted_text l) (back
    ∙ ap (λ k. drop k rest) count)
    ∙ alone_rest rest in
    first ∙ ap (λ l. l ++ dotted_text others) added ∙ append_assoc text (flat_map alone_text singles)
    (dotted_text others) ∙ ap (λ l. text ++ l) split ∙ so_far

-- there is no equal byte behind the last
pub all_alone : (bytes : List ℕ) (place : ℕ) → alone nat_eq bytes ≡ alone nat_eq (drop (place - 1) bytes) +
    (place - 1) → 1 ≤ place → length bytes ≤ place → (1 ≤ length bytes → place ≤ length bytes)
    → length bytes ≡ alone nat_eq bytes
all_alone [] place is low past end = refl
all_alone (x ∷ xs) place is low past end =
    let bytes = x ∷ xs in
    let top : place ≤ length bytes = end (omega arith) in
    let last : drop (place - 1) bytes ≡ get_or bytes (place - 1) 0 ∷ [] =
    drop_more bytes (place - 1) 0 (omega (arith, low, past, top))
    ∙ ap (λ l. get_or bytes (place - 1) 0 ∷ l) (drop_all (place - 1 + 1) bytes (omega (arith, low, past))) in
    let count : alone nat_eq bytes ≡ 1 + (place - 1) = is ∙ ap (λ l. alone nat_eq l + (place - 1)) last in
    omega (arith, count, low, past, top)

-- texts of one byte more
pub texts_more : (bytes : List ℕ) (texts : List (List ℕ)) (i : ℕ) (text : List ℕ) → i < length bytes
    → i < length texts → take i texts ≡ map alone_text (take i bytes) → text ≡ alone_text (get_or bytes i 0)
    → take (i + 1) (slice_set texts i text) ≡ map alone_text (take (i + 1) bytes)
texts_more bytes texts i text within fits so_far is =
    take_more_set texts i text fits
    ∙ ap (λ l. l ++ text ∷ []) so_far
    ∙ ap (λ t. map alone_text (take i bytes) ++ t ∷ []) is
    ∙ sym (ap (map alone_text) (take_more bytes i 0 within)
    ∙ map-append alone_text (take i bytes) (get_or bytes i 0 ∷ []))

pub all_texts : (bytes : List ℕ) (texts : List (List ℕ)) (i : ℕ) → length bytes ≤ i → length texts ≤ i
    → take i texts ≡ map alone_text (take i bytes) → texts ≡ map alone_text bytes
all_texts bytes texts i past full so_far = sym (take_all i texts full) ∙ so_far
    ∙ ap (map alone_text) (take_all i bytes past)

-- some bytes that stand alone, and those behind them
pub alone_chunk : (all text new rest chunk others : List ℕ) (texts : List (List ℕ)) (n : ℕ)
    → text ++ flat_map alone_text rest ≡ all → chunk ≡ take n rest → others ≡ drop n rest
    → texts ≡ map alone_text chunk → new ≡ text ++ flat_map (λ x. x) texts → new ++ flat_map alone_text others ≡ all
alone_chunk all text new rest chunk others texts n so_far front back is added =
    let flat : flat_map (λ x. x) texts ≡ flat_map alone_text chunk = ap (flat_map (λ x. x)) is
    ∙ flat_map-map (λ x. x) alone_text chunk in
    let whole : rest ≡ chunk ++ others = sym (take-append-drop n rest) ∙ ap (λ l. l ++ drop n rest) (sym front)
    ∙ ap (λ l. chunk ++ l) (sym back) in
    ap (λ l. l ++ flat_map alone_text others) (added ∙ ap (λ l. text ++ l) flat)
    ∙ append_assoc text (flat_map alone_text chunk) (flat_map alone_text others)
    ∙ ap (λ l. text ++ l) (sym (flat_map-append alone_text chunk others) ∙ ap (flat_map alone_text) (sym whole))
    ∙ so_far
