-- The first run of a list, and what is behind it.
use Rattle.std.proofs.Common.{◌≡◌, ℕ, ◌+◌, ◌-◌, take, Bool, true, false, not, nat_eq, List, [], ◌∷◌, ◌==◌, length, drop}
use Rattle.std.proofs.Common.{refl, sym, ap, ◌∙◌, arith, Decides, bytes_eq, subst, ◌++◌, ◌<◌, append_assoc, get_or}
use Rattle.std.specs.List.{between}
use Rattle.std.proofs.lemmas.List.{take_all, take-append-le, length-append, drop_more, drop-drop}
use Rattle.std.proofs.lemmas.Slice.{first_rest}
use Rattle.std.proofs.lemmas.List.{take_rest}
use native.Mathlib.Numerals.{one-add}
use Rattle.std.specs.List.{position_or_len}
use Rattle.std.proofs.lemmas.Bool.Decides.{Decides-eqb, nat_tests}
use Rattle.std.proofs.lemmas.Slice.Eq.{bytes_eq-Decides}
use Rattle.ct_report.specs.ByteText.{run_text, behind_dots, text_of_runs, text_of_bytes, before_dots, dotted_text}
use Rattle.ct_report.specs.DiskText.{block_run_text, block_runs_text}
use Rattle.ct_report.specs.Runs.{Run, with_front, runs_of}

-- a list that isn't empty, as a test tells it
pub not_empty : (xs : List ℕ) (empty : Bool) → empty ≡ (length xs == 0) → empty ≡ false → 0 < length xs
not_empty xs empty test e = grind (arith, nat_tests)

-- a run of so many items
abbrev pub run_of : {X : Type 0} → X → ℕ → Run X
run_of x n = record { item = x; count = n }

-- how many items are equal to this one, up to the first that isn't
abbrev pub ahead : {X : Type 0} → (X → X → Bool) → X → List X → ℕ
ahead same x xs = position_or_len (λ y. not (same y x)) xs

-- what is said of a list that begins with x
abbrev Begins : {X : Type 0} → (X → X → Bool) → X → List X → Type 0
Begins same x xs = runs_of same (x ∷ xs) ≡ run_of x (ahead same x xs + 1) ∷ runs_of same (drop (ahead same x xs) xs)

longer : {X : Type 0} (same : X → X → Bool) (x : X) (ys : List X) → same x x ≡ true → Begins same x ys
    → Begins same x (x ∷ ys)
longer same x ys e rest = ap (with_front same x) rest ∙ rw (e, one-add (ahead same x ys)) (ap
    (λ n. run_of x n ∷ runs_of same (drop (ahead same x ys) ys)) (omega arith))

begins : {X : Type 0} (same : X → X → Bool) (decides : (a b : X) → Decides (same a b) (a ≡ b)) (x y : X) (ys : List X)
    → Begins same y ys → Begins same x (y ∷ ys)
begins same decides x y ys rest = by_test (same y x) refl
  where
    by_test : (b : Bool) → same y x ≡ b → Begins same x (y ∷ ys)
    by_test true e = subst (λ z. Begins same z (y ∷ ys)) ((decides y x).0 e) (longer same y ys
        ((decides y y).1 refl) rest)
    by_test false e = ap (with_front same x) rest ∙ rw e (ap (λ runs. run_of x 1 ∷ runs) (sym rest))

pub runs_first : {X : Type 0} (same : X → X → Bool) (decides : (a b : X)
    → Decides (same a b) (a ≡ b)) (x : X) (xs : List X) → Begins same x xs
runs_first same decides x [] = refl
runs_first same decides x (y ∷ ys) = begins same decides x y ys (runs_first same decides y ys)

pub byte_runs_first : (first : ℕ) (others : List ℕ) → runs_of nat_eq (first ∷ others) ≡ run_of first
    (ahead nat_eq first others + 1) ∷ runs_of nat_eq (drop (ahead nat_eq first others) others)
byte_runs_first first others = runs_first nat_eq Decides-eqb first others

-- the first run in print, and the rest behind its dot
pub first_run_text : (old printed new bytes : List ℕ) (n : ℕ) → 0 < length bytes
    → n ≡ ahead nat_eq (get_or bytes 0 0) (between 1 (length bytes) bytes)
    → printed ≡ old ++ run_text (run_of (get_or bytes 0 0) (n + 1)) → new ≡ printed ++ 46 ∷ []
    → new ++ dotted_text (between n (length (between 1 (length bytes) bytes)) (between 1
    (length bytes) bytes)) ≡ old ++ dotted_text bytes
first_run_text old printed new bytes n some count print dot =
    let first = get_or bytes 0 0 in
    let others = between 1 (length bytes) bytes in
    let runs : runs_of nat_eq bytes ≡ run_of first (n + 1) ∷ runs_of nat_eq (drop n others) =
    ap (runs_of nat_eq) (first_rest bytes 0 some) ∙ byte_runs_first first others
    ∙ ap (λ k. run_of first (k + 1) ∷ runs_of nat_eq (drop k others)) (sym count) in
    let behind : new ++ dotted_text (drop n others) ≡ old ++ dotted_text bytes =
    rw (dot, print, append_assoc, append_assoc) (ap (λ rs. old ++ before_dots rs) (sym runs)) in
    ap (λ rest. new ++ dotted_text rest) (take_rest others n) ∙ behind

dots : (runs : List (Run ℕ)) → behind_dots runs ++ 46 ∷ [] ≡ 46 ∷ before_dots runs
dots [] = refl
dots (run ∷ runs) = ap (λ l. 46 ∷ l) (append_assoc (run_text run) (behind_dots runs) (46 ∷ [])
    ∙ ap (λ l. run_text run ++ l) (dots runs))

-- the last run has a dot behind it, too
pub last_dot : (bytes : List ℕ) → 0 < length bytes → dotted_text bytes ≡ text_of_bytes bytes ++ 46 ∷ []
last_dot [] some = absurd (omega arith)
last_dot (x ∷ xs) some =
    let n = ahead nat_eq x xs in
    let run : Run ℕ = run_of x (n + 1) in
    let others = runs_of nat_eq (drop n xs) in
    let runs : runs_of nat_eq (x ∷ xs) ≡ run ∷ others = byte_runs_first x xs in
    ap before_dots runs
    ∙ ap (λ l. run_text run ++ l) (sym (dots others))
    ∙ sym (append_assoc (run_text run) (behind_dots others) (46 ∷ []))
    ∙ ap (λ rs. text_of_runs rs ++ 46 ∷ []) (sym runs)

pub without_last_dot : (old text new bytes : List ℕ) (size : ℕ) → 0 < length bytes → text ≡ old ++ dotted_text bytes
    → size ≡ length text → new ≡ take (size - 1) text → new ≡ old ++ text_of_bytes bytes
without_last_dot old text new bytes size some is sized cut =
    let front = old ++ text_of_bytes bytes in
    let dot : text ≡ front ++ 46 ∷ [] = is ∙ ap (λ l. old ++ l) (last_dot bytes some)
    ∙ sym (append_assoc old (text_of_bytes bytes) (46 ∷ [])) in
    let long : length text ≡ length front + 1 = ap length dot ∙ length-append front (46 ∷ []) in
    let count : size - 1 ≡ length front = omega (arith, long, sized) in
    cut
    ∙ ap (λ n. take n text) count
    ∙ ap (take (length front)) dot
    ∙ take-append-le (length front) front (46 ∷ []) (omega arith)
    ∙ take_all (length front) front (omega arith)

-- the first run of the blocks from a place on in print, and the blocks behind it
pub first_blocks_text : (old new : List ℕ) (blocks : List (List ℕ)) (first end : ℕ) (bytes : List ℕ)
    → first < length blocks → bytes ≡ get_or blocks first []
    → end ≡ first + 1 + ahead bytes_eq (get_or blocks first []) (drop (first + 1) blocks)
    → new ≡ old ++ block_run_text first (run_of bytes (end - first))
    → new ++ block_runs_text end (runs_of bytes_eq (drop end blocks)) ≡ old ++ block_runs_text first
    (runs_of bytes_eq (drop first blocks))
first_blocks_text old new blocks first end bytes within is count text =
    let item = get_or blocks first [] in
    let others = drop (first + 1) blocks in
    let n = ahead bytes_eq item others in
    let size : end - first ≡ n + 1 = omega (arith, count) in
    let all : first + (end - first) ≡ end = omega (arith, count) in
    let runs : runs_of bytes_eq (drop first blocks) ≡ run_of bytes (end - first) ∷ runs_of bytes_eq (drop end blocks) =
    ap (runs_of bytes_eq) (drop_more blocks first [] within) ∙ runs_first bytes_eq bytes_eq-Decides item others
    ∙ ap (λ rest. run_of item (n + 1) ∷ runs_of bytes_eq rest) (drop-drop n (first + 1) blocks)
    ∙ ap (λ k. run_of item (n + 1) ∷ runs_of bytes_eq (drop k blocks)) (sym count)
    ∙ ap (λ k. run_of item k ∷ runs_of bytes_eq (drop end blocks)) (sym size)
    ∙ ap (λ block. run_of block (end - first) ∷ runs_of bytes_eq (drop end blocks)) (sym is) in
    rw (text, append_assoc)
    (ap (λ k. old ++ (block_run_text first (run_of bytes (end - first)) ++ block_runs_text k (runs_of bytes_eq
    (drop end blocks)))) (sym all) ∙ ap (λ rs. old ++ block_runs_text first rs) (sym runs))
