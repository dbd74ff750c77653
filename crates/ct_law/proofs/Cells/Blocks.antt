-- Operations on two lists of blocks that agree where they go.
use Rattle.std.proofs.Common.{◌≡◌, ℕ, zero, suc, ◌+◌, ◌*◌, ◌≤◌, ◌<◌, Bool, true, false, ◌||◌, List, [], ◌∷◌, ◌++◌}
use Rattle.std.proofs.Common.{Option, Some, None, length, take, slice_index_or, slice_set, refl, sym, ap, ◌∙◌, subst}
use Rattle.std.proofs.Common.{⊎_elim, arith, nat_eq, eq-eqb, cond}
use Rattle.std.specs.Prelude.{option_map}
use Rattle.std.proofs.lemmas.Bool.{cases_eq, cases_lt, or_cases, or_parts, or_left, or_right, both_ways, or_from}
use Rattle.std.proofs.lemmas.List.{length-set, get_or-set_same, get_or-set_other, set_past}
use Rattle.ct_plan.specs.declared.operation.BlockOp.{BlockOp}
use Rattle.ct_plan.specs.declared.operation.BlockOp.TheVariants as operations
use Rattle.ct_plan.specs.Plans.{is_put, puts_among}
use Rattle.ct_plan.specs.Tasks.{lba_of}
use Rattle.ct_plan.specs.Cells.{Cells, out_block, zero_block, after, after_all, first_difference, difference_at}
use Rattle.ct_plan.specs.Cells.{Progress, one_more, unless, performed}
use Rattle.ct_plan.proofs.Performing.{performed-cells, size_after_all}
use Rattle.ct_machine.specs.Serial.{first_puts}

-- the block at a place
abbrev pub cell : List (List ℕ) → ℕ → List ℕ
cell blocks lba = slice_index_or blocks lba []

-- some operation, or some put, of the list is at the place
abbrev pub uses : ℕ → List BlockOp → Bool
uses lba [] = false
uses lba (op ∷ ops) = nat_eq lba (lba_of op) || uses lba ops

abbrev pub puts : ℕ → List BlockOp → Bool
puts lba [] = false
puts lba (op ∷ ops) = cond (is_put op) (nat_eq lba (lba_of op)) false || puts lba ops

-- a command before its first operation
abbrev pub start : List (List ℕ) → Cells
start blocks = record { blocks = blocks; got = [] }

-- two lists of blocks are alike at these places
pub record Agree (P : ℕ → Type 0) (xs ys : List (List ℕ)) : Type 0 where
  pub size : length xs ≡ length ys
  pub at : (lba : ℕ) → P lba → cell xs lba ≡ cell ys lba

cell_set_same : (xs ys : List (List ℕ)) (i : ℕ) (b : List ℕ) → length xs ≡ length ys → cell xs i ≡ cell ys i →
    cell (slice_set xs i b) i ≡ cell (slice_set ys i b) i
cell_set_same xs ys i b size e =
    ⊎_elim
    (λ (w : i < length xs). get_or-set_same xs i b [] w ∙ sym (get_or-set_same ys i b [] (omega arith)))
    (λ (w : length xs ≤ i). ap (λ zs. cell zs i) (set_past xs i b w) ∙ e ∙ sym
    (ap (λ zs. cell zs i) (set_past ys i b (omega arith))))
    (cases_lt i (length xs))

pub agree_set : (P : ℕ → Type 0) (xs ys : List (List ℕ)) (i : ℕ) (b : List ℕ) → Agree P xs ys →
    Agree P (slice_set xs i b) (slice_set ys i b)
agree_set P xs ys i b h = record {
  size = length-set xs i b ∙ h.size ∙ sym (length-set ys i b);
  at = λ l p. ⊎_elim
      (λ (e : l ≡ i). subst (λ k. cell (slice_set xs k b) l ≡ cell (slice_set ys k b) l) e
      (cell_set_same xs ys l b h.size (h.at l p)))
      (λ (ne : l ≡ i → ⊥). get_or-set_other xs i l b [] ne ∙ h.at l p ∙ sym (get_or-set_other ys i l b [] ne))
      (cases_eq l i);
}

-- the same progress but for blocks elsewhere
pub record Like (P : ℕ → Type 0) (p q : Progress) : Type 0 where
  pub made : p.made ≡ q.made
  pub got : p.cells.got ≡ q.cells.got
  pub difference : p.difference ≡ q.difference
  pub blocks : Agree P p.cells.blocks q.cells.blocks

agree_after : (P : ℕ → Type 0) (out : List ℕ) (op : BlockOp) (x y : Cells) →
    Agree P x.blocks y.blocks → Agree P (after out op x).blocks (after out op y).blocks
agree_after P out (operations.Get l) x y h = h
agree_after P out (operations.Look l) x y h = h
agree_after P out (operations.Put l place) x y h = agree_set P x.blocks y.blocks l (out_block out place) h
agree_after P out (operations.Zero l) x y h = agree_set P x.blocks y.blocks l zero_block h
agree_after P out (operations.Compare l place) x y h = h

agree_got : (P : ℕ → Type 0) (out : List ℕ) (op : BlockOp) (x y : Cells) →
    P (lba_of op) → x.got ≡ y.got → Agree P x.blocks y.blocks → (after out op x).got ≡ (after out op y).got
agree_got P out (operations.Get l) x y p e h = ap (λ g. g ++ cell x.blocks l) e ∙ ap (λ c. y.got ++ c) (h.at l p)
agree_got P out (operations.Look l) x y p e h = e
agree_got P out (operations.Put l place) x y p e h = e
agree_got P out (operations.Zero l) x y p e h = e
agree_got P out (operations.Compare l place) x y p e h = e

-- the difference that an operation finds in a block, if it compares
abbrev difference_in : List ℕ → ℕ → List ℕ → Option ℕ
difference_in out place block = option_map (λ k. 512 * place + k) (first_difference block (out_block out place))

agree_difference : (P : ℕ → Type 0) (out : List ℕ) (op : BlockOp) (x y : Cells) →
    P (lba_of op) → Agree P x.blocks y.blocks → difference_at out op x ≡ difference_at out op y
agree_difference P out (operations.Get l) x y p h = refl
agree_difference P out (operations.Look l) x y p h = refl
agree_difference P out (operations.Put l place) x y p h = refl
agree_difference P out (operations.Zero l) x y p h = refl
agree_difference P out (operations.Compare l place) x y p h = ap (difference_in out place) (h.at l p)

head_used : (op : BlockOp) (ops : List BlockOp) → uses (lba_of op) (op ∷ ops) ≡ true
head_used op ops = or_left _ _ (eq-eqb (lba_of op) (lba_of op) refl)

unless_like : (P : ℕ → Type 0) (d : Option ℕ) (x y : Cells) (p q : Progress) → x.got ≡ y.got →
    Agree P x.blocks y.blocks → Like P p q → Like P (unless d x p) (unless d y q)
unless_like P None x y p q e h l = record {
  made = ap suc l.made;
  got = l.got;
  difference = l.difference;
  blocks = l.blocks;
}
unless_like P (Some k) x y p q e h l = record { made = refl; got = e; difference = refl; blocks = h }

pub perform_like : (P : ℕ → Type 0) (out : List ℕ) (ops : List BlockOp) (x y : Cells) →
    ((l : ℕ) → uses l ops ≡ true → P l) → x.got ≡ y.got → Agree P x.blocks y.blocks →
    Like P (performed out ops x) (performed out ops y)
perform_like P out [] x y within e h = record { made = refl; got = e; difference = refl; blocks = h }
perform_like P out (op ∷ ops) x y within e h =
    let here : P (lba_of op) = within (lba_of op) (head_used op ops) in
    let rest =
    perform_like P out ops (after out op x) (after out op y) (λ l u. within l (or_right _ _ u))
    (agree_got P out op x y here e h) (agree_after P out op x y h) in
    subst (λ d. Like P (performed out (op ∷ ops) x) (unless d y (performed out ops (after out op y))))
    (agree_difference P out op x y here h)
    (unless_like P (difference_at out op x) x y (performed out ops (after out op x))
    (performed out ops (after out op y)) e h rest)

-- where none is made there is none
pub none_made : (out : List ℕ) (ops : List BlockOp) (cells : Cells) → (performed out ops cells).made ≡ 0 → ops ≡ []
none_made out [] cells e = refl
none_made out (op ∷ ops) cells e = absurd (go (difference_at out op cells) e)
  where
    go : (d : Option ℕ) → (unless d cells (performed out ops (after out op cells))).made ≡ 0 → ⊥
    go None h = cc
    go (Some k) h = cc

-- those that were made are made again
pub performed_made : (out : List ℕ) (ops : List BlockOp) (cells : Cells) →
    performed out (take (performed out ops cells).made ops) cells ≡ performed out ops cells
performed_made out [] cells = refl
performed_made out (op ∷ ops) cells = go (difference_at out op cells) refl (performed_made out ops (after out op cells))
  where
    p : Progress
    p = performed out ops (after out op cells)

    go : (d : Option ℕ) → difference_at out op cells ≡ d → performed out (take p.made ops) (after out op cells) ≡ p →
        performed out (take (unless d cells p).made (op ∷ ops)) cells ≡ unless d cells p
    go None e h = ap (λ d. unless d cells (performed out (take p.made ops) (after out op cells))) e ∙ ap one_more h
    go (Some k) e h = ap (λ d. unless d cells (performed out [] (after out op cells))) e

-- operations leave alone what they don't put
after_elsewhere : (out : List ℕ) (op : BlockOp) (cells : Cells) (l : ℕ) (ops : List BlockOp) →
    puts l (op ∷ ops) ≡ false → cell (after out op cells).blocks l ≡ cell cells.blocks l
after_elsewhere out (operations.Get k) cells l ops e = refl
after_elsewhere out (operations.Look k) cells l ops e = refl
after_elsewhere out (operations.Put k place) cells l ops e =
    get_or-set_other cells.blocks k l (out_block out place) []
    (λ h. both_ways (nat_eq l k) (or_parts _ _ e).0 (eq-eqb l k h))
after_elsewhere out (operations.Zero k) cells l ops e =
    get_or-set_other cells.blocks k l zero_block [] (λ h. both_ways (nat_eq l k) (or_parts _ _ e).0 (eq-eqb l k h))
after_elsewhere out (operations.Compare k place) cells l ops e = refl

pub perform_elsewhere : (out : List ℕ) (ops : List BlockOp) (cells : Cells) (l : ℕ) → puts l ops ≡ false →
    cell (performed out ops cells).cells.blocks l ≡ cell cells.blocks l
perform_elsewhere out [] cells l e = refl
perform_elsewhere out (op ∷ ops) cells l e =
    go (difference_at out op cells)
    (perform_elsewhere out ops (after out op cells) l (or_parts _ _ e).1 ∙ after_elsewhere out op cells l ops e)
  where
    p : Progress
    p = performed out ops (after out op cells)

    go : (d : Option ℕ) → cell p.cells.blocks l ≡ cell cells.blocks l →
        cell (unless d cells p).cells.blocks l ≡ cell cells.blocks l
    go None h = h
    go (Some k) h = refl

pub perform_size : (out : List ℕ) (ops : List BlockOp) (cells : Cells) →
    length (performed out ops cells).cells.blocks ≡ length cells.blocks
perform_size out ops cells =
    ap (λ (now : Cells). length now.blocks) (performed-cells out ops cells)
    ∙ size_after_all out (take (performed out ops cells).made ops) cells

-- what operations do to the blocks doesn't depend on the data so far
after_alike : (out : List ℕ) (op : BlockOp) (x y : Cells) →
    x.blocks ≡ y.blocks → (after out op x).blocks ≡ (after out op y).blocks
after_alike out (operations.Get l) x y e = e
after_alike out (operations.Look l) x y e = e
after_alike out (operations.Put l place) x y e = ap (λ blocks. slice_set blocks l (out_block out place)) e
after_alike out (operations.Zero l) x y e = ap (λ blocks. slice_set blocks l zero_block) e
after_alike out (operations.Compare l place) x y e = e

difference_alike : (out : List ℕ) (op : BlockOp) (x y : Cells) →
    x.blocks ≡ y.blocks → difference_at out op x ≡ difference_at out op y
difference_alike out (operations.Get l) x y e = refl
difference_alike out (operations.Look l) x y e = refl
difference_alike out (operations.Put l place) x y e = refl
difference_alike out (operations.Zero l) x y e = refl
difference_alike out (operations.Compare l place) x y e = ap (λ blocks. difference_in out place (cell blocks l)) e

pub perform_alike : (out : List ℕ) (ops : List BlockOp) (x y : Cells) →
    x.blocks ≡ y.blocks → (performed out ops x).cells.blocks ≡ (performed out ops y).cells.blocks
perform_alike out [] x y e = e
perform_alike out (op ∷ ops) x y e =
    ap (λ d. (unless d x (performed out ops (after out op x))).cells.blocks) (difference_alike out op x y e)
    ∙ go (difference_at out op y) (perform_alike out ops (after out op x) (after out op y) (after_alike out op x y e))
  where
    p : Progress
    p = performed out ops (after out op x)

    q : Progress
    q = performed out ops (after out op y)

    go : (d : Option ℕ) → p.cells.blocks ≡ q.cells.blocks → (unless d x p).cells.blocks ≡ (unless d y q).cells.blocks
    go None h = h
    go (Some k) h = e

after_all_alike : (out : List ℕ) (ops : List BlockOp) (x y : Cells) →
    x.blocks ≡ y.blocks → (after_all out ops x).blocks ≡ (after_all out ops y).blocks
after_all_alike out [] x y e = e
after_all_alike out (op ∷ ops) x y e =
    after_all_alike out ops (after out op x) (after out op y) (after_alike out op x y e)

pub uses_front : (l : ℕ) (ps qs : List BlockOp) → uses l ps ≡ true → uses l (ps ++ qs) ≡ true
uses_front l [] qs e = cc
uses_front l (op ∷ ps) qs e =
    ⊎_elim
    (λ (h : nat_eq l (lba_of op) ≡ true). or_left _ _ h)
    (λ (h : uses l ps ≡ true). or_right (nat_eq l (lba_of op)) _ (uses_front l ps qs h))
    (or_cases _ _ e)

pub uses_back : (l : ℕ) (ps qs : List BlockOp) → uses l qs ≡ true → uses l (ps ++ qs) ≡ true
uses_back l [] qs e = e
uses_back l (op ∷ ps) qs e = or_right (nat_eq l (lba_of op)) _ (uses_back l ps qs e)

pub puts_back : (l : ℕ) (ps qs : List BlockOp) → puts l (ps ++ qs) ≡ false → puts l qs ≡ false
puts_back l [] qs e = e
puts_back l (op ∷ ps) qs e = puts_back l ps qs (or_parts _ _ e).1

pub puts_front : (l : ℕ) (ps qs : List BlockOp) → puts l (ps ++ qs) ≡ false → puts l ps ≡ false
puts_front l [] qs e = refl
puts_front l (op ∷ ps) qs e = let h = or_parts _ _ e in let r = puts_front l ps qs h.1 in or_from _ _ h.0 r

pub uses_put : (l : ℕ) (ops : List BlockOp) → puts l ops ≡ true → uses l ops ≡ true
uses_put l [] e = e
uses_put l (op ∷ ops) e =
    ⊎_elim (λ h. or_left _ _ (by op h)) (λ h. or_right (nat_eq l (lba_of op)) _ (uses_put l ops h)) (or_cases _ _ e)
  where
    by : (o : BlockOp) → cond (is_put o) (nat_eq l (lba_of o)) false ≡ true → nat_eq l (lba_of o) ≡ true
    by (operations.Get k) h = cc
    by (operations.Look k) h = cc
    by (operations.Put k place) h = h
    by (operations.Zero k) h = h
    by (operations.Compare k place) h = cc

pub unused_put : (l : ℕ) (ops : List BlockOp) → uses l ops ≡ false → puts l ops ≡ false
unused_put l ops e = go (puts l ops) refl
  where
    go : (t : Bool) → puts l ops ≡ t → puts l ops ≡ false
    go true h = absurd (both_ways (uses l ops) e (uses_put l ops h))
    go false h = h

-- The puts of a part

abbrev pub only_puts : List BlockOp → List BlockOp
only_puts [] = []
only_puts (op ∷ ops) = cond (is_put op) (op ∷ only_puts ops) (only_puts ops)

first_puts_skip : (k : ℕ) (op : BlockOp) (ops : List BlockOp) → is_put op ≡ false →
    first_puts k (op ∷ ops) ≡ first_puts k ops
first_puts_skip zero op ops e = refl
first_puts_skip (suc k) op ops e = ap (λ t. cond t (op ∷ first_puts k ops) (first_puts (suc k) ops)) e

-- as many puts as a front has are those of the front
pub first_puts_front : (ps qs : List BlockOp) → first_puts (puts_among ps) (ps ++ qs) ≡ only_puts ps
first_puts_front [] qs = refl
first_puts_front (op ∷ ps) qs = go (is_put op) refl (first_puts_front ps qs)
  where
    go : (t : Bool) → is_put op ≡ t → first_puts (puts_among ps) (ps ++ qs) ≡ only_puts ps →
        first_puts (cond t (suc (puts_among ps)) (puts_among ps)) (op ∷ (ps ++ qs)) ≡ cond t (op ∷ only_puts ps)
        (only_puts ps)
    go true e h =
        ap (λ u. cond u (op ∷ first_puts (puts_among ps) (ps ++ qs)) (first_puts (suc (puts_among ps)) (ps ++ qs))) e
        ∙ ap (λ l. op ∷ l) h
    go false e h = first_puts_skip (puts_among ps) op (ps ++ qs) e ∙ h

-- the puts alone leave the same blocks
pub only_puts_blocks : (out : List ℕ) (ops : List BlockOp) (cells : Cells) →
    (after_all out (only_puts ops) cells).blocks ≡ (after_all out ops cells).blocks
only_puts_blocks out [] cells = refl
only_puts_blocks out (operations.Get l ∷ ops) cells =
    only_puts_blocks out ops cells ∙ after_all_alike out ops cells (after out (operations.Get l) cells) refl
only_puts_blocks out (operations.Look l ∷ ops) cells = only_puts_blocks out ops cells
only_puts_blocks out (operations.Put l place ∷ ops) cells =
    only_puts_blocks out ops (after out (operations.Put l place) cells)
only_puts_blocks out (operations.Zero l ∷ ops) cells =
    only_puts_blocks out ops (after out (operations.Zero l) cells)
only_puts_blocks out (operations.Compare l place ∷ ops) cells = only_puts_blocks out ops cells
