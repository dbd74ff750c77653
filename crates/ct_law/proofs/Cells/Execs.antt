-- What the whole command does, against its operations one at a time.
use Rattle.std.proofs.Common.{◌≡◌, ℕ, zero, suc, ◌+◌, ◌≤◌, ◌<◌, true, false, List, [], ◌∷◌, ◌++◌, Option, Some, None}
use Rattle.std.proofs.Common.{length, take, drop, slice_get, refl, sym, ap, ◌∙◌, subst, ⊎_elim, arith, append_assoc}
use Rattle.std.proofs.Common.{drop_at, take-append-drop, length-append, length-take, append-nil}
use Rattle.std.proofs.lemmas.List.{take-take, take_all}
use Rattle.std.proofs.lemmas.Option.{slice_get_within}
use Rattle.std.proofs.lemmas.Bool.{cases_lt}
use Rattle.ct_plan.specs.declared.operation.BlockOp.{BlockOp}
use Rattle.ct_plan.specs.Cells.{Cells, Progress, after_all, performed, joined_where}
use Rattle.ct_book.specs.declared.work.Command.{Command}
use Rattle.ct_exec.specs.Controls.{Disk}
use Rattle.ct_exec.specs.Executions.{plan_in}
use Rattle.ct_plan.specs.Pieces.{tried}
use Rattle.ct_plan.proofs.Lists.{slice_get-drop}
use Rattle.ct_plan.proofs.Performing.{performed-on, performed-stopped, performed-all, performed-cells, made_within}
use Rattle.ct_law.proofs.Cells.Blocks.{cell, uses, puts, start, Like, perform_like, perform_elsewhere, perform_size}
use Rattle.ct_law.proofs.Cells.Blocks.{performed_made, uses_front, uses_back, puts_front, puts_back}
use Rattle.ct_law.proofs.Cells.Held.{Uses, Running}

-- a command before more operations, and after them
abbrev pub later : ℕ → Progress → Progress
later done p = record { made = done + p.made; difference = p.difference; cells = p.cells }

abbrev pub then' : ℕ → List (List ℕ) → Command → ℕ → ℕ → List ℕ → Progress
then' n blocks c count done got =
    later done (performed c.out (take count (drop done (plan_in n c))) (record { blocks = blocks; got = got }))

-- what a fault of the medium leaves of the operations is a front of them
pub tried_take : (count : ℕ) (ops : List BlockOp) (fault : Option ℕ) →
    (k : ℕ) × (tried (take count ops) fault ≡ take k ops)
tried_take count ops None = (count, refl)
tried_take count ops (Some fault) =
    ⊎_elim
    (λ (w : fault < count). (fault, take-take fault count ops (omega arith)))
    (λ (w : count ≤ fault). (count, take_all fault (take count ops) (let e = length-take count ops in omega (arith, e, w))))
    (cases_lt fault count)

take_fewer : (m k : ℕ) (ops : List BlockOp) → m ≤ length (take k ops) → take m (take k ops) ≡ take m ops
take_fewer m k ops le = take-take m k ops (let e = length-take k ops in omega (arith, e, le))

-- the operations that were counted are those that were made
pub made_all : (out : List ℕ) (k : ℕ) (ops : List BlockOp) (cells : Cells) →
    (performed out (take k ops) cells).cells ≡ after_all out (take (performed out (take k ops) cells).made ops) cells
made_all out k ops cells =
    let made : ℕ = (performed out (take k ops) cells).made in
    performed-cells out (take k ops) cells
    ∙ ap (λ l. after_all out l cells) (take_fewer made k ops (made_within out (take k ops) cells))

pub made_again : (out : List ℕ) (k : ℕ) (ops : List BlockOp) (cells : Cells) →
    performed out (take (performed out (take k ops) cells).made ops) cells ≡ performed out (take k ops) cells
made_again out k ops cells =
    ap (λ l. performed out l cells)
    (sym (take_fewer (performed out (take k ops) cells).made k ops (made_within out (take k ops) cells)))
    ∙ performed_made out (take k ops) cells

slice_get_take : (k : ℕ) (xs : List BlockOp) (i : ℕ) (x : BlockOp) → slice_get (take k xs) i ≡ Some x →
    slice_get xs i ≡ Some x
slice_get_take zero xs i x e = absurd (cc)
slice_get_take (suc k) [] i x e = e
slice_get_take (suc k) (y ∷ ys) zero x e = e
slice_get_take (suc k) (y ∷ ys) (suc i) x e = slice_get_take k ys i x e

-- where the medium fails an operation, it is the next of the plan
pub failed_at : (out : List ℕ) (plan : List BlockOp) (count done fault : ℕ) (cells : Cells) (op : BlockOp) →
    slice_get (take count (drop done plan)) fault ≡ Some op →
    (performed out (take fault (take count (drop done plan))) cells).difference ≡ None →
    slice_get plan (done + (performed out (take fault (take count (drop done plan))) cells).made) ≡ Some op
failed_at out plan count done fault cells op e none =
    let ops = take count (drop done plan) in
    let made = ap (λ (p : Progress). p.made) (performed-all out (take fault ops) cells none) in
    let size = length-take fault ops in
    let within = slice_get_within ops fault op e in
    ap (λ m. slice_get plan (done + m)) (omega (arith, made, size, within))
    ∙ sym (slice_get-drop done plan fault) ∙ slice_get_take count (drop done plan) fault op e

pub done_is : (n : ℕ) (disk : Disk) (blocks : List (List ℕ)) (c : Command) (done : ℕ) (got : List ℕ)
    (run : Running n disk blocks c done got) → length run.before ≡ done
done_is n disk blocks c done got run =
    let all = performed-all c.out run.before (start disk.blocks) (sym run.seen.difference) in
    sym (run.seen.made ∙ ap (λ (p : Progress). p.made) all)

pub rest_is : (n : ℕ) (disk : Disk) (blocks : List (List ℕ)) (c : Command) (done : ℕ) (got : List ℕ)
    (run : Running n disk blocks c done got) → drop done (plan_in n c) ≡ run.rest
rest_is n disk blocks c done got run =
    ap (drop done) (sym run.parts) ∙ drop_at run.before run.rest done (done_is n disk blocks c done got run)

parts_more : (before rest whole : List BlockOp) (count : ℕ) → before ++ rest ≡ whole →
    (before ++ take count rest) ++ drop count rest ≡ whole
parts_more before rest whole count e =
    append_assoc before (take count rest) (drop count rest) ∙ ap (λ x. before ++ x) (take-append-drop count rest) ∙ e

-- after more operations the machine is where the command alone would be
seen_more : (n : ℕ) (disk : Disk) (blocks : List (List ℕ)) (c : Command) (count done : ℕ) (got : List ℕ)
    (run : Running n disk blocks c done got) →
    Like (Uses n c) (then' n blocks c count done got)
    (performed c.out (run.before ++ take count run.rest) (start disk.blocks))
seen_more n disk blocks c count done got run =
    let here : Cells = record { blocks = blocks; got = got } in
    let p : Progress = performed c.out run.before (start disk.blocks) in
    let within : (l : ℕ) → uses l (take count run.rest) ≡ true → Uses n c l =
    λ l u. subst (λ ops. uses l ops ≡ true) (parts_more run.before run.rest (plan_in n c) count run.parts)
    (uses_front l (run.before ++ take count run.rest) (drop count run.rest)
    (uses_back l run.before (take count run.rest) u)) in
    let like : Like (Uses n c) (performed c.out (take count run.rest) here) (performed c.out (take count run.rest) p.cells) = perform_like (Uses n c) c.out (take count run.rest) here p.cells within run.seen.got run.seen.blocks in
    let e1 : then' n blocks c count done got ≡ later done (performed c.out (take count run.rest) here) =
    ap (λ ops. later done (performed c.out (take count ops) here)) (rest_is n disk blocks c done got run) in
    let q : Progress = performed c.out (take count run.rest) p.cells in
    let e2 : performed c.out (run.before ++ take count run.rest) (start disk.blocks) ≡ joined_where None p q =
    performed-on c.out run.before (take count run.rest) (start disk.blocks) (sym run.seen.difference) in
    let now : Progress = performed c.out (take count run.rest) here in
    let both : Like (Uses n c) (later done now) (joined_where None p q) = record {
      made = ap (λ m. m + now.made) run.seen.made ∙ ap (λ m. p.made + m) like.made;
      got = like.got;
      difference = like.difference;
      blocks = like.blocks;
    } in
    subst (λ x. Like (Uses n c) x (performed c.out (run.before ++ take count run.rest) (start disk.blocks))) (sym e1)
    (subst (λ x. Like (Uses n c) (later done now) x) (sym e2) both)

-- it goes on
pub runs_on : (n : ℕ) (disk : Disk) (blocks : List (List ℕ)) (c : Command) (count done : ℕ) (got : List ℕ) →
    Running n disk blocks c done got →
    (then' n blocks c count done got).difference ≡ None →
    Running n disk (then' n blocks c count done got).cells.blocks c (then' n blocks c count done got).made
    (then' n blocks c count done got).cells.got
runs_on n disk blocks c count done got run e =
    let s = seen_more n disk blocks c count done got run in
    record {
      before = run.before ++ take count run.rest;
      rest = drop count run.rest;
      parts = parts_more run.before run.rest (plan_in n c) count run.parts;
      seen = record { made = s.made; got = s.got; difference = sym e ∙ s.difference; blocks = s.blocks };
    }

-- it has come to its end
at_end : (n : ℕ) (disk : Disk) (blocks : List (List ℕ)) (c : Command) (count done : ℕ) (got : List ℕ)
    (run : Running n disk blocks c done got) →
    (then' n blocks c count done got).difference ≡ None →
    length (plan_in n c) ≤ (then' n blocks c count done got).made → run.before ++ take count run.rest ≡ plan_in n c
at_end n disk blocks c count done got run e l =
    let s = seen_more n disk blocks c count done got run in
    let none = sym s.difference ∙ e in
    let all = performed-all c.out (run.before ++ take count run.rest) (start disk.blocks) none in
    let more = ap (λ (p : Progress). p.made) all in
    let parts = parts_more run.before run.rest (plan_in n c) count run.parts in
    let sizes : length (plan_in n c) ≡ length (run.before ++ take count run.rest) + length (drop count run.rest) =
    ap length (sym parts) ∙ length-append (run.before ++ take count run.rest) (drop count run.rest) in
    let done_all : length (drop count run.rest) ≡ 0 = omega (arith, sizes, more, s.made, l) in
    sym (append-nil (run.before ++ take count run.rest))
    ∙ ap (λ x. (run.before ++ take count run.rest) ++ x) (sym (empty (drop count run.rest) done_all)) ∙ parts
  where
    empty : (ops : List BlockOp) → length ops ≡ 0 → ops ≡ []
    empty [] h = refl
    empty (op ∷ ops) h = absurd (cc)

pub seen_whole : (n : ℕ) (disk : Disk) (blocks : List (List ℕ)) (c : Command) (count done : ℕ) (got : List ℕ) →
    Running n disk blocks c done got →
    (then' n blocks c count done got).difference ≡ None →
    length (plan_in n c) ≤ (then' n blocks c count done got).made →
    Like (Uses n c) (then' n blocks c count done got) (performed c.out (plan_in n c) (start disk.blocks))
seen_whole n disk blocks c count done got run e l =
    subst (λ ops. Like (Uses n c) (then' n blocks c count done got) (performed c.out ops (start disk.blocks)))
    (at_end n disk blocks c count done got run e l) (seen_more n disk blocks c count done got run)

-- or to a difference
pub seen_difference : (n : ℕ) (disk : Disk) (blocks : List (List ℕ)) (c : Command) (count done : ℕ) (got : List ℕ)
    (offset : ℕ) → Running n disk blocks c done got →
    (then' n blocks c count done got).difference ≡ Some offset →
    Like (Uses n c) (then' n blocks c count done got) (performed c.out (plan_in n c) (start disk.blocks))
seen_difference n disk blocks c count done got offset run e =
    let s = seen_more n disk blocks c count done got run in
    let parts = parts_more run.before run.rest (plan_in n c) count run.parts in
    let q = performed c.out (run.before ++ take count run.rest) (start disk.blocks) in
    let whole : performed c.out (plan_in n c) (start disk.blocks) ≡ q =
    ap (λ ops. performed c.out ops (start disk.blocks)) (sym parts)
    ∙ performed-stopped c.out (run.before ++ take count run.rest) (drop count run.rest) (start disk.blocks) offset
    (sym s.difference ∙ e) in
    subst (λ x. Like (Uses n c) (then' n blocks c count done got) x) (sym whole) s

-- what more operations leave alone
pub then_elsewhere : (n : ℕ) (blocks : List (List ℕ)) (c : Command) (count done : ℕ) (got : List ℕ) (l : ℕ) →
    puts l (plan_in n c) ≡ false → cell (then' n blocks c count done got).cells.blocks l ≡ cell blocks l
then_elsewhere n blocks c count done got l e =
    perform_elsewhere c.out (take count (drop done (plan_in n c))) (record { blocks = blocks; got = got }) l
    (puts_front l (take count (drop done (plan_in n c))) (drop count (drop done (plan_in n c)))
    (subst (λ ops. puts l ops ≡ false) (sym (take-append-drop count (drop done (plan_in n c))))
    (puts_back l (take done (plan_in n c)) (drop done (plan_in n c))
    (subst (λ ops. puts l ops ≡ false) (sym (take-append-drop done (plan_in n c))) e))))

pub then_size : (n : ℕ) (blocks : List (List ℕ)) (c : Command) (count done : ℕ) (got : List ℕ) →
    length (then' n blocks c count done got).cells.blocks ≡ length blocks
then_size n blocks c count done got =
    perform_size c.out (take count (drop done (plan_in n c))) (record { blocks = blocks; got = got })
