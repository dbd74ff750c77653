-- The commands that a PREEMPT AND ABORT cuts: what is left of a task set, one by one.
use Rattle.std.proofs.Common.{◌≡◌, ℕ, ◌+◌, ◌≤◌, ◌&&◌, Bool, true, false, List, [], ◌∷◌, Some, inl, inr, refl, sym, ap}
use Rattle.std.proofs.Common.{◌∙◌}
use Rattle.std.proofs.Common.{nat_eq, cond, eqb-true, eq-eqb, arith, length}
use Rattle.std.proofs.lemmas.Bool.{and_parts, eqb-false}
use Rattle.ct_book.specs.declared.event.Event.TheVariants as event
use Rattle.ct_book.specs.declared.event.Why.TheVariants.{By}
use Rattle.ct_machine.specs.States.{Stage, Waiting, Here, Granted, There, Over, Task, State, is_waiting, is_remote}
use Rattle.ct_machine.specs.States.{task_of, without_task}
use Rattle.ct_machine.specs.Events.{after}
use Rattle.ct_machine.specs.Events.Ends.{after_cut, cut_at, noted, is_cleared, stops_with}
use Rattle.ct_machine.specs.Events.Sends.{stop}
use Rattle.ct_law.proofs.Lists.Tasks.{Has}
use Rattle.ct_law.proofs.Acts.Sends.{one_if, in_tasks, has_in}
use Rattle.ct_law.proofs.Inv.{told}

-- each of the commands has its own number
abbrev pub IsDistinct : List Task → Type 0
IsDistinct [] = Unit {0}
IsDistinct (x ∷ xs) = ((y : Task) → Has xs y → y.no ≡ x.no → ⊥) × IsDistinct xs

pub distinct_in : (q : List Task) → ((n : ℕ) → in_tasks n q ≤ 1) → IsDistinct q
distinct_in [] h = tt
distinct_in (x ∷ xs) h = (
  λ y hy k.
      let a = has_in xs y hy in
      let b = h x.no in
      let c : one_if (nat_eq x.no x.no) ≡ 1 = ap one_if (eq-eqb x.no x.no refl) in
      let d : in_tasks y.no xs ≡ in_tasks x.no xs = ap (λ n. in_tasks n xs) k in
      absurd (omega (arith, a, b, c, d)),
  distinct_in xs (λ n. let b = h n in omega (arith, b)),
)

-- some commands, each with its own number, stand in a task set
pub record Stands (rest tasks : List Task) : Type 0 where
  pub distinct : IsDistinct rest
  pub found : (y : Task) → Has rest y → task_of y.no tasks ≡ Some y

pub stands_tail : (x : Task) (rest tasks : List Task) → Stands (x ∷ rest) tasks → Stands rest tasks
stands_tail x rest tasks h = record { distinct = h.distinct.1; found = λ y hy. h.found y (inr hy) }

found_without : (n m : ℕ) (q : List Task) → (n ≡ m → ⊥) → task_of n (without_task m q) ≡ task_of n q
found_without n m [] ne = refl
found_without n m (y ∷ ys) ne = go (nat_eq y.no m) refl (found_without n m ys ne)
  where
    go : (t : Bool) → nat_eq y.no m ≡ t → task_of n (without_task m ys) ≡ task_of n ys
        → task_of n (cond t (without_task m ys) (y ∷ without_task m ys)) ≡ task_of n (y ∷ ys)
    go true e rec = rec ∙ other (nat_eq y.no n) refl
      where
        other : (t : Bool) → nat_eq y.no n ≡ t → task_of n ys ≡ cond t (Some y) (task_of n ys)
        other true k = absurd (ne (sym (eqb-true y.no n k) ∙ eqb-true y.no m e))
        other false k = refl
    go false e rec = ap (λ found. cond (nat_eq y.no n) (Some y) found) rec

pub stands_without : (x : Task) (rest tasks : List Task) → Stands (x ∷ rest) tasks
    → Stands rest (without_task x.no tasks)
stands_without x rest tasks h = record {
  distinct = h.distinct.1;
  found = λ y hy. found_without y.no x.no tasks (h.distinct.0 y hy) ∙ h.found y (inr hy);
}

-- the command with its number stands in the whole set
found_first : (x : Task) (q : List Task) → IsDistinct q → Has q x → task_of x.no q ≡ Some x
found_first x [] d h = absurd h
found_first x (y ∷ ys) d h = go (nat_eq y.no x.no) refl h (found_first x ys d.1)
  where
    go : (t : Bool) → nat_eq y.no x.no ≡ t → Has (y ∷ ys) x → (Has ys x → task_of x.no ys ≡ Some x)
        → cond t (Some y) (task_of x.no ys) ≡ Some x
    go true e (inl k) rec = ap Some k
    go true e (inr k) rec = absurd (d.0 x k (sym (eqb-true y.no x.no e)))
    go false e (inl k) rec = absurd (eqb-false y.no x.no e (ap (λ (z : Task). z.no) k))
    go false e (inr k) rec = rec k

pub stands_whole : (q : List Task) → IsDistinct q → Stands q q
stands_whole q d = record { distinct = d; found = λ y hy. found_first y q d hy }

-- a cut of a command that waits
pub after_clearing : (by : ℕ) (told_so : Bool) (x : Task) (s : State) → task_of x.no s.tasks ≡ Some x
    → x.stage ≡ Waiting
    → after s (told (event.Cut x.no 0 (By by) told_so))
    ≡ record s { tasks = without_task x.no s.tasks; functions = noted by x.no s.functions }
unfolding after
after_clearing by told_so x s e waits =
    ap (λ found. after_cut (By by) found s) e ∙ ap (λ stage. cut_at (By by) stage x s) waits

pub cleared_waits : (cleared : List Bool) (x : Task) → is_cleared cleared x ≡ true → x.stage ≡ Waiting
cleared_waits cleared x e = go x.stage refl (and_parts (is_waiting x.stage) _ e).0
  where
    go : (stage : Stage) → x.stage ≡ stage → is_waiting x.stage ≡ true → x.stage ≡ Waiting
    go Waiting k w = k
    go (Here done got) k w = absurd (let z = sym (ap is_waiting k) ∙ w in cc)
    go Granted k w = absurd (let z = sym (ap is_waiting k) ∙ w in cc)
    go (There done got) k w = absurd (let z = sym (ap is_waiting k) ∙ w in cc)
    go Over k w = absurd (let z = sym (ap is_waiting k) ∙ w in cc)

-- how many there are
abbrev pub count_cleared : List Bool → List Task → ℕ
count_cleared cleared [] = 0
count_cleared cleared (x ∷ xs) = one_if (is_cleared cleared x) + count_cleared cleared xs

-- no more stops than these
pub stops_count : (told_so : Bool) (by : ℕ) (cleared : List Bool) (tasks : List Task)
    → length (stops_with told_so by cleared tasks) ≤ count_cleared cleared tasks
stops_count told_so by cleared [] = omega arith
stops_count told_so by cleared (x ∷ xs) =
    go (is_cleared cleared x) (is_remote x.node) (stops_count told_so by cleared xs)
  where
    go : (t b : Bool) → length (stops_with told_so by cleared xs) ≤ count_cleared cleared xs
        → length (cond (t && b) (stop x.no by told_so ∷ stops_with told_so by cleared xs)
        (stops_with told_so by cleared xs))
        ≤ one_if t + count_cleared cleared xs
    go true true h = omega (arith, h)
    go true false h = omega (arith, h)
    go false true h = omega (arith, h)
    go false false h = omega (arith, h)
