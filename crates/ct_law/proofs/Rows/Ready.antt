-- What a command that is ready waits for no more.
use Rattle.std.proofs.Common.{◌≡◌, ℕ, inl, inr, Bool, true, false, not, ◌&&◌, ◌||◌, List, [], ◌∷◌, length, map, Option}
use Rattle.std.proofs.Common.{Some, None, refl, sym, ap, ◌∙◌, subst, nat_eq, cond, eqb-true}
use Rattle.std.proofs.lemmas.Bool.{false≢true, or_from}
use Rattle.ct_matrix.specs.declared.held.Held.{Held}
use Rattle.ct_matrix.specs.Conflicts.{conflicts, skips, has_to_wait, is_head, is_ordered}
use Rattle.ct_matrix.specs.Queues.{first_to_wait_for, blocker_of}
use Rattle.ct_book.specs.declared.work.Command.{Command}
use Rattle.ct_exec.specs.Controls.{is_unrestricted}
use Rattle.ct_machine.specs.States.{Task, State, held_by, held_of, task_set_of}
use Rattle.ct_machine.specs.Laws.Orderly.{goes_first}
use Rattle.ct_law.proofs.Lists.Tasks.{Has, precedes}
use Rattle.ct_law.proofs.Rows.Laws.{Laws}

-- no command of the task set stands in its way, on a disk of n blocks
abbrev pub IsReady : ℕ → Bool → Task → List Task → Type 0
IsReady n unrestricted x tasks = first_to_wait_for unrestricted true (held_of n x) (map (held_of n) tasks) ≡ None

pub ready_in : (s : State) (x : Task) → blocker_of (task_set_of s) (held_of (length s.blocks) x) ≡ None →
    IsReady (length s.blocks) (is_unrestricted s.control) x s.tasks
unfolding blocker_of
ready_in s x e = e

-- what a ready command waits for no more: in any place, and ahead
pub free_of : (n : ℕ) (unrestricted here : Bool) (x : Task) (q : List Task) (y : Task) →
    first_to_wait_for unrestricted here (held_of n x) (map (held_of n) q) ≡ None → Has q y → (y.no ≡ x.no → ⊥) →
    ((z : Task) → Has q z → z.no ≡ y.no → z ≡ y) →
    (ahead : Bool) × (has_to_wait unrestricted ahead (held_of n y).held (held_of n x).held ≡ false)
    × (here ≡ true → precedes y.no x.no q ≡ true → ahead ≡ true)
free_of n unrestricted here x [] y f h ne one = absurd h
free_of n unrestricted here x (z ∷ zs) y f h ne one =
    go (nat_eq z.no x.no) refl f h (λ a f' h'. free_of n unrestricted a x zs y f' h' ne (λ w hw. one w (inr hw)))
  where
    rest : Bool → Option ℕ
    rest a = first_to_wait_for unrestricted a (held_of n x) (map (held_of n) zs)

    waits : Bool → Task → Bool
    waits a w = has_to_wait unrestricted a (held_of n w).held (held_of n x).held

    Told : Bool → Bool → Type 0
    Told a p = (ahead : Bool) × (waits ahead y ≡ false) × (a ≡ true → p ≡ true → ahead ≡ true)

    first : (t : Bool) (o : Option ℕ) → cond t (Some z.no) o ≡ None → t ≡ false
    first true o e = absurd (cc)
    first false o e = refl

    second : (t : Bool) (o : Option ℕ) → cond t (Some z.no) o ≡ None → o ≡ None
    second true o e = absurd (cc)
    second false o e = e

    this : z ≡ y → (p : Bool) → cond (waits here z) (Some z.no) (rest here) ≡ None → Told here p
    this h p f = (here, subst (λ (w : Task). waits here w ≡ false) h (first (waits here z) (rest here) f), λ k l. k)

    later : (t : Bool) → nat_eq z.no y.no ≡ t → cond (waits here z) (Some z.no) (rest here) ≡ None →
        Told here (precedes y.no x.no zs) → Told here (t || precedes y.no x.no zs)
    later true k f r = this (one z (inl refl) (eqb-true z.no y.no k)) true f
    later false k f r = r

    go : (t : Bool) → nat_eq z.no x.no ≡ t → cond t (rest false) (cond (waits here z) (Some z.no) (rest here)) ≡ None →
        Has (z ∷ zs) y →
        ((a : Bool) → rest a ≡ None → Has zs y → Told a (precedes y.no x.no zs)) →
        Told here (cond t false (nat_eq z.no y.no || precedes y.no x.no zs))
    go true e f (inl h) rec = absurd (ne (ap (λ (w : Task). w.no) (sym h) ∙ eqb-true z.no x.no e))
    go true e f (inr h) rec = let r = rec false f h in (r.0, r.1, λ k l. absurd (cc))
    go false e f (inl h) rec = this h _ f
    go false e f (inr h) rec = later (nat_eq z.no y.no) refl f (rec here (second (waits here z) (rest here) f) h)

-- What has begun and isn't waited for is no conflict, and what is waited for has to end first.
pub undemanded : (laws : Laws) (unrestricted ahead : Bool) (a b : Held) → has_to_wait unrestricted ahead a b ≡ false →
    a.begun ≡ true → conflicts unrestricted a b ≡ false
undemanded laws unrestricted ahead a b d e = skip (skips a b) refl d
  where
    inner : (c h o oa ha : Bool) → cond (h || not ahead) (a.begun && c) (o || oa || ha || c) ≡ false → c ≡ false
    inner c h o oa ha k = by (h || not ahead) k
      where
        last : (x y z : Bool) → (x || y || z || c) ≡ false → c ≡ false
        last true y z k = absurd (cc)
        last false true z k = absurd (cc)
        last false false true k = absurd (cc)
        last false false false k = k

        by : (t : Bool) → cond t (a.begun && c) (o || oa || ha || c) ≡ false → c ≡ false
        by true k = subst (λ x. (x && c) ≡ false) e k
        by false k = last o oa ha k

    skip : (s : Bool) → skips a b ≡ s → cond s false
        (cond (is_head b.attr || not ahead) (a.begun && conflicts unrestricted a b)
        (is_ordered b.attr || is_ordered a.attr || is_head a.attr || conflicts unrestricted a b)) ≡ false →
        conflicts unrestricted a b ≡ false
    skip true s k = laws.skipped unrestricted a b s
    skip false s k =
        inner (conflicts unrestricted a b) (is_head b.attr) (is_ordered b.attr) (is_ordered a.attr) (is_head a.attr) k

pub undemanded_must : (laws : Laws) (n : ℕ) (unrestricted ahead first began : Bool) (a b : Command) →
    has_to_wait unrestricted ahead (held_by n a began) (held_by n b false) ≡ false →
    (is_head b.attr ≡ false → first ≡ true → ahead ≡ true) →
    (is_head b.attr ≡ false → is_head a.attr ≡ true → ahead ≡ true) → goes_first n unrestricted first began a b ≡ false
undemanded_must laws n unrestricted ahead first began a b d one two =
    or_from _ _ (skip (skips (held_by n a began) (held_by n b false)) refl d) (by began refl)
  where
    c : Bool
    c = conflicts unrestricted (held_by n a began) (held_by n b false)

    by : (t : Bool) → began ≡ t → (t && c) ≡ false
    by true e = undemanded laws unrestricted ahead (held_by n a began) (held_by n b false) d e
    by false e = refl

    left : (ha oa ob c : Bool) → (first ≡ true → ahead ≡ true) → (ha ≡ true → ahead ≡ true) →
        cond (not ahead) (began && c) (ob || oa || ha || c) ≡ false → (ha || (first && (ob || oa || c))) ≡ false
    left ha oa ob c f g k = go ahead first ha f g k
      where
        four : (ob oa c : Bool) → (ob || oa || false || c) ≡ false → (ob || oa || c) ≡ false
        four true oa c k = absurd (cc)
        four false true c k = absurd (cc)
        four false false c k = k

        none : (ob oa c : Bool) → (ob || oa || true || c) ≡ false → ⊥
        none true oa c k = cc
        none false true c k = cc
        none false false c k = cc

        go : (ah fi ha : Bool) → (fi ≡ true → ah ≡ true) → (ha ≡ true → ah ≡ true) →
            cond (not ah) (began && c) (ob || oa || ha || c) ≡ false → (ha || (fi && (ob || oa || c))) ≡ false
        go true fi true f g k = absurd (none ob oa c k)
        go true true false f g k = four ob oa c k
        go true false false f g k = refl
        go false true ha f g k = absurd (false≢true (f refl))
        go false false true f g k = absurd (false≢true (g refl))
        go false false false f g k = refl

    head : (hb : Bool) → is_head b.attr ≡ hb →
        cond (hb || not ahead) (began && c) (is_ordered b.attr || is_ordered a.attr || is_head a.attr || c) ≡ false →
        (not hb && (is_head a.attr || (first && (is_ordered b.attr || is_ordered a.attr || c)))) ≡ false
    head true e k = refl
    head false e k = left (is_head a.attr) (is_ordered a.attr) (is_ordered b.attr) c (one e) (two e) k

    skip : (s : Bool) → skips (held_by n a began) (held_by n b false) ≡ s →
        cond s false (cond (is_head b.attr || not ahead) (began && c)
        (is_ordered b.attr || is_ordered a.attr || is_head a.attr || c)) ≡ false →
        (not s && not (is_head b.attr) && (is_head a.attr || (first && (is_ordered b.attr || is_ordered a.attr || c))))
        ≡ false
    skip true s k = refl
    skip false s k = head (is_head b.attr) refl k
