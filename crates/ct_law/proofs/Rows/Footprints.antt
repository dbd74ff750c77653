-- The operations of commands whose footprints don't overlap are apart.
use Rattle.std.proofs.Common.{◌≡◌, ℕ, ◌+◌, ◌⊎◌, inl, inr, Bool, true, false, not, ◌||◌, List, [], ◌∷◌, ◌++◌}
use Rattle.std.proofs.Common.{length, refl, sym, ap, ◌∙◌, subst, ⊎_elim, nat_eq, eqb-true, cond}
use Rattle.std.specs.List.{list_any}
use Rattle.std.proofs.lemmas.Bool.{both_ways, or_cases, or_parts, or_left, or_right}
use Rattle.std.proofs.lemmas.List.Folds.{list_any-append}
use Rattle.ct_cdb.specs.declared.op.SerIdx.{SerIdx}
use Rattle.ct_cdb.specs.declared.op.SerIdx.TheVariants.{Rd, Wr, Un}
use Rattle.ct_cdb.specs.declared.profile.Phase.{Phase}
use Rattle.ct_cdb.specs.declared.profile.Phase.TheVariants as phase
use Rattle.ct_cdb.specs.declared.profile.Profile.{Profile}
use Rattle.ct_cdb.specs.declared.ranges.LbaRange.{LbaRange}
use Rattle.ct_cdb.specs.Forms.{cdb_of}
use Rattle.ct_cdb.specs.Ranges.{numbers_from, numbers_of, total}
use Rattle.ct_cdb.specs.Profiles.{Fits, reads, writes, is_indexed, has_no_phase, is_performed}
use Rattle.ct_cdb.proofs.Fitting.{decoded_fits}
use Rattle.ct_plan.specs.declared.operation.BlockOp.{BlockOp}
use Rattle.ct_plan.specs.Plans.{is_put, operation_of, operations_from, operations_in, planned, plan_of}
use Rattle.ct_plan.specs.Tasks.{lba_of}
use Rattle.ct_plan.proofs.Planned.{lba_is}
use Rattle.ct_plan.proofs.Ranged.{put_of}
use Rattle.ct_matrix.specs.Extents.{Print, blocks_in, share_a_block, overlap, extents_of, rising, extents_if}
use Rattle.ct_matrix.specs.Extents.{whole_print}
use Rattle.ct_matrix.proofs.Rising.{any_rising}
use Rattle.ct_matrix.specs.Extents.{no_print, footprint_of}
use Rattle.ct_matrix.specs.Matrix.{action_of}
use Rattle.ct_matrix.specs.Conflicts.{is_conflict, conflicts}
use Rattle.ct_book.specs.declared.work.Command.{Command}
use Rattle.ct_book.specs.Works.{profile_in}
use Rattle.ct_exec.specs.Executions.{plan_in}
use Rattle.ct_machine.specs.States.{held_by}
use Rattle.ct_law.proofs.Cells.Blocks.{uses, puts}
use Rattle.ct_law.proofs.Rows.Laws.{Apart}

abbrev is_among : ℕ → List ℕ → Bool
is_among l xs = list_any (λ x. nat_eq l x) xs

-- what two lists share
not_shared : (l : ℕ) (xs ys : List ℕ) → share_a_block xs ys ≡ false → is_among l xs ≡ true → is_among l ys ≡ true → ⊥
not_shared l [] ys e h k = cc
not_shared l (x ∷ xs) ys e h k =
    let parts = or_parts _ _ e in
    ⊎_elim
    (λ (m : nat_eq l x ≡ true). both_ways (is_among l ys)
    (subst (λ z. is_among z ys ≡ false) (sym (eqb-true l x m)) parts.0) k)
    (λ (m : is_among l xs ≡ true). not_shared l xs ys parts.1 m k)
    (or_cases _ _ h)

among_front : (l : ℕ) (xs ys : List ℕ) → is_among l xs ≡ true → is_among l (xs ++ ys) ≡ true
among_front l xs ys e = list_any-append (λ x. nat_eq l x) xs ys ∙ or_left _ _ e

among_back : (l : ℕ) (xs ys : List ℕ) → is_among l ys ≡ true → is_among l (xs ++ ys) ≡ true
among_back l xs ys e = list_any-append (λ x. nat_eq l x) xs ys ∙ or_right (is_among l xs) _ e

-- the operations of a phase

reads_or_writes : (phase : Phase) → (reads phase ≡ true) ⊎ (writes phase ≡ true)
reads_or_writes phase.Get = inl refl
reads_or_writes phase.Look = inl refl
reads_or_writes phase.Put = inr refl
reads_or_writes phase.PutSecondHalf = inr refl
reads_or_writes phase.PutSame = inr refl
reads_or_writes phase.Zero = inr refl
reads_or_writes phase.Compare = inl refl

used_from : (l : ℕ) (phase : Phase) (count place : ℕ) (lbas : List ℕ)
    → uses l (operations_from phase count place lbas) ≡ is_among l lbas
used_from l phase count place [] = refl
used_from l phase count place (lba ∷ lbas) =
    ap (λ n. nat_eq l n || uses l (operations_from phase count (place + 1) lbas)) (lba_is phase count place lba)
    ∙ ap (λ r. nat_eq l lba || r) (used_from l phase count (place + 1) lbas)

-- where a phase puts, it writes, and the block is one of its own
put_from : (l : ℕ) (phase : Phase) (count place : ℕ) (lbas : List ℕ)
    → puts l (operations_from phase count place lbas) ≡ true → (writes phase ≡ true) × (is_among l lbas ≡ true)
put_from l phase count place [] e = absurd (cc)
put_from l phase count place (lba ∷ lbas) e =
    let here : (cond (writes phase) (nat_eq l lba) false || puts l (operations_from phase count (place + 1) lbas))
    ≡ true =
    ap (λ w. cond w (nat_eq l lba) false || puts l (operations_from phase count (place + 1) lbas))
    (sym (put_of phase count place lba))
    ∙ ap (λ n. cond (is_put (operation_of phase count place lba)) (nat_eq l n) false || puts l
    (operations_from phase count (place + 1) lbas)) (sym (lba_is phase count place lba))
    ∙ e in
    ⊎_elim
    (λ (m : cond (writes phase) (nat_eq l lba) false ≡ true). both (writes phase) (nat_eq l lba) m)
    (λ (m : puts l (operations_from phase count (place + 1) lbas) ≡ true).
    let rest = put_from l phase count (place + 1) lbas m in
    (rest.0, or_right (nat_eq l lba) (is_among l lbas) rest.1))
    (or_cases _ _ here)
  where
    both : (w t : Bool) → cond w t false ≡ true → (w ≡ true) × ((t || is_among l lbas) ≡ true)
    both true t m = (refl, or_left t (is_among l lbas) m)
    both false t m = absurd (cc)

puts_append : (l : ℕ) (xs ys : List BlockOp) → puts l (xs ++ ys) ≡ (puts l xs || puts l ys)
puts_append l [] ys = refl
puts_append l (x ∷ xs) ys = go (cond (is_put x) (nat_eq l (lba_of x)) false) (puts_append l xs ys)
  where
    go : (b : Bool) → puts l (xs ++ ys) ≡ (puts l xs || puts l ys)
        → (b || puts l (xs ++ ys)) ≡ ((b || puts l xs) || puts l ys)
    go true same = refl
    go false same = same

uses_append : (l : ℕ) (xs ys : List BlockOp) → uses l (xs ++ ys) ≡ (uses l xs || uses l ys)
uses_append l [] ys = refl
uses_append l (x ∷ xs) ys = go (nat_eq l (lba_of x)) (uses_append l xs ys)
  where
    go : (b : Bool) → uses l (xs ++ ys) ≡ (uses l xs || uses l ys)
        → (b || uses l (xs ++ ys)) ≡ ((b || uses l xs) || uses l ys)
    go true same = refl
    go false same = same

-- the operations of a plan

put_in : (l : ℕ) (phases : List Phase) (ranges : List LbaRange) → puts l (planned phases ranges) ≡ true
    → (list_any writes phases ≡ true) × (is_among l (numbers_of ranges) ≡ true)
put_in l [] ranges e = absurd (cc)
put_in l (phase ∷ phases) ranges e =
    ⊎_elim
    (λ (m : puts l (operations_in phase ranges) ≡ true).
    let here = put_from l phase (total ranges) 0 (numbers_of ranges) m in
    (or_left (writes phase) (list_any writes phases) here.0, here.1))
    (λ (m : puts l (planned phases ranges) ≡ true).
    let rest = put_in l phases ranges m in
    (or_right (writes phase) (list_any writes phases) rest.0, rest.1))
    (or_cases _ _ (sym (puts_append l (operations_in phase ranges) (planned phases ranges)) ∙ e))

used_in : (l : ℕ) (phases : List Phase) (ranges : List LbaRange) → uses l (planned phases ranges) ≡ true
    → ((list_any reads phases ≡ true) ⊎ (list_any writes phases ≡ true)) × (is_among l (numbers_of ranges) ≡ true)
used_in l [] ranges e = absurd (cc)
used_in l (phase ∷ phases) ranges e =
    ⊎_elim
    (λ (m : uses l (operations_in phase ranges) ≡ true). (
      ⊎_elim
          (λ (r : reads phase ≡ true). inl (or_left (reads phase) (list_any reads phases) r))
          (λ (w : writes phase ≡ true). inr (or_left (writes phase) (list_any writes phases) w))
          (reads_or_writes phase),
      sym (used_from l phase (total ranges) 0 (numbers_of ranges)) ∙ m,
    ))
    (λ (m : uses l (planned phases ranges) ≡ true).
    let rest = used_in l phases ranges m in (
      ⊎_elim
          (λ (r : list_any reads phases ≡ true). inl (or_right (reads phase) (list_any reads phases) r))
          (λ (w : list_any writes phases ≡ true). inr (or_right (writes phase) (list_any writes phases) w))
          rest.0,
      rest.1,
    ))
    (or_cases _ _ (sym (uses_append l (operations_in phase ranges) (planned phases ranges)) ∙ e))

-- the blocks of a footprint

extents_numbers : (ranges : List LbaRange) → blocks_in (extents_of ranges) ≡ numbers_of ranges
extents_numbers [] = refl
extents_numbers (range ∷ ranges) = go (nat_eq range.count 0) refl (extents_numbers ranges)
  where
    go : (none : Bool) → nat_eq range.count 0 ≡ none → blocks_in (extents_of ranges) ≡ numbers_of ranges
        → blocks_in (cond none (extents_of ranges)
        (record { first = range.lba; count = range.count } ∷ extents_of ranges))
        ≡ numbers_from range.lba range.count ++ numbers_of ranges
    go true e same = same ∙ ap (λ n. numbers_from range.lba n ++ numbers_of ranges) (sym (eqb-true range.count 0 e))
    go false e same = ap (λ numbers. numbers_from range.lba range.count ++ numbers) same

in_extents : (l : ℕ) (goes : Bool) (ranges : List LbaRange) → goes ≡ true → is_among l (numbers_of ranges) ≡ true
    → is_among l (blocks_in (extents_if goes (rising (extents_of ranges)))) ≡ true
in_extents l true ranges e m =
    any_rising (λ (block : ℕ). nat_eq l block) (extents_of ranges) ∙ ap (is_among l) (extents_numbers ranges) ∙ m
in_extents l false ranges e m = absurd (cc)

put_printed : (l : ℕ) (p : Profile) → puts l (planned p.phases p.ranges) ≡ true
    → is_among l (blocks_in (whole_print p).writes) ≡ true
put_printed l p e = let at = put_in l p.phases p.ranges e in in_extents l (list_any writes p.phases) p.ranges at.0 at.1

used_printed : (l : ℕ) (p : Profile) → uses l (planned p.phases p.ranges) ≡ true
    → (is_among l (blocks_in (whole_print p).reads) ≡ true) ⊎ (is_among l (blocks_in (whole_print p).writes) ≡ true)
used_printed l p e =
    let at = used_in l p.phases p.ranges e in
    ⊎_elim
    (λ (r : list_any reads p.phases ≡ true). inl (in_extents l (list_any reads p.phases) p.ranges r at.1))
    (λ (w : list_any writes p.phases ≡ true). inr (in_extents l (list_any writes p.phases) p.ranges w at.1))
    at.0

-- apart

none_first : (qs : List BlockOp) → Apart [] qs
none_first qs = record { first = λ l e. absurd (cc); second = λ l e. refl }

none_second : (ps : List BlockOp) → Apart ps []
none_second ps = record { first = λ l e. refl; second = λ l e. absurd (cc) }

no : (t : Bool) → (t ≡ true → ⊥) → t ≡ false
no true f = absurd (f refl)
no false f = refl

overlap_parts : (a b : Print) → overlap a b ≡ false
    → (share_a_block (blocks_in a.writes) (blocks_in b.reads ++ blocks_in b.writes) ≡ false)
    × (share_a_block (blocks_in a.reads) (blocks_in b.writes) ≡ false)
unfolding overlap
overlap_parts a b e = or_parts _ _ e

overlap_apart : (p q : Profile) → overlap (whole_print p) (whole_print q) ≡ false
    → Apart (planned p.phases p.ranges) (planned q.phases q.ranges)
overlap_apart p q e =
    let a : Print = whole_print p in
    let b : Print = whole_print q in
    let parts = overlap_parts a b e in
    record {
      first = λ l u. no (uses l (planned q.phases q.ranges))
          (λ v. not_shared l (blocks_in a.writes) (blocks_in b.reads ++ blocks_in b.writes) parts.0 (put_printed l p u)
          (⊎_elim (among_front l (blocks_in b.reads) (blocks_in b.writes))
          (among_back l (blocks_in b.reads) (blocks_in b.writes)) (used_printed l q v)));
      second = λ l u. no (uses l (planned p.phases p.ranges)) (λ v. ⊎_elim
          (λ (r : is_among l (blocks_in a.reads) ≡ true). not_shared l (blocks_in a.reads) (blocks_in b.writes) parts.1
          r (put_printed l q u))
          (λ (w : is_among l (blocks_in a.writes) ≡ true). not_shared l (blocks_in a.writes)
          (blocks_in b.reads ++ blocks_in b.writes) parts.0 w
          (among_back l (blocks_in b.reads) (blocks_in b.writes) (put_printed l q u)))
          (used_printed l p v));
    }

-- two commands that put nothing
readers_apart : (p q : Profile) → list_any writes p.phases ≡ false → list_any writes q.phases ≡ false
    → Apart (planned p.phases p.ranges) (planned q.phases q.ranges)
readers_apart p q v w = record {
  first = λ l u. absurd (both_ways (list_any writes p.phases) v (put_in l p.phases p.ranges u).0);
  second = λ l u. absurd (both_ways (list_any writes q.phases) w (put_in l q.phases q.ranges u).0);
}

-- what a pair of commands is that don't conflict under the restricted modifier
data Unshared (ps qs : List Phase) (shared : Bool) : Type 0 where
  FirstIdle : ps ≡ [] → Unshared ps qs shared
  SecondIdle : qs ≡ [] → Unshared ps qs shared
  Readers : list_any writes ps ≡ false → list_any writes qs ≡ false → Unshared ps qs shared
  Elsewhere : shared ≡ false → Unshared ps qs shared

idle : (phases : List Phase) → has_no_phase phases ≡ true → phases ≡ []
idle [] e = refl
idle (phase ∷ phases) e = absurd (cc)

no_writes : (phases : List Phase) → not (list_any writes phases) ≡ true → list_any writes phases ≡ false
no_writes phases e = go (list_any writes phases) e
  where
    go : (t : Bool) → not t ≡ true → t ≡ false
    go true e = absurd (cc)
    go false e = refl

-- the rows and columns of the table that commands have which move blocks; those of any other index are idle
unshared : (i j : SerIdx) (ps qs : List Phase) (shared : Bool) → is_indexed i ps ≡ true → is_indexed j qs ≡ true
    → is_conflict (action_of i j) false shared ≡ false → Unshared ps qs shared
unshared Rd Rd ps qs shared a b e = Readers (no_writes ps a) (no_writes qs b)
unshared Rd Wr ps qs shared a b e = Elsewhere e
unshared Rd Un ps qs shared a b e = Elsewhere e
unshared Rd _ ps qs shared a b e = SecondIdle (idle qs b)
unshared Wr Rd ps qs shared a b e = Elsewhere e
unshared Wr Wr ps qs shared a b e = Elsewhere e
unshared Wr Un ps qs shared a b e = Elsewhere e
unshared Wr _ ps qs shared a b e = SecondIdle (idle qs b)
unshared Un Rd ps qs shared a b e = Elsewhere e
unshared Un Wr ps qs shared a b e = Elsewhere e
unshared Un Un ps qs shared a b e = Elsewhere e
unshared Un _ ps qs shared a b e = SecondIdle (idle qs b)
unshared _ j ps qs shared a b e = FirstIdle (idle ps a)

performed_apart : (p q : Profile) → Fits p → Fits q
    → is_conflict (action_of p.index q.index) false (overlap (whole_print p) (whole_print q)) ≡ false
    → Apart (planned p.phases p.ranges) (planned q.phases q.ranges)
performed_apart p q fits fitted e =
    go (unshared p.index q.index p.phases q.phases (overlap (whole_print p) (whole_print q)) fits.indexed
    fitted.indexed e)
  where
    go : Unshared p.phases q.phases (overlap (whole_print p) (whole_print q))
        → Apart (planned p.phases p.ranges) (planned q.phases q.ranges)
    go (FirstIdle h) =
        subst (λ phases. Apart (planned phases p.ranges) (planned q.phases q.ranges)) (sym h)
        (none_first (planned q.phases q.ranges))
    go (SecondIdle h) =
        subst (λ phases. Apart (planned p.phases p.ranges) (planned phases q.ranges)) (sym h)
        (none_second (planned p.phases p.ranges))
    go (Readers v w) = readers_apart p q v w
    go (Elsewhere h) = overlap_apart p q h

-- two commands, each performed or not
either_apart : (s t : Bool) (p q : Profile) → Fits p → Fits q
    → is_conflict (action_of p.index q.index) false
    (overlap (cond s (whole_print p) no_print) (cond t (whole_print q) no_print)) ≡ false
    → Apart (cond s (planned p.phases p.ranges) []) (cond t (planned q.phases q.ranges) [])
either_apart true true p q fits fitted e = performed_apart p q fits fitted e
either_apart true false p q fits fitted e = none_second (planned p.phases p.ranges)
either_apart false t p q fits fitted e = none_first (cond t (planned q.phases q.ranges) [])

pub apart_law : (n : ℕ) (a b : Command) (x y : Bool) → conflicts false (held_by n a x) (held_by n b y) ≡ false
    → Apart (plan_in n a) (plan_in n b)
unfolding conflicts plan_in plan_of footprint_of profile_in
apart_law n a b x y e =
    either_apart (is_performed (length a.out) n (profile_in n a)) (is_performed (length b.out) n (profile_in n b))
    (profile_in n a) (profile_in n b)
    (decoded_fits (cdb_of a.cdb) a.out n) (decoded_fits (cdb_of b.cdb) b.out n) e
