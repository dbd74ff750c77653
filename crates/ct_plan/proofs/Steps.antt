-- What one operation does, and a piece of several.
use Rattle.std.proofs.Common.{◌≡◌, ℕ, zero, suc, ◌+◌, ◌<◌, ◌≤◌, List, [], ◌∷◌, ◌++◌, length, take, drop, set}
use Rattle.std.proofs.Common.{get_or, slice_get, Option, None, Some, Bool, true, false, is_some, cond, option_map, ◌==◌}
use Rattle.std.proofs.Common.{if◌then◌else◌, rules, refl, sym, ap, ◌∙◌, subst, arith, add-one, length-take, take-take}
use Rattle.std.proofs.Common.{take-append-drop, length-append}
use Rattle.std.specs.List.{All}
use Rattle.std.proofs.lemmas.List.Sums.{sum_by-set}
use Rattle.ct_word.specs.Kept.{Kept}
use Rattle.ct_pool.specs.Leases.{PoolState, LeaseState, IsLeaseOf, blocks_of, with_block}
use Rattle.ct_pool.proofs.Leases.{IsLeaseOf-with_block, KeepsOthers-with_block}
use Rattle.ct_plan.specs.declared.operation.BlockOp.{BlockOp}
use Rattle.ct_plan.specs.declared.operation.BlockOp.TheVariants as operations
use Rattle.ct_plan.specs.declared.task.Task.{Task}
use Rattle.ct_plan.specs.declared.task.Piece.{Piece}
use Rattle.ct_plan.specs.declared.task.PieceEnd.TheVariants.{All as AllDone, Miscompare}
use Rattle.ct_plan.specs.Plans.{gets_among}
use Rattle.ct_plan.specs.Cells.{Cells, Progress, after, after_all, difference_at, unless, performed, joined_where}
use Rattle.ct_plan.specs.Tasks.{IsReady, IsInside, IsCovered, left, cells_of}
use Rattle.ct_plan.specs.Pieces.{Makes, Performs, Uses, Advances, fault_of, fault_behind, faults_at, tried, unfailed_end}
use Rattle.ct_plan.specs.Pieces.{end_of}
use Rattle.ct_plan.specs.Pieces.{IsReadAmong, LastIsRead}
use Rattle.ct_plan.proofs.Lists.{slice_get-drop, slice_get-take, slice_get-within, take-one_more, drop-at}
use Rattle.ct_plan.proofs.Lists.{gets_among-cons}
use Rattle.ct_plan.proofs.Lists.{gets_among-append}
use Rattle.ct_plan.proofs.Performing.{after_all-append, performed-on, performed-stopped, performed-all, performed-cells}
use Rattle.ct_plan.proofs.Performing.{made_within, difference_still}

module _ (out : List ℕ) (old : Task) (before : List (List ℕ)) where
  pub makes_nothing : Makes out [] old old before before
  makes_nothing = record {
    plan = refl;
    lease = refl;
    done = omega arith;
    cells = refl;
    room = omega arith;
    grown = omega arith;
    size = refl;
  }

  pub makes_one : (operation : BlockOp) (body : Kept ℕ) (after : List (List ℕ))
      → Performs out operation old.body body before after
      → Makes out (operation ∷ []) old (record old { body = body; done = old.done + 1 }) before after
  makes_one operation body after performs = record {
    plan = refl;
    lease = refl;
    done = refl;
    cells = performs.cells;
    room = performs.room;
    grown = performs.grown;
    size = performs.size;
  }

  -- a task that went on, and went on from there
  pub makes_both : (middle new : Task) (between after : List (List ℕ)) (first second : List BlockOp) → Makes out first old middle before between → Makes out second middle new between after
      → Makes out (first ++ second) old new before after
  makes_both middle new between after first second one other = record {
    plan = other.plan ∙ one.plan;
    lease = other.lease ∙ one.lease;
    done = omega (arith, one.done, other.done, length-append first second);
    cells = other.cells ∙ ap (after_all out second) one.cells ∙ sym (after_all-append out first second (cells_of before old));
    room = omega (arith, one.room, other.room, gets_among-append first second);
    grown = omega (arith, one.grown, other.grown, gets_among-append first second);
    size = other.size ∙ one.size;
  }

-- one where a slot has a lease
abbrev one_in : Option (List (List ℕ)) → ℕ
one_in slot = cond (is_some slot) 1 0

found_within : (leases : List (Option (List (List ℕ)))) (key : ℕ) (blocks : List (List ℕ)) → get_or leases key None ≡ Some blocks → key < length leases
found_within [] key blocks found = absurd (cc)
found_within (slot ∷ rest) zero blocks found = omega arith
found_within (slot ∷ rest) (suc key) blocks found = omega (arith, found_within rest key blocks found)

-- the bytes of a block of a lease changed
pub uses_block : (pool : PoolState) (lease : LeaseState) (place : ℕ) (block : List ℕ) → IsLeaseOf pool lease → Uses pool (with_block pool lease place block) lease
uses_block pool lease place block held = record {
  holds = IsLeaseOf-with_block pool lease lease place block held held;
  others = KeepsOthers-with_block pool lease place block;
  free = refl;
  out =
      let count = sum_by-set one_in pool.leases lease.key (Some (set (blocks_of pool lease) place block)) None (found_within pool.leases lease.key (blocks_of pool lease) held.found) in
      let was_one : one_in (get_or pool.leases lease.key None) ≡ 1 = ap one_in held.found in
      omega (arith, count, was_one);
  size = refl;
  contexts = refl;
}

pub uses_both : (old middle new : PoolState) (lease : LeaseState) → Uses old middle lease → Uses middle new lease → Uses old new lease
uses_both old middle new lease one other = record {
  holds = other.holds;
  others = λ key differs. other.others key differs ∙ one.others key differs;
  free = other.free ∙ one.free;
  out = other.out ∙ one.out;
  size = other.size ∙ one.size;
  contexts = other.contexts ∙ one.contexts;
}

-- the operation behind those that were made is the next of those that were left
pub next_of_left : (out : List ℕ) (old task : Task) (before after : List (List ℕ)) (moved : ℕ) (operation : BlockOp) → Makes out (take moved (left old)) old task before after → moved < length (left old)
    → slice_get task.plan.operations task.done ≡ Some operation → slice_get (left old) moved ≡ Some operation
next_of_left out old task before after moved operation made within found =
    let there : old.done + moved ≡ task.done = omega (arith, made.done, length-take moved (left old)) in
    slice_get-drop old.done old.plan.operations moved ∙ ap (slice_get old.plan.operations) there
    ∙ ap (λ p. slice_get p.operations task.done) (sym made.plan) ∙ found

pub makes_one_more : (out : List ℕ) (old task new : Task) (before between after : List (List ℕ)) (moved : ℕ) (operation : BlockOp) → Makes out (take moved (left old)) old task before between
    → Makes out (operation ∷ []) task new between after → slice_get (left old) moved ≡ Some operation → Makes out (take (moved + 1) (left old)) old new before after
makes_one_more out old task new before between after moved operation made one found =
    rw (add-one, take-one_more moved (left old) operation found)
    (makes_both out old before task new between after (take moved (left old)) (operation ∷ []) made one)

-- a task can go on behind an operation
pub ready_behind : (out : ℕ) (bytes : List ℕ) (old new : Task) (before after : List (List ℕ)) (pool pool' : PoolState) (operation : BlockOp)
    → IsReady out (length before) pool old → Makes bytes (operation ∷ []) old new before after → Uses pool pool' old.lease → slice_get old.plan.operations old.done ≡ Some operation
    → IsReady out (length after) pool' new
ready_behind out bytes old new before after pool pool' operation ready made used found = record {
  inside = subst (λ (ops : List BlockOp). All (IsInside (length after)) ops) (sym (ap (λ p. p.operations) made.plan)) (subst (λ (n : ℕ). All (IsInside n) old.plan.operations) (sym made.size) ready.inside);
  covered = subst (λ (ops : List BlockOp). All (IsCovered out) ops) (sym (ap (λ p. p.operations) made.plan)) ready.covered;
  leased = subst (λ (lease : LeaseState). IsLeaseOf pool' lease) (sym made.lease) used.holds;
  need = ap (λ (lease : LeaseState). lease.count) made.lease ∙ ready.need ∙ sym (ap (λ p. p.need) made.plan);
  room =
      let there : new.done ≡ suc old.done = omega (arith, made.done) in
      rw (made.plan, there) (omega (arith, ready.room, made.room, gets_among-cons operation (drop (suc old.done) old.plan.operations), ap gets_among (drop-at old.done old.plan.operations operation found)));
}

-- one operation more, behind operations that found no difference
module _ (out : List ℕ) (pieces : List BlockOp) (start : Cells) (count : ℕ) (operation : BlockOp) (now : Cells) where
  abbrev one : Progress
  one = performed out (operation ∷ []) now

  behind_one : (performed out (take count pieces) start).difference ≡ None
      → now ≡ after_all out (take count pieces) start → slice_get pieces count ≡ Some operation
      → performed out (take (suc count) pieces) start ≡ record one { made = count + one.made }
  behind_one even here found =
      let first = performed-all out (take count pieces) start even in
      let within = slice_get-within pieces count operation found in
      let size : length (take count pieces) ≡ count = omega (arith, length-take count pieces, within) in
      ap (λ (ops : List BlockOp). performed out ops start) (take-one_more count pieces operation found)
      ∙ performed-on out (take count pieces) (operation ∷ []) start even
      ∙ ap (λ (p : Progress). joined_where None p (performed out (operation ∷ []) p.cells)) first
      ∙ ap (λ (n : ℕ). joined_where None
      (record { made = n; difference = None; cells = after_all out (take count pieces) start })
      (performed out (operation ∷ []) (after_all out (take count pieces) start))) size
      ∙ ap (λ (c : Cells). record (performed out (operation ∷ []) c)
      { made = count + (performed out (operation ∷ []) c).made }) (sym here)

  pub still_even : (performed out (take count pieces) start).difference ≡ None
      → now ≡ after_all out (take count pieces) start → slice_get pieces count ≡ Some operation
      → difference_at out operation now ≡ None
      → (performed out (take (count + 1) pieces) start).difference ≡ None
  still_even even here found none =
      rw add-one (ap (λ (p : Progress). p.difference) (behind_one even here found)
      ∙ ap (λ (d : Option ℕ). (unless d now (performed out [] (after out operation now))).difference) none)

  pub differs_now : (offset : ℕ) → (performed out (take count pieces) start).difference ≡ None
      → now ≡ after_all out (take count pieces) start → slice_get pieces count ≡ Some operation
      → difference_at out operation now ≡ Some offset
      → performed out pieces start ≡ record { made = count + 1; difference = Some offset; cells = now }
  differs_now offset even here found differs =
      let front : performed out (take (suc count) pieces) start
      ≡ record { made = count + 1; difference = Some offset; cells = now } =
      behind_one even here found
      ∙ ap (λ (d : Option ℕ). record (unless d now (performed out [] (after out operation now)))
      { made = count + (unless d now (performed out [] (after out operation now))).made }) differs in
      ap (λ (ops : List BlockOp). performed out ops start) (sym (take-append-drop (suc count) pieces))
      ∙ performed-stopped out (take (suc count) pieces) (drop (suc count) pieces) start offset
      (ap (λ (p : Progress). p.difference) front)
      ∙ front

-- a piece that made all of its operations
module _ (out : List ℕ) (pieces : List BlockOp) (old new : Task) (before after : List (List ℕ)) where
  abbrev cells : Cells
  cells = cells_of before old

  pub advances_whole : (count : ℕ) → Makes out pieces old new before after
      → (performed out pieces cells).difference ≡ None → length pieces ≡ count
      → Advances out pieces old new before after (record { moved = count; end = unfailed_end new }) (fault_behind count (unfailed_end new))
  advances_whole count made even all =
      let far = performed-all out pieces cells even in
      subst (Advances out pieces old new before after (record { moved = count; end = unfailed_end new })) (sym (no_fault (new.done == length new.plan.operations))) (record {
        moved = sym all ∙ sym (ap (λ p. p.made) far);
        done = omega (arith, made.done, all);
        blocks = ap (λ c. c.blocks) made.cells ∙ sym (ap (λ p. p.cells.blocks) far);
        got = ap (λ c. c.got) made.cells ∙ sym (ap (λ p. p.cells.got) far);
        end = ap (end_of new pieces None) (sym even);
        within = search rules;
        plan = made.plan;
        lease = made.lease;
        room = omega (arith, made.room, made.grown);
        size = made.size;
      })
    where
      no_fault : (is_end : Bool) → fault_behind count (if is_end then Some AllDone else None) ≡ None
      no_fault true = refl
      no_fault false = refl

  -- a piece that the medium ended, behind some of its pieces
  pub advances_fault : (count : ℕ) (operation : BlockOp) (task : Task) (blocks : List (List ℕ))
      → Makes out (take count pieces) old task before blocks
      → (performed out (take count pieces) cells).difference ≡ None
      → new ≡ task → after ≡ blocks → slice_get pieces count ≡ Some operation
      → Advances out pieces old new before after (record { moved = count; end = Some (fault_of operation) }) (fault_behind count (Some (fault_of operation)))
  advances_fault count operation task blocks made even new_is after_is found =
      let within = slice_get-within pieces count operation found in
      let far = performed-all out (take count pieces) cells even in
      subst (Advances out pieces old new before after (record { moved = count; end = Some (fault_of operation) })) (sym (is_there operation)) (rw (new_is, after_is) (record {
        moved = sym (ap (λ (p : Progress). p.made) far ∙ omega (arith, length-take count pieces, within));
        done = omega (arith, made.done, length-take count pieces, within);
        blocks = ap (λ c. c.blocks) made.cells ∙ sym (ap (λ (p : Progress). p.cells.blocks) far);
        got = ap (λ c. c.got) made.cells ∙ sym (ap (λ (p : Progress). p.cells.got) far);
        end = sym (ap (option_map fault_of) found) ∙ ap (end_of task pieces (Some count)) (sym even);
        within = within;
        plan = made.plan;
        lease = made.lease;
        room = omega (arith, made.room, made.grown);
        size = made.size;
      }))
    where
      is_there : (failed : BlockOp) → fault_behind count (Some (fault_of failed)) ≡ Some count
      is_there (operations.Get lba) = refl
      is_there (operations.Look lba) = refl
      is_there (operations.Put lba place) = refl
      is_there (operations.Zero lba) = refl
      is_there (operations.Compare lba place) = refl

  -- a piece that stopped behind a difference
  pub advances_differs : (count : ℕ) (operation : BlockOp) (task : Task) (between : List (List ℕ)) (offset : ℕ)
      → Makes out (take count pieces) old task before between
      → (performed out (take count pieces) cells).difference ≡ None → slice_get pieces count ≡ Some operation
      → difference_at out operation (cells_of between task) ≡ Some offset
      → Makes out (operation ∷ []) task new between after
      → Advances out pieces old new before after (record { moved = count + 1; end = Some (Miscompare offset) }) None
  advances_differs count operation task between offset made even found differs last =
      let far = differs_now out pieces cells count operation (cells_of between task) offset even made.cells found
      differs in
      let within = slice_get-within pieces count operation found in
      let same : cells_of after new ≡ cells_of between task =
      last.cells ∙ difference_still out operation (cells_of between task) offset differs in
      record {
        moved = sym (ap (λ (p : Progress). p.made) far);
        done = omega (arith, made.done, last.done, length-take count pieces, within);
        blocks = ap (λ (c : Cells). c.blocks) same ∙ sym (ap (λ (p : Progress). p.cells.blocks) far);
        got = ap (λ (c : Cells). c.got) same ∙ sym (ap (λ (p : Progress). p.cells.got) far);
        end = ap (end_of new pieces None) (sym (ap (λ (p : Progress). p.difference) far));
        within = search rules;
        plan = last.plan ∙ made.plan;
        lease = last.lease ∙ made.lease;
        room = omega (arith, made.room, made.grown, last.room, last.grown);
        size = last.size ∙ made.size;
      }

-- what a caller learns of a piece, whatever ended it
module _ (out : List ℕ) (pieces : List BlockOp) (old new : Task) (before after : List (List ℕ)) (piece : Piece) where
  pub moved_within : (fault : Option ℕ) → Advances out pieces old new before after piece fault → piece.moved ≤ length pieces
  moved_within None advanced = omega (arith, advanced.moved, made_within out pieces (cells_of before old))
  moved_within (Some place) advanced =
      omega (arith, advanced.moved, made_within out (take place pieces) (cells_of before old), length-take place pieces)

  -- the operations that a piece made are a front of those asked for
  pub cells_moved : (fault : Option ℕ) → Advances out pieces old new before after piece fault → cells_of after new ≡ after_all out (take piece.moved pieces) (cells_of before old)
  cells_moved fault advanced =
      let far : Progress = performed out (tried pieces fault) (cells_of before old) in
      ap (λ bs. record { blocks = bs; got = new.body.items }) advanced.blocks
      ∙ ap (λ items. record { blocks = far.cells.blocks; got = items }) advanced.got
      ∙ performed-cells out (tried pieces fault) (cells_of before old)
      ∙ ap (λ (n : ℕ). after_all out (take n (tried pieces fault)) (cells_of before old)) (sym advanced.moved)
      ∙ ap (λ (ops : List BlockOp). after_all out ops (cells_of before old))
      (front fault (rw advanced.moved (made_within out (tried pieces fault) (cells_of before old))))
    where
      front : (fault : Option ℕ) → piece.moved ≤ length (tried pieces fault)
          → take piece.moved (tried pieces fault) ≡ take piece.moved pieces
      front None within = refl
      front (Some place) within = take-take piece.moved place pieces (omega (arith, within, length-take place pieces))

-- the last of some operations has read, behind one that has
pub last_is_read : (operations : List BlockOp) (moved : ℕ) (operation : BlockOp) (blocks buffers : List (List ℕ))
    → slice_get operations moved ≡ Some operation → IsReadAmong blocks buffers operation
    → LastIsRead operations (moved + 1) blocks buffers
last_is_read operations moved operation blocks buffers found read = rw (add-one, found) read

pub last_is_still_read : (operations : List BlockOp) (moved : ℕ) (blocks buffers : List (List ℕ))
    → LastIsRead operations moved blocks buffers → LastIsRead (take moved operations) moved blocks buffers
last_is_still_read operations zero blocks buffers read = read
last_is_still_read operations (suc moved) blocks buffers read =
    rw (slice_get-take (suc moved) operations moved (omega arith)) read

-- an operation that the medium failed counts, and nothing else does
pub fault_counts : (moved : ℕ) (operation : BlockOp) → faults_at (fault_behind moved (Some (fault_of operation))) ≡ 1
fault_counts moved (operations.Get lba) = refl
fault_counts moved (operations.Look lba) = refl
fault_counts moved (operations.Put lba place) = refl
fault_counts moved (operations.Zero lba) = refl
fault_counts moved (operations.Compare lba place) = refl

pub unfailed_counts_none : (moved : ℕ) (task : Task) → faults_at (fault_behind moved (unfailed_end task)) ≡ 0
unfailed_counts_none moved task = go (task.done == length task.plan.operations)
  where
    go : (is_end : Bool) → faults_at (fault_behind moved (if is_end then Some AllDone else None)) ≡ 0
    go true = refl
    go false = refl
