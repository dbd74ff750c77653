use Rattle.std.proofs.Common.{◌≡◌, ℕ, List, ◌+◌, ◌≤◌, suc, length, take, drop, Some, None, sym, ap, ◌∙◌, subst, arith}
use Rattle.std.proofs.Common.{length-take, length-drop, take-take}
use Rattle.std.specs.Prelude.{min}
use Rattle.std.proofs.lemmas.List.{take_min}
use Rattle.ct_plan.specs.declared.operation.BlockOp.{BlockOp}
use Rattle.ct_plan.specs.Plans.{gets_among}
use Rattle.ct_plan.specs.Cells.{difference_at}
use Rattle.ct_plan.specs.Tasks.{left, asked, cells_of}
use Rattle.ct_plan.specs.Pieces.{Uses, IsReadAmong, LastIsRead}
use Rattle.ct_plan.proofs.Lists.{drop-at, gets_among-cons, slice_get-take}
use Rattle.ct_plan.proofs.Steps.{next_of_left, makes_one_more, uses_both, ready_behind, still_even, advances_whole}
use Rattle.ct_plan.proofs.Steps.{advances_fault, advances_differs, last_is_read, last_is_still_read}
use Rattle.ct_plan.proofs.Steps.{fault_counts, unfailed_counts_none}
use Rattle.ct_pool.specs.Leases.{LeaseState, blocks_of}
use Rattle.ct_plan.proofs.pieces.advance.Goals as goal

pub make-requires-clause-room : goal.make-requires-clause-room
make-requires-clause-room g c =
    let operation = c.next-operation.result in
    let task = c.loop-moved.t in
    omega (
      arith,
      c.loop-moved.invariant.ready.room,
      gets_among-cons operation (drop
          (suc task.done) task.plan.operations),
      ap gets_among (drop-at task.done task.plan.operations operation
          c.next-operation.ensures.value),
    )

pub returns-in-Ok-Some-clause-moved : goal.returns-in-Ok-Some-clause-moved
returns-in-Ok-Some-clause-moved g c =
    let blocks = g.B.Backend.blocks in
    let known = c.loop-moved.invariant in
    let all = left c.args.t.now in
    let few : c.loop-moved.moved + 1 ≤ c.args.blocks = omega (arith, c.loop-moved-test.true, c.min-count.ensures) in
    let within : c.loop-moved.moved + 1 ≤ length all = omega (arith, c.loop-moved-test.true, known.count) in
    let found = next_of_left c.args.out.now c.args.t.now c.loop-moved.t (blocks c.args.medium.now)
    (blocks c.loop-moved.medium) c.loop-moved.moved c.next-operation.result known.made (omega
    (arith, within)) c.next-operation.ensures.value in
    let front : take c.loop-moved.moved (asked c.args.t.now c.args.blocks) ≡ take c.loop-moved.moved all =
    take-take c.loop-moved.moved c.args.blocks all (omega (arith, few)) in
    let differs : difference_at c.args.out.now c.next-operation.result
    (cells_of (blocks c.loop-moved.medium) c.loop-moved.t) ≡ Some c.in-Ok-Some.offset =
    sym (rw c.in-Ok-Some.field-0-is at c.in-Ok-Some.ensures.found) in
    rw c.in-Ok-Some.field-0-is
    (advances_differs c.args.out.now (asked c.args.t.now c.args.blocks) c.args.t.now c.make.new.t
    (blocks c.args.medium.now) (blocks c.make.new.medium) c.loop-moved.moved c.next-operation.result
    c.loop-moved.t (blocks c.loop-moved.medium) c.in-Ok-Some.offset
    (rw front known.made) (rw front known.even)
    (slice_get-take c.args.blocks all c.loop-moved.moved (omega (arith, few)) ∙ found) differs
    c.in-Ok-Some.ensures.made)

pub returns-in-Ok-Some-clause-read : goal.returns-in-Ok-Some-clause-read
returns-in-Ok-Some-clause-read g c =
    let blocks = g.B.Backend.blocks in
    let known = c.loop-moved.invariant in
    let all = left c.args.t.now in
    let few : c.loop-moved.moved + 1 ≤ c.args.blocks = omega (arith, c.loop-moved-test.true, c.min-count.ensures) in
    let within : c.loop-moved.moved + 1 ≤ length all = omega (arith, c.loop-moved-test.true, known.count) in
    let found = next_of_left c.args.out.now c.args.t.now c.loop-moved.t (blocks c.args.medium.now)
    (blocks c.loop-moved.medium) c.loop-moved.moved c.next-operation.result known.made (omega (arith, within))
    c.next-operation.ensures.value in
    λ no_fault. last_is_read (asked c.args.t.now c.args.blocks) c.loop-moved.moved c.next-operation.result
    (blocks c.make.new.medium) (blocks_of c.make.new.pool c.args.t.now.lease)
    (slice_get-take c.args.blocks all c.loop-moved.moved (omega (arith, few)) ∙ found)
    (subst (λ (lease : LeaseState). IsReadAmong (blocks c.make.new.medium) (blocks_of c.make.new.pool lease)
    c.next-operation.result) known.made.lease c.in-Ok-Some.ensures.read)

pub returns-in-Ok-Some-clause-ready : goal.returns-in-Ok-Some-clause-ready
returns-in-Ok-Some-clause-ready g c =
    let blocks = g.B.Backend.blocks in
    let known = c.loop-moved.invariant in
    ready_behind (length c.args.out.now) c.args.out.now c.loop-moved.t c.make.new.t (blocks c.loop-moved.medium)
    (blocks c.make.new.medium) c.loop-moved.pool c.make.new.pool c.next-operation.result known.ready
    c.in-Ok-Some.ensures.made c.make.ensures.pool c.next-operation.ensures.value

pub returns-in-Ok-Some-clause-counted : goal.returns-in-Ok-Some-clause-counted
returns-in-Ok-Some-clause-counted g c =
    omega (arith, c.in-Ok-Some.ensures.cause.kept, c.loop-moved.invariant.unfailed)

pub returns-in-Err-clause-counted : goal.returns-in-Err-clause-counted
returns-in-Err-clause-counted g c =
    rw c.fault.ensures
    (omega (
      arith,
      c.in-Err.ensures.cause.failed,
      c.loop-moved.invariant.unfailed,
      fault_counts c.loop-moved.moved c.next-operation.result,
    ))

pub returns-clause-counted : goal.returns-clause-counted
returns-clause-counted g c =
    rw c.unfailed.ensures
    (omega (arith, c.loop-moved.invariant.unfailed, unfailed_counts_none c.min-count.result c.loop-moved.t))

pub returns-in-Err-clause-moved : goal.returns-in-Err-clause-moved
returns-in-Err-clause-moved g c =
    let blocks = g.B.Backend.blocks in
    let known = c.loop-moved.invariant in
    let all = left c.args.t.now in
    let few : c.loop-moved.moved + 1 ≤ c.args.blocks = omega (arith, c.loop-moved-test.true, c.min-count.ensures) in
    let within : c.loop-moved.moved + 1 ≤ length all = omega (arith, c.loop-moved-test.true, known.count) in
    let found = next_of_left c.args.out.now c.args.t.now c.loop-moved.t (blocks c.args.medium.now)
    (blocks c.loop-moved.medium) c.loop-moved.moved c.next-operation.result known.made (omega (arith, within))
    c.next-operation.ensures.value in
    let front : take c.loop-moved.moved (asked c.args.t.now c.args.blocks) ≡ take c.loop-moved.moved all =
    take-take c.loop-moved.moved c.args.blocks all (omega (arith, few)) in
    rw c.fault.ensures (advances_fault c.args.out.now (asked c.args.t.now c.args.blocks) c.args.t.now c.make.new.t
    (blocks c.args.medium.now) (blocks c.make.new.medium) c.loop-moved.moved c.next-operation.result c.loop-moved.t
    (blocks c.loop-moved.medium)
    (rw front known.made) (rw front known.even) c.in-Err.ensures.kept c.in-Err.ensures.stays
    (slice_get-take c.args.blocks all c.loop-moved.moved (omega (arith, few)) ∙ found))

pub loop-moved-preserved : goal.loop-moved-preserved
loop-moved-preserved g c =
    let blocks = g.B.Backend.blocks in
    let known = c.loop-moved.invariant in
    let all = left c.args.t.now in
    let within : c.loop-moved.moved + 1 ≤ length all = omega (arith, c.loop-moved-test.true, known.count) in
    let found = next_of_left c.args.out.now c.args.t.now c.loop-moved.t (blocks c.args.medium.now)
    (blocks c.loop-moved.medium) c.loop-moved.moved c.next-operation.result known.made (omega
    (arith, within)) c.next-operation.ensures.value in
    let one = c.in-Ok-None.ensures.made in
    let none : difference_at c.args.out.now c.next-operation.result
    (cells_of (blocks c.loop-moved.medium) c.loop-moved.t) ≡ None =
    sym (rw c.in-Ok-None.field-0-is at c.in-Ok-None.ensures.found) in
    let used : Uses c.loop-moved.pool c.make.new.pool c.loop-moved.t.lease = c.make.ensures.pool in
    record {
      made = makes_one_more c.args.out.now c.args.t.now c.loop-moved.t c.make.new.t (blocks c.args.medium.now)
          (blocks c.loop-moved.medium) (blocks c.make.new.medium) c.loop-moved.moved c.next-operation.result
          known.made one found;
      even = still_even c.args.out.now all (cells_of (blocks c.args.medium.now) c.args.t.now) c.loop-moved.moved
          c.next-operation.result (cells_of (blocks c.loop-moved.medium) c.loop-moved.t) known.even known.made.cells
          found none;
      read = last_is_read all c.loop-moved.moved c.next-operation.result (blocks c.make.new.medium)
          (blocks_of c.make.new.pool c.args.t.now.lease) found
          (subst (λ (lease : LeaseState). IsReadAmong (blocks c.make.new.medium) (blocks_of c.make.new.pool lease)
          c.next-operation.result) known.made.lease c.in-Ok-None.ensures.read);
      used = uses_both c.args.pool.now c.loop-moved.pool c.make.new.pool c.args.t.now.lease known.used (subst
          (Uses c.loop-moved.pool c.make.new.pool) known.made.lease used);
      ready = ready_behind (length c.args.out.now) c.args.out.now c.loop-moved.t c.make.new.t
          (blocks c.loop-moved.medium) (blocks c.make.new.medium) c.loop-moved.pool c.make.new.pool
          c.next-operation.result known.ready one used c.next-operation.ensures.value;
      unfailed = c.in-Ok-None.ensures.cause.kept ∙ known.unfailed;
      count = known.count;
      small = known.small;
    }

pub returns-clause-moved : goal.returns-clause-moved
returns-clause-moved g c =
    let blocks = g.B.Backend.blocks in
    let known = c.loop-moved.invariant in
    let all = left c.args.t.now in
    let left_length = length-drop c.args.t.now.done c.args.t.now.plan.operations in
    let far : c.loop-moved.moved ≡ min c.args.blocks (length all) = omega
    (arith, c.loop-moved-test.false, c.loop-moved.auto.moved-end, c.min-count.ensures, c.length.ensures, left_length) in
    let same : take c.loop-moved.moved all ≡ asked c.args.t.now c.args.blocks = ap (λ n. take n all) far
    ∙ take_min c.args.blocks all in
    rw c.unfailed.ensures
    (advances_whole c.args.out.now (asked c.args.t.now c.args.blocks) c.args.t.now c.loop-moved.t
    (blocks c.args.medium.now) (blocks c.loop-moved.medium) c.min-count.result
    (rw (← same) known.made) (rw (← same) known.even)
    (length-take c.args.blocks all ∙ sym far ∙ omega (arith, c.loop-moved-test.false, c.loop-moved.auto.moved-end)))

pub returns-clause-read : goal.returns-clause-read
returns-clause-read g c =
    let blocks = g.B.Backend.blocks in
    let known = c.loop-moved.invariant in
    let all = left c.args.t.now in
    let left_length = length-drop c.args.t.now.done c.args.t.now.plan.operations in
    let far : c.loop-moved.moved ≡ min c.args.blocks (length all) =
    omega (
      arith,
      c.loop-moved-test.false,
      c.loop-moved.auto.moved-end,
      c.min-count.ensures,
      c.length.ensures,
      left_length,
    ) in
    let same : take c.loop-moved.moved all ≡ asked c.args.t.now c.args.blocks =
    ap (λ n. take n all) far ∙ take_min c.args.blocks all in
    let buffers = blocks_of c.loop-moved.pool c.args.t.now.lease in
    let read = last_is_still_read all c.loop-moved.moved (blocks c.loop-moved.medium) buffers known.read in
    λ no_fault. subst
    (λ (n : ℕ). LastIsRead (asked c.args.t.now c.args.blocks) n (blocks c.loop-moved.medium) buffers)
    (omega (arith, c.loop-moved-test.false, c.loop-moved.auto.moved-end))
    (subst (λ (ops : List BlockOp). LastIsRead ops c.loop-moved.moved (blocks c.loop-moved.medium) buffers) same read)
