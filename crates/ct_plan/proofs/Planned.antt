-- What the plan of a row asks of the data-out and the disk, and that a task can begin with it.
use Rattle.std.proofs.Common.{◌≡◌, ℕ, zero, suc, ◌+◌, ◌*◌, ◌<◌, ◌≤◌, Bool, true, false, ◌&&◌, not, cond}
use Rattle.std.proofs.Common.{nat_lt, ltb-false, leb-true, sym, ap, ◌∙◌, subst, List, [], ◌∷◌, length, refl}
use Rattle.std.proofs.Common.{arith, if◌then◌else◌}
use Rattle.std.specs.List.{All, list_all}
use Rattle.std.proofs.lemmas.List.Elements.{All-nil, All-cons, All-append}
use Rattle.std.proofs.lemmas.Bool.{and_parts}
use Rattle.ct_word.specs.declared.limit.TheConstants.{BLOCK_SIZE}
use Rattle.ct_cdb.specs.declared.profile.Phase.{Phase}
use Rattle.ct_cdb.specs.declared.profile.Phase.TheVariants as phase
use Rattle.ct_cdb.specs.declared.profile.Profile.{Profile}
use Rattle.ct_cdb.specs.declared.ranges.LbaRange.{LbaRange}
use Rattle.ct_cdb.specs.Ranges.{numbers_from, numbers_of, total, is_inside}
use Rattle.ct_cdb.specs.Profiles.{Fits, is_performed, named_by, most_named, gives, giving}
use Rattle.ct_cdb.proofs.Numbers.{length-numbers_of}
use Rattle.ct_pool.specs.Leases.{PoolState, IsLeaseOf}
use Rattle.ct_plan.specs.declared.operation.BlockOp.{BlockOp}
use Rattle.ct_plan.specs.declared.task.Task.{Task}
use Rattle.ct_plan.specs.Plans.{operation_of, operations_from, operations_in, planned, plan_of, is_get, gets_among}
use Rattle.ct_plan.specs.Tasks.{IsReady, IsInside, IsCovered, lba_of}
use Rattle.ct_plan.proofs.Lists.{gets_among-append}

-- every operation is inside the disk

pub lba_is : (phase : Phase) (count place lba : ℕ) → lba_of (operation_of phase count place lba) ≡ lba
lba_is phase.Get count place lba = refl
lba_is phase.Look count place lba = refl
lba_is phase.Put count place lba = refl
lba_is phase.PutSecondHalf count place lba = refl
lba_is phase.PutSame count place lba = refl
lba_is phase.Zero count place lba = refl
lba_is phase.Compare count place lba = refl

from_inside : (blocks : ℕ) (phase : Phase) (count place : ℕ) (lbas : List ℕ) → All (λ lba. lba < blocks) lbas
    → All (IsInside blocks) (operations_from phase count place lbas)
from_inside blocks phase count place [] within = All-nil (IsInside blocks)
from_inside blocks phase count place (lba ∷ lbas) within =
    let here : lba < blocks = within 0 0 (omega arith) in
    let inside : IsInside blocks (operation_of phase count place lba) =
    subst (λ (n : ℕ). n < blocks) (sym (lba_is phase count place lba)) here in
    All-cons (IsInside blocks) (operation_of phase count place lba) (operations_from phase count (place + 1) lbas)
    inside
    (from_inside blocks phase count (place + 1) lbas (λ k d less. within (suc k) d (omega (arith, less))))

numbers_inside : (blocks first count : ℕ) → first + count ≤ blocks
    → All (λ lba. lba < blocks) (numbers_from first count)
numbers_inside blocks first zero within = All-nil (λ lba. lba < blocks)
numbers_inside blocks first (suc count) within =
    All-cons (λ lba. lba < blocks) first (numbers_from (first + 1) count) (omega arith)
    (numbers_inside blocks (first + 1) count (omega arith))

all_inside : (blocks : ℕ) (ranges : List LbaRange) → list_all (is_inside blocks) ranges ≡ true
    → All (λ lba. lba < blocks) (numbers_of ranges)
all_inside blocks [] inside = All-nil (λ lba. lba < blocks)
all_inside blocks (range ∷ ranges) inside =
    let parts = and_parts (is_inside blocks range) (list_all (is_inside blocks) ranges) inside in
    All-append (λ lba. lba < blocks) (numbers_from range.lba range.count) (numbers_of ranges)
    (numbers_inside blocks range.lba range.count (leb-true (range.lba + range.count) blocks parts.0))
    (all_inside blocks ranges parts.1)

planned_inside : (blocks : ℕ) (phases : List Phase) (ranges : List LbaRange)
    → list_all (is_inside blocks) ranges ≡ true → All (IsInside blocks) (planned phases ranges)
planned_inside blocks [] ranges inside = All-nil (IsInside blocks)
planned_inside blocks (phase ∷ phases) ranges inside =
    All-append (IsInside blocks) (operations_in phase ranges) (planned phases ranges)
    (from_inside blocks phase (total ranges) 0 (numbers_of ranges) (all_inside blocks ranges inside))
    (planned_inside blocks phases ranges inside)

-- the data-out has what every operation names

covers : (out : ℕ) (phase : Phase) (count place lba : ℕ) → place < count → BLOCK_SIZE * named_by count phase ≤ out
    → IsCovered out (operation_of phase count place lba)
covers out phase.Get count place lba within enough = tt
covers out phase.Look count place lba within enough = tt
covers out phase.Put count place lba within enough = omega arith
covers out phase.PutSecondHalf count place lba within enough = omega arith
covers out phase.PutSame count place lba within enough = omega arith
covers out phase.Zero count place lba within enough = tt
covers out phase.Compare count place lba within enough = omega arith

from_covered : (out : ℕ) (phase : Phase) (count place : ℕ) (lbas : List ℕ) → place + length lbas ≤ count
    → BLOCK_SIZE * named_by count phase ≤ out → All (IsCovered out) (operations_from phase count place lbas)
from_covered out phase count place [] within enough = All-nil (IsCovered out)
from_covered out phase count place (lba ∷ lbas) within enough =
    All-cons (IsCovered out) (operation_of phase count place lba) (operations_from phase count (place + 1) lbas)
    (covers out phase count place lba (omega arith) enough)
    (from_covered out phase count (place + 1) lbas (omega arith) enough)

planned_covered : (out : ℕ) (phases : List Phase) (ranges : List LbaRange)
    → BLOCK_SIZE * most_named (total ranges) phases ≤ out → All (IsCovered out) (planned phases ranges)
planned_covered out [] ranges enough = All-nil (IsCovered out)
planned_covered out (phase ∷ phases) ranges enough =
    All-append (IsCovered out) (operations_in phase ranges) (planned phases ranges)
    (from_covered out phase (total ranges) 0 (numbers_of ranges) (omega (arith, length-numbers_of ranges))
    (omega (arith, enough)))
    (planned_covered out phases ranges (omega (arith, enough)))

-- the gets among the operations

get_of : (phase : Phase) (count place lba : ℕ) → is_get (operation_of phase count place lba) ≡ gives phase
get_of phase.Get count place lba = refl
get_of phase.Look count place lba = refl
get_of phase.Put count place lba = refl
get_of phase.PutSecondHalf count place lba = refl
get_of phase.PutSame count place lba = refl
get_of phase.Zero count place lba = refl
get_of phase.Compare count place lba = refl

gets_from : (phase : Phase) (count place : ℕ) (lbas : List ℕ)
    → gets_among (operations_from phase count place lbas) ≡ cond (gives phase) (length lbas) 0
gets_from phase count place [] = go (gives phase)
  where
    go : (given : Bool) → ◌≡◌ {A = ℕ} 0 (cond given 0 0)
    go true = refl
    go false = refl
gets_from phase count place (lba ∷ lbas) =
    ap (λ (given : Bool). cond given (suc rest) rest) (get_of phase count place lba)
    ∙ go (gives phase) (gets_from phase count (place + 1) lbas)
  where
    rest : ℕ
    rest = gets_among (operations_from phase count (place + 1) lbas)

    go : (given : Bool) → rest ≡ cond given (length lbas) 0
        → cond given (suc rest) rest ≡ cond given (suc (length lbas)) 0
    go true same = ap suc same
    go false same = same

pub gets_planned : (phases : List Phase) (ranges : List LbaRange)
    → gets_among (planned phases ranges) ≡ giving phases * total ranges
gets_planned [] ranges = omega arith
gets_planned (phase ∷ phases) ranges =
    gets_among-append (operations_in phase ranges) (planned phases ranges)
    ∙ ap (λ (n : ℕ). n + gets_among (planned phases ranges))
    (gets_from phase (total ranges) 0 (numbers_of ranges)
    ∙ ap (λ (n : ℕ). cond (gives phase) n 0) (length-numbers_of ranges))
    ∙ ap (λ (n : ℕ). cond (gives phase) (total ranges) 0 + n) (gets_planned phases ranges)
    ∙ more (gives phase) (giving phases) (total ranges)
  where
    more : (given : Bool) (n m : ℕ) → cond given m 0 + n * m ≡ cond given (suc n) n * m
    more true n m = grind arith
    more false n m = omega arith

-- what operations ask, and at most how many bytes are got by them
record Asks (out blocks most : ℕ) (plan : List BlockOp) : Type 0 where
  inside : All (IsInside blocks) plan
  covered : All (IsCovered out) plan
  roomy : 512 * gets_among plan ≤ most

performed_asks : (out blocks : ℕ) (profile : Profile) → Fits profile → is_performed out blocks profile ≡ true
    → Asks out blocks profile.data_in (planned profile.phases profile.ranges)
performed_asks out blocks profile fits h =
    let checks = both_true (nat_lt out profile.data_out) (list_all (is_inside blocks) profile.ranges) h in
    let enough : profile.data_out ≤ out = ltb-false out profile.data_out checks.0 in
    record {
      inside = planned_inside blocks profile.phases profile.ranges checks.1;
      covered = planned_covered out profile.phases profile.ranges (omega (arith, fits.covered, enough));
      roomy = omega (arith, fits.roomy, gets_planned profile.phases profile.ranges);
    }
  where
    both_true : (a b : Bool) → (not a && b) ≡ true → (a ≡ false) × (b ≡ true)
    both_true true b h = absurd (cc)
    both_true false b h = (refl, h)

plan_asks : (out blocks : ℕ) (profile : Profile) → Fits profile
    → Asks out blocks profile.data_in (plan_of out blocks profile)
unfolding plan_of
plan_asks out blocks profile fits = go (is_performed out blocks profile) refl
  where
    go : (performed : Bool) → is_performed out blocks profile ≡ performed
        → Asks out blocks profile.data_in (if performed then planned profile.phases profile.ranges else [])
    go true h = performed_asks out blocks profile fits h
    go false h = record { inside = All-nil (IsInside blocks); covered = All-nil (IsCovered out); roomy = omega arith }

-- a task that has a lease for its plan, and room for what its command returns, can begin
pub ready_first : (out blocks : ℕ) (profile : Profile) (pool : PoolState) (task : Task) → Fits profile
    → task.plan.operations ≡ plan_of out blocks profile → task.done ≡ 0 → IsLeaseOf pool task.lease
    → task.lease.count ≡ task.plan.need
    → profile.data_in ≤ task.body.room → IsReady out blocks pool task
ready_first out blocks profile pool task fits planned_is none leased need room =
    let asks = plan_asks out blocks profile fits in
    record {
      inside = subst (λ (ops : List BlockOp). All (IsInside blocks) ops) (sym planned_is) asks.inside;
      covered = subst (λ (ops : List BlockOp). All (IsCovered out) ops) (sym planned_is) asks.covered;
      leased = leased;
      need = need;
      room = rw (none, planned_is) (omega (arith, room, asks.roomy));
    }
