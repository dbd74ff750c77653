-- The operations of phases, by their places.
use Rattle.std.proofs.Math.Nat.{mul-le-mul_right}
use Rattle.std.specs.List.{list_all}
use Rattle.std.proofs.lemmas.Bool.{cases_lt, and_parts}
use Rattle.std.proofs.Common.{◌≡◌, ℕ, zero, suc, ◌+◌, ◌-◌, ◌*◌, ◌<◌, ◌≤◌, min, Bool, true, false, not, nat_lt, cond, List, [], ◌∷◌}
use Rattle.std.proofs.Common.{◌++◌, length, take, slice_get, Some, inl, inr, refl, sym, ap, ◌∙◌, arith, length-append}
use Rattle.std.proofs.Common.{append-nil}
use Rattle.ct_cdb.specs.declared.profile.Phase.{Phase}
use Rattle.ct_cdb.specs.declared.profile.Phase.TheVariants as phase
use Rattle.ct_cdb.specs.declared.ranges.LbaRange.{LbaRange}
use Rattle.ct_word.specs.declared.limit.TheConstants.{MOST_BLOCKS, MOST_RANGES}
use Rattle.ct_cdb.specs.Ranges.{total, numbers_of, is_inside}
use Rattle.ct_cdb.specs.declared.profile.Profile.{Profile}
use Rattle.ct_cdb.specs.Profiles.{writes, is_performed}
use Rattle.ct_cdb.proofs.Numbers.{length-numbers_of, total_inside}
use Rattle.ct_plan.specs.declared.operation.BlockOp.{BlockOp}
use Rattle.ct_plan.specs.PlanStates.{IsPlan}
use Rattle.ct_plan.specs.Plans.{operation_of, operations_from, operations_in, planned, plan_of, needed, is_put, puts_among}
use Rattle.ct_plan.specs.Plans.{puts_by}

length-operations_from : (phase : Phase) (count place : ℕ) (lbas : List ℕ)
    → length (operations_from phase count place lbas) ≡ length lbas
length-operations_from phase count place [] = refl
length-operations_from phase count place (lba ∷ lbas) = ap suc (length-operations_from phase count (place + 1) lbas)

pub length-operations_in : (phase : Phase) (ranges : List LbaRange) → length (operations_in phase ranges) ≡ total ranges
length-operations_in phase ranges =
    length-operations_from phase (total ranges) 0 (numbers_of ranges) ∙ length-numbers_of ranges

times_suc : (n m : ℕ) → suc n * m ≡ m + n * m
times_suc n m = grind arith

pub length-planned : (phases : List Phase) (ranges : List LbaRange)
    → length (planned phases ranges) ≡ length phases * total ranges
length-planned [] ranges = omega arith
length-planned (phase ∷ phases) ranges =
    omega (
      arith,
      length-append (operations_in phase ranges) (planned phases ranges),
      length-operations_in phase
          ranges,
      length-planned phases ranges,
      times_suc (length phases) (total ranges),
    )

pub none_planned : (phases : List Phase) (ranges : List LbaRange) → length phases * total ranges ≡ 0
    → planned phases ranges ≡ []
none_planned phases ranges none = empty (planned phases ranges) (length-planned phases ranges ∙ none)
  where
    empty : (ops : List BlockOp) → length ops ≡ 0 → ops ≡ []
    empty [] e = refl
    empty (op ∷ ops) e = absurd (omega arith)

-- a command that is performed has so many blocks at most, and no operation or some
pub performed_inside : (out blocks : ℕ) (profile : Profile) → is_performed out blocks profile ≡ true
    → list_all (is_inside blocks) profile.ranges ≡ true
performed_inside out blocks profile performed =
    (and_parts (not (nat_lt out profile.data_out)) (list_all (is_inside blocks) profile.ranges) performed).1

pub performed_few : (out blocks : ℕ) (profile : Profile) → is_performed out blocks profile ≡ true
    → blocks ≤ MOST_BLOCKS → length profile.ranges ≤ MOST_RANGES
    → total profile.ranges ≤ MOST_RANGES * MOST_BLOCKS
performed_few out blocks profile performed few ranges =
    omega (arith, ranges, total_inside blocks profile.ranges few (performed_inside out blocks profile performed))

pub none_of_plan : (out blocks : ℕ) (profile : Profile) → length profile.phases * total profile.ranges ≡ 0
    → plan_of out blocks profile ≡ []
unfolding plan_of
none_of_plan out blocks profile none = go (is_performed out blocks profile)
  where
    go : (t : Bool) → cond t (planned profile.phases profile.ranges) [] ≡ []
    go true = none_planned profile.phases profile.ranges none
    go false = refl

-- an operation of a plan has a buffer, and its place is one of its phase's blocks
pub some_need : (phases : List Phase) (ranges : List LbaRange) (count need done : ℕ) → IsPlan phases ranges count need
    → done < length (planned phases ranges) → 0 < need
some_need phases ranges count need done plan within =
    plan.buffered (rw plan.counted (omega (arith, within, length-planned phases ranges)))

-- at most two phases are done
pub in_two : (phases : List Phase) (ranges : List LbaRange) (count need done : ℕ) → IsPlan phases ranges count need
    → done < length (planned phases ranges) → done < 2 * count
in_two phases ranges count need done plan within =
    let more : length phases * total ranges ≤ 2 * total ranges = mul-le-mul_right (total ranges) plan.phases_few in
    omega (arith, within, plan.counted, length-planned phases ranges, more)

pub need_known : (phases : List Phase) (ranges : List LbaRange) (need : ℕ) → 0 < length phases * total ranges
    → need ≡ needed (planned phases ranges) need
need_known phases ranges need some = go (planned phases ranges) (rw (length-planned phases ranges) some)
  where
    go : (ops : List BlockOp) → 0 < length ops → need ≡ needed ops need
    go [] none = absurd (omega arith)
    go (op ∷ ops) some = refl

-- an operation by its place

from_at : (phase : Phase) (count place : ℕ) (lbas : List ℕ) (k lba : ℕ) → slice_get lbas k ≡ Some lba
    → slice_get (operations_from phase count place lbas) k ≡ Some (operation_of phase count (place + k) lba)
from_at phase count place [] k lba found = absurd (cc)
from_at phase count place (x ∷ xs) zero lba found =
    let same : x ≡ lba = cc in
    let here : place ≡ place + 0 = omega arith in
    ap (λ (n : ℕ). Some (operation_of phase count place n)) same
    ∙ ap (λ (n : ℕ). Some (operation_of phase count n lba)) here
from_at phase count place (x ∷ xs) (suc k) lba found =
    let here : place + 1 + k ≡ place + suc k = omega arith in
    from_at phase count (place + 1) xs k lba found ∙ ap (λ (n : ℕ). Some (operation_of phase count n lba)) here

in_at : (phase : Phase) (ranges : List LbaRange) (k lba : ℕ) → slice_get (numbers_of ranges) k ≡ Some lba
    → slice_get (operations_in phase ranges) k ≡ Some (operation_of phase (total ranges) k lba)
in_at phase ranges k lba found =
    let here : 0 + k ≡ k = omega arith in
    from_at phase (total ranges) 0 (numbers_of ranges) k lba found
    ∙ ap (λ (n : ℕ). Some (operation_of phase (total ranges) n lba)) here

front_at : (xs ys : List BlockOp) (k : ℕ) (x : BlockOp) → slice_get xs k ≡ Some x → slice_get (xs ++ ys) k ≡ Some x
front_at [] ys k x found = absurd (cc)
front_at (y ∷ xs) ys zero x found = found
front_at (y ∷ xs) ys (suc k) x found = front_at xs ys k x found

back_at : (xs ys : List BlockOp) (k : ℕ) → slice_get (xs ++ ys) (length xs + k) ≡ slice_get ys k
back_at [] ys k = ap (slice_get ys) (omega arith)
back_at (y ∷ xs) ys k =
    let here : length (y ∷ xs) + k ≡ suc (length xs + k) = omega arith in
    ap (slice_get ((y ∷ xs) ++ ys)) here ∙ back_at xs ys k

pub planned_at : (phases : List Phase) (ranges : List LbaRange) (at place : ℕ) (phase : Phase) (lba : ℕ)
    → slice_get phases at ≡ Some phase → slice_get (numbers_of ranges) place ≡ Some lba
    → slice_get (planned phases ranges) (at * total ranges + place) ≡ Some (operation_of phase (total ranges) place lba)
planned_at [] ranges at place phase lba there found = absurd (cc)
planned_at (first ∷ phases) ranges zero place phase lba there found =
    let same : first ≡ phase = cc in
    let here : zero * total ranges + place ≡ place = omega arith in
    ap (slice_get (planned (first ∷ phases) ranges)) here
    ∙ front_at (operations_in first ranges) (planned phases ranges) place (operation_of first (total ranges) place lba)
    (in_at first ranges place lba found)
    ∙ ap (λ (p : Phase). Some (operation_of p (total ranges) place lba)) same
planned_at (first ∷ phases) ranges (suc at) place phase lba there found =
    let times : suc at * total ranges ≡ total ranges + at * total ranges = times_suc at (total ranges) in
    let far : suc at * total ranges + place ≡ length (operations_in first ranges) + (at * total ranges + place) =
    omega (arith, times, length-operations_in first ranges) in
    ap (slice_get (planned (first ∷ phases) ranges)) far
    ∙ back_at (operations_in first ranges) (planned phases ranges) (at * total ranges + place)
    ∙ planned_at phases ranges at place phase lba there found

-- what is done is behind whole phases
pub phase_within : (at n count place done : ℕ) → at * count + place ≡ done → done < n * count → at < n
phase_within at n count place done sum within = elim (cases_lt at n) [
  | inl below ↦ below
  | inr above ↦ let more : n * count ≤ at * count =
      mul-le-mul_right count above in absurd (omega (arith, more, sum, within))
]

-- the puts among the first operations

pub put_of : (phase : Phase) (count place lba : ℕ) → is_put (operation_of phase count place lba) ≡ writes phase
put_of phase.Get count place lba = refl
put_of phase.Look count place lba = refl
put_of phase.Put count place lba = refl
put_of phase.PutSecondHalf count place lba = refl
put_of phase.PutSame count place lba = refl
put_of phase.Zero count place lba = refl
put_of phase.Compare count place lba = refl

puts_from : (phase : Phase) (count place : ℕ) (lbas : List ℕ) (done : ℕ)
    → puts_among (take done (operations_from phase count place lbas)) ≡ cond (writes phase) (min done (length lbas)) 0
puts_from phase count place lbas zero = go (writes phase)
  where
    go : (put : Bool) → ◌≡◌ {A = ℕ} 0 (cond put (min 0 (length lbas)) 0)
    go true = omega arith
    go false = refl
puts_from phase count place [] (suc done) = go (writes phase)
  where
    go : (put : Bool) → ◌≡◌ {A = ℕ} 0 (cond put (min (suc done) 0) 0)
    go true = omega arith
    go false = refl
puts_from phase count place (lba ∷ lbas) (suc done) =
    ap (λ (put : Bool). cond put (suc rest) rest) (put_of phase count place lba)
    ∙ go (writes phase) (puts_from phase count (place + 1) lbas done)
  where
    rest : ℕ
    rest = puts_among (take done (operations_from phase count (place + 1) lbas))

    go : (put : Bool) → rest ≡ cond put (min done (length lbas)) 0
        → cond put (suc rest) rest ≡ cond put (min (suc done) (suc (length lbas))) 0
    go true same = omega (arith, same)
    go false same = same

puts_front : (phase : Phase) (ranges : List LbaRange) (done : ℕ)
    → puts_among (take done (operations_in phase ranges)) ≡ puts_by (Some phase) (min done (total ranges))
puts_front phase ranges done =
    puts_from phase (total ranges) 0 (numbers_of ranges) done
    ∙ ap (λ (n : ℕ). puts_by (Some phase) (min done n)) (length-numbers_of ranges)

puts_append : (xs ys : List BlockOp) → puts_among (xs ++ ys) ≡ puts_among xs + puts_among ys
puts_append [] ys = omega arith
puts_append (x ∷ xs) ys = go (is_put x) (puts_append xs ys)
  where
    go : (put : Bool) → puts_among (xs ++ ys) ≡ puts_among xs + puts_among ys
        → cond put (suc (puts_among (xs ++ ys))) (puts_among (xs ++ ys))
        ≡ cond put (suc (puts_among xs)) (puts_among xs) + puts_among ys
    go true same = omega (arith, same)
    go false same = same

take_append : (done : ℕ) (xs ys : List BlockOp) → take done (xs ++ ys) ≡ take done xs ++ take (done - length xs) ys
take_append zero xs ys = let none : 0 - length xs ≡ 0 = omega arith in ap (λ (n : ℕ). take n ys) (sym none)
take_append (suc done) [] ys = let same : suc done ≡ suc done - length {A = BlockOp} [] =
    omega arith in ap (λ (n : ℕ). take n ys) same
take_append (suc done) (x ∷ xs) ys =
    let less : done - length xs ≡ suc done - length (x ∷ xs) = omega arith in
    ap (λ (ops : List BlockOp). x ∷ ops) (take_append done xs ys) ∙ ap (λ (n : ℕ). x ∷ (take done xs ++ take n ys)) less

puts_one : (first : Phase) (ranges : List LbaRange) (done : ℕ)
    → puts_among (take done (planned (first ∷ []) ranges)) ≡ puts_by (Some first) (min done (total ranges))
puts_one first ranges done =
    ap (λ (ops : List BlockOp). puts_among (take done ops)) (append-nil (operations_in first ranges))
    ∙ puts_front first ranges done

puts_two : (first second : Phase) (ranges : List LbaRange) (done : ℕ)
    → puts_among (take done (planned (first ∷ second ∷ []) ranges))
    ≡ puts_by (Some first) (min done (total ranges)) + puts_by (Some second) (min (done - total ranges) (total ranges))
puts_two first second ranges done =
    let left : done - length (operations_in first ranges) ≡ done - total ranges =
    ap (λ (n : ℕ). done - n) (length-operations_in first ranges) in
    ap puts_among (take_append done (operations_in first ranges) (planned (second ∷ []) ranges))
    ∙ puts_append (take done (operations_in first ranges))
    (take (done - length (operations_in first ranges)) (planned (second ∷ []) ranges))
    ∙ ap (λ (n : ℕ). n + puts_among (take (done - length (operations_in first ranges)) (planned (second ∷ []) ranges)))
    (puts_front first ranges done)
    ∙ ap (λ (n : ℕ). puts_by (Some first) (min done (total ranges)) + puts_among
    (take n (planned (second ∷ []) ranges))) left
    ∙ ap (λ (n : ℕ). puts_by (Some first) (min done (total ranges)) + n) (puts_one second ranges (done - total ranges))

pub puts_done : (phases : List Phase) (ranges : List LbaRange) (done : ℕ) → length phases ≤ 2
    → puts_among (take done (planned phases ranges))
    ≡ puts_by (slice_get phases 0) (min done (total ranges)) + puts_by (slice_get phases 1)
    (min (done - total ranges) (total ranges))
puts_done [] ranges zero few = refl
puts_done [] ranges (suc done) few = refl
puts_done (first ∷ []) ranges done few =
    let none : puts_by (Some first) (min done (total ranges)) ≡ puts_by (Some first) (min done (total ranges)) + 0 =
    omega arith in puts_one first ranges done ∙ none
puts_done (first ∷ second ∷ []) ranges done few = puts_two first second ranges done
puts_done (first ∷ second ∷ third ∷ phases) ranges done few = absurd (omega arith)
