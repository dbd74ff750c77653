-- Which leases stay a pool's, for this crate and its callers.
use Rattle.std.proofs.Common.{◌≡◌, ◌≢◌, ℕ, List, [], length, set, Option, Some, None, unwrap_or, sym, ap, ◌∙◌, inl, inr}
use Rattle.std.proofs.lemmas.Bool.{cases_eq}
use Rattle.std.proofs.lemmas.List.{length-set, get_or-set_same, get_or-set_other}
use Rattle.ct_pool.specs.Leases.{PoolState, LeaseState, Holds, IsLeaseOf, KeepsOthers, blocks_at, blocks_of, with_block}
use Rattle.ct_pool.proofs.Slots.{found-within}

-- a lease has no other blocks than those that it holds
pub Holds-blocks : (pool : PoolState) (lease : LeaseState) (blocks : List (List ℕ)) → Holds pool lease blocks → blocks_of pool lease ≡ blocks
Holds-blocks pool lease blocks held = ap (λ (slot : Option (List (List ℕ))). unwrap_or slot []) held.found

-- a lease that holds blocks is the pool's
pub IsLeaseOf-from_holds : (pool : PoolState) (lease : LeaseState) (blocks : List (List ℕ)) → Holds pool lease blocks → IsLeaseOf pool lease
IsLeaseOf-from_holds pool lease blocks held = record {
  found = held.found ∙ ap Some (sym (Holds-blocks pool lease blocks held));
  count = ap length (Holds-blocks pool lease blocks held) ∙ held.count;
}

-- what another lease holds stays when one is taken, given back or written
pub Holds-others : (old new : PoolState) (key : ℕ) (lease : LeaseState) (blocks : List (List ℕ)) → KeepsOthers old new key → lease.key ≢ key → Holds old lease blocks → Holds new lease blocks
Holds-others old new key lease blocks others differs held = record { found = others lease.key differs ∙ held.found; count = held.count }

-- a lease that was there before another was taken has another key
pub keys_differ : (pool : PoolState) (lease : LeaseState) (blocks : List (List ℕ)) (key : ℕ) → Holds pool lease blocks → blocks_at pool key ≡ None → lease.key ≢ key
keys_differ pool lease blocks key held vacant same = absurd (clash (sym held.found ∙ ap (blocks_at pool) same ∙ vacant))
  where
    clash : Some blocks ≡ None → ⊥
    clash e = cc

-- what a lease holds after a write to one of its blocks
pub Holds-with_block : (pool : PoolState) (lease : LeaseState) (place : ℕ) (block : List ℕ) (blocks : List (List ℕ)) → Holds pool lease blocks → Holds (with_block pool lease place block) lease (set blocks place block)
Holds-with_block pool lease place block blocks held = record {
  found =
      get_or-set_same pool.leases lease.key (Some (set (blocks_of pool lease) place block)) None (found-within pool.leases lease.key blocks held.found)
      ∙ ap (λ (bs : List (List ℕ)). Some (set bs place block)) (Holds-blocks pool lease blocks held);
  count = length-set blocks place block ∙ held.count;
}

-- a write to a block changes no other lease
pub KeepsOthers-with_block : (pool : PoolState) (lease : LeaseState) (place : ℕ) (block : List ℕ) → KeepsOthers pool (with_block pool lease place block) lease.key
KeepsOthers-with_block pool lease place block other differs =
    get_or-set_other pool.leases lease.key other (Some (set (blocks_of pool lease) place block)) None differs

-- a write to a block of one lease leaves both the pool's
pub IsLeaseOf-with_block : (pool : PoolState) (lease other : LeaseState) (place : ℕ) (block : List ℕ) → IsLeaseOf pool lease → IsLeaseOf pool other → IsLeaseOf (with_block pool lease place block) other
IsLeaseOf-with_block pool lease other place block is_lease is_other =
    elim (cases_eq other.key lease.key) [
      | inl same ↦
          let held = Holds-with_block pool lease place block (blocks_of pool lease) is_lease in
          let one_count : lease.count ≡ other.count = sym is_lease.count ∙ ap (λ (key : ℕ). length (unwrap_or (blocks_at pool key) [])) (sym same) ∙ is_other.count in
          IsLeaseOf-from_holds (with_block pool lease place block) other (set (blocks_of pool lease) place block)
          (record { found = ap (blocks_at (with_block pool lease place block)) same ∙ held.found; count = held.count ∙ one_count })
      | inr differs ↦
          IsLeaseOf-from_holds (with_block pool lease place block) other (blocks_of pool other)
          (Holds-others pool (with_block pool lease place block) lease.key other (blocks_of pool other) (KeepsOthers-with_block pool lease place block) differs is_other)
    ]
