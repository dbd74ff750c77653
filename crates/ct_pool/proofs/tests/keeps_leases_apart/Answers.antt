use Rattle.std.proofs.Common.{◌≡◌, ◌≢◌, ℕ, List, [], Option, Some, IfSome}
use Rattle.ct_pool.specs.Leases.{PoolState, LeaseState, IsLeaseOf, Takes, blocks_of, with_block}
use Rattle.ct_pool.proofs.Leases.{IsLeaseOf-with_block, IsLeaseOf-from_holds, Holds-others, keys_differ}
use Rattle.ct_pool.proofs.tests.keeps_leases_apart.Goals as goal

taken : (old new : PoolState) (asked : ℕ) (answer : Option LeaseState) (lease : LeaseState) → answer ≡ Some lease → IfSome answer (Takes old new asked) → Takes old new asked lease
taken old new asked answer lease is takes = rw is at takes

-- two leases, the second taken after the first
record TakenBoth (pool : PoolState) (one other : LeaseState) : Type 0 where
  has_one : IsLeaseOf pool one
  has_other : IsLeaseOf pool other
  apart : one.key ≢ other.key

both : (opened first second : PoolState) (one other : LeaseState) → Takes opened first 2 one → Takes first second 2 other → TakenBoth second one other
both opened first second one other take_one take_other =
    let apart = keys_differ first one (blocks_of first one) other.key take_one.holds take_other.was_vacant in
    record {
      has_one = IsLeaseOf-from_holds second one (blocks_of first one) (Holds-others first second other.key one (blocks_of first one) take_other.others apart take_one.holds);
      has_other = take_other.holds;
      apart = apart;
    }

module _ (pool : PoolState) (one other : LeaseState) (x y z w : List ℕ) (is_one : IsLeaseOf pool one) (is_other : IsLeaseOf pool other) where
  abbrev first : PoolState
  first = with_block pool one 1 x

  abbrev second : PoolState
  second = with_block first other 1 y

  abbrev third : PoolState
  third = with_block second one 1 z

  abbrev fourth : PoolState
  fourth = with_block third other 1 w

  one-first : IsLeaseOf first one
  one-first = IsLeaseOf-with_block pool one one 1 x is_one is_one

  other-first : IsLeaseOf first other
  other-first = IsLeaseOf-with_block pool one other 1 x is_one is_other

  one-second : IsLeaseOf second one
  one-second = IsLeaseOf-with_block first other one 1 y other-first one-first

  other-second : IsLeaseOf second other
  other-second = IsLeaseOf-with_block first other other 1 y other-first other-first

  one-third : IsLeaseOf third one
  one-third = IsLeaseOf-with_block second one one 1 z one-second one-second

  other-third : IsLeaseOf third other
  other-third = IsLeaseOf-with_block second one other 1 z one-second other-second

  one-fourth : IsLeaseOf fourth one
  one-fourth = IsLeaseOf-with_block third other one 1 w other-third one-third

  other-fourth : IsLeaseOf fourth other
  other-fourth = IsLeaseOf-with_block third other other 1 w other-third other-third

pub block-requires-2-clause-lease : goal.block-requires-2-clause-lease
block-requires-2-clause-lease g c =
    let leases = both c.in_ok-pool.pool c.take.new.self c.take-2.new.self c.expect-one.result c.expect-other.result (taken _ _ 2 c.take.result _ c.expect-one.ensures c.take.ensures.taken) (taken _ _ 2 c.take-2.result _ c.expect-other.ensures c.take-2.ensures.taken) in
    other-first c.take-2.new.self c.expect-one.result c.expect-other.result c.fill.new.self [] [] [] leases.has_one leases.has_other

pub block-requires-3-clause-lease : goal.block-requires-3-clause-lease
block-requires-3-clause-lease g c =
    let leases = both c.in_ok-pool.pool c.take.new.self c.take-2.new.self c.expect-one.result c.expect-other.result (taken _ _ 2 c.take.result _ c.expect-one.ensures c.take.ensures.taken) (taken _ _ 2 c.take-2.result _ c.expect-other.ensures c.take-2.ensures.taken) in
    one-second c.take-2.new.self c.expect-one.result c.expect-other.result c.fill.new.self c.fill-2.new.self [] [] leases.has_one leases.has_other

pub block-requires-4-clause-lease : goal.block-requires-4-clause-lease
block-requires-4-clause-lease g c =
    let leases = both c.in_ok-pool.pool c.take.new.self c.take-2.new.self c.expect-one.result c.expect-other.result (taken _ _ 2 c.take.result _ c.expect-one.ensures c.take.ensures.taken) (taken _ _ 2 c.take-2.result _ c.expect-other.ensures c.take-2.ensures.taken) in
    other-third c.take-2.new.self c.expect-one.result c.expect-other.result c.fill.new.self c.fill-2.new.self c.block-3.result.now [] leases.has_one leases.has_other

pub give-requires : goal.give-requires
give-requires g c =
    let leases = both c.in_ok-pool.pool c.take.new.self c.take-2.new.self c.expect-one.result c.expect-other.result (taken _ _ 2 c.take.result _ c.expect-one.ensures c.take.ensures.taken) (taken _ _ 2 c.take-2.result _ c.expect-other.ensures c.take-2.ensures.taken) in
    other-fourth c.take-2.new.self c.expect-one.result c.expect-other.result c.fill.new.self c.fill-2.new.self c.block-3.result.now c.block-4.result.now leases.has_one leases.has_other

pub give-requires-2 : goal.give-requires-2
give-requires-2 g c =
    let leases = both c.in_ok-pool.pool c.take.new.self c.take-2.new.self c.expect-one.result c.expect-other.result (taken _ _ 2 c.take.result _ c.expect-one.ensures c.take.ensures.taken) (taken _ _ 2 c.take-2.result _ c.expect-other.ensures c.take-2.ensures.taken) in
    let held = one-fourth c.take-2.new.self c.expect-one.result c.expect-other.result c.fill.new.self c.fill-2.new.self c.block-3.result.now c.block-4.result.now leases.has_one leases.has_other in
    IsLeaseOf-from_holds c.give.new.self c.expect-one.result _ (Holds-others _ c.give.new.self c.expect-other.result.key c.expect-one.result _ c.give.ensures.others leases.apart held)
