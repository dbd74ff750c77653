-- What the pieces so far left.
use Rattle.std.proofs.Common.{◌≡◌, length}
use Rattle.ct_pool.specs.Leases.{leases_out}
use Rattle.ct_plan.specs.Tasks.{IsReady}
use Rattle.ct_plan.proofs.tests.make_pieces.Given as goal

abbrev pub invariant-loop : goal.invariant-loop
invariant-loop g l =
    let blocks = g.B.Backend.blocks in
    record {
      ready : IsReady (length l.out) (length (blocks l.medium)) l.pool l.t;
      lease : l.t.lease ≡ l.initial.t.lease;
      leases : leases_out l.pool ≡ leases_out l.initial.pool;
      contexts : l.pool.contexts ≡ l.initial.pool.contexts;
      size : length (blocks l.medium) ≡ length (blocks l.initial.medium);
    }
