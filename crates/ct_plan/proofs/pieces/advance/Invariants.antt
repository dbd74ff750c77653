-- What was made before this pass, and that no difference was found.
use Rattle.std.proofs.Common.{◌≡◌, ◌<◌, ◌≤◌, ◌^◌, length, take, None}
use Rattle.ct_plan.specs.Cells.{performed}
use Rattle.ct_plan.specs.Tasks.{IsReady, left, cells_of}
use Rattle.ct_pool.specs.Leases.{blocks_of}
use Rattle.ct_plan.specs.Pieces.{Makes, Uses, LastIsRead}
use Rattle.ct_plan.proofs.pieces.advance.Given as goal

abbrev pub invariant-loop-moved : goal.invariant-loop-moved
invariant-loop-moved g l =
    let blocks = g.B.Backend.blocks in
    let faults = g.B.Backend.faults in
    record {
      made : Makes l.out (take l.moved (left l.initial.t)) l.initial.t l.t (blocks l.initial.medium) (blocks l.medium);
      even : (performed l.out (take l.moved (left l.initial.t))
          (cells_of (blocks l.initial.medium) l.initial.t)).difference ≡ None;
      read : LastIsRead (left l.initial.t) l.moved (blocks l.medium) (blocks_of l.pool l.initial.t.lease);
      used : Uses l.initial.pool l.pool l.initial.t.lease;
      ready : IsReady (length l.out) (length (blocks l.medium)) l.pool l.t;
      unfailed : faults l.medium ≡ faults l.initial.medium;
      count : l.count ≤ length (left l.initial.t);
      small : length l.initial.t.plan.operations < 2 ^ 32;
    }
