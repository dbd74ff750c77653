use Rattle.std.proofs.Crossing.{crosses}
use Rattle.std.below.std_heap.proofs.Global.TheSendSync as global
use Rattle.std.below.std_heap.proofs.GlobalAllocator.TheSendSync as heap
use denote.Param.{param}
use denote.Param.Send.{sendable}
use Rattle.ct_turn.proofs.Sends.{seat_sends, turn_syncs}
use Rattle.ct_work.proofs.lanes.run_lanes.Goals as goal

pub for_each_mut-requires-send-T : goal.for_each_mut-requires-send-T
for_each_mut-requires-send-T g c κs within =
    let t = seat_sends (param 0 g.row.M) (param 3 g.row.M-Opening) (param 4 g.row.M-Act) (param 5 g.row.M-Answer) (param 6 g.row.M-Event) g.M.Machine c.type_bounds.send-M in let a = c.type_bounds.send-M-Act in search (sendable, crosses, global.the_send, global.the_sync, heap.the_frees) depth 20

pub for_each_mut-requires-sync-F : goal.for_each_mut-requires-sync-F
for_each_mut-requires-sync-F g c κs within =
    let t = turn_syncs (param 0 g.row.M) (param 3 g.row.M-Opening) (param 4 g.row.M-Act) (param 5 g.row.M-Answer) (param 6 g.row.M-Event) g.M.Machine c.type_bounds.send-M in let r = c.type_bounds.sync-R in let b = c.type_bounds.sync-G in search (sendable, crosses, global.the_send, global.the_sync, heap.the_frees) depth 20
