-- Seats and turns may go to another thread.
use denote.RattleType.{RattleType}
use denote.Param.Send.{IsSend, IsSync, sendable, view_send, view_sync, recorded_send_of, recorded_send_at, struct_send_at, struct_sync_at}
use Rattle.std.proofs.Crossing.{crosses}
use Rattle.atomic_table.proofs.owned.Table.TheSendSync as table
use Rattle.std.below.std_heap.proofs.Global.TheSendSync as global
use Rattle.std.below.std_heap.proofs.GlobalAllocator.TheSendSync as heap
use Rattle.atomic_table.proofs.shared.Seat.TheSendSync as token
use denote.Struct.Declared.{shape}
use denote.Struct.Struct.{Struct}
use Rattle.atomic_table.specs.contracts.owned.Table as table_row
use Rattle.std.specs.contracts.snapshot.Snapshot as snapshot
use Rattle.std.specs.contracts.alloc.Global as heap_row
use Rattle.std.specs.contracts.impls.GlobalAllocator.TheImpl as allocator
use Rattle.ct_turn.specs.contracts.rule.TurnRule as law
use Rattle.ct_turn.specs.contracts.rule.TurnRuleTableRuleSlotActAnswerKnownOpeningEventActAnswerSnapshot.TheImpl as rule
use Rattle.ct_turn.specs.contracts.view.Known as known
use Rattle.ct_turn.specs.declared.machine.Machine.{Ghosts}
use Rattle.ct_turn.specs.contracts.turn.Seat as seat
use Rattle.ct_turn.specs.contracts.turn.Seat.TheInside as seat_inside
use Rattle.ct_turn.specs.contracts.turn.Turn as turn
use Rattle.ct_turn.specs.contracts.turn.Turn.TheInside as turn_inside
use Rattle.ct_turn.specs.contracts.view.Slot as slot

module _ (M O A B E : RattleType) (g : Ghosts M.Denot O.Denot A.Denot B.Denot E.Denot) (s : IsSend M) where
  pub seat_sends : IsSend (seat.the_row M O A B E g)
  seat_sends = let x : IsSend (seat_inside.the_row M O A B E g) = search (sendable, crosses, token.the_send) depth 20 in view_send _ _ _ _ _ x

  slot_sends : IsSend (slot.the_row M A B)
  slot_sends = search (sendable, crosses) depth 20

  pub turn_syncs : IsSync (turn.the_row M O A B E g)
  turn_syncs =
      let T = turn_inside.the_type M O A B E g in
      let t = table.the_sync (slot.the_row M A B) (known.the_row O E A B) (snapshot.the_row M) law.the_row heap_row.the_row (rule.ghosts M O A B E g rule.no_dict) allocator.ghosts slot_sends global.the_send global.the_sync heap.the_frees in
      let x : IsSync (turn_inside.the_row M O A B E g) = record { shared = λ d. struct_sync_at (shape T) (T.to d) (t.shared d.table, tt) } in view_sync _ _ _ _ _ x

  pub turn_sends : IsSend (turn.the_row M O A B E g)
  turn_sends =
      let T = turn_inside.the_type M O A B E g in
      let U = table_row.the_type (slot.the_row M A B) (known.the_row O E A B) (snapshot.the_row M) law.the_row heap_row.the_row (rule.ghosts M O A B E g rule.no_dict) allocator.ghosts in
      let t = table.the_send (slot.the_row M A B) (known.the_row O E A B) (snapshot.the_row M) law.the_row heap_row.the_row (rule.ghosts M O A B E g rule.no_dict) allocator.ghosts slot_sends global.the_send heap.the_frees in
      let x : IsSend (turn_inside.the_row M O A B E g) = recorded_send_of (Struct (shape T)) _ T.to T.to_one (λ d. struct_send_at (shape T) (T.to d) (recorded_send_at (Struct (shape U)) _ U.to U.to_one t d.table, tt)) in view_send _ _ _ _ _ x
