use Rattle.std.proofs.Common.{◌≡◌, ◌<◌, ◌≤◌, ℕ, ◌+◌, true, false, length, sym, subst, arith}
use Rattle.std.proofs.lemmas.List.Edits.{length-remove}
use Rattle.ct_book.specs.Journals.{BookState}
use Rattle.ct_machine.specs.Events.Ends.{is_cleared}
use Rattle.ct_lun.specs.Desk.{Desk, slot_at}
use Rattle.ct_lun.specs.States.{task_in}
use Rattle.ct_lun.specs.Calls.{Clears}
use Rattle.ct_lun.proofs.Clears.{numbers_same, cut_known, cut_agrees, clears_cut, clears_pass, clears_end}
use Rattle.ct_lun.proofs.unit.Lun.clear.Goals as goal

pub loop-at-init : goal.loop-at-init
loop-at-init g c = record {
  agrees = c.requires.agrees;
  reason = c.requires.reason;
  within = omega arith;
  room = omega (arith, c.requires.room);
  leads = λ end last done. subst (Clears c.args.self.now end c.args.book.now last c.args.by c.args.cleared.now) (sym (numbers_same c.args.book.now.works c.args.self.now.slots)) done;
}

pub loop-at-preserved-then-is_cleared : goal.loop-at-preserved-then-is_cleared
loop-at-preserved-then-is_cleared g c =
    let d : Desk = c.loop-at.self in
    let p : BookState = c.loop-at.book in
    let at : ℕ = c.loop-at.at in
    let was = c.loop-at.invariant in
    let here : at < length d.slots = omega (arith, c.loop-at-test.true, c.count.ensures) in
    let due : is_cleared c.args.cleared.now (task_in p.works (slot_at d.slots at)) ≡ true = sym c.if-is_cleared.ensures in
    let room : 0 < p.spare = omega (arith, here, was.room) in
    let book = cut_known d p c.cut.new.book at c.args.by c.args.cleared.now c.tells_aborts-told.result was.agrees.base here due c.tells_aborts-told.ensures c.cut.ensures.book in
    let fewer : length c.cut.new.self.slots + 1 ≡ length d.slots = rw c.cut.ensures.leaves.slots (omega (arith, length-remove d.slots at here, here)) in
    record {
      agrees = cut_agrees d c.cut.new.self p c.cut.new.book at c.args.by c.args.cleared.now was.agrees here due room c.cut.ensures.leaves book;
      reason = rw c.cut.ensures.book was.reason;
      within = omega (arith, here, fewer);
      room = rw c.cut.ensures.book (omega (arith, here, fewer, was.room));
      leads = λ end last done. was.leads end last (clears_cut d c.cut.new.self end p c.cut.new.book last at c.args.by c.args.cleared.now was.agrees here due room c.cut.ensures.leaves book done);
    }

pub loop-at-preserved : goal.loop-at-preserved
loop-at-preserved g c =
    let d : Desk = c.loop-at.self in
    let p : BookState = c.loop-at.book in
    let at : ℕ = c.loop-at.at in
    let was = c.loop-at.invariant in
    let here : at < length d.slots = omega (arith, c.loop-at-test.true, c.count.ensures) in
    let stays : is_cleared c.args.cleared.now (task_in p.works (slot_at d.slots at)) ≡ false = sym c.if-is_cleared.ensures in
    record {
      agrees = was.agrees;
      reason = was.reason;
      within = omega (arith, here);
      room = omega (arith, was.room);
      leads = λ end last done. was.leads end last (clears_pass d end p last at c.args.by c.args.cleared.now was.agrees here stays done);
    }

pub returns : goal.returns
returns g c =
    let d : Desk = c.loop-at.self in
    let was = c.loop-at.invariant in
    let past : length d.slots ≤ c.loop-at.at = omega (arith, c.loop-at-test.false, c.count.ensures) in
    was.leads d c.loop-at.book (clears_end d c.loop-at.book c.loop-at.at c.args.by c.args.cleared.now was.agrees past)
