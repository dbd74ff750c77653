use Rattle.std.proofs.Common.{sym, ◌∙◌, subst}
use Rattle.ct_machine.specs.declared.act.Opening.{Opening}
use Rattle.ct_top.specs.Played.{point_of, Drains}
use Rattle.ct_top.proofs.Draining.{drains_idle, drains_more, drains_fewer}
use Rattle.ct_top.proofs.played.drain.Goals as goal

pub returns-in-Idle-clause-drained : goal.returns-in-Idle-clause-drained
returns-in-Idle-clause-drained g c =
    let now = c.loop-pair.pair in
    let then_ = c.act.new.self in
    c.loop-pair.invariant.drains (point_of then_)
    (subst (λ (o : Opening). Drains o (point_of now) (point_of then_)) c.loop-pair.invariant.opening
    (drains_idle now then_ c.act.result c.act.ensures c.in-Idle.is
    (λ count fault e. c.idle_is_silent.ensures now.opening now.book.journal count fault e)))

pub loop-pair-smaller : goal.loop-pair-smaller
loop-pair-smaller g c =
    let now = c.loop-pair.pair in
    let then_ = c.act.new.self in
    drains_fewer now then_ c.act.result c.act.ensures c.in_default.not-Idle
    (λ count fault void. c.next_does_something.ensures now.opening now.book.journal c.journal_is_a_run.ensures.run count fault void)
    (c.acts_write.ensures now.opening now.book.journal)
    (c.runs_fit_their_room.ensures then_.opening then_.book.journal c.journal_is_a_run-in-loop-pair.ensures.run)

pub loop-pair-preserved : goal.loop-pair-preserved
loop-pair-preserved g c =
    let now = c.loop-pair.pair in
    let then_ = c.act.new.self in
    let opening = c.loop-pair.invariant.opening in
    record {
      opening = c.act.ensures.opening ∙ opening;
      drains = λ end d. c.loop-pair.invariant.drains end
          (subst (λ (o : Opening). Drains o (point_of now) end) opening
          (drains_more now then_ c.act.result end c.act.ensures
          (subst (λ (o : Opening). Drains o (point_of then_) end) (sym opening) d)));
    }
