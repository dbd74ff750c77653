use Rattle.std.proofs.Common.{true, ◌+◌, drop, sym, ap, ◌∙◌}
use Rattle.ct_shelf.proofs.Reading.{drop_item}
use Rattle.ct_matrix.specs.Queues.{first_to_wait_for}
use Rattle.ct_queue.proofs.Known.{at_itself, at_blocker, at_free, head_waits_for_none}
use Rattle.ct_queue.proofs.search.blocker.Goals as goal
use Rattle.ct_queue.proofs.search.blocker.Goals.{then-eq, else-eq+else-waits_for}

pub returns-then-waits_for : goal.returns-then-waits_for
returns-then-waits_for c =
    let more = drop_item c.args.commands.now.items c.loop-at.at c.item-live.result.now c.item-live.ensures in
    sym (at_blocker c.args.free_order c.loop-at.ahead c.args.waiting.now c.item-live.result.now (drop (c.loop-at.at + 1) c.args.commands.now.items) (sym c.eq.ensures ∙ c.if-eq.false) (sym c.waits_for.ensures ∙ c.if-waits_for.true))
    ∙ ap (first_to_wait_for c.args.free_order c.loop-at.ahead c.args.waiting.now) (sym more) ∙ c.loop-at.invariant

pub loop-at-preserved : goal.loop-at-preserved
loop-at-preserved c =
    let more = drop_item c.args.commands.now.items c.loop-at.at c.item-live.result.now c.item-live.ensures in
    let before = ap (first_to_wait_for c.args.free_order c.loop-at.ahead c.args.waiting.now) (sym more) ∙ c.loop-at.invariant in
    elim c.if-eq.branch [
      | then-eq w ↦
          rw w.ahead-is (sym (at_itself c.args.free_order c.loop-at.ahead c.args.waiting.now c.item-live.result.now (drop (c.loop-at.at + 1) c.args.commands.now.items) (sym c.eq.ensures ∙ w.if-eq.true)) ∙ before)
      | else-eq+else-waits_for w ↦
          rw w.ahead-is
          (sym (at_free c.args.free_order c.loop-at.ahead c.args.waiting.now c.item-live.result.now (drop (c.loop-at.at + 1) c.args.commands.now.items) (sym c.eq.ensures ∙ w.if-eq.false) (sym w.waits_for.ensures ∙ w.if-waits_for.false)) ∙ before)
    ]

pub returns-then-not-some_begun : goal.returns-then-not-some_begun
returns-then-not-some_begun c =
    sym (head_waits_for_none c.args.free_order true c.args.waiting.now c.args.commands.now.items c.in-Head.is (c.requires c.if-not-some_begun.true))
