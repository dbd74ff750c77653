use Rattle.std.proofs.Common.{◌≡◌, Err, sym, arith}
use Rattle.std.proofs.lemmas.Grind.{common_steps}
use Rattle.ct_param.specs.ModeLists.{pages_of}
use Rattle.ct_param.proofs.Pages.{none_read, page_read, fault_read, all_read, to_the_end}
use Rattle.ct_param.proofs.mode.read_pages.Goals as goal

pub loop-at-init : goal.loop-at-init
loop-at-init c = rw c.none-list.ensures (none_read c.args.bytes.now)

pub loop-at-preserved : goal.loop-at-preserved
loop-at-preserved c =
    let added = rw to_the_end at c.in_ok-at.ensures in
    page_read c.args.bytes.now c.loop-at.at _ c.loop-at.list _ c.loop-at.invariant c.loop-at-test.true added.size.0 added.size.1 added.good

pub returns-in_err-at : goal.returns-in_err-at
returns-in_err-at c =
    let refused = rw to_the_end at c.in_err-at.ensures in
    let told : pages_of c.args.bytes.now ≡ Err c.in_err-at.field-0.0 = fault_read c.args.bytes.now c.loop-at.at c.loop-at.list _ c.loop-at.invariant c.loop-at-test.true refused.bad in
    grind (arith, common_steps)

pub returns : goal.returns
returns c = sym (all_read c.args.bytes.now c.loop-at.at c.loop-at.list c.loop-at.invariant c.loop-at-test.false)
