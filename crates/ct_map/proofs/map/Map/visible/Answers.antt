use Rattle.std.proofs.Common.{◌≡◌, sym, ap, ◌∙◌, subst, arith}
use Rattle.std.specs.Option.{is_some}
use Rattle.std.proofs.lemmas.Nat.{one_shl}
use Rattle.ct_map.proofs.Bits.{AreVisibleBelow, seen, unseen, all_visible}
use Rattle.ct_map.proofs.map.Map.visible.Goals.{then-is_some, else-is_some}
use Rattle.ct_map.proofs.map.Map.visible.Goals as goal

pub loop-x-preserved : goal.loop-x-preserved
loop-x-preserved c =
    let found = sym (c.is_some.ensures ∙ ap is_some c.find.ensures) in
    let before = c.loop-x.invariant in
    elim c.if-is_some.branch [
      | then-is_some w ↦
          rw (w.visible-is, one_shl c.loop-x.x 16 (omega (arith, c.loop-x-test.true)))
          (seen c.args.self.now c.args.n c.loop-x.x c.loop-x.visible before (found ∙ w.if-is_some.true))
      | else-is_some w ↦
          rw w.visible-is (unseen c.args.self.now c.args.n c.loop-x.x c.loop-x.visible before (found ∙ w.if-is_some.false))
    ]

pub returns : goal.returns
returns c =
    let end : c.loop-x.x ≡ 16 = omega (arith, c.loop-x-test.false, c.loop-x.auto.x-end) in
    all_visible c.args.self.now c.args.n c.loop-x.visible
    (subst (λ bound. AreVisibleBelow c.args.self.now c.args.n bound c.loop-x.visible) end c.loop-x.invariant)
