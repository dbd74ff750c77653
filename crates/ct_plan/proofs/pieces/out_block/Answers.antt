use Rattle.std.proofs.Common.{◌≡◌, ◌+◌, ◌-◌, ◌*◌, take, drop, ap, ◌∙◌, arith}
use Rattle.ct_plan.proofs.pieces.out_block.Goals as goal

pub returns-clause-block : goal.returns-clause-block
returns-clause-block c =
    let size : c.args.place * 512 + 512 - c.args.place * 512 ≡ 512 = omega arith in
    let at : c.args.place * 512 ≡ 512 * c.args.place = omega arith in
    ap (λ n. take n (drop (c.args.place * 512) c.args.out.now)) size ∙ ap (λ n. take 512 (drop n c.args.out.now)) at
