use Rattle.std.proofs.Common.{Bool, ◌∙◌, sym, ap, cond}
use Rattle.ct_cdb.specs.Profiles.{operations}
use Rattle.ct_top.proofs.Bounds.{length-plan_of}
use Rattle.ct_top.proofs.played.planned.Goals as goal

pub returns-then-is_performed : goal.returns-then-is_performed
returns-then-is_performed c =
    c.operations.ensures
    ∙ ap (λ (b : Bool). cond b (operations c.args.profile.now) 0)
    (sym c.if-is_performed.true ∙ c.is_performed.ensures)
    ∙ sym (length-plan_of c.args.out c.args.blocks c.args.profile.now)

pub returns-else-is_performed : goal.returns-else-is_performed
returns-else-is_performed c =
    ap (λ (b : Bool). cond b (operations c.args.profile.now) 0) (sym c.if-is_performed.false ∙ c.is_performed.ensures)
    ∙ sym (length-plan_of c.args.out c.args.blocks c.args.profile.now)
