use Rattle.std.proofs.Common.{◌≡◌, ◌≤◌, ℕ, Option, Some, sym, ap, ◌∙◌, subst}
use Rattle.std.specs.Prelude.{IfSome}
use Rattle.ct_word.specs.declared.limit.TheConstants.{MOST_BLOCKS}
use Rattle.ct_script.specs.Rules.{declared_blocks}
use Rattle.ct_top.proofs.Ranges.{blocks_in_range}
use Rattle.ct_top.proofs.served.play_script.Goals as goal

pub play_unit-requires-clause-some : goal.play_unit-requires-clause-some
play_unit-requires-clause-some c =
    let declared : declared_blocks c.args.script ≡ Some c.in-Some.blocks = sym (c.declared_blocks.ensures ∙ ap declared_blocks c.lines.ensures) ∙ c.in-Some.is in
    (subst (λ (found : Option ℕ). IfSome found (λ blocks. (1 ≤ blocks) × (blocks ≤ MOST_BLOCKS))) declared
    (blocks_in_range c.args.script c.is_within.ensures.in_range)).0

pub play_unit-requires-clause-few : goal.play_unit-requires-clause-few
play_unit-requires-clause-few c =
    let declared : declared_blocks c.args.script ≡ Some c.in-Some.blocks = sym (c.declared_blocks.ensures ∙ ap declared_blocks c.lines.ensures) ∙ c.in-Some.is in
    (subst (λ (found : Option ℕ). IfSome found (λ blocks. (1 ≤ blocks) × (blocks ≤ MOST_BLOCKS))) declared
    (blocks_in_range c.args.script c.is_within.ensures.in_range)).1
