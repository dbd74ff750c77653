use Rattle.std.proofs.Common.{◌≡◌, ◌≤◌, ◌+◌, ◌++◌, ◌∷◌, [], ap, ◌∙◌, sym, arith}
use Rattle.std.proofs.lemmas.Bool.Decides.{nat_tests}
use Rattle.ct_word.specs.declared.limit.TheConstants.{MOST_OPERATIONS}
use Rattle.ct_script.specs.Rules.{asked_by}
use Rattle.ct_script.proofs.Asking.{asked_more, few_asked}
use Rattle.ct_script.proofs.lines.Draft.asks_too_much.Goals as goal

pub returns : goal.returns
returns c =
    let same : c.args.self.now ≡ c.self.inside.lines.items = cc in
    let made : c.self.inside.operations ≡ asked_by c.args.self.now =
    c.self.invariant.operations_are ∙ ap asked_by (sym same) in
    let few : asked_by c.self.inside.lines.items ≤ MOST_OPERATIONS =
    few_asked c.self.inside.lines.items c.self.invariant.within.limits in
    let most : c.self.inside.operations ≤ MOST_OPERATIONS = omega (arith, few, c.self.invariant.operations_are) in
    let more : asked_by (c.args.self.now ++ c.args.line.now ∷ []) ≡ c.self.inside.operations + c.asked.result =
    omega (arith, asked_more c.args.self.now c.args.line.now c.requires, made, c.asked.ensures) in
    rw more (grind (arith, nat_tests, most))
