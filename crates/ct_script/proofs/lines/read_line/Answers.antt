use Rattle.std.proofs.Common.{Err, refl, sym, ap, ◌∙◌, subst}
use Rattle.std.specs.Prelude.{option_map}
use Rattle.ct_script.specs.Forms.{word_of}
use Rattle.ct_script.specs.Reading.{kept}
use Rattle.ct_script.specs.Scripts.{line_of, GivesLine}
use Rattle.ct_script.proofs.Judging.{formless_line, misnamed_line, limit_line, good_line}
use Rattle.ct_script.proofs.lines.read_line.Goals as goal

pub returns-in_default-clause-line : goal.returns-in_default-clause-line
returns-in_default-clause-line c =
    let word = c.in_ok-word.ensures.word ∙ ap (λ words. option_map kept (word_of words)) c.new.ensures in
    let said = formless_line c.args.draft.now c.args.no c.args.text.now c.in_ok-word.field-0 word c.in_default.not-Some in
    subst (λ r. GivesLine c.args.no (Err r) (line_of c.args.draft.now c.args.no c.args.text.now)) (sym c.fault_at.ensures) (said, refl)

pub returns-then-is_misnamed-clause-line : goal.returns-then-is_misnamed-clause-line
returns-then-is_misnamed-clause-line c =
    let word = sym c.in-Some.is ∙ c.in_ok-word.ensures.word ∙ ap (λ words. option_map kept (word_of words)) c.new.ensures in
    let said = misnamed_line c.args.draft.now c.args.no c.args.text.now c.in-Some.word word (sym c.is_misnamed.ensures ∙ c.if-is_misnamed.true) in
    subst (λ r. GivesLine c.args.no (Err r) (line_of c.args.draft.now c.args.no c.args.text.now)) (sym c.fault_at-then-is_misnamed.ensures) (said, refl)

pub returns-then-passes_limit-clause-line : goal.returns-then-passes_limit-clause-line
returns-then-passes_limit-clause-line c =
    let word = sym c.in-Some.is ∙ c.in_ok-word.ensures.word ∙ ap (λ words. option_map kept (word_of words)) c.new.ensures in
    let said = limit_line c.args.draft.now c.args.no c.args.text.now c.in-Some.word word (sym c.is_misnamed.ensures ∙ c.if-is_misnamed.false) (sym c.passes_limit.ensures ∙ c.if-passes_limit.true) in
    subst (λ r. GivesLine c.args.no (Err r) (line_of c.args.draft.now c.args.no c.args.text.now)) (sym c.fault_at-then-passes_limit.ensures) (said, refl)

pub returns-clause-line : goal.returns-clause-line
returns-clause-line c =
    let word = sym c.in-Some.is ∙ c.in_ok-word.ensures.word ∙ ap (λ words. option_map kept (word_of words)) c.new.ensures in
    good_line c.args.draft.now c.args.no c.args.text.now c.in-Some.word word (sym c.is_misnamed.ensures ∙ c.if-is_misnamed.false) (sym c.passes_limit.ensures ∙ c.if-passes_limit.false)
