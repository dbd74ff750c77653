use Rattle.std.proofs.Common.{sym, ◌∙◌, arith}
use Rattle.std.proofs.lemmas.Bool.Decides.{nat_tests}
use Rattle.ct_word.specs.declared.limit.TheConstants.{MOST_CDB}
use Rattle.ct_script.specs.ByteText.{bytes_of_text}
use Rattle.ct_script.proofs.Texts.{at_most_of_kept}
use Rattle.ct_script.proofs.forms.read_cdb.Goals as goal

pub returns-then-len-gt-MOST_CDB : goal.returns-then-len-gt-MOST_CDB
returns-then-len-gt-MOST_CDB c =
    let read = sym c.in_ok-cdb.ensures ∙ c.in-Some.is in
    let found = at_most_of_kept MOST_CDB (bytes_of_text c.args.text.now) c.in-Some.cdb read in
    grind (arith, nat_tests, found, c.len.ensures.len, c.if-len-gt-MOST_CDB.true)

pub returns : goal.returns
returns c =
    let read = sym c.in_ok-cdb.ensures ∙ c.in-Some.is in
    let found = at_most_of_kept MOST_CDB (bytes_of_text c.args.text.now) c.in-Some.cdb read in
    grind (arith, nat_tests, found, c.len.ensures.len, c.if-len-gt-MOST_CDB.false)
