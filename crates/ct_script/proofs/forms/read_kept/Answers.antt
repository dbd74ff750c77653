use Rattle.std.proofs.Common.{◌≡◌, ◌+◌, take, refl, subst}
use Rattle.std.specs.Prelude.{IfOk, option_map}
use Rattle.ct_word.specs.declared.limit.TheConstants.{MOST_DATA_OUT}
use Rattle.ct_script.specs.declared.forms.TheConstants.{KEPT_DATA}
use Rattle.ct_script.specs.ByteText.{bytes_of_text}
use Rattle.ct_script.proofs.forms.read_kept.Goals as goal

-- the numbers alone are compared
pub returns : goal.returns
returns c =
    let size : KEPT_DATA ≡ MOST_DATA_OUT + 1 = refl in
    subst (λ most. IfOk c.read_bytes.result (λ found. found ≡ option_map (take most) (bytes_of_text c.args.text.now))) size c.read_bytes.ensures
