use Rattle.std.proofs.Common.{◌≡◌, ℕ, ◌+◌, List, drop, sym, ap, ◌∙◌, arith}
use Rattle.std.specs.Prelude.{slice_index}
use Rattle.std.proofs.lemmas.List.{get_or-drop}
use Rattle.ct_cdb.proofs.row.eight_at.Goals as goal

-- the bytes of the lower half
behind : (at : ℕ) (bytes : List ℕ) (place : ℕ)
    → slice_index (drop (at + 4) bytes) place ≡ slice_index (drop at bytes) (4 + place)
behind at bytes place =
    let same : (at + 4) + place ≡ at + (4 + place) = omega arith in
    get_or-drop (at + 4) bytes place 0
    ∙ ap (slice_index bytes) same
    ∙ sym (get_or-drop at bytes (4 + place) 0)

pub returns : goal.returns
returns c =
    let bytes = c.args.bytes.now in
    omega (
      arith,
      behind c.args.at bytes 0,
      behind c.args.at bytes 1,
      behind c.args.at bytes 2,
      behind c.args.at bytes 3,
    )
