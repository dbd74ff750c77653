use Rattle.std.proofs.Common.{◌≡◌, ◌+◌, ◌*◌, ◌%◌, slice_index, length, refl, sym, ◌∙◌, arith}
use Rattle.hex.proofs.Pairs.{decode_step, decode_err, decode_done}
use Rattle.ct_script.proofs.HexPairs.{pair_reads, pair_refused, pairs_read, pairs_refused}
use Rattle.ct_script.proofs.digits.read_pairs.Goals as goal

pub returns-in_default : goal.returns-in_default
returns-in_default c =
    let text = c.args.pairs.now in
    let place = c.loop-place.place in
    let refused = pair_refused (slice_index text (2 * place)) (slice_index text (2 * place + 1)) (2 * place)
    (sym c.read_pair.ensures ∙ c.in_default.is) in
    let even : length text % 2 ≡ 0 = omega arith in
    let none = pairs_refused text refused.0 c.requires.some even (decode_err text c.loop-place.into place refused.0
    (omega arith) refused.1 c.loop-place.invariant) in
    rw none refl

pub loop-place-preserved : goal.loop-place-preserved
loop-place-preserved c =
    let text = c.args.pairs.now in
    let place = c.loop-place.place in
    let reads = pair_reads (slice_index text (2 * place)) (slice_index text (2 * place + 1))
    (2 * place) c.in-Some.byte (sym c.read_pair.ensures ∙ c.in-Some.is) in
    decode_step text c.loop-place.into place c.in-Some.byte (omega arith) (omega arith) reads c.loop-place.invariant

pub returns : goal.returns
returns c =
    let text = c.args.pairs.now in
    let even : length text % 2 ≡ 0 = omega arith in
    let some = pairs_read text c.loop-place.into c.requires.some even
    (decode_done text c.loop-place.into c.loop-place.place (omega arith) (omega arith) c.loop-place.invariant) in
    rw some (refl, refl)
