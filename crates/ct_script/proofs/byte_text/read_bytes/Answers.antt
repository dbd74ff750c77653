use Rattle.std.proofs.Common.{◌≡◌, Some, take, sym, ◌∙◌, ap, subst}
use Rattle.std.specs.Prelude.{option_map}
use Rattle.ct_script.specs.ByteText.{piece_of, joined}
use Rattle.ct_script.specs.Reading.{Extends, bytes_of_rest}
use Rattle.ct_script.proofs.Texts.{adds_to, at_most_taken, rest_bytes}
use Rattle.ct_script.proofs.byte_text.read_bytes.Goals as goal

pub loop-rest-preserved : goal.loop-rest-preserved
loop-rest-preserved c =
    let extends : option_map (take c.args.most) (joined (Some c.loop-rest.bytes.items)
    (piece_of c.cut.result.0.now)) ≡ Some c.push_piece.new.bytes.items =
    subst (λ ok. Extends c.args.most c.loop-rest.bytes.items
    (piece_of c.cut.result.0.now) ok c.push_piece.new.bytes.items) c.if-not-branch.false
    c.in_ok-push_piece.ensures in
    let added = adds_to c.args.most c.loop-rest.bytes.items c.push_piece.new.bytes.items (piece_of c.cut.result.0.now)
    (bytes_of_rest c.cut.result.1) extends in
    let rest : bytes_of_rest c.loop-rest.rest ≡ joined (piece_of c.cut.result.0.now) (bytes_of_rest c.cut.result.1) =
    ap bytes_of_rest c.in-Some.is ∙ rest_bytes c.in-Some.pieces.now c.cut.result.0.now c.cut.result.1
    c.cut.ensures.parts in
    record {
      within = at_most_taken c.args.most (joined (Some c.loop-rest.bytes.items)
          (piece_of c.cut.result.0.now)) c.push_piece.new.bytes.items extends;
      all = added ∙ ap (λ r. option_map (take c.args.most) (joined (Some c.loop-rest.bytes.items) r)) (sym rest)
          ∙ c.loop-rest.invariant.all;
    }
