use Rattle.std.proofs.Common.{◌++◌, ap, ◌∙◌}
use Rattle.std.specs.List.{flat_map}
use Rattle.ct_report.specs.ByteText.{alone_text}
use Rattle.ct_report.proofs.Alone.{alone_chunk}
use Rattle.ct_report.proofs.byte_print.push_alone.Goals as goal

pub loop-chunk-preserved : goal.loop-chunk-preserved
loop-chunk-preserved c =
    let added = c.in_ok-extend_from_slice.ensures.items ∙ ap
    (λ l. c.loop-chunk.text.items ++ l) c.as_flattened.ensures.value in
    alone_chunk (c.args.text.now.items ++ flat_map alone_text c.args.bytes.now) c.loop-chunk.text.items
    c.extend_from_slice.new.self.items c.loop-chunk.rest.now c.in-Some.chunk.now c.in-Some.others.now
    c.alone_texts.result 8 c.loop-chunk.invariant c.in-Some.ensures.cases.0 c.in-Some.ensures.cases.1
    c.alone_texts.ensures added
