use Rattle.std.proofs.Common.{arith, ◌∙◌}
use Rattle.std.proofs.lemmas.List.{length-set}
use Rattle.ct_report.proofs.Alone.{texts_more, all_texts}
use Rattle.ct_report.proofs.byte_print.alone_texts.Goals as goal

pub loop-place-preserved : goal.loop-place-preserved
loop-place-preserved c = record {
  long = length-set c.loop-place.texts c.loop-place.place c.alone_text.result ∙ c.loop-place.invariant.long;
  so_far = texts_more c.args.bytes.now c.loop-place.texts c.loop-place.place c.alone_text.result (omega arith)
      (omega arith) c.loop-place.invariant.so_far c.alone_text.ensures;
}

pub returns : goal.returns
returns c = all_texts c.args.bytes.now c.loop-place.texts c.loop-place.place (omega arith)
    (omega arith) c.loop-place.invariant.so_far
