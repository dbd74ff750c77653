use Rattle.std.proofs.Common.{◌≡◌, ◌+◌, ◌-◌, ◌++◌, Some, replicate, sym, ◌∙◌, ap, take, arith}
use Rattle.std.proofs.lemmas.List.{take_all}
use Rattle.std.specs.Prelude.{option_map, vec_len}
use Rattle.ct_word.specs.Decimals.{decimal_of}
use Rattle.ct_script.specs.ByteText.{pairs_of, single, joined, repeated}
use Rattle.ct_script.proofs.Texts.{run_extends}
use Rattle.ct_script.proofs.byte_text.push_run.Goals as goal

pub returns-in_ok-resize-in-Some-Some : goal.returns-in_ok-resize-in-Some-Some
returns-in_ok-resize-in-Some-Some c =
    let run = run_extends c.args.most c.args.bytes.now.items c.in-Some-Some.byte c.in-Some-Some.count
    c.min-count.result (decimal_of c.args.count.now) (cc) (omega arith) (omega arith) c.requires.small
    (omega arith) in
    let one : single (pairs_of c.args.pair.now) ≡ Some c.in-Some-Some.byte = cc in
    let all : take (c.len-in-Some-Some.result + c.min-count.result) c.args.bytes.now.items ≡ c.args.bytes.now.items =
    take_all _ c.args.bytes.now.items (omega arith) in
    let more : (c.len-in-Some-Some.result + c.min-count.result) - vec_len c.args.bytes.now ≡ c.min-count.result =
    omega arith in
    let same : c.resize.new.self.items ≡ c.args.bytes.now.items ++ replicate c.min-count.result c.in-Some-Some.byte =
    c.in_ok-resize-in-Some-Some.ensures.items
    ∙ ap (λ l. l ++ replicate ((c.len-in-Some-Some.result + c.min-count.result) - vec_len c.args.bytes.now)
    c.in-Some-Some.byte) all
    ∙ ap (λ k. c.args.bytes.now.items ++ replicate k c.in-Some-Some.byte) more in
    ap (λ b. option_map (take c.args.most) (joined (Some c.args.bytes.now.items) (repeated b
    (decimal_of c.args.count.now)))) one ∙ run ∙ ap Some (sym same)
