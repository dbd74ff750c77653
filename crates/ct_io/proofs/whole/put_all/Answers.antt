use Rattle.std.proofs.Common.{◌≡◌, ℕ, ◌+◌, ◌-◌, List, ◌++◌, length, take, drop, ap, sym, ◌∙◌, subst, rules}
use Rattle.std.proofs.Math.Seq.{take-add}
use Rattle.std.proofs.lemmas.List.{take_rest}
use Rattle.std.specs.Io.KnownBytes.{Appends}
use Rattle.std.proofs.KnownBytes.{Appends-trans}
use Rattle.ct_io.proofs.whole.put_all.Goals as goal

-- what was sent before, and what one more write took
sent_more : (sent count : ℕ) (bytes : List ℕ) → take sent bytes ++ take count (take (length bytes - sent) (drop sent bytes)) ≡ take (sent + count) bytes
sent_more sent count bytes = ap (λ rest. take sent bytes ++ take count rest) (take_rest bytes sent) ∙ sym (take-add sent count bytes)

pub loop-sent-preserved : goal.loop-sent-preserved
loop-sent-preserved g c = record {
  within = search rules;
  appended = subst (Appends _ _) (sent_more c.loop-sent.sent c.in-Ok.count c.args.bytes.now) (Appends-trans _ _ _ _ _ c.loop-sent.invariant.appended c.in-Ok.ensures.bytes);
  unfailed = c.in-Ok.ensures.cause.kept ∙ c.loop-sent.invariant.unfailed;
}
