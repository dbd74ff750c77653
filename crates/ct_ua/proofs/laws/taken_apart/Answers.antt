use Rattle.std.proofs.Common.{sym}
use Rattle.ct_ua.proofs.Nexuses.{places_differ, take_leaves, takes_commute, nothing_taken}
use Rattle.ct_ua.proofs.laws.taken_apart.Goals as goal

pub returns : goal.returns
returns c = record {
  leaves = λ attentions a b in_a in_b differ. take_leaves attentions a b (places_differ b a in_b in_a differ);
  commute = λ attentions a b in_a in_b differ. takes_commute attentions a b (λ same. places_differ b a in_b in_a differ (sym same));
  nothing = nothing_taken;
}
