use Rattle.std.proofs.Common.{rules, ◌≡◌, sym, subst, All, [], ◌∷◌, ◌++◌}
use Rattle.std.proofs.lemmas.List.Elements.{All-push}
use Rattle.ct_work.specs.Jobs.{IsPaired, IsAllowed}
use Rattle.ct_counter.specs.Runs.{allows_all}
use Rattle.ct_counter.proofs.runs.lanes_of.Goals as goal

pub loop-lane-preserved : goal.loop-lane-preserved
loop-lane-preserved c =
    let items : c.push.new.self.items ≡ c.loop-lane.lanes.items ++ c.in_ok-made.made ∷ [] = c.in_ok-push.ensures.items in
    record {
      turn = search rules;
      parts = search rules;
      paired = subst (λ l. All (λ x. IsPaired c.args.turns.now.items x.seats.items) l) (sym items) (All-push (λ x. IsPaired c.args.turns.now.items x.seats.items) c.loop-lane.lanes.items c.in_ok-made.made c.loop-lane.invariant.paired c.in_ok-made.ensures.paired);
      allowed = subst (λ l. All (λ x. All (λ j. IsAllowed allows_all x.seats.items j.turn j.act) x.jobs.items) l) (sym items) (All-push (λ x. All (λ j. IsAllowed allows_all x.seats.items j.turn j.act) x.jobs.items) c.loop-lane.lanes.items c.in_ok-made.made c.loop-lane.invariant.allowed c.in_ok-made.ensures.allowed);
    }
