use Rattle.std.proofs.Common.{rules, ◌≡◌, ℕ, ◌<◌, List, [], All, length, subst, ◌∙◌, length-set, arith}
use Rattle.std.proofs.lemmas.List.Elements.{All-rest}
use Rattle.ct_work.specs.declared.job.Job.{Job}
use Rattle.ct_work.specs.Jobs.{IsAllowed}
use Rattle.ct_work.proofs.Rows.{GrownSo}
use Rattle.ct_work.proofs.Rows.{so_none, so_more, so_all, paired_set, allowed_set}
use Rattle.ct_work.proofs.lanes.run_jobs.Goals as goal

pub loop-job-init : goal.loop-job-init
loop-job-init g c = record {
  paired = c.requires.paired;
  same = search rules;
  grown = so_none _ _ _ _ _ g.M.Machine.steps c.args.seats.now.items c.args.jobs.now.items;
  allowed = c.requires.allowed;
}

pub loop-job-preserved : goal.loop-job-preserved
loop-job-preserved g c =
    let inv = c.loop-job.invariant in
    let came = c.in-Some.ensures.items in
    let now = c.loop-job.seats.items in
    let t : ℕ = c.in-Some.job.turn in
    let u = c.make.new.seat in
    let s = c.index_mut.result.now in
    let all = inv.allowed in
    let first = subst (λ (l : List (Job g.row.M.Denot g.row.M-Opening.Denot g.row.M-Act.Denot g.row.M-Answer.Denot g.row.M-Event.Denot)). All (λ j. IsAllowed g.M.Machine.allows now j.turn j.act) l) came all in
    let inside : t < length now = (first 0 c.in-Some.job (omega arith)).0 in
    let at = c.index_mut.ensures.value in
    let same = c.make.ensures.same in
    let rest = All-rest (λ j. IsAllowed g.M.Machine.allows now j.turn j.act) c.in-Some.job c.pop_front.new.self.items c.loop-job.jobs.items came all in
    record {
      paired = paired_set g.row.M.Denot _ _ _ _ g.M.Machine.steps c.args.turns.now.items now t s u inside at same.0 inv.paired;
      same = length-set now t u ∙ inv.same;
      grown = so_more _ _ _ _ _ g.M.Machine.steps c.args.seats.now.items now c.args.jobs.now.items c.pop_front.new.self.items c.in-Some.job s u c.make.result inv.same inside at same.0 same.1 same.2 c.make.ensures.act
          (subst (λ l. GrownSo c.args.seats.now.items now c.args.jobs.now.items l) came inv.grown);
      allowed = λ k d h. allowed_set _ _ _ _ g.M.Machine.allows now t s u _ _ inside at same.1 (rest k d h);
    }

pub returns-clause-grown : goal.returns-clause-grown
returns-clause-grown g c = let inv = c.loop-job.invariant in let e : c.loop-job.jobs.items ≡ [] = search rules in
    so_all _ _ _ _ _ g.M.Machine.steps c.args.seats.now.items c.loop-job.seats.items c.args.jobs.now.items inv.same (subst (λ l. GrownSo c.args.seats.now.items c.loop-job.seats.items c.args.jobs.now.items l) e inv.grown)
