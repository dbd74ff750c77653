use Rattle.std.proofs.Common.{◌≡◌, suc, List, ◌∷◌, sym, ◌∙◌, subst, arith}
use Rattle.ct_machine.specs.declared.act.Opening.{Opening}
use Rattle.ct_script.specs.declared.script.Line.{Line}
use Rattle.ct_script.specs.Rules.{AreInRange}
use Rattle.ct_top.specs.Played.{point_of, ByLine, ByLines}
use Rattle.ct_top.proofs.played.play_lines.Goals as goal

pub loop-line-preserved : goal.loop-line-preserved
loop-line-preserved g c =
    let kept = c.loop-line.invariant in
    let line = c.in-Some.line in
    let now = c.loop-line.pair in
    let next = c.play_line.new.pair in
    let parts : c.loop-line.line-iterator.rest.items ≡ line ∷ c.next.new.self.rest.items = c.in-Some.ensures.steps.0 in
    let all : AreInRange (line ∷ c.next.new.self.rest.items) = subst AreInRange parts kept.in_range in
    record {
      opening = c.play_line.ensures.opening ∙ kept.opening;
      in_range = λ k d within. all (suc k) d (omega (arith, within));
      done = λ end rest. kept.done end
          (subst (λ (ls : List Line). ByLines c.args.pair.now.opening ls (point_of now) end) (sym parts) (
            point_of next,
            subst (λ (o : Opening). ByLine o line.no line.word (point_of now) (point_of next)) kept.opening c.in_ok-play_line.ensures.done,
            rest,
          ));
    }
