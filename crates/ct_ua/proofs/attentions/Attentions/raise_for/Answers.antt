use Rattle.std.proofs.Common.{◌≤◌, ◌<◌, length, take, sym, ◌∙◌, arith}
use Rattle.ct_ua.proofs.Raising.{raised_for_more, raised_for_no_more, raised_for_whole}
use Rattle.ct_ua.proofs.Nexuses.{length-raise_for}
use Rattle.ct_ua.proofs.attentions.Attentions.raise_for.Goals as goal
use Rattle.ct_ua.proofs.attentions.Attentions.raise_for.Goals.{then-has_place, else-has_place}

pub invariant_of-self : goal.invariant_of-self
invariant_of-self c = rw (c.loop-place.invariant, length-raise_for c.self.inside.sets (take c.loop-place.place c.args.set.now) c.args.c) c.self.invariant

pub loop-place-preserved : goal.loop-place-preserved
loop-place-preserved c =
    let within : c.loop-place.place < length c.self.inside.sets = omega arith in
    elim c.if-has_place.branch [
      | then-has_place w ↦
          rw (w.self-inside-is, w.with.ensures)
          (raised_for_more c.args.c c.self.inside.sets c.loop-place.self-inside.sets c.args.set.now c.loop-place.place _
          within c.loop-place.invariant (sym c.has_place.ensures ∙ w.if-has_place.true))
      | else-has_place w ↦
          rw w.self-inside-is
          (raised_for_no_more c.args.c c.self.inside.sets c.loop-place.self-inside.sets c.args.set.now
          c.loop-place.place c.loop-place.invariant (sym c.has_place.ensures ∙ w.if-has_place.false))
    ]

pub returns : goal.returns
returns c =
    let past : length c.self.inside.sets ≤ c.loop-place.place = omega (arith, length-raise_for c.self.inside.sets (take c.loop-place.place c.args.set.now) c.args.c) in
    rw (← c.self.view_is) (c.loop-place.invariant ∙ raised_for_whole c.args.c c.self.inside.sets c.args.set.now c.loop-place.place past)
