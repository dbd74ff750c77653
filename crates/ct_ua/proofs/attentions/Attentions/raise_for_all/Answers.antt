use Rattle.std.proofs.Common.{length, ◌≤◌, ◌<◌, arith, append-nil}
use Rattle.std.proofs.lemmas.List.{take_all, drop_all}
use Rattle.ct_ua.proofs.Raising.{raised_more}
use Rattle.ct_ua.specs.Attentions.{after_raise_for_all}
use Rattle.ct_ua.proofs.attentions.Attentions.raise_for_all.Goals as goal

pub loop-place-preserved : goal.loop-place-preserved
loop-place-preserved c =
    let within : c.loop-place.place < length c.self.inside.sets = omega arith in
    rw c.with.ensures (raised_more c.args.c c.self.inside.sets c.loop-place.self-inside.sets c.loop-place.place _ within c.loop-place.invariant)

pub returns : goal.returns
unfolding after_raise_for_all
returns c =
    let past : length c.self.inside.sets ≤ c.loop-place.place = omega arith in
    rw (← c.self.view_is) (rw (c.loop-place.invariant, take_all _ _ past, drop_all _ _ past) (append-nil _))
