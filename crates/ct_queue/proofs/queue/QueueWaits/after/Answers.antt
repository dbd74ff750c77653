use Rattle.std.proofs.Common.{◌≡◌, ◌+◌, ◌∙◌, arith}
use Rattle.ct_queue.specs.Sound.{place_of}
use Rattle.ct_queue.proofs.Commands.{after-place, place_bound}
use Rattle.ct_queue.proofs.Known.{placed_alike, number_alike}
use Rattle.ct_queue.proofs.queue.QueueWaits.after.Goals as goal

pub overflow_add-place : goal.overflow_add-place
overflow_add-place c =
    let place : c.place.result ≡ place_of c.args.no c.self.inside.commands.items = c.place.ensures ∙ placed_alike _ _ _ _ _ (c.as_slice-known.ensures ∙ c.self.invariant.1.items) in
    rw place (omega (arith, place_bound c.args.no c.self.inside.commands.items, c.self.invariant.0.room, c.self.invariant.0.few))

pub returns : goal.returns
returns c =
    let place : c.place.result ≡ place_of c.args.no c.self.inside.commands.items = c.place.ensures ∙ placed_alike _ _ _ _ _ (c.as_slice-known.ensures ∙ c.self.invariant.1.items) in
    rw (c.number_at.ensures, place, c.as_slice-known.ensures, c.self.invariant.1.items, ← c.self.view_is)
    (number_alike c.self.inside.unrestricted c.self.inside.commands.items c.self.inside.commands.items (place_of c.args.no c.self.inside.commands.items + 1) ∙ after-place c.args.no c.self.inside.commands.items)
