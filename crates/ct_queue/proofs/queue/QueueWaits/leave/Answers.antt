use Rattle.std.proofs.Common.{◌≡◌, ℕ, ◌<◌, ◌+◌, length, refl, ap, ◌∙◌}
use Rattle.ct_queue.specs.Sound.{place_of}
use Rattle.ct_queue.proofs.Commands.{place_within, remove-place, sound-left}
use Rattle.ct_queue.proofs.Known.{placed_alike, length_alike, right_removed}
use Rattle.ct_queue.proofs.queue.QueueWaits.leave.Goals as goal

pub remove-left-requires : goal.remove-left-requires
remove-left-requires g c =
    rw (c.place-at.ensures ∙ placed_alike _ _ _ _ _ (c.as_slice.ensures ∙ c.self.invariant.1.items)) (place_within _ _ (rw (← c.self.view_is) at c.requires))

pub remove-kept-requires : goal.remove-kept-requires
remove-kept-requires g c =
    rw (length_alike _ _ _ _ c.self.invariant.1.items, c.place-at.ensures ∙ placed_alike _ _ _ _ _ (c.as_slice.ensures ∙ c.self.invariant.1.items)) (place_within _ _ (rw (← c.self.view_is) at c.requires))

pub refresh-requires : goal.refresh-requires
refresh-requires g c =
    let place : c.place-at.result ≡ place_of c.args.no c.self.inside.commands.items = c.place-at.ensures ∙ placed_alike _ _ _ _ _ (c.as_slice.ensures ∙ c.self.invariant.1.items) in
    let within : c.place-at.result < length c.self.inside.commands.items = rw place (place_within _ _ (rw (← c.self.view_is) at c.requires)) in
    rw (c.remove-left.ensures.rest, c.remove-kept.ensures.rest)
    (right_removed c.self.inside.unrestricted c.args.no c.self.inside.commands.items c.self.inside.known.items c.place-at.result c.self.invariant.1.items place within c.self.invariant.0.single)

pub invariant_of-self : goal.invariant_of-self
invariant_of-self g c =
    let place : c.place-at.result ≡ place_of c.args.no c.self.inside.commands.items = c.place-at.ensures ∙ placed_alike _ _ _ _ _ (c.as_slice.ensures ∙ c.self.invariant.1.items) in
    let within : c.place-at.result < length c.self.inside.commands.items = rw place (place_within _ _ (rw (← c.self.view_is) at c.requires)) in
    rw (c.refresh.ensures, c.remove-left.ensures.rest, c.remove-kept.ensures.rest)
    (sound-left _ _ _ c.args.no c.self.invariant.0 place within, record { items = refl; room = ap (λ (n : ℕ). n + 1) c.self.invariant.1.room })

pub returns-clause-left : goal.returns-clause-left
returns-clause-left g c =
    let place : c.place-at.result ≡ place_of c.args.no c.self.inside.commands.items = c.place-at.ensures ∙ placed_alike _ _ _ _ _ (c.as_slice.ensures ∙ c.self.invariant.1.items) in
    rw (c.remove-left.ensures.rest, ← c.self.view_is, place, remove-place c.args.no c.self.inside.commands.items c.self.invariant.0.single) refl
