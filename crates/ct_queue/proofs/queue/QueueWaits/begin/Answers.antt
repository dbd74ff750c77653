use Rattle.std.proofs.Common.{◌≡◌, ℕ, not, ◌&&◌, false, ◌<◌, Some, length, slice_get, slice_set, refl, sym, ap, ◌∙◌}
use Rattle.std.proofs.lemmas.List.{get_or-set_same}
use Rattle.std.proofs.lemmas.Option.{get_or_from_slice_get}
use Rattle.ct_matrix.specs.Conflicts.{has_to_wait}
use Rattle.ct_matrix.specs.Queues.{command_of}
use Rattle.ct_matrix.specs.declared.held.HeldCommand.{HeldCommand}
use Rattle.ct_queue.specs.declared.known_command.Change.TheVariants as change
use Rattle.ct_queue.specs.Sound.{place_of}
use Rattle.ct_queue.specs.KnownCommands.{is_blocked_by}
use Rattle.ct_queue.proofs.Commands.{place_within, place_item, waiting_held, set-place, sound-begun, waits_found}
use Rattle.ct_queue.proofs.Known.{begun_of, found_number, placed_alike, right_set}
use Rattle.ct_queue.proofs.queue.QueueWaits.begin.Goals as goal

pub item_mut-requires : goal.item_mut-requires
item_mut-requires c =
    rw (c.place-at.ensures ∙ placed_alike _ _ _ _ _ (c.as_slice.ensures ∙ c.self.invariant.1.items)) (place_within _ _ (waiting_held _ (rw (← c.self.view_is) at c.requires)))

pub invariant_of-self : goal.invariant_of-self
invariant_of-self c =
    let place : c.place-at.result ≡ place_of c.args.no c.self.inside.commands.items = c.place-at.ensures ∙ placed_alike _ _ _ _ _ (c.as_slice.ensures ∙ c.self.invariant.1.items) in
    rw (c.refresh.ensures, c.set.ensures) (sound-begun _ _ _ c.args.no _ c.self.invariant.0 place c.item_mut.ensures.value, record { items = refl; room = c.self.invariant.1.room })

pub refresh-requires : goal.refresh-requires
refresh-requires c =
    let place : c.place-at.result ≡ place_of c.args.no c.self.inside.commands.items = c.place-at.ensures ∙ placed_alike _ _ _ _ _ (c.as_slice.ensures ∙ c.self.invariant.1.items) in
    let within : c.place-at.result < length c.self.inside.commands.items = rw place (place_within _ _ (waiting_held _ (rw (← c.self.view_is) at c.requires))) in
    let found : command_of c.args.no c.self.inside.commands.items ≡ Some c.item_mut.result.now =
    sym (place_item c.args.no c.self.inside.commands.items) ∙ ap (slice_get c.self.inside.commands.items) (sym place) ∙ c.item_mut.ensures.value in
    let read : c.item-begun.result.now ≡ begun_of c.item_mut.result.now =
    sym (get_or_from_slice_get (slice_set c.self.inside.commands.items c.place-at.result (begun_of c.item_mut.result.now)) c.place-at.result c.item-begun.result.now c.item-begun.result.now c.item-begun.ensures)
    ∙ get_or-set_same c.self.inside.commands.items c.place-at.result (begun_of c.item_mut.result.now) c.item-begun.result.now within in
    rw (c.set.ensures, c.known_of.ensures)
    (right_set c.self.inside.unrestricted (change.Begun c.item-begun.result) c.args.no c.item_mut.result.now c.item-begun.result.now c.self.inside.commands.items c.self.inside.known.items c.place-at.result c.self.invariant.1.items place
    c.self.invariant.0.single found (waits_found _ _ found (rw (← c.self.view_is) at c.requires)) read (λ other kept. ap (λ (it : HeldCommand). not (is_blocked_by it.no kept) && has_to_wait c.self.inside.unrestricted false it.held other.held) read ∙ ap (λ (number : ℕ). not (is_blocked_by number kept) && has_to_wait c.self.inside.unrestricted false (begun_of c.item_mut.result.now).held other.held) (found_number _ _ _ found)))

pub returns : goal.returns
returns c =
    let place : c.place-at.result ≡ place_of c.args.no c.self.inside.commands.items = c.place-at.ensures ∙ placed_alike _ _ _ _ _ (c.as_slice.ensures ∙ c.self.invariant.1.items) in
    rw (← c.self.view_is, place, set-place c.args.no c.self.inside.commands.items c.item_mut.result.now c.self.invariant.0.single (rw place at c.item_mut.ensures.value)) refl
