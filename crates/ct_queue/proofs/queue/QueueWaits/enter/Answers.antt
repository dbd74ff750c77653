use Rattle.std.proofs.Common.{◌≡◌, true, ℕ, ◌<◌, ◌≤◌, ◌-◌, IsNone, length, get_or, slice_get, insert, refl, sym, ap, ◌∙◌, arith, List, ◌∷◌, [], ◌++◌}
use Rattle.std.proofs.Math.Seq.{get_or-append_seam}
use Rattle.std.proofs.lemmas.List.Edits.{get_or-insert_at, length-insert}
use Rattle.std.proofs.lemmas.Option.{get_or_from_slice_get}
use Rattle.ct_word.specs.Kept.{Kept}
use Rattle.ct_matrix.specs.declared.held.HeldCommand.{HeldCommand}
use Rattle.ct_matrix.specs.Conflicts.{has_to_wait}
use Rattle.ct_matrix.specs.Queues.{waits_yet, command_of}
use Rattle.ct_matrix.proofs.Places.{insert_first, first_within}
use Rattle.ct_queue.specs.declared.known_command.KnownCommand.{KnownCommand}
use Rattle.ct_queue.specs.declared.known_command.Change.TheVariants as change
use Rattle.ct_queue.specs.Sound.{waiting_from}
use Rattle.ct_queue.specs.KnownCommands.{known_in}
use Rattle.ct_queue.proofs.Commands.{sound-entered, sound-inserted}
use Rattle.ct_queue.proofs.Known.{waiting_alike, length_alike, right_inserted, kept_last}
use Rattle.ct_queue.proofs.queue.QueueWaits.enter.Goals as goal

pub insert-requires-clause-within : goal.insert-requires-clause-within
insert-requires-clause-within c =
    rw (c.first_waiting-at.ensures ∙ waiting_alike _ _ _ _ (c.as_slice.ensures ∙ c.self.invariant.1.items)) (first_within waits_yet c.self.inside.commands.items)

pub item-entered-requires : goal.item-entered-requires
item-entered-requires c =
    let place : c.first_waiting-at.result ≡ waiting_from c.self.inside.commands.items = c.first_waiting-at.ensures ∙ waiting_alike _ _ _ _ (c.as_slice.ensures ∙ c.self.invariant.1.items) in
    let within : c.first_waiting-at.result ≤ length c.self.inside.commands.items = rw place (first_within waits_yet c.self.inside.commands.items) in
    rw c.insert.ensures
    (omega (arith, within, length-insert c.self.inside.commands.items c.first_waiting-at.result (record { no = c.args.no; held = c.args.held }) within))

pub insert-requires-in-Head-clause-within : goal.insert-requires-in-Head-clause-within
insert-requires-in-Head-clause-within c =
    rw (length_alike _ _ _ _ c.self.invariant.1.items, c.first_waiting-at.ensures ∙ waiting_alike _ _ _ _ (c.as_slice.ensures ∙ c.self.invariant.1.items)) (first_within waits_yet c.self.inside.commands.items)

pub refresh-requires : goal.refresh-requires
refresh-requires c =
    let new : HeldCommand = record { no = c.args.no; held = c.args.held } in
    let place : c.first_waiting-at.result ≡ waiting_from c.self.inside.commands.items = c.first_waiting-at.ensures ∙ waiting_alike _ _ _ _ (c.as_slice.ensures ∙ c.self.invariant.1.items) in
    let within : c.first_waiting-at.result ≤ length c.self.inside.commands.items = rw place (first_within waits_yet c.self.inside.commands.items) in
    let read : c.item-entered.result.now ≡ new =
    sym (get_or_from_slice_get (insert c.self.inside.commands.items c.first_waiting-at.result new) c.first_waiting-at.result c.item-entered.result.now c.item-entered.result.now
    (ap (λ (kept : Kept HeldCommand). slice_get kept.items c.first_waiting-at.result) (sym c.insert.ensures) ∙ c.item-entered.ensures))
    ∙ get_or-insert_at c.self.inside.commands.items c.first_waiting-at.result new c.item-entered.result.now within in
    let fresh : IsNone (command_of c.args.no c.self.inside.commands.items) = rw (← c.self.view_is) at c.requires.fresh in
    rw (c.insert-in-Head.ensures, c.known_of.ensures, c.insert.ensures)
    (right_inserted c.self.inside.unrestricted (change.Entered c.item-entered.result) new c.item-entered.result.now c.self.inside.commands.items c.self.inside.known.items c.first_waiting-at.result c.self.invariant.1.items place
    read (λ other kept. ap (λ (it : HeldCommand). has_to_wait c.self.inside.unrestricted true it.held other.held) read) c.requires.waits fresh)

pub invariant_of-self : goal.invariant_of-self
invariant_of-self c =
    let place : c.first_waiting-at.result ≡ waiting_from c.self.inside.commands.items = c.first_waiting-at.ensures ∙ waiting_alike _ _ _ _ (c.as_slice.ensures ∙ c.self.invariant.1.items) in
    let limit : length c.self.inside.commands.items < c.self.inside.depth = rw (← c.self.view_is) at c.requires.room in
    let room : 0 < c.self.inside.commands.room = omega (arith, limit, c.self.invariant.0.room) in
    let fresh : IsNone (command_of c.args.no c.self.inside.commands.items) = rw (← c.self.view_is) at c.requires.fresh in
    rw (c.refresh.ensures, c.insert.ensures, c.insert-in-Head.ensures)
    (sound-inserted _ _ _ (record { no = c.args.no; held = c.args.held }) c.self.invariant.0 room place fresh, record { items = refl; room = ap (λ (n : ℕ). n - 1) c.self.invariant.1.room })

pub invariant_of-self-in-Simple : goal.invariant_of-self-in-Simple
invariant_of-self-in-Simple c =
    let new : HeldCommand = record { no = c.args.no; held = c.args.held } in
    let limit : length c.self.inside.commands.items < c.self.inside.depth = rw (← c.self.view_is) at c.requires.room in
    let room : 0 < c.self.inside.commands.room = omega (arith, limit, c.self.invariant.0.room) in
    let fresh : IsNone (command_of c.args.no c.self.inside.commands.items) = rw (← c.self.view_is) at c.requires.fresh in
    let read : c.item.result.now ≡ new =
    sym (get_or_from_slice_get (c.self.inside.commands.items ++ new ∷ []) c.len-at.result c.item.result.now c.item.result.now
    (ap (λ (kept : Kept HeldCommand). slice_get kept.items c.len-at.result) (sym c.push.ensures) ∙ c.item.ensures))
    ∙ ap (λ (at : ℕ). get_or (c.self.inside.commands.items ++ new ∷ []) at c.item.result.now) c.len-at.ensures
    ∙ get_or-append_seam c.self.inside.commands.items new [] c.item.result.now in
    rw (c.push-in-Simple.ensures, c.known_of-in-Simple.ensures, read, c.push.ensures) (
      sound-entered _ _ new c.self.invariant.0 room fresh,
      record {
        items =
            ap (λ (kept : List KnownCommand). kept ++ known_in c.self.inside.unrestricted (c.self.inside.commands.items ++ new ∷ []) new ∷ []) c.self.invariant.1.items
            ∙ kept_last c.self.inside.unrestricted new c.self.inside.commands.items c.requires.waits;
        room = ap (λ (n : ℕ). n - 1) c.self.invariant.1.room;
      },
    )

pub returns-in-Head : goal.returns-in-Head
returns-in-Head c =
    let place : c.first_waiting-at.result ≡ waiting_from c.self.inside.commands.items = c.first_waiting-at.ensures ∙ waiting_alike _ _ _ _ (c.as_slice.ensures ∙ c.self.invariant.1.items) in
    rw (c.insert.ensures, ← c.self.view_is, place, insert_first waits_yet (record { no = c.args.no; held = c.args.held }) c.self.inside.commands.items, c.in-Head.is) refl
