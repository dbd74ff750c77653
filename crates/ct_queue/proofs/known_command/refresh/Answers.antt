use Rattle.std.proofs.Common.{◌≡◌, ◌<◌, ℕ, Some, length, slice_get, sym, ap, ◌∙◌, arith, refl, List, suc, ◌+◌}
use Rattle.std.proofs.lemmas.Option.{slice_get-get_or}
use Rattle.ct_word.specs.Kept.{Kept}
use Rattle.ct_queue.specs.declared.known_command.KnownCommand.{KnownCommand}
use Rattle.ct_queue.proofs.Known.{known_up_to, known_all, known_at, known_set, known_kept, known_passed, known-length, right-length}
use Rattle.ct_queue.proofs.known_command.refresh.Goals as goal
use Rattle.ct_queue.proofs.known_command.refresh.Goals.{then-may_touch+then-is_touched, then-may_touch+else-is_touched, else-may_touch}

pub bounds-as_slice-at : goal.bounds-as_slice-at
bounds-as_slice-at c = rw (c.as_slice.ensures, c.loop-at.invariant, known-length _ _ _ _ _, right-length _ _ _ _ _ c.requires) (omega (arith, c.loop-at-test.true, c.len-at-end.ensures))

pub offset_bounds-as_slice-at : goal.offset_bounds-as_slice-at
offset_bounds-as_slice-at c =
    let within : c.loop-at.at < length c.as_slice.result.now = rw (c.as_slice.ensures, c.loop-at.invariant, known-length _ _ _ _ _, right-length _ _ _ _ _ c.requires) (omega (arith, c.loop-at-test.true, c.len-at-end.ensures)) in
    omega (arith, within, c.as_slice.type_inv.1)

pub set-requires : goal.set-requires
set-requires c = rw (c.loop-at.invariant, known-length _ _ _ _ _, right-length _ _ _ _ _ c.requires) (omega (arith, c.loop-at-test.true, c.len-at-end.ensures))

pub loop-at-preserved : goal.loop-at-preserved
loop-at-preserved c =
    let long : length c.args.known.now.items ≡ length c.args.commands.now.items = right-length _ _ _ _ _ c.requires in
    let below : c.loop-at.at < length c.args.commands.now.items = omega (arith, c.loop-at-test.true, c.len-at-end.ensures) in
    let more : suc c.loop-at.at ≡ c.loop-at.at + 1 = omega arith in
    let next : known_up_to (suc c.loop-at.at) c.args.free_order c.args.commands.now.items c.args.commands.now.items c.args.known.now.items ≡ known_up_to (c.loop-at.at + 1) c.args.free_order c.args.commands.now.items c.args.commands.now.items c.args.known.now.items =
    ap (λ (n : ℕ). known_up_to n c.args.free_order c.args.commands.now.items c.args.commands.now.items c.args.known.now.items) more in
    let within : c.loop-at.at < length c.as_slice.result.now = rw (c.as_slice.ensures, c.loop-at.invariant, known-length _ _ _ _ _, right-length _ _ _ _ _ c.requires) (omega (arith, c.loop-at-test.true, c.len-at-end.ensures)) in
    let kept : slice_get c.args.known.now.items c.loop-at.at ≡ Some c.index-as_slice-at.result =
    sym (known_at c.loop-at.at c.args.free_order c.args.commands.now.items c.args.commands.now.items c.args.known.now.items)
    ∙ ap (λ (items : List KnownCommand). slice_get items c.loop-at.at) (sym (c.as_slice.ensures ∙ ap (λ (all : Kept KnownCommand). all.items) c.loop-at.invariant))
    ∙ slice_get-get_or c.as_slice.result.now c.loop-at.at c.index-as_slice-at.result within
    ∙ ap Some (sym c.index-as_slice-at.is) in
    elim c.if-may_touch.branch [
      | then-may_touch+then-is_touched w ↦
          let command : slice_get c.args.commands.now.items c.loop-at.at ≡ Some w.item-command.result.now = w.item-command.ensures in
          rw (w.known-is, w.set.ensures, w.known_of.ensures, c.loop-at.invariant)
          (ap (λ (items : List KnownCommand). record { items = items; room = c.args.known.now.room })
          (known_set c.loop-at.at c.args.free_order c.args.commands.now.items c.args.commands.now.items c.args.known.now.items w.item-command.result.now long command ∙ next))
      | then-may_touch+else-is_touched w ↦
          let command : slice_get c.args.commands.now.items c.loop-at.at ≡ Some w.item-command.result.now = w.item-command.ensures in
          rw (w.known-is, c.loop-at.invariant)
          (ap (λ (items : List KnownCommand). record { items = items; room = c.args.known.now.room })
          (known_kept c.loop-at.at c.args.change.now c.args.free_order c.args.commands.now.items c.args.commands.now.items c.args.known.now.items w.item-command.result.now c.index-as_slice-at.result
          c.requires command kept (sym w.is_touched.ensures ∙ w.if-is_touched.false) ∙ next))
      | else-may_touch w ↦
          rw (w.known-is, c.loop-at.invariant)
          (ap (λ (items : List KnownCommand). record { items = items; room = c.args.known.now.room })
          (known_passed c.loop-at.at c.args.change.now c.args.free_order c.args.commands.now.items c.args.commands.now.items c.args.known.now.items c.index-as_slice-at.result
          c.requires below kept (sym c.may_touch.ensures ∙ w.if-may_touch.false) ∙ next))
    ]

pub returns : goal.returns
returns c =
    let all : c.loop-at.at ≡ length c.args.commands.now.items = omega (arith, c.loop-at-test.false, c.loop-at.auto.at-end, c.len-at-end.ensures) in
    rw (c.loop-at.invariant, all, known_all _ _ _ _ _ c.requires) refl
