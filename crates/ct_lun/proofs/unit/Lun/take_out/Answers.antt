use Rattle.std.proofs.Common.{◌≡◌, ◌<◌, length, sym, ap, ◌∙◌, rules, arith}
use Rattle.std.proofs.lemmas.Option.{get_or_from_slice_get, slice_get_within}
use Rattle.std.proofs.lemmas.List.Edits.{length-remove}
use Rattle.ct_matrix.specs.Queues.{TaskSet}
use Rattle.ct_plan.specs.declared.task.Task.{Task}
use Rattle.ct_lun.specs.declared.slot.Slot.{Slot}
use Rattle.ct_lun.specs.Desk.{slot_at}
use Rattle.ct_lun.proofs.unit.Lun.take_out.Goals as goal

pub invariant_of-self : goal.invariant_of-self
invariant_of-self g c =
    let within : c.args.at < length c.self.inside.slots.items = slice_get_within c.self.inside.slots.items c.args.at c.remove-slot.result c.remove-slot.ensures.item in
    let depth : c.leave_uncounted.new.waits.depth ≡ c.self.inside.queue.depth = ap (λ (set : TaskSet). set.depth) c.leave_uncounted.ensures in
    rw (c.remove-slot.ensures.rest, depth) (omega (arith, c.self.invariant, within, length-remove c.self.inside.slots.items c.args.at within))

pub returns-clause-leaves : goal.returns-clause-leaves
returns-clause-leaves g c =
    let slot : slot_at c.self.inside.slots.items c.args.at ≡ c.remove-slot.result =
    get_or_from_slice_get c.self.inside.slots.items c.args.at c.remove-slot.result _ c.remove-slot.ensures.item in
    let task : c.into_task-lease.result ≡ (slot_at c.self.inside.slots.items c.args.at).task =
    c.into_task-lease.ensures ∙ ap (λ (s : Slot). s.task) (sym slot) in
    search rules

pub returns-clause-body : goal.returns-clause-body
returns-clause-body g c =
    let slot : slot_at c.self.inside.slots.items c.args.at ≡ c.remove-slot.result =
    get_or_from_slice_get c.self.inside.slots.items c.args.at c.remove-slot.result _ c.remove-slot.ensures.item in
    rw (← c.self.view_is) (ap (λ (t : Task). t.body) c.into_task-lease.ensures ∙ ap (λ (s : Slot). s.task.body) (sym slot))
