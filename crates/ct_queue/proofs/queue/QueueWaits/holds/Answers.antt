use Rattle.std.proofs.Common.{◌≡◌, option_map, is_some, ap, ◌∙◌}
use Rattle.std.specs.List.{find}
use Rattle.ct_matrix.specs.Queues.{command_of}
use Rattle.ct_queue.specs.KnownCommands.{has_number, known_in}
use Rattle.ct_queue.proofs.Known.{held_kept, is_held}
use Rattle.ct_queue.proofs.queue.QueueWaits.holds.Goals as goal

pub returns : goal.returns
returns c =
    let look : find (has_number c.args.no) c.as_slice.result.now ≡ option_map (known_in c.self.inside.unrestricted c.self.inside.commands.items) (command_of c.args.no c.self.inside.commands.items) =
    ap (find (has_number c.args.no)) (c.as_slice.ensures ∙ c.self.invariant.1.items) ∙ held_kept c.self.inside.unrestricted c.args.no c.self.inside.commands.items c.self.inside.commands.items in
    rw (c.is_some.ensures, ← c.self.view_is) (ap is_some (c.find.ensures ∙ look) ∙ is_held (known_in c.self.inside.unrestricted c.self.inside.commands.items) (command_of c.args.no c.self.inside.commands.items))
