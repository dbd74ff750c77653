use Rattle.std.proofs.Common.{◌≡◌, option_map, refl, sym, ap, ◌∙◌}
use Rattle.std.specs.List.{find}
use Rattle.ct_matrix.specs.Queues.{command_of}
use Rattle.ct_queue.specs.KnownCommands.{has_number, known_in}
use Rattle.ct_queue.proofs.Known.{held_kept, waits_alike, absent_alike}
use Rattle.ct_queue.proofs.queue.QueueWaits.waits.Goals as goal

pub returns-in-Some : goal.returns-in-Some
returns-in-Some c =
    let look : find (has_number c.args.no) c.as_slice.result.now ≡ option_map (known_in c.self.inside.unrestricted c.self.inside.commands.items) (command_of c.args.no c.self.inside.commands.items) =
    ap (find (has_number c.args.no)) (c.as_slice.ensures ∙ c.self.invariant.1.items) ∙ held_kept c.self.inside.unrestricted c.args.no c.self.inside.commands.items c.self.inside.commands.items in
    rw (← c.self.view_is) (waits_alike c.self.inside.unrestricted c.self.inside.commands.items (command_of c.args.no c.self.inside.commands.items) c.in-Some.command (sym look ∙ sym c.find.ensures ∙ c.in-Some.is))

pub returns-in-None : goal.returns-in-None
returns-in-None c =
    let look : find (has_number c.args.no) c.as_slice.result.now ≡ option_map (known_in c.self.inside.unrestricted c.self.inside.commands.items) (command_of c.args.no c.self.inside.commands.items) =
    ap (find (has_number c.args.no)) (c.as_slice.ensures ∙ c.self.invariant.1.items) ∙ held_kept c.self.inside.unrestricted c.args.no c.self.inside.commands.items c.self.inside.commands.items in
    rw (← c.self.view_is, absent_alike c.self.inside.unrestricted c.self.inside.commands.items (command_of c.args.no c.self.inside.commands.items) (sym look ∙ sym c.find.ensures ∙ c.in-None.is)) refl
