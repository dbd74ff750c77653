use Rattle.std.proofs.Common.{◌≡◌, None, option_map, sym, ap, ◌∙◌}
use Rattle.std.specs.List.{find}
use Rattle.ct_matrix.specs.Queues.{command_of}
use Rattle.ct_queue.specs.KnownCommands.{has_number, known_in}
use Rattle.ct_queue.proofs.Known.{held_kept, blocker_alike, absent_alike, absent_waits}
use Rattle.ct_queue.proofs.queue.QueueWaits.blocker.Goals as goal

pub returns : goal.returns
returns c =
    let look : find (has_number c.args.no) c.as_slice.result.now ≡ option_map (known_in c.self.inside.unrestricted c.self.inside.commands.items) (command_of c.args.no c.self.inside.commands.items) =
    ap (find (has_number c.args.no)) (c.as_slice.ensures ∙ c.self.invariant.1.items) ∙ held_kept c.self.inside.unrestricted c.args.no c.self.inside.commands.items c.self.inside.commands.items in
    rw (← c.self.view_is)
    (blocker_alike (record { commands = c.self.inside.commands.items; depth = c.self.inside.depth; unrestricted = c.self.inside.unrestricted }) (command_of c.args.no c.self.inside.commands.items) c.in_ok-find.field-0
    (sym look ∙ sym c.in_ok-find.ensures) (rw (← c.self.view_is) at c.requires))

pub returns-in_err-find : goal.returns-in_err-find
returns-in_err-find c =
    let look : find (has_number c.args.no) c.as_slice.result.now ≡ option_map (known_in c.self.inside.unrestricted c.self.inside.commands.items) (command_of c.args.no c.self.inside.commands.items) =
    ap (find (has_number c.args.no)) (c.as_slice.ensures ∙ c.self.invariant.1.items) ∙ held_kept c.self.inside.unrestricted c.args.no c.self.inside.commands.items c.self.inside.commands.items in
    let absent : command_of c.args.no c.self.inside.commands.items ≡ None =
    absent_alike c.self.inside.unrestricted c.self.inside.commands.items (command_of c.args.no c.self.inside.commands.items) (sym look ∙ sym c.find.ensures ∙ c.in_err-find.was) in
    absurd (absent_waits (command_of c.args.no c.self.inside.commands.items) absent (rw (← c.self.view_is) at c.requires))
