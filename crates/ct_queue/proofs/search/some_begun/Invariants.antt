use Rattle.std.proofs.Common.{◌≡◌, drop}
use Rattle.std.specs.List.{list_any}
use Rattle.ct_matrix.specs.declared.held.HeldCommand.{HeldCommand}
use Rattle.ct_queue.proofs.search.some_begun.Given as goal

abbrev pub invariant-loop-at : goal.invariant-loop-at
invariant-loop-at l =
    list_any (λ (command : HeldCommand). command.held.begun) (drop l.at l.commands.items)
    ≡ list_any (λ (command : HeldCommand). command.held.begun) l.commands.items
