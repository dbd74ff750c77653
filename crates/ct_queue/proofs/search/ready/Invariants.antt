use Rattle.std.proofs.Common.{◌≡◌, drop}
use Rattle.std.specs.List.{find}
use Rattle.ct_queue.specs.KnownCommands.{is_ready_in}
use Rattle.ct_queue.proofs.search.ready.Given as goal

abbrev pub invariant-loop-command : goal.invariant-loop-command
invariant-loop-command l = find is_ready_in (drop l.command-index l.known) ≡ find is_ready_in l.known
