use Rattle.std.proofs.Common.{◌≡◌, drop}
use Rattle.std.specs.List.{find}
use Rattle.ct_queue.specs.KnownCommands.{has_begun_in}
use Rattle.ct_queue.proofs.search.begun.Given as goal

abbrev pub invariant-loop-command : goal.invariant-loop-command
invariant-loop-command l = find has_begun_in (drop l.command-index l.known) ≡ find has_begun_in l.known
