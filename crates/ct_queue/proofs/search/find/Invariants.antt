use Rattle.std.proofs.Common.{◌≡◌, drop}
use Rattle.std.specs.List.{find}
use Rattle.ct_queue.specs.KnownCommands.{has_number}
use Rattle.ct_queue.proofs.search.find.Given as goal

abbrev pub invariant-loop-command : goal.invariant-loop-command
invariant-loop-command l = find (has_number l.no) (drop l.command-index l.known) ≡ find (has_number l.no) l.known
