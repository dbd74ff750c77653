use Rattle.std.proofs.Common.{ℕ, List}
use Rattle.ct_exec.proofs.Instants.{done_at_once}
use Rattle.ct_exec.proofs.at_once.instant.Goals as goal

pub returns : goal.returns
returns c =
    λ (disk : List (List ℕ)) size.
    rw (c.moved_reply.ensures, c.change-cleared.ensures.changed, c.change-cleared.ensures.cleared, c.push_data.ensures, c.requires.empty)
    (done_at_once c.args.c.now c.args.command.now c.args.blocks disk c.requires.unrefused c.requires.unplanned size)
