use Rattle.std.proofs.Common.{◌≡◌}
use Rattle.ct_turn.specs.Steps.{IsSame}
use Rattle.ct_turn.proofs.steps.take.Given as goal

abbrev pub invariant-loop : goal.invariant-loop
invariant-loop g l = IsSame l.initial.token l.token × (l.token.me ≡ l.initial.token.me)
