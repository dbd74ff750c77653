use Rattle.std.proofs.Common.{ℕ, ◌==◌, sym, ap, ◌∙◌}
use Rattle.ct_shelf.proofs.Steps.{shown-length}
use Rattle.ct_shelf.proofs.shelf.Shelf.is_empty.Goals as goal

pub returns : goal.returns
returns g c = rw (← c.self.view_is) (c.is_empty.ensures ∙ ap (λ (n : ℕ). n == 0) (sym (shown-length c.self.inside.slots c.self.inside.order c.self.invariant)))
