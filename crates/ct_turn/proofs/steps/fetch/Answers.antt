use Rattle.std.proofs.Common.{rules, sym, ap, ◌∙◌, ◌∷◌}
use Rattle.atomic_table.specs.Table.{rest}
use Rattle.ct_turn.specs.declared.view.Slot.TheVariants.{Home}
use Rattle.ct_turn.proofs.Turning.{fetches_any}
use Rattle.ct_turn.proofs.steps.fetch.Goals as goal

pub load-length-requires : goal.load-length-requires
load-length-requires g c = (search rules, search rules, fetches_any _ _ _ _ _ g.M.Machine.opening g.M.Machine.journal _ _ _ c.requires.turned.0)

pub exchange-requires : goal.exchange-requires
exchange-requires g c = let has = ap (λ m. m.1) c.load-length.ensures.2.1 in (search rules, (Home c.load-length.ensures.2.0, has ∙ (λ i. (0, Home c.load-length.ensures.2.0) ∷ sym (ap rest has) i)))
