use Rattle.std.proofs.Common.{rules, refl, sym, ap, ◌∙◌, ◌∷◌}
use Rattle.atomic_table.specs.Table.{rest}
use Rattle.ct_turn.specs.declared.view.Slot.TheVariants.{Home, Away}
use Rattle.ct_turn.proofs.Turning.{writes_any, gives_back_any, same_top}
use Rattle.ct_turn.proofs.steps.give_back.Goals as goal

pub compare_exchange_with-requires : goal.compare_exchange_with-requires
compare_exchange_with-requires g c = let is = c.of.ensures in (
  search rules,
  search rules,
  writes_any _ _ _ _ _ g.M.Machine.opening g.M.Machine.journal _ _ _ c.of.result c.args.act c.of-2.result _ _ c.requires.out.0 c.requires.out.2
      (rw is c.requires.machine.1) c.requires.machine.2 (rw is c.len-after.ensures),
)

pub exchange-requires : goal.exchange-requires
exchange-requires g c = let has = ap (λ m. m.1) (c.compare_exchange_with.ensures.2 _ _ _ refl) ∙ c.requires.out.1 in (search rules, (Away, has ∙ (λ i. (0, Away) ∷ sym (ap rest has) i)))

pub forget-requires-2 : goal.forget-requires-2
forget-requires-2 g c = let has = ap (λ m. m.1) (c.compare_exchange_with.ensures.2 _ _ _ refl) ∙ c.requires.out.1 in
    let away = same_top _ _ _ _ _ c.exchange.ensures.2 has in λ m e. cc

pub store-requires : goal.store-requires
store-requires g c = let wrote = c.compare_exchange_with.ensures.2 _ _ _ refl in let has = ap (λ m. m.1) wrote ∙ c.requires.out.1 in let now = c.exchange.ensures.3 in let is = c.of.ensures in (
  search rules,
  search rules,
  gives_back_any _ _ _ _ _ g.M.Machine.opening g.M.Machine.journal _ _ _ c.args.machine
      (ap (λ m. m.0.stage) now ∙ (ap (λ m. m.0.stage) wrote ∙ c.requires.out.0))
      (ap (λ m. m.1) now ∙ (λ i. (0, Home c.args.machine) ∷ ap rest has i))
      (ap (λ m. m.0.opening) now ∙ (ap (λ m. m.0.opening) wrote ∙ c.requires.machine.0))
      (sym (ap (λ m. m.0.seen) now ∙ (ap (λ m. m.0.seen) wrote ∙ ap g.M.Machine.journal is))),
)
