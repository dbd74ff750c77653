use Rattle.std.proofs.Common.{rules, ◌≡◌, [], ◌∷◌}
use Rattle.ct_turn.specs.declared.view.Slot.TheVariants.{Home}
use Rattle.ct_turn.proofs.Turning.{opens}
use Rattle.ct_turn.proofs.turn.Turn.open.Goals as goal

pub new-requires : goal.new-requires
new-requires g c = let is = c.of-about.ensures in let none_made : g.M.Machine.journal c.args.machine ≡ [] = search rules in
    let items : c.push_reserved.new.self.items ≡ Home c.args.machine ∷ [] = search rules in
    rw (items, is) (g.M.Machine.opening c.args.machine, opens g.M.Machine.opening g.M.Machine.journal c.args.machine none_made)
