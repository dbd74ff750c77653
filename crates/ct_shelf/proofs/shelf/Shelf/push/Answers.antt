use Rattle.std.proofs.Common.{◌-◌, List, ap}
use Rattle.std.proofs.lemmas.List.Edits.{insert_end}
use Rattle.ct_shelf.proofs.shelf.Shelf.push.Goals as goal

pub returns : goal.returns
returns g c =
    rw (c.insert.ensures, c.len-last.ensures)
    (ap (λ (items : List g.row.T.Denot). record { items = items; room = c.args.self.now.room - 1 }) (insert_end c.args.self.now.items c.args.item))
