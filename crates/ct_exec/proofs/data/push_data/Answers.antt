use Rattle.std.proofs.Common.{sym, ◌∙◌}
use Rattle.ct_exec.proofs.UnitData.{row_has_room}
use Rattle.ct_exec.proofs.data.push_data.Goals as goal

pub push_data_by-requires : goal.push_data_by-requires
push_data_by-requires c =
    row_has_room c.args.command.now.cdb c.in-Ok.cdb c.args.into.now.room (sym c.decoded.ensures ∙ c.in-Ok.is) c.requires
