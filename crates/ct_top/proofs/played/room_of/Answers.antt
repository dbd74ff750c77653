use Rattle.std.proofs.Common.{arith}
use Rattle.ct_top.proofs.Ranges.{are_few}
use Rattle.ct_top.proofs.played.room_of.Goals as goal

pub loop-line-init : goal.loop-line-init
loop-line-init c =
    record { commands = omega arith; functions = omega arith; pieces = omega arith; few = are_few c.args.blocks c.args.lines.now c.requires.within c.requires.declared }
