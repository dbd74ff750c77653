-- What a command changes of a disk but its blocks.
use Rattle.std.specs.Prelude.{ℕ, List, Bool, Result, Ok, Err}
use Rattle.ct_word.specs.Nexuses.{no_nexuses}
use Rattle.ct_word.specs.declared.names.Nexus.{Nexus}
use Rattle.ct_cdb.specs.declared.op.Op.{Op}
use Rattle.ct_cdb.specs.declared.op.Op.TheVariants as op
use Rattle.ct_cdb.specs.declared.op.Cdb.{Cdb}
use Rattle.ct_cdb.specs.declared.op.CdbFault.{CdbFault}
use Rattle.ct_cdb.specs.Forms.{cdb_of}
use Rattle.ct_ua.specs.Attentions.{after_take}
use Rattle.ct_book.specs.declared.work.Command.{Command}
use Rattle.ct_exec.specs.Controls.{ControlState}
use Rattle.ct_exec.specs.Reserving.{reserve_list, after_reserve_out, cleared_by_action}
use Rattle.ct_exec.specs.Modes.{mode_list, after_list}

-- the first unit attention of a nexus is taken, if it has one (SAM-5, 5.14)
abbrev pub attention_taken : ControlState → Nexus → ControlState
attention_taken control nexus = record control { attentions = after_take control.attentions nexus }

-- what a command of a nexus changes, by its data-out
abbrev pub changed_by : ControlState → Nexus → List ℕ → Op → ControlState
changed_by control nexus out (op.RequestSense descriptor allocation) = attention_taken control nexus
changed_by control nexus out (op.StartStopUnit start) = record control { is_started = start }
changed_by control nexus out (op.ModeSelect form list) = after_list control nexus (mode_list form list out)
changed_by control nexus out (op.PersistentReserveOut asked size) =
    after_reserve_out control nexus asked (reserve_list size out)
changed_by control nexus out _ = control

abbrev pub decoded_change : ControlState → Nexus → List ℕ → Result Cdb CdbFault → ControlState
decoded_change control nexus out (Ok cdb) = changed_by control nexus out cdb.op
decoded_change control nexus out (Err fault) = control

-- the control after a command that nothing refuses
unfoldable pub changed_control : ControlState → Command → ControlState
changed_control control command = decoded_change control command.nexus command.out (cdb_of command.cdb)

-- the nexuses whose commands a command clears that nothing refuses (SPC-4, PREEMPT AND ABORT)
abbrev pub cleared_by_op : ControlState → Nexus → List ℕ → Op → List Bool
cleared_by_op control nexus out (op.PersistentReserveOut asked size) =
    cleared_by_action control.reservations nexus asked (reserve_list size out)
cleared_by_op control nexus out _ = no_nexuses

abbrev pub decoded_cleared : ControlState → Nexus → List ℕ → Result Cdb CdbFault → List Bool
decoded_cleared control nexus out (Ok cdb) = cleared_by_op control nexus out cdb.op
decoded_cleared control nexus out (Err fault) = no_nexuses

unfoldable pub cleared_by : ControlState → Command → List Bool
cleared_by control command = decoded_cleared control command.nexus command.out (cdb_of command.cdb)
