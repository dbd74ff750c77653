-- Commands that decode and aren't built yet.
use Rattle.std.specs.Prelude.{Bool, true, false}
use Rattle.ct_cdb.specs.declared.op.Op.{Op}
use Rattle.ct_cdb.specs.declared.op.Op.TheVariants as op

-- whether a command is built; one that isn't ends as one does whose operation code is unknown (SPC-4, INVALID COMMAND
-- OPERATION CODE)
abbrev pub is_built : Op → Bool
is_built op.TestUnitReady = true
is_built (op.RequestSense descriptor allocation) = true
is_built (op.Inquiry page allocation) = true
is_built (op.ReportLuns select allocation) = true
is_built op.ReadCapacity10 = true
is_built (op.ReadCapacity16 allocation) = true
is_built (op.Read form lba count) = true
is_built (op.Write form lba count) = true
is_built (op.WriteAndVerify form lba count) = true
is_built (op.Verify form compare lba count) = true
is_built (op.CompareAndWrite lba count) = true
is_built (op.WriteSame form unmap lba count) = true
is_built (op.Unmap list) = true
is_built (op.SynchronizeCache form lba count) = true
is_built (op.StartStopUnit start) = true
is_built (op.ModeSelect form list) = true
is_built (op.ModeSense form no_descriptor control page allocation) = true
is_built (op.PersistentReserveIn action allocation) = true
is_built (op.PersistentReserveOut action list) = true
