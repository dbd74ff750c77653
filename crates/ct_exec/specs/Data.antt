-- The data that a command returns of the logical unit itself, and not of its blocks.
use Rattle.std.specs.Prelude.{ℕ, List, [], Option, None, Some, Result, Ok, Err, Bool}
use Rattle.ct_word.specs.declared.names.Code.{Code}
use Rattle.ct_word.specs.declared.names.Nexus.{Nexus}
use Rattle.ct_cdb.specs.declared.op.Op.{Op}
use Rattle.ct_cdb.specs.declared.op.Op.TheVariants as op
use Rattle.ct_cdb.specs.declared.op.Cdb.{Cdb}
use Rattle.ct_cdb.specs.declared.op.CdbFault.{CdbFault}
use Rattle.ct_cdb.specs.Forms.{cdb_of}
use Rattle.ct_inq.specs.Allocation.{cut}
use Rattle.ct_inq.specs.Inquiries.{inquiry_data}
use Rattle.ct_inq.specs.Capacities.{capacity_10_data, capacity_16_data}
use Rattle.ct_inq.specs.Luns.{luns_data}
use Rattle.ct_sense.specs.declared.code.TheConstants.{NO_ADDITIONAL_SENSE_INFORMATION}
use Rattle.ct_sense.specs.declared.sense.SenseCode.{SenseCode}
use Rattle.ct_sense.specs.Codes.{sense_of}
use Rattle.ct_sense.specs.Forms.{bytes_of_sense}
use Rattle.ct_pages.specs.Senses.{mode_data}
use Rattle.ct_resv.specs.Reports.{reserve_in_data}
use Rattle.ct_ua.specs.CodeSets.{sense_code_of}
use Rattle.ct_ua.specs.Attentions.{first_code}
use Rattle.ct_book.specs.declared.work.Command.{Command}
use Rattle.ct_exec.specs.Controls.{ControlState}

-- what is told by sense data: the unit attention of a nexus, or NO SENSE (SPC-4, REQUEST SENSE)
abbrev pub told_of : Option Code → SenseCode
told_of (Some condition) = sense_code_of condition
told_of None = NO_ADDITIONAL_SENSE_INFORMATION

-- what REQUEST SENSE returns, in the form that it asks for
abbrev pub sense_data : Option Code → Bool → ℕ → List ℕ
sense_data condition descriptor allocation =
    cut allocation (bytes_of_sense (sense_of (told_of condition) None) descriptor)

-- the data of a command of a nexus, on a disk of so many blocks; the nexus sees these logical unit numbers
abbrev pub data_by : ControlState → ℕ → Nexus → ℕ → Op → List ℕ
data_by control blocks nexus visible (op.RequestSense descriptor allocation) =
    sense_data (first_code control.attentions nexus) descriptor allocation
data_by control blocks nexus visible (op.Inquiry page allocation) = inquiry_data page allocation control.lun.0
data_by control blocks nexus visible (op.ReportLuns select allocation) = luns_data select allocation visible
data_by control blocks nexus visible op.ReadCapacity10 = capacity_10_data blocks
data_by control blocks nexus visible (op.ReadCapacity16 allocation) = capacity_16_data blocks allocation
data_by control blocks nexus visible (op.ModeSense form no_descriptor values page allocation) =
    mode_data control.pages blocks form no_descriptor values page allocation
data_by control blocks nexus visible (op.PersistentReserveIn asked allocation) =
    reserve_in_data control.reservations asked allocation
data_by control blocks nexus visible _ = []

abbrev pub decoded_data : ControlState → ℕ → Nexus → ℕ → Result Cdb CdbFault → List ℕ
decoded_data control blocks nexus visible (Ok cdb) = data_by control blocks nexus visible cdb.op
decoded_data control blocks nexus visible (Err fault) = []

unfoldable pub data_of_unit : ControlState → ℕ → Command → List ℕ
data_of_unit control blocks command =
    decoded_data control blocks command.nexus command.visible (cdb_of command.cdb)
