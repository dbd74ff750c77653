-- What answers a command that comes for a number under which its initiator sees no logical unit (SPC-4, incorrect
-- logical unit number).
use Rattle.std.specs.Prelude.{ℕ, List, [], ◌∷◌, drop, false, Option, None, Some, Result, Ok, Err}
use Rattle.ct_cdb.specs.declared.choices.InquiryPage.{InquiryPage}
use Rattle.ct_cdb.specs.declared.choices.InquiryPage.TheVariants as page
use Rattle.ct_cdb.specs.declared.op.Op.{Op}
use Rattle.ct_cdb.specs.declared.op.Op.TheVariants as op
use Rattle.ct_cdb.specs.declared.op.Cdb.{Cdb}
use Rattle.ct_cdb.specs.declared.op.CdbFault.{CdbFault}
use Rattle.ct_cdb.specs.Forms.{cdb_of}
use Rattle.ct_sense.specs.declared.code.TheConstants.{LOGICAL_UNIT_NOT_SUPPORTED}
use Rattle.ct_sense.specs.declared.reply.Reply.{Reply}
use Rattle.ct_sense.specs.declared.reply.Status.TheVariants as status
use Rattle.ct_sense.specs.declared.sense.Sense.{Sense}
use Rattle.ct_sense.specs.Codes.{sense_of}
use Rattle.ct_sense.specs.Forms.{bytes_of_sense}
use Rattle.ct_inq.specs.Allocation.{cut}
use Rattle.ct_inq.specs.Inquiries.{standard_inquiry}
use Rattle.ct_inq.specs.Luns.{luns_data}

-- 25h/00h, LOGICAL UNIT NOT SUPPORTED
abbrev pub not_supported : Sense
not_supported = sense_of LOGICAL_UNIT_NOT_SUPPORTED None

-- the standard data of no logical unit: in byte 0 PERIPHERAL QUALIFIER is 011b and PERIPHERAL DEVICE TYPE 1Fh
unfoldable pub absent_inquiry : List ℕ
absent_inquiry = 0x7f ∷ drop 1 standard_inquiry

-- INQUIRY for a page of vital product data isn't answered with data
abbrev pub absent_page : InquiryPage → ℕ → Option (List ℕ)
absent_page page.Standard allocation = Some (cut allocation absent_inquiry)
absent_page page.SupportedPages allocation = None
absent_page page.UnitSerialNumber allocation = None
absent_page page.DeviceIdentification allocation = None
absent_page page.BlockLimits allocation = None
absent_page page.LogicalBlockProvisioning allocation = None

-- the data of the commands that are answered with data
abbrev pub direct_data : ℕ → Op → Option (List ℕ)
direct_data visible (op.Inquiry page allocation) = absent_page page allocation
direct_data visible (op.ReportLuns select allocation) = Some (luns_data select allocation visible)
direct_data visible (op.RequestSense descriptor allocation) = Some (cut allocation (bytes_of_sense not_supported descriptor))
direct_data visible _ = None

abbrev pub decoded_direct : ℕ → Result Cdb CdbFault → Option (List ℕ)
decoded_direct visible (Ok cdb) = direct_data visible cdb.op
decoded_direct visible (Err fault) = None

-- GOOD with data, or CHECK CONDITION with sense data in the fixed form
abbrev pub replied : Option (List ℕ) → Reply
replied (Some bytes) = record { status = status.Good; sense = None; descriptor = false; body = bytes }
replied None = record { status = status.CheckCondition; sense = Some not_supported; descriptor = false; body = [] }

-- the answer to a command; the numbers that its initiator sees are a set of bits
unfoldable pub direct_reply : ℕ → List ℕ → Reply
direct_reply visible cdb = replied (decoded_direct visible (cdb_of cdb))
