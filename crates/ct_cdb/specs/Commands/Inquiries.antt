-- Commands by which a host finds a disk (SPC-4, clause 6; SBC-3, READ CAPACITY).
use Rattle.std.specs.Prelude.{ℕ, ◌+◌, ◌*◌, Bool, true, false, min}
use Rattle.ct_word.specs.declared.limit.TheConstants.{MOST_LUNS}
use Rattle.ct_cdb.specs.declared.op.SerIdx.TheVariants.{Tur, Inq, RqS, Cap}
use Rattle.ct_cdb.specs.declared.choices.InquiryPage.{InquiryPage}
use Rattle.ct_cdb.specs.declared.choices.InquiryPage.TheVariants as page
use Rattle.ct_cdb.specs.declared.choices.LunSelection.{LunSelection}
use Rattle.ct_cdb.specs.declared.choices.LunSelection.TheVariants as select
use Rattle.ct_cdb.specs.declared.profile.Profile.{Profile}
use Rattle.ct_cdb.specs.declared.profile.Class.TheVariants.{Always}
use Rattle.ct_cdb.specs.Commands.Still.{still}

-- TEST UNIT READY
abbrev pub test_unit_ready : Profile
test_unit_ready = record (still Tur Always) { needs_started = true }

-- REQUEST SENSE: the bytes of sense data in the descriptor form, or in the fixed one
abbrev pub sense_length : Bool → ℕ
sense_length true = 8
sense_length false = 18

abbrev pub request_sense : Bool → ℕ → Profile
request_sense descriptor allocation =
    record (still RqS Always) { reports_attention = false; data_in = min allocation (sense_length descriptor) }

-- INQUIRY: the bytes of each page
abbrev pub page_length : InquiryPage → ℕ
page_length page.Standard = 36
page_length page.SupportedPages = 9
page_length page.UnitSerialNumber = 20
page_length page.DeviceIdentification = 32
page_length page.BlockLimits = 64
page_length page.LogicalBlockProvisioning = 8

abbrev pub inquiry : InquiryPage → ℕ → Profile
inquiry page allocation =
    record (still Inq Always) { reports_attention = false; data_in = min allocation (page_length page) }

-- REPORT LUNS: 8 bytes, and 8 for each number that can be listed
abbrev pub luns_length : LunSelection → ℕ
luns_length select.Addressed = 8 + 8 * MOST_LUNS
luns_length select.WellKnown = 8
luns_length select.All = 8 + 8 * MOST_LUNS

abbrev pub report_luns : LunSelection → ℕ → Profile
report_luns select allocation =
    record (still Inq Always) { reports_attention = false; data_in = min allocation (luns_length select) }

-- READ CAPACITY (10), and (16)
abbrev pub read_capacity_10 : Profile
read_capacity_10 = record (still Cap Always) { data_in = 8 }

abbrev pub read_capacity_16 : ℕ → Profile
read_capacity_16 allocation = record (still Cap Always) { data_in = min allocation 32 }
