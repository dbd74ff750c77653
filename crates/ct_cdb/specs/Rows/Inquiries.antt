-- Commands by which a host finds a disk (SPC-4, clause 6; SBC-3, READ CAPACITY).
use Rattle.std.specs.Prelude.{List, [], ◌∷◌, ℕ, ◌%◌, ◌==◌, slice_index, Option, unwrap_or}
use Rattle.ct_word.specs.Fields.{number_at}
use Rattle.ct_cdb.specs.declared.op.Op.TheVariants.{TestUnitReady, RequestSense, Inquiry, ReportLuns}
use Rattle.ct_cdb.specs.declared.op.Op.TheVariants.{ReadCapacity10, ReadCapacity16}
use Rattle.ct_cdb.specs.declared.choices.InquiryPage.{InquiryPage}
use Rattle.ct_cdb.specs.declared.choices.InquiryPage.TheVariants as page
use Rattle.ct_cdb.specs.declared.choices.LunSelection.{LunSelection}
use Rattle.ct_cdb.specs.declared.choices.LunSelection.TheVariants as select
use Rattle.ct_cdb.specs.declared.row.Row.{Row}
use Rattle.ct_cdb.specs.Fields.{field, choice_field, bit_at}
use Rattle.ct_cdb.specs.Choices.{inquiry_page, lun_selection}

-- TEST UNIT READY
abbrev pub test_unit_ready : Row
test_unit_ready = record { size = 6; refusable = []; op = TestUnitReady }

-- REQUEST SENSE: DESC, ALLOCATION LENGTH
abbrev pub request_sense : List ℕ → Row
request_sense bytes =
    record { size = 6; refusable = []; op = RequestSense (bit_at 1 1 bytes) (slice_index bytes 4) }

-- INQUIRY: EVPD, PAGE CODE, ALLOCATION LENGTH
abbrev pub inquiry : List ℕ → Row
inquiry bytes =
    let asked : Option InquiryPage = inquiry_page (bit_at 1 1 bytes) (slice_index bytes 2) in
    record {
      size = 6;
      refusable = choice_field 2 asked ∷ [];
      op = Inquiry (unwrap_or asked page.Standard) (number_at 2 3 bytes);
    }

-- REPORT LUNS: SELECT REPORT, ALLOCATION LENGTH
abbrev pub report_luns : List ℕ → Row
report_luns bytes =
    let asked : Option LunSelection = lun_selection (slice_index bytes 2) in
    record {
      size = 12;
      refusable = choice_field 2 asked ∷ [];
      op = ReportLuns (unwrap_or asked select.Addressed) (number_at 4 6 bytes);
    }

-- READ CAPACITY (10)
abbrev pub read_capacity_10 : Row
read_capacity_10 = record { size = 10; refusable = []; op = ReadCapacity10 }

-- READ CAPACITY (16), SERVICE ACTION IN (16) with service action 10h: ALLOCATION LENGTH
abbrev pub read_capacity_16 : List ℕ → Row
read_capacity_16 bytes = record {
  size = 16;
  refusable = field 1 (slice_index bytes 1 % 32 == 0x10) ∷ [];
  op = ReadCapacity16 (number_at 4 10 bytes);
}
