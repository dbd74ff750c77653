-- Commands about how a logical unit works (SPC-4, mode pages; SBC-3, START STOP UNIT).
use Rattle.std.specs.Prelude.{List, [], ◌∷◌, ℕ, ◌/◌, ◌%◌, ◌==◌, ◌&&◌, ◌||◌, slice_index, unwrap_or}
use Rattle.ct_word.specs.Fields.{number_at}
use Rattle.ct_cdb.specs.declared.op.Op.{Op}
use Rattle.ct_cdb.specs.declared.op.Op.TheVariants.{ModeSelect, ModeSense, StartStopUnit}
use Rattle.ct_cdb.specs.declared.op.Form.{Form}
use Rattle.ct_cdb.specs.declared.op.Form.TheVariants.{Six, Ten}
use Rattle.ct_cdb.specs.declared.choices.ModePage.TheVariants as mode
use Rattle.ct_cdb.specs.declared.row.Row.{Row}
use Rattle.ct_cdb.specs.Fields.{field, choice_field, bit_at}
use Rattle.ct_cdb.specs.Choices.{page_control, whole_page, asks_subpages, mode_page}

-- MODE SELECT, whose SP is 0: PARAMETER LIST LENGTH
abbrev pub mode_select : ℕ → List ℕ → Op → Row
mode_select size bytes op =
    record { size = size; refusable = field 1 (slice_index bytes 1 % 2 == 0) ∷ []; op = op }

abbrev pub mode_select_6 : List ℕ → Row
mode_select_6 bytes = mode_select 6 bytes (ModeSelect Six (slice_index bytes 4))

abbrev pub mode_select_10 : List ℕ → Row
mode_select_10 bytes = mode_select 10 bytes (ModeSelect Ten (number_at 2 7 bytes))

-- MODE SENSE: DBD, PC and PAGE CODE, SUBPAGE CODE, ALLOCATION LENGTH
abbrev pub mode_sense : ℕ → Form → ℕ → List ℕ → Row
mode_sense size form allocation bytes =
    let code : ℕ = slice_index bytes 2 % 64 in
    let subcode : ℕ = slice_index bytes 3 in
    record {
      size = size;
      refusable =
          choice_field 2 (whole_page code) ∷ field 3 ((subcode == 0) || asks_subpages code subcode) ∷ [];
      op = ModeSense form (bit_at 1 8 bytes) (page_control (slice_index bytes 2 / 64))
          (unwrap_or (mode_page code subcode) mode.All) allocation;
    }

abbrev pub mode_sense_6 : List ℕ → Row
mode_sense_6 bytes = mode_sense 6 Six (slice_index bytes 4) bytes

abbrev pub mode_sense_10 : List ℕ → Row
mode_sense_10 bytes = mode_sense 10 Ten (number_at 2 7 bytes) bytes

-- START STOP UNIT: START; POWER CONDITION and LOEJ are 0
abbrev pub start_stop_unit : List ℕ → Row
start_stop_unit bytes = record {
  size = 6;
  refusable = field 4 ((slice_index bytes 4 / 16 == 0) && (slice_index bytes 4 / 2 % 2 == 0)) ∷ [];
  op = StartStopUnit (bit_at 4 1 bytes);
}
