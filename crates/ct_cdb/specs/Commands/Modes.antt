-- Commands about how a logical unit works (SPC-4, mode pages; SBC-3, START STOP UNIT).
use Rattle.std.specs.Prelude.{ℕ, ◌+◌, Bool, true, false, min}
use Rattle.ct_cdb.specs.declared.op.Form.{Form}
use Rattle.ct_cdb.specs.declared.op.Form.TheVariants.{Six, Ten, Twelve, Sixteen}
use Rattle.ct_cdb.specs.declared.op.SerIdx.TheVariants.{MSn, MSl, Sta}
use Rattle.ct_cdb.specs.declared.choices.ModePage.{ModePage}
use Rattle.ct_cdb.specs.declared.choices.ModePage.TheVariants as mode
use Rattle.ct_cdb.specs.declared.profile.Profile.{Profile}
use Rattle.ct_cdb.specs.declared.profile.Class.TheVariants.{Reading, Writing}
use Rattle.ct_cdb.specs.Commands.Still.{still}

-- START STOP UNIT
abbrev pub start_stop_unit : Profile
start_stop_unit = still Sta Writing

-- MODE SELECT
abbrev pub mode_select : ℕ → Profile
mode_select list = record (still MSl Writing) { data_out = list }

-- MODE SENSE: the bytes of the mode parameter header, of the block descriptor and of the pages
abbrev pub header_length : Form → ℕ
header_length Six = 4
header_length Ten = 8
header_length Twelve = 8
header_length Sixteen = 8

abbrev pub descriptor_length : Bool → ℕ
descriptor_length true = 0
descriptor_length false = 8

abbrev pub mode_length : ModePage → ℕ
mode_length mode.Caching = 20
mode_length mode.Control = 12
mode_length mode.All = 32
mode_length mode.AllAndSubpages = 32

abbrev pub mode_sense : Form → Bool → ModePage → ℕ → Profile
mode_sense form no_descriptor page allocation =
    record (still MSn Reading) {
      data_in =
          min allocation (header_length form + descriptor_length no_descriptor + mode_length page);
    }
