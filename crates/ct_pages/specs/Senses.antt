-- What MODE SENSE returns (SPC-4, MODE SENSE and 7.5, mode parameters): a header, a block descriptor unless DBD is 1,
-- and pages in rising order.
use Rattle.std.specs.Prelude.{ℕ, ◌+◌, List, [], ◌∷◌, ◌++◌, length, take, Bool, true, false}
use Rattle.ct_word.specs.Fields.{bytes_of}
use Rattle.ct_word.specs.declared.limit.TheConstants.{BLOCK_SIZE}
use Rattle.ct_cdb.specs.declared.op.Form.{Form}
use Rattle.ct_cdb.specs.declared.op.Form.TheVariants.{Six, Ten, Twelve, Sixteen}
use Rattle.ct_cdb.specs.declared.choices.PageControl.{PageControl}
use Rattle.ct_cdb.specs.declared.choices.ModePage.{ModePage}
use Rattle.ct_cdb.specs.declared.choices.ModePage.TheVariants as mode
use Rattle.ct_pages.specs.declared.pages.ModePages.{ModePages}
use Rattle.ct_pages.specs.Pages.{values, flag, caching_page, control_page}

-- the pages that are asked for
abbrev pub pages_asked : ModePage → ModePages → List ℕ
pages_asked mode.Caching pages = caching_page pages
pages_asked mode.Control pages = control_page pages
pages_asked mode.All pages = caching_page pages ++ control_page pages
pages_asked mode.AllAndSubpages pages = caching_page pages ++ control_page pages

-- the block descriptor: NUMBER OF LOGICAL BLOCKS in four bytes, a reserved one, LOGICAL BLOCK LENGTH in three
abbrev pub block_descriptor : ℕ → List ℕ
block_descriptor blocks = bytes_of 4 blocks ++ 0x00 ∷ [] ++ bytes_of 3 BLOCK_SIZE

-- it is left out where DBD is 1
abbrev pub descriptor_of : Bool → ℕ → List ℕ
descriptor_of true blocks = []
descriptor_of false blocks = block_descriptor blocks

-- the device-specific parameter: WP, bit 7, and DPOFUA, bit 4: DPO and FUA are accepted (SBC-3, 6.4). WP is the current
-- SWP, whatever values are asked for
abbrev pub device_parameter : ModePages → ℕ
device_parameter pages = 0x10 + flag pages.protect 0x80

-- the header of the short form and of the long one, where so many bytes of block descriptors and so many in all follow:
-- MODE DATA LENGTH, the bytes that follow it, in one byte or in two; MEDIUM TYPE; the device-specific parameter; in the
-- long header LONGLBA and a reserved byte; BLOCK DESCRIPTOR LENGTH
abbrev pub short_header : ℕ → ℕ → ℕ → List ℕ
short_header device descriptor following = (3 + following) ∷ 0x00 ∷ device ∷ descriptor ∷ []

abbrev pub long_header : ℕ → ℕ → ℕ → List ℕ
long_header device descriptor following =
    bytes_of 2 (6 + following) ++ 0x00 ∷ device ∷ 0x00 ∷ 0x00 ∷ [] ++ bytes_of 2 descriptor

abbrev pub header : Form → ℕ → ℕ → ℕ → List ℕ
header Six device descriptor following = short_header device descriptor following
header Ten device descriptor following = long_header device descriptor following
header Twelve device descriptor following = long_header device descriptor following
header Sixteen device descriptor following = long_header device descriptor following

abbrev pub headed : Form → ℕ → List ℕ → List ℕ → List ℕ
headed form device descriptor pages =
    header form device (length descriptor) (length descriptor + length pages) ++ descriptor ++ pages

-- all that MODE SENSE has to say of a logical unit with so many blocks, by its form, DBD, PC and PAGE CODE
unfoldable pub whole_mode_data : ModePages → ℕ → Form → Bool → PageControl → ModePage → List ℕ
whole_mode_data pages blocks form no_descriptor control page =
    headed form (device_parameter pages) (descriptor_of no_descriptor blocks) (pages_asked page (values control pages))

-- the data-in: cut to ALLOCATION LENGTH; no field changes by that
unfoldable pub mode_data : ModePages → ℕ → Form → Bool → PageControl → ModePage → ℕ → List ℕ
mode_data pages blocks form no_descriptor control page allocation =
    take allocation (whole_mode_data pages blocks form no_descriptor control page)
