-- Mode pages (SPC-4, 7.5, and SBC-3, 6.4): the fields that the target has, and their bytes. All other fields are 0.
use Rattle.std.specs.Prelude.{ℕ, List, [], ◌∷◌, ◌++◌, replicate, Bool, true, false, if◌then◌else◌}
use Rattle.ct_cdb.specs.declared.choices.PageControl.{PageControl}
use Rattle.ct_cdb.specs.declared.choices.PageControl.TheVariants as control
use Rattle.ct_pages.specs.declared.pages.ModePages.{ModePages}

-- the default values: the write cache is on
abbrev pub default_pages : ModePages
default_pages = record { descriptor = false; free_order = false; protect = false; tas = false; cache = true }

-- the changeable fields, each of one bit, all of its bits set. Of the four bits of QUEUE ALGORITHM MODIFIER the lowest is
-- changeable: its values are 0h and 1h
abbrev pub changeable_pages : ModePages
changeable_pages = record { descriptor = true; free_order = true; protect = true; tas = true; cache = true }

-- the values that PC asks for. There are no saved values: a command that asks for them is refused, and where it isn't
-- they are the default ones
abbrev pub values : PageControl → ModePages → ModePages
values control.Current pages = pages
values control.Changeable pages = changeable_pages
values control.Default pages = default_pages
values control.Saved pages = default_pages

-- a flag in its byte
abbrev pub flag : Bool → ℕ → ℕ
flag is_set weight = if is_set then weight else 0

-- Caching (SBC-3, 6.4), PAGE CODE 08h, 20 bytes
abbrev pub caching_page : ModePages → List ℕ
caching_page pages =
    0x08  -- PAGE CODE
    ∷ 0x12  -- PAGE LENGTH
    ∷ flag pages.cache 0x04  -- WCE: the write cache is enabled
    ∷ []
    ++ replicate 17 0

-- Control (SPC-4, 7.5), PAGE CODE 0Ah, 12 bytes
abbrev pub control_page : ModePages → List ℕ
control_page pages =
    0x0a  -- PAGE CODE
    ∷ 0x0a  -- PAGE LENGTH
    ∷ flag pages.descriptor 0x04  -- TST 000b: one task set; D_SENSE: sense data have the descriptor form
    ∷ flag pages.free_order 0x10  -- QUEUE ALGORITHM MODIFIER: 0h restricted reordering, 1h unrestricted
    ∷ flag pages.protect 0x08  -- SWP: software write protect
    ∷ flag pages.tas 0x40  -- TAS: a command that another nexus aborts ends with TASK ABORTED
    ∷ []
    ++ replicate 6 0
