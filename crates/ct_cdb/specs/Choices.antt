-- The fields of a CDB that name one of a few things (SPC-4, SBC-3), each with its code.
use Rattle.std.specs.Prelude.{ℕ, List, [], ◌∷◌, Bool, true, false, ◌==◌, ◌&&◌, ◌||◌, if◌then◌else◌, Option, None, Some}
use Rattle.std.specs.Prelude.{unwrap_or}
use Rattle.ct_cdb.specs.declared.choices.InquiryPage.{InquiryPage}
use Rattle.ct_cdb.specs.declared.choices.InquiryPage.TheVariants as page
use Rattle.ct_cdb.specs.declared.choices.LunSelection.{LunSelection}
use Rattle.ct_cdb.specs.declared.choices.LunSelection.TheVariants as select
use Rattle.ct_cdb.specs.declared.choices.PageControl.{PageControl}
use Rattle.ct_cdb.specs.declared.choices.PageControl.TheVariants as control
use Rattle.ct_cdb.specs.declared.choices.ModePage.{ModePage}
use Rattle.ct_cdb.specs.declared.choices.ModePage.TheVariants as mode
use Rattle.ct_cdb.specs.declared.choices.ReserveIn.{ReserveIn}
use Rattle.ct_cdb.specs.declared.choices.ReserveIn.TheVariants as reserve_in
use Rattle.ct_cdb.specs.declared.choices.ReserveOut.{ReserveOut}
use Rattle.ct_cdb.specs.declared.choices.ReserveOut.TheVariants as reserve_out
use Rattle.ct_cdb.specs.declared.choices.ReservationType.{ReservationType}
use Rattle.ct_cdb.specs.declared.choices.ReservationType.TheVariants as kind

-- the first of some things that has this code
abbrev pub named : {T : Type 0} → (T → ℕ) → List T → ℕ → Option T
named code_of [] code = None
named code_of (first ∷ others) code = if code == code_of first then Some first else named code_of others code

-- PAGE CODE of INQUIRY, which is 0 where EVPD is 0
abbrev pub code_of_page : InquiryPage → ℕ
code_of_page page.Standard = 0x00
code_of_page page.SupportedPages = 0x00
code_of_page page.UnitSerialNumber = 0x80
code_of_page page.DeviceIdentification = 0x83
code_of_page page.BlockLimits = 0xb0
code_of_page page.LogicalBlockProvisioning = 0xb2

-- EVPD: a page of vital product data
abbrev pub is_vital : InquiryPage → Bool
is_vital page.Standard = false
is_vital page.SupportedPages = true
is_vital page.UnitSerialNumber = true
is_vital page.DeviceIdentification = true
is_vital page.BlockLimits = true
is_vital page.LogicalBlockProvisioning = true

abbrev pub vital_pages : List InquiryPage
vital_pages =
    page.SupportedPages ∷ page.UnitSerialNumber ∷ page.DeviceIdentification ∷ page.BlockLimits
    ∷ page.LogicalBlockProvisioning ∷ []

-- by EVPD and PAGE CODE
abbrev pub inquiry_page : Bool → ℕ → Option InquiryPage
inquiry_page true code = named code_of_page vital_pages code
inquiry_page false code = named code_of_page (page.Standard ∷ []) code

-- SELECT REPORT
abbrev pub code_of_selection : LunSelection → ℕ
code_of_selection select.Addressed = 0x00
code_of_selection select.WellKnown = 0x01
code_of_selection select.All = 0x02

abbrev pub lun_selection : ℕ → Option LunSelection
lun_selection code = named code_of_selection (select.Addressed ∷ select.WellKnown ∷ select.All ∷ []) code

-- PC
abbrev pub code_of_control : PageControl → ℕ
code_of_control control.Current = 0
code_of_control control.Changeable = 1
code_of_control control.Default = 2
code_of_control control.Saved = 3

abbrev pub page_control : ℕ → PageControl
page_control code =
    unwrap_or (named code_of_control (control.Current ∷ control.Changeable ∷ control.Default ∷ []) code) control.Saved

-- PAGE CODE of a mode page, and SUBPAGE CODE
abbrev pub code_of_mode : ModePage → ℕ
code_of_mode mode.Caching = 0x08
code_of_mode mode.Control = 0x0a
code_of_mode mode.All = 0x3f
code_of_mode mode.AllAndSubpages = 0x3f

abbrev pub subcode_of_mode : ModePage → ℕ
subcode_of_mode mode.Caching = 0x00
subcode_of_mode mode.Control = 0x00
subcode_of_mode mode.All = 0x00
subcode_of_mode mode.AllAndSubpages = 0xff

-- the page of a page code alone
abbrev pub whole_page : ℕ → Option ModePage
whole_page code = named code_of_mode (mode.Caching ∷ mode.Control ∷ mode.All ∷ []) code

-- all pages are asked for with their subpages
abbrev pub asks_subpages : ℕ → ℕ → Bool
asks_subpages code subcode = (code == 0x3f) && (subcode == 0xff)

abbrev pub mode_page : ℕ → ℕ → Option ModePage
mode_page code subcode = if asks_subpages code subcode then Some mode.AllAndSubpages else whole_page code

-- SERVICE ACTION of PERSISTENT RESERVE IN
abbrev pub code_of_reserve_in : ReserveIn → ℕ
code_of_reserve_in reserve_in.ReadKeys = 0x00
code_of_reserve_in reserve_in.ReadReservation = 0x01
code_of_reserve_in reserve_in.ReportCapabilities = 0x02
code_of_reserve_in reserve_in.ReadFullStatus = 0x03

abbrev pub reserve_in_of : ℕ → Option ReserveIn
reserve_in_of code =
    named code_of_reserve_in
    (reserve_in.ReadKeys ∷ reserve_in.ReadReservation ∷ reserve_in.ReportCapabilities ∷ reserve_in.ReadFullStatus ∷ [])
    code

-- SCOPE and TYPE of a persistent reservation; SCOPE, the high four bits, is 0, the logical unit
abbrev pub code_of_type : ReservationType → ℕ
code_of_type kind.WriteExclusive = 0x01
code_of_type kind.ExclusiveAccess = 0x03
code_of_type kind.WriteExclusiveRegistrantsOnly = 0x05
code_of_type kind.ExclusiveAccessRegistrantsOnly = 0x06
code_of_type kind.WriteExclusiveAllRegistrants = 0x07
code_of_type kind.ExclusiveAccessAllRegistrants = 0x08

abbrev pub reservation_type : ℕ → Option ReservationType
reservation_type code =
    named code_of_type
    (kind.WriteExclusive ∷ kind.ExclusiveAccess ∷ kind.WriteExclusiveRegistrantsOnly
    ∷ kind.ExclusiveAccessRegistrantsOnly ∷ kind.WriteExclusiveAllRegistrants
    ∷ kind.ExclusiveAccessAllRegistrants ∷ [])
    code

-- SERVICE ACTION of PERSISTENT RESERVE OUT
abbrev pub code_of_reserve_out : ReserveOut → ℕ
code_of_reserve_out reserve_out.Register = 0x00
code_of_reserve_out (reserve_out.Reserve type) = 0x01
code_of_reserve_out (reserve_out.Release type) = 0x02
code_of_reserve_out reserve_out.Clear = 0x03
code_of_reserve_out (reserve_out.Preempt type) = 0x04
code_of_reserve_out (reserve_out.PreemptAndAbort type) = 0x05
code_of_reserve_out reserve_out.RegisterAndIgnoreExistingKey = 0x06

-- its SCOPE and TYPE, 0 where the action has none
abbrev pub type_of_reserve_out : ReserveOut → ℕ
type_of_reserve_out reserve_out.Register = 0
type_of_reserve_out (reserve_out.Reserve type) = code_of_type type
type_of_reserve_out (reserve_out.Release type) = code_of_type type
type_of_reserve_out reserve_out.Clear = 0
type_of_reserve_out (reserve_out.Preempt type) = code_of_type type
type_of_reserve_out (reserve_out.PreemptAndAbort type) = code_of_type type
type_of_reserve_out reserve_out.RegisterAndIgnoreExistingKey = 0

-- the actions that have a type
abbrev pub has_type : ℕ → Bool
has_type code = (code == 0x01) || (code == 0x02) || (code == 0x04) || (code == 0x05)

-- the action of a code, with this type where it has one
abbrev pub reserve_out_of : ReservationType → ℕ → Option ReserveOut
reserve_out_of type code =
    named code_of_reserve_out
    (reserve_out.Register ∷ reserve_out.Reserve type ∷ reserve_out.Release type ∷ reserve_out.Clear
    ∷ reserve_out.Preempt type ∷ reserve_out.PreemptAndAbort type ∷ reserve_out.RegisterAndIgnoreExistingKey ∷ [])
    code
