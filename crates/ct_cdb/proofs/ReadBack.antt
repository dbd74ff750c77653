-- What is encoded is read as it was.
use Rattle.std.proofs.Common.{◌≡◌, ◌+◌, ◌*◌, ◌/◌, ◌%◌, ◌<◌, ◌≤◌, ◌^◌, ◌==◌, ◌||◌, ℕ, [], Bool, true, false, Some, Ok, refl, arith}
use Rattle.std.proofs.Common.{if◌then◌else◌}
use Rattle.std.specs.Prelude.{is_some}
use Rattle.std.proofs.lemmas.Bool.{le-leb, eq-eqb}
use Rattle.std.proofs.lemmas.Bool.Decides.{nat_tests}
use Rattle.byteorder.specs.Numbers.{big_number-reads_back}
use Rattle.ct_word.specs.declared.limit.TheConstants.{MOST_TRANSFER, MOST_COMPARE}
use Rattle.ct_cdb.specs.declared.op.Op.{Op}
use Rattle.ct_cdb.specs.declared.op.Op.TheVariants as op
use Rattle.ct_cdb.specs.declared.op.Form.TheVariants.{Six, Ten, Twelve, Sixteen}
use Rattle.ct_cdb.specs.declared.op.Cdb.{Cdb}
use Rattle.ct_cdb.specs.declared.choices.InquiryPage.{InquiryPage}
use Rattle.ct_cdb.specs.declared.choices.InquiryPage.TheVariants as page
use Rattle.ct_cdb.specs.declared.choices.LunSelection.{LunSelection}
use Rattle.ct_cdb.specs.declared.choices.LunSelection.TheVariants as select
use Rattle.ct_cdb.specs.declared.choices.PageControl.{PageControl}
use Rattle.ct_cdb.specs.declared.choices.PageControl.TheVariants as values
use Rattle.ct_cdb.specs.declared.choices.ModePage.{ModePage}
use Rattle.ct_cdb.specs.declared.choices.ModePage.TheVariants as mode
use Rattle.ct_cdb.specs.declared.choices.ReserveIn.{ReserveIn}
use Rattle.ct_cdb.specs.declared.choices.ReserveIn.TheVariants as reserve_in
use Rattle.ct_cdb.specs.declared.choices.ReserveOut.{ReserveOut}
use Rattle.ct_cdb.specs.declared.choices.ReserveOut.TheVariants as reserve_out
use Rattle.ct_cdb.specs.declared.choices.ReservationType.{ReservationType}
use Rattle.ct_cdb.specs.declared.choices.ReservationType.TheVariants as kind
use Rattle.ct_cdb.specs.Choices.{inquiry_page, is_vital, code_of_page, lun_selection, code_of_selection, page_control}
use Rattle.ct_cdb.specs.Choices.{code_of_control, code_of_mode, subcode_of_mode, whole_page, asks_subpages, mode_page}
use Rattle.ct_cdb.specs.Choices.{reserve_in_of, code_of_reserve_in, reservation_type, code_of_type}
use Rattle.ct_cdb.specs.Fields.{lba_21}
use Rattle.ct_cdb.specs.Forms.{cdb_of, row_of}
use Rattle.ct_cdb.specs.Encoding.{IsInPlace, IsControl, IsEncodable, bit, blocks_form, bytes_of_op, bytes_of_cdb}

-- fields that name one of a few things

bit_again : (set : Bool) → (bit set 1 / 1 % 2 == 1) ≡ set
bit_again true = refl
bit_again false = refl

page_again : (p : InquiryPage) → inquiry_page (bit (is_vital p) 1 / 1 % 2 == 1) (code_of_page p) ≡ Some p
page_again page.Standard = refl
page_again page.SupportedPages = refl
page_again page.UnitSerialNumber = refl
page_again page.DeviceIdentification = refl
page_again page.BlockLimits = refl
page_again page.LogicalBlockProvisioning = refl

selection_again : (s : LunSelection) → lun_selection (code_of_selection s) ≡ Some s
selection_again select.Addressed = refl
selection_again select.WellKnown = refl
selection_again select.All = refl

-- byte 2 of MODE SENSE
control_again : (c : PageControl) (p : ModePage) → page_control ((code_of_control c * 64 + code_of_mode p) / 64) ≡ c
control_again values.Current mode.Caching = refl
control_again values.Current _ = refl
control_again values.Changeable mode.Caching = refl
control_again values.Changeable _ = refl
control_again values.Default mode.Caching = refl
control_again values.Default _ = refl
control_again values.Saved mode.Caching = refl
control_again values.Saved _ = refl

mode_code_again : (c : PageControl) (p : ModePage) → (code_of_control c * 64 + code_of_mode p) % 64 ≡ code_of_mode p
mode_code_again values.Current mode.Caching = refl
mode_code_again values.Current _ = refl
mode_code_again values.Changeable mode.Caching = refl
mode_code_again values.Changeable _ = refl
mode_code_again values.Default mode.Caching = refl
mode_code_again values.Default _ = refl
mode_code_again values.Saved mode.Caching = refl
mode_code_again values.Saved _ = refl

known_page : (p : ModePage) → is_some (whole_page (code_of_mode p)) ≡ true
known_page mode.Caching = refl
known_page _ = refl

known_subpage : (p : ModePage)
    → ((subcode_of_mode p == 0) || asks_subpages (code_of_mode p) (subcode_of_mode p)) ≡ true
known_subpage mode.Caching = refl
known_subpage _ = refl

mode_again : (p : ModePage) → mode_page (code_of_mode p) (subcode_of_mode p) ≡ Some p
mode_again mode.Caching = refl
mode_again _ = refl

reserve_in_again : (a : ReserveIn) → reserve_in_of (code_of_reserve_in a % 32) ≡ Some a
reserve_in_again reserve_in.ReadKeys = refl
reserve_in_again _ = refl

type_again : (t : ReservationType) → reservation_type (code_of_type t) ≡ Some t
type_again kind.WriteExclusive = refl
type_again _ = refl

-- the fields of a form of six bytes
lba_again : (code flags lba count control : ℕ) → lba < 2 ^ 21
    → lba_21 (blocks_form Six code flags lba count control) ≡ lba
lba_again code flags lba count control small = omega arith

count_again : (count : ℕ) → 0 < count → count ≤ 256 → (if count % 256 == 0 then 256 else count % 256) ≡ count
count_again count some few = grind (arith, nat_tests)

op_again : (o : Op) (control : ℕ) → IsInPlace o → IsControl control
    → cdb_of (bytes_of_op o control) ≡ Ok (record { op = o; control = control })
unfolding row_of
op_again op.TestUnitReady control fits naca = rw (eq-eqb (control / 4 % 2) 0 naca.1)
op_again (op.RequestSense true allocation) control fits naca = rw (eq-eqb (control / 4 % 2) 0 naca.1)
op_again (op.RequestSense false allocation) control fits naca = rw (eq-eqb (control / 4 % 2) 0 naca.1)
op_again (op.Inquiry p allocation) control fits naca =
    rw (page_again p, eq-eqb (control / 4 % 2) 0 naca.1, big_number-reads_back 2 allocation [] (omega arith))
op_again (op.ReportLuns s allocation) control fits naca =
    rw (selection_again s, eq-eqb (control / 4 % 2) 0 naca.1, big_number-reads_back 4 allocation [] (omega arith))
op_again op.ReadCapacity10 control fits naca = rw (eq-eqb (control / 4 % 2) 0 naca.1)
op_again (op.ReadCapacity16 allocation) control fits naca =
    rw (eq-eqb (control / 4 % 2) 0 naca.1, big_number-reads_back 4 allocation [] (omega arith))
op_again (op.Read Six lba count) control fits naca =
    rw (
      eq-eqb (control / 4 % 2) 0 naca.1,
      lba_again 0x08 0 lba count control fits.0,
      count_again count fits.1.0 fits.1.1,
    )
op_again (op.Read Ten lba count) control fits naca =
    rw (
      big_number-reads_back 2 count [] (omega arith),
      le-leb count MOST_TRANSFER fits.1,
      eq-eqb (control / 4 % 2) 0 naca.1,
      big_number-reads_back 4 lba [] (omega arith),
    )
op_again (op.Read Twelve lba count) control fits naca =
    rw (
      big_number-reads_back 4 count [] (omega arith),
      le-leb count MOST_TRANSFER fits.1,
      eq-eqb (control / 4 % 2) 0 naca.1,
      big_number-reads_back 4 lba [] (omega arith),
    )
op_again (op.Read Sixteen lba count) control fits naca =
    rw (
      big_number-reads_back 4 count [] (omega arith),
      le-leb count MOST_TRANSFER fits.1,
      eq-eqb (control / 4 % 2) 0 naca.1,
      big_number-reads_back 8 lba [] (omega arith),
    )
op_again (op.Write Six lba count) control fits naca =
    rw (
      eq-eqb (control / 4 % 2) 0 naca.1,
      lba_again 0x0a 0 lba count control fits.0,
      count_again count fits.1.0 fits.1.1,
    )
op_again (op.Write Ten lba count) control fits naca =
    rw (
      big_number-reads_back 2 count [] (omega arith),
      le-leb count MOST_TRANSFER fits.1,
      eq-eqb (control / 4 % 2) 0 naca.1,
      big_number-reads_back 4 lba [] (omega arith),
    )
op_again (op.Write Twelve lba count) control fits naca =
    rw (
      big_number-reads_back 4 count [] (omega arith),
      le-leb count MOST_TRANSFER fits.1,
      eq-eqb (control / 4 % 2) 0 naca.1,
      big_number-reads_back 4 lba [] (omega arith),
    )
op_again (op.Write Sixteen lba count) control fits naca =
    rw (
      big_number-reads_back 4 count [] (omega arith),
      le-leb count MOST_TRANSFER fits.1,
      eq-eqb (control / 4 % 2) 0 naca.1,
      big_number-reads_back 8 lba [] (omega arith),
    )
op_again (op.WriteAndVerify Six lba count) control fits naca = absurd fits.0
op_again (op.WriteAndVerify Ten lba count) control fits naca =
    rw (
      big_number-reads_back 2 count [] (omega arith),
      le-leb count MOST_TRANSFER fits.1.1,
      eq-eqb (control / 4 % 2) 0 naca.1,
      big_number-reads_back 4 lba [] (omega arith),
    )
op_again (op.WriteAndVerify Twelve lba count) control fits naca = absurd fits.0
op_again (op.WriteAndVerify Sixteen lba count) control fits naca =
    rw (
      big_number-reads_back 4 count [] (omega arith),
      le-leb count MOST_TRANSFER fits.1.1,
      eq-eqb (control / 4 % 2) 0 naca.1,
      big_number-reads_back 8 lba [] (omega arith),
    )
op_again (op.Verify Six compare lba count) control fits naca = absurd fits.0
op_again (op.Verify Ten true lba count) control fits naca =
    rw (
      big_number-reads_back 2 count [] (omega arith),
      le-leb count MOST_TRANSFER fits.1.1,
      eq-eqb (control / 4 % 2) 0 naca.1,
      big_number-reads_back 4 lba [] (omega arith),
    )
op_again (op.Verify Ten false lba count) control fits naca =
    rw (
      big_number-reads_back 2 count [] (omega arith),
      le-leb count MOST_TRANSFER fits.1.1,
      eq-eqb (control / 4 % 2) 0 naca.1,
      big_number-reads_back 4 lba [] (omega arith),
    )
op_again (op.Verify Twelve true lba count) control fits naca =
    rw (
      big_number-reads_back 4 count [] (omega arith),
      le-leb count MOST_TRANSFER fits.1.1,
      eq-eqb (control / 4 % 2) 0 naca.1,
      big_number-reads_back 4 lba [] (omega arith),
    )
op_again (op.Verify Twelve false lba count) control fits naca =
    rw (
      big_number-reads_back 4 count [] (omega arith),
      le-leb count MOST_TRANSFER fits.1.1,
      eq-eqb (control / 4 % 2) 0 naca.1,
      big_number-reads_back 4 lba [] (omega arith),
    )
op_again (op.Verify Sixteen true lba count) control fits naca =
    rw (
      big_number-reads_back 4 count [] (omega arith),
      le-leb count MOST_TRANSFER fits.1.1,
      eq-eqb (control / 4 % 2) 0 naca.1,
      big_number-reads_back 8 lba [] (omega arith),
    )
op_again (op.Verify Sixteen false lba count) control fits naca =
    rw (
      big_number-reads_back 4 count [] (omega arith),
      le-leb count MOST_TRANSFER fits.1.1,
      eq-eqb (control / 4 % 2) 0 naca.1,
      big_number-reads_back 8 lba [] (omega arith),
    )
op_again (op.CompareAndWrite lba count) control fits naca =
    let small : count % 256 ≡ count = omega arith in
    rw (
      small,
      le-leb count MOST_COMPARE fits.1,
      eq-eqb (control / 4 % 2) 0 naca.1,
      big_number-reads_back 8 lba [] (omega arith),
    )
op_again (op.WriteSame Six unmap lba count) control fits naca = absurd fits.0
op_again (op.WriteSame Ten true lba count) control fits naca = absurd (cc (fits.0))
op_again (op.WriteSame Ten false lba count) control fits naca =
    rw (
      big_number-reads_back 2 count [] (omega arith),
      le-leb 1 count fits.1,
      le-leb count MOST_TRANSFER fits.2.1,
      eq-eqb (control / 4 % 2) 0 naca.1,
      big_number-reads_back 4 lba [] (omega arith),
    )
op_again (op.WriteSame Twelve unmap lba count) control fits naca = absurd fits.0
op_again (op.WriteSame Sixteen true lba count) control fits naca =
    rw (
      big_number-reads_back 4 count [] (omega arith),
      le-leb 1 count fits.1,
      le-leb count MOST_TRANSFER fits.2.1,
      eq-eqb (control / 4 % 2) 0 naca.1,
      big_number-reads_back 8 lba [] (omega arith),
    )
op_again (op.WriteSame Sixteen false lba count) control fits naca =
    rw (
      big_number-reads_back 4 count [] (omega arith),
      le-leb 1 count fits.1,
      le-leb count MOST_TRANSFER fits.2.1,
      eq-eqb (control / 4 % 2) 0 naca.1,
      big_number-reads_back 8 lba [] (omega arith),
    )
op_again (op.Unmap list) control fits naca =
    rw (eq-eqb (control / 4 % 2) 0 naca.1, big_number-reads_back 2 list [] (omega arith))
op_again (op.SynchronizeCache Six lba count) control fits naca = absurd fits.1
op_again (op.SynchronizeCache Ten lba count) control fits naca =
    rw (
      eq-eqb (control / 4 % 2) 0 naca.1,
      big_number-reads_back 4 lba [] (omega arith),
      big_number-reads_back 2 count [] (omega arith),
    )
op_again (op.SynchronizeCache Twelve lba count) control fits naca = absurd fits.1
op_again (op.SynchronizeCache Sixteen lba count) control fits naca =
    rw (
      eq-eqb (control / 4 % 2) 0 naca.1,
      big_number-reads_back 8 lba [] (omega arith),
      big_number-reads_back 4 count [] (omega arith),
    )
op_again (op.StartStopUnit true) control fits naca = rw (eq-eqb (control / 4 % 2) 0 naca.1)
op_again (op.StartStopUnit false) control fits naca = rw (eq-eqb (control / 4 % 2) 0 naca.1)
op_again (op.ModeSelect Six list) control fits naca = rw (eq-eqb (control / 4 % 2) 0 naca.1)
op_again (op.ModeSelect Ten list) control fits naca =
    rw (eq-eqb (control / 4 % 2) 0 naca.1, big_number-reads_back 2 list [] (omega arith))
op_again (op.ModeSelect Twelve list) control fits naca = absurd fits
op_again (op.ModeSelect Sixteen list) control fits naca = absurd fits
op_again (op.ModeSense Six true c p allocation) control fits naca =
    rw (
      mode_code_again c p,
      known_page p,
      known_subpage p,
      eq-eqb (control / 4 % 2) 0 naca.1,
      control_again c p,
      mode_again p,
    )
op_again (op.ModeSense Six false c p allocation) control fits naca =
    rw (
      mode_code_again c p,
      known_page p,
      known_subpage p,
      eq-eqb (control / 4 % 2) 0 naca.1,
      control_again c p,
      mode_again p,
    )
op_again (op.ModeSense Ten true c p allocation) control fits naca =
    rw (
      mode_code_again c p,
      known_page p,
      known_subpage p,
      eq-eqb (control / 4 % 2) 0 naca.1,
      control_again c p,
      mode_again p,
      big_number-reads_back 2 allocation [] (omega arith),
    )
op_again (op.ModeSense Ten false c p allocation) control fits naca =
    rw (
      mode_code_again c p,
      known_page p,
      known_subpage p,
      eq-eqb (control / 4 % 2) 0 naca.1,
      control_again c p,
      mode_again p,
      big_number-reads_back 2 allocation [] (omega arith),
    )
op_again (op.ModeSense Twelve no_descriptor c p allocation) control fits naca = absurd fits
op_again (op.ModeSense Sixteen no_descriptor c p allocation) control fits naca = absurd fits
op_again (op.PersistentReserveIn a allocation) control fits naca =
    rw (reserve_in_again a, eq-eqb (control / 4 % 2) 0 naca.1, big_number-reads_back 2 allocation [] (omega arith))
op_again (op.PersistentReserveOut reserve_out.Register list) control fits naca =
    rw (eq-eqb (control / 4 % 2) 0 naca.1, big_number-reads_back 4 list [] (omega arith))
op_again (op.PersistentReserveOut (reserve_out.Reserve t) list) control fits naca =
    rw (type_again t, eq-eqb (control / 4 % 2) 0 naca.1, big_number-reads_back 4 list [] (omega arith))
op_again (op.PersistentReserveOut (reserve_out.Release t) list) control fits naca =
    rw (type_again t, eq-eqb (control / 4 % 2) 0 naca.1, big_number-reads_back 4 list [] (omega arith))
op_again (op.PersistentReserveOut reserve_out.Clear list) control fits naca =
    rw (eq-eqb (control / 4 % 2) 0 naca.1, big_number-reads_back 4 list [] (omega arith))
op_again (op.PersistentReserveOut (reserve_out.Preempt t) list) control fits naca =
    rw (type_again t, eq-eqb (control / 4 % 2) 0 naca.1, big_number-reads_back 4 list [] (omega arith))
op_again (op.PersistentReserveOut (reserve_out.PreemptAndAbort t) list) control fits naca =
    rw (type_again t, eq-eqb (control / 4 % 2) 0 naca.1, big_number-reads_back 4 list [] (omega arith))
op_again (op.PersistentReserveOut reserve_out.RegisterAndIgnoreExistingKey list) control fits naca =
    rw (eq-eqb (control / 4 % 2) 0 naca.1, big_number-reads_back 4 list [] (omega arith))

pub cdb_again : (cdb : Cdb) → IsEncodable cdb → cdb_of (bytes_of_cdb cdb) ≡ Ok cdb
cdb_again cdb h = op_again cdb.op cdb.control h.op h.control
