-- How many bytes the data of each command have.
use Rattle.std.proofs.Common.{◌≡◌, ◌≤◌, ◌+◌, ◌*◌, ℕ, min, List, [], ◌∷◌, length, refl, ap, ◌∙◌, arith}
use Rattle.std.proofs.lemmas.List.{length-take}
use Rattle.std.proofs.lemmas.List.FromFn.{length-range_with_len}
use Rattle.std.proofs.lemmas.List.Sums.{length-filter, count_by-le-length}
use Rattle.std.specs.List.{range_with_len}
use Rattle.ct_cdb.specs.declared.choices.InquiryPage.{InquiryPage}
use Rattle.ct_cdb.specs.declared.choices.InquiryPage.TheVariants as page
use Rattle.ct_cdb.specs.declared.choices.LunSelection.{LunSelection}
use Rattle.ct_cdb.specs.declared.choices.LunSelection.TheVariants as selection
use Rattle.ct_cdb.specs.Commands.Inquiries.{page_length, luns_length}
use Rattle.ct_inq.specs.Inquiries.{standard_inquiry, supported_pages, serial_page, identification_page, limits_page}
use Rattle.ct_inq.specs.Inquiries.{provisioning_page, data_of_page, inquiry_data}
use Rattle.ct_inq.specs.Capacities.{capacity_10_data, long_capacity, capacity_16_data}
use Rattle.ct_inq.specs.Luns.{is_visible, visible_below, listed, lun_entries, lun_list, luns_data}

pub length-page : (page : InquiryPage) (lun : ℕ) → length (data_of_page page lun) ≡ page_length page
unfolding standard_inquiry supported_pages serial_page identification_page limits_page provisioning_page
length-page page.Standard lun = refl
length-page page.SupportedPages lun = refl
length-page page.UnitSerialNumber lun = refl
length-page page.DeviceIdentification lun = refl
length-page page.BlockLimits lun = refl
length-page page.LogicalBlockProvisioning lun = refl

pub length-inquiry : (page : InquiryPage) (allocation lun : ℕ)
    → length (inquiry_data page allocation lun) ≡ min allocation (page_length page)
unfolding inquiry_data
length-inquiry page allocation lun =
    length-take allocation (data_of_page page lun) ∙ ap (min allocation) (length-page page lun)

pub length-capacity_10 : (blocks : ℕ) → length (capacity_10_data blocks) ≡ 8
unfolding capacity_10_data
length-capacity_10 blocks = refl

pub length-long_capacity : (blocks : ℕ) → length (long_capacity blocks) ≡ 32
unfolding long_capacity
length-long_capacity blocks = refl

pub length-capacity_16 : (blocks allocation : ℕ) → length (capacity_16_data blocks allocation) ≡ min allocation 32
unfolding capacity_16_data
length-capacity_16 blocks allocation = length-take allocation (long_capacity blocks) ∙ ap (min allocation) (length-long_capacity blocks)

pub length-entries : (numbers : List ℕ) → length (lun_entries numbers) ≡ 8 * length numbers
length-entries [] = refl
length-entries (number ∷ numbers) = let e : length (lun_entries numbers) ≡ 8 * length numbers = length-entries numbers in omega arith

pub length-lun_list : (numbers : List ℕ) → length (lun_list numbers) ≡ 8 + 8 * length numbers
unfolding lun_list
length-lun_list numbers = let e : length (lun_entries numbers) ≡ 8 * length numbers = length-entries numbers in omega arith

pub length-visible : (bound visible : ℕ) → length (visible_below bound visible) ≤ bound
unfolding visible_below
length-visible bound visible =
    omega (
      arith,
      length-filter (is_visible visible) (range_with_len 0 bound),
      count_by-le-length (is_visible visible) (range_with_len 0 bound),
      length-range_with_len 0 bound,
    )

pub length-listed : (select : LunSelection) (visible : ℕ) → length (listed select visible) ≤ 16
length-listed selection.Addressed visible = length-visible 16 visible
length-listed selection.WellKnown visible = omega arith
length-listed selection.All visible = length-visible 16 visible

pub length-luns : (select : LunSelection) (allocation visible : ℕ)
    → length (luns_data select allocation visible) ≡ min allocation (8 + 8 * length (listed select visible))
unfolding luns_data
length-luns select allocation visible =
    length-take allocation (lun_list (listed select visible)) ∙ ap (min allocation) (length-lun_list (listed select visible))

pub length-luns_most : (select : LunSelection) (allocation visible : ℕ)
    → length (luns_data select allocation visible) ≤ min allocation (luns_length select)
length-luns_most selection.Addressed allocation visible =
    omega (arith, length-luns selection.Addressed allocation visible, length-visible 16 visible)
length-luns_most selection.WellKnown allocation visible =
    omega (arith, length-luns selection.WellKnown allocation visible)
length-luns_most selection.All allocation visible =
    omega (arith, length-luns selection.All allocation visible, length-visible 16 visible)

pub length-luns_longest : (select : LunSelection) (allocation visible : ℕ)
    → length (luns_data select allocation visible) ≤ min allocation 136
length-luns_longest select allocation visible =
    omega (arith, length-luns select allocation visible, length-listed select visible)

page_length_most : (page : InquiryPage) → page_length page ≤ 64
page_length_most page.Standard = omega arith
page_length_most page.SupportedPages = omega arith
page_length_most page.UnitSerialNumber = omega arith
page_length_most page.DeviceIdentification = omega arith
page_length_most page.BlockLimits = omega arith
page_length_most page.LogicalBlockProvisioning = omega arith

pub length-inquiry_most : (page : InquiryPage) (allocation lun : ℕ)
    → length (inquiry_data page allocation lun) ≤ min allocation 64
length-inquiry_most page allocation lun = omega (arith, length-inquiry page allocation lun, page_length_most page)

-- the most bytes of data, or their number, for room that doesn't depend on them
pub ruleset most_bytes = (length-inquiry_most, length-capacity_10, length-capacity_16, length-luns_longest)
