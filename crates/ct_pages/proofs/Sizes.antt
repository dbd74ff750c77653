-- How many bytes MODE SENSE returns.
use Rattle.std.proofs.Common.{◌≡◌, ◌≤◌, ◌+◌, ℕ, min, Bool, true, false, ◌++◌, length, refl, ap, ◌∙◌, arith, length-append}
use Rattle.std.proofs.lemmas.List.{length-take}
use Rattle.ct_cdb.specs.declared.op.Form.{Form}
use Rattle.ct_cdb.specs.declared.op.Form.TheVariants.{Six, Ten, Twelve, Sixteen}
use Rattle.ct_cdb.specs.declared.choices.PageControl.{PageControl}
use Rattle.ct_cdb.specs.declared.choices.ModePage.{ModePage}
use Rattle.ct_cdb.specs.declared.choices.ModePage.TheVariants as mode
use Rattle.ct_cdb.specs.Commands.Modes.{header_length, descriptor_length, mode_length}
use Rattle.ct_pages.specs.declared.pages.ModePages.{ModePages}
use Rattle.ct_pages.specs.Pages.{values}
use Rattle.ct_pages.specs.Senses.{pages_asked, descriptor_of, header, device_parameter, whole_mode_data, mode_data}

length-pages : (page : ModePage) (pages : ModePages) → length (pages_asked page pages) ≡ mode_length page
length-pages mode.Caching pages = refl
length-pages mode.Control pages = refl
length-pages mode.All pages = refl
length-pages mode.AllAndSubpages pages = refl

length-descriptor : (no_descriptor : Bool) (blocks : ℕ) → length (descriptor_of no_descriptor blocks) ≡ descriptor_length no_descriptor
length-descriptor true blocks = refl
length-descriptor false blocks = refl

length-header : (form : Form) (device descriptor following : ℕ) → length (header form device descriptor following) ≡ header_length form
length-header Six device descriptor following = refl
length-header Ten device descriptor following = refl
length-header Twelve device descriptor following = refl
length-header Sixteen device descriptor following = refl

pub length-whole : (pages : ModePages) (blocks : ℕ) (form : Form) (no_descriptor : Bool) (control : PageControl) (page : ModePage)
    → length (whole_mode_data pages blocks form no_descriptor control page) ≡ header_length form + descriptor_length no_descriptor + mode_length page
unfolding whole_mode_data
length-whole pages blocks form no_descriptor control page =
    let asked = pages_asked page (values control pages) in
    let descriptor = descriptor_of no_descriptor blocks in
    let front = header form (device_parameter pages) (length descriptor) (length descriptor + length asked) in
    omega (
      arith,
      length-append (front ++ descriptor) asked,
      length-append front descriptor,
      length-header form (device_parameter pages) (length descriptor) (length descriptor + length asked),
      length-descriptor no_descriptor blocks,
      length-pages page (values control pages),
    )

pub length-data : (pages : ModePages) (blocks : ℕ) (form : Form) (no_descriptor : Bool) (control : PageControl) (page : ModePage) (allocation : ℕ)
    → length (mode_data pages blocks form no_descriptor control page allocation) ≡ min allocation (header_length form + descriptor_length no_descriptor + mode_length page)
unfolding mode_data
length-data pages blocks form no_descriptor control page allocation =
    length-take allocation (whole_mode_data pages blocks form no_descriptor control page)
    ∙ ap (min allocation) (length-whole pages blocks form no_descriptor control page)

header_most : (form : Form) → header_length form ≤ 8
header_most Six = omega arith
header_most Ten = omega arith
header_most Twelve = omega arith
header_most Sixteen = omega arith

descriptor_most : (no_descriptor : Bool) → descriptor_length no_descriptor ≤ 8
descriptor_most true = omega arith
descriptor_most false = omega arith

pages_most : (page : ModePage) → mode_length page ≤ 32
pages_most mode.Caching = omega arith
pages_most mode.Control = omega arith
pages_most mode.All = omega arith
pages_most mode.AllAndSubpages = omega arith

-- the most bytes of data, for room that doesn't depend on what is asked for
pub length-most : (pages : ModePages) (blocks : ℕ) (form : Form) (no_descriptor : Bool) (control : PageControl) (page : ModePage) (allocation : ℕ)
    → length (mode_data pages blocks form no_descriptor control page allocation) ≤ 48
length-most pages blocks form no_descriptor control page allocation =
    omega (
      arith,
      length-data pages blocks form no_descriptor control page allocation,
      header_most form,
      descriptor_most no_descriptor,
      pages_most page,
    )

pub ruleset most_bytes = (length-most)
