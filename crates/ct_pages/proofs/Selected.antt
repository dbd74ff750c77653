-- What lists make of the values.
use Rattle.std.proofs.Common.{◌≡◌, List, [], ◌∷◌, drop, ℕ, nat_eq, arith, Bool, true, false, Option, None, Some, Result, Ok, Err, if◌then◌else◌, refl, sym, ap, ◌∙◌}
use Rattle.std.specs.Cmp.Lexicographic.{pointwise}
use Rattle.std.proofs.lemmas.Bool.Decides.{nat_tests}
use Rattle.ct_param.specs.declared.mode.ModeList.{ModeList}
use Rattle.ct_param.specs.declared.fault.ListFault.{ListFault}
use Rattle.ct_param.specs.declared.fault.ListFault.TheVariants.{BadField}
use Rattle.ct_param.specs.ModeLists.{no_pages}
use Rattle.ct_pages.specs.declared.pages.ModePages.{ModePages}
use Rattle.ct_pages.specs.Pages.{caching_page, control_page}
use Rattle.ct_pages.specs.Selects.{is_set, with_caching, with_control, have_same_fields, after_caching, after_control, and_control, selected_pages}

pub no_page_selected : (pages : ModePages) → selected_pages pages no_pages ≡ Ok pages
unfolding selected_pages
no_page_selected pages = refl

same_bytes : (bytes : List ℕ) → pointwise nat_eq bytes bytes ≡ true
same_bytes [] = refl
same_bytes (byte ∷ bytes) = rw (same_bytes bytes) (grind (arith, nat_tests))

caching_told : (cache : Bool) (pages : ModePages) → is_set 2 0x04 (caching_page (record pages { cache = cache })) ≡ cache
caching_told true pages = refl
caching_told false pages = refl

selects_caching : (pages new : ModePages) → after_caching (Some (caching_page new)) pages ≡ Ok (record pages { cache = new.cache })
selects_caching pages new =
    let cache : is_set 2 0x04 (caching_page new) ≡ new.cache = caching_told new.cache new in
    rw (cache, same_bytes (drop 2 (caching_page new))) refl

descriptor_told : (descriptor : Bool) (pages : ModePages) → is_set 2 0x04 (control_page (record pages { descriptor = descriptor })) ≡ descriptor
descriptor_told true pages = refl
descriptor_told false pages = refl

order_told : (free_order : Bool) (pages : ModePages) → is_set 3 0x10 (control_page (record pages { free_order = free_order })) ≡ free_order
order_told true pages = refl
order_told false pages = refl

protect_told : (protect : Bool) (pages : ModePages) → is_set 4 0x08 (control_page (record pages { protect = protect })) ≡ protect
protect_told true pages = refl
protect_told false pages = refl

tas_told : (tas : Bool) (pages : ModePages) → is_set 5 0x40 (control_page (record pages { tas = tas })) ≡ tas
tas_told true pages = refl
tas_told false pages = refl

selects_control : (pages new : ModePages) → after_control (Some (control_page new)) pages ≡ Ok (record new { cache = pages.cache })
selects_control pages new =
    let descriptor : is_set 2 0x04 (control_page new) ≡ new.descriptor = descriptor_told new.descriptor new in
    let order : is_set 3 0x10 (control_page new) ≡ new.free_order = order_told new.free_order new in
    let protect : is_set 4 0x08 (control_page new) ≡ new.protect = protect_told new.protect new in
    let tas : is_set 5 0x40 (control_page new) ≡ new.tas = tas_told new.tas new in
    rw (descriptor, order, protect, tas, same_bytes (drop 2 (control_page new))) refl

-- values that a host is told and sends back are those that stand afterwards
pub told_again : (pages new : ModePages) → selected_pages pages (record { caching = Some (caching_page new); control = Some (control_page new) }) ≡ Ok new
unfolding selected_pages
told_again pages new = rw selects_caching (selects_control (record pages { cache = new.cache }) new)
