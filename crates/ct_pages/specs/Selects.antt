-- What MODE SELECT does with the pages of its parameter list (SPC-4, MODE SELECT). A page is accepted where it is the
-- one that stands with its changeable bits in it, so where every other bit has its current value; PS, PAGE CODE and
-- PAGE LENGTH were judged when the list was read.
use Rattle.std.specs.Prelude.{ℕ, ◌/◌, ◌%◌, List, drop, slice_index, nat_eq, Bool, ◌==◌, if◌then◌else◌, Option, None}
use Rattle.std.specs.Prelude.{Some, Result, Ok, Err}
use Rattle.std.specs.Cmp.Lexicographic.{pointwise}
use Rattle.ct_param.specs.declared.mode.ModeList.{ModeList}
use Rattle.ct_param.specs.declared.fault.ListFault.{ListFault}
use Rattle.ct_param.specs.declared.fault.ListFault.TheVariants.{BadField}
use Rattle.ct_pages.specs.declared.pages.ModePages.{ModePages}
use Rattle.ct_pages.specs.Pages.{caching_page, control_page}

-- a bit of a byte, by its weight
abbrev pub is_set : ℕ → ℕ → List ℕ → Bool
is_set byte weight page = slice_index page byte / weight % 2 == 1

-- the values with the changeable bits of a page
abbrev pub with_caching : List ℕ → ModePages → ModePages
with_caching page pages = record pages { cache = is_set 2 0x04 page }

abbrev pub with_control : List ℕ → ModePages → ModePages
with_control page pages =
    record pages {
      descriptor = is_set 2 0x04 page;
      free_order = is_set 3 0x10 page;
      protect = is_set 4 0x08 page;
      tas = is_set 5 0x40 page;
    }

-- two pages have the same bytes behind PAGE LENGTH
abbrev pub have_same_fields : List ℕ → List ℕ → Bool
have_same_fields a b = pointwise nat_eq (drop 2 a) (drop 2 b)

-- the values after a page, if there is one
abbrev pub after_caching : Option (List ℕ) → ModePages → Result ModePages ListFault
after_caching None pages = Ok pages
after_caching (Some page) pages =
    if have_same_fields page (caching_page (with_caching page pages)) then Ok (with_caching page pages)
    else Err BadField

abbrev pub after_control : Option (List ℕ) → ModePages → Result ModePages ListFault
after_control None pages = Ok pages
after_control (Some page) pages =
    if have_same_fields page (control_page (with_control page pages)) then Ok (with_control page pages)
    else Err BadField

abbrev pub and_control : Option (List ℕ) → Result ModePages ListFault → Result ModePages ListFault
and_control page (Ok pages) = after_control page pages
and_control page (Err fault) = Err fault

-- the values after all pages of a list; none of its pages counts where one is refused
unfoldable pub selected_pages : ModePages → ModeList → Result ModePages ListFault
selected_pages pages list = and_control list.control (after_caching list.caching pages)
