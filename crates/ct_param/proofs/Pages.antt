-- A mode parameter list, page by page.
use Rattle.std.proofs.Common.{◌≡◌, ◌≤◌, ◌<◌, ◌+◌, ◌-◌, ℕ, zero, suc, List, [], length, take, drop, Ok, Err, refl, ◌∙◌, ap, arith, length-drop}
use Rattle.std.proofs.lemmas.List.{take_all, drop_all, drop-drop}
use Rattle.ct_param.specs.declared.mode.ModeList.{ModeList}
use Rattle.ct_param.specs.declared.fault.ListFault.{ListFault}
use Rattle.ct_param.specs.ModeLists.{no_pages, with_pages, pages_of}

-- the pages before a place were read, and so many more at most follow
pub record IsReadTo (bytes : List ℕ) (at : ℕ) (list : ModeList) : Type 0 where
  pub more : ℕ
  pub within : at ≤ length bytes
  pub enough : length bytes ≤ at + more
  pub same : pages_of bytes ≡ with_pages more list (drop at bytes)

pub none_read : (bytes : List ℕ) → IsReadTo bytes 0 no_pages
none_read bytes = record { more = length bytes; within = omega arith; enough = omega arith; same = refl }

page_read_by : (bytes : List ℕ) (at size more : ℕ) (old new : ModeList) → length bytes ≤ at + more
    → pages_of bytes ≡ with_pages more old (drop at bytes) → at < length bytes → 0 < size → size ≤ length (drop at bytes)
    → ((more : ℕ) → with_pages (suc more) old (drop at bytes) ≡ with_pages more new (drop size (drop at bytes)))
    → IsReadTo bytes (at + size) new
page_read_by bytes at size zero old new enough same inside some short step = absurd (omega arith)
page_read_by bytes at size (suc more) old new enough same inside some short step =
    let left : length (drop at bytes) ≡ length bytes - at = length-drop at bytes in
    record {
      more = more;
      within = omega arith;
      enough = omega arith;
      same = same ∙ step more ∙ ap (with_pages more new) (drop-drop size at bytes);
    }

pub page_read : (bytes : List ℕ) (at size : ℕ) (old new : ModeList) → IsReadTo bytes at old → at < length bytes → 0 < size
    → size ≤ length (drop at bytes)
    → ((more : ℕ) → with_pages (suc more) old (drop at bytes) ≡ with_pages more new (drop size (drop at bytes)))
    → IsReadTo bytes (at + size) new
page_read bytes at size old new read inside some short step =
    page_read_by bytes at size read.more old new read.enough read.same inside some short step

fault_read_by : (bytes : List ℕ) (at more : ℕ) (list : ModeList) (fault : ListFault) → length bytes ≤ at + more
    → pages_of bytes ≡ with_pages more list (drop at bytes) → at < length bytes
    → ((more : ℕ) → with_pages (suc more) list (drop at bytes) ≡ Err fault) → pages_of bytes ≡ Err fault
fault_read_by bytes at zero list fault enough same inside step = absurd (omega arith)
fault_read_by bytes at (suc more) list fault enough same inside step = same ∙ step more

pub fault_read : (bytes : List ℕ) (at : ℕ) (list : ModeList) (fault : ListFault) → IsReadTo bytes at list → at < length bytes
    → ((more : ℕ) → with_pages (suc more) list (drop at bytes) ≡ Err fault) → pages_of bytes ≡ Err fault
fault_read bytes at list fault read inside step =
    fault_read_by bytes at read.more list fault read.enough read.same inside step

nothing_left : (more : ℕ) (list : ModeList) → with_pages more list [] ≡ Ok list
nothing_left zero list = refl
nothing_left (suc more) list = refl

pub all_read : (bytes : List ℕ) (at : ℕ) (list : ModeList) → IsReadTo bytes at list → length bytes ≤ at → pages_of bytes ≡ Ok list
all_read bytes at list read past =
    read.same ∙ ap (with_pages read.more list) (drop_all at bytes past) ∙ nothing_left read.more list

-- what a slice to the end holds
pub to_the_end : (bytes : List ℕ) (at : ℕ) → take (length bytes - at) (drop at bytes) ≡ drop at bytes
to_the_end bytes at = take_all (length bytes - at) (drop at bytes) (omega (arith, length-drop at bytes))
