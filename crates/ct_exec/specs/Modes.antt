-- What MODE SELECT makes of its parameter list (SPC-4, MODE SELECT), and the faults of all parameter lists.
use Rattle.std.specs.Prelude.{ℕ, List, take, Bool, true, false, if◌then◌else◌, Option, None, Some, Result, Ok, Err}
use Rattle.ct_word.specs.declared.names.Nexus.{Nexus}
use Rattle.ct_word.specs.declared.names.Code.TheVariants.{ModeChanged}
use Rattle.ct_cdb.specs.declared.op.Form.{Form}
use Rattle.ct_cdb.specs.declared.op.Form.TheVariants.{Six, Ten, Twelve, Sixteen}
use Rattle.ct_cdb.specs.declared.op.Op.{Op}
use Rattle.ct_cdb.specs.declared.op.Op.TheVariants as op
use Rattle.ct_param.specs.declared.fault.ListFault.{ListFault}
use Rattle.ct_param.specs.declared.mode.ModeList.{ModeList}
use Rattle.ct_param.specs.ModeLists.{mode_list_of, is_empty}
use Rattle.ct_param.specs.UnmapLists.{unmap_list_of}
use Rattle.ct_pages.specs.declared.pages.ModePages.{ModePages}
use Rattle.ct_pages.specs.Selects.{selected_pages}
use Rattle.ct_ua.specs.Attentions.{after_raise_for_others}
use Rattle.ct_exec.specs.Controls.{ControlState}
use Rattle.ct_exec.specs.Reserving.{reserve_list}

-- the parameter list is in the first bytes of the data-out; that of the 10-byte command has the long header
abbrev pub is_long : Form → Bool
is_long Six = false
is_long Ten = true
is_long Twelve = true
is_long Sixteen = true

abbrev pub mode_list : Form → ℕ → List ℕ → Result ModeList ListFault
mode_list form size out = mode_list_of (is_long form) (take size out)

-- the values of the pages behind a list
abbrev pub pages_behind : ModePages → Result ModeList ListFault → Result ModePages ListFault
pages_behind pages (Ok list) = selected_pages pages list
pages_behind pages (Err fault) = Err fault

-- the fault of a list: one of its bytes alone, of a page that would change what can't be changed, or of a range that
-- isn't on the disk
abbrev pub fault_of : {T : Type 0} → Result T ListFault → Option ListFault
fault_of (Ok list) = None
fault_of (Err fault) = Some fault

-- the fault of a command's parameter list, on a disk of so many blocks
abbrev pub list_fault : ModePages → ℕ → List ℕ → Op → Option ListFault
list_fault pages blocks out (op.ModeSelect form list) = fault_of (pages_behind pages (mode_list form list out))
list_fault pages blocks out (op.PersistentReserveOut asked size) = fault_of (reserve_list size out)
list_fault pages blocks out (op.Unmap list) = fault_of (unmap_list_of blocks (take list out))
list_fault pages blocks out _ = None

-- the control behind a list: all its pages count, and where it has one every other nexus is told of it
abbrev pub with_pages : ControlState → Nexus → ModeList → Result ModePages ListFault → ControlState
with_pages control nexus list (Ok pages) = record control {
  pages = pages;
  attentions =
      if is_empty list then control.attentions else after_raise_for_others control.attentions nexus ModeChanged;
}
with_pages control nexus list (Err fault) = control

abbrev pub after_list : ControlState → Nexus → Result ModeList ListFault → ControlState
after_list control nexus (Ok list) = with_pages control nexus list (selected_pages control.pages list)
after_list control nexus (Err fault) = control
