-- The disk that one logical unit is: its blocks, and all else, which is called its control.
use Rattle.std.specs.Prelude.{ℕ, List, Bool, true, false, replicate}
use Rattle.ct_word.specs.declared.names.LunNo.{LunNo}
use Rattle.ct_pages.specs.declared.pages.ModePages.{ModePages}
use Rattle.ct_pages.specs.Pages.{default_pages}
use Rattle.ct_ua.specs.declared.code_set.CodeSet.{CodeSet}
use Rattle.ct_ua.specs.Attentions.{power_on_attentions}
use Rattle.ct_resv.specs.declared.reservations.Reservations.{Reservations}
use Rattle.ct_resv.specs.Registering.{no_reservations}

-- all of a disk but its blocks: the number of the logical unit, its mode pages (SPC-4, 7.5), the unit attentions of
-- each nexus (SAM-5, 5.14), whether the unit is started (SBC-3, START STOP UNIT), and its persistent reservations
-- (SPC-4, 5.12)
pub record ControlState : Type 0 where
  pub lun : LunNo
  pub pages : ModePages
  pub attentions : List CodeSet
  pub is_started : Bool
  pub reservations : Reservations

-- a disk (SBC-3, clause 4): its control and its blocks, each a list of 512 bytes
pub record Disk : Type 0 where
  pub control : ControlState
  pub blocks : List (List ℕ)

-- QUEUE ALGORITHM MODIFIER says that reordering is unrestricted (SPC-4, Control mode page)
unfoldable pub is_unrestricted : ControlState → Bool
is_unrestricted control = control.pages.free_order

-- D_SENSE says that sense data have the descriptor form (SPC-4, Control mode page)
unfoldable pub has_descriptors : ControlState → Bool
has_descriptors control = control.pages.descriptor

-- TAS says that a command that another nexus aborts ends with TASK ABORTED (SPC-4, Control mode page)
unfoldable pub tells_aborts : ControlState → Bool
tells_aborts control = control.pages.tas

-- a disk as it is opened: the mode pages have their default values, power came on, the unit is started, nothing is
-- reserved, and the blocks are zeros
abbrev pub opening_control : LunNo → ControlState
opening_control lun = record {
  lun = lun;
  pages = default_pages;
  attentions = power_on_attentions;
  is_started = true;
  reservations = no_reservations;
}

abbrev pub opening_disk : LunNo → ℕ → Disk
opening_disk lun blocks = record { control = opening_control lun; blocks = replicate blocks (replicate 512 0) }
