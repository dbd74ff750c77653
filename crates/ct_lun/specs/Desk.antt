-- What contracts see of a logical unit.
use Rattle.std.specs.Prelude.{ℕ, List, [], Bool, not, false, ◌==◌, slice_index_or, Option}
use Rattle.std.specs.List.{find, position_or_len}
use Rattle.ct_word.specs.declared.names.LunNo.{LunNo}
use Rattle.ct_cdb.specs.declared.op.Attr2.{Attr2}
use Rattle.ct_pool.specs.Leases.{PoolState}
use Rattle.ct_matrix.specs.Queues.{TaskSet, placed_among}
use Rattle.ct_exec.specs.Controls.{ControlState, is_unrestricted, opening_control}
use Rattle.ct_lun.specs.declared.slot.Slot.{Slot}

-- the control; the task set; its commands in queue order, each with its task; the pool; the blocks of the medium, and
-- how often that failed
pub record Desk : Type 0 where
  pub control : ControlState
  pub set : TaskSet
  pub slots : List Slot
  pub pool : PoolState
  pub blocks : List (List ℕ)
  pub faults : ℕ

-- what is read at a place where no slot is
abbrev pub blank : Slot
blank = record {
  no = 0;
  nexus = record { port = 0; init = 0 };
  tag = record { 0 = 0 };
  begun = false;
  task = record {
    plan = record { operations = []; need = 0 };
    lease = record { key = 0; count = 0 };
    body = record { items = []; room = 0 };
    done = 0;
  };
}

abbrev pub slot_at : List Slot → ℕ → Slot
slot_at slots at = slice_index_or slots at blank

abbrev pub number_of : Slot → ℕ
number_of slot = slot.no

abbrev pub key_of : Slot → ℕ
key_of slot = slot.task.lease.key

-- the slot with a number, and where it stands, or the length
abbrev pub slot_of : ℕ → List Slot → Option Slot
slot_of number slots = find (λ (slot : Slot). slot.no == number) slots

abbrev pub place_of : ℕ → List Slot → ℕ
place_of number slots = position_or_len (λ (slot : Slot). slot.no == number) slots

-- the command of a slot waits
abbrev pub waits : Slot → Bool
waits slot = not slot.begun

-- where the first slot stands whose command waits, or the length
abbrev pub waiting_from : List Slot → ℕ
waiting_from slots = position_or_len waits slots

-- the place of a new command
abbrev pub placed_slot : Attr2 → Slot → List Slot → List Slot
placed_slot attr new slots = placed_among waits attr new slots

-- a unit with another control
abbrev pub with_control : Desk → ControlState → Desk
with_control desk control = record desk {
  control = control;
  set = record desk.set { unrestricted = is_unrestricted control };
}

-- a unit as it is opened
abbrev pub opened_desk : LunNo → ℕ → ℕ → List (List ℕ) → ℕ → Desk
opened_desk lun depth pool blocks faults = record {
  control = opening_control lun;
  set = record { commands = []; depth = depth; unrestricted = is_unrestricted (opening_control lun) };
  slots = [];
  pool = record { size = pool; contexts = depth; free = pool; leases = [] };
  blocks = blocks;
  faults = faults;
}
