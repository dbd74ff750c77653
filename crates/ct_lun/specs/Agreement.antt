-- What a unit and its book have to do with each other.
use Rattle.std.specs.Prelude.{◌≡◌, ℕ, ◌+◌, ◌<◌, ◌≤◌, List, [], length, map, true, false, Option, None, Some}
use Rattle.std.specs.List.{sum_by}
use Rattle.ct_word.specs.declared.limit.TheConstants.{MOST_BLOCKS}
use Rattle.ct_sense.specs.declared.reply.Reply.{Reply}
use Rattle.ct_pool.specs.Leases.{PoolState, leases_out}
use Rattle.ct_plan.specs.Tasks.{IsReady}
use Rattle.ct_book.specs.declared.work.Work.TheVariants as work
use Rattle.ct_book.specs.Works.{room_for}
use Rattle.ct_book.specs.Journals.{KeptWork, BookState, numbered}
use Rattle.ct_exec.specs.Executions.{plan_in, need_in}
use Rattle.ct_machine.specs.States.{Task, task_set_of}
use Rattle.ct_lun.specs.declared.slot.Slot.{Slot}
use Rattle.ct_lun.specs.Apart.{Each, IsApart}
use Rattle.ct_lun.specs.Desk.{Desk, number_of, key_of}
use Rattle.ct_lun.specs.States.{command_in, state_of}

-- nothing was done for a command yet, and there is room for its data
pub record IsFresh (cdb : List ℕ) (slot : Slot) : Type 0 where
  pub none : slot.task.done ≡ 0
  pub empty : slot.task.body.items ≡ []
  pub room : room_for cdb ≤ slot.task.body.room

-- a slot of a unit with so many blocks, and what stands under its number
pub record SlotAgrees (blocks : ℕ) (pool : PoolState) (works : List KeptWork) (replies : List (Option Reply)) (slot : Slot) : Type 0 where
  pub command : numbered slot.no works ≡ Some (work.Cmd (command_in works slot.no))
  pub reply : numbered slot.no replies ≡ Some None
  pub nexus : slot.nexus ≡ (command_in works slot.no).nexus
  pub tag : slot.tag ≡ (command_in works slot.no).tag
  pub operations : slot.task.plan.operations ≡ plan_in blocks (command_in works slot.no)
  pub need : slot.task.plan.need ≡ need_in blocks (command_in works slot.no)
  pub ready : IsReady (length (command_in works slot.no).out) blocks pool slot.task
  pub waits : slot.begun ≡ false → IsFresh (command_in works slot.no).cdb slot

-- a command that began is not at the end of its plan
abbrev pub IsLeft : Slot → Type 0
IsLeft slot = slot.begun ≡ true → slot.task.done < length slot.task.plan.operations

-- the task set is the machine's, each of its commands is that of the book, has no reply yet and leases what it needs,
-- and the other blocks of the pool are free
pub record Agrees (desk : Desk) (book : BookState) : Type 0 where
  pub few : length desk.blocks ≤ MOST_BLOCKS
  pub set : desk.set ≡ task_set_of (state_of desk book)
  pub each : Each (SlotAgrees (length desk.blocks) desk.pool book.works book.replies) desk.slots
  pub numbers : IsApart (map number_of desk.slots)
  pub keys : IsApart (map key_of desk.slots)
  pub free : desk.pool.free + sum_by (λ (task : Task). need_in (length desk.blocks) task.command) (state_of desk book).tasks ≡ desk.pool.size
  pub out : leases_out desk.pool ≡ length desk.slots
  pub contexts : desk.pool.contexts ≡ desk.set.depth

-- the unit agrees with the book between two calls
pub record AgreesWith (desk : Desk) (book : BookState) : Type 0 where
  pub base : Agrees desk book
  pub left : Each IsLeft desk.slots
