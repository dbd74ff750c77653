-- What the run of the machine needs to know of the commands.
use Rattle.std.proofs.Common.{◌≡◌, ℕ, Bool, true, false, List, [], length, Option, None, Some}
use Rattle.ct_word.specs.declared.names.Nexus.{Nexus}
use Rattle.ct_word.specs.Nexuses.{no_nexuses, contains}
use Rattle.ct_sense.specs.declared.reply.Reply.{Reply}
use Rattle.ct_tmf.specs.declared.function.Ask.{Ask}
use Rattle.ct_tmf.specs.Reaches.{hits}
use Rattle.ct_plan.specs.declared.operation.BlockOp.{BlockOp}
use Rattle.ct_plan.specs.Cells.{performed}
use Rattle.ct_matrix.specs.declared.held.Held.{Held}
use Rattle.ct_matrix.specs.Conflicts.{conflicts, skips}
use Rattle.ct_book.specs.declared.work.Command.{Command}
use Rattle.ct_exec.specs.Controls.{ControlState, Disk, is_unrestricted, tells_aborts}
use Rattle.ct_exec.specs.Closing.{closing_control}
use Rattle.ct_exec.specs.Executions.{Execution, execute, refusal_of, plan_in, reply_moved}
use Rattle.ct_machine.specs.States.{held_by}
use Rattle.ct_law.proofs.Cells.Blocks.{uses, puts, start}

-- neither puts where the other goes
pub record Apart (ps qs : List BlockOp) : Type 0 where
  pub first : (lba : ℕ) → puts lba ps ≡ true → uses lba qs ≡ false
  pub second : (lba : ℕ) → puts lba qs ≡ true → uses lba ps ≡ false

abbrev pub has_operations : List BlockOp → Bool
has_operations [] = false
has_operations _ = true

-- the operations of a command, with its reply
abbrev pub operated : Disk → Command → List BlockOp → Execution
operated disk c ops =
    let p = performed c.out ops (start disk.blocks) in
    record {
      disk = record { control = disk.control; blocks = p.cells.blocks };
      reply = reply_moved disk.control p.difference p.cells.got;
      cleared = no_nexuses;
    }

-- a command that is refused or makes no operation
abbrev pub IsOnce : Option Reply → List BlockOp → Type 0
IsOnce (Some reply) ops = Unit {0}
IsOnce None ops = ops ≡ []

-- a command that does the same to a disk with this control and these blocks, and leaves both lists of blocks
pub record Same (disk : Disk) (now : ControlState) (bs : List (List ℕ)) (c : Command) : Type 0 where
  pub control : (execute disk c).disk.control ≡ (execute (record { control = now; blocks = bs }) c).disk.control
  pub reply : (execute (record { control = now; blocks = bs }) c).reply ≡ (execute disk c).reply
  pub cleared : (execute (record { control = now; blocks = bs }) c).cleared ≡ (execute disk c).cleared
  pub disk_blocks : (execute disk c).disk.blocks ≡ disk.blocks
  pub blocks : (execute (record { control = now; blocks = bs }) c).disk.blocks ≡ bs

-- the commands of a disk of n blocks
pub record Laws : Type 0 where
  -- under the restricted modifier what doesn't conflict goes apart
  pub apart : (n : ℕ) (a b : Command) (x y : Bool) → conflicts false (held_by n a x) (held_by n b y) ≡ false →
      Apart (plan_in n a) (plan_in n b)
  -- under either what doesn't conflict with a command that moves blocks leaves it allowed
  pub allowed : (unrestricted : Bool) (n : ℕ) (a b : Command) (x y : Bool) (disk : Disk) →
      conflicts unrestricted (held_by n a x) (held_by n b y) ≡ false → has_operations (plan_in n a) ≡ true →
      refusal_of disk.control n a ≡ None → refusal_of (execute disk b).disk.control n a ≡ None
  -- a command that moves blocks does at once what its operations do
  pub whole : (n : ℕ) (disk : Disk) (c : Command) → length disk.blocks ≡ n → refusal_of disk.control n c ≡ None →
      has_operations (plan_in n c) ≡ true → execute disk c ≡ operated disk c (plan_in n c)
  -- any other leaves the blocks, whatever they are
  pub once : (n : ℕ) (disk : Disk) (now : ControlState) (blocks : List (List ℕ)) (c : Command) →
      length disk.blocks ≡ n → length blocks ≡ n → now ≡ disk.control → IsOnce (refusal_of now n c) (plan_in n c) →
      Same disk now blocks c
  -- no command changes the number of blocks
  pub sizes : (disk : Disk) (c : Command) → length (execute disk c).disk.blocks ≡ length disk.blocks
  -- a skip is no conflict
  pub skipped : (unrestricted : Bool) (a b : Held) → skips a b ≡ true → conflicts unrestricted a b ≡ false
  -- what a function doesn't hit it leaves allowed
  pub spared : (ask : Ask) (others : List Bool) (control : ControlState) (n : ℕ) (a : Command) →
      hits ask a.nexus a.tag ≡ false → refusal_of control n a ≡ None →
      refusal_of (closing_control ask others control) n a ≡ None
  -- nor does that function change the modifier
  pub spared_order : (ask : Ask) (others : List Bool) (control : ControlState) (a : Command) →
      hits ask a.nexus a.tag ≡ false →
      is_unrestricted (closing_control ask others control) ≡ is_unrestricted control
  -- under either modifier what doesn't conflict with a command that moves blocks clears no nexus, nor does that command
  pub unclearing : (unrestricted : Bool) (n : ℕ) (a b : Command) (x y : Bool) (disk : Disk) (nexus : Nexus) →
      conflicts unrestricted (held_by n a x) (held_by n b y) ≡ false → has_operations (plan_in n a) ≡ true →
      contains (execute disk b).cleared nexus ≡ false
  pub moving_clears : (n : ℕ) (disk : Disk) (c : Command) (nexus : Nexus) → length disk.blocks ≡ n →
      has_operations (plan_in n c) ≡ true → contains (execute disk c).cleared nexus ≡ false
  -- under either modifier what doesn't conflict with a command that moves blocks leaves the modifier
  pub reorders : (unrestricted : Bool) (n : ℕ) (a b : Command) (x y : Bool) (disk : Disk) →
      conflicts unrestricted (held_by n a x) (held_by n b y) ≡ false → has_operations (plan_in n a) ≡ true →
      is_unrestricted (execute disk b).disk.control ≡ is_unrestricted disk.control
  -- what clears a nexus leaves TAS
  pub clears_told : (disk : Disk) (c : Command) (nexus : Nexus) → contains (execute disk c).cleared nexus ≡ true →
      tells_aborts (execute disk c).disk.control ≡ tells_aborts disk.control
