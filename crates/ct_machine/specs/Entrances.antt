-- What a logical unit stands at, for those who judge what comes next, and why a command is refused at its arrival.
use Rattle.std.specs.Prelude.{ℕ, List, [], length, Bool, false, ◌&&◌, ◌==◌, nat_le, nat_lt, if◌then◌else◌, Option, None, Some}
use Rattle.std.specs.List.{list_any}
use Rattle.ct_word.specs.declared.names.Nexus.{Nexus}
use Rattle.ct_word.specs.declared.names.Tag.{Tag}
use Rattle.ct_word.specs.Nexuses.{is_same_nexus}
use Rattle.ct_sense.specs.declared.code.TheConstants.{OVERLAPPED_COMMANDS_ATTEMPTED}
use Rattle.ct_sense.specs.declared.reply.Reply.{Reply}
use Rattle.ct_sense.specs.declared.reply.Status.{Status}
use Rattle.ct_sense.specs.declared.reply.Status.TheVariants.{Busy, TaskSetFull}
use Rattle.ct_book.specs.declared.work.Command.{Command}
use Rattle.ct_exec.specs.Controls.{ControlState}
use Rattle.ct_exec.specs.Executions.{check_condition}

-- who sent a command, and under which tag (SAM-5, 4.8: the I_T_L_Q nexus, for one logical unit)
pub record Sender : Type 0 where
  pub nexus : Nexus
  pub tag : Tag

abbrev pub sender_of : Command → Sender
sender_of command = record { nexus = command.nexus; tag = command.tag }

abbrev pub is_same_sender : Sender → Sender → Bool
is_same_sender a b = is_same_nexus a.nexus b.nexus && (a.tag.0 == b.tag.0)

-- what decides on an arrival, beside the control: how many commands the task set can hold, how many it holds, whether it
-- holds one of a sender, and how many blocks of the pool are free
pub record Entrance : Type 0 where
  pub depth : ℕ
  pub held : ℕ
  pub has : Sender → Bool
  pub free : ℕ

-- a command of the task set, with its number
pub record Member : Type 0 where
  pub no : ℕ
  pub command : Command

-- what a logical unit stands at: how many commands its task set can hold, those that it holds, in queue order, how many
-- blocks of the pool are free, and how many task management functions are open
pub record Standing : Type 0 where
  pub depth : ℕ
  pub members : List Member
  pub free : ℕ
  pub functions : ℕ

abbrev pub entrance_of : Standing → Entrance
entrance_of standing = record {
  depth = standing.depth;
  held = length standing.members;
  has = λ sender. list_any (λ (member : Member). is_same_sender sender (sender_of member.command)) standing.members;
  free = standing.free;
}

abbrev pub with_status : Status → Reply
with_status status = record { status = status; sense = None; descriptor = false; body = [] }

-- why a command that needs so many blocks is refused at its arrival: OVERLAPPED COMMANDS ATTEMPTED where a command of its
-- nexus and tag is in the task set (SAM-5, 5.10), TASK SET FULL (5.3.1) where that holds all it can, BUSY where the pool
-- has fewer free blocks than the command needs
abbrev pub refusal_at : Entrance → ControlState → Sender → ℕ → Option Reply
refusal_at entrance control sender need =
    if entrance.has sender then Some (check_condition control OVERLAPPED_COMMANDS_ATTEMPTED None)
    else if nat_le entrance.depth entrance.held then Some (with_status TaskSetFull)
    else if nat_lt entrance.free need then Some (with_status Busy)
    else None
