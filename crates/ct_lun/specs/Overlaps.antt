-- Why a command is refused at its arrival, as the unit finds it.
use Rattle.std.specs.Prelude.{ℕ, List, length, Bool, Option}
use Rattle.std.specs.List.{list_any}
use Rattle.ct_sense.specs.declared.reply.Reply.{Reply}
use Rattle.ct_machine.specs.Entrances.{Sender, Entrance, is_same_sender, refusal_at}
use Rattle.ct_lun.specs.declared.slot.Slot.{Slot}
use Rattle.ct_lun.specs.Desk.{Desk}

abbrev pub sender_of_slot : Slot → Sender
sender_of_slot slot = record { nexus = slot.nexus; tag = slot.tag }

-- a command of this sender is among them
abbrev pub is_sent_by : Sender → List Slot → Bool
is_sent_by sender slots = list_any (λ slot. is_same_sender sender (sender_of_slot slot)) slots

abbrev pub entrance_by : Desk → Entrance
entrance_by desk = record {
  depth = desk.set.depth;
  held = length desk.set.commands;
  has = λ sender. is_sent_by sender desk.slots;
  free = desk.pool.free;
}

-- why a command of this sender that needs so many blocks is refused, if it is
abbrev pub cause_by : Desk → Sender → ℕ → Option Reply
cause_by desk sender need = refusal_at (entrance_by desk) desk.control sender need
