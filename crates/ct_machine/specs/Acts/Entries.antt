-- A command enters the task set, or is refused.
use Rattle.std.specs.Prelude.{ℕ, List, length, map, Option, None, Some}
use Rattle.ct_sense.specs.declared.reply.Reply.{Reply}
use Rattle.ct_book.specs.declared.work.Command.{Command}
use Rattle.ct_book.specs.declared.event.Event.TheVariants as event
use Rattle.ct_exec.specs.Executions.{need_in}
use Rattle.ct_machine.specs.States.{Task, State, free_blocks}
use Rattle.ct_machine.specs.Entrances.{Member, Standing, sender_of, entrance_of, refusal_at}
use Rattle.ct_machine.specs.Acts.Turns.{Turn, says, replies}

abbrev pub member_of : Task → Member
member_of task = record { no = task.no; command = task.command }

abbrev pub members_of : List Task → List Member
members_of tasks = map member_of tasks

abbrev pub standing_of : State → Standing
standing_of s = record {
  depth = s.depth;
  members = members_of s.tasks;
  free = free_blocks s;
  functions = length s.functions;
}

-- why a command is refused at its arrival, if it is
unfoldable pub turned_cause : State → Command → Option Reply
turned_cause s command = refusal_at (entrance_of (standing_of s)) s.control (sender_of command) (need_in (length s.blocks) command)

abbrev pub entering_with : Option Reply → ℕ → State → Turn
entering_with (Some reply) number s = replies (event.Turned number) reply s
entering_with None number s = says (event.Enter number) s

abbrev pub entering : ℕ → Command → State → Turn
entering number command s = entering_with (turned_cause s command) number s
