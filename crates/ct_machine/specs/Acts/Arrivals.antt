-- A work comes.
use Rattle.std.specs.Prelude.{ℕ, ◌+◌, length, Bool, ◌&&◌, nat_lt, nat_le, if◌then◌else◌, is_some}
use Rattle.ct_word.specs.declared.names.Node.{Node}
use Rattle.ct_tmf.specs.declared.function.Ask.{Ask}
use Rattle.ct_book.specs.declared.work.Work.TheVariants as work
use Rattle.ct_book.specs.Journals.{KeptWork, arrived}
use Rattle.ct_exec.specs.Executions.{plan_in}
use Rattle.ct_machine.specs.declared.act.Answer.TheVariants as answer
use Rattle.ct_machine.specs.States.{State, is_remote}
use Rattle.ct_machine.specs.Acts.Turns.{writes, followed}
use Rattle.ct_machine.specs.Acts.Entries.{turned_cause, entering}
use Rattle.ct_machine.specs.Acts.Functions.{asking}
use Rattle.ct_machine.specs.Acts.Answers.{Done, unchanged, asked_answer}

-- the work that comes next has this number
abbrev pub next_number : State → ℕ
next_number s = length s.arrivals + 1

-- there is room for one more work, and for the block operations of its plan
abbrev pub has_room_for : KeptWork → State → Bool
has_room_for (work.Cmd command) s = nat_lt 0 s.room.commands && nat_le (length (plan_in (length s.blocks) command)) s.room.pieces
has_room_for (work.Ask ask) s = nat_lt 0 s.room.functions

abbrev pub arriving_here : Node → KeptWork → ℕ → State → Done
arriving_here node (work.Cmd command) number s = record {
  turn = followed (writes (arrived number node (work.Cmd command)) s) (entering number command);
  answer = if is_some (turned_cause s command) then answer.Turned number else answer.Queued number;
}
arriving_here node (work.Ask ask) number s =
    let turn = followed (writes (arrived number node (work.Ask ask)) s) (asking number ask) in
    record { turn = turn; answer = asked_answer number turn.journal }

abbrev pub arriving_at : Node → KeptWork → ℕ → State → Done
arriving_at node came number s =
    if is_remote node then record { turn = writes (arrived number node came) s; answer = answer.Sent number }
    else arriving_here node came number s

abbrev pub arriving : Node → KeptWork → State → Done
arriving node came s =
    if has_room_for came s then arriving_at node came (next_number s) s
    else unchanged (answer.NoRoom came) s
