-- The blocks and data beside the journal: each `moved` makes its operations, in order.
use Rattle.std.specs.Prelude.{◌≡◌, ℕ, List, [], ◌∷◌, ◌++◌, length, take, drop, Bool, true, false, ◌==◌}
use Rattle.std.specs.Prelude.{Option, None, Some}
use Rattle.ct_sense.specs.declared.reply.Reply.{Reply}
use Rattle.ct_plan.specs.Cells.{Cells, Progress, performed}
use Rattle.ct_book.specs.declared.work.Command.{Command}
use Rattle.ct_book.specs.declared.work.Work.TheVariants as work
use Rattle.ct_book.specs.declared.event.Event.{Event}
use Rattle.ct_book.specs.declared.event.Event.TheVariants as event
use Rattle.ct_book.specs.declared.event.Logged.{Logged}
use Rattle.ct_book.specs.Journals.{KeptWork}
use Rattle.ct_exec.specs.Controls.{opening_disk}
use Rattle.ct_exec.specs.Executions.{plan_in, reply_moved}
use Rattle.ct_machine.specs.declared.act.Opening.{Opening}
use Rattle.ct_machine.specs.Runs.{replay}
use Rattle.ct_machine.specs.Serial.{serial_disk}
use Rattle.ct_machine.specs.Laws.Journals.{Each, has, is_begin, made_by, work_in, IsCommandOf, AtEnd}

-- the blocks, and of one command the data so far and the difference that it found
abbrev pub progress_made : Command → ℕ → ℕ → Cells → ℕ → Progress
progress_made command made count cells blocks =
    performed command.out (take count (drop made (plan_in blocks command))) cells

pub record Beside : Type 0 where
  pub blocks : List (List ℕ)
  pub got : List ℕ
  pub difference : Option ℕ

abbrev pub kept_if : Bool → Progress → Beside → Beside
kept_if true progress beside =
    record { blocks = progress.cells.blocks; got = progress.cells.got; difference = progress.difference }
kept_if false progress beside = record beside { blocks = progress.cells.blocks }

abbrev pub moved_beside : ℕ → ℕ → ℕ → ℕ → Option KeptWork → Beside → Beside
moved_beside wanted number made count (Some (work.Cmd command)) beside =
    let cells : Cells = record { blocks = beside.blocks; got = beside.got } in
    kept_if (number == wanted) (progress_made command made count cells (length beside.blocks)) beside
moved_beside wanted number made count _ beside = beside

abbrev pub beside_after : ℕ → List Logged → Event → Beside → Beside
beside_after wanted before (event.Moved number count) beside =
    moved_beside wanted number (made_by number before) count (work_in number before) beside
beside_after wanted before (event.Came number node line) beside = beside
beside_after wanted before (event.Enter number) beside = beside
beside_after wanted before (event.Turned number) beside = beside
beside_after wanted before (event.Begun number) beside = beside
beside_after wanted before (event.Granted number) beside = beside
beside_after wanted before (event.Ended number) beside = beside
beside_after wanted before (event.Cut number puts why told) beside = beside
beside_after wanted before (event.Asked number) beside = beside
beside_after wanted before (event.Closed number outcome) beside = beside
beside_after wanted before (event.Deliver node kind number) beside = beside

abbrev pub beside_behind : ℕ → List Logged → Beside → List Logged → Beside
beside_behind wanted before beside [] = beside
beside_behind wanted before beside (logged ∷ journal) =
    beside_behind wanted (before ++ logged ∷ []) (beside_after wanted before logged.event beside) journal

-- each `moved` makes its operations on the cells, in order; what the command with a number got and found meanwhile
unfoldable pub beside : Opening → ℕ → List Logged → Beside
beside o wanted journal =
    let opened : Beside = record { blocks = (opening_disk o.lun o.blocks).blocks; got = []; difference = None } in
    beside_behind wanted [] opened journal

-- the reply of a command that moved has the data that it got from the cells, or the first difference that it found
abbrev pub RepliesByCells : Opening → List Logged → Option Reply → ℕ → Type 0
RepliesByCells o before replied number =
    has (is_begin number) before ≡ true →
    let found = beside o number before in
    replied ≡ Some (reply_moved (serial_disk o before).control found.difference found.got)

-- a command that found a difference isn't moved on, nor cut; one that ends behind its begin without a difference made
-- its whole plan
abbrev pub MakesPlanAt : Opening → List Logged → Event → Type 0
MakesPlanAt o before (event.Moved number count) = (beside o number before).difference ≡ None
MakesPlanAt o before (event.Cut number puts why told) = (beside o number before).difference ≡ None
MakesPlanAt o before (event.Ended number) =
    has (is_begin number) before ≡ true → (beside o number before).difference ≡ None →
    (command : Command) → IsCommandOf before number command → made_by number before ≡ length (plan_in o.blocks command)
MakesPlanAt o before (event.Came number node line) = Unit {0}
MakesPlanAt o before (event.Enter number) = Unit {0}
MakesPlanAt o before (event.Turned number) = Unit {0}
MakesPlanAt o before (event.Begun number) = Unit {0}
MakesPlanAt o before (event.Granted number) = Unit {0}
MakesPlanAt o before (event.Asked number) = Unit {0}
MakesPlanAt o before (event.Closed number outcome) = Unit {0}
MakesPlanAt o before (event.Deliver node kind number) = Unit {0}

abbrev pub MakesPlans : Opening → List Logged → Type 0
MakesPlans o journal = Each (λ before logged. MakesPlanAt o before logged.event) journal

-- replies and blocks are those of the cells
pub record IsByCells (o : Opening) (journal : List Logged) : Type 0 where
  pub replies : Each (λ before logged. AtEnd (RepliesByCells o before logged.reply) logged.event) journal
  pub blocks : (replay o journal).blocks ≡ (beside o 0 journal).blocks
