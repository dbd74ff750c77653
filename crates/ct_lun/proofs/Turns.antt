-- What the machine writes of a command that moves, or is over at once.
use Rattle.std.proofs.Common.{◌≡◌, ℕ, zero, suc, ◌+◌, ◌≤◌, List, [], ◌∷◌, ◌++◌, Bool, true, false, ◌&&◌, ◌==◌, nat_le}
use Rattle.std.proofs.Common.{if◌then◌else◌, Option, Some, None, option_map, length, take, drop, slice_get}
use Rattle.std.proofs.Common.{slice_index_or, replicate, refl, sym, ap, ◌∙◌, arith, length-take, take-take}
use Rattle.std.specs.List.{list_any}
use Rattle.ct_word.specs.declared.names.Nexus.{Nexus}
use Rattle.ct_word.specs.Nexuses.{no_nexuses, contains, place_of}
use Rattle.ct_sense.specs.declared.reply.Reply.{Reply}
use Rattle.ct_plan.specs.declared.operation.BlockOp.{BlockOp}
use Rattle.ct_plan.specs.declared.operation.BlockOp.TheVariants as operations
use Rattle.ct_plan.specs.declared.task.Task.{Task as PlanTask}
use Rattle.ct_plan.specs.declared.task.Piece.{Piece}
use Rattle.ct_plan.specs.declared.task.PieceEnd.{PieceEnd}
use Rattle.ct_plan.specs.declared.task.PieceEnd.TheVariants.{All, Miscompare}
use Rattle.ct_plan.specs.Plans.{puts_among}
use Rattle.ct_plan.specs.Cells.{Cells, Progress, performed, after_all}
use Rattle.ct_plan.specs.Pieces.{Advances, tried, fault_of, end_of}
use Rattle.ct_plan.specs.Tasks.{cells_of}
use Rattle.ct_plan.proofs.Steps.{moved_within, cells_moved}
use Rattle.ct_book.specs.declared.event.Event.TheVariants as event
use Rattle.ct_book.specs.declared.event.Why.TheVariants.{Medium}
use Rattle.ct_book.specs.declared.event.Logged.{Logged}
use Rattle.ct_exec.specs.Executions.{good, reply_failed, plan_in}
use Rattle.ct_machine.specs.declared.act.Answer.TheVariants as answer
use Rattle.ct_machine.specs.States.{Stage, Task, State, at_stage, is_waiting, task_of, arrival_of}
use Rattle.ct_machine.specs.Events.{after_events}
use Rattle.ct_machine.specs.Events.Ends.{is_cleared}
use Rattle.ct_machine.specs.Acts.Turns.{Turn, followed}
use Rattle.ct_machine.specs.Acts.Moves.{moving_on, moved_to, failing, moving_from}
use Rattle.ct_machine.specs.Acts.Answers.{ends, moved_answer}
use Rattle.ct_machine.specs.Acts.Answers.{line_by}
use Rattle.ct_machine.specs.Acts.Begins.{clearing, clearing_all}
use Rattle.ct_lun.specs.Calls.{told, replied, moved_journal}
use Rattle.ct_lun.proofs.Lists.{equal_number}

-- the difference at which a piece ended
abbrev pub difference_of : Option PieceEnd → Option ℕ
difference_of (Some (Miscompare offset)) = Some offset
difference_of _ = None

pub difference_kept : (task : PlanTask) (ops : List BlockOp) (fault difference : Option ℕ)
    → difference_of (end_of task ops fault difference) ≡ difference
difference_kept task ops fault (Some offset) = refl
difference_kept task ops None None = go (task.done == length task.plan.operations)
  where
    go : (test : Bool) → difference_of (if test then Some All else None) ≡ None
    go true = refl
    go false = refl
difference_kept task ops (Some place) None = go (slice_get ops place)
  where
    go : (operation : Option BlockOp) → difference_of (option_map fault_of operation) ≡ None
    go None = refl
    go (Some (operations.Get lba)) = refl
    go (Some (operations.Look lba)) = refl
    go (Some (operations.Put lba place)) = refl
    go (Some (operations.Zero lba)) = refl
    go (Some (operations.Compare lba place)) = refl

-- a piece came as far as the operations that the machine tries

pub piece_progress : (out : List ℕ) (ops : List BlockOp) (old new : PlanTask) (before after : List (List ℕ))
    → (piece : Piece) (fault : Option ℕ) → Advances out ops old new before after piece fault
    → performed out (tried ops fault) (cells_of before old)
    ≡ record {
      made = piece.moved;
      difference = difference_of piece.end;
      cells = cells_of after new;
    }
piece_progress out ops old new before after piece fault a =
    let far : Progress = performed out (tried ops fault) (cells_of before old) in
    let difference : difference_of piece.end ≡ far.difference =
    ap difference_of a.end ∙ difference_kept new ops fault far.difference in
    rw (a.moved, a.blocks, a.got, difference) refl

-- what a piece of so many operations did
pub record Made (out : List ℕ) (xs : List BlockOp) (k : ℕ) (before after : Cells) : Type 0 where
  pub cells : after_all out (take k xs) before ≡ after
  pub few : k ≤ length xs

pub made_by : (out : List ℕ) (xs : List BlockOp) (count : ℕ) (old new : PlanTask) (before after : List (List ℕ))
    → (piece : Piece) (fault : Option ℕ) → Advances out (take count xs) old new before after piece fault
    → Made out xs piece.moved (cells_of before old) (cells_of after new)
made_by out xs count old new before after piece fault a =
    let few = moved_within out (take count xs) old new before after piece fault a in
    let front : take piece.moved (take count xs) ≡ take piece.moved xs =
    take-take piece.moved count xs (omega (arith, few, length-take count xs)) in
    record {
      cells = ap (λ ops. after_all out ops (cells_of before old)) (sym front)
          ∙ sym (cells_moved out (take count xs) old new before after piece fault a);
      few = omega (arith, few, length-take count xs);
    }

-- the turn of a command that moves

pub moving_on_journal : (number count : ℕ) (s : State) → (moving_on number count s).journal ≡ moved_journal number count
moving_on_journal number zero s = refl
moving_on_journal number (suc count) s = refl

pub moving_on_state : (number count : ℕ) (s : State) → (moving_on number count s).state ≡ after_events s (moved_journal number count)
moving_on_state number zero s = refl
moving_on_state number (suc count) s = refl

pub moving_at : (t : Task) (count : ℕ) (fault : Option ℕ) (done : ℕ) (got : List ℕ) (s : State) (far : Progress)
    → performed t.command.out (tried (take count (drop done (plan_in (length s.blocks) t.command))) fault)
    (record { blocks = s.blocks; got = got })
    ≡ far
    → (moving_from t count fault done got s).journal
    ≡ moved_journal t.no far.made
    ++ (moved_to far.difference (nat_le (length (plan_in (length s.blocks) t.command)) (done + far.made)) t
    (plan_in (length s.blocks) t.command) (done + far.made) far.cells.got
    (take count (drop done (plan_in (length s.blocks) t.command))) fault (moving_on t.no far.made s).state).journal
moving_at t count fault done got s far e =
    let plan : List BlockOp = plan_in (length s.blocks) t.command in
    let asked : List BlockOp = take count (drop done plan) in
    let next : Progress → State → Turn =
    λ p. moved_to p.difference (nat_le (length plan) (done + p.made)) t plan (done + p.made) p.cells.got asked fault in
    ap (λ (p : Progress). (followed (moving_on t.no p.made s) (next p)).journal) e
    ∙ ap (λ (j : List Logged). j ++ (next far (moving_on t.no far.made s).state).journal)
    (moving_on_journal t.no far.made s)

-- it goes on
pub part_journal : (t : Task) (plan : List BlockOp) (done : ℕ) (got : List ℕ) (operations : List BlockOp) (s : State) → nat_le (length plan) done ≡ false → (moved_to None (nat_le (length plan) done) t plan done got operations None s).journal ≡ []
part_journal t plan done got operations s test = rw test refl

-- it ends
pub end_journal : (t : Task) (plan : List BlockOp) (done : ℕ) (got : List ℕ) (operations : List BlockOp) (fault : Option ℕ) (s : State) → nat_le (length plan) done ≡ true → (moved_to None (nat_le (length plan) done) t plan done got operations fault s).journal ≡ replied (event.Ended t.no) (good got) ∷ []
end_journal t plan done got operations fault s test = rw test refl

-- the medium fails it
pub cut_journal : (t : Task) (plan : List BlockOp) (done : ℕ) (got : List ℕ) (operations : List BlockOp) (place : ℕ) (operation : BlockOp) (s : State) → nat_le (length plan) done ≡ false → slice_get operations place ≡ Some operation
    → (moved_to None (nat_le (length plan) done) t plan done got operations (Some place) s).journal ≡ replied (event.Cut t.no (puts_among (take done plan)) Medium false) (reply_failed s.control operation) ∷ []
cut_journal t plan done got operations place operation s test found = rw (test, found) refl

-- the stage of the task that is told doesn't count
failing_same : (t : Task) (stage : Stage) (plan : List BlockOp) (done : ℕ) (found : Option BlockOp) (s : State) → failing (at_stage stage t) plan done found s ≡ failing t plan done found s
failing_same t stage plan done None s = refl
failing_same t stage plan done (Some operation) s = refl

moved_to_same : (t : Task) (stage : Stage) (difference : Option ℕ) (ended : Bool) (plan : List BlockOp) (done : ℕ) (got : List ℕ) (operations : List BlockOp) (fault : Option ℕ) (s : State) → moved_to difference ended (at_stage stage t) plan done got operations fault s ≡ moved_to difference ended t plan done got operations fault s
moved_to_same t stage (Some offset) ended plan done got operations fault s = refl
moved_to_same t stage None true plan done got operations fault s = refl
moved_to_same t stage None false plan done got operations None s = refl
moved_to_same t stage None false plan done got operations (Some place) s = failing_same t stage plan done (slice_get operations place) s

pub moving_same : (t : Task) (stage : Stage) (count : ℕ) (fault : Option ℕ) (done : ℕ) (got : List ℕ) (s : State) → moving_from (at_stage stage t) count fault done got s ≡ moving_from t count fault done got s
moving_same t stage count fault done got s =
    let plan = plan_in (length s.blocks) t.command in
    let operations = take count (drop done plan) in
    let progress = performed t.command.out (tried operations fault) (record { blocks = s.blocks; got = got }) in
    let turn = moving_on t.no progress.made s in
    ap (λ (n : Turn). record { state = n.state; journal = turn.journal ++ n.journal }) (moved_to_same t stage progress.difference (nat_le (length plan) (done + progress.made)) plan (done + progress.made) progress.cells.got operations fault turn.state)

-- the answer

pub moved_says : (number count : ℕ) (rest : List Logged) → list_any (λ (logged : Logged). ends number logged.event) (moved_journal number count ++ rest) ≡ list_any (λ (logged : Logged). ends number logged.event) rest
moved_says number zero rest = refl
moved_says number (suc count) rest = refl

pub ended_answer : (number : ℕ) (s : State) (journal : List Logged) → list_any (λ (logged : Logged). ends number logged.event) journal ≡ true → moved_answer number s journal ≡ answer.Ended number (line_by (arrival_of number s))
ended_answer number s journal h = rw h refl

pub part_answer : (number : ℕ) (s : State) (journal : List Logged) → list_any (λ (logged : Logged). ends number logged.event) journal ≡ false → moved_answer number s journal ≡ answer.Moved number
part_answer number s journal h = rw h refl

pub ends_ended : (number : ℕ) (reply : Reply) (rest : List Logged) → list_any (λ (logged : Logged). ends number logged.event) (replied (event.Ended number) reply ∷ rest) ≡ true
ends_ended number reply rest = rw (equal_number number) refl

pub ends_cut : (number puts : ℕ) (told : Bool) (reply : Reply) → list_any (λ (logged : Logged). ends number logged.event) (replied (event.Cut number puts Medium told) reply ∷ []) ≡ true
ends_cut number puts told reply = rw (equal_number number) refl

-- a command that is refused clears no nexus

and_false : (b : Bool) → (b && false) ≡ false
and_false true = refl
and_false false = refl

none_replicated : (count place : ℕ) → slice_index_or (replicate count false) place false ≡ false
none_replicated zero place = refl
none_replicated (suc count) zero = refl
none_replicated (suc count) (suc place) = none_replicated count place

none_contained : (nexus : Nexus) → contains no_nexuses nexus ≡ false
unfolding no_nexuses
none_contained nexus = none_replicated 256 (place_of nexus)

nothing_cleared : (t : Task) → is_cleared no_nexuses t ≡ false
nothing_cleared t = ap (λ (b : Bool). is_waiting t.stage && b) (none_contained t.command.nexus) ∙ and_false (is_waiting t.stage)

clearing_none : (by : ℕ) (found : Option Task) (s : State) → clearing by no_nexuses found s ≡ record { state = s; journal = [] }
clearing_none by None s = refl
clearing_none by (Some t) s = rw (nothing_cleared t) refl

pub clearing_all_none : (by : ℕ) (numbers : List ℕ) (s : State) → clearing_all by no_nexuses numbers s ≡ record { state = s; journal = [] }
clearing_all_none by [] s = refl
clearing_all_none by (number ∷ numbers) s =
    ap (λ (turn : Turn). followed turn (clearing_all by no_nexuses numbers)) (clearing_none by (task_of number s.tasks) s) ∙ clearing_all_none by numbers s
