-- Blocks and block operations of a script are in their ranges.
use Rattle.std.proofs.Common.{◌≡◌, ℕ, suc, ◌+◌, ◌≤◌, ◌<◌, Bool, true, false, List, [], ◌∷◌, Option, Some, refl, ap, subst, arith, ◌||◌}
use Rattle.std.specs.Option.{unwrap_or}
use Rattle.std.specs.Prelude.{IfSome, sum_by, count_by, nat_lt}
use Rattle.std.proofs.lemmas.Bool.{ltb-false}
use Rattle.std.proofs.lemmas.List.Sums.{sum_by-cons}
use Rattle.ct_word.specs.declared.limit.TheConstants.{MOST_BLOCKS, MOST_COMMANDS, MOST_TASKS, MOST_DATA_OUT_TOGETHER}
use Rattle.ct_word.specs.declared.limit.TheConstants.{MOST_OPERATIONS}
use Rattle.ct_cdb.specs.Forms.{cdb_of}
use Rattle.ct_book.specs.Works.{profile_in}
use Rattle.ct_book.specs.Kept.{events_for}
use Rattle.ct_exec.specs.Executions.{plan_in}
use Rattle.ct_script.specs.declared.script.Line.{Line}
use Rattle.ct_script.specs.declared.script.Word.{Word}
use Rattle.ct_script.specs.declared.script.Word.TheVariants.{Lun, Port, Map, Cmd, Task, Step, Drain, Sync}
use Rattle.ct_script.specs.Lines.{IsWithin}
use Rattle.ct_script.specs.Rules.{IsInRange, AreInRange, IsSized, is_command, is_task, declared_blocks, disk_blocks, line_asked, word_line_asked, asked_by}
use Rattle.ct_script.specs.Rules.{data_bytes}
use Rattle.ct_script.proofs.Asking.{few_asked}
use Rattle.ct_top.specs.Commands.{work_sent, pieces_by, pieces_in, room_of, declared_sizes}
use Rattle.ct_top.proofs.Bounds.{planned_asked}

pub blocks_in_range : (lines : List Line) → AreInRange lines
    → IfSome (declared_blocks lines) (λ blocks. (1 ≤ blocks) × (blocks ≤ MOST_BLOCKS))
blocks_in_range [] h = tt
blocks_in_range (line ∷ lines) h = go line.word (h 0 line (omega arith)) (blocks_in_range lines (λ k d within. h
    (suc k) d (omega (arith, within))))
  where
    go : (word : Word) → IsInRange word
        → IfSome (declared_blocks lines) (λ blocks. (1 ≤ blocks) × (blocks ≤ MOST_BLOCKS))
        → IfSome (declared_blocks (record { no = line.no; word = word } ∷ lines))
        (λ blocks. (1 ≤ blocks) × (blocks ≤ MOST_BLOCKS))
    go (Lun lun blocks sizes) k rest = (k.0, k.1)
    go (Port port node) k rest = rest
    go (Map n x lun) k rest = rest
    go (Cmd n x tag attr cdb out) k rest = rest
    go (Task n x function) k rest = rest
    go (Step lun number blocks) k rest = rest
    go (Drain lun) k rest = rest
    go Sync k rest = rest

-- the sizes of a unit are in their ranges, declared or not
pub sizes_in_range : (lines : List Line) → AreInRange lines → IsSized (declared_sizes lines)
sizes_in_range [] h = record { some_commands = omega arith; few_commands = omega arith; some_blocks = omega arith; few_blocks = omega arith }
sizes_in_range (line ∷ lines) h = go line.word (h 0 line (omega arith)) (sizes_in_range lines (λ k d within. h (suc k) d
    (omega (arith, within))))
  where
    go : (word : Word) → IsInRange word → IsSized (declared_sizes lines)
        → IsSized (declared_sizes (record { no = line.no; word = word } ∷ lines))
    go (Lun lun blocks sizes) k rest = k.2
    go (Port port node) k rest = rest
    go (Map n x lun) k rest = rest
    go (Cmd n x tag attr cdb out) k rest = rest
    go (Task n x function) k rest = rest
    go (Step lun number blocks) k rest = rest
    go (Drain lun) k rest = rest
    go Sync k rest = rest

-- a line's command plans no more block operations than it asks for
pieces_asked : (blocks : ℕ) (line : Line) → pieces_in blocks line ≤ line_asked blocks line
unfolding plan_in profile_in
pieces_asked blocks line = go line.word
  where
    go : (word : Word) → pieces_by blocks (work_sent line.no word) ≤ word_line_asked blocks word
    go (Lun lun n sizes) = omega arith
    go (Port port node) = omega arith
    go (Map n x lun) = omega arith
    go (Cmd n x tag attr cdb out) = planned_asked (cdb_of cdb) out blocks
    go (Task n x function) = omega arith
    go (Step lun number n) = omega arith
    go (Drain lun) = omega arith
    go Sync = omega arith

all_asked : (blocks : ℕ) (lines : List Line) → sum_by (pieces_in blocks) lines ≤ sum_by (line_asked blocks) lines
all_asked blocks [] = omega arith
all_asked blocks (line ∷ lines) =
    omega (arith, pieces_asked blocks line, all_asked blocks lines, sum_by-cons (pieces_in blocks) line lines, sum_by-cons (line_asked blocks) line lines)

-- what a script takes is bounded
pub record Few (blocks : ℕ) (lines : List Line) : Type 0 where
  pub commands : count_by is_command lines ≤ MOST_COMMANDS
  pub functions : count_by is_task lines ≤ MOST_TASKS
  pub pieces : sum_by (pieces_in blocks) lines ≤ MOST_OPERATIONS

first_false : (a b c e : Bool) → (a || b || c || e) ≡ false → (a ≡ false) × (b ≡ false)
first_false true b c e h = absurd (cc)
first_false false true c e h = absurd (cc)
first_false false false c e h = (refl, refl)

few_works : (lines : List Line) → IsWithin lines → (count_by is_command lines ≤ MOST_COMMANDS) × (count_by is_task lines ≤ MOST_TASKS)
few_works lines h =
    let few = first_false (nat_lt MOST_COMMANDS (count_by is_command lines)) (nat_lt MOST_TASKS (count_by is_task lines))
    (nat_lt MOST_DATA_OUT_TOGETHER (sum_by data_bytes lines)) (nat_lt MOST_OPERATIONS (asked_by lines)) h.limits in
    (ltb-false MOST_COMMANDS (count_by is_command lines) few.0, ltb-false MOST_TASKS (count_by is_task lines) few.1)

few_pieces : (blocks : ℕ) (lines : List Line) → IsWithin lines → declared_blocks lines ≡ Some blocks → sum_by (pieces_in blocks) lines ≤ MOST_OPERATIONS
unfolding asked_by
few_pieces blocks lines h declared =
    let disk : disk_blocks lines ≡ blocks = ap (λ (found : Option ℕ). unwrap_or found 0) declared in
    let few : sum_by (line_asked blocks) lines ≤ MOST_OPERATIONS =
    subst (λ (n : ℕ). sum_by (line_asked n) lines ≤ MOST_OPERATIONS) disk (few_asked lines h.limits) in
    omega (arith, few, all_asked blocks lines)

pub are_few : (blocks : ℕ) (lines : List Line) → IsWithin lines → declared_blocks lines ≡ Some blocks → Few blocks lines
are_few blocks lines h declared =
    let few = few_works lines h in
    record { commands = few.0; functions = few.1; pieces = few_pieces blocks lines h declared }

pub few_events : (blocks : ℕ) (lines : List Line) → IsWithin lines → declared_blocks lines ≡ Some blocks
    → events_for (room_of blocks lines) < 4294967296
few_events blocks lines h declared =
    let few = are_few blocks lines h declared in omega (arith, few.commands, few.functions, few.pieces)
