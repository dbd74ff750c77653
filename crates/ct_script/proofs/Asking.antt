-- The block operations that lines ask for, with one line more.
use Rattle.std.proofs.Common.{◌≡◌, ℕ, ◌+◌, Bool, true, false, ◌||◌, List, [], ◌∷◌, ◌++◌, Option, Some, None, refl, ap, ◌∙◌, arith}
use Rattle.std.specs.Prelude.{◌≤◌, sum_by, count_by, nat_lt}
use Rattle.std.specs.List.{list_any}
use Rattle.std.specs.Option.{option_or, unwrap_or}
use Rattle.std.proofs.lemmas.Bool.{or_parts, ltb-false}
use Rattle.ct_word.specs.declared.limit.TheConstants.{MOST_COMMANDS, MOST_TASKS, MOST_DATA_OUT_TOGETHER, MOST_OPERATIONS}
use Rattle.std.proofs.lemmas.List.Sums.{sum_by-append, sum_by-cons}
use Rattle.ct_script.specs.declared.script.Line.{Line}
use Rattle.ct_script.specs.declared.script.Word.{Word}
use Rattle.ct_script.specs.declared.script.Word.TheVariants.{Lun, Port, Map, Cmd, Task, Step, Drain, Sync}
use Rattle.ct_script.specs.Rules.{acts, word_acts, word_blocks, declared_blocks, word_line_asked, line_asked, disk_blocks, asked_by, is_misnamed, is_over, is_command, is_task, data_bytes}
use Rattle.ct_script.proofs.Names.{none_acted}

-- lines that pass no limit ask for few block operations
pub few_asked : (lines : List Line) → is_over lines ≡ false → asked_by lines ≤ MOST_OPERATIONS
few_asked lines within =
    ltb-false MOST_OPERATIONS (asked_by lines)
    (last (nat_lt MOST_COMMANDS (count_by is_command lines)) (nat_lt MOST_TASKS (count_by is_task lines))
    (nat_lt MOST_DATA_OUT_TOGETHER (sum_by data_bytes lines)) (nat_lt MOST_OPERATIONS (asked_by lines)) within)
  where
    last : (a b c d : Bool) → (a || b || c || d) ≡ false → d ≡ false
    last true b c d e = absurd (cc)
    last false true c d e = absurd (cc)
    last false false true d e = absurd (cc)
    last false false false d e = e

pub none_asked_by : 0 ≡ asked_by []
unfolding asked_by
none_asked_by = refl

-- the blocks that are declared

pub declared_more : (lines : List Line) (line : Line)
    → declared_blocks (lines ++ line ∷ []) ≡ option_or (declared_blocks lines) (word_blocks line.word)
declared_more [] line = go (word_blocks line.word)
  where
    go : (o : Option ℕ) → option_or o None ≡ o
    go None = refl
    go (Some blocks) = refl
declared_more (first ∷ lines) line = go (word_blocks first.word) (declared_more lines line)
  where
    go : (o : Option ℕ) → declared_blocks (lines ++ line ∷ []) ≡ option_or (declared_blocks lines) (word_blocks line.word)
        → option_or o (declared_blocks (lines ++ line ∷ []))
        ≡ option_or (option_or o (declared_blocks lines)) (word_blocks line.word)
    go None same = same
    go (Some blocks) same = refl

acting_declares : (word : Word) → word_acts word ≡ true → word_blocks word ≡ None
acting_declares (Lun lun blocks sizes) e = absurd (cc)
acting_declares (Port port node) e = refl
acting_declares (Map n x lun) e = refl
acting_declares (Cmd n x tag attr cdb out) e = refl
acting_declares (Task n x function) e = refl
acting_declares (Step lun number blocks) e = refl
acting_declares (Drain lun) e = refl
acting_declares Sync e = refl

or_none : (o : Option ℕ) → option_or o None ≡ o
or_none None = refl
or_none (Some blocks) = refl

-- what sets up asks for nothing

quiet_asks : (blocks : ℕ) (word : Word) → word_acts word ≡ false → word_line_asked blocks word ≡ 0
quiet_asks blocks (Lun lun n sizes) e = refl
quiet_asks blocks (Port port node) e = refl
quiet_asks blocks (Map n x lun) e = refl
quiet_asks blocks (Cmd n x tag attr cdb out) e = absurd (cc)
quiet_asks blocks (Task n x function) e = absurd (cc)
quiet_asks blocks (Step lun number n) e = refl
quiet_asks blocks (Drain lun) e = refl
quiet_asks blocks Sync e = refl

none_ask : (blocks : ℕ) (lines : List Line) → list_any acts lines ≡ false → sum_by (line_asked blocks) lines ≡ 0
none_ask blocks [] quiet = refl
none_ask blocks (line ∷ lines) quiet =
    let parts = or_parts (acts line) (list_any acts lines) quiet in
    omega (
      arith,
      sum_by-cons (line_asked blocks) line lines,
      quiet_asks blocks line.word parts.0,
      none_ask blocks lines parts.1,
    )

sum_more : (blocks : ℕ) (lines : List Line) (line : Line)
    → sum_by (line_asked blocks) (lines ++ line ∷ []) ≡ sum_by (line_asked blocks) lines + line_asked blocks line
sum_more blocks lines line =
    sum_by-append (line_asked blocks) lines (line ∷ [])
    ∙ ap (λ (n : ℕ). sum_by (line_asked blocks) lines + n) (omega (arith, sum_by-cons (line_asked blocks) line []))

pub asked_more : (lines : List Line) (line : Line) → is_misnamed lines line.word ≡ false
    → asked_by (lines ++ line ∷ []) ≡ asked_by lines + line_asked (disk_blocks lines) line
unfolding asked_by
asked_more lines line named = go (word_acts line.word) refl
  where
    now : ℕ
    now = disk_blocks lines

    behind : ℕ
    behind = disk_blocks (lines ++ line ∷ [])

    go : (t : Bool) → word_acts line.word ≡ t
        → sum_by (line_asked behind) (lines ++ line ∷ []) ≡ sum_by (line_asked now) lines + line_asked now line
    go true e =
        let same : behind ≡ now =
        ap (λ (o : Option ℕ). unwrap_or o 0)
        (declared_more lines line
        ∙ ap (option_or (declared_blocks lines)) (acting_declares line.word e)
        ∙ or_none (declared_blocks lines)) in
        ap (λ (n : ℕ). sum_by (line_asked n) (lines ++ line ∷ [])) same ∙ sum_more now lines line
    go false e =
        let quiet = none_acted lines line.word named e in
        sum_more behind lines line
        ∙ omega (
          arith,
          none_ask behind lines quiet,
          none_ask now lines quiet,
          quiet_asks behind line.word e,
          quiet_asks now line.word e,
        )
