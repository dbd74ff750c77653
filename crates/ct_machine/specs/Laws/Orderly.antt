-- Commands begin in the order that their attributes and conflicts demand (SAM-5, clause 8).
use Rattle.std.specs.Prelude.{◌≡◌, ◌≢◌, ℕ, List, Bool, true, false, not, ◌&&◌, ◌||◌}
use Rattle.ct_matrix.specs.Conflicts.{conflicts, skips, is_head, is_ordered}
use Rattle.ct_book.specs.declared.work.Command.{Command}
use Rattle.ct_book.specs.declared.event.Event.{Event}
use Rattle.ct_book.specs.declared.event.Logged.{Logged}
use Rattle.ct_exec.specs.Controls.{is_unrestricted}
use Rattle.ct_machine.specs.declared.act.Opening.{Opening}
use Rattle.ct_machine.specs.States.{held_by}
use Rattle.ct_machine.specs.Serial.{serial_disk}
use Rattle.ct_machine.specs.Laws.Journals.{Each, has, is_entry, is_enter, is_begin, comes_first, AtStart, IsCommandOf}

-- a command of which this holds begins behind the entry of another: the other entered first, and an attribute or a
-- conflict orders them; the other is HEAD OF QUEUE; the other began, and they conflict
abbrev pub goes_first : ℕ → Bool → Bool → Bool → Command → Command → Bool
goes_first blocks unrestricted first began a b =
    let held_a = held_by blocks a began in
    let held_b = held_by blocks b false in
    let conflict = conflicts unrestricted held_a held_b in
    (not (skips held_a held_b) && not (is_head b.attr)
    && (is_head a.attr || (first && (is_ordered b.attr || is_ordered a.attr || conflict))))
    || (began && conflict)

abbrev pub IsBehindAll : Opening → List Logged → ℕ → Type 0
IsBehindAll o before b =
    (a : ℕ) (command_a command_b : Command) → a ≢ b → IsCommandOf before a command_a → IsCommandOf before b command_b →
    has (is_enter a) before ≡ true →
    goes_first o.blocks (is_unrestricted (serial_disk o before).control) (comes_first (is_enter a) (is_enter b) before)
    (has (is_begin a) before) command_a command_b ≡ true →
    has (is_entry a) before ≡ true

-- a command starts behind all that must go first
abbrev pub BeginsOrderly : Opening → List Logged → Event → Type 0
BeginsOrderly o before happened = AtStart (IsBehindAll o before) before happened

abbrev pub IsOrderly : Opening → List Logged → Type 0
IsOrderly o journal = Each (λ before logged. BeginsOrderly o before logged.event) journal
