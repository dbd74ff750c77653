-- When QUEUE ALGORITHM MODIFIER changes (SPC-4, Control mode page).
use Rattle.std.specs.Prelude.{◌≡◌, ℕ, List, true, false}
use Rattle.ct_book.specs.declared.event.Event.{Event}
use Rattle.ct_book.specs.declared.event.Logged.{Logged}
use Rattle.ct_exec.specs.Controls.{is_unrestricted}
use Rattle.ct_machine.specs.declared.act.Opening.{Opening}
use Rattle.ct_machine.specs.Serial.{serial_disk, disk_after}
use Rattle.ct_machine.specs.Laws.Journals.{Each, has, is_entry, is_enter, is_begin}

-- an event leaves the modifier, where a command that entered has begun and has no entry
abbrev pub KeepsOrder : Opening → List Logged → Event → Type 0
KeepsOrder o before happened =
    (number : ℕ) → has (is_enter number) before ≡ true → has (is_begin number) before ≡ true →
    has (is_entry number) before ≡ false →
    is_unrestricted (disk_after before happened (serial_disk o before)).control
    ≡ is_unrestricted (serial_disk o before).control

-- the modifier changes only where nothing has begun that isn't over: a command or a reset changes it
abbrev pub ReordersAtRest : Opening → List Logged → Type 0
ReordersAtRest o journal = Each (λ before logged. KeepsOrder o before logged.event) journal
