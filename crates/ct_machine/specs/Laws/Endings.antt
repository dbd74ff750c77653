-- How commands end that made block operations (SBC-3, COMPARE AND WRITE and VERIFY).
use Rattle.std.specs.Prelude.{◌≡◌, ◌⊎◌, ℕ, List, Bool, true, false, Option, Some}
use Rattle.std.specs.List.{list_any}
use Rattle.ct_sense.specs.declared.reply.Reply.{Reply}
use Rattle.ct_sense.specs.declared.code.TheConstants.{MISCOMPARE_DURING_VERIFY}
use Rattle.ct_plan.specs.declared.operation.BlockOp.{BlockOp}
use Rattle.ct_plan.specs.declared.operation.BlockOp.TheVariants as operations
use Rattle.ct_book.specs.declared.work.Command.{Command}
use Rattle.ct_book.specs.declared.event.Logged.{Logged}
use Rattle.ct_exec.specs.Controls.{ControlState}
use Rattle.ct_exec.specs.Executions.{good, check_condition, plan_in}
use Rattle.ct_machine.specs.declared.act.Opening.{Opening}
use Rattle.ct_machine.specs.Serial.{serial_disk}
use Rattle.ct_machine.specs.Laws.Journals.{Each, has, is_begin, IsCommandOf, AtEnd}

abbrev pub is_compare : BlockOp → Bool
is_compare (operations.Get lba) = false
is_compare (operations.Look lba) = false
is_compare (operations.Put lba place) = false
is_compare (operations.Zero lba) = false
is_compare (operations.Compare lba place) = true

-- GOOD; or, where an operation of the plan compares, MISCOMPARE DURING VERIFY OPERATION
abbrev pub IsGoodOrDiffers : ControlState → List BlockOp → Option Reply → Type 0
IsGoodOrDiffers control plan replied =
    ((got : List ℕ) × (replied ≡ Some (good got)))
    ⊎ ((offset : ℕ) × (list_any is_compare plan ≡ true)
    × (replied ≡ Some (check_condition control MISCOMPARE_DURING_VERIFY (Some offset))))

-- of a command that made block operations and ended
abbrev pub EndsGoodOrDiffersAt : Opening → List Logged → Option Reply → ℕ → Type 0
EndsGoodOrDiffersAt o before replied number =
    (command : Command) → IsCommandOf before number command → has (is_begin number) before ≡ true →
    IsGoodOrDiffers (serial_disk o before).control (plan_in o.blocks command) replied

-- each command that made block operations and ended is answered so
abbrev pub EndsGoodOrDiffers : Opening → List Logged → Type 0
EndsGoodOrDiffers o journal =
    Each (λ before logged. AtEnd (EndsGoodOrDiffersAt o before logged.reply) logged.event) journal
