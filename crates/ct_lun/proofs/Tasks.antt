-- The tasks of the machine's state and the task set, where the slots of a unit change.
use Rattle.std.proofs.Common.{◌≡◌, ℕ, zero, suc, List, [], ◌∷◌, ◌++◌, Bool, true, false, not, ◌==◌, inl, inr, Some, None, IsNone, map, slice_get, slice_set, remove, if◌then◌else◌, refl, sym, ap, ◌∙◌, subst}
use Rattle.std.proofs.lemmas.Bool.{cases_Bool, false≢true}
use Rattle.ct_cdb.specs.declared.op.Attr2.{Attr2}
use Rattle.ct_matrix.specs.declared.held.HeldCommand.{HeldCommand}
use Rattle.ct_matrix.specs.Conflicts.{is_head}
use Rattle.ct_matrix.specs.Queues.{command_of, without, with_begun, placed, before_first, waits_yet}
use Rattle.ct_matrix.proofs.Places.{map_first}
use Rattle.ct_book.specs.Journals.{KeptWork}
use Rattle.ct_machine.specs.States.{Stage, Waiting, Here, Granted, There, Over, Task, task_of, without_task, with_task, is_waiting, has_begun, held_of, queued, waits as task_waits}
use Rattle.ct_lun.specs.declared.slot.Slot.{Slot}
use Rattle.ct_lun.specs.Apart.{Differs, IsApart}
use Rattle.ct_lun.specs.Desk.{number_of, slot_of, waits, placed_slot}
use Rattle.ct_lun.specs.States.{stage_of, task_in, tasks_in, command_in}
use Rattle.ct_lun.proofs.Lists.{equal_number, differs_at, turned, map_push}

-- the slot with a number

pub task_at : (works : List KeptWork) (slots : List Slot) (at : ℕ) (slot : Slot) → IsApart (map number_of slots) → slice_get slots at ≡ Some slot → task_of slot.no (tasks_in works slots) ≡ Some (task_in works slot)
task_at works [] at slot apart read = cc
task_at works (x ∷ xs) zero slot apart read =
    let same : x ≡ slot = cc in
    subst (λ (s : Slot). task_of slot.no (tasks_in works (s ∷ xs)) ≡ Some (task_in works slot)) (sym same) (rw (equal_number slot.no) refl)
task_at works (x ∷ xs) (suc at) slot apart read =
    let other : (x.no == slot.no) ≡ false = turned slot.no x.no (differs_at number_of x.no xs at slot apart.0 read) in
    rw other (task_at works xs at slot apart.1 read)

pub no_task : (works : List KeptWork) (slots : List Slot) (number : ℕ) → IsNone (slot_of number slots) → task_of number (tasks_in works slots) ≡ None
no_task works [] number none = refl
no_task works (x ∷ xs) number none =
    elim (cases_Bool (x.no == number)) [
      | inl here ↦ absurd (false≢true (sym (rw here at none)))
      | inr other ↦ rw other (no_task works xs number (rw other at none))
    ]

absent_without : (works : List KeptWork) (slots : List Slot) (number : ℕ) → Differs number (map number_of slots) → without_task number (tasks_in works slots) ≡ tasks_in works slots
absent_without works [] number apart = refl
absent_without works (x ∷ xs) number apart = rw (apart.0) (ap (λ (rest : List Task). task_in works x ∷ rest) (absent_without works xs number apart.1))

pub without_at : (works : List KeptWork) (slots : List Slot) (at : ℕ) (slot : Slot) → IsApart (map number_of slots) → slice_get slots at ≡ Some slot → without_task slot.no (tasks_in works slots) ≡ tasks_in works (remove slots at)
without_at works [] at slot apart read = cc
without_at works (x ∷ xs) zero slot apart read =
    let same : x ≡ slot = cc in
    subst (λ (s : Slot). without_task slot.no (tasks_in works (s ∷ xs)) ≡ tasks_in works xs) (sym same)
    (rw (equal_number slot.no) (absent_without works xs slot.no (subst (λ (s : Slot). Differs s.no (map number_of xs)) same apart.0)))
without_at works (x ∷ xs) (suc at) slot apart read =
    let other : (x.no == slot.no) ≡ false = turned slot.no x.no (differs_at number_of x.no xs at slot apart.0 read) in
    rw other (ap (λ (rest : List Task). task_in works x ∷ rest) (without_at works xs at slot apart.1 read))

absent_with : (works : List KeptWork) (slots : List Slot) (changed : Task) → Differs changed.no (map number_of slots) → with_task changed (tasks_in works slots) ≡ tasks_in works slots
absent_with works [] changed apart = refl
absent_with works (x ∷ xs) changed apart = rw (apart.0) (ap (λ (rest : List Task). task_in works x ∷ rest) (absent_with works xs changed apart.1))

pub with_at : (works : List KeptWork) (slots : List Slot) (at : ℕ) (slot new : Slot) → IsApart (map number_of slots) → slice_get slots at ≡ Some slot → new.no ≡ slot.no → with_task (task_in works new) (tasks_in works slots) ≡ tasks_in works (slice_set slots at new)
with_at works [] at slot new apart read number = cc
with_at works (x ∷ xs) zero slot new apart read number =
    let same : x ≡ slot = cc in
    let here : x.no ≡ new.no = ap number_of same ∙ sym number in
    let test : (x.no == new.no) ≡ true = subst (λ (n : ℕ). (x.no == n) ≡ true) here (equal_number x.no) in
    rw test (ap (λ (rest : List Task). task_in works new ∷ rest) (absent_with works xs (task_in works new) (subst (λ (n : ℕ). Differs n (map number_of xs)) here apart.0)))
with_at works (x ∷ xs) (suc at) slot new apart read number =
    let other : (x.no == slot.no) ≡ false = turned slot.no x.no (differs_at number_of x.no xs at slot apart.0 read) in
    let test : (x.no == new.no) ≡ false = subst (λ (n : ℕ). (x.no == n) ≡ false) (sym number) other in
    rw test (ap (λ (rest : List Task). task_in works x ∷ rest) (with_at works xs at slot new apart.1 read number))

-- the task set

pub begun_stage : (slot : Slot) → has_begun (stage_of slot) ≡ slot.begun
begun_stage slot = go slot.begun
  where
    go : (begun : Bool) → has_begun (if begun then Here slot.task.done slot.task.body.items else Waiting) ≡ begun
    go true = refl
    go false = refl

pub held_without : (blocks number : ℕ) (tasks : List Task) → without number (map (held_of blocks) tasks) ≡ map (held_of blocks) (without_task number tasks)
held_without blocks number [] = refl
held_without blocks number (t ∷ ts) =
    elim (cases_Bool (t.no == number)) [
      | inl here ↦ rw here (held_without blocks number ts)
      | inr other ↦ rw other (ap (λ (rest : List HeldCommand). held_of blocks t ∷ rest) (held_without blocks number ts))
    ]

pub held_at : (blocks number : ℕ) (tasks : List Task) (task : Task) → task_of number tasks ≡ Some task → command_of number (map (held_of blocks) tasks) ≡ Some (held_of blocks task)
held_at blocks number [] task found = cc
held_at blocks number (t ∷ ts) task found =
    elim (cases_Bool (t.no == number)) [
      | inl here ↦ let same : t ≡ task = (let f : Some t ≡ Some task = rw here at found in cc) in rw here (ap (λ (x : Task). Some (held_of blocks x)) same)
      | inr other ↦ let f : task_of number ts ≡ Some task = rw other at found in rw other (held_at blocks number ts task f)
    ]

pub held_none : (blocks number : ℕ) (tasks : List Task) → task_of number tasks ≡ None → command_of number (map (held_of blocks) tasks) ≡ None
held_none blocks number [] none = refl
held_none blocks number (t ∷ ts) none =
    elim (cases_Bool (t.no == number)) [
      | inl here ↦ let f : Some t ≡ None = rw here at none in cc
      | inr other ↦ let f : task_of number ts ≡ None = rw other at none in rw other (held_none blocks number ts f)
    ]

absent_begun : (blocks number : ℕ) (works : List KeptWork) (slots : List Slot) → Differs number (map number_of slots) → with_begun number (map (held_of blocks) (tasks_in works slots)) ≡ map (held_of blocks) (tasks_in works slots)
absent_begun blocks number works [] apart = refl
absent_begun blocks number works (x ∷ xs) apart = rw (apart.0) (ap (λ (rest : List HeldCommand). held_of blocks (task_in works x) ∷ rest) (absent_begun blocks number works xs apart.1))

pub begun_at : (blocks : ℕ) (works : List KeptWork) (slots : List Slot) (at : ℕ) (slot : Slot) → IsApart (map number_of slots) → slice_get slots at ≡ Some slot
    → with_begun slot.no (map (held_of blocks) (tasks_in works slots)) ≡ map (held_of blocks) (tasks_in works (slice_set slots at (record slot { begun = true })))
begun_at blocks works [] at slot apart read = cc
begun_at blocks works (x ∷ xs) zero slot apart read =
    let same : x ≡ slot = cc in
    subst (λ (s : Slot). with_begun slot.no (map (held_of blocks) (tasks_in works (s ∷ xs))) ≡ map (held_of blocks) (tasks_in works (record slot { begun = true } ∷ xs))) (sym same)
    (rw (equal_number slot.no) (ap (λ (rest : List HeldCommand). held_of blocks (task_in works (record slot { begun = true })) ∷ rest) (absent_begun blocks slot.no works xs (subst (λ (s : Slot). Differs s.no (map number_of xs)) same apart.0))))
begun_at blocks works (x ∷ xs) (suc at) slot apart read =
    let other : (x.no == slot.no) ≡ false = turned slot.no x.no (differs_at number_of x.no xs at slot apart.0 read) in
    rw other (ap (λ (rest : List HeldCommand). held_of blocks (task_in works x) ∷ rest) (begun_at blocks works xs at slot apart.1 read))

-- a command enters

held_before : (blocks : ℕ) (new : Task) (tasks : List Task) → map (held_of blocks) (before_first task_waits new tasks) ≡ before_first waits_yet (held_of blocks new) (map (held_of blocks) tasks)
held_before blocks new tasks = map_first (held_of blocks) task_waits waits_yet new tasks (λ task. same task.stage) where
  same : (stage : Stage) → not (has_begun stage) ≡ is_waiting stage
  same Waiting = refl
  same (Here done got) = refl
  same Granted = refl
  same (There done got) = refl
  same Over = refl

pub held_queued : (blocks : ℕ) (new : Task) (tasks : List Task) → map (held_of blocks) (queued new tasks) ≡ placed (held_of blocks new) (map (held_of blocks) tasks)
held_queued blocks new tasks = go (is_head new.command.attr)
  where
    go : (head : Bool) → map (held_of blocks) (if head then before_first task_waits new tasks else tasks ++ new ∷ []) ≡ (if head then before_first waits_yet (held_of blocks new) (map (held_of blocks) tasks) else map (held_of blocks) tasks ++ held_of blocks new ∷ [])
    go true = held_before blocks new tasks
    go false = map_push (held_of blocks) tasks new

pub waiting_stage : (slot : Slot) → is_waiting (stage_of slot) ≡ not slot.begun
waiting_stage slot = go slot.begun
  where
    go : (begun : Bool) → is_waiting (if begun then Here slot.task.done slot.task.body.items else Waiting) ≡ not begun
    go true = refl
    go false = refl

slots_before : (works : List KeptWork) (new : Slot) (slots : List Slot) → before_first task_waits (task_in works new) (tasks_in works slots) ≡ tasks_in works (before_first waits new slots)
slots_before works new slots = sym (map_first (task_in works) waits task_waits new slots waiting_stage)

pub slots_queued : (works : List KeptWork) (attr : Attr2) (new : Slot) (slots : List Slot) → attr ≡ (command_in works new.no).attr → queued (task_in works new) (tasks_in works slots) ≡ tasks_in works (placed_slot attr new slots)
slots_queued works attr new slots same = rw (← same) (go (is_head attr))
  where
    go : (head : Bool) → (if head then before_first task_waits (task_in works new) (tasks_in works slots) else tasks_in works slots ++ task_in works new ∷ []) ≡ tasks_in works (if head then before_first waits new slots else slots ++ new ∷ [])
    go true = slots_before works new slots
    go false = sym (map_push (task_in works) slots new)
