-- The waiting commands of cleared nexuses are cut, one after another.
use Rattle.std.proofs.Common.{◌≡◌, ℕ, zero, suc, ◌+◌, ◌<◌, ◌≤◌, List, [], ◌∷◌, ◌++◌, Bool, true, false, not, Option, Some, None, length, map, take, drop, remove, if◌then◌else◌, refl, sym, ap, ◌∙◌, subst, arith, length-append}
use Rattle.std.proofs.lemmas.Bool.{and_parts, false≢true}
use Rattle.std.proofs.lemmas.List.{append-nil, drop_all}
use Rattle.ct_word.specs.Nexuses.{no_nexuses, contains}
use Rattle.ct_plan.specs.Plans.{puts_among}
use Rattle.ct_book.specs.declared.event.Event.{Event}
use Rattle.ct_book.specs.declared.event.Event.TheVariants as event
use Rattle.ct_book.specs.declared.event.Why.TheVariants.{By}
use Rattle.ct_book.specs.declared.event.Logged.{Logged}
use Rattle.ct_book.specs.Journals.{KeptWork, BookState, with_event}
use Rattle.ct_exec.specs.Controls.{tells_aborts}
use Rattle.ct_machine.specs.States.{Stage, Task, State, is_waiting, task_of}
use Rattle.ct_machine.specs.Events.{after_event, after_events}
use Rattle.ct_machine.specs.Events.Ends.{cut_at, leaves, is_cleared}
use Rattle.ct_machine.specs.Acts.Turns.{Turn, nothing, says, followed}
use Rattle.ct_machine.specs.Acts.Functions.{numbers_of}
use Rattle.ct_machine.specs.Acts.Begins.{clearing, clearing_all}
use Rattle.ct_lun.specs.declared.slot.Slot.{Slot}
use Rattle.ct_lun.specs.Desk.{Desk, slot_at, number_of}
use Rattle.ct_lun.specs.States.{task_in, tasks_in, state_of}
use Rattle.ct_lun.specs.Agreement.{IsLeft, Agrees, AgreesWith}
use Rattle.ct_lun.specs.Calls.{Leaves, Wrote, Spends, Clears, told, medium_cuts}
use Rattle.ct_lun.proofs.Does.{medium_cuts-append}
use Rattle.ct_lun.proofs.Lists.{each_drop}
use Rattle.ct_lun.proofs.Tasks.{waiting_stage}
use Rattle.ct_lun.proofs.Keeps.{slot_agrees, task_found, agrees_without}
use Rattle.ct_lun.proofs.Turns.{clearing_all_none}
use Rattle.ct_lun.proofs.Effects.{wrote_then, left_state, stage_waits, after_told}
use Rattle.ct_lun.proofs.Spent.{left_spends}

-- the commands from a place on

pub numbers_same : (works : List KeptWork) (slots : List Slot) → numbers_of (tasks_in works slots) ≡ map number_of slots
numbers_same works [] = refl
numbers_same works (x ∷ xs) = ap (λ (rest : List ℕ). x.no ∷ rest) (numbers_same works xs)

pub numbers_from : (slots : List Slot) (at : ℕ) → at < length slots → map number_of (drop at slots) ≡ (slot_at slots at).no ∷ map number_of (drop (suc at) slots)
numbers_from [] at within = absurd (omega (arith, within))
numbers_from (x ∷ xs) zero within = refl
numbers_from (x ∷ xs) (suc at) within = numbers_from xs at (omega (arith, within))

pub drop_removed : (slots : List Slot) (at : ℕ) → drop at (remove slots at) ≡ drop (suc at) slots
drop_removed [] zero = refl
drop_removed [] (suc at) = refl
drop_removed (x ∷ xs) zero = refl
drop_removed (x ∷ xs) (suc at) = drop_removed xs at

-- a cut

-- the event by which the command at a place is cut that did nothing yet
abbrev pub cut_of : Desk → ℕ → ℕ → Event
cut_of d at by = event.Cut (slot_at d.slots at).no 0 (By by) (tells_aborts d.control)

cut_state : (d : Desk) (p : BookState) (at by : ℕ) → Agrees d p → at < length d.slots → (slot_at d.slots at).begun ≡ false → after_event (cut_of d at by) None (state_of d p) ≡ leaves (slot_at d.slots at).no (state_of d p)
cut_state d p at by a h waits =
    let slot = slot_at d.slots at in
    let found : task_of slot.no (state_of d p).tasks ≡ Some (task_in p.works slot) = task_found d p at a h in
    rw found (ap (λ (stage : Stage). cut_at (By by) stage (task_in p.works slot) (state_of d p)) (stage_waits slot waits))

cut_wrote : (d d' : Desk) (p p' : BookState) (at by : ℕ) → Agrees d p → at < length d.slots → (slot_at d.slots at).begun ≡ false → 0 < p.spare → Leaves d d' at → p' ≡ with_event p (cut_of d at by)
    → Wrote d d' p p' (told (cut_of d at by) ∷ [])
cut_wrote d d' p p' at by a h waits room l book =
    let cut : Event = cut_of d at by in
    rw book
    (record {
      journal = refl;
      state = left_state d d' p (with_event p cut) at a h l refl refl refl refl ∙ sym (cut_state d p at by a h waits) ∙ sym (after_told (state_of d p) cut);
      agrees = agrees_without d d' p (with_event p cut) at a h l refl (λ number other. refl);
      spare = omega (arith, room);
    })

-- a command that is to be cut waits
cleared_waits : (cleared : List Bool) (works : List KeptWork) (slot : Slot) → is_cleared cleared (task_in works slot) ≡ true → slot.begun ≡ false
cleared_waits cleared works slot test =
    go slot.begun (sym (waiting_stage slot) ∙ (and_parts (is_waiting (task_in works slot).stage) (contains cleared (task_in works slot).command.nexus) test).0)
  where
    go : (begun : Bool) → not begun ≡ true → begun ≡ false
    go true e = absurd (false≢true e)
    go false e = refl

-- it put no block
pub cut_known : (d : Desk) (p p' : BookState) (at by : ℕ) (cleared : List Bool) (tells : Bool) → Agrees d p → at < length d.slots → is_cleared cleared (task_in p.works (slot_at d.slots at)) ≡ true → tells ≡ tells_aborts d.control
    → p' ≡ with_event p (event.Cut (slot_at d.slots at).no (puts_among (take (slot_at d.slots at).task.done (slot_at d.slots at).task.plan.operations)) (By by) tells) → p' ≡ with_event p (cut_of d at by)
cut_known d p p' at by cleared tells a h test same book =
    let slot : Slot = slot_at d.slots at in
    let none : slot.task.done ≡ 0 = ((slot_agrees d p at a h).waits (cleared_waits cleared p.works slot test)).none in
    book
    ∙ ap (λ (done : ℕ). with_event p (event.Cut slot.no (puts_among (take done slot.task.plan.operations)) (By by) tells)) none
    ∙ ap (λ (t : Bool). with_event p (event.Cut slot.no 0 (By by) t)) same

-- what the machine does with one command

abbrev clearing_by : Bool → Task → ℕ → State → Turn
clearing_by due task by s = if due then says (event.Cut task.no 0 (By by) (tells_aborts s.control)) s else nothing s

clearing_found : (by : ℕ) (cleared : List Bool) (found : Option Task) (task : Task) (due : Bool) (s : State) → found ≡ Some task → is_cleared cleared task ≡ due → clearing by cleared found s ≡ clearing_by due task by s
clearing_found by cleared found task due s e test = ap (λ (o : Option Task). clearing by cleared o s) e ∙ ap (λ (b : Bool). clearing_by b task by s) test

-- one command, and then the others

nothing_wrote : (d : Desk) (p : BookState) → Agrees d p → Wrote d d p p []
nothing_wrote d p a = record { journal = sym (append-nil p.journal); state = refl; agrees = a; spare = omega arith }

clears_more : (d d1 d' : Desk) (p p1 p' : BookState) (by : ℕ) (cleared : List Bool) (number : ℕ) (numbers : List ℕ) (es : List Logged) → Wrote d d1 p p1 es → Spends d d1 p p1 (length es) → d1.faults ≡ d.faults
    → clearing by cleared (task_of number (state_of d p).tasks) (state_of d p) ≡ record { state = after_events (state_of d p) es; journal = es }
    → Clears d1 d' p1 p' by cleared numbers → Clears d d' p p' by cleared (number ∷ numbers)
clears_more d d1 d' p p1 p' by cleared number numbers es w spends faults turn x =
    let s : State = state_of d p in
    let rest : List Logged = (clearing_all by cleared numbers (state_of d1 p1)).journal in
    let journal : (clearing_all by cleared (number ∷ numbers) s).journal ≡ es ++ rest =
    ap (λ (t : Turn). (followed t (clearing_all by cleared numbers)).journal) turn ∙ ap (λ (next : State). es ++ (clearing_all by cleared numbers next).journal) (sym w.state) in
    record {
      wrote = subst (Wrote d d' p p') (sym journal) (wrote_then d d1 d' p p1 p' es rest w x.wrote);
      spends = subst (λ (j : List Logged). Spends d d' p p' (length j)) (sym journal) (omega (arith, spends, x.spends, length-append es rest));
      left = x.left;
      faults = x.faults ∙ faults;
    }

-- nothing is left to do
pub clears_end : (d : Desk) (p : BookState) (at by : ℕ) (cleared : List Bool) → AgreesWith d p → length d.slots ≤ at → Clears d d p p by cleared (map number_of (drop at d.slots))
clears_end d p at by cleared a past =
    rw (drop_all at d.slots past)
    (record { wrote = nothing_wrote d p a.base; spends = omega arith; left = a.left; faults = refl })

-- a cut leaves a unit that agrees with its book
pub cut_agrees : (d d' : Desk) (p p' : BookState) (at by : ℕ) (cleared : List Bool) → AgreesWith d p → at < length d.slots → is_cleared cleared (task_in p.works (slot_at d.slots at)) ≡ true → 0 < p.spare → Leaves d d' at → p' ≡ with_event p (cut_of d at by)
    → AgreesWith d' p'
cut_agrees d d' p p' at by cleared a h test room l book = record {
  base = (cut_wrote d d' p p' at by a.base h (cleared_waits cleared p.works (slot_at d.slots at) test) room l book).agrees;
  left = rw l.slots (each_drop IsLeft d.slots at a.left);
}

-- the command at a place is cut, and then those behind it
pub clears_cut : (d d1 d' : Desk) (p p1 p' : BookState) (at by : ℕ) (cleared : List Bool) → AgreesWith d p → at < length d.slots → is_cleared cleared (task_in p.works (slot_at d.slots at)) ≡ true → 0 < p.spare → Leaves d d1 at → p1 ≡ with_event p (cut_of d at by)
    → Clears d1 d' p1 p' by cleared (map number_of (drop at d1.slots)) → Clears d d' p p' by cleared (map number_of (drop at d.slots))
clears_cut d d1 d' p p1 p' at by cleared a h test room l book x =
    let slot = slot_at d.slots at in
    let waits : slot.begun ≡ false = cleared_waits cleared p.works slot test in
    let behind : drop at d1.slots ≡ drop (suc at) d.slots = ap (drop at) l.slots ∙ drop_removed d.slots at in
    subst (Clears d d' p p' by cleared) (sym (numbers_from d.slots at h))
    (clears_more d d1 d' p p1 p' by cleared slot.no (map number_of (drop (suc at) d.slots)) (told (cut_of d at by) ∷ [])
    (cut_wrote d d1 p p1 at by a.base h waits room l book)
    (left_spends d d1 p p1 at h l (rw book (record { works = refl; commands = refl; functions = refl; pieces = refl })))
    l.faults
    (clearing_found by cleared (task_of slot.no (state_of d p).tasks) (task_in p.works slot) true (state_of d p) (task_found d p at a.base h) test)
    (subst (λ (slots : List Slot). Clears d1 d' p1 p' by cleared (map number_of slots)) behind x))

-- the command at a place stays, and then those behind it
pub clears_pass : (d d' : Desk) (p p' : BookState) (at by : ℕ) (cleared : List Bool) → AgreesWith d p → at < length d.slots → is_cleared cleared (task_in p.works (slot_at d.slots at)) ≡ false
    → Clears d d' p p' by cleared (map number_of (drop (at + 1) d.slots)) → Clears d d' p p' by cleared (map number_of (drop at d.slots))
clears_pass d d' p p' at by cleared a h test x =
    let slot = slot_at d.slots at in
    let next : at + 1 ≡ suc at = omega arith in
    subst (Clears d d' p p' by cleared) (sym (numbers_from d.slots at h))
    (clears_more d d d' p p p' by cleared slot.no (map number_of (drop (suc at) d.slots)) [] (nothing_wrote d p a.base) (omega arith) refl
    (clearing_found by cleared (task_of slot.no (state_of d p).tasks) (task_in p.works slot) false (state_of d p) (task_found d p at a.base h) test)
    (subst (λ (k : ℕ). Clears d d' p p' by cleared (map number_of (drop k d.slots))) next x))

-- where no nexus is cleared, nothing is done
pub clears_nobody : (d : Desk) (p : BookState) (by : ℕ) (numbers : List ℕ) → AgreesWith d p → Clears d d p p by no_nexuses numbers
clears_nobody d p by numbers a =
    let none : [] ≡ (clearing_all by no_nexuses numbers (state_of d p)).journal = sym (ap (λ (t : Turn). t.journal) (clearing_all_none by numbers (state_of d p))) in
    record {
      wrote = subst (Wrote d d p p) none (nothing_wrote d p a.base);
      spends = subst (λ (j : List Logged). Spends d d p p (length j)) none (omega arith);
      left = a.left;
      faults = refl;
    }

-- none of these cuts is by a fault of the medium

uncut_one : (by : ℕ) (cleared : List Bool) (found : Option Task) (s : State) → medium_cuts (clearing by cleared found s).journal ≡ 0
uncut_one by cleared None s = refl
uncut_one by cleared (Some task) s = go (is_cleared cleared task)
  where
    go : (due : Bool) → medium_cuts (clearing_by due task by s).journal ≡ 0
    go true = refl
    go false = refl

pub uncut_clearing : (by : ℕ) (cleared : List Bool) (numbers : List ℕ) (s : State) → medium_cuts (clearing_all by cleared numbers s).journal ≡ 0
uncut_clearing by cleared [] s = refl
uncut_clearing by cleared (number ∷ numbers) s =
    let first : Turn = clearing by cleared (task_of number s.tasks) s in
    let rest : Turn = clearing_all by cleared numbers first.state in
    omega (arith, medium_cuts-append first.journal rest.journal, uncut_one by cleared (task_of number s.tasks) s, uncut_clearing by cleared numbers first.state)
