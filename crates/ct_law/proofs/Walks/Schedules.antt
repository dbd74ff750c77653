-- What holds of the schedule between two events: the state is the replay of the journal, nothing is due, and what has
-- begun moves blocks.
use Rattle.std.proofs.Common.{◌≡◌, ◌≤◌, ℕ, length, Bool, true, false, List, [], ◌∷◌, ◌++◌, drop, refl, sym, ap, ◌∙◌}
use Rattle.std.proofs.Common.{subst}
use Rattle.std.proofs.Common.{⊎_elim, cond}
use Rattle.std.proofs.lemmas.Bool.{both_ways}
use Rattle.std.proofs.lemmas.Option.{same_Some}
use Rattle.std.specs.List.{filter}
use Rattle.ct_word.specs.declared.names.Nexus.{Nexus}
use Rattle.ct_word.specs.Nexuses.{contains}
use Rattle.ct_tmf.specs.declared.function.Ask.{Ask}
use Rattle.ct_book.specs.declared.work.Command.{Command}
use Rattle.ct_book.specs.declared.work.Work.TheVariants as work
use Rattle.ct_book.specs.declared.event.Event.{Event}
use Rattle.ct_book.specs.declared.event.Event.TheVariants as event
use Rattle.ct_book.specs.declared.event.Why.TheVariants.{By, Medium}
use Rattle.ct_book.specs.declared.event.Logged.{Logged}
use Rattle.ct_exec.specs.Executions.{execute, plan_in}
use Rattle.ct_machine.specs.declared.act.Opening.{Opening}
use Rattle.ct_machine.specs.States.{Task, State, is_waiting, done_at, without_task, with_task, queued}
use Rattle.ct_machine.specs.Events.{after}
use Rattle.ct_machine.specs.Entrances.{Member}
use Rattle.ct_machine.specs.Acts.Entries.{members_of}
use Rattle.ct_machine.specs.Runs.{replay}
use Rattle.ct_machine.specs.Serial.{serial_disk}
use Rattle.ct_machine.specs.Laws.Standings.{standings_of}
use Rattle.ct_machine.specs.Laws.Journals.{Each, IsCommandOf, IsFunctionOf}
use Rattle.ct_machine.specs.Laws.Timely.{Due, is_of, numbers_among, due_by, due_after, due_of}
use Rattle.ct_machine.specs.Laws.Timely.{IsCutByCommand, IsTimelyAt}
use Rattle.ct_law.proofs.Lists.Tasks.{Has, has_without, has_with, has_queued}
use Rattle.ct_law.proofs.Journals.Journal.{each_more}
use Rattle.ct_law.proofs.Journals.Growing.{replay-more, due-more}
use Rattle.ct_law.proofs.Rows.Laws.{has_operations}

-- every command of the task set that doesn't wait moves blocks, on a disk of n, and made no more operations than it has
abbrev pub Worked : ℕ → List Task → Type 0
Worked n tasks =
    (x : Task) → Has tasks x → is_waiting x.stage ≡ false →
    (has_operations (plan_in n x.command) ≡ true) × (done_at x.stage ≤ length (plan_in n x.command))

pub worked_without : (n number : ℕ) (tasks : List Task) → Worked n tasks → Worked n (without_task number tasks)
worked_without n number tasks h x hx = h x (has_without number tasks x hx).0

-- one that moves blocks takes another stage
pub worked_with : (n : ℕ) (tasks : List Task) (w : Task) → Worked n tasks → has_operations (plan_in n w.command) ≡ true
    → done_at w.stage ≤ length (plan_in n w.command) → Worked n (with_task w tasks)
worked_with n tasks w h moves within x hx begun =
    ⊎_elim
    (λ (e : w ≡ x).
    subst (λ (z : Task).
    (has_operations (plan_in n z.command) ≡ true) × (done_at z.stage ≤ length (plan_in n z.command))) e (moves, within))
    (λ (o : Has tasks x × (x.no ≡ w.no → ⊥)). h x o.0 begun) (has_with w tasks x hx)

pub worked_queued : (n : ℕ) (tasks : List Task) (w : Task) → Worked n tasks → is_waiting w.stage ≡ true
    → Worked n (queued w tasks)
worked_queued n tasks w h waits x hx begun =
    ⊎_elim (λ (o : Has tasks x). h x o begun)
    (λ (e : w ≡ x).
    absurd (both_ways (is_waiting x.stage) begun (subst (λ (z : Task). is_waiting z.stage ≡ true) e waits)))
    (has_queued w tasks x hx)

-- Timely

abbrev pub TimelyAt : Opening → List Logged → Logged → Type 0
TimelyAt o before l =
    IsTimelyAt before (due_of (standings_of o) o before) (due_of (standings_of o) o before).left l.event

-- an event at which nothing was due, and behind which nothing is
pub record IsUntimed (o : Opening) (journal : List Logged) (l : Logged) : Type 0 where
  pub cut : IsCutByCommand journal l.event → ⊥
  pub due : (due : Due) → due.left ≡ [] → (due_after (standings_of o) o journal l l.event due).left ≡ []

-- an end or a cut
abbrev is_timed : Event → Bool
is_timed (event.Ended number) = true
is_timed (event.Cut number puts why told) = true
is_timed (event.Came number node line) = false
is_timed (event.Enter number) = false
is_timed (event.Turned number) = false
is_timed (event.Begun number) = false
is_timed (event.Granted number) = false
is_timed (event.Moved number count) = false
is_timed (event.Asked number) = false
is_timed (event.Closed number outcome) = false
is_timed (event.Deliver node kind number) = false

pub untimed : (o : Opening) (journal : List Logged) (l : Logged) → is_timed l.event ≡ false → IsUntimed o journal l
untimed o journal l timed = go l.event refl timed
  where
    Fine : Event → Type 0
    Fine e = (IsCutByCommand journal e → ⊥)
        × ((due : Due) → due.left ≡ [] → (due_after (standings_of o) o journal l e due).left ≡ [])

    by : (e : Event) → l.event ≡ e → Fine e → IsUntimed o journal l
    by e is fine = let f = subst Fine (sym is) fine in record { cut = f.0; due = f.1 }

    go : (e : Event) → l.event ≡ e → is_timed e ≡ false → IsUntimed o journal l
    go (event.Ended number) is t = absurd (cc)
    go (event.Cut number puts why told) is t = absurd (cc)
    go (event.Came number node line) is t = by _ is (λ c. c, λ due none. none)
    go (event.Enter number) is t = by _ is (λ c. c, λ due none. none)
    go (event.Turned number) is t = by _ is (λ c. c, λ due none. none)
    go (event.Begun number) is t = by _ is (λ c. c, λ due none. none)
    go (event.Granted number) is t = by _ is (λ c. c, λ due none. none)
    go (event.Moved number count) is t = by _ is (λ c. c, λ due none. none)
    go (event.Asked number) is t = by _ is (λ c. c, λ due none. none)
    go (event.Closed number outcome) is t = by _ is (λ c. c, λ due none. none)
    go (event.Deliver node kind number) is t = by _ is (λ c. c, λ due none. none)

none_left : (left : List ℕ) → left ≡ [] → drop 1 left ≡ []
none_left left e = ap (drop 1) e

-- a cut by the medium, and one by a function
pub untimed_medium : (o : Opening) (journal : List Logged) (l : Logged) (number puts : ℕ) (told : Bool)
    → l.event ≡ event.Cut number puts Medium told → IsUntimed o journal l
untimed_medium o journal l number puts told is = record {
  cut = λ c. subst (IsCutByCommand journal) is c;
  due = λ due none. ap (λ e. (due_after (standings_of o) o journal l e due).left) is ∙ none_left due.left none;
}

pub untimed_by : (o : Opening) (journal : List Logged) (l : Logged) (number puts by : ℕ) (told : Bool) (ask : Ask)
    → l.event ≡ event.Cut number puts (By by) told → IsFunctionOf journal by ask → IsUntimed o journal l
untimed_by o journal l number puts by told ask is asked = record {
  cut = λ c.
      let command = subst (IsCutByCommand journal) is c in
      let same : work.Ask ask ≡ work.Cmd command.0 = same_Some _ _ (sym asked ∙ command.1) in
      cc;
  due = λ due none. ap (λ e. (due_after (standings_of o) o journal l e due).left) is ∙ none_left due.left none;
}

-- the commands of a set that holds no nexus
pub none_of : (cleared : List Bool) (members : List Member) → ((nexus : Nexus) → contains cleared nexus ≡ false)
    → filter (is_of cleared) members ≡ []
none_of cleared [] none = refl
none_of cleared (member ∷ members) none =
    ap (λ b. cond b (member ∷ filter (is_of cleared) members) (filter (is_of cleared) members))
    (none member.command.nexus)
    ∙ none_of cleared members none

-- an end of a command that clears no nexus
pub untimed_end : (o : Opening) (journal : List Logged) (l : Logged) (number : ℕ) (c : Command)
    → l.event ≡ event.Ended number → IsCommandOf journal number c
    → ((nexus : Nexus) → contains (execute (serial_disk o journal) c).cleared nexus ≡ false) → IsUntimed o journal l
untimed_end o journal l number c is known none = record {
  cut = λ cut. subst (IsCutByCommand journal) is cut;
  due = λ due left.
      ap (λ e. (due_after (standings_of o) o journal l e due).left) is
      ∙ ap (λ w. (due_by o journal number w (members_of (replay o (journal ++ l ∷ [])).tasks)).left) known
      ∙ ap numbers_among
      (none_of (execute (serial_disk o journal) c).cleared (members_of (replay o (journal ++ l ∷ [])).tasks) none);
}

-- Schedules

pub record Scheduled (o : Opening) (s : State) (journal : List Logged) : Type 0 where
  pub at : s ≡ replay o journal
  pub timely : Each (TimelyAt o) journal
  pub due : (due_of (standings_of o) o journal).left ≡ []
  pub worked : Worked o.blocks s.tasks

pub replayed : (o : Opening) (s : State) (journal : List Logged) (l : Logged)
    → s ≡ replay o journal → after s l ≡ replay o (journal ++ l ∷ [])
replayed o s journal l at = ap (λ t. after t l) at ∙ sym (replay-more o journal l)

-- one event
pub goes_on : (o : Opening) (s now : State) (journal : List Logged) (l : Logged) → Scheduled o s journal
    → after s l ≡ now → Worked o.blocks now.tasks → IsUntimed o journal l → Scheduled o now (journal ++ l ∷ [])
goes_on o s now journal l h is worked untimed = record {
  at = sym is ∙ replayed o s journal l h.at;
  timely = each_more (TimelyAt o) [] journal l h.timely
      (subst (λ left. IsTimelyAt journal (due_of (standings_of o) o journal) left l.event) (sym h.due) untimed.cut);
  due = ap (λ (d : Due). d.left) (due-more (standings_of o) o journal l) ∙ untimed.due
      (due_of (standings_of o) o journal) h.due;
  worked = worked;
}
