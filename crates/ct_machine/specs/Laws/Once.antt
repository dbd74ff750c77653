-- Each work is done once.
use Rattle.std.specs.Prelude.{◌≡◌, ℕ, ◌-◌, List, [], true, false, is_some}
use Rattle.ct_book.specs.declared.event.Event.TheVariants as event
use Rattle.ct_book.specs.declared.event.Logged.{Logged}
use Rattle.ct_machine.specs.declared.act.Opening.{Opening}
use Rattle.ct_machine.specs.States.{State}
use Rattle.ct_machine.specs.Runs.{replay}
use Rattle.ct_machine.specs.Laws.Journals.{Each, has, is_entry, work_in}

abbrev pub IsFirstEntry : List Logged → Logged → Type 0
IsFirstEntry before logged = (number : ℕ) → is_entry number logged.event ≡ true → has (is_entry number) before ≡ false

-- nothing is live, no function is open, no message is on its way
pub record IsQuiet (s : State) : Type 0 where
  pub tasks : s.tasks ≡ []
  pub functions : s.functions ≡ []
  pub to_a : s.to_a ≡ []
  pub to_b : s.to_b ≡ []

-- each work has at most one entry; where all is quiet, each has one
pub record EachOnce (o : Opening) (journal : List Logged) : Type 0 where
  pub at_most : Each IsFirstEntry journal
  pub all : IsQuiet (replay o journal) → (number : ℕ) → is_some (work_in number journal) ≡ true → has (is_entry number) journal ≡ true
