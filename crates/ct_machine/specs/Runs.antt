-- Runs of the machine: what acts write, one after another, from an opening.
use Rattle.std.specs.Prelude.{◌≡◌, ◌≢◌, ℕ, ◌≤◌, List, [], ◌++◌, Option, fold}
use Rattle.std.specs.Bool.{OnTrue}
use Rattle.std.specs.List.{All}
use Rattle.ct_word.specs.declared.names.Ha.TheVariants.{None}
use Rattle.ct_word.specs.declared.names.Node.{Node}
use Rattle.ct_book.specs.declared.event.Logged.{Logged}
use Rattle.ct_machine.specs.declared.act.Act.{Act}
use Rattle.ct_machine.specs.declared.act.Act.TheVariants as act
use Rattle.ct_machine.specs.declared.act.Opening.{Opening}
use Rattle.ct_machine.specs.States.{State, opened, is_remote}
use Rattle.ct_machine.specs.Events.{after_events}
use Rattle.ct_machine.specs.Acts.{act_of}

-- the state that a journal leads to from an opening
unfoldable pub replay : Opening → List Logged → State
replay o journal = after_events (opened o) journal

-- the acts that can come: works at the other node where there is one, and steps of at least one block operation
abbrev pub IsAtNode : Opening → Node → Type 0
IsAtNode o node = OnTrue (is_remote node) (o.ha ≢ None)

abbrev pub IsAllowed : Opening → Act → Type 0
IsAllowed o (act.Arrive node came) = IsAtNode o node
IsAllowed o (act.Step number count) = 1 ≤ count
IsAllowed o (act.Deliver node) = Unit {0}
IsAllowed o (act.Next count) = 1 ≤ count

-- an act, and the operation that the medium fails meanwhile, if there is one
pub record Move : Type 0 where
  pub act : Act
  pub fault : Option ℕ

-- a journal, and what one more act writes
abbrev pub written : Opening → List Logged → Move → List Logged
written o journal move = journal ++ (act_of (replay o journal) move.act move.fault).journal

unfoldable pub journal_of : Opening → List Move → List Logged
journal_of o moves = fold (written o) [] moves

-- a journal is a run
pub record IsRun (o : Opening) (journal : List Logged) : Type 0 where
  pub moves : List Move
  pub allowed : All (λ (move : Move). IsAllowed o move.act) moves
  pub made_by : journal ≡ journal_of o moves
