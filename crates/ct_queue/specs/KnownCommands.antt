-- What is kept of each command beside the queue, and which changes touch it.
use Rattle.std.specs.Prelude.{◌≡◌, ℕ, List, [], ◌∷◌, Bool, true, false, not, ◌&&◌, ◌==◌, if◌then◌else◌, Option, None, map, is_none, option_map}
use Rattle.std.specs.Option.{option_map_or}
use Rattle.ct_matrix.specs.declared.held.HeldCommand.{HeldCommand}
use Rattle.ct_matrix.specs.Conflicts.{has_to_wait}
use Rattle.ct_matrix.specs.Queues.{waits_yet, first_to_wait_for}
use Rattle.ct_word.specs.Kept.{Kept}
use Rattle.ct_queue.specs.declared.known_command.KnownCommand.{KnownCommand}
use Rattle.ct_queue.specs.declared.known_command.Change.{Change}
use Rattle.ct_queue.specs.declared.known_command.Change.TheVariants as change

-- the command for which one that waits has to wait first, among all
abbrev pub known_in : Bool → List HeldCommand → HeldCommand → KnownCommand
known_in unrestricted all command = record {
  no = command.no;
  begun = command.held.begun;
  blocker = if command.held.begun then None else first_to_wait_for unrestricted true command all;
}

-- each command's is kept, in queue order
pub record AreKept (unrestricted : Bool) (commands : Kept HeldCommand) (known : Kept KnownCommand) : Type 0 where
  pub items : known.items ≡ map (known_in unrestricted commands.items) commands.items
  pub room : known.room ≡ commands.room

-- what is kept of a command names this one as its blocker
abbrev pub is_blocked_by : ℕ → KnownCommand → Bool
is_blocked_by number kept = option_map_or (λ blocker. blocker == number) kept.blocker false

-- a change may tell another blocker of a command than the one kept: the blocker stays that begins, and goes that leaves
abbrev pub may_touch : Change → KnownCommand → Bool
may_touch change.Order kept = true
may_touch (change.Entered entered) kept = true
may_touch (change.Begun begun) kept = not (is_blocked_by begun.now.no kept)
may_touch (change.Left left) kept = is_blocked_by left kept

abbrev pub touches : Change → Bool → HeldCommand → KnownCommand → Bool
touches change.Order unrestricted command kept = true
touches (change.Entered entered) unrestricted command kept = has_to_wait unrestricted true entered.now.held command.held
touches (change.Begun begun) unrestricted command kept =
    not (is_blocked_by begun.now.no kept) && has_to_wait unrestricted false begun.now.held command.held
touches (change.Left left) unrestricted command kept = is_blocked_by left kept

abbrev pub is_touched : Change → Bool → HeldCommand → KnownCommand → Bool
is_touched what unrestricted command kept = waits_yet command && touches what unrestricted command kept

-- what is kept of the commands that a change doesn't touch is right among all
abbrev pub IsRight : Change → Bool → List HeldCommand → List HeldCommand → List KnownCommand → Type 0
IsRight what unrestricted all [] [] = Unit {0}
IsRight what unrestricted all (command ∷ commands) (kept ∷ others) =
    (is_touched what unrestricted command kept ≡ false → kept ≡ known_in unrestricted all command) × IsRight what unrestricted all commands others
IsRight what unrestricted all _ _ = ⊥

-- tests of what is kept of a command, and its number
abbrev pub has_number : ℕ → KnownCommand → Bool
has_number wanted kept = kept.no == wanted

abbrev pub waits_in : KnownCommand → Bool
waits_in kept = not kept.begun

abbrev pub is_ready_in : KnownCommand → Bool
is_ready_in kept = not kept.begun && is_none kept.blocker

abbrev pub has_begun_in : KnownCommand → Bool
has_begun_in kept = kept.begun

abbrev pub number_in : Option KnownCommand → Option ℕ
number_in found = option_map (λ kept. kept.no) found
