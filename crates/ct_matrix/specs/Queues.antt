-- The task set of a logical unit in queue order (SAM-5, clause 8; the place of a HEAD OF QUEUE command is this
-- project's own).
use Rattle.std.specs.Prelude.{◌≡◌, ℕ, List, [], ◌∷◌, ◌++◌, Bool, true, false, not, ◌&&◌, ◌==◌, if◌then◌else◌, Option, None, Some, is_none, IsNone, option_map}
use Rattle.std.specs.List.{find}
use Rattle.std.specs.Option.{option_map_or}
use Rattle.ct_cdb.specs.declared.op.Attr2.{Attr2}
use Rattle.ct_matrix.specs.declared.held.HeldCommand.{HeldCommand}
use Rattle.ct_matrix.specs.Conflicts.{has_to_wait, is_head}

-- what contracts see of a task set: its commands in queue order, how many it can hold, and whether
-- reordering is unrestricted
pub record TaskSet : Type 0 where
  pub commands : List HeldCommand
  pub depth : ℕ
  pub unrestricted : Bool

-- a new item goes right before the first of a list that passes a test, or last where none does
abbrev pub before_first : {A : Type 0} → (A → Bool) → A → List A → List A
before_first test new [] = new ∷ []
before_first test new (item ∷ items) = if test item then new ∷ item ∷ items else item ∷ before_first test new items

-- a HEAD OF QUEUE command goes right before the first command that waits, any other goes last
abbrev pub placed_among : {A : Type 0} → (A → Bool) → Attr2 → A → List A → List A
placed_among waits attr new items = if is_head attr then before_first waits new items else items ++ new ∷ []

abbrev pub waits_yet : HeldCommand → Bool
waits_yet command = not command.held.begun

abbrev pub placed : HeldCommand → List HeldCommand → List HeldCommand
placed new commands = placed_among waits_yet new.held.attr new commands

-- the command with a number
abbrev pub command_of : ℕ → List HeldCommand → Option HeldCommand
command_of wanted commands = find (λ command. command.no == wanted) commands

-- a command is held, and waits
abbrev pub is_waiting : ℕ → TaskSet → Bool
is_waiting wanted set = option_map_or waits_yet (command_of wanted set.commands) false

-- the commands but the one with a number
abbrev pub without : ℕ → List HeldCommand → List HeldCommand
without leaving [] = []
without leaving (command ∷ commands) = if command.no == leaving then without leaving commands else command ∷ without leaving commands

-- the command with a number has begun
abbrev pub with_begun : ℕ → List HeldCommand → List HeldCommand
with_begun beginning [] = []
with_begun beginning (command ∷ commands) =
    (if command.no == beginning then record command { held = record command.held { begun = true } } else command) ∷ with_begun beginning commands

-- the first of these commands for which a waiting one has to wait; those behind it stand no longer ahead
abbrev pub first_to_wait_for : Bool → Bool → HeldCommand → List HeldCommand → Option ℕ
first_to_wait_for unrestricted ahead waiting [] = None
first_to_wait_for unrestricted ahead waiting (command ∷ commands) =
    if command.no == waiting.no then first_to_wait_for unrestricted false waiting commands
    else if has_to_wait unrestricted ahead command.held waiting.held then Some command.no
    else first_to_wait_for unrestricted ahead waiting commands

-- the first command in queue order for which a waiting command has to wait
unfoldable pub blocker_of : TaskSet → HeldCommand → Option ℕ
blocker_of set waiting = first_to_wait_for set.unrestricted true waiting set.commands

-- its number, where one is found
abbrev pub number_of : Option HeldCommand → Option ℕ
number_of found = option_map (λ command. command.no) found

-- a waiting command stands once in a task set, between those ahead of it and those behind
pub record Stands (set : TaskSet) (ahead : List HeldCommand) (waiting : HeldCommand) (behind : List HeldCommand) : Type 0 where
  pub order : set.commands ≡ ahead ++ waiting ∷ behind
  pub once_ahead : IsNone (command_of waiting.no ahead)
  pub once_behind : IsNone (command_of waiting.no behind)

-- the first of some commands, all ahead of a waiting one or all behind it, for which it has to wait
abbrev pub first_waited_for : Bool → Bool → HeldCommand → List HeldCommand → Option ℕ
first_waited_for unrestricted is_ahead waiting commands =
    number_of (find (λ command. has_to_wait unrestricted is_ahead command.held waiting.held) commands)

-- it waits, and for no other command
abbrev pub is_ready : TaskSet → HeldCommand → Bool
is_ready set command = waits_yet command && is_none (blocker_of set command)

-- the first command that is ready, the first that has begun, and the first of all
unfoldable pub next_ready_of : TaskSet → Option ℕ
next_ready_of set = number_of (find (is_ready set) set.commands)

abbrev pub first_begun_of : TaskSet → Option ℕ
first_begun_of set = number_of (find (λ command. command.held.begun) set.commands)

abbrev pub first_of : List HeldCommand → Option ℕ
first_of [] = None
first_of (command ∷ commands) = Some command.no

-- the command right behind the one with a number
abbrev pub after_of : ℕ → List HeldCommand → Option ℕ
after_of wanted [] = None
after_of wanted (command ∷ commands) = if command.no == wanted then first_of commands else after_of wanted commands
