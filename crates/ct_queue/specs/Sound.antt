-- What is true of every plain queue.
use Rattle.std.specs.Prelude.{◌≡◌, ℕ, ◌+◌, ◌≤◌, List, [], ◌∷◌, ◌==◌, length, IsNone}
use Rattle.std.specs.List.{position_or_len}
use Rattle.ct_word.specs.Kept.{Kept}
use Rattle.ct_matrix.specs.declared.held.HeldCommand.{HeldCommand}
use Rattle.ct_matrix.specs.Queues.{waits_yet, command_of}

-- each number stands once
abbrev pub IsSingle : List HeldCommand → Type 0
IsSingle [] = Unit {0}
IsSingle (command ∷ commands) = IsNone (command_of command.no commands) × IsSingle commands

-- the room was made for all commands, and each number stands once
pub record IsSound (commands : Kept HeldCommand) (depth : ℕ) : Type 0 where
  pub few : depth ≤ 256
  pub room : length commands.items + commands.room ≡ depth
  pub single : IsSingle commands.items

-- where the command with a number stands, or the length
abbrev pub place_of : ℕ → List HeldCommand → ℕ
place_of wanted commands = position_or_len (λ command. command.no == wanted) commands

-- where the first command that waits stands, or the length
abbrev pub waiting_from : List HeldCommand → ℕ
waiting_from commands = position_or_len waits_yet commands
