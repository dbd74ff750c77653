-- The words of the program, and how it ends.
use Rattle.std.specs.Prelude.{◌≡◌, ◌⊎◌, ℕ, List, drop, map, Option, String, string_bytes}
use Rattle.std.specs.declared.io.ErrorKind.{ErrorKind}
use Rattle.std.specs.declared.io.ErrorKind.TheVariants as kinds
use Rattle.ct_top.specs.declared.served.Exit.{Exit}
use Rattle.ct_top.specs.declared.served.Exit.TheVariants as exits
use Rattle.ct_top.specs.declared.served.Served.{Served}
use Rattle.ct_top.specs.Exits.{status_of, IsServed, IsUntouched}

-- how the program ends without words: memory ran out, or they aren't text and so no written command
abbrev pub exit_without_words : ErrorKind → Exit
exit_without_words kinds.OutOfMemory = exits.Memory
exit_without_words _ = exits.Usage

-- the program ended with a status and did nothing, since there were no words to serve
pub record EndedWithout {S K : Type 0} (source source_now : S) (sink sink_now : K) (exit : Exit) (status : ℕ) : Type 0 where
  pub served : Served
  pub untouched : IsUntouched source source_now sink sink_now exit served
  pub status_is : status ≡ status_of served.exit

-- a program with these arguments, of which the first is its own name, served the words behind that, or memory ran out
-- before and it did nothing; and it ended with the status of this
pub record Ended {S K Z : Type 0} (left : S → Option (List ℕ)) (read_faults : S → ℕ) (held : K → Option (List ℕ))
    (write_faults : K → ℕ) (args : List (String Z)) (source source_now : S) (sink sink_now : K) (status : ℕ) : Type 0 where
  pub served : Served
  pub call : IsServed left read_faults held write_faults (map string_bytes (drop 1 args)) source source_now sink sink_now served
      ⊎ IsUntouched source source_now sink sink_now exits.Memory served
  pub status_is : status ≡ status_of served.exit
