-- The answers of the top call, one by one.
use Rattle.std.specs.Prelude.{◌≡◌, ◌⊎◌, ◌↔◌, ℕ, List, [], Option, None, Err, ⊤}
use Rattle.ct_io.specs.declared.whole.TakeError.{TakeError}
use Rattle.ct_io.specs.declared.whole.TakeError.TheVariants as takes
use Rattle.ct_word.specs.declared.limit.TheConstants.{MOST_SCRIPT}
use Rattle.ct_word.specs.Causes.{Rose, end_of_u64}
use Rattle.ct_io.specs.Streams.{IsLongerThan}
use Rattle.ct_script.specs.declared.script.ParseError.{ParseError}
use Rattle.ct_script.specs.declared.script.ParseError.TheVariants as parses
use Rattle.ct_top.specs.Served.{command_of, WasRead, IsReported, IsCutShort, IsPlayable}
use Rattle.ct_script.specs.declared.script.ScriptFault.{ScriptFault}
use Rattle.ct_top.specs.declared.served.Exit.{Exit}
use Rattle.ct_top.specs.declared.served.Exit.TheVariants as exits
use Rattle.ct_top.specs.declared.served.Served.{Served}

-- the exit status of the program
abbrev pub status_of : Exit → ℕ
status_of exits.Done = 0
status_of exits.Usage = 2
status_of (exits.Script fault) = 3
status_of exits.TooLong = 3
status_of exits.Read = 4
status_of exits.Write = 5
status_of exits.Memory = 6

-- a fact of the fault, where the script is in fault
abbrev pub IfScript : Exit → (ScriptFault → Type 0) → Type 0
IfScript (exits.Script fault) P = P fault
IfScript _ P = ⊤

-- a fact, where something was written
abbrev pub IsWritten : Exit → Type 0
IsWritten exits.Done = ⊤
IsWritten exits.Write = ⊤
IsWritten _ = ⊥

abbrev pub exit_of_take : TakeError → Exit
exit_of_take takes.ReadFault = exits.Read
exit_of_take takes.TooLong = exits.TooLong
exit_of_take takes.NoMemory = exits.Memory

abbrev pub exit_of_parse : ParseError → Exit
exit_of_parse (parses.Fault fault) = exits.Script fault
exit_of_parse parses.NoMemory = exits.Memory

-- why a source of type S gives no script: each answer with its cause
abbrev pub IsRefusal : {S : Type 0} → (S → Option (List ℕ)) → (S → ℕ) → S → S → Exit → Type 0
IsRefusal left faults old new (exits.Script fault) = WasRead (left old) (left new) (Err fault)
IsRefusal left faults old new exits.TooLong = IsLongerThan MOST_SCRIPT (left old)
IsRefusal left faults old new exits.Read = Rose end_of_u64 (faults old) (faults new)
IsRefusal left faults old new exits.Memory = ⊤
IsRefusal left faults old new _ = ⊥

-- a call ended so, read nothing, wrote nothing and played nothing
pub record IsUntouched {S K : Type 0} (source source_now : S) (sink sink_now : K) (exit : Exit) (served : Served) : Type 0 where
  pub exit_is : served.exit ≡ exit
  pub unread : source_now ≡ source
  pub unwritten : sink_now ≡ sink
  pub none_sent : served.sent ≡ 0
  pub no_ends : served.ends.items ≡ []

-- what a call did with its words, its source and its sink, of which it is known what they have left and hold, and how often they failed
pub record IsServed {S K : Type 0} (left : S → Option (List ℕ)) (read_faults : S → ℕ) (held : K → Option (List ℕ)) (write_faults : K → ℕ)
    (words : List (List ℕ)) (source source_now : S) (sink sink_now : K) (served : Served) : Type 0 where
  pub done : served.exit ≡ exits.Done → IsReported (left source) (left source_now) (held sink) (held sink_now) served.sent served.ends.items
  pub usage : (served.exit ≡ exits.Usage) ↔ (command_of words ≡ None)
  pub unread : served.exit ≡ exits.Usage → source_now ≡ source
  pub script : IfScript served.exit (λ fault. WasRead (left source) (left source_now) (Err fault))
  pub too_long : served.exit ≡ exits.TooLong → IsLongerThan MOST_SCRIPT (left source)
  pub read : served.exit ≡ exits.Read → Rose end_of_u64 (read_faults source) (read_faults source_now)
  pub write : served.exit ≡ exits.Write → IsCutShort (left source) (left source_now) (held sink) (held sink_now) served.sent served.ends.items
  pub write_fault : served.exit ≡ exits.Write → Rose end_of_u64 (write_faults sink) (write_faults sink_now)
  pub unwritten : IsWritten served.exit ⊎ ((sink_now ≡ sink) × (served.sent ≡ 0) × (served.ends.items ≡ []))
  pub complete : IsPlayable words (left source) (read_faults source) (read_faults source_now) (write_faults sink) (write_faults sink_now) → (served.exit ≡ exits.Done) ⊎ (served.exit ≡ exits.Memory)
