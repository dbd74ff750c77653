-- What the top call answers, and what it leaves.
use Rattle.std.specs.Prelude.{◌≡◌, ℕ, ◌<◌, ◌≤◌, List, [], ◌∷◌, Bool, true, is_some, length, take, bytes_eq, codes, if◌then◌else◌, Option, Some, None, Result, Ok}
use Rattle.std.specs.Io.KnownBytes.{Appends}
use Rattle.ct_word.specs.declared.limit.TheConstants.{MOST_SCRIPT}
use Rattle.ct_word.specs.Causes.{Rose, end_of_u64}
use Rattle.ct_io.specs.Streams.{GivesAll}
use Rattle.ct_book.specs.Journals.{works_in}
use Rattle.ct_machine.specs.Runs.{replay, IsRun}
use Rattle.ct_machine.specs.Serial.{serial_disk}
use Rattle.ct_machine.specs.Laws.Journals.{has, is_entry, work_in}
use Rattle.ct_machine.specs.Laws.Once.{IsQuiet}
use Rattle.ct_machine.specs.Laws.Legal.{IsRestricted, IsLegal}
use Rattle.ct_machine.specs.Laws.{IsLawful}
use Rattle.ct_script.specs.declared.script.Line.{Line}
use Rattle.ct_script.specs.declared.script.ScriptFault.{ScriptFault}
use Rattle.ct_script.specs.Scripts.{script_of}
use Rattle.ct_top.specs.declared.command.Command.{Command}
use Rattle.ct_top.specs.declared.command.Command.TheVariants.{Play}
use Rattle.ct_top.specs.declared.report.UnitEnd.{UnitEnd}
use Rattle.ct_script.specs.Rules.{declared_blocks}
use Rattle.ct_top.specs.Commands.{works_sent, opening_of}
use Rattle.ct_top.specs.Played.{IsPlayed}
use Rattle.ct_top.specs.Report.{report_text}

-- the command that words ask for, if they are a written one
abbrev pub command_of : List (List ℕ) → Option Command
command_of (word ∷ []) = if bytes_eq word (codes "play") then Some Play else None
command_of _ = None

-- a source was read to its end, and its bytes say this
pub record WasRead (old new : Option (List ℕ)) (says : Result (List Line) ScriptFault) : Type 0 where
  pub bytes : List ℕ
  pub all : GivesAll old new bytes
  pub within : length bytes ≤ MOST_SCRIPT
  pub meaning : script_of bytes ≡ says

-- a unit with so many blocks was played: its journal is what the machine writes for the acts of the lines, a run, and
-- lawful, to which each work of the lines came in order, with one entry for each work, and all quiet at its end; no
-- operation of its disk failed; its disk has the blocks to which the journal leads. Where QUEUE ALGORITHM MODIFIER said
-- all along that reordering is restricted, the journal is legal, and the blocks are those behind its commands executed
-- one at a time, in the order in which they ended, of which a command that was cut left the blocks that it had put, and its
-- functions
pub record IsEnd (blocks : ℕ) (lines : List Line) (end : UnitEnd) : Type 0 where
  pub lun : end.lun ≡ record { 0 = 0 }
  pub played : IsPlayed (opening_of blocks lines) lines 0 (record { journal = end.book.journal; faults = 0 })
  pub run : IsRun (opening_of blocks lines) end.book.journal
  pub lawful : IsLawful (opening_of blocks lines) end.book.journal
  pub legal : IsRestricted (opening_of blocks lines) end.book.journal →
      IsLegal (opening_of blocks lines) end.book.journal
  pub arrived : works_in end.book.journal ≡ works_sent lines
  pub quiet : IsQuiet (replay (opening_of blocks lines) end.book.journal)
  pub answered : (number : ℕ) → is_some (work_in number end.book.journal) ≡ true →
      has (is_entry number) end.book.journal ≡ true
  pub disk : end.disk ≡ (replay (opening_of blocks lines) end.book.journal).blocks
  pub serial : IsRestricted (opening_of blocks lines) end.book.journal →
      end.disk ≡ (serial_disk (opening_of blocks lines) end.book.journal).blocks

-- one end for the unit that is declared, and none where none is
abbrev pub AreEndsOf : Option ℕ → List Line → List UnitEnd → Type 0
AreEndsOf None lines ends = ends ≡ []
AreEndsOf (Some blocks) lines ends = (end : UnitEnd) × (ends ≡ end ∷ []) × IsEnd blocks lines end

abbrev pub AreEnds : List Line → List UnitEnd → Type 0
AreEnds lines ends = AreEndsOf (declared_blocks lines) lines ends

-- a script was read and played, and its whole report was written
pub record IsReported (left_old left_new held_old held_new : Option (List ℕ)) (sent : ℕ) (ends : List UnitEnd) : Type 0 where
  pub lines : List Line
  pub script : WasRead left_old left_new (Ok lines)
  pub ended : AreEnds lines ends
  pub written : Appends held_old held_new (report_text ends)
  pub whole : sent ≡ length (report_text ends)

-- a script was read and played, and its report was written up to some byte
pub record IsCutShort (left_old left_new held_old held_new : Option (List ℕ)) (sent : ℕ) (ends : List UnitEnd) : Type 0 where
  pub lines : List Line
  pub script : WasRead left_old left_new (Ok lines)
  pub ended : AreEnds lines ends
  pub written : Appends held_old held_new (take sent (report_text ends))
  pub part : sent < length (report_text ends)

-- words, source and sink of which a report is to come: a written command, a script that is short enough, no fault
pub record IsPlayable (words : List (List ℕ)) (left : Option (List ℕ)) (source_before source_now sink_before sink_now : ℕ) : Type 0 where
  pub bytes : List ℕ
  pub lines : List Line
  pub play : command_of words ≡ Some Play
  pub told : left ≡ Some bytes
  pub short : length bytes ≤ MOST_SCRIPT
  pub script : script_of bytes ≡ Ok lines
  pub no_read_fault : ¬ (Rose end_of_u64 source_before source_now)
  pub no_write_fault : ¬ (Rose end_of_u64 sink_before sink_now)
