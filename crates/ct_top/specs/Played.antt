-- What `play` does: the acts that the lines of a script name, in order, and all that can still be done at the end.
use Rattle.std.specs.Prelude.{◌≡◌, ◌+◌, ℕ, List, [], ◌∷◌, ◌++◌, Option, Some, None}
use Rattle.ct_word.specs.declared.limit.TheConstants.{MOST_STEP}
use Rattle.ct_word.specs.declared.names.Node.TheVariants.{A}
use Rattle.ct_book.specs.declared.event.Logged.{Logged}
use Rattle.ct_book.specs.Journals.{KeptWork}
use Rattle.ct_plan.specs.Pieces.{faults_at}
use Rattle.ct_machine.specs.declared.act.Act.{Act}
use Rattle.ct_machine.specs.declared.act.Act.TheVariants as act
use Rattle.ct_machine.specs.declared.act.Answer.TheVariants as answer
use Rattle.ct_machine.specs.declared.act.Opening.{Opening}
use Rattle.ct_machine.specs.Acts.{act_of}
use Rattle.ct_machine.specs.Runs.{replay}
use Rattle.ct_pair.specs.Pairs.{PairState}
use Rattle.ct_script.specs.declared.script.Line.{Line}
use Rattle.ct_script.specs.declared.script.Word.{Word}
use Rattle.ct_script.specs.declared.script.Word.TheVariants.{Lun, Port, Map, Cmd, Task, Step, Drain, Sync}
use Rattle.ct_top.specs.Commands.{work_sent}

-- how far a play has come: the journal, and how many operations of the medium failed so far
pub record Point : Type 0 where
  pub journal : List Logged
  pub faults : ℕ

abbrev pub point_of : PairState → Point
point_of pair = record { journal = pair.book.journal; faults = pair.desk.faults }

-- the machine did an act behind a journal, with a fault of the medium exactly where the count of faults rose, by one
pub record Acted (o : Opening) (done : Act) (before after : Point) : Type 0 where
  pub fault : Option ℕ
  pub counted : after.faults ≡ before.faults + faults_at fault
  pub written : after.journal ≡ before.journal ++ (act_of (replay o before.journal) done fault).journal

-- the next thing to be done, by as many block operations as one step makes at most
abbrev pub next : Act
next = act.Next MOST_STEP

-- nothing could be done
pub record Idled (o : Opening) (before after : Point) : Type 0 where
  pub acted : Acted o next before after
  pub answer : (act_of (replay o before.journal) next acted.fault).answer ≡ answer.Idle
  pub silent : after.journal ≡ before.journal

-- the next thing is done, again and again, until nothing can be done
pub data Drains (o : Opening) : Point → Point → Type 0 where
  idle : (before after : Point) → Idled o before after → Drains o before after
  more : (before after end : Point) → Acted o next before after → Drains o after end → Drains o before end

-- what a line does
abbrev pub ByWork : Opening → Option KeptWork → Point → Point → Type 0
ByWork o None before after = after ≡ before
ByWork o (Some came) before after = Acted o (act.Arrive A came) before after

abbrev pub ByLine : Opening → ℕ → Word → Point → Point → Type 0
ByLine o line (Cmd n x tag attr cdb out) before after = ByWork o (work_sent line (Cmd n x tag attr cdb out)) before after
ByLine o line (Task n x function) before after = ByWork o (work_sent line (Task n x function)) before after
ByLine o line (Step lun number blocks) before after = Acted o (act.Step number blocks) before after
ByLine o line (Drain lun) before after = Drains o before after
ByLine o line Sync before after = Drains o before after
ByLine o line (Lun lun blocks sizes) before after = after ≡ before
ByLine o line (Port port node) before after = after ≡ before
ByLine o line (Map n x lun) before after = after ≡ before

-- lines, one after another
abbrev pub ByLines : Opening → List Line → Point → Point → Type 0
ByLines o [] before after = after ≡ before
ByLines o (line ∷ lines) before after = (between : Point) × ByLine o line.no line.word before between × ByLines o lines between after

-- the lines were done from an empty journal and a first count of faults on, and then all that could still be done
pub record IsPlayed (o : Opening) (lines : List Line) (first : ℕ) (end : Point) : Type 0 where
  pub last : Point
  pub lines_done : ByLines o lines (record { journal = []; faults = first }) last
  pub drained : Drains o last end
