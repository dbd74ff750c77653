-- Answers: how a command ended, and how a task management function was answered.
use Rattle.std.specs.Prelude.{ℕ, List, [], ◌∷◌, ◌++◌, Bool, codes, Option, Some, None}
use Rattle.hex.specs.Hex.{encode_lower}
use Rattle.ct_sense.specs.declared.sense.Sense.{Sense}
use Rattle.ct_sense.specs.declared.reply.Reply.{Reply}
use Rattle.ct_sense.specs.declared.reply.Status.{Status}
use Rattle.ct_sense.specs.declared.reply.Status.TheVariants.{Good, CheckCondition, Busy, ReservationConflict, TaskSetFull, AcaActive, TaskAborted}
use Rattle.ct_sense.specs.Forms.{bytes_of_sense}
use Rattle.ct_tmf.specs.declared.function.Outcome.{Outcome}
use Rattle.ct_tmf.specs.declared.function.Outcome.TheVariants.{Complete, Succeeded, Rejected}
use Rattle.ct_report.specs.ByteText.{text_of_bytes}

-- the status codes by name (SAM-5, 5.3.1)
abbrev pub status_name : Status → List ℕ
status_name Good = codes "GOOD"
status_name CheckCondition = codes "CHECK CONDITION"
status_name Busy = codes "BUSY"
status_name ReservationConflict = codes "RESERVATION CONFLICT"
status_name TaskSetFull = codes "TASK SET FULL"
status_name AcaActive = codes "ACA ACTIVE"
status_name TaskAborted = codes "TASK ABORTED"

-- the service responses by name (SAM-5, 7.1)
abbrev pub outcome_name : Outcome → List ℕ
outcome_name Complete = codes "FUNCTION COMPLETE"
outcome_name Succeeded = codes "FUNCTION SUCCEEDED"
outcome_name Rejected = codes "FUNCTION REJECTED"

-- sense data, where there are any (SPC-4, 4.5): their bytes in plain hexadecimal
abbrev pub sense_text : Option Sense → Bool → List ℕ
sense_text None descriptor = []
sense_text (Some sense) descriptor = codes " sense " ++ encode_lower (bytes_of_sense sense descriptor)

-- data-in, where there are any: a byte text
abbrev pub data_text : List ℕ → List ℕ
data_text [] = []
data_text (byte ∷ bytes) = codes " data " ++ text_of_bytes (byte ∷ bytes)

-- how a command ended: its status, its sense data and its data-in
abbrev pub answer_text : Reply → List ℕ
answer_text reply = status_name reply.status ++ sense_text reply.sense reply.descriptor ++ data_text reply.body

-- the answer that a reply gives, behind a space
abbrev pub reply_text : Option Reply → List ℕ
reply_text None = []
reply_text (Some reply) = codes " " ++ answer_text reply
