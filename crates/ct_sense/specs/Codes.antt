-- Sense data by their named code.
use Rattle.std.specs.Prelude.{ℕ, Option}
use Rattle.ct_sense.specs.declared.sense.Sense.{Sense}
use Rattle.ct_sense.specs.declared.sense.SenseCode.{SenseCode}

-- the sense data of a code, with INFORMATION where it is given
abbrev pub sense_of : SenseCode → Option ℕ → Sense
sense_of code info = record { key = code.key; asc = code.asc; ascq = code.ascq; info = info }
