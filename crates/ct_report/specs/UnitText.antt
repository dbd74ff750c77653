-- What one logical unit did: its number, its events, and what is on its disk.
use Rattle.std.specs.Prelude.{ℕ, List, ◌++◌, codes, decimal}
use Rattle.ct_word.specs.declared.names.LunNo.{LunNo}
use Rattle.ct_book.specs.declared.event.Logged.{Logged}
use Rattle.ct_report.specs.DiskText.{disk_text}
use Rattle.ct_report.specs.JournalText.{journal_text}

unfoldable pub unit_text : LunNo → List Logged → List (List ℕ) → List ℕ
unit_text lun journal blocks = codes "lun " ++ decimal lun.0 ++ codes "\n" ++ journal_text journal ++ disk_text blocks
