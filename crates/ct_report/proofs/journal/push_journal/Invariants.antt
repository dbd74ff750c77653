use Rattle.std.proofs.Common.{◌≡◌, ◌++◌, drop}
use Rattle.ct_report.specs.JournalText.{journal_text}
use Rattle.ct_report.proofs.journal.push_journal.Given as goal

-- the text so far and the events that are left are the whole journal
abbrev pub invariant-loop-place : goal.invariant-loop-place
invariant-loop-place l = l.text.items ++ journal_text (drop l.place l.book.journal) ≡ l.fn.text.items ++ journal_text l.book.journal
