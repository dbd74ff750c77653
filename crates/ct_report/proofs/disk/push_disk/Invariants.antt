use Rattle.std.proofs.Common.{◌≡◌, ◌≤◌, ◌-◌, ◌++◌, drop, length, bytes_eq}
use Rattle.ct_report.specs.Runs.{runs_of}
use Rattle.ct_report.specs.DiskText.{block_runs_text, disk_text}
use Rattle.ct_report.proofs.disk.push_disk.Given as goal

-- the text so far and the runs of the blocks that are left are those of the disk
abbrev pub invariant-loop-first : goal.invariant-loop-first
invariant-loop-first l = record {
  within : l.first ≤ length l.disk;
  text : l.text.items ++ block_runs_text l.first (runs_of bytes_eq
      (drop l.first l.disk)) ≡ l.fn.text.items ++ disk_text l.disk;
}

abbrev pub decreases-loop-first : goal.decreases-loop-first
decreases-loop-first l = length l.disk - l.first
