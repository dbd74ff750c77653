use Rattle.std.proofs.Common.{◌≡◌, ◌+◌, [], not, drop, get_or, bytes_eq}
use Rattle.std.specs.List.{position_or_len}
use Rattle.ct_report.proofs.disk.run_end.Given as goal

-- the blocks so far are equal
abbrev pub invariant-loop-end : goal.invariant-loop-end
invariant-loop-end l = l.first + 1 + position_or_len (λ block. not (bytes_eq block (get_or l.disk l.first [])))
    (drop (l.first + 1) l.disk) ≡ l.end + position_or_len (λ block. not (bytes_eq block (get_or l.disk l.first [])))
    (drop l.end l.disk)
