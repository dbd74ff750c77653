-- The lines of a disk: one for each maximal run of equal blocks that aren't all zeros.
use Rattle.std.specs.Prelude.{ℕ, ◌+◌, ◌-◌, List, [], ◌∷◌, ◌++◌, ◌==◌, Bool, codes, decimal, bytes_eq, if◌then◌else◌}
use Rattle.std.specs.List.{list_all}
use Rattle.ct_report.specs.Runs.{Run, runs_of}
use Rattle.ct_report.specs.ByteText.{text_of_bytes}

abbrev pub is_zero : List ℕ → Bool
is_zero block = list_all (λ byte. byte == 0) block

-- equal blocks from this one on, unless they are all zeros
abbrev pub block_run_text : ℕ → Run (List ℕ) → List ℕ
block_run_text first run =
    if is_zero run.item then []
    else codes "disk " ++ decimal first ++ codes " " ++ decimal (first + run.count - 1) ++ codes " " ++ text_of_bytes run.item ++ codes "\n"

abbrev pub block_runs_text : ℕ → List (Run (List ℕ)) → List ℕ
block_runs_text first [] = []
block_runs_text first (run ∷ runs) = block_run_text first run ++ block_runs_text (first + run.count) runs

abbrev pub disk_text : List (List ℕ) → List ℕ
disk_text blocks = block_runs_text 0 (runs_of bytes_eq blocks)
