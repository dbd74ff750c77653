-- Byte texts: how bytes are printed.
use Rattle.std.specs.Prelude.{ℕ, List, [], ◌∷◌, ◌++◌, ◌==◌, nat_eq, if◌then◌else◌, decimal}
use Rattle.hex.specs.Hex.{encode_lower}
use Rattle.ct_report.specs.Runs.{Run, runs_of}

-- a run in print: its byte in lower case, and a star and the count where it stands more than once
abbrev pub run_text : Run ℕ → List ℕ
run_text run = encode_lower (run.item ∷ []) ++ (if run.count == 1 then [] else 42 ∷ decimal run.count)

-- further runs, each behind a dot
abbrev pub behind_dots : List (Run ℕ) → List ℕ
behind_dots [] = []
behind_dots (run ∷ runs) = 46 ∷ run_text run ++ behind_dots runs

-- bytes in print: their runs, with dots between them
abbrev pub text_of_runs : List (Run ℕ) → List ℕ
text_of_runs [] = []
text_of_runs (run ∷ runs) = run_text run ++ behind_dots runs

abbrev pub text_of_bytes : List ℕ → List ℕ
text_of_bytes bytes = text_of_runs (runs_of nat_eq bytes)

-- runs in print, each before a dot
abbrev pub before_dots : List (Run ℕ) → List ℕ
before_dots [] = []
before_dots (run ∷ runs) = run_text run ++ 46 ∷ before_dots runs

-- bytes in print, with a dot behind the last run, too
abbrev pub dotted_text : List ℕ → List ℕ
dotted_text bytes = before_dots (runs_of nat_eq bytes)

-- a byte that stands alone, before a dot
abbrev pub alone_text : ℕ → List ℕ
alone_text byte = encode_lower (byte ∷ []) ++ 46 ∷ []
