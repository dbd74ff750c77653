-- A failure and the count of faults that tells of it.
use Rattle.std.specs.Prelude.{◌≡◌, ℕ, ◌+◌, ◌-◌, ◌^◌, ◌≤◌, min, Option, None, Some, Result, OnOk, OnErr}

-- where a count stands still: nowhere, or at the end of u64
abbrev pub no_end : Option ℕ
no_end = None

abbrev pub end_of_u64 : Option ℕ
end_of_u64 = Some (2 ^ 64 - 1)

-- a count rose by one, or stands at its end
abbrev pub Rose : Option ℕ → ℕ → ℕ → Type 0
Rose None before now = now ≡ before + 1
Rose (Some end) before now = now ≡ min (before + 1) end

-- the count of faults is as before where the result is a value, and rises where it is a failure; it never falls
pub record HasCause {T E : Type 0} (end : Option ℕ) (before now : ℕ) (result : Result T E) : Type 0 where
  pub kept : OnOk result (now ≡ before)
  pub failed : OnErr result (Rose end before now)
  pub later : before ≤ now
