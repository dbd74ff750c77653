-- A medium in memory, whose failing calls are listed by number.
use Rattle.std.specs.Prelude.{◌≡◌, ℕ, ◌+◌, ◌^◌, ◌==◌, ◌&&◌, nat_lt, min, Bool, List, [], replicate, slice_set}
use Rattle.std.specs.Prelude.{slice_index_or, if◌then◌else◌, Result, Ok, Err}
use Rattle.std.specs.List.{list_any}
use Rattle.ct_word.specs.declared.names.Failed.{Failed}

-- the calls that are to fail by their numbers from 0, how many calls were made, up to 2 ^ 64, and how many failed
pub record Calls : Type 0 where
  pub fails : List ℕ
  pub made : ℕ
  pub faults : ℕ

abbrev pub no_calls : List ℕ → Calls
no_calls fails = record { fails = fails; made = 0; faults = 0 }

-- the next call is listed as one that fails, which a call past number 2 ^ 64 - 1 never is
abbrev pub is_listed : Calls → Bool
is_listed calls = list_any (λ number. number == calls.made) calls.fails && nat_lt calls.made (2 ^ 64)

abbrev pub call_answer : Calls → Result (Unit {0}) Failed
call_answer calls = if is_listed calls then Err (record {}) else Ok tt

-- the calls after one more
abbrev pub after_call : Calls → Calls
after_call calls =
    record calls {
      made = min (calls.made + 1) (2 ^ 64);
      faults = if is_listed calls then calls.faults + 1 else calls.faults;
    }

-- a medium: its blocks, and its calls of `get` and `swap`, which are numbered together
pub record FaultyState : Type 0 where
  pub blocks : List (List ℕ)
  pub calls : Calls

-- so many blocks of zeros, whose calls with these numbers fail
abbrev pub opening_medium : ℕ → List ℕ → FaultyState
opening_medium blocks fails = record { blocks = replicate blocks (replicate 512 0); calls = no_calls fails }

abbrev pub after_get : FaultyState → FaultyState
after_get medium = record medium { calls = after_call medium.calls }

-- a block of these bytes is put at a place, if the call doesn't fail
abbrev pub after_swap : FaultyState → ℕ → List ℕ → FaultyState
after_swap medium lba bytes = record {
  blocks = if is_listed medium.calls then medium.blocks else slice_set medium.blocks lba bytes;
  calls = after_call medium.calls;
}

-- what is in the place that a block is copied or handed to
abbrev pub given : FaultyState → ℕ → List ℕ → List ℕ
given medium lba place = if is_listed medium.calls then place else slice_index_or medium.blocks lba []

-- a call of `get`, of which nothing is left open
pub record Gets (old new : FaultyState) (lba : ℕ) (before after : List ℕ) (result : Result (Unit {0}) Failed)
    : Type 0 where
  pub answer : result ≡ call_answer old.calls
  pub state : new ≡ after_get old
  pub place : after ≡ given old lba before

-- a call of `swap`, of which nothing is left open
pub record Swaps (old new : FaultyState) (lba : ℕ) (before after : List ℕ) (result : Result (Unit {0}) Failed)
    : Type 0 where
  pub answer : result ≡ call_answer old.calls
  pub state : new ≡ after_swap old lba before
  pub place : after ≡ given old lba before
