-- Sources and sinks over memory, whose failing calls are listed by number.
use Rattle.std.specs.Prelude.{◌≡◌, ℕ, ◌+◌, ◌-◌, ◌^◌, ◌==◌, ◌&&◌, ◌||◌, nat_lt, min, Bool, List, ◌++◌, length, take, drop, if◌then◌else◌, Result, Ok, Err}
use Rattle.std.specs.List.{list_any}
use Rattle.ct_word.specs.declared.names.Failed.{Failed}

-- the calls that are to fail by their numbers from 0, how many calls were made, up to 2 ^ 64, and the count of faults
pub record Calls : Type 0 where
  pub fails : List ℕ
  pub made : ℕ
  pub faults : ℕ

-- the next call is listed as one that fails, which a call past number 2 ^ 64 - 1 never is
abbrev pub is_listed : Calls → Bool
is_listed calls = list_any (λ number. number == calls.made) calls.fails && nat_lt calls.made (2 ^ 64)

-- one more call was made
abbrev pub one_more : Calls → Calls
one_more calls = record calls { made = min (calls.made + 1) (2 ^ 64) }

-- how many calls were made, up to the end of u64
abbrev pub reads_of : Calls → ℕ
reads_of calls = min calls.made (2 ^ 64 - 1)

-- one more call failed
abbrev pub one_fault : Calls → Calls
one_fault calls = record calls { faults = min (calls.faults + 1) (2 ^ 64 - 1) }

-- the calls after one more, which failed or didn't
abbrev pub after_call : Calls → Bool → Calls
after_call calls fails = if fails then one_fault (one_more calls) else one_more calls

abbrev pub failed : Failed
failed = record {}

-- a source: the bytes that are left, and the most that a call gives
pub record SourceState : Type 0 where
  pub left : List ℕ
  pub most : ℕ
  pub calls : Calls

-- how many bytes the next read gives where there is such a room, if it doesn't fail
abbrev pub given_count : SourceState → ℕ → ℕ
given_count source room = min source.most (min (length source.left) room)

abbrev pub read_answer : SourceState → ℕ → Result ℕ Failed
read_answer source room = if is_listed source.calls then Err failed else Ok (given_count source room)

abbrev pub after_read : SourceState → ℕ → SourceState
after_read source room =
    record source {
      left = if is_listed source.calls then source.left else drop (given_count source room) source.left;
      calls = after_call source.calls (is_listed source.calls);
    }

-- what is in the place that is read into
abbrev pub filled : SourceState → List ℕ → List ℕ
filled source into =
    let count = given_count source (length into) in
    if is_listed source.calls then into else take count source.left ++ drop count into

-- a read, of which nothing is left open
pub record ReadsMemory (old new : SourceState) (before after : List ℕ) (result : Result ℕ Failed) : Type 0 where
  pub answer : result ≡ read_answer old (length before)
  pub state : new ≡ after_read old (length before)
  pub given : after ≡ filled old before

-- a sink: the bytes that it holds, the most that a call takes, and how many more have a place in memory
pub record SinkState : Type 0 where
  pub held : List ℕ
  pub most : ℕ
  pub room : ℕ
  pub calls : Calls

-- how many bytes of a piece of such a length the next write takes, if it doesn't fail
abbrev pub taken_count : SinkState → ℕ → ℕ
taken_count sink len = min sink.most len

-- the next write fails: it is listed, or its bytes have no place
abbrev pub write_fails : SinkState → ℕ → Bool
write_fails sink len = is_listed sink.calls || nat_lt sink.room (taken_count sink len)

abbrev pub write_answer : SinkState → ℕ → Result ℕ Failed
write_answer sink len = if write_fails sink len then Err failed else Ok (taken_count sink len)

abbrev pub after_write : SinkState → List ℕ → SinkState
after_write sink piece =
    let count = if write_fails sink (length piece) then 0 else taken_count sink (length piece) in
    record sink {
      held = sink.held ++ take count piece;
      room = sink.room - count;
      calls = after_call sink.calls (write_fails sink (length piece));
    }

-- a write, of which nothing is left open
pub record WritesMemory (old new : SinkState) (piece : List ℕ) (result : Result ℕ Failed) : Type 0 where
  pub answer : result ≡ write_answer old (length piece)
  pub state : new ≡ after_write old piece
