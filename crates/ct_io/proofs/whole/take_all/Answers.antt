use Rattle.std.proofs.Common.{ℕ, ◌+◌, ◌-◌, ◌≤◌, List, ◌++◌, length, take, Option, OnErr, Result, Ok, Err, arith, length-append, length-take}
use Rattle.std.specs.Io.KnownBytes.{Consumes}
use Rattle.std.proofs.KnownBytes.{Consumes-trans}
use Rattle.ct_io.specs.Streams.{GivesUpTo}
use Rattle.ct_io.proofs.whole.take_all.Goals as goal

-- what was given before, and what one more read gave
given_more : (limit count : ℕ) (old middle new : Option (List ℕ)) (taken piece : List ℕ) → Consumes old middle taken
    → Consumes middle new (take count piece) → length taken ≤ limit → count ≤ limit - length taken + 1
    → GivesUpTo (limit + 1) old new
given_more limit count old middle new taken piece before one within few = record {
  bytes = taken ++ take count piece;
  given = Consumes-trans _ _ _ _ _ before one;
  within = omega (arith, within, few, length-append taken (take count piece), length-take count piece);
}

-- it was given, whatever the answer is
on_err : {T E : Type 0} (result : Result T E) (most : ℕ) (old new : Option (List ℕ)) → GivesUpTo most old new → OnErr result (GivesUpTo most old new)
on_err (Ok _) most old new given = tt
on_err (Err _) most old new given = given

pub returns-then-count-room-clause-given : goal.returns-then-count-room-clause-given
returns-then-count-room-clause-given g c =
    given_more c.args.limit c.in_ok-count.count _ _ _ c.loop-taken.taken.items c.read_past.new.piece c.loop-taken.invariant.given c.in_ok-count.ensures.bytes.0 (omega arith) (omega (arith, c.in_ok-count.ensures.bound.0, c.len.ensures))

pub returns-in_err-extend_from_slice-clause-given : goal.returns-in_err-extend_from_slice-clause-given
returns-in_err-extend_from_slice-clause-given g c =
    on_err _ _ _ _ (given_more c.args.limit c.in_ok-count.count _ _ _ c.loop-taken.taken.items c.read_past.new.piece c.loop-taken.invariant.given c.in_ok-count.ensures.bytes.0 (omega arith) (omega (arith, c.in_ok-count.ensures.bound.0, c.len.ensures)))
