use Rattle.std.proofs.Common.{sym, ap, subst}
use Rattle.ct_turn.proofs.Sounds.{joined_sound, joined_seen}
use Rattle.ct_turn.specs.Steps.{Joined, newcomer}
use Rattle.ct_turn.proofs.turn.Turn.meet.Goals as goal

pub invariant_of-seat : goal.invariant_of-seat
invariant_of-seat g c = let its = c.other.invariant.0 in
    let joined = subst (λ m. Joined c.seat.inside.token.me.0 m c.glue.new.token.me.0) (ap (λ m. m.0) c.copy-token.ensures.given.1) c.glue.ensures.joined in
    (joined_sound g.M.Machine.steps _ (newcomer 0 c.other.inside.token.me.0) _ its.o c.seat.invariant.0 its.opening tt joined, c.glue.ensures.same.1)

pub returns-clause-seen : goal.returns-clause-seen
returns-clause-seen g c =
    let joined = subst (λ m. Joined c.seat.inside.token.me.0 m c.glue.new.token.me.0) (ap (λ m. m.0) c.copy-token.ensures.given.1) c.glue.ensures.joined in
    rw (sym (ap (λ s. s.seen) c.seat.view_is), sym (ap (λ s. s.seen) c.other.view_is)) (joined_seen c.seat.inside.token.me.0 (newcomer 0 c.other.inside.token.me.0) c.glue.new.token.me.0 joined)
