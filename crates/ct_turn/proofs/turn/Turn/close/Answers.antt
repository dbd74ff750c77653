use Rattle.std.proofs.Common.{◌≡◌, Some, sym, ap, ◌∙◌}
use mathlib.Core.Option.{some-injective}
use Rattle.ct_turn.specs.Seats.{Begins}
use Rattle.ct_turn.proofs.Turning.{closes_any, home_injective}
use Rattle.ct_turn.proofs.Sounds.{if_some, made_more}
use Rattle.ct_turn.proofs.turn.Turn.close.Goals as goal

pub into_machine-machine-requires : goal.into_machine-machine-requires
into_machine-machine-requires g c =
    let got = closes_any _ _ _ _ _ g.M.Machine.opening g.M.Machine.journal _ _ _ _ (ap (λ m. m.0.stage) c.take.ensures.1) c.close_with-closed.ensures.values.2 in
    (got.0, some-injective _ _ (sym c.take-2.ensures.value ∙ got.1))

pub returns-clause-opening : goal.returns-clause-opening
returns-clause-opening g c =
    let got = closes_any _ _ _ _ _ g.M.Machine.opening g.M.Machine.journal _ _ _ _ (ap (λ m. m.0.stage) c.take.ensures.1) c.close_with-closed.ensures.values.2 in
    let same : got.0 ≡ c.into_machine-machine.result = home_injective _ _ (sym (some-injective _ _ (sym c.take-2.ensures.value ∙ got.1)) ∙ c.into_machine-machine.ensures) in
    let mine = c.seat.invariant.0.opening in
    let now : c.take.new.token.me.0.opening ≡ Some c.seat.invariant.0.o = ap (λ m. m.0.opening) c.take.ensures.1 ∙ mine in
    let is = if_some c.take.new.token.me.0.opening (λ x. g.M.Machine.opening got.0 ≡ x) c.seat.invariant.0.o now got.2 in
    sym (ap (λ s. s.opening) c.seat.view_is) ∙ (mine ∙ ap Some (sym is ∙ ap g.M.Machine.opening same))

pub returns-clause-journal : goal.returns-clause-journal
returns-clause-journal g c =
    let got = closes_any _ _ _ _ _ g.M.Machine.opening g.M.Machine.journal _ _ _ _ (ap (λ m. m.0.stage) c.take.ensures.1) c.close_with-closed.ensures.values.2 in
    let same : got.0 ≡ c.into_machine-machine.result = home_injective _ _ (sym (some-injective _ _ (sym c.take-2.ensures.value ∙ got.1)) ∙ c.into_machine-machine.ensures) in
    let seen : c.take.new.token.me.0.seen ≡ c.args.seat.seen = ap (λ m. m.0.seen) c.take.ensures.1 ∙ ap (λ s. s.seen) c.seat.view_is in
    rw (sym seen, sym same) got.3

pub returns-clause-whole : goal.returns-clause-whole
returns-clause-whole g c all =
    let got = closes_any _ _ _ _ _ g.M.Machine.opening g.M.Machine.journal _ _ _ _ (ap (λ m. m.0.stage) c.take.ensures.1) c.close_with-closed.ensures.values.2 in
    let same : got.0 ≡ c.into_machine-machine.result = home_injective _ _ (sym (some-injective _ _ (sym c.take-2.ensures.value ∙ got.1)) ∙ c.into_machine-machine.ensures) in
    let own : c.take.new.token.me.0.own ≡ c.args.seat.own = ap (λ m. m.0.own) c.take.ensures.1 ∙ ap (λ s. s.own) c.seat.view_is in
    let parts : c.take.new.token.me.0.parts ≡ c.args.seat.parts = ap (λ m. m.0.parts) c.take.ensures.1 ∙ ap (λ s. s.parts) c.seat.view_is in
    λ k. rw (sym own, sym same) (got.4 (parts ∙ all) k)

pub returns-clause-made : goal.returns-clause-made
returns-clause-made g c =
    let got = closes_any _ _ _ _ _ g.M.Machine.opening g.M.Machine.journal _ _ _ _ (ap (λ m. m.0.stage) c.take.ensures.1) c.close_with-closed.ensures.values.2 in
    let same : got.0 ≡ c.into_machine-machine.result = home_injective _ _ (sym (some-injective _ _ (sym c.take-2.ensures.value ∙ got.1)) ∙ c.into_machine-machine.ensures) in
    let sound = c.seat.invariant.0 in
    let is = if_some c.take.new.token.me.0.opening (λ x. g.M.Machine.opening got.0 ≡ x) sound.o (ap (λ m. m.0.opening) c.take.ensures.1 ∙ sound.opening) got.2 in
    let seen : c.take.new.token.me.0.seen ≡ c.seat.inside.token.me.0.seen = ap (λ m. m.0.seen) c.take.ensures.1 in
    let more : Begins c.seat.inside.token.me.0.seen (g.M.Machine.journal c.into_machine-machine.result) = rw (sym seen, sym same) got.3 in
    let own : c.seat.inside.token.me.0.own ≡ c.args.seat.own = ap (λ s. s.own) c.seat.view_is in
    let o_is : g.M.Machine.opening c.into_machine-machine.result ≡ sound.o = ap g.M.Machine.opening (sym same) ∙ is in
    rw (sym own, o_is) (made_more g.M.Machine.steps sound.o c.seat.inside.token.me.0.seen (g.M.Machine.journal c.into_machine-machine.result) c.seat.inside.token.me.0.own more sound.made)
