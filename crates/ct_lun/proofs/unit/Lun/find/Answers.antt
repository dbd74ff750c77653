use Rattle.std.proofs.Common.{◌≡◌, ◌≢◌, length, sym, ◌∙◌, arith}
use Rattle.ct_lun.specs.Desk.{place_of}
use Rattle.ct_lun.proofs.Lists.{place_within}
use Rattle.ct_lun.proofs.Steps.{place_named, place_absent}
use Rattle.ct_lun.proofs.unit.Lun.find.Goals as goal

pub returns-then-at-len-clause-none : goal.returns-then-at-len-clause-none
returns-then-at-len-clause-none g c =
    let place : c.place-at.result ≡ place_of c.args.no c.self.inside.slots.items = c.place-at.ensures in
    rw (← c.self.view_is) (place_absent c.args.no c.self.inside.slots.items (sym place ∙ c.if-at-len.true ∙ c.len.ensures))

pub returns-else-at-len-clause-within : goal.returns-else-at-len-clause-within
returns-else-at-len-clause-within g c =
    let place : c.place-at.result ≡ place_of c.args.no c.self.inside.slots.items = c.place-at.ensures in
    let unequal : c.place-at.result ≢ length c.self.inside.slots.items = λ e. c.if-at-len.false (e ∙ sym c.len.ensures) in
    rw (← c.self.view_is) (omega (arith, place_within c.args.no c.self.inside.slots.items, place, unequal))

pub returns-else-at-len-clause-named : goal.returns-else-at-len-clause-named
returns-else-at-len-clause-named g c =
    let place : c.place-at.result ≡ place_of c.args.no c.self.inside.slots.items = c.place-at.ensures in
    let unequal : c.place-at.result ≢ length c.self.inside.slots.items = λ e. c.if-at-len.false (e ∙ sym c.len.ensures) in
    rw (← c.self.view_is, place) (place_named c.args.no c.self.inside.slots.items (omega (arith, place_within c.args.no c.self.inside.slots.items, place, unequal)))
