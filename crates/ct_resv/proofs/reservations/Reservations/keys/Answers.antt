use Rattle.std.proofs.lemmas.List.{take_all}
use Rattle.ct_resv.proofs.Listing.{keys_fit}
use Rattle.ct_resv.proofs.reservations.Reservations.keys.Goals as goal

pub returns-clause-few : goal.returns-clause-few
returns-clause-few c =
    rw (c.loop-registrant.invariant, take_all _ _ c.loop-registrant-test.false)
    (keys_fit c.as_slice-registrant-items.result.now c.as_slice-registrant-items.ensures.few)
