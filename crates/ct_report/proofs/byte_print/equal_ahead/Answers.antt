use Rattle.std.proofs.Common.{◌==◌, not, sym}
use Rattle.ct_report.proofs.Places.{place_first, place_past}
use Rattle.ct_report.proofs.byte_print.equal_ahead.Goals as goal

pub returns-in-Some-clause-equal : goal.returns-in-Some-clause-equal
returns-in-Some-clause-equal c = place_first (λ b. not (b == c.args.first)) c.args.others.now c.in-Some.place
    (sym c.in-Some.ensures.place)

pub returns-in-None-clause-equal : goal.returns-in-None-clause-equal
returns-in-None-clause-equal c = place_past (λ b. not (b == c.args.first)) c.args.others.now
    (sym c.in-None.ensures.place)
