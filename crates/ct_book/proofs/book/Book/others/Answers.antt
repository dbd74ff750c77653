use Rattle.std.proofs.Common.{◌≡◌, ◌<◌, ◌+◌, ◌-◌, ◌∙◌, ap, sym, take, drop, arith, slice_get, Some}
use Rattle.ct_book.specs.Histories.{others_of, cut_by}
use Rattle.ct_book.specs.Kept.{logged_in}
use Rattle.ct_book.proofs.Entries.{drop-front, others-cut}
use Rattle.ct_book.proofs.book.Book.others.Goals as goal

pub loop-place-preserved : goal.loop-place-preserved
loop-place-preserved c =
    let book = c.args.self.now in
    let place = c.loop-place.place - 1 in
    let logged = logged_in book c.event.result.now in
    let at : slice_get book.journal place ≡ Some logged = c.event.ensures in
    let within : place < c.args.before = omega arith in
    let part = drop-front book.journal c.args.before place logged within at in
    let next : place + 1 ≡ c.loop-place.place = omega arith in
    record {
      within = omega arith;
      set = c.add_cut.ensures
          ∙ sym (ap (λ l. others_of c.args.asker book.works (cut_by c.args.by l)) part
          ∙ others-cut c.args.by c.args.asker book.works c.event.result.now (cut_by c.args.by (drop (place + 1) (take c.args.before book.journal)))
          ∙ rw (next, c.loop-place.invariant.set));
    }
