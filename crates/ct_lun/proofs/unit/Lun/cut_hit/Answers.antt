use Rattle.std.proofs.Common.{◌≡◌, ◌<◌, ◌≤◌, ℕ, ◌+◌, List, [], ◌∷◌, ◌++◌, true, false, length, refl, sym, ap, ◌∙◌, subst, arith}
use Rattle.std.proofs.lemmas.List.Edits.{length-remove}
use Rattle.ct_tmf.specs.Reaches.{hits}
use Rattle.ct_book.specs.Journals.{KeptWork, BookState, numbered}
use Rattle.ct_book.specs.Histories.{with_other, others_of}
use Rattle.ct_lun.specs.Desk.{Desk, slot_at}
use Rattle.ct_lun.specs.Functions.{Cuts}
use Rattle.ct_lun.proofs.Clears.{numbers_same}
use Rattle.ct_lun.proofs.Functions.{cut_agrees, cuts_cut, cuts_pass, cuts_end, others_more}
use Rattle.ct_lun.proofs.unit.Lun.cut_hit.Goals as goal

pub loop-at-init : goal.loop-at-init
loop-at-init g c = record {
  agrees = c.requires.agrees;
  reason = c.requires.reason;
  within = omega arith;
  room = omega (arith, c.requires.room);
  cut = [];
  others = c.open-others.ensures;
  works = refl;
  leads = λ end last all done. subst (Cuts c.args.self.now end c.args.book.now last c.args.no c.args.ask.now [] all) (sym (numbers_same c.args.book.now.works c.args.self.now.slots)) done;
}

pub loop-at-preserved-then-is_hit : goal.loop-at-preserved-then-is_hit
loop-at-preserved-then-is_hit g c =
    let d : Desk = c.loop-at.self in
    let p : BookState = c.loop-at.book in
    let at : ℕ = c.loop-at.at in
    let was = c.loop-at.invariant in
    let here : at < length d.slots = omega (arith, c.loop-at-test.true, c.count.ensures) in
    let hit : hits c.args.ask.now (slot_at d.slots at).nexus (slot_at d.slots at).tag ≡ true = sym c.if-is_hit.ensures in
    let room : 0 < p.spare = omega (arith, here, was.room) in
    let fewer : length c.cut_for.new.self.slots + 1 ≡ length d.slots = rw c.cut_for.ensures.leaves.slots (omega (arith, length-remove d.slots at here, here)) in
    record {
      agrees = cut_agrees d c.cut_for.new.self p c.cut_for.new.book at c.args.no c.args.ask.now was.agrees here c.cut_for.ensures.leaves c.cut_for.ensures.book;
      reason = rw c.cut_for.ensures.book was.reason;
      within = omega (arith, here, fewer);
      room = rw c.cut_for.ensures.book (omega (arith, here, fewer, was.room));
      cut = was.cut ++ (slot_at d.slots at).no ∷ [];
      others =
          c.cut_for.ensures.others
          ∙ ap (with_other c.args.ask.now.nexus (numbered (slot_at d.slots at).no p.works)) was.others
          ∙ ap (λ (works : List KeptWork). with_other c.args.ask.now.nexus (numbered (slot_at d.slots at).no works) (others_of c.args.ask.now.nexus c.args.book.now.works was.cut)) was.works
          ∙ sym (others_more c.args.ask.now.nexus c.args.book.now.works was.cut (slot_at d.slots at).no);
      works = rw c.cut_for.ensures.book was.works;
      leads = λ end last all done. was.leads end last all (cuts_cut d c.cut_for.new.self end p c.cut_for.new.book last at c.args.no c.args.ask.now was.cut all was.agrees here hit room c.cut_for.ensures.leaves c.cut_for.ensures.book done);
    }

pub loop-at-preserved : goal.loop-at-preserved
loop-at-preserved g c =
    let d : Desk = c.loop-at.self in
    let p : BookState = c.loop-at.book in
    let at : ℕ = c.loop-at.at in
    let was = c.loop-at.invariant in
    let here : at < length d.slots = omega (arith, c.loop-at-test.true, c.count.ensures) in
    let missed : hits c.args.ask.now (slot_at d.slots at).nexus (slot_at d.slots at).tag ≡ false = sym c.if-is_hit.ensures in
    record {
      agrees = was.agrees;
      reason = was.reason;
      within = omega (arith, here);
      room = omega (arith, was.room);
      cut = was.cut;
      others = was.others;
      works = was.works;
      leads = λ end last all done. was.leads end last all (cuts_pass d end p last at c.args.no c.args.ask.now was.cut all was.agrees here missed done);
    }

pub returns : goal.returns
returns g c =
    let d : Desk = c.loop-at.self in
    let was = c.loop-at.invariant in
    let past : length d.slots ≤ c.loop-at.at = omega (arith, c.loop-at-test.false, c.count.ensures) in
    record {
      cut = was.cut;
      cuts = was.leads d c.loop-at.book was.cut (cuts_end d c.loop-at.book c.loop-at.at c.args.no c.args.ask.now was.cut was.agrees past);
      others = was.others;
    }
