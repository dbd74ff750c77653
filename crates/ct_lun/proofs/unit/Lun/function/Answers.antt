use Rattle.std.proofs.Common.{Some, sym, ap, ◌∙◌, subst}
use Rattle.ct_tmf.specs.declared.function.Ask.{Ask}
use Rattle.ct_book.specs.declared.work.Work.TheVariants as work
use Rattle.ct_lun.specs.Functions.{IsAnswered}
use Rattle.ct_lun.proofs.Functions.{cuts_spare, function_answered}
use Rattle.ct_lun.proofs.unit.Lun.function.Goals as goal

pub close-requires-clause-room : goal.close-requires-clause-room
close-requires-clause-room g c =
    cuts_spare c.args.self.now c.cut_hit-others.new.self c.args.book.now c.push.new.self c.cut_hit-others.new.book c.args.no
    c.ask_of-ask.result c.cut_hit-others.result c.push.ensures c.requires.room c.cut_hit-others.ensures

pub returns : goal.returns
returns g c =
    subst (λ (ask : Ask). IsAnswered c.args.self.now c.close.new.self c.args.book.now c.close.new.book c.args.no ask c.close.result)
    c.ask_of-ask.ensures
    (function_answered c.args.self.now c.cut_hit-others.new.self c.close.new.self c.args.book.now c.push.new.self
    c.cut_hit-others.new.book c.close.new.book c.args.no c.ask_of-ask.result c.cut_hit-others.result c.close.result
    c.requires.agrees (c.requires.function ∙ ap (λ (ask : Ask). Some (work.Ask ask)) (sym c.ask_of-ask.ensures))
    c.requires.room c.push.ensures c.cut_hit-others.ensures c.close.ensures.outcome c.close.ensures.after c.close.ensures.book)
