use Rattle.std.specs.IoError.{error_kind}
use Rattle.std.specs.Vec.Iter.{into_iter_items}
use Rattle.ctltarget.proofs.Endings.{ended, ended_without}
use Rattle.ctltarget.proofs.program.run.Goals as goal

pub returns-clause-served : goal.returns-clause-served
returns-clause-served g c =
    ended g.S.Source.left g.S.Source.faults g.K.Sink.held g.K.Sink.faults into_iter_items (λ words. words.items)
    _ _ _ _ _ c.serve-served.result c.args.args c.words_of.result
    c.words_of.ensures.words c.words_of.ensures.memory c.serve-served.ensures.served c.serve-served.ensures.no_words c.exit_code.ensures

pub returns-clause-no_words : goal.returns-clause-no_words
returns-clause-no_words g c =
    ended_without error_kind _ _ _ _ _ c.serve-served.result c.args.args c.words_of.result
    c.words_of.ensures.none c.serve-served.ensures.no_words c.exit_code.ensures
