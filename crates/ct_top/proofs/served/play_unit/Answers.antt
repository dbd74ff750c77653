use Rattle.std.proofs.Common.{◌≡◌, length, ap, ◌∙◌, subst}
use Rattle.std.proofs.lemmas.List.{length-replicate}
use Rattle.std.specs.Prelude.{replicate}
use Rattle.ct_word.specs.declared.limit.TheConstants.{MOST_STEP}
use Rattle.ct_machine.specs.Laws.{IsLawful}
use Rattle.ct_machine.specs.Runs.{replay, IsRun}
use Rattle.ct_top.specs.Commands.{opening_of}
use Rattle.ct_top.specs.Played.{IsPlayed}
use Rattle.ct_top.proofs.Draining.{idle_at}
use Rattle.ct_top.proofs.served.play_unit.Goals as goal

pub returns : goal.returns
returns c =
    let script = c.args.script in
    let end = c.in_ok-lun.field-0 in
    let journal = end.book.journal in
    let opening = opening_of c.args.blocks script in
    let size : length c.in_ok-open.field-0 ≡ c.args.blocks = ap length c.in_ok-open.ensures ∙ length-replicate c.args.blocks (replicate 512 0) in
    let run : IsRun opening journal = subst (λ n. IsRun (opening_of n script) journal) size c.in_ok-lun.ensures.run in
    let played : IsPlayed opening script 0 (record { journal = journal; faults = 0 }) =
    subst (λ n. IsPlayed (opening_of n script) script 0 (record { journal = journal; faults = 0 })) size c.in_ok-lun.ensures.played in
    let lawful : IsLawful opening journal = c.every_run_is_lawful.ensures opening journal run in
    let idles = idle_at opening played.last (record { journal = journal; faults = 0 }) played.drained in
    let rest = lawful.rest MOST_STEP idles.0 idles.1 in
    let disk : end.medium ≡ (replay opening journal).blocks = subst (λ n. end.medium ≡ (replay (opening_of n script) journal).blocks) size c.in_ok-lun.ensures.disk in
    record {
      lun = c.in_ok-lun.ensures.lun;
      played = played;
      run = run;
      lawful = lawful;
      legal = c.runs_are_legal.ensures opening journal run;
      arrived = c.in_ok-lun.ensures.arrived;
      quiet = rest.0;
      answered = rest.1;
      disk = disk;
      serial = λ restricted. disk ∙ c.blocks_are_serial_at_rest.ensures opening journal run restricted rest.0.tasks;
    }
