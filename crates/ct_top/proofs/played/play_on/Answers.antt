use Rattle.std.proofs.Common.{rules, arith, ℕ, ◌≡◌, ◌<◌, ◌≤◌, [], List, Option, Some, length, sym, ap, ◌∙◌, subst}
use Rattle.std.specs.Prelude.{IfSome}
use Rattle.ct_word.specs.declared.limit.TheConstants.{MOST_BLOCKS}
use Rattle.ct_word.specs.declared.names.Room.{Room}
use Rattle.ct_book.specs.declared.event.Logged.{Logged}
use Rattle.ct_book.specs.Journals.{BookState}
use Rattle.ct_book.specs.Kept.{events_for}
use Rattle.ct_machine.specs.declared.act.Opening.{Opening}
use Rattle.ct_pair.specs.Pairs.{medium_cuts}
use Rattle.ct_script.specs.declared.script.Line.{Line}
use Rattle.ct_script.specs.Lines.{IsWithin}
use Rattle.ct_script.specs.Rules.{declared_blocks}
use Rattle.ct_script.specs.declared.script.Sizes.{Sizes}
use Rattle.ct_top.specs.Commands.{room_of, declared_sizes, opening_of}
use Rattle.ct_top.specs.Played.{point_of, Drains, ByLines, IsPlayed}
use Rattle.ct_top.proofs.Ranges.{few_events, blocks_in_range, sizes_in_range}
use Rattle.ct_top.proofs.Arriving.{all_come}
use Rattle.ct_top.proofs.played.play_on.Goals as goal

pub open-requires-clause-events : goal.open-requires-clause-events
open-requires-clause-events g c =
    subst (λ (room : Room). events_for room < 4294967296) (sym c.room_of-room.ensures)
    (few_events c.len.result c.lines.result.now (subst IsWithin (sym c.lines.ensures) c.is_within.ensures)
    (ap declared_blocks c.lines.ensures ∙ c.requires.declared ∙ ap Some (sym c.len.ensures)))

pub open-requires-clause-low : goal.open-requires-clause-low
open-requires-clause-low g c =
    rw (c.sizes_of-depth.ensures ∙ ap declared_sizes c.lines-2.ensures) (sizes_in_range c.args.script c.is_within.ensures.in_range).some_commands

pub open-requires-clause-high : goal.open-requires-clause-high
open-requires-clause-high g c =
    rw (c.sizes_of-depth.ensures ∙ ap declared_sizes c.lines-2.ensures) (sizes_in_range c.args.script c.is_within.ensures.in_range).few_commands

pub open-requires-clause-some : goal.open-requires-clause-some
open-requires-clause-some g c =
    (subst (λ (found : Option ℕ). IfSome found (λ blocks. (1 ≤ blocks) × (blocks ≤ MOST_BLOCKS))) c.requires.declared
    (blocks_in_range c.args.script c.is_within.ensures.in_range)).0

pub open-requires-clause-few : goal.open-requires-clause-few
open-requires-clause-few g c =
    (subst (λ (found : Option ℕ). IfSome found (λ blocks. (1 ≤ blocks) × (blocks ≤ MOST_BLOCKS))) c.requires.declared
    (blocks_in_range c.args.script c.is_within.ensures.in_range)).1

pub returns-clause-played : goal.returns-clause-played
returns-clause-played g c =
    let blocks = length (g.B.Backend.blocks c.args.medium) in
    let script = c.args.script in
    let first = c.in_ok-pair.pair in
    let second = c.play_lines.new.pair in
    let third = c.drain.new.pair in
    let room : c.room_of-room.result ≡ room_of blocks script =
    c.room_of-room.ensures ∙ ap (λ n. room_of n c.lines.result.now) c.len.ensures ∙ ap (room_of blocks) c.lines.ensures in
    let sizes : c.sizes_of-depth.result ≡ declared_sizes script = c.sizes_of-depth.ensures ∙ ap declared_sizes c.lines-2.ensures in
    let opening : first.opening ≡ opening_of blocks script = c.in_ok-pair.ensures.opening ∙ ap (λ (sizes : Sizes). record (opening_of blocks script) { depth = sizes.depth; pool = sizes.pool; room = c.room_of-room.result }) sizes
    ∙ ap (λ (r : Room). record (opening_of blocks script) { room = r }) room in
    let from = g.B.Backend.faults c.args.medium in
    let lines : ByLines (opening_of blocks script) script (record { journal = []; faults = from }) (point_of second) =
    subst (λ (n : ℕ). ByLines (opening_of blocks script) script (record { journal = []; faults = n }) (point_of second)) c.in_ok-pair.ensures.faults
    (subst (λ (journal : List Logged). ByLines (opening_of blocks script) script (record { journal = journal; faults = first.desk.faults }) (point_of second)) c.in_ok-pair.ensures.empty
    (subst (λ (ls : List Line). ByLines (opening_of blocks script) ls (point_of first) (point_of second)) c.into_lines.ensures.lines
    (subst (λ (o : Opening). ByLines o c.into_lines.result.items (point_of first) (point_of second)) opening c.in_ok-play_lines.ensures.done))) in
    let drained : Drains (opening_of blocks script) (point_of second) (point_of third) =
    subst (λ (o : Opening). Drains o (point_of second) (point_of third)) (c.play_lines.ensures.opening ∙ opening) c.drain.ensures.drained in
    let whole : IsPlayed (opening_of blocks script) script from (point_of third) =
    record { last = point_of second; lines_done = lines; drained = drained } in
    subst (λ f. IsPlayed (opening_of blocks script) script from (record { journal = c.close.result.book.journal; faults = f })) (sym c.close.ensures.faults)
    (subst (λ (book : BookState). IsPlayed (opening_of blocks script) script from (record { journal = book.journal; faults = third.desk.faults })) (sym c.close.ensures.book) whole)

pub returns-clause-cuts : goal.returns-clause-cuts
returns-clause-cuts g c =
    ap (λ (book : BookState). medium_cuts book.journal) c.close.ensures.book ∙ c.close.ensures.cuts ∙ sym c.close.ensures.faults

pub returns-clause-arrived : goal.returns-clause-arrived
returns-clause-arrived g c =
    let n = length (g.B.Backend.blocks c.args.medium) in
    all_come (λ o journal done fault. c.arrivals_alone_take_room.ensures o journal done fault) (λ o journal run. c.works_are_kept.ensures o journal run)
    n c.args.script (g.B.Backend.faults c.args.medium) (record { journal = c.close.result.book.journal; faults = g.B.Backend.faults c.close.result.medium }) (returns-clause-played g c) (search rules)
