use Rattle.std.proofs.Common.{◌≤◌, ◌+◌, Some, length, sym, ap, ◌∙◌, arith}
use Rattle.ct_tmf.specs.declared.function.Ask.{Ask}
use Rattle.ct_book.specs.declared.work.Work.TheVariants as work
use Rattle.ct_book.specs.Journals.{BookState}
use Rattle.ct_lun.proofs.Functions.{came_ask, came_agrees, came_answered, came_room, refused_ask}
use Rattle.ct_lun.proofs.unit.Lun.ask.Goals as goal

pub function-requires-clause-agrees : goal.function-requires-clause-agrees
function-requires-clause-agrees g c =
    let noted = came_ask c.args.book.now c.add.new.self c.args.ask c.in-Ok.no c.add.result (work.Ask c.args.ask) c.add.ensures.answer c.add.ensures.after c.in-Ok.is in
    came_agrees c.args.self.now c.args.book.now c.add.new.self c.args.ask c.in-Ok.no c.requires.agrees noted

pub function-requires-clause-function : goal.function-requires-clause-function
function-requires-clause-function g c =
    let noted = came_ask c.args.book.now c.add.new.self c.args.ask c.in-Ok.no c.add.result (work.Ask c.args.ask) c.add.ensures.answer c.add.ensures.after c.in-Ok.is in
    noted.came ∙ ap (λ (ask : Ask). Some (work.Ask ask)) (sym noted.named)

pub function-requires-clause-room : goal.function-requires-clause-room
function-requires-clause-room g c =
    let noted = came_ask c.args.book.now c.add.new.self c.args.ask c.in-Ok.no c.add.result (work.Ask c.args.ask) c.add.ensures.answer c.add.ensures.after c.in-Ok.is in
    let room : length c.args.self.now.slots + 3 ≤ c.args.book.now.spare = c.requires.room (came_room c.args.book.now c.args.ask c.in-Ok.no c.add.new.self noted) in
    omega (arith, room, ap (λ (b : BookState). b.spare) noted.added)

pub returns-in-Ok : goal.returns-in-Ok
returns-in-Ok g c =
    let noted = came_ask c.args.book.now c.add.new.self c.args.ask c.in-Ok.no c.add.result (work.Ask c.args.ask) c.add.ensures.answer c.add.ensures.after c.in-Ok.is in
    let room : length c.args.self.now.slots + 3 ≤ c.args.book.now.spare = c.requires.room (came_room c.args.book.now c.args.ask c.in-Ok.no c.add.new.self noted) in
    came_answered c.args.self.now c.function.new.self c.args.book.now c.add.new.self c.function.new.book c.args.ask c.in-Ok.no c.function.result
    c.requires.agrees noted (omega (arith, room)) c.function.ensures

pub returns-in-Err : goal.returns-in-Err
returns-in-Err g c =
    refused_ask c.args.self.now c.args.book.now c.add.new.self c.args.ask (length c.args.book.now.works + 1) c.add.result c.in-Err.work
    c.requires.agrees c.add.ensures.answer c.add.ensures.after c.in-Err.is
