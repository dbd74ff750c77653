use Rattle.std.proofs.Common.{◌≡◌, Bool, true, false, sym, ap, ◌∙◌, if◌then◌else◌}
use Rattle.std.specs.List.{list_any}
use Rattle.ct_tmf.specs.declared.function.Outcome.TheVariants.{Complete, Succeeded}
use Rattle.ct_machine.specs.Acts.Functions.{is_sought}
use Rattle.ct_lun.specs.States.{state_of}
use Rattle.ct_lun.proofs.Functions.{sought_known}
use Rattle.ct_lun.proofs.unit.Lun.outcome.Goals as goal

pub returns-then-is_sought : goal.returns-then-is_sought
returns-then-is_sought g c =
    let found : list_any (is_sought c.args.ask.now) (state_of c.args.self.now c.args.book.now).tasks ≡ true =
    sym (sought_known c.args.self.now c.args.book.now c.args.ask.now c.requires) ∙ sym c.is_sought.ensures ∙ c.if-is_sought.true in
    sym (ap (λ (b : Bool). if b then Succeeded else Complete) found)

pub returns-else-is_sought : goal.returns-else-is_sought
returns-else-is_sought g c =
    let none : list_any (is_sought c.args.ask.now) (state_of c.args.self.now c.args.book.now).tasks ≡ false =
    sym (sought_known c.args.self.now c.args.book.now c.args.ask.now c.requires) ∙ sym c.is_sought.ensures ∙ c.if-is_sought.false in
    sym (ap (λ (b : Bool). if b then Succeeded else Complete) none)
