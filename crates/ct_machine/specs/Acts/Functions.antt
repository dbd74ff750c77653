-- Task management functions are taken up and answered (SAM-5, clause 7).
use Rattle.std.specs.Prelude.{ℕ, List, [], ◌∷◌, length, take, map, Bool, ◌&&◌, nat_le, if◌then◌else◌, Option, None, Some}
use Rattle.std.specs.List.{list_any}
use Rattle.ct_word.specs.declared.limit.TheConstants.{MOST_FUNCTIONS}
use Rattle.ct_tmf.specs.declared.function.Ask.{Ask}
use Rattle.ct_tmf.specs.declared.function.Outcome.{Outcome}
use Rattle.ct_tmf.specs.declared.function.Outcome.TheVariants.{Complete, Succeeded, Rejected}
use Rattle.ct_tmf.specs.Reaches.{seeks}
use Rattle.ct_plan.specs.Plans.{puts_among}
use Rattle.ct_book.specs.declared.event.Event.TheVariants as event
use Rattle.ct_book.specs.declared.event.Why.TheVariants.{By}
use Rattle.ct_exec.specs.Executions.{plan_in}
use Rattle.ct_machine.specs.States.{Task, Open, State, task_of, function_of, is_here, done_at}
use Rattle.ct_machine.specs.Events.Functions.{is_hit, is_told}
use Rattle.ct_machine.specs.Acts.Turns.{Turn, nothing, says, followed}

abbrev pub is_sought : Ask → Task → Bool
is_sought ask task = seeks ask task.command.nexus task.command.tag

-- FUNCTION SUCCEEDED for a query that finds a command, else FUNCTION COMPLETE
abbrev pub outcome_of : Ask → State → Outcome
outcome_of ask s = if list_any (is_sought ask) s.tasks then Succeeded else Complete

abbrev pub puts_of : Task → State → ℕ
puts_of task s = puts_among (take (done_at task.stage) (plan_in (length s.blocks) task.command))

-- a command that is hit and waits, or began at A, is cut
abbrev pub cutting : ℕ → Ask → Option Task → State → Turn
cutting by ask None s = nothing s
cutting by ask (Some task) s =
    if is_hit ask task && is_here task.stage then says (event.Cut task.no (puts_of task s) (By by) (is_told s ask task)) s
    else nothing s

abbrev pub numbers_of : List Task → List ℕ
numbers_of tasks = map (λ (task : Task). task.no) tasks

abbrev pub cutting_all : ℕ → Ask → List ℕ → State → Turn
cutting_all by ask [] s = nothing s
cutting_all by ask (number ∷ numbers) s = followed (cutting by ask (task_of number s.tasks) s) (cutting_all by ask numbers)

-- a function that awaits nothing closes
abbrev pub closing_if : List ℕ → Open → State → Turn
closing_if [] function s = says (event.Closed function.no (outcome_of function.ask s)) s
closing_if _ function s = nothing s

abbrev pub closing : Option Open → State → Turn
closing None s = nothing s
closing (Some function) s = closing_if function.awaits function s

abbrev pub open_numbers : State → List ℕ
open_numbers s = map (λ (function : Open). function.no) s.functions

-- of these functions, the lowest number first
abbrev pub closing_all : List ℕ → State → Turn
closing_all [] s = nothing s
closing_all (number ∷ numbers) s = followed (closing (function_of number s.functions) s) (closing_all numbers)

abbrev pub taking_up : ℕ → Ask → State → Turn
taking_up number ask s =
    followed (followed (says (event.Asked number) s) (λ asked. cutting_all number ask (numbers_of s.tasks) asked))
    (λ cut. closing (function_of number cut.functions) cut)

abbrev pub asking : ℕ → Ask → State → Turn
asking number ask s =
    if nat_le MOST_FUNCTIONS (length s.functions) then says (event.Closed number Rejected) s
    else taking_up number ask s
