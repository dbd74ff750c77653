-- A task management function is taken up and answered (SAM-5, clause 7).
use Rattle.std.specs.Prelude.{ℕ, ◌+◌, ◌-◌, List, [], ◌∷◌, ◌++◌, map, Bool, not, ◌&&◌, ◌==◌, nat_lt, if◌then◌else◌, Option, None, Some}
use Rattle.std.specs.List.{filter, list_any}
use Rattle.ct_word.specs.Nexuses.{is_same_nexus}
use Rattle.ct_tmf.specs.declared.function.Ask.{Ask}
use Rattle.ct_tmf.specs.Reaches.{hits}
use Rattle.ct_book.specs.declared.work.Work.TheVariants as work
use Rattle.ct_book.specs.declared.event.Kind2.TheVariants as kind
use Rattle.ct_book.specs.Journals.{KeptWork}
use Rattle.ct_book.specs.Histories.{set_of}
use Rattle.ct_exec.specs.Controls.{tells_aborts}
use Rattle.ct_exec.specs.Closing.{closing_control}
use Rattle.ct_machine.specs.States.{Task, Open, Message, Arrival, State, function_of, is_here, is_remote}
use Rattle.ct_machine.specs.Events.Sends.{stop, to_b, answered}

abbrev pub is_hit : Ask → Task → Bool
is_hit ask task = hits ask task.command.nexus task.command.tag

abbrev pub is_awaited : Ask → Task → Bool
is_awaited ask task = is_hit ask task && not (is_here task.stage)

abbrev pub awaited_by : Ask → List Task → List ℕ
awaited_by ask tasks = map (λ (task : Task). task.no) (filter (is_awaited ask) tasks)

-- the initiator of a command that a function aborts is told where TAS says so and it isn't the asker
abbrev pub is_told : State → Ask → Task → Bool
is_told s ask task = tells_aborts s.control && not (is_same_nexus ask.nexus task.command.nexus)

-- a stop goes to B for a command of B that is cut at A, and for one that is there, unless one was sent
abbrev pub wants_stop : State → Ask → Task → Bool
wants_stop s ask task =
    is_hit ask task && (if is_here task.stage then is_remote task.node else not (list_any (λ number. number == task.no) s.stopped))

abbrev pub stops_by : State → ℕ → Ask → List Task → List Message
stops_by s by ask [] = []
stops_by s by ask (task ∷ tasks) =
    if wants_stop s ask task then stop task.no by (is_told s ask task) ∷ stops_by s by ask tasks
    else stops_by s by ask tasks

-- the open functions, the lowest number first
abbrev pub with_function : Open → List Open → List Open
with_function new [] = new ∷ []
with_function new (function ∷ functions) = if nat_lt new.no function.no then new ∷ function ∷ functions else function ∷ with_function new functions

abbrev pub taken_up : ℕ → Ask → State → State
taken_up number ask s = record s {
  functions = with_function (record { no = number; ask = ask; awaits = awaited_by ask s.tasks; cut = [] }) s.functions;
  to_b = s.to_b ++ stops_by s number ask s.tasks;
  stopped = s.stopped ++ awaited_by ask s.tasks;
}

abbrev pub asked_for : ℕ → KeptWork → State → State
asked_for number (work.Ask ask) s = taken_up number ask s
asked_for number (work.Cmd command) s = s

abbrev pub after_asked : ℕ → Option Arrival → State → State
after_asked number None s = s
after_asked number (Some arrival) s = asked_for number arrival.work s

-- a function is answered: what it does to the control, and no more is open

abbrev pub works_of : State → List KeptWork
works_of s = map (λ (arrival : Arrival). arrival.work) s.arrivals

abbrev pub others_cut : Open → State → List Bool
others_cut function s = set_of function.ask.function function.ask.nexus (works_of s) function.cut

abbrev pub without_function : ℕ → List Open → List Open
without_function number [] = []
without_function number (function ∷ functions) = if function.no == number then without_function number functions else function ∷ without_function number functions

abbrev pub closed : Option Open → State → State
closed None s = s
closed (Some function) s = record s {
  functions = without_function function.no s.functions;
  control = closing_control function.ask (others_cut function s) s.control;
}

abbrev pub after_closed : ℕ → State → State
after_closed number s = answered kind.Response number (closed (function_of number s.functions) s)
