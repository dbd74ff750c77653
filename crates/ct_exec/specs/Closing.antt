-- What a task management function does to the control when it is answered (SAM-5, 7.2 to 7.9 and 5.14).
use Rattle.std.specs.Prelude.{List, Bool, true, if◌then◌else◌}
use Rattle.ct_word.specs.declared.names.Nexus.{Nexus}
use Rattle.ct_word.specs.declared.names.Code.TheVariants.{Reset, NexusLoss, CommandsCleared}
use Rattle.ct_word.specs.Nexuses.{only_nexus}
use Rattle.ct_tmf.specs.declared.function.Ask.{Ask}
use Rattle.ct_tmf.specs.declared.function.Function.{Function}
use Rattle.ct_tmf.specs.declared.function.Function.TheVariants.{AbortTask, AbortTaskSet, ClearTaskSet, LunReset, NexusReset, QueryTask, QueryTaskSet, ClearAca}
use Rattle.ct_pages.specs.Pages.{default_pages}
use Rattle.ct_ua.specs.Attentions.{after_raise_for, after_raise_for_all}
use Rattle.ct_exec.specs.Controls.{ControlState, tells_aborts}

-- a unit attention condition is raised for each nexus of a set
abbrev pub told_cleared : List Bool → ControlState → ControlState
told_cleared others control = record control { attentions = after_raise_for control.attentions others CommandsCleared }

-- the control after a function of a nexus that cut commands of these other nexuses. CLEAR TASK SET tells these, unless TAS
-- says that each aborted command ends with TASK ABORTED; LOGICAL UNIT RESET gives the mode pages their default values, starts
-- the unit and tells every nexus, and reservations stay; I_T NEXUS RESET tells the asker; the others change nothing
abbrev pub closed_control : Function → Nexus → List Bool → ControlState → ControlState
closed_control ClearTaskSet asker others control = if tells_aborts control then control else told_cleared others control
closed_control LunReset asker others control = record control {
  pages = default_pages;
  attentions = after_raise_for_all control.attentions Reset;
  is_started = true;
}
closed_control NexusReset asker others control = record control {
  attentions = after_raise_for control.attentions (only_nexus asker) NexusLoss;
}
closed_control (AbortTask tag) asker others control = control
closed_control AbortTaskSet asker others control = control
closed_control (QueryTask tag) asker others control = control
closed_control QueryTaskSet asker others control = control
closed_control ClearAca asker others control = control

unfoldable pub closing_control : Ask → List Bool → ControlState → ControlState
closing_control ask others control = closed_control ask.function ask.nexus others control
