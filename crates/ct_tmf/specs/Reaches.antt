-- Task management functions, and the commands that they are about (SAM-5, clause 7).
use Rattle.std.specs.Prelude.{Bool, true, false, ◌&&◌, ◌==◌}
use Rattle.ct_word.specs.declared.names.Nexus.{Nexus}
use Rattle.ct_word.specs.declared.names.Tag.{Tag}
use Rattle.ct_word.specs.Nexuses.{is_same_nexus}
use Rattle.ct_tmf.specs.declared.function.Function.{Function}
use Rattle.ct_tmf.specs.declared.function.Function.TheVariants.{AbortTask, AbortTaskSet, ClearTaskSet, LunReset, NexusReset, QueryTask, QueryTaskSet, ClearAca}
use Rattle.ct_tmf.specs.declared.function.Ask.{Ask}

-- which commands of the task set: none, the asker's with a tag, all of the asker's nexus, or all
pub data Reach : Type 0 where
  NoTask : Reach
  OwnTask : (tag : Tag) → Reach
  OwnTasks : Reach
  AllTasks : Reach

-- the commands that a function aborts (SAM-5, 7.2 to 7.9); a query and CLEAR ACA abort none
abbrev pub aborted_by : Function → Reach
aborted_by (AbortTask tag) = OwnTask tag
aborted_by AbortTaskSet = OwnTasks
aborted_by ClearTaskSet = AllTasks
aborted_by LunReset = AllTasks
aborted_by NexusReset = OwnTasks
aborted_by (QueryTask tag) = NoTask
aborted_by QueryTaskSet = NoTask
aborted_by ClearAca = NoTask

-- the commands of which a query asks whether there is one (SAM-5, 7.8 and 7.9)
abbrev pub sought_by : Function → Reach
sought_by (QueryTask tag) = OwnTask tag
sought_by QueryTaskSet = OwnTasks
sought_by (AbortTask tag) = NoTask
sought_by AbortTaskSet = NoTask
sought_by ClearTaskSet = NoTask
sought_by LunReset = NoTask
sought_by NexusReset = NoTask
sought_by ClearAca = NoTask

-- a command of this nexus with this tag is one of them
abbrev pub reaches : Reach → Nexus → Nexus → Tag → Bool
reaches NoTask asker nexus tag = false
reaches (OwnTask asked) asker nexus tag = is_same_nexus asker nexus && (asked.0 == tag.0)
reaches OwnTasks asker nexus tag = is_same_nexus asker nexus
reaches AllTasks asker nexus tag = true

-- a function aborts the command of this nexus with this tag
unfoldable pub hits : Ask → Nexus → Tag → Bool
hits ask nexus tag = reaches (aborted_by ask.function) ask.nexus nexus tag

-- a query is about the command of this nexus with this tag
unfoldable pub seeks : Ask → Nexus → Tag → Bool
seeks ask nexus tag = reaches (sought_by ask.function) ask.nexus nexus tag
