-- What the samples are made of: openings, works, moves, and what a run shows. At first two initiators take the unit
-- attention of power on; what they see of it isn't shown. A READ (10) of no blocks is the command that ends at once.
use Rattle.std.specs.List.{filter_map}
use Rattle.std.proofs.Common.{ℕ, ◌*◌, List, [], ◌∷◌, ◌++◌, false, length, map, take, drop, replicate, Option, None, Some}
use Rattle.ct_word.specs.declared.names.Ha.{Ha}
use Rattle.ct_word.specs.declared.names.Ha.TheVariants as ha
use Rattle.ct_word.specs.declared.names.Node.{Node}
use Rattle.ct_word.specs.declared.names.Node.TheVariants.{A, B}
use Rattle.ct_word.specs.Nexuses.{no_nexuses}
use Rattle.ct_cdb.specs.declared.op.Attr2.{Attr2}
use Rattle.ct_cdb.specs.declared.op.Attr2.TheVariants.{Simple}
use Rattle.ct_cdb.specs.Forms.{row_of}
use Rattle.ct_sense.specs.declared.reply.Reply.{Reply}
use Rattle.ct_sense.specs.declared.reply.Status.{Status}
use Rattle.ct_sense.specs.declared.reply.Status.TheVariants.{Good, CheckCondition}
use Rattle.ct_tmf.specs.declared.function.Function.{Function}
use Rattle.ct_tmf.specs.Reaches.{hits, seeks}
use Rattle.ct_plan.specs.Plans.{plan_of, need_of}
use Rattle.ct_matrix.specs.Extents.{overlap, footprint_of}
use Rattle.ct_matrix.specs.Conflicts.{conflicts, skips}
use Rattle.ct_matrix.specs.Queues.{blocker_of, next_ready_of}
use Rattle.ct_book.specs.declared.work.Work.TheVariants as work
use Rattle.ct_book.specs.declared.event.Event.{Event}
use Rattle.ct_book.specs.declared.event.Logged.{Logged}
use Rattle.ct_book.specs.Works.{profile_in}
use Rattle.ct_book.specs.Journals.{KeptWork}
use Rattle.ct_exec.specs.Controls.{is_unrestricted, has_descriptors, tells_aborts}
use Rattle.ct_exec.specs.Closing.{closing_control}
use Rattle.ct_param.specs.ModeLists.{mode_list_of}
use Rattle.ct_param.specs.UnmapLists.{unmap_list_of}
use Rattle.ct_pages.specs.Selects.{selected_pages}
use Rattle.ct_pages.specs.Senses.{whole_mode_data, mode_data}
use Rattle.ct_param.specs.ResvLists.{resv_list_of}
use Rattle.ct_resv.specs.Access.{is_allowed}
use Rattle.ct_resv.specs.Actions.{after_out}
use Rattle.ct_ua.specs.Attentions.{power_on_attentions, first_code, after_take, after_raise_for, after_raise_for_all}
use Rattle.ct_ua.specs.Attentions.{after_raise_for_others}
use Rattle.ct_exec.specs.Changes.{changed_control, cleared_by}
use Rattle.ct_exec.specs.Data.{data_of_unit}
use Rattle.ct_exec.specs.Executions.{refusal_of, refused_control, execute, plan_in, need_in}
use Rattle.ct_machine.specs.declared.act.Act.TheVariants as act
use Rattle.ct_machine.specs.declared.act.Answer.{Answer}
use Rattle.ct_machine.specs.declared.act.Opening.{Opening}
use Rattle.ct_machine.specs.States.{Task}
use Rattle.ct_machine.specs.Events.{after}
use Rattle.ct_machine.specs.Acts.Entries.{turned_cause}
use Rattle.ct_machine.specs.Acts.{act_of}
use Rattle.ct_machine.specs.Runs.{Move, replay, journal_of}
use Rattle.ct_machine.specs.Serial.{serial_disk}

-- all that a run computes with
unfoldable pub machine : Unit {0}
unfolding no_nexuses row_of profile_in hits seeks plan_of need_of overlap footprint_of conflicts skips blocker_of next_ready_of
    mode_list_of unmap_list_of selected_pages whole_mode_data mode_data power_on_attentions first_code after_take after_raise_for
    after_raise_for_all after_raise_for_others resv_list_of is_allowed after_out cleared_by is_unrestricted has_descriptors tells_aborts closing_control data_of_unit
    changed_control refusal_of refused_control execute
    plan_in need_in after turned_cause act_of replay journal_of serial_disk
machine = tt

-- a unit of so many blocks
abbrev pub unit_of : Ha → ℕ → Opening
unit_of ha blocks = record {
  ha = ha;
  lun = record { 0 = 0 };
  blocks = blocks;
  depth = 64;
  pool = 1024;
  room = record { commands = 12; functions = 4; pieces = 64 };
}

-- node A has port 0, node B has port 1
abbrev pub port_of : Node → ℕ
port_of A = 0
port_of B = 1

-- a command of an initiator, with a tag
abbrev pub command : ℕ → Node → ℕ → ℕ → Attr2 → List ℕ → List ℕ → KeptWork
command line node init tag attr cdb out = work.Cmd (record {
  line = line;
  nexus = record { port = port_of node; init = init };
  visible = 1;
  tag = record { 0 = tag };
  attr = attr;
  cdb = cdb;
  out = out;
})

abbrev pub function : ℕ → Node → ℕ → Function → KeptWork
function line node init asked = work.Ask (record { line = line; nexus = record { port = port_of node; init = init }; function = asked })

-- so many blocks of one byte
abbrev pub bytes : ℕ → ℕ → List ℕ
bytes byte blocks = replicate (512 * blocks) byte

-- what is done, as the lines of a script; works that come are numbered from 1, and their commands are SIMPLE, if it isn't
-- said otherwise

abbrev pub comes : Node → KeptWork → Move
comes node came = record { act = act.Arrive node came; fault = None }

abbrev pub write10 : ℕ → ℕ → List ℕ
write10 lba count = 0x2a ∷ 0 ∷ 0 ∷ 0 ∷ 0 ∷ lba ∷ 0 ∷ 0 ∷ count ∷ 0 ∷ []

abbrev pub read10 : ℕ → ℕ → List ℕ
read10 lba count = 0x28 ∷ 0 ∷ 0 ∷ 0 ∷ 0 ∷ lba ∷ 0 ∷ 0 ∷ count ∷ 0 ∷ []

abbrev pub write : ℕ → Node → ℕ → ℕ → ℕ → ℕ → ℕ → Move
write line node init tag lba count byte = comes node (command line node init tag Simple (write10 lba count) (bytes byte count))

abbrev pub read : ℕ → Node → ℕ → ℕ → ℕ → ℕ → Move
read line node init tag lba count = comes node (command line node init tag Simple (read10 lba count) [])

-- it ends at once, with GOOD and no data
abbrev pub no_read : ℕ → Node → ℕ → ℕ → Move
no_read line node init tag = read line node init tag 0 0

-- PERSISTENT RESERVE OUT at node A: an action with a type, the key of the nexus and the service key, of one byte each
abbrev pub reserve : ℕ → ℕ → ℕ → ℕ → ℕ → ℕ → ℕ → Move
reserve line init tag action kind key service =
    comes A (command line A init tag Simple (0x5f ∷ action ∷ kind ∷ 0 ∷ 0 ∷ 0 ∷ 0 ∷ 0 ∷ 24 ∷ 0 ∷ [])
    (replicate 7 0 ++ key ∷ replicate 7 0 ++ service ∷ replicate 8 0))

abbrev pub asks : ℕ → Node → ℕ → Function → Move
asks line node init asked = comes node (function line node init asked)

abbrev pub step : ℕ → ℕ → Move
step number count = record { act = act.Step number count; fault = None }

-- the medium fails the operation of the step that has so many before it
abbrev pub failing_step : ℕ → ℕ → ℕ → Move
failing_step number count before = record { act = act.Step number count; fault = Some before }

abbrev pub deliver : Node → Move
deliver node = record { act = act.Deliver node; fault = None }

abbrev pub next : Move
next = record { act = act.Next 65536; fault = None }

-- two initiators register, and the first reserves for registrants; it can preempt the other then, and abort
abbrev pub preempted : List Move → List Move
preempted moves =
    reserve 8 0 2 0 0 0 1 ∷ reserve 9 0 3 1 5 1 0 ∷ reserve 10 1 1 0 0 0 2 ∷ next ∷ next ∷ next ∷ moves

abbrev pub aborts : ℕ → Move
aborts line = reserve line 0 5 5 5 1 2

-- initiator 0 sets TAS
abbrev pub sets_tas : ℕ → Move
sets_tas line =
    comes A (command line A 0 4 Simple (0x15 ∷ 0x10 ∷ 0 ∷ 0 ∷ 16 ∷ 0 ∷ [])
    (replicate 4 0 ++ 0x0a ∷ 0x0a ∷ 0 ∷ 0 ∷ 0 ∷ 0x40 ∷ replicate 6 0))

-- TEST UNIT READY of initiator 0 at node A, and of initiator 1, who is at node B where there are two
abbrev pub is_ready : ℕ → Node → ℕ → Move
is_ready line node init = comes node (command line node init 1 Simple (0 ∷ 0 ∷ 0 ∷ 0 ∷ 0 ∷ 0 ∷ []) [])

abbrev pub other_node : Ha → Node
other_node ha.None = A
other_node ha.Serialise = B
other_node ha.Transfer = B

abbrev pub prelude : Opening → List Move
prelude o = is_ready 5 A 0 ∷ is_ready 6 (other_node o.ha) 1 ∷ replicate 8 next

-- the journal of moves behind that
abbrev pub played : Opening → List Move → List Logged
played o moves = journal_of o (prelude o ++ moves)

-- what a run shows: its events, the replies with them, the answers of its acts, and the first blocks of the disk, as
-- the run leaves them and as the entries of its journal make them one at a time
pub record Shown : Type 0 where
  pub events : List Event
  pub replies : List Reply
  pub answers : List Answer
  pub blocks : List (List ℕ)
  pub serial : List (List ℕ)

abbrev pub answers_behind : Opening → List Logged → List Move → List Answer
answers_behind o journal [] = []
answers_behind o journal (move ∷ moves) =
    let done = act_of (replay o journal) move.act move.fault in
    done.answer ∷ answers_behind o (journal ++ done.journal) moves

abbrev pub shown_of : Opening → List Move → List Logged → List Logged → ℕ → Shown
shown_of o moves before journal blocks = record {
  events = map (λ (logged : Logged). logged.event) (drop (length before) journal);
  replies = filter_map (λ (logged : Logged). logged.reply) (drop (length before) journal);
  answers = answers_behind o before moves;
  blocks = take blocks (replay o journal).blocks;
  serial = take blocks (serial_disk o journal).blocks;
}

abbrev pub shown : Opening → List Move → ℕ → Shown
shown o moves blocks = shown_of o moves (played o []) (played o moves) blocks

-- the numbers of the task set in queue order
abbrev pub queue_of : Opening → List Move → List ℕ
queue_of o moves = map (λ (task : Task). task.no) (replay o (played o moves)).tasks

-- replies

abbrev pub good : List ℕ → Reply
good got = record { status = Good; sense = None; descriptor = false; body = got }

abbrev pub check : ℕ → ℕ → ℕ → Option ℕ → Reply
check key asc ascq info = record {
  status = CheckCondition;
  sense = Some (record { key = key; asc = asc; ascq = ascq; info = info });
  descriptor = false;
  body = [];
}

abbrev pub with_status : Status → Reply
with_status status = record { status = status; sense = None; descriptor = false; body = [] }

-- so many blocks of one byte, as the disk has them
abbrev pub filled : ℕ → ℕ → List (List ℕ)
filled byte blocks = replicate blocks (replicate 512 byte)
