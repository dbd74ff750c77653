-- Each work of a script comes: the room is exactly what they take.
use Rattle.std.proofs.Common.{◌≡◌, ℕ, ◌+◌, ◌-◌, Bool, true, ◌&&◌, cond, List, [], ◌∷◌, ◌++◌, Option, Some, None, length, refl, sym, ap, ◌∙◌, subst, arith, append-nil, replicate}
use Rattle.std.specs.Prelude.{sum_by, count_by, nat_lt, nat_le, fold}
use Rattle.std.specs.List.{cons_option}
use Rattle.std.proofs.lemmas.Bool.{lt-ltb, le-leb}
use Rattle.std.proofs.lemmas.List.{append_assoc, length-replicate}
use Rattle.std.proofs.lemmas.List.Sums.{sum_by-cons}
use Rattle.ct_word.specs.declared.names.Room.{Room}
use Rattle.ct_word.specs.declared.names.Node.TheVariants.{A}
use Rattle.ct_tmf.specs.declared.function.Ask.{Ask}
use Rattle.ct_book.specs.declared.work.Command.{Command}
use Rattle.ct_book.specs.declared.work.Work.TheVariants as work
use Rattle.ct_book.specs.declared.event.Logged.{Logged}
use Rattle.ct_book.specs.Journals.{KeptWork, works_in}
use Rattle.ct_exec.specs.Executions.{plan_in}
use Rattle.ct_machine.specs.declared.act.Act.{Act}
use Rattle.ct_machine.specs.declared.act.Act.TheVariants as act
use Rattle.ct_machine.specs.declared.act.Opening.{Opening}
use Rattle.ct_machine.specs.States.{State, opened}
use Rattle.ct_machine.specs.Events.Functions.{works_of}
use Rattle.ct_machine.specs.Acts.Arrivals.{has_room_for}
use Rattle.ct_machine.specs.Acts.{act_of}
use Rattle.ct_machine.specs.Runs.{replay, IsRun}
use Rattle.ct_machine.specs.Laws.Works.{brought, room_without, Brings}
use Rattle.ct_script.specs.declared.script.Line.{Line}
use Rattle.ct_script.specs.declared.script.Word.{Word}
use Rattle.ct_script.specs.declared.script.Word.TheVariants.{Lun, Port, Map, Cmd, Task, Step, Drain, Sync}
use Rattle.ct_script.specs.Rules.{is_command, is_task}
use Rattle.ct_top.specs.Commands.{work_sent, works_sent, pieces_in, room_of, opening_of}
use Rattle.ct_top.specs.Played.{Point, Acted, next, Drains, idle, more, ByLine, ByLines, IsPlayed}

-- what acts bring, as the laws say it
abbrev pub ActsBring : Type 0
ActsBring = (o : Opening) (journal : List Logged) (done : Act) (fault : Option ℕ) → Brings (replay o journal) (replay o (journal ++ (act_of (replay o journal) done fault).journal)) done

abbrev pub WorksKept : Type 0
WorksKept = (o : Opening) (journal : List Logged) → IsRun o journal → works_of (replay o journal) ≡ works_in journal

-- these works came behind a journal, and so much room is left
pub record Came (o : Opening) (before after : List Logged) (sent : List KeptWork) (left : Room) : Type 0 where
  pub works : works_of (replay o after) ≡ works_of (replay o before) ++ sent
  pub room : (replay o after).room ≡ left
  pub size : length (replay o after).blocks ≡ length (replay o before).blocks

none_came : (o : Opening) (journal : List Logged) → Came o journal journal [] (replay o journal).room
none_came o journal = record { works = sym (append-nil (works_of (replay o journal))); room = refl; size = refl }

came_then : (o : Opening) (first second third : List Logged) (works others : List KeptWork) (room left : Room) → Came o first second works room → Came o second third others left → Came o first third (works ++ others) left
came_then o first second third works others room left h k = record {
  works = k.works ∙ ap (λ ws. ws ++ others) h.works ∙ append_assoc (works_of (replay o first)) works others;
  room = k.room;
  size = k.size ∙ h.size;
}

-- an act that brings nothing
acted_none : ActsBring → (o : Opening) (done : Act) (before after : Point) → ((s : State) → brought s done ≡ []) → Acted o done before after → Came o before.journal after.journal [] (replay o before.journal).room
acted_none law o done before after none h = subst (λ j. Came o before.journal j [] s.room) (sym h.written) (record {
  works = b.works ∙ ap (λ ws. works_of s ++ ws) nothing;
  room = b.room ∙ ap (λ ws. fold (room_without (length s.blocks)) s.room ws) nothing;
  size = b.size;
})
  where
    s : State
    s = replay o before.journal

    b : Brings s (replay o (before.journal ++ (act_of s done h.fault).journal)) done
    b = law o before.journal done h.fault

    nothing : brought s done ≡ []
    nothing = none s

drains_none : ActsBring → (o : Opening) (before after : Point) → Drains o before after → Came o before.journal after.journal [] (replay o before.journal).room
drains_none law o before after (idle b e h) = subst (λ j. Came o b.journal j [] (replay o b.journal).room) (sym h.silent) (none_came o b.journal)
drains_none law o before after (more b between e h d) =
    let first = acted_none law o next b between (λ s. refl) h in
    let rest = drains_none law o between e d in
    came_then o b.journal between.journal e.journal [] [] (replay o b.journal).room (replay o b.journal).room first (subst (λ r. Came o between.journal e.journal [] r) first.room rest)

abbrev one_if : Bool → ℕ
one_if t = cond t 1 0

-- the room for so many works
abbrev room_for : ℕ → ℕ → ℕ → Room
room_for commands functions pieces = record { commands = commands; functions = functions; pieces = pieces }

-- the room that lines take is what their first takes, and what the others take
room_parts : (n : ℕ) (line : Line) (lines : List Line) → room_of n (line ∷ lines)
    ≡ room_for (one_if (is_command line) + count_by is_command lines) (one_if (is_task line) + count_by is_task lines) (pieces_in n line + sum_by (pieces_in n) lines)
room_parts n line lines =
    ap (λ c. record (room_of n (line ∷ lines)) { commands = c }) (sum_by-cons (λ l. one_if (is_command l)) line lines)
    ∙ ap (λ f. room_for (one_if (is_command line) + count_by is_command lines) f (sum_by (pieces_in n) (line ∷ lines))) (sum_by-cons (λ l. one_if (is_task l)) line lines)
    ∙ ap (room_for (one_if (is_command line) + count_by is_command lines) (one_if (is_task line) + count_by is_task lines)) (sum_by-cons (pieces_in n) line lines)

same_room : (a b c d e f : ℕ) → a ≡ b → c ≡ d → e ≡ f → room_for a c e ≡ room_for b d f
same_room a b c d e f h k l = ap (λ x. room_for x c e) h ∙ ap (λ x. room_for b x e) k ∙ ap (room_for b d) l

-- a line that sends nothing takes no room
line_none : ActsBring → (o : Opening) (n : ℕ) (line : Line) (lines : List Line) (before after : List Logged) → one_if (is_command line) ≡ 0 → one_if (is_task line) ≡ 0 → pieces_in n line ≡ 0
    → (replay o before).room ≡ room_of n (line ∷ lines) → Came o before after [] (replay o before).room → Came o before after [] (room_of n lines)
line_none law o n line lines before after none unasked free room h =
    let same : room_of n (line ∷ lines) ≡ room_of n lines =
    room_parts n line lines
    ∙ same_room _ (count_by is_command lines) _ (count_by is_task lines) _ (sum_by (pieces_in n) lines) (omega (arith, none)) (omega (arith, unasked)) (omega (arith, free)) in
    subst (λ r. Came o before after [] r) (room ∙ same) h

-- a work for which there is room comes, and takes it
work_comes : ActsBring → (o : Opening) (n : ℕ) (came : KeptWork) (full left : Room) (before after : Point) → length (replay o before.journal).blocks ≡ n → (replay o before.journal).room ≡ full
    → has_room_for came (replay o before.journal) ≡ true → room_without n full came ≡ left
    → Acted o (act.Arrive A came) before after → Came o before.journal after.journal (came ∷ []) left
work_comes law o n came full left before after size room fits taken h = subst (λ j. Came o before.journal j (came ∷ []) left) (sym h.written) (record {
  works = b.works ∙ ap (λ ws. works_of s ++ ws) one;
  room = b.room ∙ ap (λ ws. fold (room_without (length s.blocks)) s.room ws) one ∙ ap (λ k. room_without k s.room came) size ∙ ap (λ r. room_without n r came) room ∙ taken;
  size = b.size;
})
  where
    s : State
    s = replay o before.journal

    b : Brings s (replay o (before.journal ++ (act_of s (act.Arrive A came) h.fault).journal)) (act.Arrive A came)
    b = law o before.journal (act.Arrive A came) h.fault

    one : brought s (act.Arrive A came) ≡ came ∷ []
    one = ap (λ t. cond t (came ∷ []) []) fits

command_comes : ActsBring → (o : Opening) (n : ℕ) (command : Command) (others functions pieces : ℕ) (before after : Point) → length (replay o before.journal).blocks ≡ n
    → (replay o before.journal).room ≡ room_for (1 + others) (0 + functions) (length (plan_in n command) + pieces)
    → Acted o (act.Arrive A (work.Cmd command)) before after → Came o before.journal after.journal (work.Cmd command ∷ []) (room_for others functions pieces)
command_comes law o n command others functions pieces before after size room h =
    work_comes law o n (work.Cmd command) full (room_for others functions pieces) before after size room fits
    (same_room _ others _ functions _ pieces (omega arith) (omega arith) (omega arith)) h
  where
    s : State
    s = replay o before.journal

    full : Room
    full = room_for (1 + others) (0 + functions) (length (plan_in n command) + pieces)

    enough : (nat_lt 0 full.commands && nat_le (length (plan_in n command)) full.pieces) ≡ true
    enough =
        ap (λ t. t && nat_le (length (plan_in n command)) full.pieces) (lt-ltb 0 (1 + others) (omega arith))
        ∙ le-leb (length (plan_in n command)) (length (plan_in n command) + pieces) (omega arith)

    fits : has_room_for (work.Cmd command) s ≡ true
    fits =
        ap (λ (r : Room). nat_lt 0 r.commands && nat_le (length (plan_in (length s.blocks) command)) r.pieces) room
        ∙ ap (λ k. nat_lt 0 full.commands && nat_le (length (plan_in k command)) full.pieces) size
        ∙ enough

function_comes : ActsBring → (o : Opening) (n : ℕ) (ask : Ask) (commands others pieces : ℕ) (before after : Point) → length (replay o before.journal).blocks ≡ n
    → (replay o before.journal).room ≡ room_for (0 + commands) (1 + others) (0 + pieces)
    → Acted o (act.Arrive A (work.Ask ask)) before after → Came o before.journal after.journal (work.Ask ask ∷ []) (room_for commands others pieces)
function_comes law o n ask commands others pieces before after size room h =
    work_comes law o n (work.Ask ask) (room_for (0 + commands) (1 + others) (0 + pieces)) (room_for commands others pieces) before after size room
    (ap (λ (r : Room). nat_lt 0 r.functions) room ∙ lt-ltb 0 (1 + others) (omega arith))
    (same_room _ commands _ others _ pieces (omega arith) (omega arith) (omega arith)) h

line_comes : ActsBring → (o : Opening) (n number : ℕ) (word : Word) (lines : List Line) (before after : Point) → length (replay o before.journal).blocks ≡ n →
    (replay o before.journal).room ≡ room_of n (record { no = number; word = word } ∷ lines) → ByLine o number word before after →
    Came o before.journal after.journal (works_sent (record { no = number; word = word } ∷ [])) (room_of n lines)
line_comes law o n number (Cmd nexus x tag attr cdb out) lines before after size room h =
    command_comes law o n (record { line = number; nexus = nexus; visible = 1; tag = tag; attr = attr; cdb = cdb; out = out }) (count_by is_command lines) (count_by is_task lines) (sum_by (pieces_in n) lines) before after size
    (room ∙ room_parts n (record { no = number; word = Cmd nexus x tag attr cdb out }) lines) h
line_comes law o n number (Task nexus x function) lines before after size room h =
    function_comes law o n (record { line = number; nexus = nexus; function = function }) (count_by is_command lines) (count_by is_task lines) (sum_by (pieces_in n) lines) before after size
    (room ∙ room_parts n (record { no = number; word = Task nexus x function }) lines) h
line_comes law o n number (Step lun asked blocks) lines before after size room h =
    line_none law o n (record { no = number; word = Step lun asked blocks }) lines before.journal after.journal refl refl refl room (acted_none law o (act.Step asked blocks) before after (λ s. refl) h)
line_comes law o n number (Drain lun) lines before after size room h =
    line_none law o n (record { no = number; word = Drain lun }) lines before.journal after.journal refl refl refl room (drains_none law o before after h)
line_comes law o n number Sync lines before after size room h =
    line_none law o n (record { no = number; word = Sync }) lines before.journal after.journal refl refl refl room (drains_none law o before after h)
line_comes law o n number (Lun lun blocks sizes) lines before after size room h =
    line_none law o n (record { no = number; word = Lun lun blocks sizes }) lines before.journal after.journal refl refl refl room (subst (λ (p : Point). Came o before.journal p.journal [] (replay o before.journal).room) (sym h) (none_came o before.journal))
line_comes law o n number (Port port node) lines before after size room h =
    line_none law o n (record { no = number; word = Port port node }) lines before.journal after.journal refl refl refl room (subst (λ (p : Point). Came o before.journal p.journal [] (replay o before.journal).room) (sym h) (none_came o before.journal))
line_comes law o n number (Map nexus x lun) lines before after size room h =
    line_none law o n (record { no = number; word = Map nexus x lun }) lines before.journal after.journal refl refl refl room (subst (λ (p : Point). Came o before.journal p.journal [] (replay o before.journal).room) (sym h) (none_came o before.journal))

-- works of lines are those of the first and of the others
works_parts : (line : Line) (lines : List Line) → works_sent (line ∷ lines) ≡ works_sent (line ∷ []) ++ works_sent lines
works_parts line lines = go (work_sent line.no line.word)
  where
    go : (found : Option KeptWork) → cons_option found (works_sent lines) ≡ cons_option found [] ++ works_sent lines
    go None = refl
    go (Some came) = refl

lines_come : ActsBring → (o : Opening) (n : ℕ) (lines : List Line) (before after : Point) → length (replay o before.journal).blocks ≡ n → (replay o before.journal).room ≡ room_of n lines → ByLines o lines before after →
    Came o before.journal after.journal (works_sent lines) (room_of n [])
lines_come law o n [] before after size room h =
    subst (λ (p : Point). Came o before.journal p.journal [] (room_of n [])) (sym h) (subst (λ r. Came o before.journal before.journal [] r) room (none_came o before.journal))
lines_come law o n (line ∷ lines) before after size room h =
    let first = line_comes law o n line.no line.word lines before h.0 size room h.1 in
    let rest = lines_come law o n lines h.0 after (first.size ∙ size) first.room h.2 in
    subst (λ ws. Came o before.journal after.journal ws (room_of n [])) (sym (works_parts line lines))
    (came_then o before.journal h.0.journal after.journal (works_sent (line ∷ [])) (works_sent lines) (room_of n lines) (room_of n []) first rest)

opened_is : (o : Opening) → replay o [] ≡ opened o
unfolding replay
opened_is o = refl

pub all_come : ActsBring → WorksKept → (n : ℕ) (lines : List Line) (first : ℕ) (end : Point) → IsPlayed (opening_of n lines) lines first end → IsRun (opening_of n lines) end.journal → works_in end.journal ≡ works_sent lines
all_come law kept n lines first end h run =
    sym (kept o end.journal run) ∙ drained.works ∙ append-nil (works_of (replay o h.last.journal)) ∙ came.works ∙ ap (λ ws. ws ++ works_sent lines) (ap works_of (opened_is o))
  where
    o : Opening
    o = opening_of n lines

    size : length (replay o []).blocks ≡ n
    size = ap (λ (s : State). length s.blocks) (opened_is o) ∙ length-replicate n (replicate 512 0)

    came : Came o [] h.last.journal (works_sent lines) (room_of n [])
    came = lines_come law o n lines (record { journal = []; faults = first }) h.last size (ap (λ (s : State). s.room) (opened_is o)) h.lines_done

    drained : Came o h.last.journal end.journal [] (replay o h.last.journal).room
    drained = drains_none law o h.last end h.drained
