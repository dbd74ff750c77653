-- Ends and cuts of commands.
use Rattle.std.proofs.Common.{◌≡◌, ℕ, ◌≤◌, inl, inr, Bool, true, false, not, List, [], ◌∷◌, ◌++◌, Option, Some, None}
use Rattle.std.proofs.Common.{length, refl, sym, ap, ◌∙◌, subst, ⊎_elim, arith, nat_eq, eqb-true, eq-eqb, ne_eqb, take}
use Rattle.std.proofs.Common.{slice_get}
use Rattle.std.specs.Prelude.{is_some}
use Rattle.std.proofs.lemmas.Option.{same_Some}
use Rattle.std.proofs.lemmas.Bool.{both_ways}
use Rattle.ct_word.specs.declared.names.Node.{Node}
use Rattle.ct_tmf.specs.declared.function.Ask.{Ask}
use Rattle.ct_book.specs.declared.work.Command.{Command}
use Rattle.ct_book.specs.declared.work.Work.TheVariants as work
use Rattle.ct_book.specs.declared.event.Event.TheVariants as event
use Rattle.ct_book.specs.declared.event.Why.{Why}
use Rattle.ct_book.specs.declared.event.Why.TheVariants.{By, Medium}
use Rattle.ct_book.specs.declared.event.Logged.{Logged}
use Rattle.ct_book.specs.Journals.{KeptWork, numbered, works_in}
use Rattle.ct_book.specs.Histories.{cut_at}
use Rattle.ct_exec.specs.Controls.{Disk, is_unrestricted}
use Rattle.ct_machine.specs.declared.act.Opening.{Opening}
use Rattle.ct_machine.specs.States.{Task, Stage, Waiting, Here, Granted, There, Over, Open, Arrival, State}
use Rattle.ct_machine.specs.States.{is_waiting, has_begun, done_at, with_task, at_stage}
use Rattle.ct_machine.specs.Serial.{disk_after, serial_disk}
use Rattle.ct_machine.specs.Laws.Journals.{has, is_entry, is_begin, is_enter, is_asked, IsCommandOf, IsFunctionOf}
use Rattle.ct_machine.specs.Laws.Legal.{IsRestricted}
use Rattle.ct_machine.specs.Laws.Cells.{beside}
use Rattle.ct_law.proofs.Lists.Tasks.{Has, with_itself}
use Rattle.ct_law.proofs.Lists.Changed.{with_with}
use Rattle.ct_law.proofs.Cells.Held.{Rules, Holds, is_active}
use Rattle.ct_law.proofs.Journals.Journal.{unstarted}
use Rattle.ct_law.proofs.Journals.Growing.{numbered-map}
use Rattle.ct_law.proofs.Frame.Books.{is_over, arrival_for}
use Rattle.ct_law.proofs.Frame.Opens.{Opens, HasOpen, opens_event, opens_cut}
use Rattle.ct_law.proofs.Inv.{LawfulAt, Frame, Gained, Inv, Others, others_of, got_at, told, replied, is_move, known_in}
use Rattle.ct_law.proofs.Inv.{restricted_before, serial-same}
use Rattle.ct_tmf.specs.Reaches.{hits}
use Rattle.ct_plan.specs.declared.operation.BlockOp.{BlockOp}
use Rattle.ct_plan.specs.Plans.{puts_among}
use Rattle.ct_plan.specs.Cells.{Progress}
use Rattle.ct_exec.specs.Executions.{Execution, execute, refusal_of, plan_in, reply_moved, reply_failed}
use Rattle.ct_machine.specs.States.{disk_of}
use Rattle.ct_machine.specs.Events.Ends.{noted}
use Rattle.ct_machine.specs.Events.Functions.{is_hit}
use Rattle.ct_machine.specs.Events.Moves.{further}
use Rattle.ct_machine.specs.Serial.{command_ran, command_cut, cut_disk}
use Rattle.ct_machine.specs.Laws.Journals.{made_by}
use Rattle.ct_machine.specs.Laws.Legal.{RepliesAsExecuted, IsCutFor}
use Rattle.ct_law.proofs.Rows.Laws.{Laws, IsOnce, Same}
use Rattle.ct_law.proofs.Rows.Ready.{IsReady}
use Rattle.ct_law.proofs.Cells.Ends.{IsAt, at_active, at_done, at_further, running_in, cut_held, cut_rules, ran_held}
use Rattle.ct_law.proofs.Cells.Ends.{ready_begun}
use Rattle.ct_law.proofs.Cells.Ends.{ran_rules, once_same, once_rules, once_held, puts_at, disk_cut, comes_to}
use Rattle.ct_law.proofs.Cells.Ends.{moved_state}
use Rattle.ct_law.proofs.Inv.{in_order}
use Rattle.ct_law.proofs.Events.Entries.{Own, over_state, over_alone, entry_so}
use Rattle.ct_law.proofs.Events.Moves.{own_alone, begun_at, not_open, Moved, moved_event, moves_so}

-- facts about a command of the task set that isn't over
unended : (P : ℕ → ℕ → Type 0) (o : Opening) (s : State) (journal : List Logged) (x : Task) → Frame P o s journal →
    Has s.tasks x → is_over x.stage ≡ false → has (is_entry x.no) journal ≡ false
unended P o s journal x h hx alive = h.books.entry x hx ∙ alive

once_entry : (n : ℕ) (journal : List Logged) → has (is_entry n) journal ≡ false → (m : ℕ) → nat_eq n m ≡ true →
    has (is_entry m) journal ≡ false
once_entry n journal h m k = subst (λ i. has (is_entry i) journal ≡ false) (eqb-true n m k) h

-- the task set and what holds of it, on as many blocks as the state has
rules_n : (P : ℕ → ℕ → Type 0) (o : Opening) (s : State) (journal : List Logged) → Inv P o s journal →
    Rules (length s.blocks) (serial_disk o journal) s.control s.tasks
rules_n P o s journal h = subst (λ k. Rules k (serial_disk o journal) s.control s.tasks) (sym h.frame.size) h.rules

opens_alone : (P : ℕ → ℕ → Type 0) (o : Opening) (s : State) (journal : List Logged) (x : Task) (e : Logged) →
    Frame P o s journal → Has s.tasks x →
    ((p : Open) → HasOpen s.functions p → (x.no ≡ p.no → ⊥) →
    (is_entry p.no e.event ≡ false) × (cut_at p.no e.event ≡ [])) → Opens P
    (journal ++ e ∷ []) s.arrivals s.tasks s.functions s.to_a s.to_b
opens_alone P o s journal x e h hx f =
    opens_event P journal s.arrivals s.tasks s.functions s.to_a s.to_b e
    (λ p hp. f p hp (not_open P o s journal x h hx p hp)) h.opens

-- what a command leaves that ends with these data and this difference, if any, where it is executed whole
abbrev pub IsWhole : ℕ → Disk → State → Task → Option ℕ → List ℕ → Type 0
IsWhole n d s x found got =
    Holds n (execute d x.command).disk s.blocks (with_task (at_stage Over x) s.tasks)
    × (reply_moved s.control found got ≡ (execute d x.command).reply)

-- a command ends
pub ends_so : (P : ℕ → ℕ → Type 0) (laws : Laws) (o : Opening) (s : State) (journal : List Logged) (x : Task)
    (done : ℕ) (got : List ℕ) (found : Option ℕ) → Others P o s journal x.no → Has s.tasks x → IsAt x.stage done got →
    Gained (beside o x.no journal) found got →
    (found ≡ None → made_by x.no journal ≡ length (plan_in o.blocks x.command)) →
    (IsRestricted o journal → IsWhole o.blocks (serial_disk o journal) s x found got) →
    Inv P o (over_alone s x) (journal ++ replied (event.Ended x.no) (reply_moved s.control found got) ∷ [])
ends_so P laws o s journal x done got found h hx at gained made held =
    entry_so P o s journal x e s.functions s.control s.blocks h hx b.0 (record {
      lawful = record {
        once = once_entry x.no journal (unended P o s journal x h.frame hx b.0);
        typed = record { work = (x.command, known); by = tt; closed = tt };
        orderly = λ k. absurd (both_ways _ (unstarted x.no journal k) begun);
        reorders = λ a entered began left.
            ap is_unrestricted (ap (λ w. (command_ran w d).control) known ∙ sym ran.control ∙ h.rules.control);
        plan = λ k none c w.
            subst (λ z. made_by x.no journal ≡ length (plan_in o.blocks z)) (same_command c w)
            (made (sym gained.difference ∙ none));
        prefix = tt;
        cells = λ k. ap Some (ap (λ c. reply_moved c found got) h.rules.control
            ∙ ap (λ g. reply_moved d.control found g) (sym gained.got)
            ∙ ap (λ f. reply_moved d.control f (beside o x.no journal).got) (sym gained.difference));
        sound = (
          λ k. absurd (both_ways _ k begun),
          λ c w k.
              subst (λ z. refusal_of d.control o.blocks z ≡ None) (same_command c w) (h.rules.allowed x hx active).0,
        );
        legal = λ r. (x.command, known, ap Some (held r).1);
      };
      entry = eq-eqb x.no x.no refl;
      no_work = refl;
      no_move = refl;
      own = own_alone P o s journal x e.event h.frame hx (λ m. refl) (λ m i. i);
      opens = opens_alone P o s journal x e h.frame hx (λ p hp ne. (ne_eqb x.no p.no ne, refl));
      blocks_same = refl;
      rules = subst (λ w. Rules o.blocks (command_ran w d) s.control (with_task (at_stage Over x) s.tasks))
          (sym known) ran;
      holds = λ r. subst (λ w. Holds o.blocks (command_ran w d) s.blocks (with_task (at_stage Over x) s.tasks))
          (sym known) (held r).0;
    })
  where
    e : Logged
    e = replied (event.Ended x.no) (reply_moved s.control found got)

    d : Disk
    d = serial_disk o journal

    b : (is_over x.stage ≡ false) × (is_waiting x.stage ≡ false) × (got_at x.stage ≡ got)
    b = begun_at x.stage done got at

    active : is_active x.stage ≡ true
    active = at_active x.stage done got at

    ran : Rules o.blocks (execute d x.command).disk s.control (with_task (at_stage Over x) s.tasks)
    ran = ran_rules laws o.blocks d s.control s.tasks x h.rules hx active

    begun : has (is_begin x.no) journal ≡ true
    begun = h.frame.books.begin x hx b.0 ∙ ap not b.1

    known : IsCommandOf journal x.no x.command
    known = known_in P o s journal x h.frame hx

    same_command : (c : Command) → IsCommandOf journal x.no c → x.command ≡ c
    same_command c w = let k : Some (work.Cmd x.command) ≡ Some (work.Cmd c) = sym known ∙ w in cc

-- one that has made all its operations
pub ended_so : (P : ℕ → ℕ → Type 0) (laws : Laws) (o : Opening) (s : State) (journal : List Logged) (x : Task)
    (done : ℕ) (got : List ℕ) → Inv P o s journal → Has s.tasks x → IsAt x.stage done got →
    length (plan_in o.blocks x.command) ≤ done → done ≤ length (plan_in o.blocks x.command) →
    Inv P o (over_alone s x) (journal ++ replied (event.Ended x.no) (reply_moved s.control None got) ∷ [])
ended_so P laws o s journal x done got h hx at whole within =
    ends_so P laws o s journal x done got None (others_of P o s journal x.no h) hx at
    (record { got = gained.got ∙ b.2; difference = gained.difference })
    (λ k.
    let made = h.frame.books.made x hx b.0 in
    let is = at_done x.stage done got at in
    omega (arith, made, is, whole, within)) held
  where
    d : Disk
    d = serial_disk o journal

    b : (is_over x.stage ≡ false) × (is_waiting x.stage ≡ false) × (got_at x.stage ≡ got)
    b = begun_at x.stage done got at

    gained : Gained (beside o x.no journal) None (got_at x.stage)
    gained = h.cells.gained x hx b.0

    held : IsRestricted o journal → IsWhole o.blocks d s x None got
    held r = ran_held laws o.blocks d s.control s.blocks s.tasks x 0 done got h.rules (h.holds r) hx
        (at_active x.stage done got at)
        (running_in o.blocks d s.blocks x.command x.stage done got at ((h.holds r).running x hx))
        (inr (refl, omega (arith, whole)))

-- one that found a difference, right behind the operations at which it found it
pub differed_so : (P : ℕ → ℕ → Type 0) (laws : Laws) (o : Opening) (s : State) (journal : List Logged) (x : Task)
    (count done : ℕ) (got : List ℕ) (offset : ℕ) → Inv P o s journal → Has s.tasks x → IsAt x.stage done got →
    (comes_to s x count done got).difference ≡ Some offset →
    let p = comes_to s x count done got in
    Inv P o (over_alone (moved_state s x p) (at_stage (further x.stage p.made p.cells.got) x))
    ((journal ++ moved_event s x count done got ∷ [])
    ++ replied (event.Ended x.no) (reply_moved s.control (Some offset) []) ∷ [])
differed_so P laws o s journal x count done got offset h hx at differs =
    ends_so P laws o now (journal ++ e ∷ []) w p.made p.cells.got (Some offset) moved.others
    (with_itself w s.tasks x hx refl) (at_further x.stage done got p.made p.cells.got at)
    (record { got = moved.gained.got; difference = moved.gained.difference ∙ differs }) (λ k. absurd (cc)) held
  where
    n : ℕ
    n = length s.blocks

    d : Disk
    d = serial_disk o journal

    p : Progress
    p = comes_to s x count done got

    now : State
    now = moved_state s x p

    e : Logged
    e = moved_event s x count done got

    w : Task
    w = at_stage (further x.stage p.made p.cells.got) x

    moved : Moved P o now (journal ++ e ∷ []) x p
    moved = moves_so P o s journal x count done got h hx at

    -- the same, said of the task set before the operations
    before : State
    before = record now { tasks = s.tasks }

    ran : Holds n d s.blocks s.tasks → IsWhole n d before x p.difference p.cells.got
    ran k = ran_held laws n d s.control s.blocks s.tasks x count done got (rules_n P o s journal h) k hx
        (at_active x.stage done got at)
        (running_in n d s.blocks x.command x.stage done got at (k.running x hx))
        (inl (offset, differs))

    whole : IsRestricted o (journal ++ e ∷ []) → IsWhole o.blocks d before x (Some offset) p.cells.got
    whole r =
        let held = h.holds (restricted_before o journal e r) in
        subst (λ k. IsWhole k d before x (Some offset) p.cells.got) h.frame.size
        (subst (λ f. IsWhole n d before x f p.cells.got) differs
        (ran (subst (λ k. Holds k d s.blocks s.tasks) (sym h.frame.size) held)))

    held : IsRestricted o (journal ++ e ∷ []) →
        IsWhole o.blocks (serial_disk o (journal ++ e ∷ [])) now w (Some offset) p.cells.got
    held r =
        let k = whole r in
        let same = sym (with_with (at_stage Over w) w s.tasks refl) in
        subst (λ disk. IsWhole o.blocks disk now w (Some offset) p.cells.got) (sym (serial-same o journal e refl))
        (subst (λ q. Holds o.blocks (execute d x.command).disk p.cells.blocks q) same k.0, k.1)

-- what has begun and isn't over is active
pub still_active : (stage : Stage) → is_over stage ≡ false → has_begun stage ≡ true → is_active stage ≡ true
still_active Waiting alive begun = absurd (cc)
still_active (Here done got) alive begun = refl
still_active Granted alive begun = refl
still_active (There done got) alive begun = refl
still_active Over alive begun = absurd (cc)

-- a command that is refused when it would begin, or has no block operation, ends at once
pub once_ends : (P : ℕ → ℕ → Type 0) (laws : Laws) (o : Opening) (s : State) (journal : List Logged) (x : Task) →
    Inv P o s journal → Has s.tasks x → x.stage ≡ Waiting → IsReady o.blocks (is_unrestricted s.control) x s.tasks →
    IsOnce (refusal_of s.control o.blocks x.command) (plan_in o.blocks x.command) →
    Inv P o (over_state s x s.functions (execute (disk_of s) x.command).disk.control
    (execute (disk_of s) x.command).disk.blocks)
    (journal ++ replied (event.Ended x.no) (execute (disk_of s) x.command).reply ∷ [])
once_ends P laws o s journal x h hx st ready is_once =
    entry_so P o s journal x e s.functions a.disk.control a.disk.blocks (others_of P o s journal x.no h) hx
    (ap is_over st) (record {
      lawful = record {
        once = once_entry x.no journal (unended P o s journal x h.frame hx (ap is_over st));
        typed = record { work = (x.command, known); by = tt; closed = tt };
        orderly = λ k. in_order P laws o s journal x h hx st ready;
        reorders = λ a entered began left.
            ap (λ w. is_unrestricted (command_ran w d).control) known ∙ keeps a entered began left;
        plan = λ k. absurd (both_ways _ unbegun k);
        prefix = tt;
        cells = λ k. absurd (both_ways _ unbegun k);
        sound = (λ k. as_executed, λ c w k. absurd (both_ways _ unbegun k));
        legal = λ r. as_executed;
      };
      entry = eq-eqb x.no x.no refl;
      no_work = refl;
      no_move = refl;
      own = own_alone P o s journal x e.event h.frame hx (λ m. refl) (λ m i. i);
      opens = opens_alone P o s journal x e h.frame hx (λ p hp ne. (ne_eqb x.no p.no ne, refl));
      blocks_same = same.blocks;
      rules = subst (λ w. Rules o.blocks (command_ran w d) a.disk.control (with_task (at_stage Over x) s.tasks))
          (sym known)
          (once_rules laws o.blocks (is_unrestricted s.control) d s.control s.blocks s.tasks x h.rules hx ready same);
      holds = λ r. subst (λ w. Holds o.blocks (command_ran w d) a.disk.blocks (with_task (at_stage Over x) s.tasks))
          (sym known)
          (once_held o.blocks d s.control s.blocks s.tasks x h.rules (h.holds r) hx (ap is_waiting st) same);
    })
  where
    a : Execution
    a = execute (disk_of s) x.command

    e : Logged
    e = replied (event.Ended x.no) (execute (disk_of s) x.command).reply

    d : Disk
    d = serial_disk o journal

    known : IsCommandOf journal x.no x.command
    known = known_in P o s journal x h.frame hx

    unbegun : has (is_begin x.no) journal ≡ false
    unbegun = h.frame.books.begin x hx (ap is_over st) ∙ ap (λ z. not (is_waiting z)) st

    same : Same d s.control s.blocks x.command
    same = once_same laws o.blocks d s.control s.blocks x.command h.rules.sized h.frame.size h.rules.control is_once

    -- a command that has begun and isn't over moves blocks, and this one doesn't conflict with it
    keeps : (n : ℕ) → has (is_enter n) journal ≡ true → has (is_begin n) journal ≡ true →
        has (is_entry n) journal ≡ false →
        is_unrestricted (execute d x.command).disk.control ≡ is_unrestricted d.control
    keeps n entered began left =
        let live = h.frame.books.live n entered left in
        let y : Task = live.0 in
        let alive : is_over y.stage ≡ false =
        sym (h.frame.books.entry y live.1) ∙ ap (λ m. has (is_entry m) journal) live.2 ∙ left in
        let begun : has_begun y.stage ≡ true =
        sym (h.frame.books.begin y live.1 alive) ∙ ap (λ m. has (is_begin m) journal) live.2 ∙ began in
        let other : y.no ≡ x.no → ⊥ =
        λ k. both_ways _ unbegun (ap (λ m. has (is_begin m) journal) (sym k ∙ live.2) ∙ began) in
        laws.reorders (is_unrestricted s.control) o.blocks y.command x.command (has_begun y.stage) (has_begun x.stage) d
        (ready_begun laws o.blocks (is_unrestricted s.control) s.tasks x y h.rules.single ready live.1 other begun)
        (h.rules.allowed y live.1 (still_active y.stage alive begun)).1

    as_executed : RepliesAsExecuted o journal x.no (Some a.reply)
    as_executed = (x.command, known, ap Some same.reply)

-- a cut leaves the modifier
cut_keeps : (o : Opening) (journal : List Logged) (puts : ℕ) (came : Option KeptWork) (n : ℕ) →
    has (is_enter n) journal ≡ true → has (is_begin n) journal ≡ true → has (is_entry n) journal ≡ false →
    is_unrestricted (command_cut puts came (serial_disk o journal)).control
    ≡ is_unrestricted (serial_disk o journal).control
cut_keeps o journal puts None n entered began left = refl
cut_keeps o journal puts (Some (work.Cmd command)) n entered began left = refl
cut_keeps o journal puts (Some (work.Ask ask)) n entered began left = refl

-- the disk after a cut
cut_is : (P : ℕ → ℕ → Type 0) (o : Opening) (s : State) (journal : List Logged) (x : Task) (puts : ℕ) →
    Frame P o s journal → Has s.tasks x → command_cut puts (numbered x.no (works_in journal)) (serial_disk o journal)
    ≡ cut_disk puts x.command (serial_disk o journal)
cut_is P o s journal x puts h hx = ap (λ w. command_cut puts w (serial_disk o journal)) (known_in P o s journal x h hx)

-- a command is cut: what it put is what its operations put
pub cut_so : (P : ℕ → ℕ → Type 0) (o : Opening) (s : State) (journal : List Logged) (x : Task) (e : Logged) (why : Why)
    (told_so : Bool) (functions : List Open) → Inv P o s journal → Has s.tasks x → is_over x.stage ≡ false →
    e.event ≡ event.Cut x.no (puts_at o.blocks x) why told_so → e.work ≡ None → LawfulAt o journal e → Own s x e.event →
    Opens P (journal ++ e ∷ []) s.arrivals s.tasks functions s.to_a s.to_b →
    Inv P o (over_state s x functions s.control s.blocks) (journal ++ e ∷ [])
cut_so P o s journal x e why told_so functions h hx alive is no_work lawful own opens =
    entry_so P o s journal x e functions s.control s.blocks (others_of P o s journal x.no h) hx alive (record {
      lawful = lawful;
      entry = ap (is_entry x.no) is ∙ eq-eqb x.no x.no refl;
      no_work = no_work;
      no_move = ap is_move is;
      own = own;
      opens = opens;
      blocks_same = refl;
      rules = subst (λ k. Rules o.blocks k s.control (with_task (at_stage Over x) s.tasks)) (sym now)
          (cut_rules o.blocks (puts_at o.blocks x) d s.control s.tasks x h.rules hx);
      holds = λ r. subst (λ k. Holds o.blocks k s.blocks (with_task (at_stage Over x) s.tasks)) (sym now)
          (cut_held o.blocks d s.blocks s.tasks x h.rules.sized (h.holds r) h.rules.single hx);
    })
  where
    d : Disk
    d = serial_disk o journal

    now : disk_after journal e.event d ≡ disk_cut o.blocks d x
    now = ap (λ k. disk_after journal k d) is ∙ cut_is P o s journal x (puts_at o.blocks x) h.frame hx

prefix_of : (P : ℕ → ℕ → Type 0) (o : Opening) (s : State) (journal : List Logged) (x : Task) → Frame P o s journal →
    Has s.tasks x → is_over x.stage ≡ false → (c : Command) → IsCommandOf journal x.no c →
    puts_at o.blocks x ≡ puts_among (take (made_by x.no journal) (plan_in o.blocks c))
prefix_of P o s journal x h hx alive c w =
    let k : Some (work.Cmd x.command) ≡ Some (work.Cmd c) = sym (known_in P o s journal x h hx) ∙ w in
    let same : x.command ≡ c = cc in
    ap (λ z. puts_among (take (done_at x.stage) (plan_in o.blocks z))) same ∙ ap
    (λ m. puts_among (take m (plan_in o.blocks c))) (sym (h.books.made x hx alive))

-- by a fault of the medium
pub medium_so : (P : ℕ → ℕ → Type 0) (o : Opening) (s : State) (journal : List Logged) (x : Task) (done : ℕ)
    (got : List ℕ) (operation : BlockOp) → Inv P o s journal → Has s.tasks x → IsAt x.stage done got →
    slice_get (plan_in o.blocks x.command) done ≡ Some operation →
    Inv P o (over_state s x s.functions s.control s.blocks)
    (journal ++ replied (event.Cut x.no (puts_at o.blocks x) Medium false) (reply_failed s.control operation) ∷ [])
medium_so P o s journal x done got operation h hx at failed =
    cut_so P o s journal x e Medium false s.functions h hx b.0 refl refl (record {
      once = once_entry x.no journal (unended P o s journal x h.frame hx b.0);
      typed = record { work = (x.command, known_in P o s journal x h.frame hx); by = tt; closed = tt };
      orderly = tt;
      reorders = cut_keeps o journal (puts_at o.blocks x) (numbered x.no (works_in journal));
      plan = (h.cells.gained x hx b.0).difference;
      prefix = (prefix_of P o s journal x h.frame hx b.0, tt);
      cells = tt;
      sound = cause;
      legal = λ r. cause;
    })
    (own_alone P o s journal x e.event h.frame hx (λ m. refl) (λ m i. i))
    (opens_alone P o s journal x e h.frame hx (λ p hp ne. (ne_eqb x.no p.no ne, refl)))
  where
    e : Logged
    e = replied (event.Cut x.no (puts_at o.blocks x) Medium false) (reply_failed s.control operation)

    b : (is_over x.stage ≡ false) × (is_waiting x.stage ≡ false) × (got_at x.stage ≡ got)
    b = begun_at x.stage done got at

    cause : IsCutFor o journal x.no Medium (Some (reply_failed s.control operation))
    cause = (
      x.command,
      operation,
      known_in P o s journal x h.frame hx,
      ap (slice_get (plan_in o.blocks x.command)) (h.frame.books.made x hx b.0 ∙ at_done x.stage done got at) ∙ failed,
      ap (λ k. Some (reply_failed k operation)) h.rules.control,
    )

-- or by a function that is open and hits it
pub by_so : (P : ℕ → ℕ → Type 0) (o : Opening) (s : State) (journal : List Logged) (x : Task) (f : ℕ) (node : Node)
    (ask : Ask) (told_so : Bool) → Inv P o s journal → Has s.tasks x → is_over x.stage ≡ false →
    numbered f s.arrivals ≡ Some (record { node = node; work = work.Ask ask }) → is_hit ask x ≡ true →
    has (is_asked f) journal ≡ true → has (is_entry f) journal ≡ false →
    Inv P o (over_state s x (noted f x.no s.functions) s.control s.blocks)
    (journal ++ told (event.Cut x.no (puts_at o.blocks x) (By f) told_so) ∷ [])
by_so P o s journal x f node ask told_so h hx alive came hit asked unclosed =
    cut_so P o s journal x e (By f) told_so (noted f x.no s.functions) h hx alive refl refl (record {
      once = once_entry x.no journal (unended P o s journal x h.frame hx alive);
      typed = record {
        work = (x.command, known_in P o s journal x h.frame hx);
        by = ap is_some in_journal;
        closed = tt;
      };
      orderly = tt;
      reorders = cut_keeps o journal (puts_at o.blocks x) (numbered x.no (works_in journal));
      plan = (h.cells.gained x hx alive).difference;
      prefix = (prefix_of P o s journal x h.frame hx alive, λ a w. (asked, unclosed));
      cells = tt;
      sound = cause;
      legal = λ r. cause;
    })
    (record {
      enters = λ m. refl;
      mine = λ m i. ⊎_elim inl (λ (k : f ≡ m). inr (λ y hy z. other y hy (z ∙ sym k))) i;
      old = λ m k i. ⊎_elim
          (λ (z : x.no ≡ m). both_ways (has (is_enter m) journal) (h.frame.books.fresh m k).enter
          (subst (λ j. has (is_enter j) journal ≡ true) z (h.frame.books.entered x hx)))
          (λ (z : f ≡ m). both_ways (has (is_asked m) journal) (h.frame.books.fresh m k).asking
          (subst (λ j. has (is_asked j) journal ≡ true) z asked)) i;
    })
    (opens_cut P journal s.arrivals s.tasks s.functions s.to_a s.to_b x.no (puts_at o.blocks x) f told_so e refl
    (not_open P o s journal x h.frame hx) h.frame.opens)
  where
    e : Logged
    e = told (event.Cut x.no (puts_at o.blocks x) (By f) told_so)

    other : (y : Task) → Has s.tasks y → y.no ≡ f → ⊥
    other y hy k =
        let w : Some (arrival_for y) ≡ Some (record { node = node; work = work.Ask ask }) =
        sym (h.frame.books.known y hy) ∙ ap (λ n. numbered n s.arrivals) k ∙ came in
        let z : work.Cmd y.command ≡ work.Ask ask = ap (λ (a : Arrival). a.work) (same_Some _ _ w) in
        cc

    in_journal : numbered f (works_in journal) ≡ Some (work.Ask ask)
    in_journal = ap (numbered f) (sym h.frame.works) ∙ numbered-map (λ (a : Arrival). a.work) f s.arrivals _ came

    cause : IsCutFor o journal x.no (By f) None
    cause = (
      x.command,
      known_in P o s journal x h.frame hx,
      λ a w. let k : Some (work.Ask ask) ≡ Some (work.Ask a) = sym in_journal ∙ w in
          let same : ask ≡ a = cc in
          subst (λ z. hits z x.command.nexus x.command.tag ≡ true) same hit,
    )

-- or by a PREEMPT AND ABORT that ended, while it waits
pub cleared_so : (P : ℕ → ℕ → Type 0) (o : Opening) (s : State) (journal : List Logged) (x : Task) (n : ℕ) (c : Command)
    (told_so : Bool) → Inv P o s journal → Has s.tasks x → x.stage ≡ Waiting →
    IsCommandOf journal n c → has (is_enter n) journal ≡ true → ((y : Task) → Has s.tasks y → y.no ≡ n → ⊥) →
    Inv P o (over_state s x (noted n x.no s.functions) s.control s.blocks)
    (journal ++ told (event.Cut x.no 0 (By n) told_so) ∷ [])
cleared_so P o s journal x n c told_so h hx waits by entered gone =
    subst (λ puts. Inv P o (over_state s x (noted n x.no s.functions) s.control s.blocks)
    (journal ++ told (event.Cut x.no puts (By n) told_so) ∷ [])) none
    (cut_so P o s journal x e (By n) told_so (noted n x.no s.functions) h hx alive refl refl (record {
      once = once_entry x.no journal (unended P o s journal x h.frame hx alive);
      typed = record { work = (x.command, known_in P o s journal x h.frame hx); by = ap is_some by; closed = tt };
      orderly = tt;
      reorders = cut_keeps o journal (puts_at o.blocks x) (numbered x.no (works_in journal));
      plan = (h.cells.gained x hx alive).difference;
      prefix = (prefix_of P o s journal x h.frame hx alive, λ a w. absurd (no_function a w));
      cells = tt;
      sound = cause;
      legal = λ r. cause;
    })
    (record {
      enters = λ m. refl;
      mine = λ m i. ⊎_elim inl (λ (k : n ≡ m). inr (λ y hy z. gone y hy (z ∙ sym k))) i;
      old = λ m k i. ⊎_elim
          (λ (z : x.no ≡ m). both_ways (has (is_enter m) journal) (h.frame.books.fresh m k).enter
          (subst (λ j. has (is_enter j) journal ≡ true) z (h.frame.books.entered x hx)))
          (λ (z : n ≡ m). both_ways (has (is_enter m) journal) (h.frame.books.fresh m k).enter
          (subst (λ j. has (is_enter j) journal ≡ true) z entered)) i;
    })
    (opens_cut P journal s.arrivals s.tasks s.functions s.to_a s.to_b x.no (puts_at o.blocks x) n told_so e refl
    (not_open P o s journal x h.frame hx) h.frame.opens))
  where
    e : Logged
    e = told (event.Cut x.no (puts_at o.blocks x) (By n) told_so)

    alive : is_over x.stage ≡ false
    alive = ap is_over waits

    -- it put nothing
    none : puts_at o.blocks x ≡ 0
    none = ap (λ stage. puts_among (take (done_at stage) (plan_in o.blocks x.command))) waits

    no_function : (a : Ask) → IsFunctionOf journal n a → ⊥
    no_function a w = let same : work.Cmd c ≡ work.Ask a = same_Some _ _ (sym by ∙ w) in cc

    cause : IsCutFor o journal x.no (By n) None
    cause = (x.command, known_in P o s journal x h.frame hx, λ a w. absurd (no_function a w))
