-- The begins, moves, ends and cuts of commands: what each leaves of the blocks.
use Rattle.std.proofs.Common.{◌≡◌, ℕ, ◌+◌, ◌≤◌, ◌⊎◌, inl, inr, Bool, true, false, List, [], Some, None, length, take}
use Rattle.std.proofs.Common.{drop, refl, sym, ap, ◌∙◌, subst, ⊎_elim, take_at}
use Rattle.std.proofs.lemmas.Bool.{cases_Bool, both_ways}
use Rattle.ct_plan.specs.declared.operation.BlockOp.{BlockOp}
use Rattle.ct_plan.specs.Plans.{puts_among}
use Rattle.ct_plan.specs.Cells.{Cells, Progress, after_all, performed}
use Rattle.ct_matrix.specs.Conflicts.{conflicts, has_to_wait, is_head}
use Rattle.ct_book.specs.declared.work.Command.{Command}
use Rattle.ct_exec.specs.Controls.{ControlState, Disk}
use Rattle.ct_exec.specs.Executions.{Execution, execute, refusal_of, plan_in, reply_moved}
use Rattle.ct_machine.specs.States.{Task, State, Stage, Waiting, Here, Granted, There, Over, with_task, at_stage}
use Rattle.ct_machine.specs.States.{is_waiting, has_begun, done_at, held_of, held_by}
use Rattle.ct_machine.specs.Events.Moves.{further, moved_from}
use Rattle.ct_machine.specs.Serial.{first_puts, cut_disk}
use Rattle.ct_machine.specs.Laws.Orderly.{goes_first}
use Rattle.ct_law.proofs.Lists.Tasks.{Has, precedes}
use Rattle.ct_plan.proofs.Performing.{performed-all, size_after_all}
use Rattle.ct_law.proofs.Cells.Blocks.{cell, puts, start, Like, perform_size, perform_elsewhere, unused_put, puts_front}
use Rattle.ct_law.proofs.Cells.Blocks.{only_puts, first_puts_front, only_puts_blocks}
use Rattle.ct_law.proofs.Rows.Laws.{Laws, Apart, has_operations, operated, IsOnce, Same}
use Rattle.ct_law.proofs.Rows.Ready.{IsReady, free_of, undemanded, undemanded_must}
use Rattle.ct_law.proofs.Cells.Held.{Uses, Running, IsRunning, IsSingle, Holds, Rules, is_active, moves_to, rules_turn}
use Rattle.ct_law.proofs.Cells.Held.{rules_stay, not_put, turned}
use Rattle.ct_law.proofs.Cells.Execs.{made_all, later, then', then_size, then_elsewhere, done_is, runs_on, seen_whole}
use Rattle.ct_law.proofs.Cells.Execs.{seen_difference}

-- what a cut command has put is what its operations have put
pub cut_blocks : (n : ℕ) (disk : Disk) (blocks : List (List ℕ)) (c : Command) (done : ℕ) (got : List ℕ)
    (run : Running n disk blocks c done got) → length disk.blocks ≡ n →
    (cut_disk (puts_among (take done (plan_in n c))) c disk).blocks
    ≡ (performed c.out run.before (start disk.blocks)).cells.blocks
cut_blocks n disk blocks c done got run sized =
    let first : take done (plan_in n c) ≡ run.before =
    ap (take done) (sym run.parts) ∙ take_at run.before run.rest done (done_is n disk blocks c done got run) in
    let some : first_puts (puts_among (take done (plan_in n c))) (plan_in (length disk.blocks) c)
    ≡ only_puts run.before =
    ap (λ ops. first_puts (puts_among ops) (plan_in (length disk.blocks) c)) first
    ∙ ap (λ m. first_puts (puts_among run.before) (plan_in m c)) sized
    ∙ ap (first_puts (puts_among run.before)) (sym run.parts)
    ∙ first_puts_front run.before run.rest in
    ap (λ ops. (after_all c.out ops (start disk.blocks)).blocks) some
    ∙ only_puts_blocks c.out run.before (start disk.blocks)
    ∙ sym (ap (λ (p : Progress). p.cells.blocks)
    (performed-all c.out run.before (start disk.blocks) (sym run.seen.difference)))

running_done : (n : ℕ) (disk : Disk) (blocks : List (List ℕ)) (c : Command) (stage : Stage) →
    IsRunning n disk blocks c stage → is_active stage ≡ true →
    (got : List ℕ) × Running n disk blocks c (done_at stage) got
running_done n disk blocks c Waiting h a = absurd (cc)
running_done n disk blocks c (Here d g) h a = (g, h)
running_done n disk blocks c Granted h a = ([], h)
running_done n disk blocks c (There d g) h a = (g, h)
running_done n disk blocks c Over h a = absurd (cc)

none_apart : (qs : List BlockOp) → Apart [] qs
none_apart qs = record { first = λ l u. absurd (cc); second = λ l u. refl }

-- the puts of a command of the task set, on a disk of n blocks, and the serial disk after its cut
abbrev pub puts_at : ℕ → Task → ℕ
puts_at n x = puts_among (take (done_at x.stage) (plan_in n x.command))

abbrev pub disk_cut : ℕ → Disk → Task → Disk
disk_cut n disk x = cut_disk (puts_at n x) x.command disk

cut_active : (n : ℕ) (disk : Disk) (blocks : List (List ℕ)) (tasks : List Task) (x : Task) → length disk.blocks ≡ n →
    Holds n disk blocks tasks → IsSingle tasks → Has tasks x → is_active x.stage ≡ true →
    Holds n (disk_cut n disk x) blocks (with_task (at_stage Over x) tasks)
cut_active n disk blocks tasks x sized h single hx a =
    let c : Command = x.command in
    let r = running_done n disk blocks c x.stage (h.running x hx) a in
    let run : Running n disk blocks c (done_at x.stage) r.0 = r.1 in
    let e : (disk_cut n disk x).blocks ≡ (performed c.out run.before (start disk.blocks)).cells.blocks =
    cut_blocks n disk blocks c (done_at x.stage) r.0 run sized in
    moves_to n disk (disk_cut n disk x) blocks blocks tasks x Over (plan_in n c) h single hx (record {
      size = refl;
      disk_size = ap length e ∙ perform_size c.out run.before (start disk.blocks);
      left = λ l u. refl;
      disk_left = λ l u. ap (λ bs. cell bs l) e ∙ perform_elsewhere c.out run.before (start disk.blocks) l
          (puts_front l run.before run.rest (subst (λ ops. puts l ops ≡ false) (sym run.parts) u));
      apart = λ y hy ne b. h.apart x y hx hy (λ e. ne (sym e)) a b;
      running = tt;
      used = λ k l u. run.seen.blocks.at l u ∙ ap (λ bs. cell bs l) (sym e);
      own = λ k b l u. unused_put l (plan_in n c) u;
      whole = λ k. absurd (cc);
    })

-- of a command that waits nothing was put
cut_inactive : (n : ℕ) (disk : Disk) (blocks : List (List ℕ)) (tasks : List Task) (x : Task) →
    Holds n disk blocks tasks → IsSingle tasks → Has tasks x → is_active x.stage ≡ false →
    Holds n (disk_cut n disk x) blocks (with_task (at_stage Over x) tasks)
cut_inactive n disk blocks tasks x h single hx a =
    let e : (disk_cut n disk x).blocks ≡ disk.blocks =
    ap (λ m. (cut_disk (puts_among (take m (plan_in n x.command))) x.command disk).blocks) (none x.stage a) in
    moves_to n disk (disk_cut n disk x) blocks blocks tasks x Over [] h single hx (record {
      size = refl;
      disk_size = ap length e;
      left = λ l u. refl;
      disk_left = λ l u. ap (λ bs. cell bs l) e;
      apart = λ y hy ne b. none_apart (plan_in n y.command);
      running = tt;
      used = λ k l u. absurd (cc);
      own = λ k b l u. absurd (both_ways (is_active x.stage) a b);
      whole = λ k. absurd (cc);
    })
  where
    none : (stage : Stage) → is_active stage ≡ false → done_at stage ≡ 0
    none Waiting k = refl
    none (Here d g) k = absurd (cc)
    none Granted k = absurd (cc)
    none (There d g) k = absurd (cc)
    none Over k = refl

pub cut_held : (n : ℕ) (disk : Disk) (blocks : List (List ℕ)) (tasks : List Task) (x : Task) → length disk.blocks ≡ n →
    Holds n disk blocks tasks → IsSingle tasks → Has tasks x →
    Holds n (disk_cut n disk x) blocks (with_task (at_stage Over x) tasks)
cut_held n disk blocks tasks x sized h single hx =
    ⊎_elim (cut_active n disk blocks tasks x sized h single hx) (cut_inactive n disk blocks tasks x h single hx)
    (cases_Bool (is_active x.stage))

-- a cut leaves the list as long
pub cut_size : (count : ℕ) (c : Command) (disk : Disk) → length (cut_disk count c disk).blocks ≡ length disk.blocks
cut_size count c disk = size_after_all c.out (first_puts count (plan_in (length disk.blocks) c)) (start disk.blocks)

-- the rules after any cut
pub cut_rules : (n count : ℕ) (disk : Disk) (now : ControlState) (tasks : List Task) (x : Task) →
    Rules n disk now tasks → Has tasks x → Rules n (cut_disk count x.command disk) now
    (with_task (at_stage Over x) tasks)
cut_rules n count disk now tasks x h hx =
    rules_stay n disk (cut_disk count x.command disk) now tasks x Over (cut_size count x.command disk) h hx refl
    (λ k. absurd (cc))

-- its operations are at an end
abbrev pub IsAtEnd : ℕ → Command → Progress → Type 0
IsAtEnd n c p =
    ((offset : ℕ) × (p.difference ≡ Some offset)) ⊎ ((p.difference ≡ None) × (length (plan_in n c) ≤ p.made))

-- a command that comes to its end
pub ran_held : (laws : Laws) (n : ℕ) (disk : Disk) (now : ControlState) (blocks : List (List ℕ)) (tasks : List Task)
    (x : Task) (count done : ℕ) (got : List ℕ) → Rules n disk now tasks → Holds n disk blocks tasks → Has tasks x →
    is_active x.stage ≡ true → Running n disk blocks x.command done got →
    IsAtEnd n x.command (then' n blocks x.command count done got) →
    Holds n (execute disk x.command).disk (then' n blocks x.command count done got).cells.blocks
    (with_task (at_stage Over x) tasks)
    × (reply_moved now (then' n blocks x.command count done got).difference
    (then' n blocks x.command count done got).cells.got ≡ (execute disk x.command).reply)
ran_held laws n disk now blocks tasks x count done got rules h hx a run end =
    let c : Command = x.command in
    let p : Progress = then' n blocks c count done got in
    let q : Progress = performed c.out (plan_in n c) (start disk.blocks) in
    let like : Like (Uses n c) p q = ⊎_elim
    (λ (e : (offset : ℕ) × (p.difference ≡ Some offset)). seen_difference n disk blocks c count done got e.0 run e.1)
    (λ (e : (p.difference ≡ None) × (length (plan_in n c) ≤ p.made)). seen_whole n disk blocks c count done got run e.0 e.1) end in
    let ok = rules.allowed x hx a in
    let ex : execute disk c ≡ operated disk c (plan_in n c) = laws.whole n disk c rules.sized ok.0 ok.1 in
    let bs : (execute disk c).disk.blocks ≡ q.cells.blocks = ap (λ (a : Execution). a.disk.blocks) ex in (
      moves_to n disk (execute disk c).disk blocks p.cells.blocks tasks x Over (plan_in n c) h rules.single hx (record {
        size = then_size n blocks c count done got;
        disk_size = ap length bs ∙ perform_size c.out (plan_in n c) (start disk.blocks);
        left = λ l u. then_elsewhere n blocks c count done got l u;
        disk_left = λ l u. ap (λ b. cell b l) bs ∙ perform_elsewhere c.out (plan_in n c) (start disk.blocks) l u;
        apart = λ y hy ne b. h.apart x y hx hy (λ e. ne (sym e)) a b;
        running = tt;
        used = λ k l u. like.blocks.at l u ∙ ap (λ b. cell b l) (sym bs);
        own = λ k b l u. unused_put l (plan_in n c) u;
        whole = λ k. absurd (cc);
      }),
      ap (λ k. reply_moved k p.difference p.cells.got) rules.control ∙ ap
          (λ o. reply_moved disk.control o p.cells.got) like.difference ∙ ap
          (λ g. reply_moved disk.control q.difference g) like.got ∙ sym (ap (λ (a : Execution). a.reply) ex),
    )

-- the control after it is as it was
pub ran_rules : (laws : Laws) (n : ℕ) (disk : Disk) (now : ControlState) (tasks : List Task) (x : Task) →
    Rules n disk now tasks → Has tasks x → is_active x.stage ≡ true →
    Rules n (execute disk x.command).disk now (with_task (at_stage Over x) tasks)
ran_rules laws n disk now tasks x rules hx a =
    let ok = rules.allowed x hx a in
    let ex = laws.whole n disk x.command rules.sized ok.0 ok.1 in
    rules_stay n disk (execute disk x.command).disk now tasks x Over (laws.sizes disk x.command) rules hx
    (ap (λ (a : Execution). a.disk.control) ex) (λ k. absurd (cc))

-- a command that is refused, or makes no operation: whatever the blocks
pub once_same : (laws : Laws) (n : ℕ) (disk : Disk) (now : ControlState) (blocks : List (List ℕ)) (c : Command) →
    length disk.blocks ≡ n → length blocks ≡ n → now ≡ disk.control → IsOnce (refusal_of now n c) (plan_in n c) →
    Same disk now blocks c
once_same laws n disk now blocks c sized size e is_once = laws.once n disk now blocks c sized size e is_once

waits : (stage : Stage) → is_waiting stage ≡ true → is_active stage ≡ false
waits Waiting k = refl
waits (Here d g) k = absurd (cc)
waits Granted k = absurd (cc)
waits (There d g) k = absurd (cc)
waits Over k = refl

begun : (stage : Stage) → is_active stage ≡ true → has_begun stage ≡ true
begun Waiting k = absurd (cc)
begun (Here d g) k = refl
begun Granted k = refl
begun (There d g) k = refl
begun Over k = refl

-- what began doesn't conflict with a command that is ready
pub ready_begun : (laws : Laws) (n : ℕ) (unrestricted : Bool) (tasks : List Task) (x y : Task) → IsSingle tasks →
    IsReady n unrestricted x tasks → Has tasks y → (y.no ≡ x.no → ⊥) → has_begun y.stage ≡ true →
    conflicts unrestricted (held_of n y).held (held_of n x).held ≡ false
ready_begun laws n unrestricted tasks x y single ready hy ne began =
    let f = free_of n unrestricted true x tasks y ready hy ne (λ z hz k. single z y hz hy k) in
    undemanded laws unrestricted f.0 (held_of n y).held (held_of n x).held f.1 began

pub ready_free : (laws : Laws) (n : ℕ) (unrestricted : Bool) (tasks : List Task) (x y : Task) → IsSingle tasks →
    IsReady n unrestricted x tasks → Has tasks y → (y.no ≡ x.no → ⊥) → is_active y.stage ≡ true →
    conflicts unrestricted (held_of n y).held (held_of n x).held ≡ false
ready_free laws n unrestricted tasks x y single ready hy ne b =
    ready_begun laws n unrestricted tasks x y single ready hy ne (begun y.stage b)

-- where reordering is restricted it goes apart from what is active
pub begins_apart : (laws : Laws) (n : ℕ) (tasks : List Task) (x : Task) → IsSingle tasks → IsReady n false x tasks →
    (y : Task) → Has tasks y → (y.no ≡ x.no → ⊥) → is_active y.stage ≡ true →
    Apart (plan_in n x.command) (plan_in n y.command)
begins_apart laws n tasks x single ready y hy ne b =
    turned (plan_in n y.command) (plan_in n x.command)
    (laws.apart n y.command x.command (has_begun y.stage) (has_begun x.stage)
    (ready_free laws n false tasks x y single ready hy ne b))

-- nothing that is still in the task set had to go first, if what is ahead of it is as `first` says
pub ready_must : (laws : Laws) (n : ℕ) (unrestricted first : Bool) (tasks : List Task) (x y : Task) → IsSingle tasks →
    IsReady n unrestricted x tasks → x.stage ≡ Waiting → Has tasks y → (y.no ≡ x.no → ⊥) →
    (is_head x.command.attr ≡ false → first ≡ true → precedes y.no x.no tasks ≡ true) →
    (is_head x.command.attr ≡ false → is_head y.command.attr ≡ true → precedes y.no x.no tasks ≡ true) →
    goes_first n unrestricted first (has_begun y.stage) y.command x.command ≡ false
ready_must laws n unrestricted first tasks x y single ready st hy ne one two =
    let f = free_of n unrestricted true x tasks y ready hy ne (λ z hz k. single z y hz hy k) in
    undemanded_must laws n unrestricted f.0 first (has_begun y.stage) y.command x.command
    (subst (λ t. has_to_wait unrestricted f.0 (held_of n y).held (held_by n x.command t) ≡ false) (ap has_begun st) f.1)
    (λ h k. f.2 refl (one h k)) (λ h k. f.2 refl (two h k))

pub once_rules : (laws : Laws) (n : ℕ) (unrestricted : Bool) (disk : Disk) (now : ControlState) (blocks : List (List ℕ))
    (tasks : List Task) (x : Task) → Rules n disk now tasks → Has tasks x → IsReady n unrestricted x tasks →
    Same disk now blocks x.command →
    Rules n (execute disk x.command).disk (execute (record { control = now; blocks = blocks }) x.command).disk.control
    (with_task (at_stage Over x) tasks)
once_rules laws n unrestricted disk now blocks tasks x rules hx ready same =
    subst (λ k. Rules n (execute disk x.command).disk k (with_task (at_stage Over x) tasks)) same.control
    (rules_turn n disk (execute disk x.command).disk now tasks x Over
    (ap length same.disk_blocks ∙ rules.sized) rules hx
    (λ y hy ne b.
    let r = rules.allowed y hy b in
    laws.allowed unrestricted n y.command x.command (has_begun y.stage) (has_begun x.stage) disk
    (ready_free laws n unrestricted tasks x y rules.single ready hy ne b) r.1 r.0)
    (λ k. absurd (cc)))

pub once_held : (n : ℕ) (disk : Disk) (now : ControlState) (blocks : List (List ℕ)) (tasks : List Task) (x : Task) →
    Rules n disk now tasks → Holds n disk blocks tasks → Has tasks x → is_waiting x.stage ≡ true →
    Same disk now blocks x.command →
    Holds n (execute disk x.command).disk (execute (record { control = now; blocks = blocks }) x.command).disk.blocks
    (with_task (at_stage Over x) tasks)
once_held n disk now blocks tasks x rules h hx wx same =
    moves_to n disk (execute disk x.command).disk blocks
    (execute (record { control = now; blocks = blocks }) x.command).disk.blocks tasks x Over [] h rules.single hx
    (record {
      size = ap length same.blocks;
      disk_size = ap length same.disk_blocks;
      left = λ l u. ap (λ b. cell b l) same.blocks;
      disk_left = λ l u. ap (λ b. cell b l) same.disk_blocks;
      apart = λ y hy ne b. none_apart (plan_in n y.command);
      running = tt;
      used = λ k l u. absurd (cc);
      own = λ k b l u. absurd (both_ways (is_active x.stage) (waits x.stage wx) b);
      whole = λ k. absurd (cc);
    })

-- Begins

-- the first stage, at A or granted to B
abbrev pub first_stage : Bool → Stage
first_stage true = Granted
first_stage false = Here 0 []

first_active : (t : Bool) → is_active (first_stage t) ≡ true
first_active true = refl
first_active false = refl

pub begins_rules : (n : ℕ) (disk : Disk) (now : ControlState) (tasks : List Task) (x : Task) (t : Bool) →
    Rules n disk now tasks → Has tasks x → refusal_of now n x.command ≡ None →
    has_operations (plan_in n x.command) ≡ true → Rules n disk now (with_task (at_stage (first_stage t) x) tasks)
begins_rules n disk now tasks x t h hx allowed moves =
    rules_stay n disk disk now tasks x (first_stage t) refl h hx refl
    (λ a. (ap (λ k. refusal_of k n x.command) (sym h.control) ∙ allowed, moves))

pub begins_held : (laws : Laws) (n : ℕ) (disk : Disk) (blocks : List (List ℕ)) (tasks : List Task) (x : Task)
    (t : Bool) → Holds n disk blocks tasks → IsSingle tasks → Has tasks x → x.stage ≡ Waiting →
    IsReady n false x tasks → Holds n disk blocks (with_task (at_stage (first_stage t) x) tasks)
begins_held laws n disk blocks tasks x t h single hx st ready =
    moves_to n disk disk blocks blocks tasks x (first_stage t) (plan_in n x.command) h single hx (record {
      size = refl;
      disk_size = refl;
      left = λ l u. refl;
      disk_left = λ l u. refl;
      apart = begins_apart laws n tasks x single ready;
      running = first t;
      used = λ k. absurd (both_ways _ k (first_active t));
      own = λ k. absurd (both_ways _ k (first_active t));
      whole = λ k. refl;
    })
  where
    -- what has begun is another command
    other : (y : Task) → Has tasks y → is_active y.stage ≡ true → y.no ≡ x.no → ⊥
    other y hy b k =
        both_ways (is_active y.stage) (ap (λ (z : Task). is_active z.stage) (single y x hy hx k) ∙ ap is_active st) b

    run : Running n disk blocks x.command 0 []
    run = record {
      before = [];
      rest = plan_in n x.command;
      parts = refl;
      seen = record {
        made = refl;
        got = refl;
        difference = refl;
        blocks = record {
          size = h.size;
          at = λ l u. h.outside l
              (λ y hy b. not_put (plan_in n y.command) (plan_in n x.command) l
              (turned _ _ (begins_apart laws n tasks x single ready y hy (other y hy b) b)) u);
        };
      };
    }

    first : (t : Bool) → IsRunning n disk blocks x.command (first_stage t)
    first true = run
    first false = run

-- a grant comes to B
pub granted_rules : (n : ℕ) (disk : Disk) (now : ControlState) (tasks : List Task) (x : Task) → Rules n disk now tasks →
    Has tasks x → x.stage ≡ Granted → Rules n disk now (with_task (at_stage (There 0 []) x) tasks)
granted_rules n disk now tasks x h hx st =
    rules_stay n disk disk now tasks x (There 0 []) refl h hx refl (λ a. h.allowed x hx (ap is_active st))

pub granted_held : (n : ℕ) (disk : Disk) (blocks : List (List ℕ)) (tasks : List Task) (x : Task) →
    Holds n disk blocks tasks → IsSingle tasks → Has tasks x → x.stage ≡ Granted →
    Holds n disk blocks (with_task (at_stage (There 0 []) x) tasks)
granted_held n disk blocks tasks x h single hx st =
    moves_to n disk disk blocks blocks tasks x (There 0 []) (plan_in n x.command) h single hx (record {
      size = refl;
      disk_size = refl;
      left = λ l u. refl;
      disk_left = λ l u. refl;
      apart = λ y hy ne b. h.apart x y hx hy (λ e. ne (sym e)) (ap is_active st) b;
      running = subst (IsRunning n disk blocks x.command) st (h.running x hx);
      used = λ k. absurd (cc);
      own = λ k. absurd (cc);
      whole = λ k. refl;
    })

-- Moves

-- a command that has begun, at A or at B
abbrev pub IsAt : Stage → ℕ → List ℕ → Type 0
IsAt stage done got = (stage ≡ Here done got) ⊎ (stage ≡ There done got)

pub at_active : (stage : Stage) (done : ℕ) (got : List ℕ) → IsAt stage done got → is_active stage ≡ true
at_active stage done got (inl e) = ap is_active e
at_active stage done got (inr e) = ap is_active e

pub at_done : (stage : Stage) (done : ℕ) (got : List ℕ) → IsAt stage done got → done_at stage ≡ done
at_done stage done got (inl e) = ap done_at e
at_done stage done got (inr e) = ap done_at e

pub at_further : (stage : Stage) (done : ℕ) (got : List ℕ) (done' : ℕ) (got' : List ℕ) → IsAt stage done got →
    IsAt (further stage done' got') done' got'
at_further stage done got done' got' (inl e) = inl (ap (λ z. further z done' got') e)
at_further stage done got done' got' (inr e) = inr (ap (λ z. further z done' got') e)

pub running_in : (n : ℕ) (disk : Disk) (blocks : List (List ℕ)) (c : Command) (stage : Stage) (done : ℕ)
    (got : List ℕ) → IsAt stage done got → IsRunning n disk blocks c stage → Running n disk blocks c done got
running_in n disk blocks c stage done got (inl e) h = subst (IsRunning n disk blocks c) e h
running_in n disk blocks c stage done got (inr e) h = subst (IsRunning n disk blocks c) e h

pub in_running : (n : ℕ) (disk : Disk) (blocks : List (List ℕ)) (c : Command) (stage : Stage) (done : ℕ)
    (got : List ℕ) → IsAt stage done got → Running n disk blocks c done got → IsRunning n disk blocks c stage
in_running n disk blocks c stage done got (inl e) h = subst (IsRunning n disk blocks c) (sym e) h
in_running n disk blocks c stage done got (inr e) h = subst (IsRunning n disk blocks c) (sym e) h

pub moved_rules : (n : ℕ) (disk : Disk) (now : ControlState) (tasks : List Task) (x : Task) (stage : Stage) →
    Rules n disk now tasks → Has tasks x → is_active x.stage ≡ true →
    Rules n disk now (with_task (at_stage stage x) tasks)
moved_rules n disk now tasks x stage h hx a =
    rules_stay n disk disk now tasks x stage refl h hx refl (λ k. h.allowed x hx a)

-- a command made operations, and found no difference
pub moved_held : (n : ℕ) (disk : Disk) (blocks : List (List ℕ)) (tasks : List Task) (x : Task) (count done : ℕ)
    (got : List ℕ) → Holds n disk blocks tasks → IsSingle tasks → Has tasks x → IsAt x.stage done got →
    (then' n blocks x.command count done got).difference ≡ None →
    Holds n disk (then' n blocks x.command count done got).cells.blocks
    (with_task (at_stage (further x.stage (then' n blocks x.command count done got).made (then' n blocks x.command count done got).cells.got) x) tasks)
moved_held n disk blocks tasks x count done got h single hx at e =
    let p : Progress = then' n blocks x.command count done got in
    let a : is_active x.stage ≡ true = at_active x.stage done got at in
    let at' : IsAt (further x.stage p.made p.cells.got) p.made p.cells.got =
    at_further x.stage done got p.made p.cells.got at in
    let a' : is_active (further x.stage p.made p.cells.got) ≡ true = at_active _ p.made p.cells.got at' in
    moves_to n disk disk blocks p.cells.blocks tasks x (further x.stage p.made p.cells.got)
    (plan_in n x.command) h single hx (record {
      size = then_size n blocks x.command count done got;
      disk_size = refl;
      left = λ l u. then_elsewhere n blocks x.command count done got l u;
      disk_left = λ l u. refl;
      apart = λ y hy ne b. h.apart x y hx hy (λ k. ne (sym k)) a b;
      running =
          in_running n disk p.cells.blocks x.command (further x.stage p.made p.cells.got) p.made p.cells.got at'
          (runs_on n disk blocks x.command count done got
          (running_in n disk blocks x.command x.stage done got at (h.running x hx)) e);
      used = λ k. absurd (both_ways _ k a');
      own = λ k. absurd (both_ways _ k a');
      whole = λ k. refl;
    })

-- how far a command comes by at most so many operations, counted from these on, and from its first on
abbrev pub comes_on : State → Task → ℕ → ℕ → List ℕ → Progress
comes_on s x count done got =
    performed x.command.out (take count (drop done (plan_in (length s.blocks) x.command)))
    (record { blocks = s.blocks; got = got })

abbrev pub comes_to : State → Task → ℕ → ℕ → List ℕ → Progress
comes_to s x count done got = later done (comes_on s x count done got)

-- the state in which a command came so far
abbrev pub moved_state : State → Task → Progress → State
moved_state s x p = record s {
  tasks = with_task (at_stage (further x.stage p.made p.cells.got) x) s.tasks;
  blocks = p.cells.blocks;
}

-- it is the one after an event that counts the operations that were made
pub moved_is : (x : Task) (count done : ℕ) (got : List ℕ) (s : State) →
    moved_from x (comes_on s x count done got).made done got s ≡ moved_state s x (comes_to s x count done got)
moved_is x count done got s =
    let ops : List BlockOp = drop done (plan_in (length s.blocks) x.command) in
    let here : Cells = record { blocks = s.blocks; got = got } in
    let made : ℕ = done + (comes_on s x count done got).made in
    ap (λ (cells : Cells). moved_state s x (record { made = made; difference = None; cells = cells }))
    (sym (made_all x.command.out count ops here))
